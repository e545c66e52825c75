-- The length of a longest chain to an event, by the keys that it takes. It serves the contracts of private functions and the proofs. The events
-- before stand with the newest first.
use Rattle.std.specs.Prelude.{ℕ, ◌+◌, ◌&&◌, Bool, max, List, [], ◌∷◌, is_some, Option, Some, None, if◌then◌else◌}
use Rattle.ompt_calls.specs.declared.event.EventRecord.{EventRecord}
use Rattle.tool_tasks.specs.declared.key.Key.{Key}
use Rattle.tool_tasks.specs.Charge.{charged_task}
use Rattle.tool_tasks.specs.Keys.{gives, has_key, takes}

-- the greatest number at some of these keys
abbrev pub most : (Key → ℕ) → List (Option Key) → ℕ
most number [] = 0
most number (None ∷ rest) = most number rest
most number (Some key ∷ rest) = max (number key) (most number rest)

abbrev pub is_charged : List EventRecord → EventRecord → Bool
is_charged past event = is_some (charged_task past event)

-- the longest chain to an event that gives this key
abbrev pub best : Key → List EventRecord → ℕ
best key [] = 0
best key (event ∷ past) =
    if is_charged past event && has_key key (gives past event) then max (best key past) (most (λ (taken : Key). best taken past) (takes past event) + 1)
    else best key past

-- the longest chain to an event
abbrev pub reach : List EventRecord → EventRecord → ℕ
reach past event = most (λ (taken : Key). best taken past) (takes past event) + 1

-- the longest chain of all
abbrev pub span_of : List EventRecord → ℕ
span_of [] = 0
span_of (event ∷ past) = if is_charged past event then max (span_of past) (reach past event) else span_of past
