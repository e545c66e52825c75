-- How the lines of a report are laid out.
use Rattle.std.specs.Prelude.{ℕ, ◌+◌, ◌-◌, ◌==◌, max, replicate, List, [], ◌∷◌, ◌++◌, length, filter}
use Rattle.std.specs.List.{flat_map, range_with_len}
use Rattle.ompt_calls.specs.declared.event.EventRecord.{EventRecord}

-- a text at the left, and one at the right, of so many places. A longer one stays as it is
abbrev pub left_in : ℕ → List ℕ → List ℕ
left_in places text = text ++ replicate (places - length text) 32

abbrev pub right_in : ℕ → List ℕ → List ℕ
right_in places text = replicate (places - length text) 32 ++ text

-- one more than the greatest thread number of these
abbrev pub threads_in : List EventRecord → ℕ
threads_in [] = 0
threads_in (event ∷ rest) = max (event.thread + 1) (threads_in rest)

-- what is written of a thread with these events: nothing where there are none
abbrev pub where_some : (List EventRecord → List ℕ) → List EventRecord → List ℕ
where_some line [] = []
where_some line (event ∷ events) = line (event ∷ events)

-- a line for each thread with an event, by its number and its events, in the order of the numbers
abbrev pub by_thread : (ℕ → List EventRecord → List ℕ) → List EventRecord → List ℕ
by_thread line events =
    flat_map (λ (k : ℕ). where_some (line k) (filter (λ (event : EventRecord). event.thread == k) events)) (range_with_len 0 (threads_in events))
