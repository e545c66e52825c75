-- What is counted of waits. This serves the contracts of private functions and the proofs.
use Rattle.std.specs.Prelude.{ℕ, ◌+◌, ◌-◌, ◌*◌, ◌==◌, ◌≡◌, Bool, true, false, List, [], ◌∷◌, ◌++◌, count_by, Option, Some, None, unwrap_or, if◌then◌else◌}
use Rattle.std.specs.BTreeMap.{BTreeMap, get}
use Rattle.std.specs.Fmt.{decimal}
use Rattle.std.specs.Ordering.{nat_cmp, ordering_then}
use Rattle.std.specs.declared.cmp.Ordering.{Ordering}
use Rattle.ompt_calls.specs.declared.event.EventRecord.{EventRecord}
use Rattle.ompt_calls.specs.Line.{place_text, spaced}
use Rattle.trace_view.specs.declared.wait_ends.WaitEnd.{WaitEnd}
use Rattle.trace_view.specs.declared.wait_ends.WaitKey.{WaitKey}
use Rattle.trace_view.specs.declared.wait_tallies.Positions.{Positions}
use Rattle.trace_view.specs.declared.wait_tallies.Tally.{Tally}
use Rattle.trace_view.specs.Waits.{cause_text, is_wait_of, key_of, positions_of, same_key}

-- the order of the keys
abbrev pub key_cmp : WaitKey → WaitKey → Ordering
key_cmp key other =
    ordering_then (nat_cmp key.place other.place) (ordering_then (nat_cmp key.cause other.cause) (nat_cmp key.thread other.thread))

-- ---- positions, and a tally of those of begins and of those of ends

abbrev pub no_positions : Positions
no_positions = record { count = 0; total = 0 }

abbrev pub one_position : Positions → ℕ → Positions
one_position positions seq = record { count = positions.count + 1; total = positions.total + seq }

abbrev pub no_waits : Tally
no_waits = record { begins = no_positions; ends = no_positions }

abbrev pub one_end : Tally → Bool → ℕ → Tally
one_end tally false seq = record { begins = one_position tally.begins seq; ends = tally.ends }
one_end tally true seq = record { begins = tally.begins; ends = one_position tally.ends seq }

-- with what an event of a thread, at this position, adds under the key
abbrev pub one_event : WaitKey → Tally → ℕ → ℕ → Option WaitEnd → Tally
one_event key tally thread seq None = tally
one_event key tally thread seq (Some wait) = if same_key (key_of thread wait) key then one_end tally wait.is_end seq else tally

-- what is counted of events under a key
abbrev pub positions_counted : WaitKey → Bool → List EventRecord → Positions
positions_counted key is_end events = record { count = count_by (is_wait_of key is_end) events; total = positions_of key is_end events }

abbrev pub tally_of : WaitKey → List EventRecord → Tally
tally_of key events = record { begins = positions_counted key false events; ends = positions_counted key true events }

-- ---- what is kept of it by key

abbrev pub tally_at : BTreeMap WaitKey Tally → WaitKey → Tally
tally_at tallies key = unwrap_or (get key_cmp tallies key) no_waits

-- the tallies are those of these events
abbrev pub HasTallies : BTreeMap WaitKey Tally → List EventRecord → Type 0
HasTallies tallies events = (key : WaitKey) → tally_at tallies key ≡ tally_of key events

-- ---- lines

abbrev pub open_of : Tally → ℕ
open_of tally = tally.begins.count - tally.ends.count

-- how long the waits took, where the last event has this position
abbrev pub waited_until : ℕ → Tally → ℕ
waited_until last tally = tally.ends.total + open_of tally * last - tally.begins.total

abbrev pub tally_line : ℕ → WaitKey → Tally → List ℕ
tally_line last key tally =
    spaced (place_text key.place ∷ cause_text key.cause ∷ decimal key.thread ∷ decimal tally.begins.count
    ∷ decimal (waited_until last tally) ∷ decimal (open_of tally) ∷ []) ++ 10 ∷ []

-- what is written of a key with its tally: nothing where no wait began
abbrev pub line_of : ℕ → WaitKey × Tally → List ℕ
line_of last entry = if entry.1.begins.count == 0 then [] else tally_line last entry.0 entry.1
