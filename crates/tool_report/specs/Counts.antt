-- How many calls of each callback there were.
use Rattle.std.specs.Prelude.{ℕ, ◌==◌, List, length, filter, map}
use Rattle.omp_codes.specs.declared.callbacks.TheConstants.{PROFILE}
use Rattle.ompt_calls.specs.declared.event.EventRecord.{EventRecord}
use Rattle.ompt_calls.specs.Number.{number_of}

-- how many of these are calls of the callback with this number
abbrev pub count_of : ℕ → List EventRecord → ℕ
count_of number events = length (filter (λ (event : EventRecord). number_of event.call == number) events)

-- the same for each callback of the profile, by rising numbers
abbrev pub counts_of : List EventRecord → List ℕ
counts_of events = map (λ number. count_of number events) PROFILE
