-- The report of the states of threads over the run.
use Rattle.std.specs.Prelude.{ℕ, ◌+◌, ◌-◌, ◌*◌, ◌/◌, ◌==◌, nat_le, max, List, [], ◌∷◌, ◌++◌, filter, map, if◌then◌else◌}
use Rattle.std.specs.Fmt.{decimal}
use Rattle.std.specs.List.{range_with_len}
use Rattle.ompt_calls.specs.declared.event.EventRecord.{EventRecord}
use Rattle.omp_codes.specs.declared.states.TheConstants.{WORK_SERIAL, WORK_PARALLEL, WAIT_BARRIER_IMPLICIT_PARALLEL, WAIT_BARRIER_IMPLICIT_WORKSHARE, WAIT_BARRIER_EXPLICIT, WAIT_TASKWAIT, WAIT_LOCK, WAIT_CRITICAL, IDLE, OVERHEAD}
use Rattle.tool_report.specs.Layout.{by_thread, right_in}

-- the letter of a state: s serial, p parallel, b at a barrier, w waiting for tasks, l for a lock, c for a critical, i idle, o overhead
abbrev pub letter_of : ℕ → ℕ
letter_of state =
    if state == WORK_SERIAL then 115 else if state == WORK_PARALLEL then 112
    else if state == WAIT_BARRIER_IMPLICIT_PARALLEL then 98 else if state == WAIT_BARRIER_IMPLICIT_WORKSHARE then 98 else if state == WAIT_BARRIER_EXPLICIT then 98
    else if state == WAIT_TASKWAIT then 119 else if state == WAIT_LOCK then 108 else if state == WAIT_CRITICAL then 99
    else if state == IDLE then 105 else if state == OVERHEAD then 111 else 63

-- the letter of the last of these events: a dot where there is none
abbrev pub letter_of_last : List EventRecord → ℕ
letter_of_last [] = 46
letter_of_last (event ∷ []) = letter_of event.state
letter_of_last (event ∷ next ∷ rest) = letter_of_last (next ∷ rest)

-- one more than the greatest position of these
abbrev pub span_of : List EventRecord → ℕ
span_of [] = 0
span_of (event ∷ rest) = max (event.seq + 1) (span_of rest)

-- the position at which a column ends, where so many columns share so many positions
abbrev pub column_end : ℕ → ℕ → ℕ → ℕ
column_end columns span column = ((column + 1) * span - 1) / columns

-- the letter of a column: the state after the thread's last event up to the column's end
abbrev pub column_letter : ℕ → ℕ → List EventRecord → ℕ → ℕ
column_letter columns span events column = letter_of_last (filter (λ (event : EventRecord). nat_le event.seq (column_end columns span column)) events)

-- a thread's line in a run of so many positions
abbrev pub state_line : ℕ → ℕ → ℕ → List EventRecord → List ℕ
state_line columns span thread events = right_in 2 (decimal thread) ++ 32 ∷ map (column_letter columns span events) (range_with_len 0 columns) ++ 10 ∷ []

-- a line for each thread with an event, over so many columns
abbrev pub timeline_of : ℕ → List EventRecord → List ℕ
timeline_of columns events = by_thread (state_line columns (span_of events)) events
