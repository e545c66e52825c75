-- The report of how many calls there were.
use Rattle.std.specs.Prelude.{ℕ, List, [], ◌∷◌, ◌++◌, codes, length, map}
use Rattle.std.specs.Fmt.{decimal}
use Rattle.omp_codes.specs.Answers.{callback_name, profile}
use Rattle.ompt_calls.specs.declared.event.EventRecord.{EventRecord}
use Rattle.tool_report.specs.Counts.{counts_of}
use Rattle.tool_report.specs.Layout.{by_thread, left_in, right_in}

-- the names of the callbacks of the profile, by rising numbers
abbrev pub callback_names : List (List ℕ)
callback_names = map callback_name profile

-- a name, and a number of calls
abbrev pub count_line : List ℕ → ℕ → List ℕ
count_line name count = left_in 18 name ++ right_in 10 (decimal count) ++ 10 ∷ []

abbrev pub count_lines : List (List ℕ) → List ℕ → List ℕ
count_lines [] counts = []
count_lines (name ∷ names) [] = []
count_lines (name ∷ names) (count ∷ counts) = count_line name count ++ count_lines names counts

-- a thread, and the number of its calls
abbrev pub thread_line : ℕ → List EventRecord → List ℕ
thread_line thread events = codes "thread" ++ right_in 12 (decimal thread) ++ right_in 10 (decimal (length events)) ++ 10 ∷ []

-- the calls of each callback, of all, and of each thread that had any
abbrev pub profile_of : List EventRecord → List ℕ
profile_of events = count_lines callback_names (counts_of events) ++ count_line (codes "total") (length events) ++ by_thread thread_line events
