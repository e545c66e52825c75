-- What is written of the tasks of events: lines with three numbers, then a line for each task. The events stand with the newest first.
use Rattle.std.specs.Prelude.{ℕ, zero, suc, ◌≡◌, ◌==◌, List, [], ◌∷◌, ◌++◌, codes, filter, is_some, length, reverse, Option, Some, None, if◌then◌else◌}
use Rattle.std.specs.Fmt.{decimal}
use Rattle.std.specs.List.{flat_map}
use Rattle.omp_codes.specs.declared.task_flags.TheConstants.{IMPLICIT, INITIAL}
use Rattle.ompt_calls.specs.declared.event.EventRecord.{EventRecord}
use Rattle.ompt_calls.specs.Line.{spaced}
use Rattle.tool_tasks.specs.declared.forest.TaskNode.{TaskNode}
use Rattle.tool_tasks.specs.Charge.{work_of}
use Rattle.tool_tasks.specs.Span.{IsSpan}
use Rattle.tool_tasks.specs.Tree.{children_of, node_of, origin_of, tasks_from}

-- all tasks
abbrev pub tasks_of : List EventRecord → List ℕ
tasks_of past = filter (λ (task : ℕ). is_some (origin_of task past)) (tasks_from 1 past)

-- a task, then the trees of its children in their order, down to this depth
abbrev pub tree_order : List EventRecord → ℕ → ℕ → List ℕ
tree_order past zero task = []
tree_order past (suc depth) task = task ∷ flat_map (tree_order past depth) (children_of task past)

-- the tree of the initial task. It isn't deeper than there are tasks
abbrev pub tasks_in_order : List EventRecord → List ℕ
tasks_in_order past = tree_order past (length (tasks_of past)) 1

-- flags 1 are those of an initial task, and flags 2 those of an implicit one
abbrev pub kind_text : ℕ → List ℕ
kind_text flags = if flags == INITIAL then codes "initial" else if flags == IMPLICIT then codes "implicit" else codes "explicit"

-- the line of a task: its identity, its kind, its parent and how many events are charged to it
abbrev pub task_line : TaskNode → List ℕ
task_line task = spaced (decimal task.identity ∷ kind_text task.flags ∷ decimal task.parent ∷ decimal task.events ∷ []) ++ 10 ∷ []

abbrev pub line_of : Option TaskNode → List ℕ
line_of None = []
line_of (Some task) = task_line task

abbrev pub lines_of : List EventRecord → List ℕ → List ℕ
lines_of past tasks = flat_map (λ (task : ℕ). line_of (node_of task past)) tasks

-- the lines with how many tasks there are, the work and the span
abbrev pub number_line : List ℕ → ℕ → List ℕ
number_line name number = spaced (name ∷ decimal number ∷ []) ++ 10 ∷ []

abbrev pub number_lines : (tasks work span : ℕ) → List ℕ
number_lines tasks work span = number_line (codes "tasks") tasks ++ number_line (codes "work") work ++ number_line (codes "span") span

abbrev pub forest_text : List EventRecord → ℕ → List ℕ
forest_text past span = number_lines (length (tasks_of past)) (work_of past) span ++ lines_of past (tasks_in_order past)

-- the text of these events, the oldest first
pub record IsForestText (events : List EventRecord) (text : List ℕ) : Type 0 where
  pub span : ℕ
  pub is_span : IsSpan events span
  pub text_is : text ≡ forest_text (reverse events) span
