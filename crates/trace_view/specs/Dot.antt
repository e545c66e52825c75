-- The task tree of a nested trace for Graphviz, in the language DOT.
use Rattle.std.specs.Prelude.{ℕ, ◌==◌, ◌&&◌, ◌≡◌, Bool, true, false, List, [], ◌∷◌, ◌++◌, codes, length, reverse, Option, Some, None, if◌then◌else◌}
use Rattle.std.specs.List.{flat_map}
use Rattle.std.specs.Fmt.{decimal}
use Rattle.omp_codes.specs.declared.task_statuses.TheConstants.{SWITCH}
use Rattle.ompt_calls.specs.declared.call.Call.{Call}
use Rattle.ompt_calls.specs.declared.call.Call.TheVariants.{ParallelBegin, ParallelEnd, TaskCreate, TaskSchedule, ImplicitTask, SyncRegionWait, Work, Masked, SyncRegion, Dispatch}
use Rattle.ompt_calls.specs.declared.event.EventRecord.{EventRecord}
use Rattle.tool_tasks.specs.declared.forest.TaskNode.{TaskNode}
use Rattle.tool_tasks.specs.Charge.{work_of}
use Rattle.tool_tasks.specs.Span.{IsChain, IsSpan}
use Rattle.tool_tasks.specs.Text.{kind_text}
use Rattle.tool_tasks.specs.Tree.{node_of, tasks_from}
use Rattle.trace_format.specs.Validity.{is_among}

-- The task that a call names as the one whose event it is: the encountering task, the one that begins or ends, or the one to which a
-- thread goes (status 7). The calls of threads, locks and criticals name none.
abbrev pub named_task : Call → Option ℕ
named_task (ParallelBegin task frame region requested flags codeptr) = Some task.identity
named_task (ParallelEnd region task flags codeptr) = Some task.identity
named_task (TaskCreate task frame fresh flags has_dependences codeptr) = Some task.identity
named_task (TaskSchedule prior status next) = Some (if status == SWITCH then next.identity else prior.identity)
named_task (ImplicitTask endpoint region task actual index flags) = Some task.identity
named_task (SyncRegionWait kind endpoint region task codeptr) = Some task.identity
named_task (Work kind endpoint region task count codeptr) = Some task.identity
named_task (Masked endpoint region task codeptr) = Some task.identity
named_task (SyncRegion kind endpoint region task codeptr) = Some task.identity
named_task (Dispatch region task kind start iterations) = Some task.identity
named_task other = None

abbrev pub listed : Option ℕ → List ℕ
listed None = []
listed (Some task) = task ∷ []

-- the tasks that the events at these positions name
abbrev pub named_at : List ℕ → EventRecord → List ℕ
named_at chain event = if is_among chain event.seq then listed (named_task event.call) else []

abbrev pub crossed_tasks : List ℕ → List EventRecord → List ℕ
crossed_tasks chain events = flat_map (named_at chain) events

-- what the longest chain goes along is bold
abbrev pub stroke_text : Bool → List ℕ
stroke_text true = codes "bold"
stroke_text false = codes "solid"

-- the line of a task: its identity and its kind, and below them how many events are charged to it
abbrev pub box_line : Bool → TaskNode → List ℕ
box_line bold task =
    decimal task.identity ++ codes " [label=<" ++ decimal task.identity ++ codes " " ++ kind_text task.flags ++ codes "<BR/>work "
    ++ decimal task.events ++ codes ">, style=" ++ stroke_text bold ++ codes "];" ++ 10 ∷ []

-- the line from its parent to a task. The initial task has no parent, which is told as 0
abbrev pub edge_line : Bool → TaskNode → List ℕ
edge_line bold task =
    if task.parent == 0 then []
    else decimal task.parent ++ codes " -> " ++ decimal task.identity ++ codes " [style=" ++ stroke_text bold ++ codes "];" ++ 10 ∷ []

-- the lines of a task, where these tasks are bold. The line from its parent is bold where both are
abbrev pub task_lines : List ℕ → Option TaskNode → List ℕ
task_lines bold None = []
task_lines bold (Some task) =
    box_line (is_among bold task.identity) task ++ edge_line (is_among bold task.parent && is_among bold task.identity) task

-- the lines of all tasks, by their identities
abbrev pub lines_of_tasks : List ℕ → List EventRecord → List ℕ → List ℕ
lines_of_tasks bold past tasks = flat_map (λ (task : ℕ). task_lines bold (node_of task past)) tasks

-- how a picture begins
abbrev pub head_lines : ℕ → ℕ → List ℕ
head_lines work span =
    codes "digraph tasks {" ++ 10 ∷ codes "label=<work " ++ decimal work ++ codes ", span " ++ decimal span ++ codes ">;"
    ++ 10 ∷ codes "node [shape=box];" ++ 10 ∷ []

-- the picture of these events, the newest first, where these tasks are bold
abbrev pub picture_of : List EventRecord → List ℕ → ℕ → List ℕ
picture_of past bold span = head_lines (work_of past) span ++ lines_of_tasks bold past (tasks_from 1 past) ++ codes "}" ++ 10 ∷ []

-- The picture of these events, the oldest first, with a longest chain: bold are the tasks that its events name.
pub record IsDot (events : List EventRecord) (text : List ℕ) : Type 0 where
  pub chain : List ℕ
  pub is_chain : IsChain events chain
  pub longest : IsSpan events (length chain)
  pub text_is : text ≡ picture_of (reverse events) (crossed_tasks chain events) (length chain)
