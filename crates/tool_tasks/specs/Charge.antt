-- Which task an event is charged to: the one that its thread runs, with the events before it, the newest first.
use Rattle.std.specs.Prelude.{ℕ, ◌+◌, ◌==◌, Bool, true, false, List, [], ◌∷◌, drop, is_some, Option, Some, None, if◌then◌else◌}
use Rattle.omp_codes.specs.declared.endpoints.TheConstants.{BEGIN, END}
use Rattle.omp_codes.specs.declared.task_statuses.TheConstants.{COMPLETE, SWITCH}
use Rattle.ompt_calls.specs.declared.call.Call.{Call}
use Rattle.ompt_calls.specs.declared.call.Call.TheVariants.{ImplicitTask, TaskSchedule}
use Rattle.ompt_calls.specs.declared.event.EventRecord.{EventRecord}
use Rattle.trace_check.specs.Before.{is_just, is_of}
use Rattle.tool_tasks.specs.declared.stack_step.StackStep.{StackStep}
use Rattle.tool_tasks.specs.declared.stack_step.StackStep.TheVariants.{Push, Pop, Stay}

-- The stack of tasks of a thread: the begin of an implicit or initial task and the switch to a task push it, and its end and its completion pop it.
abbrev pub stack_step : Call → StackStep
stack_step (ImplicitTask endpoint region task actual index flags) =
    if endpoint == BEGIN then Push task.identity else if endpoint == END then Pop else Stay
stack_step (TaskSchedule prior status next) = if status == SWITCH then Push next.identity else if status == COMPLETE then Pop else Stay
stack_step other = Stay

abbrev pub stack_after : StackStep → List ℕ → List ℕ
stack_after (Push task) tasks = task ∷ tasks
stack_after Pop tasks = drop 1 tasks
stack_after Stay tasks = tasks

-- the tasks on the stack of a thread, the innermost first
abbrev pub tasks_on : ℕ → List EventRecord → List ℕ
tasks_on t [] = []
tasks_on t (event ∷ past) = if is_of t event then stack_after (stack_step event.call) (tasks_on t past) else tasks_on t past

abbrev pub top_of : List ℕ → Option ℕ
top_of [] = None
top_of (task ∷ tasks) = Some task

-- what is charged is the task that is pushed, the one that is popped, or the one on top
abbrev pub charge_by : StackStep → List ℕ → Option ℕ
charge_by (Push task) tasks = Some task
charge_by Pop tasks = top_of tasks
charge_by Stay tasks = top_of tasks

abbrev pub charged_task : List EventRecord → EventRecord → Option ℕ
charged_task past event = charge_by (stack_step event.call) (tasks_on event.thread past)

-- how many events are charged to a task, and to any
abbrev pub one_if : Bool → ℕ
one_if true = 1
one_if false = 0

abbrev pub charges_of : ℕ → List EventRecord → ℕ
charges_of task [] = 0
charges_of task (event ∷ past) = charges_of task past + one_if (is_just task (charged_task past event))

abbrev pub work_of : List EventRecord → ℕ
work_of [] = 0
work_of (event ∷ past) = work_of past + one_if (is_some (charged_task past event))
