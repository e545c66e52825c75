-- The tree of the tasks that events make, the newest event first. Task 1 is there from the start.
use Rattle.std.specs.Prelude.{ℕ, ◌+◌, ◌-◌, ◌==◌, ◌&&◌, Bool, false, not, List, [], ◌∷◌, filter, Option, Some, None, if◌then◌else◌}
use Rattle.std.specs.List.{range_with_len}
use Rattle.omp_codes.specs.declared.endpoints.TheConstants.{BEGIN}
use Rattle.omp_codes.specs.declared.task_flags.TheConstants.{INITIAL}
use Rattle.ompt_calls.specs.declared.call.Call.{Call}
use Rattle.ompt_calls.specs.declared.call.Call.TheVariants.{ImplicitTask, ParallelBegin, TaskCreate}
use Rattle.ompt_calls.specs.declared.event.EventRecord.{EventRecord}
use Rattle.trace_check.specs.Before.{greatest_task}
use Rattle.tool_tasks.specs.declared.forest.TaskNode.{TaskNode}
use Rattle.tool_tasks.specs.declared.making.Making.{Making}
use Rattle.tool_tasks.specs.declared.making.Making.TheVariants.{Region, Implicit, Explicit, Nothing}
use Rattle.tool_tasks.specs.Charge.{charges_of}

-- A parallel_begin makes its region, with its encountering task. The begin of an implicit task that isn't the initial one makes that task, and a
-- creation the created one.
abbrev pub making_by : Call → Making
making_by (ParallelBegin task frame region requested flags codeptr) = Region region.identity task.identity
making_by (ImplicitTask endpoint region task actual index flags) =
    if (endpoint == BEGIN) && not (flags == INITIAL) then Implicit task.identity region.identity flags else Nothing
making_by (TaskCreate task frame fresh flags has_dependences codeptr) = Explicit fresh.identity task.identity flags
making_by other = Nothing

-- the first of two that there is
abbrev pub or_else : {A : Type 0} → Option A → Option A → Option A
or_else None rest = rest
or_else (Some found) rest = Some found

abbrev pub or_zero : Option ℕ → ℕ
or_zero None = 0
or_zero (Some n) = n

-- the encountering task of a region
abbrev pub encounters : ℕ → Making → Option ℕ
encounters r (Region region task) = if region == r then Some task else None
encounters r other = None

abbrev pub encountering_task : ℕ → List EventRecord → Option ℕ
encountering_task r [] = None
encountering_task r (event ∷ past) = or_else (encounters r (making_by event.call)) (encountering_task r past)

-- where a task comes from: its parent, and the flags with which it was made
pub record Origin : Type 0 where
  pub parent : ℕ
  pub flags : ℕ

-- the parent of an implicit task is the encountering task of its region, and that of an explicit task its creator
abbrev pub originates : ℕ → List EventRecord → Making → Option Origin
originates k past (Implicit task region flags) =
    if task == k then Some (record { parent = or_zero (encountering_task region past); flags = flags }) else None
originates k past (Explicit task creator flags) = if task == k then Some (record { parent = creator; flags = flags }) else None
originates k past other = None

-- the initial task has no parent, and the flags of initial tasks
abbrev pub origin_of : ℕ → List EventRecord → Option Origin
origin_of k [] = if k == 1 then Some (record { parent = 0; flags = INITIAL }) else None
origin_of k (event ∷ past) = or_else (originates k past (making_by event.call)) (origin_of k past)

-- ---- children, in the order of their identities

abbrev pub has_parent : ℕ → Option Origin → Bool
has_parent parent None = false
has_parent parent (Some origin) = origin.parent == parent

-- the identities from this one on, up to the greatest
abbrev pub tasks_from : ℕ → List EventRecord → List ℕ
tasks_from k past = range_with_len k (greatest_task past + 1 - k)

abbrev pub children_from : ℕ → ℕ → List EventRecord → List ℕ
children_from k parent past = filter (λ (child : ℕ). has_parent parent (origin_of child past)) (tasks_from k past)

abbrev pub children_of : ℕ → List EventRecord → List ℕ
children_of parent past = children_from 1 parent past

-- the first one, or 0
abbrev pub first_or_zero : List ℕ → ℕ
first_or_zero [] = 0
first_or_zero (first ∷ rest) = first

-- a task's next sibling: the first child of its parent that comes after it. The initial task has no parent, and none
abbrev pub sibling_after : ℕ → ℕ → List EventRecord → ℕ
sibling_after k parent past = if parent == 0 then 0 else first_or_zero (children_from (k + 1) parent past)

-- ---- a task with its links

abbrev pub node_from : ℕ → List EventRecord → Option Origin → Option TaskNode
node_from k past None = None
node_from k past (Some origin) = Some (record {
  identity = k;
  flags = origin.flags;
  events = charges_of k past;
  parent = origin.parent;
  first_child = first_or_zero (children_of k past);
  next_sibling = sibling_after k origin.parent past;
})

abbrev pub node_of : ℕ → List EventRecord → Option TaskNode
node_of k past = node_from k past (origin_of k past)
