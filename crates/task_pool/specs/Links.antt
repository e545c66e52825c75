-- What the links of the pool's nodes spell: the ready order, and for each region its part of it. An order is a ring
-- through 0, which is no task: what comes after 0 is the first of the order, and what comes before it the last.
use Rattle.std.specs.Prelude.{◌≡◌, ℕ, zero, suc, ◌+◌, ◌-◌, slice_index_or, ◌<◌, ◌≤◌, ◌==◌, Bool, true, false, not, ◌&&◌, ◌||◌, if◌then◌else◌, List, [], ◌∷◌, length, map, filter}
use Rattle.task_pool.specs.declared.task.Task.{Task}
use Rattle.task_pool.specs.declared.node.Node.{Node}
use Rattle.task_pool.specs.declared.node.RegionTasks.{RegionTasks}
use Rattle.task_pool.specs.declared.task.TheConstants.{TASK_LIMIT}
use Rattle.task_pool.specs.Tasks.{task_at, is_ready, open_children, unfinished}
use Rattle.task_pool.specs.Allowed.{ParentsComeFirst}
use Rattle.task_pool.specs.Chain.{ChainView, no_node, no_region}
use Rattle.task_pool.specs.View.{PoolView}

-- the tasks, what is counted for each task and each region, and for each task, or 0, the one after it and the one
-- before it, in the ready order and in that of each region
pub record Rings : Type 0 where
  pub tasks : List Task
  pub regions : ℕ
  pub room : ℕ
  pub children : ℕ → ℕ
  pub unfinished : ℕ → ℕ
  pub next : ℕ → ℕ
  pub previous : ℕ → ℕ
  pub next_in : ℕ → ℕ → ℕ
  pub previous_in : ℕ → ℕ → ℕ

-- what each node has, and at 0 an end
abbrev pub of_node : (Node → ℕ) → ℕ → List Node → ℕ → ℕ
of_node part ending nodes task = if task == 0 then ending else part (slice_index_or nodes (task - 1) no_node)

abbrev pub of_region : (RegionTasks → ℕ) → List RegionTasks → ℕ → ℕ
of_region part regions region = part (slice_index_or regions region no_region)

abbrev pub task_of : Node → Task
task_of node = node.task

abbrev pub children_part : Node → ℕ
children_part node = node.open_children

abbrev pub next_part : Node → ℕ
next_part node = node.in_order.next

abbrev pub previous_part : Node → ℕ
previous_part node = node.in_order.previous

abbrev pub next_in_part : Node → ℕ
next_in_part node = node.in_region.next

abbrev pub previous_in_part : Node → ℕ
previous_in_part node = node.in_region.previous

abbrev pub first_part : RegionTasks → ℕ
first_part region = region.first_ready

abbrev pub last_part : RegionTasks → ℕ
last_part region = region.last_ready

abbrev pub unfinished_part : RegionTasks → ℕ
unfinished_part region = region.unfinished

abbrev pub tasks_of : ChainView → List Task
tasks_of C = map task_of C.nodes

abbrev pub rings_of : ChainView → Rings
rings_of C = record {
  tasks = tasks_of C;
  regions = length C.regions;
  room = C.room;
  children = of_node children_part 0 C.nodes;
  unfinished = of_region unfinished_part C.regions;
  next = of_node next_part C.first C.nodes;
  previous = of_node previous_part C.last C.nodes;
  next_in = λ region. of_node next_in_part (of_region first_part C.regions region) C.nodes;
  previous_in = λ region. of_node previous_in_part (of_region last_part C.regions region) C.nodes;
}

-- one task has another neighbour
unfoldable pub put : (ℕ → ℕ) → ℕ → ℕ → ℕ → ℕ
put link at other task = if task == at then other else link task

-- the same for the order of a region. 0 stands in the order of each region for itself
unfoldable pub put_in : ℕ → (ℕ → ℕ → ℕ) → ℕ → ℕ → ℕ → ℕ → ℕ
put_in region links at other of task =
    if task == at && (not (at == 0) || of == region) then other else links of task

abbrev pub region_in : List Task → ℕ → ℕ
region_in tasks task = (task_at tasks task).region

-- the task comes after the last one of the order, and after the last ready one of its region
abbrev pub with_task_last : Rings → ℕ → Rings
with_task_last R task =
    let region = region_in R.tasks task in
    let last = R.previous 0 in
    let last_in = R.previous_in region 0 in
    record R {
      next = put (put R.next task 0) last task;
      previous = put (put R.previous task last) 0 task;
      next_in = put_in region (put_in region R.next_in task 0) last_in task;
      previous_in = put_in region (put_in region R.previous_in task last_in) 0 task;
    }

-- the neighbours of this one become neighbours of one another
abbrev pub with_task_out : Rings → ℕ → Rings
with_task_out R task =
    let region = region_in R.tasks task in
    let before = R.previous task in
    let after = R.next task in
    let before_in = R.previous_in region task in
    let after_in = R.next_in region task in
    record R {
      next = put R.next before after;
      previous = put R.previous after before;
      next_in = put_in region R.next_in before_in after_in;
      previous_in = put_in region R.previous_in after_in before_in;
    }

-- from this identity on the links lead to at most so many others, and 0 ends them
unfoldable pub follow : (ℕ → ℕ) → ℕ → ℕ → List ℕ
follow link zero from = []
follow link (suc further) from = if from == 0 then [] else from ∷ follow link further (link from)

-- from the one before it on the links lead along the list and then to 0, forwards and backwards
unfoldable pub IsRing : (ℕ → ℕ) → (ℕ → ℕ) → ℕ → List ℕ → Type 0
IsRing next previous before [] = (next before ≡ 0) × (previous 0 ≡ before)
IsRing next previous before (task ∷ tasks) =
    (next before ≡ task) × (previous task ≡ before) × IsRing next previous task tasks

abbrev pub ready_of : Rings → List ℕ
ready_of R = follow R.next (length R.tasks) (R.next 0)

abbrev pub view_of_rings : Rings → PoolView
view_of_rings R = record { tasks = R.tasks; ready = ready_of R; regions = R.regions; room = R.room }

abbrev pub pool_view : ChainView → PoolView
pool_view C = view_of_rings (rings_of C)

-- the ready tasks of a region
abbrev pub is_of_region : List Task → ℕ → ℕ → Bool
is_of_region tasks region task = region_in tasks task == region

abbrev pub part_of : List Task → List ℕ → ℕ → List ℕ
part_of tasks ready region = filter (is_of_region tasks region) ready

abbrev pub one_if : Bool → ℕ
one_if true = 1
one_if false = 0

unfoldable pub times_in : List ℕ → ℕ → ℕ
times_in [] task = 0
times_in (other ∷ others) task = if other == task then times_in others task + 1 else times_in others task

-- the links spell this ready order of these tasks, and each ready task is in it once, and no other is
pub record SpellsOrder (R : Rings) (ready : List ℕ) : Type 0 where
  pub order : IsRing R.next R.previous 0 ready
  pub in_region : (region : ℕ) → IsRing (R.next_in region) (R.previous_in region) 0 (part_of R.tasks ready region)
  pub once : (task : ℕ) → times_in ready task ≡ one_if (is_ready (task_at R.tasks task).condition)

-- the counts are those of the list of tasks
pub record CountsTasks (R : Rings) : Type 0 where
  pub children : (task : ℕ) → R.children task ≡ open_children R.tasks task
  pub in_region : (region : ℕ) → R.unfinished region ≡ unfinished R.tasks region

-- parents come before their children, and each task has a region that has a place
pub record AreInOrder (tasks : List Task) (places : ℕ) : Type 0 where
  pub parents : ParentsComeFirst tasks
  pub regions : (task : ℕ) → 1 ≤ task → task ≤ length tasks → region_in tasks task < places
  pub few : length tasks ≤ TASK_LIMIT

pub record AreLinked (R : Rings) : Type 0 where
  pub order : SpellsOrder R (ready_of R)
  pub counts : CountsTasks R
  pub sound : AreInOrder R.tasks R.regions

abbrev pub IsLinked : ChainView → Type 0
IsLinked C = AreLinked (rings_of C)
