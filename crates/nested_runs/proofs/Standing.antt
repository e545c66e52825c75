-- Where a task's code stands, as far as more depends on it than its own next event: at the end of a region that it has forked, before a lock that it has
-- asked for, or within a barrier or taskwait.
use Rattle.std.specs.Prelude.{ℕ, ◌≡◌, ◌&&◌, not, Bool, true, false, List, [], ◌∷◌}
use Rattle.c_model.specs.declared.point.MutexKind.{MutexKind}
use Rattle.c_model.specs.declared.point.MutexKind.TheVariants as mutex
use Rattle.c_model.specs.declared.point.SyncKind.{SyncKind}
use Rattle.c_model.specs.declared.point.SyncKind.TheVariants as sync
use Rattle.c_model.specs.declared.point.SyncStage.{SyncStage}
use Rattle.c_model.specs.declared.point.SyncStage.TheVariants as stage
use Rattle.c_model.specs.Task.{Item, OpenCall, Task as Code}
use Rattle.c_model.specs.Task.Item.{Forked, Acquire, TestLock, Sync}
use Rattle.c_brackets.specs.Orderly.{has_calls, is_return, may_return}
use Rattle.omp_model.specs.State.{World, task_at}

-- an event of a barrier or taskwait behind the first one
abbrev pub has_begun : SyncStage → Bool
has_begun stage.RegionBegin = false
has_begun other = true

pub data Stand : Type 0 where
  -- at none of these
  Free : Stand
  -- a region that was forked ends next
  AtFork : Stand
  -- a lock or critical of this kind, with this wait identifier, was asked for
  AtMutex : MutexKind → ℕ → Stand
  -- this event of a barrier or taskwait that has begun comes next
  AtSync : SyncKind → SyncStage → Stand

abbrev pub stand_within : SyncKind → SyncStage → Stand
stand_within kind stage.RegionBegin = Free
stand_within kind stage.WaitBegin = AtSync kind stage.WaitBegin
stand_within kind stage.WaitEnd = AtSync kind stage.WaitEnd
stand_within kind stage.RegionEnd = AtSync kind stage.RegionEnd

abbrev pub stand_of_item : Item → Stand
stand_of_item (Forked construct) = AtFork
stand_of_item (Acquire tree kind id) = AtMutex kind id
stand_of_item (TestLock tree id to) = AtMutex mutex.TestLock id
stand_of_item (Sync tree kind at) = stand_within kind at
stand_of_item other = Free

abbrev pub stand_among : List Item → Stand
stand_among [] = Free
stand_among (item ∷ items) = stand_of_item item

abbrev pub stand_at : World → ℕ → Stand
stand_at W k = stand_among (task_at W k).code.todo

-- The course of a member's code. It is ahead while the barrier of its region stands last, and nothing before it returns; and behind from the barrier's
-- first event on, behind which nothing stands but the barrier's other events.
abbrev pub is_region_barrier : Item → Bool
is_region_barrier (Sync tree sync.Parallel at) = true
is_region_barrier other = false

abbrev pub ends_in_barrier : List Item → Bool
ends_in_barrier [] = false
ends_in_barrier (Sync tree sync.Parallel stage.RegionBegin ∷ []) = true
ends_in_barrier (item ∷ items) = not (may_return item) && (not (is_region_barrier item) && ends_in_barrier items)

abbrev pub has_no_barrier : List Item → Bool
has_no_barrier [] = true
has_no_barrier (item ∷ items) = not (is_region_barrier item) && has_no_barrier items

-- the value of this call is returned, in the function that was called first
abbrev pub is_returned_first : OpenCall → List OpenCall → Bool
is_returned_first call calls = is_return call.to && not (has_calls calls)

-- the barrier stands in the function that was called first, which doesn't return what a call gives
abbrev pub is_ahead : List Item → List OpenCall → Bool
is_ahead items [] = ends_in_barrier items
is_ahead items (call ∷ calls) = has_no_barrier items && (not (is_returned_first call calls) && is_ahead call.todo calls)

abbrev pub ends_behind : List Item → Bool
ends_behind [] = true
ends_behind (Sync tree sync.Parallel at ∷ []) = has_begun at
ends_behind items = false

abbrev pub is_behind : Code → Bool
is_behind code = ends_behind code.todo && not (has_calls code.calls)

-- the code of a member is ahead or behind
abbrev pub HasCourse : Code → Type 0
HasCourse code = is_behind code ≡ false → is_ahead code.todo code.calls ≡ true
