-- What only stands next, and only behind the event that leads to it: the end of a forked region, a barrier or taskwait that has begun, and a lock or
-- critical that was asked for.
use Rattle.std.specs.Prelude.{ℕ, List, [], ◌∷◌, Option, Some, None}
use Rattle.c_model.specs.declared.point.MutexKind.{MutexKind}
use Rattle.c_model.specs.declared.point.MutexKind.TheVariants as mutex
use Rattle.c_model.specs.declared.point.Point.{Point}
use Rattle.c_model.specs.declared.point.Point.TheVariants.{MutexAcquire, MutexAcquired, ParallelBegin, ParallelEnd, Sync as SyncPoint}
use Rattle.c_model.specs.declared.point.SyncKind.{SyncKind}
use Rattle.c_model.specs.declared.point.SyncStage.{SyncStage}
use Rattle.c_model.specs.declared.point.SyncStage.TheVariants as stage
use Rattle.c_model.specs.Task.{Item}
use Rattle.c_model.specs.Task.Item.{Forked, Sync, Acquire, TestLock}

-- a region was forked, an event of a barrier or taskwait has occurred, a lock or critical with this wait identifier was asked for
pub data Link : Type 0 where
  Forking : Link
  Syncing : SyncKind → SyncStage → Link
  Asking : MutexKind → (wait_id : ℕ) → Link

-- before each event of a barrier or taskwait but the first, the one before it has occurred
abbrev pub link_before : SyncKind → SyncStage → Option Link
link_before kind stage.RegionBegin = None
link_before kind stage.WaitBegin = Some (Syncing kind stage.RegionBegin)
link_before kind stage.WaitEnd = Some (Syncing kind stage.WaitBegin)
link_before kind stage.RegionEnd = Some (Syncing kind stage.WaitEnd)

-- behind each but the last another one follows
abbrev pub link_behind : SyncKind → SyncStage → Option Link
link_behind kind stage.RegionEnd = None
link_behind kind other = Some (Syncing kind other)

-- behind what an item stands, and what stands next
abbrev pub link_item : Item → Option Link
link_item (Forked construct) = Some Forking
link_item (Sync tree kind stage) = link_before kind stage
link_item (Acquire tree kind id) = Some (Asking kind id)
link_item (TestLock tree id to) = Some (Asking mutex.TestLock id)
link_item other = None

abbrev pub link_next : List Item → Option Link
link_next [] = None
link_next (item ∷ items) = link_item item

-- behind what an event occurs, and what it leads to
abbrev pub link_of : Point → Option Link
link_of (ParallelEnd codeptr) = Some Forking
link_of (SyncPoint codeptr kind stage) = link_before kind stage
link_of (MutexAcquired codeptr id kind) = Some (Asking kind id)
link_of other = None

abbrev pub link_made : Point → Option Link
link_made (ParallelBegin codeptr requested) = Some Forking
link_made (SyncPoint codeptr kind stage) = link_behind kind stage
link_made (MutexAcquire codeptr id kind to) = Some (Asking kind id)
link_made other = None
