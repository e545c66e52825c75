-- Of which item an event or a question is.
use Rattle.std.specs.Prelude.{ℕ, ◌≡◌, List, [], ◌∷◌}
use Rattle.c_syntax.specs.language.Tree.{Tree}
use Rattle.c_model.specs.declared.point.MutexKind.{MutexKind}
use Rattle.c_model.specs.declared.point.MutexKind.TheVariants as mutex
use Rattle.c_model.specs.declared.point.Point.{Point}
use Rattle.c_model.specs.declared.point.Point.TheVariants.{LockDestroy, LockInit, MaskedBegin, MaskedEnd, MutexAcquire, MutexAcquired, MutexReleased, ParallelBegin, ParallelEnd, Sync as SyncPoint, TaskCreate, WorkBegin, WorkEnd}
use Rattle.c_model.specs.declared.point.SyncStage.{SyncStage}
use Rattle.c_model.specs.declared.point.SyncStage.TheVariants as stage
use Rattle.c_model.specs.declared.question.Ask.{Ask}
use Rattle.c_model.specs.declared.question.Ask.TheVariants as ask
use Rattle.c_model.specs.AfterEvents.{tree_at_event}
use Rattle.c_model.specs.Task.{Item}
use Rattle.c_model.specs.Task.Item.{Start, Initialise, Forked, Inside, EndWork, EndMasked, Sync, Acquire, Release, NextChunk, NextSection, TestLock}

-- a barrier or taskwait directive begins with its first event
unfoldable pub IsFirstStage : SyncStage → Type 0
IsFirstStage stage.RegionBegin = Unit {0}
IsFirstStage other = ⊥

-- what a declarator is set to is no lock's but a test's
unfoldable pub IsOfTest : MutexKind → Type 0
IsOfTest mutex.TestLock = Unit {0}
IsOfTest other = ⊥

unfoldable pub IsOfItem : Point → Item → Type 0
IsOfItem (ParallelBegin codeptr requested) (Start tree) = Unit {0}
IsOfItem (ParallelEnd codeptr) (Forked construct) = Unit {0}
IsOfItem (TaskCreate codeptr undeferred) (Start tree) = Unit {0}
IsOfItem (WorkBegin codeptr work) (Start tree) = Unit {0}
IsOfItem (WorkBegin codeptr work) (Inside construct) = Unit {0}
IsOfItem (WorkEnd codeptr kind count) (EndWork construct ended whole names) = Unit {0}
IsOfItem (MaskedBegin codeptr) (Start tree) = Unit {0}
IsOfItem (MaskedEnd codeptr) (EndMasked construct) = Unit {0}
IsOfItem (SyncPoint codeptr kind stage) (Start tree) = IsFirstStage stage
IsOfItem (SyncPoint codeptr kind stage) (Sync tree of at) = Unit {0}
IsOfItem (MutexAcquire codeptr id kind to) (Start tree) = Unit {0}
IsOfItem (MutexAcquire codeptr id kind to) (Initialise tree entry) = IsOfTest kind
IsOfItem (MutexAcquired codeptr id kind) (Acquire tree of which) = Unit {0}
IsOfItem (MutexReleased codeptr id kind) (Start tree) = Unit {0}
IsOfItem (MutexReleased codeptr id kind) (Release tree which) = Unit {0}
IsOfItem (LockInit codeptr id) (Start tree) = Unit {0}
IsOfItem (LockDestroy codeptr id) (Start tree) = Unit {0}
IsOfItem point other = ⊥

-- the event is of what stands next
unfoldable pub IsOfNext : Point → List Item → Type 0
IsOfNext point [] = ⊥
IsOfNext point (item ∷ items) = IsOfItem point item

-- the tree at which an event stands is that of the item, where the item has one
abbrev pub IsTreeOf : Tree → Item → Type 0
IsTreeOf tree (Forked construct) = Unit {0}
IsTreeOf tree (EndMasked construct) = Unit {0}
IsTreeOf tree (Acquire at kind id) = Unit {0}
IsTreeOf tree (Release at id) = Unit {0}
IsTreeOf tree item = tree ≡ tree_at_event item

-- it is that of what stands next
unfoldable pub IsTreeOfNext : Tree → List Item → Type 0
IsTreeOfNext tree [] = ⊥
IsTreeOfNext tree (item ∷ items) = IsTreeOf tree item

-- what is asked in this construct or call, the item asks
unfoldable pub IsAskOf : Ask → Tree → Item → Type 0
IsAskOf ask.Chunk tree (NextChunk loop) = tree ≡ loop.construct
IsAskOf ask.Section tree (NextSection construct names) = tree ≡ construct
IsAskOf (ask.LockFree id) tree (TestLock call wait_id to) = (tree ≡ call) × (id ≡ wait_id)
IsAskOf ask tree other = ⊥

-- what stands next asks
unfoldable pub IsAskOfNext : Ask → Tree → List Item → Type 0
IsAskOfNext ask tree [] = ⊥
IsAskOfNext ask tree (item ∷ items) = IsAskOf ask tree item
