-- What a task's code has open: told by what stands next, item by item, and by the calls that haven't ended.
use Rattle.std.specs.Prelude.{ℕ, Bool, true, false, List, [], ◌∷◌, ◌++◌, length}
use Rattle.c_model.specs.declared.point.SyncKind.{SyncKind}
use Rattle.c_model.specs.declared.point.SyncStage.{SyncStage}
use Rattle.c_model.specs.declared.point.SyncStage.TheVariants as stage
use Rattle.c_model.specs.declared.point.WorkKind.{WorkKind}
use Rattle.c_model.specs.declared.point.WorkKind.TheVariants as work_kind
use Rattle.c_model.specs.Clauses.{sections_of}
use Rattle.c_model.specs.Task.{Item, OpenCall, Task}
use Rattle.c_model.specs.Task.Item.{Forked, NextChunk, Iterations, NextSection, EndWork, EndMasked, Sync}

-- What an event has begun and a later one ends: a region that the task has forked, its part of a worksharing construct of this kind with so many
-- iterations, sections or statements, the statement of a `masked`, a barrier or taskwait, and the wait in one.
pub data Open : Type 0 where
  Forks : Open
  Works : WorkKind → (count : ℕ) → Open
  Masks : Open
  Syncs : SyncKind → Open
  Awaits : SyncKind → Open

-- a barrier or taskwait before each of its four events
abbrev pub open_before : SyncKind → SyncStage → List Open
open_before kind stage.RegionBegin = []
open_before kind stage.WaitBegin = Syncs kind ∷ []
open_before kind stage.WaitEnd = Awaits kind ∷ Syncs kind ∷ []
open_before kind stage.RegionEnd = Syncs kind ∷ []

-- what an item has open, which is ended by it or by what it leads to
abbrev pub open_item : Item → List Open
open_item (Forked construct) = Forks ∷ []
open_item (NextChunk loop) = Works work_kind.Loop loop.count ∷ []
open_item (Iterations loop at upto) = Works work_kind.Loop loop.count ∷ []
open_item (NextSection construct names) = Works work_kind.Sections (length (sections_of construct)) ∷ []
open_item (EndWork construct kind count names) = Works kind count ∷ []
open_item (EndMasked construct) = Masks ∷ []
open_item (Sync tree kind stage) = open_before kind stage
open_item other = []

-- what a function has open, the newest first, and what the functions have that go on behind a call
unfoldable pub open_items : List Item → List Open
open_items [] = []
open_items (item ∷ items) = open_item item ++ open_items items

unfoldable pub open_calls : List OpenCall → List Open
open_calls [] = []
open_calls (call ∷ calls) = open_items call.todo ++ open_calls calls

abbrev pub open_task : Task → List Open
open_task task = open_items task.todo ++ open_calls task.calls

abbrev pub is_fork : Open → Bool
is_fork Forks = true
is_fork other = false
