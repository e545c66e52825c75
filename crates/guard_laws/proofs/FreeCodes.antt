-- A code that isn't within a worksharing, a masked or a critical construct has no work open.
use Rattle.std.proofs.Common.{◌≡◌, ◌++◌, Bool, false, List, [], ◌∷◌, refl, ◌∙◌}
use Rattle.std.specs.List.{list_any}
use Rattle.std.proofs.lemmas.Bool.{or_from, or_parts, true≢false}
use Rattle.std.proofs.lemmas.List.Folds.{list_any-append}
use Rattle.c_model.specs.declared.point.SyncKind.{SyncKind}
use Rattle.c_model.specs.declared.point.SyncStage.{SyncStage}
use Rattle.c_model.specs.declared.point.SyncStage.TheVariants as stage
use Rattle.c_model.specs.Task.{Item, OpenCall, Task as Code}
use Rattle.c_model.specs.Task.Item.{EndWork, Iterations, NextChunk, NextSection, Sync}
use Rattle.c_model.specs.Upcoming.{is_in_exclusive, is_of_exclusive}
use Rattle.c_brackets.specs.Opened.{Open, open_before, open_calls, open_item, open_items, open_task}
use Rattle.guard_laws.proofs.LastMeetings.{is_work}

abbrev has_work : List Open → Bool
has_work opened = list_any is_work opened

-- what is open one behind another
both-free : (first second : List Open) → has_work first ≡ false → has_work second ≡ false → has_work (first ++ second) ≡ false
both-free first second one other = list_any-append is_work first second ∙ or_from (has_work first) (has_work second) one other

sync-free : (kind : SyncKind) (at : SyncStage) → has_work (open_before kind at) ≡ false
sync-free kind stage.RegionBegin = refl
sync-free kind stage.WaitBegin = refl
sync-free kind stage.WaitEnd = refl
sync-free kind stage.RegionEnd = refl

item-free : (item : Item) → is_of_exclusive item ≡ false → has_work (open_item item) ≡ false
item-free (NextChunk loop) free = absurd (true≢false free)
item-free (Iterations loop at upto) free = absurd (true≢false free)
item-free (NextSection construct names) free = absurd (true≢false free)
item-free (EndWork construct kind count names) free = absurd (true≢false free)
item-free (Sync tree kind at) free = sync-free kind at
item-free other free = refl

items-free : (items : List Item) → list_any is_of_exclusive items ≡ false → has_work (open_items items) ≡ false
unfolding open_items
items-free [] free = refl
items-free (item ∷ items) free =
    let parts = or_parts (is_of_exclusive item) (list_any is_of_exclusive items) free in
    both-free (open_item item) (open_items items) (item-free item parts.0) (items-free items parts.1)

-- the same in functions that go on behind a call
abbrev is_exclusive_call : OpenCall → Bool
is_exclusive_call call = list_any is_of_exclusive call.todo

calls-free : (calls : List OpenCall) → list_any is_exclusive_call calls ≡ false → has_work (open_calls calls) ≡ false
unfolding open_calls
calls-free [] free = refl
calls-free (call ∷ calls) free =
    let parts = or_parts (is_exclusive_call call) (list_any is_exclusive_call calls) free in
    both-free (open_items call.todo) (open_calls calls) (items-free call.todo parts.0) (calls-free calls parts.1)

pub task-free : (code : Code) → is_in_exclusive code ≡ false → list_any is_work (open_task code) ≡ false
task-free code free =
    let parts = or_parts (list_any is_of_exclusive code.todo) (list_any is_exclusive_call code.calls) free in
    both-free (open_items code.todo) (open_calls code.calls) (items-free code.todo parts.0) (calls-free code.calls parts.1)
