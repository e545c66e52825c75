-- What comes next in a task's code, as far as its form tells it, and of which regions there is an open one.
use Rattle.std.specs.Prelude.{ℕ, ◌==◌, ◌||◌, if◌then◌else◌, Bool, true, false, List, [], ◌∷◌}
use Rattle.std.specs.List.{list_any}
use Rattle.c_model.specs.declared.upcoming.Upcoming.{Upcoming}
use Rattle.c_model.specs.declared.upcoming.Upcoming.TheVariants as upcoming
use Rattle.c_model.specs.declared.view.View.{View}
use Rattle.c_model.specs.Step.{is_event, items_from_next}
use Rattle.c_model.specs.Task.{Item, OpenCall, Task}
use Rattle.c_model.specs.Task.Item.{NextChunk, Iterations, NextSection, EndWork, EndMasked, Forked, Sync, Acquire, Release, TestLock}

abbrev pub upcoming_by_form : Item → Upcoming
upcoming_by_form item = if is_event item then upcoming.Event else upcoming.Step

abbrev pub upcoming_item : Item → Upcoming
upcoming_item (Forked construct) = upcoming.RegionEnd
upcoming_item (Sync tree kind stage) = upcoming.Sync kind stage
upcoming_item (Acquire tree kind id) = upcoming.Acquire id
upcoming_item (TestLock call id to) = upcoming.Test id
upcoming_item item = upcoming_by_form item

abbrev pub upcoming_among : List Item → Upcoming
upcoming_among [] = upcoming.End
upcoming_among (item ∷ items) = upcoming_item item

-- what comes next, when what the task goes past is left out
abbrev pub upcoming_of : View → Task → Upcoming
upcoming_of view task = upcoming_among (items_from_next view task.todo)

-- An item that stands for an open region of a worksharing construct: the region's end, or what comes before it. The same for a masked and for a
-- critical construct.
abbrev pub is_of_work : Item → Bool
is_of_work (NextChunk loop) = true
is_of_work (Iterations loop at upto) = true
is_of_work (NextSection construct names) = true
is_of_work (EndWork construct kind count names) = true
is_of_work item = false

abbrev pub is_of_masked : Item → Bool
is_of_masked (EndMasked construct) = true
is_of_masked item = false

abbrev pub is_of_critical : Item → Bool
is_of_critical (Release construct id) = true
is_of_critical item = false

-- a critical with this wait identifier
abbrev pub is_of_critical_with : ℕ → Item → Bool
is_of_critical_with wait_id (Release construct id) = id == wait_id
is_of_critical_with wait_id item = false

abbrev pub is_of_exclusive : Item → Bool
is_of_exclusive item = is_of_work item || is_of_masked item || is_of_critical item

-- in the function that was called last, or in one that is to go on, such an item remains
abbrev pub has_such : (Item → Bool) → Task → Bool
has_such is_such task = list_any is_such task.todo || list_any (λ (call : OpenCall). list_any is_such call.todo) task.calls

-- the task is in a region of a worksharing construct; of that, a masked or a critical construct; of the critical with this wait identifier
abbrev pub is_in_work : Task → Bool
is_in_work task = has_such is_of_work task

abbrev pub is_in_exclusive : Task → Bool
is_in_exclusive task = has_such is_of_exclusive task

abbrev pub is_in_critical : Task → ℕ → Bool
is_in_critical task wait_id = has_such (is_of_critical_with wait_id) task
