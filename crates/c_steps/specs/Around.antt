-- The frames that stand for regions of constructs.
use Rattle.std.specs.Prelude.{ℕ, ◌==◌, ◌||◌, Bool, true, false, List, [], ◌∷◌}
use Rattle.c_model.specs.Task.{Item as SeenItem}
use Rattle.c_model.specs.Upcoming.{is_of_critical_with, is_of_exclusive, is_of_work}
use Rattle.c_steps.specs.declared.control.around.Around.{Around}
use Rattle.c_steps.specs.declared.control.around.Around.TheVariants as around
use Rattle.c_steps.specs.declared.frame.Frame.{Frame}
use Rattle.c_steps.specs.declared.frame.Frame.TheVariants as frame
use Rattle.c_steps.specs.declared.item.Item.{Item}
use Rattle.c_steps.specs.declared.item.Item.TheVariants as item

-- which items of the definitions these are
abbrev pub is_such : Around → SeenItem → Bool
is_such around.Work it = is_of_work it
is_such around.Exclusive it = is_of_exclusive it
is_such (around.Critical wait_id) it = is_of_critical_with wait_id it

abbrev pub is_work_or_more : Around → Bool
is_work_or_more around.Work = true
is_work_or_more around.Exclusive = true
is_work_or_more (around.Critical wait_id) = false

abbrev pub is_exclusive : Around → Bool
is_exclusive around.Exclusive = true
is_exclusive other = false

abbrev pub is_critical : ℕ → Around → Bool
is_critical id around.Work = false
is_critical id around.Exclusive = true
is_critical id (around.Critical wait_id) = id == wait_id

abbrev pub item_is : Around → Item → Bool
item_is such (item.NextChunk shared) = is_work_or_more such
item_is such (item.Iterations shared at upto) = is_work_or_more such
item_is such (item.NextSection node names) = is_work_or_more such
item_is such (item.EndWork node kind count names) = is_work_or_more such
item_is such (item.EndMasked node) = is_exclusive such
item_is such (item.Release node id) = is_critical id such
item_is such other = false

abbrev pub frame_has : Around → Frame → Bool
frame_has such (frame.One it) = item_is such it
frame_has such other = false

unfoldable pub frames_have : Around → List Frame → Bool
frames_have such [] = false
frames_have such (it ∷ frames) = frame_has such it || frames_have such frames
