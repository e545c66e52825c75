-- What a task goes past counts for no name.
use Rattle.std.specs.Prelude.{ℕ, ◌≤◌, ◌==◌, ◌&&◌, not, if◌then◌else◌, Bool, true, false, List, [], ◌∷◌, length}
use Rattle.std.proofs.Common.{arith}
use Rattle.c_syntax.specs.language.Tree.{Tree, kind_of}
use Rattle.c_syntax.specs.language.Numbered.{TreeView}
use Rattle.c_model.specs.declared.view.View.{View}
use Rattle.c_model.specs.Task.{Item, Task}
use Rattle.c_model.specs.Task.Item.{Start}
use Rattle.c_model.specs.Step.{is_masked, skips_masked, items_from_next, settled_task}
use Rattle.c_model.specs.Width.{IsWithin, most_names}

settled-start : (program : TreeView) (passed : Bool) (tree : Tree) (items settled : List Item) (names : ℕ) → most_names program settled names ≤ most_names program items names → most_names program (if passed then settled else Start tree ∷ items) names ≤ most_names program (Start tree ∷ items) names
unfolding most_names
settled-start program true tree items settled names fewer = omega (arith, fewer)
settled-start program false tree items settled names fewer = omega arith

settled-by : (program : TreeView) (view : View) (item : Item) (items settled : List Item) (names : ℕ) → most_names program settled names ≤ most_names program items names → most_names program (if skips_masked item view then settled else item ∷ items) names ≤ most_names program (item ∷ items) names
unfolding most_names
settled-by program view (Start tree) items settled names fewer = settled-start program (is_masked (kind_of tree) && not (view.index == 0)) tree items settled names fewer
settled-by program view other items settled names fewer = omega arith

settled-names : (program : TreeView) (view : View) (items : List Item) (names : ℕ) → most_names program (items_from_next view items) names ≤ most_names program items names
unfolding items_from_next
settled-names program view [] names = omega arith
settled-names program view (item ∷ items) names =
    settled-by program view item items (items_from_next view items) names (settled-names program view items names)

pub settled_is_within : (program : TreeView) (view : View) (task : Task) → IsWithin program task → IsWithin program (settled_task view task)
settled_is_within program view task is =
    record { now = omega (arith, is.now, settled-names program view task.todo (length task.env)); calls = is.calls }
