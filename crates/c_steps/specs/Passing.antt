-- What an event is passed with.
use Rattle.std.specs.Prelude.{ℕ, ◌+◌, ◌≡◌, ◌<◌, List, [], ◌∷◌, ◌++◌, length, take, Option}
use Rattle.c_syntax.specs.language.Numbered.{TreeView, tree_at}
use Rattle.c_model.specs.declared.point.Point.{Point}
use Rattle.c_model.specs.Occurring.{IsOfItem, IsTreeOf}
use Rattle.c_model.specs.Task.{Item, Task}
use Rattle.c_steps.specs.ControlView.{ControlView, task_at}
use Rattle.c_model.specs.declared.entry.Entry.{Entry}
use Rattle.c_steps.specs.declared.item.Item as of_item
use Rattle.c_steps.specs.declared.item.Item.TheVariants as item
use Rattle.c_steps.specs.Items.{begun, item_at, items_if, todo_at, with_file}
use Rattle.c_steps.specs.Ready.{AreFrames, ArePointNumbers, IsAfterStep}

-- an event at this node is of the item
pub record IsEventOf (program : TreeView) (point : Point) (node : ℕ) (item : Item) : Type 0 where
  pub of_item : IsOfItem point item
  pub is_there : node < length program.trees
  pub is_node : IsTreeOf (tree_at program.trees node) item
  pub numbers : ArePointNumbers point

-- an event is of what stands next
unfoldable pub IsEventOfNext : TreeView → Point → ℕ → List Item → Type 0
IsEventOfNext program point node [] = ⊥
IsEventOfNext program point node (item ∷ items) = IsEventOf program point node item

-- the task with these items in place of the one that stands next
abbrev pub replaced : TreeView → List Item → ControlView → Task
replaced program items held = record (task_at program held) { todo = items ++ todo_at program (begun held.frames) }

-- what else of a control a question or an event leaves
pub record IsAfterEvent (old new : ControlView) : Type 0 where
  pub spare : new.spare ≡ old.spare
  pub passes : new.passes + 1 ≡ old.passes
  pub step_names : new.step_names ≡ old.step_names
  pub room : new.room ≡ old.room

-- an event was passed: these items stand in its place, and these names are in scope
pub record IsPassed (program : TreeView) (old new : ControlView) (items : List Item) (env : List Entry) : Type 0 where
  pub task : task_at program new ≡ record (replaced program items old) { env = env }
  pub after : IsAfterEvent old new
  pub frames : AreFrames program new.frames

-- an answer was given: these items stand in place of the one that asked
pub record IsGiven (program : TreeView) (old new : ControlView) (items : List Item) : Type 0 where
  pub task : task_at program new ≡ replaced program items old
  pub after : IsAfterStep old new
  pub frames : AreFrames program new.frames

-- the names behind the end of a worksharing construct: its own end with its work
abbrev pub names_behind_work : TreeView → of_item.Item → List Entry → List Entry
names_behind_work program (item.EndWork node kind count names) env = take (with_file program names) env
names_behind_work program other env = env

-- the names when a lock or critical is asked for: the variable of a declarator that tests a lock comes into scope
abbrev pub names_behind_asking : of_item.Item → List Entry → List Entry
names_behind_asking (item.Initialise node entry) env = env ++ entry ∷ []
names_behind_asking other env = env

-- what stands next of shared work: at most one item, and then another one
abbrev pub stages_at : TreeView → Option of_item.Item × of_item.Item → List Item
stages_at program stages = items_if program stages.0 ++ item_at program stages.1 ∷ []
