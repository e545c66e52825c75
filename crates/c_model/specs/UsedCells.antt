-- Which cells a task's code uses, and that each of them was made: those of the names in scope, also of a declarator whose call hasn't ended and in
-- functions that go on behind a call, and those that values of calls go to.
use Rattle.std.specs.Prelude.{ℕ, ◌+◌, ◌<◌, ◌≤◌, List, [], ◌∷◌, map}
use Rattle.std.specs.List.{All, Contains}
use Rattle.c_syntax.specs.language.Numbered.{TreeView}
use Rattle.c_check.specs.Seen.{task_copies}
use Rattle.c_model.specs.declared.entry.Entry.{Entry}
use Rattle.c_model.specs.declared.point.Target.{Target}
use Rattle.c_model.specs.declared.point.Target.TheVariants as target
use Rattle.c_model.specs.Begin.{created_construct}
use Rattle.c_model.specs.Calls.{file_bound}
use Rattle.c_model.specs.Task.{Item, OpenCall, Task}
use Rattle.c_model.specs.Task.Item.{Initialise, TestLock, Tested}

-- a name has a cell, and its cells are among those that were made, of which there are so many
pub record IsMade (count : ℕ) (entry : Entry) : Type 0 where
  pub has_cell : 0 < entry.size
  pub within : entry.first + entry.size ≤ count

abbrev pub IsTargetMade : ℕ → Target → Type 0
IsTargetMade count (target.Cell cell) = cell < count
IsTargetMade count other = Unit {0}

abbrev pub IsItemMade : ℕ → Item → Type 0
IsItemMade count (Initialise tree entry) = IsMade count entry
IsItemMade count (TestLock tree id to) = IsTargetMade count to
IsItemMade count (Tested to) = IsTargetMade count to
IsItemMade count other = Unit {0}

unfoldable pub AreItemsMade : ℕ → List Item → Type 0
AreItemsMade count [] = Unit {0}
AreItemsMade count (item ∷ items) = IsItemMade count item × AreItemsMade count items

pub record IsCallMade (count : ℕ) (call : OpenCall) : Type 0 where
  pub env : All (IsMade count) call.env
  pub todo : AreItemsMade count call.todo
  pub to : IsTargetMade count call.to

-- so many cells were made: those of the file, and those that the task uses
pub record IsTaskMade (program : TreeView) (count : ℕ) (task : Task) : Type 0 where
  pub file : All (IsMade count) (file_bound program).env
  pub env : All (IsMade count) task.env
  pub todo : AreItemsMade count task.todo
  pub calls : All (IsCallMade count) task.calls

-- the variables that the explicit task copies by rule whose construct stands next are in scope
abbrev pub slots_of : List Entry → List ℕ
slots_of env = map (λ (entry : Entry). entry.slot) env

abbrev pub AreCopiesInScope : TreeView → Task → Type 0
AreCopiesInScope program task = All (λ (slot : ℕ). Contains (slots_of task.env) slot) (task_copies program (created_construct task.todo))
