-- Which slots the names in a task's scope have: among them are those that the checker gives to the variables in scope where the task's code stands in the
-- text. Scopes are lists of slots, the oldest first.
use Rattle.std.specs.Prelude.{ℕ, ◌≡◌, IsTrue, List, [], ◌∷◌, ◌++◌, map, take, slice_index_or}
use Rattle.std.specs.List.{All, Contains}
use Rattle.c_syntax.specs.declared.node.NodeKind.{NodeKind}
use Rattle.c_syntax.specs.declared.node.NodeKind.TheVariants as node
use Rattle.c_syntax.specs.language.Tree.{children_of, kind_of, nothing, Tree}
use Rattle.c_syntax.specs.language.Numbered.{TreeView}
use Rattle.c_check.specs.declared.acts.act.Act.{Act}
use Rattle.c_check.specs.declared.acts.role.Role.{Role}
use Rattle.c_check.specs.declared.acts.role.Role.TheVariants as role
use Rattle.c_check.specs.declared.scopes.declared.Declared.{Declared}
use Rattle.c_check.specs.Acts.{acts, each}
use Rattle.c_check.specs.Checked.{acts_of, here_after}
use Rattle.c_check.specs.Here.{is_variable}
use Rattle.c_check.specs.Loops.{child_at}
use Rattle.c_check.specs.Seen.{slot_of_name}
use Rattle.c_model.specs.Clauses.{construct_statement, sections_of}
use Rattle.c_model.specs.Calls.{file_bound}
use Rattle.c_model.specs.Copies.{is_loop}
use Rattle.c_model.specs.Formed.{IsFormed}
use Rattle.c_model.specs.Loops.{declares_variable, loop_of}
use Rattle.c_model.specs.UsedCells.{slots_of}
use Rattle.c_model.specs.Program.{body_of, function_named, parameters_of}
use Rattle.c_model.specs.Task.{Item, OpenCall, Task}
use Rattle.c_model.specs.Task.Item.{Start, Declare, Leave, Test, Third, Initialise, Return, FallOff, Forked, Inside, MakeCells, NextChunk, Iterations}
use Rattle.c_model.specs.Task.Item.{NextSection, Combine, EndWork, EndMasked, Sync, Acquire, Release, TestLock, Tested}
use Rattle.c_slots.specs.OwnPlaces.{HasOwnPlaces}

-- the variables among some declarations have their slots among these
abbrev pub Cover : List ℕ → List Declared → Type 0
Cover slots visible = All (λ (it : Declared). IsTrue (is_variable it.thing) → Contains slots it.slot) visible

-- these acts stand somewhere in a program, and the variables in scope there have their slots among these
pub record StandsIn (program : TreeView) (slots : List ℕ) (told : List Act) : Type 0 where
  pub before : List Act
  pub behind : List Act
  pub acts_are : acts_of program ≡ before ++ (told ++ behind)
  pub covered : Cover slots (here_after program before).names.visible

-- What a statement does. Of a block it is what its parts do: the scope of a function's block begins with the parameters, and not with the block.
abbrev pub told_by_kind : NodeKind → Role → Tree → List Act
told_by_kind node.Block around tree = each role.Plain (children_of tree)
told_by_kind other around tree = acts around tree

abbrev pub told_by : Role → Tree → List Act
told_by around tree = told_by_kind (kind_of tree) around tree

-- a statement of a program stands where these slots are in scope
pub record IsPlaced (program : TreeView) (slots : List ℕ) (tree : Tree) : Type 0 where
  pub around : Role
  pub formed : IsFormed tree
  pub stands : StandsIn program slots (told_by around tree)

-- a loop that is shared out and declares its variable has its slot
abbrev pub HasLoopSlot : TreeView → List ℕ → Tree → Type 0
HasLoopSlot program own construct =
    IsTrue (is_loop construct) → IsTrue (declares_variable construct) → Contains own (slot_of_name program (loop_of construct).variable)

-- A construct stands there, with its statement
abbrev pub IsConstructPlaced : TreeView → List ℕ → Tree → Type 0
IsConstructPlaced program slots construct = IsPlaced program slots construct × IsPlaced program slots (construct_statement construct)

-- What stands next stands where these slots are in scope, and so does what comes behind it.
abbrev pub SlottedBehind : TreeView → List ℕ → Item → (List ℕ → Type 0) → Type 0
SlottedBehind program slots (Start tree) next = IsPlaced program slots tree × next slots
SlottedBehind program slots (Declare tree) next = next (slots ++ slot_of_name program tree ∷ [])
SlottedBehind program slots (Leave stay) next = next (take stay slots)
SlottedBehind program slots (Test tree stay) next = IsPlaced program slots (child_at tree 3) × next (take stay slots)
SlottedBehind program slots (Third tree stay) next = IsPlaced program slots (child_at tree 3) × next (take stay slots)
SlottedBehind program slots (Initialise tree entry) next = next (slots ++ entry.slot ∷ [])
SlottedBehind program slots (Return number) next = next slots
SlottedBehind program slots FallOff next = next slots
SlottedBehind program slots (Forked construct) next = IsConstructPlaced program slots construct × next slots
SlottedBehind program slots (Inside construct) next = IsPlaced program slots construct × next slots
SlottedBehind program slots (MakeCells construct) next = (own : List ℕ) → HasLoopSlot program own construct → next (slots ++ own)
SlottedBehind program slots (NextChunk loop) next = IsPlaced program slots (loop_of loop.construct).body × next (take loop.names slots)
SlottedBehind program slots (Iterations loop at upto) next = IsPlaced program slots (loop_of loop.construct).body × next (take loop.names slots)
SlottedBehind program slots (NextSection construct stay) next =
    ((section : ℕ) → IsPlaced program slots (slice_index_or (sections_of construct) section nothing)) × next (take stay slots)
SlottedBehind program slots (Combine operator name around) next = next slots
SlottedBehind program slots (EndWork construct kind count stay) next = next (take stay slots)
SlottedBehind program slots (EndMasked construct) next = next slots
SlottedBehind program slots (Sync tree kind stage) next = next slots
SlottedBehind program slots (Acquire tree kind id) next = next slots
SlottedBehind program slots (Release tree id) next = next slots
SlottedBehind program slots (TestLock tree id to) next = next slots
SlottedBehind program slots (Tested to) next = next slots

unfoldable pub Slotted : TreeView → List Item → List ℕ → Type 0
Slotted program [] slots = Unit {0}
Slotted program (item ∷ items) slots = SlottedBehind program slots item (Slotted program items)

-- so does a function that goes on behind a call
abbrev pub IsCallSlotted : TreeView → OpenCall → Type 0
IsCallSlotted program call = Slotted program call.todo (slots_of call.env)

pub record IsSlotted (program : TreeView) (task : Task) : Type 0 where
  pub now : Slotted program task.todo (slots_of task.env)
  pub calls : All (IsCallSlotted program) task.calls

-- Where a function's block stands the slots of the file and of its parameters are in scope, and where main's does, those of the file.
abbrev pub file_slots : TreeView → List ℕ
file_slots program = slots_of (file_bound program).env

abbrev pub parameter_slots : TreeView → Tree → List ℕ
parameter_slots program function = map (slot_of_name program) (parameters_of function)

pub record IsWellSlotted (program : TreeView) : Type 0 where
  pub places : HasOwnPlaces program
  pub functions : (name : ℕ) → IsPlaced program (file_slots program ++ parameter_slots program (function_named program name)) (body_of (function_named program name))
  pub main : IsPlaced program (file_slots program) (body_of (function_named program program.main))
