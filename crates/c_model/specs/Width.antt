-- How many names a task of a program ever has in scope at one time. Each declarator, each loop and each construct brings names into scope for the
-- statements inside it or behind it alone, so that they add up only along the nesting of a function.
use Rattle.std.specs.Prelude.{ℕ, ◌+◌, ◌≤◌, max, min, List, [], ◌∷◌, length}
use Rattle.std.specs.List.{All, count_by}
use Rattle.c_syntax.specs.declared.node.NodeKind.{NodeKind}
use Rattle.c_syntax.specs.declared.node.NodeKind.TheVariants as node
use Rattle.c_syntax.specs.language.Tree.{Tree, Children, children_of, kind_of}
use Rattle.c_syntax.specs.language.Tree.Tree.{Node}
use Rattle.c_syntax.specs.language.Tree.Children.{Over, Child, Absent}
use Rattle.c_syntax.specs.language.Numbered.{TreeView, root_tree}
use Rattle.c_check.specs.Seen.{task_copies}
use Rattle.c_model.specs.Parts.{flat_declarations, parts}
use Rattle.c_model.specs.Program.{body_of, parameters_of}
use Rattle.c_model.specs.Clauses.{clauses_of, listed_among}
use Rattle.c_model.specs.Loops.{loop_of}
use Rattle.c_model.specs.Calls.{file_bound}
use Rattle.c_model.specs.Task.{Item, OpenCall, Task, is_declarator}
use Rattle.c_model.specs.Task.Item.{Start, Declare, Leave, Test, Third, Initialise, Return, FallOff, Forked, Inside, MakeCells, NextChunk, Iterations, NextSection, Combine, EndWork, EndMasked, Sync, Acquire, Release, TestLock, Tested}

-- how many names a statement declares: a block those of its declarators, a loop and a directive's loop its variable
abbrev pub declared_names : NodeKind → Tree → ℕ
declared_names node.Block tree = count_by (λ (part : Tree). is_declarator (kind_of part)) (flat_declarations (parts tree))
declared_names node.For tree = 1
declared_names (node.Construct which) tree = 1
declared_names other tree = 0

-- how many names it brings into scope itself: beside those the copies that its clauses list, and those of a task by rule
abbrev pub own_names : TreeView → NodeKind → Tree → ℕ
own_names program kind tree = declared_names kind tree + length (listed_among (clauses_of tree)) + length (task_copies program tree)

-- how many names there are at most beside those around a statement, while it is executed
unfoldable mutual
  pub inner_names : TreeView → Tree → ℕ
  inner_names program (Node kind spot name number text children) =
      own_names program kind (Node kind spot name number text children) + most_inside program children

  pub most_inside : TreeView → Children → ℕ
  most_inside program Over = 0
  most_inside program (Absent rest) = most_inside program rest
  most_inside program (Child tree rest) = max (inner_names program tree) (most_inside program rest)

-- the names of a function beside those of the file
abbrev pub function_names : TreeView → Tree → ℕ
function_names program function = length (parameters_of function) + inner_names program (body_of function)

unfoldable pub most_of_functions : TreeView → List Tree → ℕ
most_of_functions program [] = 0
most_of_functions program (function ∷ functions) = max (function_names program function) (most_of_functions program functions)

-- the most names in scope at one time: those of the file, and those of one function
abbrev pub width : TreeView → ℕ
width program = length (file_bound program).env + most_of_functions program (parts (root_tree program))

-- The most names in scope from here on, where so many are now and this stands next.
abbrev pub most_behind : TreeView → ℕ → Item → (ℕ → ℕ) → ℕ
most_behind program names (Start tree) next = max (names + inner_names program tree) (next names)
most_behind program names (Declare tree) next = next (names + 1)
most_behind program names (Leave stay) next = max names (next (min stay names))
most_behind program names (Test tree stay) next = max (names + most_inside program (children_of tree)) (next (min stay names))
most_behind program names (Third tree stay) next = max (names + most_inside program (children_of tree)) (next (min stay names))
most_behind program names (Initialise tree entry) next = next (names + 1)
most_behind program names (Return number) next = next names
most_behind program names FallOff next = next names
most_behind program names (Forked construct) next = max (names + inner_names program construct) (next names)
most_behind program names (Inside construct) next = max (names + inner_names program construct) (next names)
most_behind program names (MakeCells construct) next = next (names + own_names program (kind_of construct) construct)
most_behind program names (NextChunk loop) next = max (names + inner_names program (loop_of loop.construct).body) (next (min loop.names names))
most_behind program names (Iterations loop at upto) next = max (names + inner_names program (loop_of loop.construct).body) (next (min loop.names names))
most_behind program names (NextSection construct stay) next = max (names + most_inside program (children_of construct)) (next (min stay names))
most_behind program names (Combine operator name around) next = next names
most_behind program names (EndWork construct kind count stay) next = max names (next (min stay names))
most_behind program names (EndMasked construct) next = next names
most_behind program names (Sync tree kind stage) next = next names
most_behind program names (Acquire tree kind id) next = next names
most_behind program names (Release tree id) next = next names
most_behind program names (TestLock tree id to) next = next names
most_behind program names (Tested to) next = next names

unfoldable pub most_names : TreeView → List Item → ℕ → ℕ
most_names program [] names = names
most_names program (item ∷ items) names = most_behind program names item (most_names program items)

-- nor does a call that is open have more when it goes on
abbrev pub IsCallWithin : TreeView → OpenCall → Type 0
IsCallWithin program call = most_names program call.todo (length call.env) ≤ width program

-- a task never has more names in scope than the program's width, whatever it goes on to
pub record IsWithin (program : TreeView) (task : Task) : Type 0 where
  pub now : most_names program task.todo (length task.env) ≤ width program
  pub calls : All (IsCallWithin program) task.calls
