-- Which names a task's code uses, and that each of them is in scope where it stands. Scopes are lists of the numbers of names, the oldest first.
use Rattle.std.specs.Prelude.{ℕ, ◌≡◌, ◌<◌, ◌⊎◌, if◌then◌else◌, Bool, true, false, IsTrue, List, [], ◌∷◌, ◌++◌, length, map, take, drop, unwrap_or, slice_index_or, IfSome, is_some}
use Rattle.std.specs.List.{All, Contains}
use Rattle.c_syntax.specs.declared.node.NodeKind.{NodeKind}
use Rattle.c_syntax.specs.declared.node.NodeKind.TheVariants as node
use Rattle.c_syntax.specs.language.Tree.{Tree, Children, at_place, children_of, kind_of, name_of, number_of, nothing}
use Rattle.c_syntax.specs.language.Tree.Tree.{Node}
use Rattle.c_syntax.specs.language.Tree.Children.{Over, Child, Absent}
use Rattle.c_syntax.specs.language.Numbered.{TreeView}
use Rattle.c_check.specs.LoopParts.{loop_parts}
use Rattle.c_check.specs.Loops.{child_at}
use Rattle.c_check.specs.Statements.{is_head}
use Rattle.c_model.specs.declared.entry.Entry.{Entry}
use Rattle.c_model.specs.Cells.{first_numbers}
use Rattle.c_model.specs.Parts.{flat_declarations, has_child, parts, trees_in}
use Rattle.c_model.specs.Program.{body_of, file_variables, function_named, is_function_named, parameters_of}
use Rattle.c_model.specs.Clauses.{Listed, condition_of, requested_threads, sections_of}
use Rattle.c_model.specs.Loops.{is_declared, loop_of}
use Rattle.c_model.specs.Copies.{is_loop, listed_variables}
use Rattle.c_model.specs.Calls.{file_bound}
use Rattle.c_model.specs.Task.{Item, OpenCall, Task, is_declarator}
use Rattle.c_model.specs.Task.Item.{Start, Declare, Leave, Test, Third, Initialise, Return, FallOff, Forked, Inside, MakeCells, NextChunk, Iterations, NextSection, Combine, EndWork, EndMasked, Sync, Acquire, Release, TestLock, Tested}

-- the names of entries
abbrev pub names_of : List Entry → List ℕ
names_of env = map (λ (entry : Entry). entry.name) env

-- What comes into scope: behind a declarator, behind a declaration of several, behind the first part of a plain `for`.
abbrev pub declared_name : Tree → List ℕ
declared_name tree = if is_declarator (kind_of tree) then name_of tree ∷ [] else []

unfoldable pub declared_among : List Tree → List ℕ
declared_among [] = []
declared_among (tree ∷ trees) = declared_name tree ++ declared_among trees

abbrev pub declared_by : NodeKind → Tree → List ℕ
declared_by node.Globals tree = declared_among (parts tree)
declared_by node.Locals tree = declared_among (parts tree)
declared_by node.Locks tree = declared_among (parts tree)
declared_by other tree = declared_name tree

abbrev pub part_names : Tree → List ℕ
part_names tree = declared_by (kind_of tree) tree

abbrev pub names_by_first : NodeKind → Tree → List ℕ
names_by_first node.Init first = if has_child first 0 then name_of (child_at first 0) ∷ [] else []
names_by_first other first = []

abbrev pub first_names : Tree → List ℕ
first_names first = names_by_first (kind_of first) first

-- .. with the cells of a construct's own: its copies, and the variable of the loop that it shares out
abbrev pub listed_names : Tree → List ℕ
listed_names construct = map (λ (listed : Listed). listed.name) (listed_variables construct)

abbrev pub with_shared : List ℕ → Tree → List ℕ
with_shared names construct = if is_loop construct then names ++ name_of (loop_of construct).variable ∷ [] else names

abbrev pub with_made : List ℕ → Tree → List ℕ
with_made names construct = with_shared (names ++ listed_names construct) construct

-- an expression uses only names that are in scope
unfoldable mutual
  pub Sees : List ℕ → Tree → Type 0
  Sees names (Node node.Place spot name number text children) = Contains names name × SeesEach names children
  Sees names (Node node.Paren spot name number text children) = SeesEach names children
  Sees names (Node (node.Unary operator) spot name number text children) = SeesEach names children
  Sees names (Node (node.Binary operator) spot name number text children) = SeesEach names children
  Sees names (Node other spot name number text children) = Unit {0}

  pub SeesEach : List ℕ → Children → Type 0
  SeesEach names Over = Unit {0}
  SeesEach names (Absent rest) = SeesEach names rest
  SeesEach names (Child tree rest) = Sees names tree × SeesEach names rest

-- a call names a function of the file, with as many arguments as it has parameters
pub record IsCallable (program : TreeView) (name arguments : ℕ) : Type 0 where
  pub there : IsTrue (is_function_named name (function_named program name))
  pub fits : length (parameters_of (function_named program name)) ≡ arguments

-- the first of some children, or nothing in its place
abbrev pub first_child : Children → Tree
first_child children = unwrap_or (at_place children 0) nothing

-- what a node itself uses: the name of a place, the function of a call, the name of what is set, tested or locked; and an array has elements
abbrev pub IsUsable : TreeView → List ℕ → NodeKind → (name number : ℕ) → Children → Type 0
IsUsable program names node.Place name number children = Contains names name
IsUsable program names node.Call name number children = IsCallable program name (length (trees_in children))
IsUsable program names (node.Assign setting) name number children = Contains names (name_of (first_child children))
IsUsable program names (node.Bump which side) name number children = Contains names (name_of (first_child children))
IsUsable program names node.SetCall name number children = Contains names (name_of (first_child children))
IsUsable program names node.TestLock name number children = Contains names (name_of (first_child children))
IsUsable program names (node.LockCall which) name number children = Contains names (name_of (first_child children))
IsUsable program names node.LocalArray name number children = 0 < number
IsUsable program names node.GlobalArray name number children = 0 < number
IsUsable program names other name number children = Unit {0}

-- What a construct itself uses where it begins: the variables that its clauses list, what its clauses compute, and, of the loop that it shares
-- out, the start, the end, and the variable, where the loop doesn't declare it. Such a loop has all its parts.
pub record IsOpenable (names : List ℕ) (construct : Tree) : Type 0 where
  pub listed : All (λ (listed : Listed). Contains names listed.name) (listed_variables construct)
  pub threads : IfSome (requested_threads construct) (λ expression. Sees names expression)
  pub condition : IfSome (condition_of construct) (λ expression. Sees names expression)
  pub start : Sees names (loop_of construct).start
  pub end : Sees names (loop_of construct).end
  pub shared : IsTrue (is_loop construct) → IsTrue (is_some (loop_parts construct))
  pub variable : IfSome (loop_parts construct) (λ parts. IsTrue (is_declared (kind_of parts.variable)) ⊎ Contains names (name_of parts.variable))

-- something is so, unless this is
abbrev pub Unless : Bool → Type 0 → Type 0
Unless true P = Unit {0}
Unless false P = P

-- A statement uses only names that are in scope where they stand, as far as they aren't its own.
unfoldable mutual
  pub Knows : TreeView → List ℕ → Tree → Type 0
  Knows program names (Node node.Block spot name number text children) = KnowsInOrder program part_names names children
  Knows program names (Node node.Globals spot name number text children) = KnowsInOrder program declared_name names children
  Knows program names (Node node.Locals spot name number text children) = KnowsInOrder program declared_name names children
  Knows program names (Node node.Locks spot name number text children) = KnowsInOrder program declared_name names children
  Knows program names (Node node.For spot name number text children) = KnowsLoop program names children
  Knows program names (Node (node.Construct which) spot name number text children) =
      IsOpenable names (Node (node.Construct which) spot name number text children)
      × KnowsStatements program (with_shared names (Node (node.Construct which) spot name number text children)) children
  Knows program names (Node kind spot name number text children) = IsUsable program names kind name number children × KnowsEach program names children

  pub KnowsEach : TreeView → List ℕ → Children → Type 0
  KnowsEach program names Over = Unit {0}
  KnowsEach program names (Absent rest) = KnowsEach program names rest
  KnowsEach program names (Child tree rest) = Knows program names tree × KnowsEach program names rest

  -- parts that bring names into scope for those behind them
  pub KnowsInOrder : TreeView → (Tree → List ℕ) → List ℕ → Children → Type 0
  KnowsInOrder program brings names Over = Unit {0}
  KnowsInOrder program brings names (Absent rest) = Unit {0}
  KnowsInOrder program brings names (Child tree rest) = Knows program names tree × KnowsInOrder program brings (names ++ brings tree) rest

  -- the parts of a plain `for`
  pub KnowsLoop : TreeView → List ℕ → Children → Type 0
  KnowsLoop program names Over = Unit {0}
  KnowsLoop program names (Absent rest) = KnowsEach program names rest
  KnowsLoop program names (Child first rest) = Knows program names first × KnowsEach program (names ++ first_names first) rest

  -- what a construct has behind its clauses
  pub KnowsStatements : TreeView → List ℕ → Children → Type 0
  KnowsStatements program names Over = Unit {0}
  KnowsStatements program names (Absent rest) = KnowsStatements program names rest
  KnowsStatements program names (Child tree rest) =
      Unless (is_head (kind_of tree)) (Knows program names tree) × KnowsStatements program names rest

abbrev pub KnowsConstruct : TreeView → List ℕ → Tree → Type 0
KnowsConstruct program names construct =
    IsOpenable names construct × KnowsStatements program (with_shared names construct) (children_of construct)

-- a declarator makes a cell
abbrev pub HasCells : Tree → Type 0
HasCells tree = 0 < length (first_numbers (kind_of tree) (number_of tree))

-- the names of the file
abbrev pub file_names : TreeView → List ℕ
file_names program = names_of (file_bound program).env

-- The functions of a program use only names that are in scope: of the file, and their parameters. So does main, which is there and has none. No
-- variable of the file is without a cell.
pub record IsWellScoped (program : TreeView) : Type 0 where
  pub functions : (name : ℕ) → Knows program (file_names program ++ map name_of (parameters_of (function_named program name))) (body_of (function_named program name))
  pub main : Knows program (file_names program) (body_of (function_named program program.main))
  pub main_there : IsTrue (is_function_named program.main (function_named program program.main))
  pub variables : All HasCells (flat_declarations (file_variables program))

-- What stands next uses only names that are in scope, and so does what comes behind it.

-- the parts of a plain `for` behind the first
abbrev pub behind_first_part : Children → Children
behind_first_part Over = Over
behind_first_part (Absent rest) = rest
behind_first_part (Child first rest) = rest

-- behind the first so many names each variable that a construct lists has its copy, and before it the variable around
abbrev pub HasCopies : List ℕ → ℕ → Tree → Type 0
HasCopies names around construct =
    All (λ (listed : Listed). Contains (take around names) listed.name × Contains (drop around names) listed.name) (listed_variables construct)

-- the iterations of a loop that is shared out, with the combining behind them
pub record IsIterable (program : TreeView) (names : List ℕ) (around : ℕ) (construct : Tree) : Type 0 where
  pub variable : Contains names (name_of (loop_of construct).variable)
  pub body : Knows program names (loop_of construct).body
  pub copies : HasCopies names around construct

-- the sections of a construct, with the combining behind them
pub record IsDivisible (program : TreeView) (names : List ℕ) (around : ℕ) (construct : Tree) : Type 0 where
  pub sections : (section : ℕ) → Knows program names (slice_index_or (sections_of construct) section nothing)
  pub copies : HasCopies names around construct

abbrev pub ScopedBehind : TreeView → List ℕ → Item → (List ℕ → Type 0) → Type 0
ScopedBehind program names (Start tree) next = Knows program names tree × next names
ScopedBehind program names (Declare tree) next = Knows program names tree × next (names ++ name_of tree ∷ [])
ScopedBehind program names (Leave stay) next = next (take stay names)
ScopedBehind program names (Test tree stay) next = KnowsEach program names (behind_first_part (children_of tree)) × next (take stay names)
ScopedBehind program names (Third tree stay) next = KnowsEach program names (behind_first_part (children_of tree)) × next (take stay names)
ScopedBehind program names (Initialise tree entry) next = Knows program names (child_at tree 0) × next (names ++ entry.name ∷ [])
ScopedBehind program names (Return number) next = next names
ScopedBehind program names FallOff next = next names
ScopedBehind program names (Forked construct) next = KnowsConstruct program names construct × next names
ScopedBehind program names (Inside construct) next = KnowsConstruct program names construct × next names
ScopedBehind program names (MakeCells construct) next = IsOpenable names construct × next (with_made names construct)
ScopedBehind program names (NextChunk loop) next = IsIterable program names loop.names loop.construct × next (take loop.names names)
ScopedBehind program names (Iterations loop at upto) next = IsIterable program names loop.names loop.construct × next (take loop.names names)
ScopedBehind program names (NextSection construct stay) next = IsDivisible program names stay construct × next (take stay names)
ScopedBehind program names (Combine operator name around) next = Contains (take around names) name × Contains (drop around names) name × next names
ScopedBehind program names (EndWork construct kind count stay) next = next (take stay names)
ScopedBehind program names (EndMasked construct) next = next names
ScopedBehind program names (Sync tree kind stage) next = next names
ScopedBehind program names (Acquire tree kind id) next = next names
ScopedBehind program names (Release tree id) next = next names
ScopedBehind program names (TestLock tree id to) next = next names
ScopedBehind program names (Tested to) next = next names

unfoldable pub Scoped : TreeView → List Item → List ℕ → Type 0
Scoped program [] names = Unit {0}
Scoped program (item ∷ items) names = ScopedBehind program names item (Scoped program items)

-- so does a function that goes on behind a call
abbrev pub IsCallScoped : TreeView → OpenCall → Type 0
IsCallScoped program call = Scoped program call.todo (names_of call.env)

pub record IsScoped (program : TreeView) (task : Task) : Type 0 where
  pub now : Scoped program task.todo (names_of task.env)
  pub calls : All (IsCallScoped program) task.calls
