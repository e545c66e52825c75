-- The form that each node of a program's tree has: which kinds of nodes stand below it, and which of them may be missing.
use Rattle.std.specs.Prelude.{◌≡◌, Bool, true, false, IsTrue}
use Rattle.c_syntax.specs.declared.node.NodeKind.{NodeKind}
use Rattle.c_syntax.specs.declared.node.NodeKind.TheVariants as node
use Rattle.c_syntax.specs.language.Tree.{Tree, Children, kind_of}
use Rattle.c_syntax.specs.language.Tree.Tree.{Node}
use Rattle.c_syntax.specs.language.Tree.Children.{Over, Child, Absent}
use Rattle.c_syntax.specs.language.Numbered.{TreeView, root_tree}
use Rattle.c_check.specs.Loops.{is_place}
use Rattle.c_model.specs.Loops.{is_declared}

-- parts of a file, its variables, and those of a block
abbrev pub is_file_part : NodeKind → Bool
is_file_part node.Include = true
is_file_part (node.Function returns) = true
is_file_part node.Globals = true
is_file_part node.Locks = true
is_file_part other = false

abbrev pub is_global : NodeKind → Bool
is_global node.GlobalVar = true
is_global node.GlobalArray = true
is_global (node.GlobalSet sign) = true
is_global other = false

abbrev pub is_local : NodeKind → Bool
is_local node.LocalVar = true
is_local node.LocalArray = true
is_local node.LocalSet = true
is_local other = false

-- statements and expressions, which declare nothing for what stands behind them
abbrev pub is_quiet : NodeKind → Bool
is_quiet node.Name = true
is_quiet node.Block = true
is_quiet node.Empty = true
is_quiet node.If = true
is_quiet node.While = true
is_quiet node.For = true
is_quiet node.Return = true
is_quiet node.SetCall = true
is_quiet node.Step = true
is_quiet node.Called = true
is_quiet node.Print = true
is_quiet (node.LockCall which) = true
is_quiet (node.Assign setting) = true
is_quiet (node.Bump which side) = true
is_quiet node.Place = true
is_quiet node.Call = true
is_quiet node.TestLock = true
is_quiet (node.Binary operator) = true
is_quiet (node.Unary operator) = true
is_quiet node.Number = true
is_quiet node.Paren = true
is_quiet (node.Getter which) = true
is_quiet (node.Standalone which) = true
is_quiet (node.Construct which) = true
is_quiet node.Section = true
is_quiet other = false

-- a part of a block, and the first part of a plain `for`
abbrev pub is_part : NodeKind → Bool
is_part node.Locals = true
is_part node.Locks = true
is_part other = is_quiet other

abbrev pub is_first_part : NodeKind → Bool
is_first_part node.Init = true
is_first_part other = is_quiet other

-- a part of a construct: a clause, the name of a critical, or what it executes
abbrev pub is_construct_part : NodeKind → Bool
is_construct_part (node.Clause lead) = true
is_construct_part other = is_quiet other

abbrev pub IsOver : Children → Type 0
IsOver Over = Unit {0}
IsOver other = ⊥

-- children of these kinds, however many, of which none is missing, but that the last may be
unfoldable pub AreInRow : (NodeKind → Bool) → Children → Type 0
AreInRow test Over = Unit {0}
AreInRow test (Absent rest) = IsOver rest
AreInRow test (Child tree rest) = IsTrue (test (kind_of tree)) × AreInRow test rest

-- one that may be missing, and what comes behind it
abbrev pub HasPart : (NodeKind → Bool) → (Children → Type 0) → Children → Type 0
HasPart test next Over = ⊥
HasPart test next (Absent rest) = next rest
HasPart test next (Child tree rest) = IsTrue (test (kind_of tree)) × next rest

-- one that is there, and what comes behind it
abbrev pub HasChild : (NodeKind → Bool) → (Children → Type 0) → Children → Type 0
HasChild test next (Child tree rest) = IsTrue (test (kind_of tree)) × next rest
HasChild test next other = ⊥

abbrev pub is_params : NodeKind → Bool
is_params (node.Params which) = true
is_params other = false

abbrev pub is_block : NodeKind → Bool
is_block node.Block = true
is_block other = false

abbrev pub HasForm : NodeKind → Children → Type 0
HasForm node.Program children = AreInRow is_file_part children
HasForm (node.Function returns) children = HasChild is_declared (HasChild is_params (HasChild is_block IsOver)) children
HasForm node.Globals children = AreInRow is_global children
HasForm node.Locks children = AreInRow is_declared children
HasForm node.Block children = AreInRow is_part children
HasForm node.Locals children = AreInRow is_local children
HasForm node.LocalSet children = HasChild is_quiet IsOver children
HasForm node.If children = HasChild is_quiet (HasChild is_quiet (HasPart is_quiet IsOver)) children
HasForm node.While children = HasChild is_quiet (HasChild is_quiet IsOver) children
HasForm node.For children = HasPart is_first_part (HasPart is_quiet (HasPart is_quiet (HasChild is_quiet IsOver))) children
HasForm node.Init children = HasChild is_declared (HasChild is_quiet IsOver) children
HasForm node.Return children = AreInRow is_quiet children
HasForm node.SetCall children = HasChild is_place (HasChild is_quiet IsOver) children
HasForm node.Step children = HasChild is_quiet IsOver children
HasForm node.Called children = HasChild is_quiet IsOver children
HasForm node.Print children = AreInRow is_quiet children
HasForm (node.LockCall which) children = HasChild is_declared IsOver children
HasForm (node.Assign setting) children = HasChild is_place (HasChild is_quiet IsOver) children
HasForm (node.Bump which side) children = HasChild is_place IsOver children
HasForm node.Place children = AreInRow is_quiet children
HasForm node.Call children = AreInRow is_quiet children
HasForm node.TestLock children = HasChild is_declared IsOver children
HasForm (node.Binary operator) children = HasChild is_quiet (HasChild is_quiet IsOver) children
HasForm (node.Unary operator) children = HasChild is_quiet IsOver children
HasForm node.Paren children = HasChild is_quiet IsOver children
HasForm (node.Construct which) children = AreInRow is_construct_part children
HasForm node.Section children = HasChild is_quiet IsOver children
HasForm node.NumThreads children = HasChild is_quiet IsOver children
HasForm node.IfClause children = HasChild is_quiet IsOver children
HasForm node.Name children = IsOver children
HasForm node.Empty children = IsOver children
HasForm node.LocalVar children = IsOver children
HasForm node.LocalArray children = IsOver children
HasForm node.Number children = IsOver children
HasForm (node.Getter which) children = IsOver children
HasForm (node.Standalone which) children = IsOver children
HasForm other children = Unit {0}

unfoldable mutual
  pub IsFormed : Tree → Type 0
  IsFormed (Node kind spot name number text children) = HasForm kind children × AreFormed children

  pub AreFormed : Children → Type 0
  AreFormed Over = Unit {0}
  AreFormed (Absent rest) = AreFormed rest
  AreFormed (Child tree rest) = IsFormed tree × AreFormed rest

-- the tree of a program
pub record IsProgramFormed (program : TreeView) : Type 0 where
  pub kind : kind_of (root_tree program) ≡ node.Program
  pub formed : IsFormed (root_tree program)
