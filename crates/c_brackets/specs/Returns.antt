-- Where the returns of a program stand.
use Rattle.std.specs.Prelude.{ℕ, ◌||◌, Bool, true, false, IsTrue}
use Rattle.c_syntax.specs.declared.node.NodeKind.TheVariants as node
use Rattle.c_syntax.specs.language.Tree.{Tree, Children}
use Rattle.c_syntax.specs.language.Tree.Tree.{Node}
use Rattle.c_syntax.specs.language.Tree.Children.{Over, Child, Absent}
use Rattle.c_syntax.specs.language.Numbered.{TreeView}
use Rattle.c_model.specs.Program.{body_of, function_named}

-- a `return` is among the statements of a statement
unfoldable mutual
  pub has_return : Tree → Bool
  has_return (Node node.Return spot name number text children) = true
  has_return (Node node.Block spot name number text children) = has_return_among children
  has_return (Node node.Globals spot name number text children) = has_return_among children
  has_return (Node node.Locals spot name number text children) = has_return_among children
  has_return (Node node.Locks spot name number text children) = has_return_among children
  has_return (Node node.If spot name number text children) = has_return_among children
  has_return (Node node.While spot name number text children) = has_return_among children
  has_return (Node node.For spot name number text children) = has_return_among children
  has_return (Node (node.Construct which) spot name number text children) = has_return_among children
  has_return (Node node.Section spot name number text children) = has_return_among children
  has_return (Node other spot name number text children) = false

  pub has_return_among : Children → Bool
  has_return_among Over = false
  has_return_among (Absent rest) = has_return_among rest
  has_return_among (Child tree rest) = has_return tree || has_return_among rest

-- none is among the statements of a construct in it
unfoldable mutual
  pub ReturnsOutside : Tree → Type 0
  ReturnsOutside (Node node.Block spot name number text children) = ReturnOutsideEach children
  ReturnsOutside (Node node.Globals spot name number text children) = ReturnOutsideEach children
  ReturnsOutside (Node node.Locals spot name number text children) = ReturnOutsideEach children
  ReturnsOutside (Node node.Locks spot name number text children) = ReturnOutsideEach children
  ReturnsOutside (Node node.If spot name number text children) = ReturnOutsideEach children
  ReturnsOutside (Node node.While spot name number text children) = ReturnOutsideEach children
  ReturnsOutside (Node node.For spot name number text children) = ReturnOutsideEach children
  ReturnsOutside (Node (node.Construct which) spot name number text children) = IsTrue (has_return_among children) → ⊥
  ReturnsOutside (Node node.Section spot name number text children) = ReturnOutsideEach children
  ReturnsOutside (Node other spot name number text children) = Unit {0}

  pub ReturnOutsideEach : Children → Type 0
  ReturnOutsideEach Over = Unit {0}
  ReturnOutsideEach (Absent rest) = ReturnOutsideEach rest
  ReturnOutsideEach (Child tree rest) = ReturnsOutside tree × ReturnOutsideEach rest

-- so it is in each function of a program
abbrev pub HasReturnsOutside : TreeView → Type 0
HasReturnsOutside program = (name : ℕ) → ReturnsOutside (body_of (function_named program name))
