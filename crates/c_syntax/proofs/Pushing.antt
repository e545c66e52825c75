-- What stands behind parts of a program, and the open nodes to which the trees of parts were added.
use Rattle.std.proofs.Common.{zero, suc, ◌≡◌, ◌≢◌, IsTrue, Bool, true, false, List, [], ◌∷◌, Option, Some, refl, ap, ◌∙◌}
use Rattle.c_syntax.specs.declared.head.Head.{Head}
use Rattle.c_syntax.specs.declared.head.Head.TheVariants as head
use Rattle.c_syntax.specs.declared.node.NodeKind.{NodeKind}
use Rattle.c_syntax.specs.declared.term.Term.{Term}
use Rattle.c_syntax.specs.declared.term.Term.TheVariants as term
use Rattle.c_syntax.specs.language.Words.{Word}
use Rattle.c_syntax.specs.language.Tree.{Tree, before}
use Rattle.c_syntax.specs.language.Tree.Tree.{Node}
use Rattle.c_syntax.specs.workings.Derivation.{Opened, with_child, made, closed, name_in}
use Rattle.c_syntax.specs.language.Productions.{kids}

-- heads in which names stand, and that an expression leaves as they are
abbrev pub is_steady : Head → Bool
is_steady head.Outside = true
is_steady (head.Inside zero) = false
is_steady (head.Inside (suc count)) = true
is_steady other = false

-- what stands behind an expression
abbrev pub is_end : Term → Bool
is_end term.CloseParen = true
is_end term.CloseBracket = true
is_end term.Semicolon = true
is_end term.Comma = true
is_end other = false

abbrev pub Ends : List Word → Type 0
Ends [] = ⊥
Ends (word ∷ rest) = IsTrue (is_end word.term)

-- a child was added to the innermost open node
abbrev pub plus : Option Tree → List Opened → List Opened
plus child [] = []
plus child (node ∷ outer) = with_child child node ∷ outer

-- these were, in order
abbrev pub all_added : List Tree → List Opened → List Opened
all_added [] nodes = nodes
all_added (tree ∷ trees) nodes = all_added trees (plus (Some tree) nodes)

-- no index is next
abbrev pub NoIndex : List Word → Type 0
NoIndex [] = ⊥
NoIndex (word ∷ rest) = word.term ≢ term.OpenBracket

-- a node to which trees were added
abbrev pub pushed : List Tree → Opened → Opened
pushed [] node = node
pushed (tree ∷ trees) node = pushed trees (with_child (Some tree) node)

pub all_added-pushed : (trees : List Tree) (node : Opened) (outer : List Opened) → all_added trees (node ∷ outer) ≡ pushed trees node ∷ outer
all_added-pushed [] node outer = refl
all_added-pushed (tree ∷ trees) node outer = all_added-pushed trees (with_child (Some tree) node) outer

-- the tree that a node is with the children that it has, and these
abbrev pub tree_with : NodeKind → List Tree → Opened → Tree
tree_with kind trees node = Node kind node.spot (name_in kind node.name) node.number node.text (before node.children (kids trees))

pub closed-pushed : (kind : NodeKind) (trees : List Tree) (node : Opened) → closed kind (pushed trees node) ≡ tree_with kind trees node
closed-pushed kind [] node = refl
closed-pushed kind (tree ∷ trees) node = closed-pushed kind trees (with_child (Some tree) node)

-- the node over the trees that were added to it
pub made-pushed : (kind : NodeKind) (trees : List Tree) (node parent : Opened) (outer : List Opened)
    → made kind (all_added trees (node ∷ parent ∷ outer)) ≡ with_child (Some (tree_with kind trees node)) parent ∷ outer
made-pushed kind trees node parent outer =
    ap (made kind) (all_added-pushed trees node (parent ∷ outer)) ∙ ap (λ tree. with_child (Some tree) parent ∷ outer) (closed-pushed kind trees node)
