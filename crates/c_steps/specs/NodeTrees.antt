-- The tree that a node stands for.
use Rattle.c_syntax.specs.language.Tree.{Tree}
use Rattle.c_syntax.specs.language.Numbered.{tree_at}
use Rattle.c_steps.specs.declared.node.Node.{Node}

abbrev pub tree_of : Node → Tree
tree_of node = tree_at node.code.now.trees node.number
