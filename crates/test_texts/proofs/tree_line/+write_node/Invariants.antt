use Rattle.test_texts.proofs.tree_line.+write_node.Given as goal

-- a child has a smaller number
abbrev pub decreases-write_node : goal.decreases-write_node
decreases-write_node l = l.node
