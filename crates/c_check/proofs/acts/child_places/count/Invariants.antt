use Rattle.std.proofs.Common.{◌≡◌, ◌+◌}
use Rattle.c_syntax.specs.language.Tree.{children_of}
use Rattle.c_syntax.specs.language.Numbered.{tree_at}
use Rattle.c_check.specs.NameLists.{child_count as count_of}
use Rattle.c_check.specs.Tasks.{children_left}
use Rattle.c_check.proofs.acts.child_places.count.Given as goal

-- the children that are left count up to the whole
abbrev pub invariant-loop-place : goal.invariant-loop-place
invariant-loop-place l = l.place + count_of (children_left l.tree.trees l.node l.place) ≡ count_of (children_of (tree_at l.tree.trees l.node))

abbrev pub decreases-loop-place : goal.decreases-loop-place
decreases-loop-place l = count_of (children_left l.tree.trees l.node l.place)
