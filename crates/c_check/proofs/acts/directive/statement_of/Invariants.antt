use Rattle.std.proofs.Common.{◌≡◌, ◌+◌}
use Rattle.c_syntax.specs.language.Tree.{children_of}
use Rattle.c_syntax.specs.language.Numbered.{tree_at}
use Rattle.c_check.specs.NameLists.{child_count as count_of}
use Rattle.c_check.specs.Statements.{statement_of}
use Rattle.c_check.specs.Tasks.{children_left}
use Rattle.c_check.proofs.acts.directive.statement_of.Given as goal

-- the statement is among the children that are left
abbrev pub invariant-loop-child : goal.invariant-loop-child
invariant-loop-child l = record {
  statement : statement_of (children_left l.tree.trees l.node l.place) ≡ statement_of (children_of (tree_at l.tree.trees l.node));
  counted : l.place + count_of (children_left l.tree.trees l.node l.place) ≡ count_of (children_of (tree_at l.tree.trees l.node));
}

abbrev pub decreases-loop-child : goal.decreases-loop-child
decreases-loop-child l = count_of (children_left l.tree.trees l.node l.place)
