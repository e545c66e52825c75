use Rattle.std.proofs.Common.{◌≡◌, ◌≤◌, length}
use Rattle.c_syntax.specs.language.Numbered.{tree_at}
use Rattle.c_steps.specs.Rests.{statements_from, parts_from}
use Rattle.c_steps.proofs.clauses.next_statement.Given as goal

-- no statement was passed over
abbrev pub invariant-loop-child : goal.invariant-loop-child
invariant-loop-child l = record {
  statements : statements_from (tree_at l.code.trees l.number) l.next ≡ statements_from (tree_at l.code.trees l.number) l.place;
  ahead : l.place ≤ l.next;
}

abbrev pub decreases-loop-child : goal.decreases-loop-child
decreases-loop-child l = length (parts_from (tree_at l.code.trees l.number) l.next)
