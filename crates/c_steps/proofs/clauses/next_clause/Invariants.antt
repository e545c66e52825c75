use Rattle.std.proofs.Common.{◌≡◌, length}
use Rattle.c_syntax.specs.language.Numbered.{tree_at}
use Rattle.c_steps.specs.Rests.{clauses_from, parts_from}
use Rattle.c_steps.proofs.clauses.next_clause.Given as goal

-- no clause was passed over
abbrev pub invariant-loop-child : goal.invariant-loop-child
invariant-loop-child l = clauses_from (tree_at l.code.trees l.number) l.next ≡ clauses_from (tree_at l.code.trees l.number) l.place

abbrev pub decreases-loop-child : goal.decreases-loop-child
decreases-loop-child l = length (parts_from (tree_at l.code.trees l.number) l.next)
