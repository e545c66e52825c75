use Rattle.std.proofs.Common.{length}
use Rattle.c_syntax.specs.language.Numbered.{tree_at}
use Rattle.c_model.specs.Parts.{parts}
use Rattle.c_steps.specs.Functions.{AreFirst}
use Rattle.c_steps.specs.Rests.{parts_from}
use Rattle.c_steps.proofs.functions.Functions.new.Given as goal

abbrev pub invariant-loop-part : goal.invariant-loop-part
invariant-loop-part l = AreFirst l.tree.trees l.functions (parts_from (tree_at l.tree.trees l.root) l.place) (parts (tree_at l.tree.trees l.root))

abbrev pub decreases-loop-part : goal.decreases-loop-part
decreases-loop-part l = length (parts_from (tree_at l.tree.trees l.root) l.place)
