use Rattle.std.proofs.Common.{◌≡◌, length, max}
use Rattle.c_syntax.specs.language.Numbered.{tree_at}
use Rattle.c_model.specs.Parts.{parts}
use Rattle.c_model.specs.Width.{most_of_functions}
use Rattle.c_steps.specs.Rests.{parts_from}
use Rattle.c_steps.proofs.widths.most_of_functions.Given as goal

abbrev pub invariant-loop-part : goal.invariant-loop-part
invariant-loop-part l =
    max l.most (most_of_functions l.program (parts_from (tree_at l.program.trees l.root) l.place))
    ≡ most_of_functions l.program (parts (tree_at l.program.trees l.root))

abbrev pub decreases-loop-part : goal.decreases-loop-part
decreases-loop-part l = length (parts_from (tree_at l.program.trees l.root) l.place)
