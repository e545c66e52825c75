use Rattle.std.proofs.Common.{◌≡◌, ◌+◌, length}
use Rattle.c_syntax.specs.language.Numbered.{tree_at}
use Rattle.c_model.specs.Parts.{parts}
use Rattle.c_steps.specs.Rests.{parts_from}
use Rattle.c_steps.specs.Widths.{declarators_among}
use Rattle.c_steps.proofs.widths.listed_declarators.Given as goal

abbrev pub invariant-loop-part : goal.invariant-loop-part
invariant-loop-part l =
    l.count + declarators_among (parts_from (tree_at l.tree.trees l.declaration) l.place)
    ≡ declarators_among (parts (tree_at l.tree.trees l.declaration))

abbrev pub decreases-loop-part : goal.decreases-loop-part
decreases-loop-part l = length (parts_from (tree_at l.tree.trees l.declaration) l.place)
