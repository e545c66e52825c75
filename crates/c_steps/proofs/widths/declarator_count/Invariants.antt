use Rattle.std.proofs.Common.{◌≡◌, ◌+◌, length}
use Rattle.c_syntax.specs.language.Numbered.{tree_at}
use Rattle.c_model.specs.Parts.{flat_declarations, parts}
use Rattle.c_steps.specs.Rests.{parts_from}
use Rattle.c_steps.specs.Widths.{declarators_among}
use Rattle.c_steps.proofs.widths.declarator_count.Given as goal

abbrev pub invariant-loop-part : goal.invariant-loop-part
invariant-loop-part l =
    l.count + declarators_among (flat_declarations (parts_from (tree_at l.tree.trees l.block) l.place))
    ≡ declarators_among (flat_declarations (parts (tree_at l.tree.trees l.block)))

abbrev pub decreases-loop-part : goal.decreases-loop-part
decreases-loop-part l = length (parts_from (tree_at l.tree.trees l.block) l.place)
