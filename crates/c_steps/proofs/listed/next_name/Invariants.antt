use Rattle.std.proofs.Common.{◌≡◌, length}
use Rattle.c_syntax.specs.language.Numbered.{tree_at}
use Rattle.c_steps.specs.Rests.{parts_from}
use Rattle.c_steps.specs.ListedNames.{names_from}
use Rattle.c_steps.proofs.listed.next_name.Given as goal

-- no name was passed over
abbrev pub invariant-loop-part : goal.invariant-loop-part
invariant-loop-part l = names_from (tree_at l.tree.trees l.construct) l.place ≡ names_from (tree_at l.tree.trees l.construct) l.fn.from

abbrev pub decreases-loop-part : goal.decreases-loop-part
decreases-loop-part l = length (parts_from (tree_at l.tree.trees l.construct) l.place.part)
