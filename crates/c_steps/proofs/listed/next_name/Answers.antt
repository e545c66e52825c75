use Rattle.std.proofs.Common.{◌+◌, sym, ◌∙◌}
use Rattle.c_syntax.specs.language.Numbered.{tree_at}
use Rattle.c_steps.specs.Rests.{parts_from}
use Rattle.c_steps.proofs.ListedNames.{behind_part, listed_behind_start}
use Rattle.c_steps.proofs.listed.next_name.Goals as goal

pub loop-part-preserved : goal.loop-part-preserved
loop-part-preserved c =
    listed_behind_start (parts_from (tree_at c.args.tree.now.trees c.args.construct) (c.loop-part.place.part + 1))
    ∙ sym (behind_part c.loop-part.place.name (tree_at c.args.tree.now.trees c.in-Some.part) _ _ c.in-Some.ensures.parts c.in_default-name_listed_by.ensures.names)
    ∙ c.loop-part.invariant
