use Rattle.c_syntax.specs.language.Numbered.{tree_at}
use Rattle.c_check.specs.Tasks.{from_place}
use Rattle.c_model.specs.Parts.{parts}
use Rattle.c_steps.proofs.FirstFunctions.{first_at_start}
use Rattle.c_steps.proofs.functions.Functions.new.Goals as goal

pub loop-part-init : goal.loop-part-init
unfolding from_place
loop-part-init c = rw c.new.ensures.items (first_at_start c.args.tree.now.trees (parts (tree_at c.args.tree.now.trees c.root-root.result)))
