use Rattle.std.proofs.Common.{◌≡◌, List, [], sym, ap, ◌∙◌}
use Rattle.c_syntax.specs.language.Tree.{Tree}
use Rattle.c_syntax.specs.language.Numbered.{tree_at}
use Rattle.c_model.specs.Cells.{with_declarators}
use Rattle.c_model.specs.Parts.{flat_declarations}
use Rattle.c_model.specs.Program.{variables_among}
use Rattle.c_steps.specs.FileNames.{declared_by}
use Rattle.c_steps.specs.Rests.{parts_from}
use Rattle.c_steps.proofs.file.FileNames.new.Goals as goal

pub returns : goal.returns
unfolding with_declarators flat_declarations variables_among
returns c =
    let none : parts_from (tree_at c.args.program.now.trees c.root-root.result) c.loop-part.place ≡ [] = rw c.tree-in-loop-part.ensures at c.in_default.ensures.parts in
    sym (ap (λ (parts : List Tree). declared_by c.args.program.now c.loop-part.file parts) none) ∙ c.loop-part.invariant
