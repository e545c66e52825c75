use Rattle.std.proofs.Common.{◌≡◌, length}
use Rattle.c_syntax.specs.language.Numbered.{tree_at}
use Rattle.c_model.specs.Cells.{with_declarators}
use Rattle.c_model.specs.Parts.{parts}
use Rattle.c_steps.specs.Rests.{parts_from}
use Rattle.c_steps.proofs.file.FileNames.declare_all.Given as goal

-- what is left declares the rest
abbrev pub invariant-loop-declarator : goal.invariant-loop-declarator
invariant-loop-declarator l =
    with_declarators l.program l.self (parts_from (tree_at l.program.trees l.declaration) l.place)
    ≡ with_declarators l.program l.fn.self (parts (tree_at l.program.trees l.declaration))

abbrev pub decreases-loop-declarator : goal.decreases-loop-declarator
decreases-loop-declarator l = length (parts_from (tree_at l.program.trees l.declaration) l.place)
