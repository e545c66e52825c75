use Rattle.std.proofs.Common.{◌≡◌, length}
use Rattle.c_syntax.specs.language.Numbered.{tree_at}
use Rattle.c_model.specs.Calls.{file_bound}
use Rattle.c_steps.specs.Rests.{parts_from}
use Rattle.c_steps.specs.FileNames.{declared_by}
use Rattle.c_steps.proofs.file.FileNames.new.Given as goal

-- what is left declares the rest
abbrev pub invariant-loop-part : goal.invariant-loop-part
invariant-loop-part l = declared_by l.program l.file (parts_from (tree_at l.program.trees l.root) l.place) ≡ file_bound l.program

abbrev pub decreases-loop-part : goal.decreases-loop-part
decreases-loop-part l = length (parts_from (tree_at l.program.trees l.root) l.place)
