use Rattle.std.proofs.Common.{◌≡◌, length}
use Rattle.c_model.specs.Cells.{first_named}
use Rattle.c_steps.proofs.in_scope.first_named.Given as goal

-- the older entries have other names
abbrev pub invariant-loop-entry : goal.invariant-loop-entry
invariant-loop-entry l = first_named l.name l.newer ≡ first_named l.name l.entries

abbrev pub decreases-loop-entry : goal.decreases-loop-entry
decreases-loop-entry l = length l.newer
