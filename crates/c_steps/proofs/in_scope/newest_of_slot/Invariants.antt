use Rattle.std.proofs.Common.{◌≡◌, length}
use Rattle.c_model.specs.declared.entry.Entry.{Entry}
use Rattle.c_model.specs.Cells.{last_of_slot}
use Rattle.c_steps.proofs.in_scope.newest_of_slot.Given as goal

-- the newer entries have other slots
abbrev pub invariant-loop-entry : goal.invariant-loop-entry
invariant-loop-entry l = (found : Entry) → last_of_slot l.slot found l.older ≡ last_of_slot l.slot found l.entries

abbrev pub decreases-loop-entry : goal.decreases-loop-entry
decreases-loop-entry l = length l.older
