use Rattle.std.proofs.Common.{◌≡◌, length}
use Rattle.c_model.specs.declared.entry.Entry.{Entry}
use Rattle.c_model.specs.Cells.{last_named}
use Rattle.c_steps.proofs.in_scope.newest_named.Given as goal

-- the newer entries have other names
abbrev pub invariant-loop-entry : goal.invariant-loop-entry
invariant-loop-entry l = (found : Entry) → last_named l.name found l.older ≡ last_named l.name found l.entries

abbrev pub decreases-loop-entry : goal.decreases-loop-entry
decreases-loop-entry l = length l.older
