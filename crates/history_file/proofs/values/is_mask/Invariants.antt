use Rattle.std.proofs.Common.{◌≡◌, true}
use Rattle.history_file.specs.Reading.{always_below}
use Rattle.history_file.proofs.values.is_mask.Given as goal

-- each of the callbacks before is called always where it is registered
abbrev pub invariant-loop-number : goal.invariant-loop-number
invariant-loop-number l = always_below l.mask l.number ≡ true
