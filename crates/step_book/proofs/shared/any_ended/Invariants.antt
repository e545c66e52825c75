use Rattle.std.proofs.Common.{◌≡◌, take}
use Rattle.step_book.specs.Sharing.{any_ended}
use Rattle.step_book.proofs.shared.any_ended.Given as goal

-- whether one of those so far has
abbrev pub invariant-loop-pass : goal.invariant-loop-pass
invariant-loop-pass g l = l.ended ≡ any_ended (take l.pass-index l.passes)
