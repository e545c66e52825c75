use Rattle.std.proofs.Common.{refl}
use Rattle.ompt_calls.proofs.Masks.{none-above}
use Rattle.ompt_calls.proofs.mask.is_registered.Goals as goal

pub returns-then-number-ge-BITS : goal.returns-then-number-ge-BITS
returns-then-number-ge-BITS c = rw (none-above c.args.mask c.args.number c.ranges.mask.fits c.if-number-ge-BITS.true) refl
