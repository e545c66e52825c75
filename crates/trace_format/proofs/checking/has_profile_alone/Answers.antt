use Rattle.std.proofs.Common.{eq-eqb, eqb-true}
use Rattle.trace_format.proofs.ProfileMask.{profile_alone, profile_and}
use Rattle.trace_format.proofs.checking.has_profile_alone.Goals as goal

pub returns : goal.returns
returns c = (
  λ same number. profile_alone c.args.mask number (eqb-true _ c.args.mask same),
  λ alone. eq-eqb _ _ (profile_and c.args.mask c.ranges.mask.fits alone),
)
