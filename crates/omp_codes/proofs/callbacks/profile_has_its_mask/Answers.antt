use Rattle.omp_codes.proofs.Profile.{profile-bits}
use Rattle.omp_codes.proofs.callbacks.profile_has_its_mask.Goals as goal

pub returns-clause-bits : goal.returns-clause-bits
returns-clause-bits c = profile-bits
