use Rattle.std.proofs.Common.{◌≡◌, drop}
use Rattle.omp_codes.specs.declared.callbacks.TheConstants.{PROFILE_MASK}
use Rattle.tool_api.proofs.Registering.{registered_from}
use Rattle.tool_api.proofs.registrar.Registrar.set_profile.Given as goal

-- the rest of the profile makes the mask whole
abbrev pub invariant-loop-number : goal.invariant-loop-number
invariant-loop-number l = registered_from l.self (drop l.number-index l.number-items) ≡ PROFILE_MASK
