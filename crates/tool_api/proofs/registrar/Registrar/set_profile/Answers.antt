use Rattle.std.proofs.Common.{◌≡◌, ℕ, ◌==◌, refl}
use Rattle.std.specs.List.{All}
use Rattle.std.proofs.lemmas.Bool.{eqb-true}
use Rattle.std.proofs.lemmas.List.Sums.{AllPass-from_list_all}
use Rattle.omp_codes.specs.Answers.{answer_of}
use Rattle.omp_codes.specs.declared.callbacks.TheConstants.{PROFILE, PROFILE_MASK}
use Rattle.tool_api.proofs.Registering.{registered-more}
use Rattle.tool_api.proofs.registrar.Registrar.set_profile.Goals as goal

always : All (λ (number : ℕ). answer_of number ≡ 5) PROFILE
always k d below = eqb-true _ _ (AllPass-from_list_all (λ (number : ℕ). answer_of number == 5) PROFILE refl k d below)

pub loop-number-preserved : goal.loop-number-preserved
loop-number-preserved c = registered-more PROFILE c.loop-number.number-index c.loop-number.self c.set.new.self PROFILE_MASK always c.loop-number-test.true c.set.ensures.registers c.loop-number.invariant
