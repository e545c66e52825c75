-- What is joined of a part and a profile before a run.
use Rattle.std.proofs.Common.{◌≡◌, ℕ, List, [], refl, ap, subst, ◌∙◌, arith}
use Rattle.std.proofs.lemmas.List.Elements.{All-nil}
use Rattle.omp_codes.specs.declared.callbacks.TheConstants.{PROFILE_MASK}
use Rattle.tool_api.specs.Record.{Record, Start, initialized}
use Rattle.tool_api.specs.Registering.{mask_of}
use Rattle.tool_both.specs.declared.masks.Masks.{Masks}
use Rattle.tool_both.specs.Tools.{HasTools, IsUnheard, fresh_both}
use Rattle.tool_report.specs.Counts.{counts_of}
use Rattle.tool_report.specs.KeeperRelation.{ProfileFor}
use Rattle.tool_profiled.specs.declared.asked.Asked.{Asked}
use Rattle.tool_profiled.specs.Asking.{AskedFor}
use Rattle.tool_profiled.specs.Joining.{IsFresh, Profiled, ProfiledFor, nothing_counted}

-- a profile that has counted nothing
pub nothing-counted : (counts : List ℕ) → counts ≡ counts_of [] → ProfileFor counts nothing_counted
nothing-counted counts is = record { started = All-nil _; silent = All-nil _; events = is; alone = refl }

nothing-told : IsUnheard nothing_counted
nothing-told = record { calls = refl; finished = refl; unheard = refl }

-- a profile that was asked has counted nothing still
pub asked-counts : (counts : List ℕ) (answer registered : ℕ) → ProfileFor counts (initialized nothing_counted answer registered) → counts ≡ counts_of []
asked-counts counts answer registered stands = stands.events

-- and has registered the whole profile
pub record HasProfile (second answer : ℕ) : Type 0 where
  pub mask : second ≡ PROFILE_MASK
  pub answer_is : answer ≡ 1

pub asked-mask : (counts : List ℕ) (second answer registered : ℕ) → second ≡ mask_of answer registered → ProfileFor counts (initialized nothing_counted answer registered) → HasProfile second answer
asked-mask counts second answer registered is stands =
    let start : Start = record { answer = answer; mask = registered } in
    let started = stands.started 0 start (omega arith) in
    record { mask = is ∙ ap (λ (n : ℕ). mask_of n registered) started.0 ∙ started.1; answer_is = started.0 }

-- what is joined of a part and such a profile is fresh
pub joined-fresh : {P : Type 0} (part_for : P → Record → Type 0) (masks : Masks) (both : Profiled P) (asked : Asked P) (counts : List ℕ) → HasTools both asked counts → counts ≡ counts_of []
    → ((g h : Record) → AskedFor part_for asked.0 g → ProfileFor counts h → IsUnheard g → IsUnheard h → ProfiledFor part_for both (fresh_both masks g h)) → IsFresh part_for masks both
joined-fresh part_for masks both asked counts tools nothing stands g unheard for =
    stands g nothing_counted (subst (λ (tool : Asked _). AskedFor part_for tool.0 g) tools.first_is for) (nothing-counted counts nothing) unheard nothing-told
