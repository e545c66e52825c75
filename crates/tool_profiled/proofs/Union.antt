-- What a part registers together with a profile.
use Rattle.std.proofs.Common.{◌≡◌, ℕ, ◌<◌, max, Bool, true, false, ◌||◌, ◌==◌, bit_or, if◌then◌else◌, List, [], ◌∷◌, All, refl, ap, subst, ◌∙◌, arith}
use Rattle.std.specs.Int.{bit_at}
use Rattle.std.proofs.lemmas.Bool.Decides.{nat_tests}
use Rattle.std.proofs.lemmas.Nat.Bits.{bit_at-lt, bit_at_or}
use Rattle.omp_codes.specs.declared.callbacks.TheConstants.{PROFILE_MASK}
use Rattle.ompt_calls.specs.Number.{is_registered}
use Rattle.tool_api.specs.Record.{Record, Start}
use Rattle.tool_api.specs.Registering.{mask_of}
use Rattle.tool_both.specs.declared.masks.Masks.{Masks}
use Rattle.tool_both.specs.Joined.{joint_answer, joint_mask}
use Rattle.tool_profiled.specs.Joining.{Profiled, ProfiledFor}

-- of two bits one is 1 where the greater is
either-bit : (a b : ℕ) → a < 2 → b < 2 → (max a b == 1) ≡ ((a == 1) || (b == 1))
either-bit a b below-a below-b = grind (arith, nat_tests)

-- what either of two masks has is in both together
pub in-union : (a b n : ℕ) → is_registered (bit_or a b) n ≡ (is_registered a n || is_registered b n)
in-union a b n = rw (bit_at_or a b n) (either-bit (bit_at a n) (bit_at b n) (bit_at-lt a n) (bit_at-lt b n))

-- both are active where the profile is
both-active : (masks : Masks) → masks.second_answer ≡ 1 → joint_answer masks ≡ 1
both-active masks is = rw is (one (masks.first_answer == 0))
  where
    answer : Bool → ℕ
    answer b = if b then 1 else 1

    one : (b : Bool) → answer b ≡ 1
    one true = refl
    one false = refl

-- so a part with a profile answers 1 when the run starts it, and leaves registered what the part and the profile did
record StartsAs (masks : Masks) (answer registered : ℕ) : Type 0 where
  one : answer ≡ 1
  union : registered ≡ bit_or masks.first masks.second

starts-as : {P : Type 0} (part_for : P → Record → Type 0) (both : Profiled P) (h : Record) (answer registered : ℕ) → ProfiledFor part_for both h → h.started ≡ record { answer = answer; mask = registered } ∷ []
    → both.masks.second_answer ≡ 1 → StartsAs both.masks answer registered
starts-as part_for both h answer registered stands started active =
    let start : Start = record { answer = answer; mask = registered } in
    let all = subst (λ (starts : List Start). All (λ (one : Start). (one.answer ≡ joint_answer both.masks) × (one.mask ≡ joint_mask both.masks)) starts) started stands.joins.started in
    let is = all 0 start (omega arith) in
    record { one = is.0 ∙ both-active both.masks active; union = is.1 }

pub both-answer : {P : Type 0} (part_for : P → Record → Type 0) (both : Profiled P) (h : Record) (answer registered : ℕ) → ProfiledFor part_for both h → h.started ≡ record { answer = answer; mask = registered } ∷ []
    → both.masks.second_answer ≡ 1 → answer ≡ 1
both-answer part_for both h answer registered stands started active = (starts-as part_for both h answer registered stands started active).one

pub union-mask : {P : Type 0} (part_for : P → Record → Type 0) (both : Profiled P) (h : Record) (answer registered : ℕ) → ProfiledFor part_for both h → h.started ≡ record { answer = answer; mask = registered } ∷ []
    → both.masks.second ≡ PROFILE_MASK → both.masks.second_answer ≡ 1 → mask_of answer registered ≡ bit_or both.masks.first PROFILE_MASK
union-mask part_for both h answer registered stands started profile active =
    let is = starts-as part_for both h answer registered stands started active in
    ap (λ (n : ℕ). mask_of n registered) is.one ∙ is.union ∙ ap (bit_or both.masks.first) profile
