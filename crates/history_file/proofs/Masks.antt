-- The masks in which each callback is one that is called always.
use Rattle.std.proofs.Common.{◌≡◌, ◌≢◌, ℕ, zero, suc, ◌+◌, ◌<◌, ◌^◌, ◌==◌, ◌||◌, not, Bool, true, false, inl, inr, refl, sym, subst, add-one, arith}
use Rattle.std.proofs.lemmas.Bool.{and_from, and_parts, cases_Bool, cases_lt, eq-eqb, eqb-true}
use Rattle.std.proofs.lemmas.Nat.Bits.{bit_at_above}
use Rattle.omp_codes.specs.Answers.{answer_of}
use Rattle.ompt_calls.specs.Number.{is_registered}
use Rattle.tool_api.specs.Registering.{AreAlways}
use Rattle.history_file.specs.Reading.{always_below, is_mask}

-- the test of one callback
abbrev test_of : Bool → ℕ → Bool
test_of registered answer = not registered || answer == 5

says : (registered : Bool) (answer : ℕ) → registered ≡ true → test_of registered answer ≡ true → answer ≡ 5
says true answer is tested = eqb-true answer 5 tested
says false answer is tested = cc

passes : (registered : Bool) (answer : ℕ) → (registered ≡ true → answer ≡ 5) → test_of registered answer ≡ true
passes true answer always = eq-eqb answer 5 (always refl)
passes false answer always = refl

-- one callback more
pub always_next : (mask n : ℕ) → always_below mask n ≡ true → (is_registered mask n ≡ true → answer_of n ≡ 5) → always_below mask (n + 1) ≡ true
unfolding always_below
always_next mask n before here = rw add-one (and_from (always_below mask n) (test_of (is_registered mask n) (answer_of n)) before (passes (is_registered mask n) (answer_of n) here))

pub always_none : (mask : ℕ) → always_below mask 0 ≡ true
unfolding always_below
always_none mask = refl

each_below : (mask m n : ℕ) → always_below mask m ≡ true → n < m → is_registered mask n ≡ true → answer_of n ≡ 5
unfolding always_below
each_below mask zero n all less registered = absurd (omega arith)
each_below mask (suc m) n all less registered =
    let parts = and_parts (always_below mask m) (test_of (is_registered mask m) (answer_of m)) all in
    elim (cases_lt n m) [
      | inl lower ↦ each_below mask m n parts.0 lower registered
      | inr not_lower ↦
          let same : m ≡ n = omega arith in
          says (is_registered mask n) (answer_of n) registered (subst (λ (k : ℕ). test_of (is_registered mask k) (answer_of k) ≡ true) same parts.1)
    ]

all_below : (mask m : ℕ) → AreAlways mask → always_below mask m ≡ true
unfolding always_below
all_below mask zero are = refl
all_below mask (suc m) are = and_from (always_below mask m) (test_of (is_registered mask m) (answer_of m)) (all_below mask m are) (passes (is_registered mask m) (answer_of m) (are m))

-- a callback that isn't called always is none of such a mask
pub mask_refused : (mask n : ℕ) → n < 64 → is_registered mask n ≡ true → answer_of n ≢ 5 → false ≡ is_mask mask
unfolding is_mask
mask_refused mask n few registered other =
    elim (cases_Bool (always_below mask 64)) [
      | inl all ↦ absurd (other (each_below mask 64 n all few registered))
      | inr not_all ↦ sym not_all
    ]

pub mask_passed : (mask : ℕ) → always_below mask 64 ≡ true → true ≡ is_mask mask
unfolding is_mask
mask_passed mask all = sym all

-- the test is that of the definition
pub are_always : (mask : ℕ) → mask < 2 ^ 64 → is_mask mask ≡ true → AreAlways mask
unfolding is_mask
are_always mask small all n registered =
    elim (cases_lt n 64) [
      | inl few ↦ each_below mask 64 n all few registered
      | inr many ↦
          let none : (0 == 1) ≡ true = subst (λ (bit : ℕ). (bit == 1) ≡ true) (bit_at_above mask 64 n small many) registered in
          absurd (cc none)
    ]

pub is_mask_of : (mask : ℕ) → AreAlways mask → is_mask mask ≡ true
unfolding is_mask
is_mask_of mask are = all_below mask 64 are
