-- The masks that a header may have, and its origin.
use Rattle.std.proofs.Common.{ℕ, ◌≡◌, ◌==◌, ◌&&◌, ◌||◌, Bool, true, false, not, [], ◌∷◌, inl, inr, refl, arith}
use Rattle.std.specs.Int.Bits.{bit_and}
use Rattle.std.proofs.lemmas.Bool.{and_from, and_parts, eqb-true, or_cases, or_left, or_right}
use Rattle.omp_codes.specs.declared.callbacks.TheConstants.{DISPATCH, PROFILE_MASK}
use Rattle.ompt_calls.specs.Number.{is_registered}
use Rattle.trace_format.specs.declared.trace.Header.{Header}
use Rattle.trace_format.specs.declared.trace.TheConstants.{FIRST_VERSION, MIGRATED, RECORDED, VERSION}
use Rattle.trace_format.specs.Accepting.{accepts_mask}
use Rattle.trace_format.specs.Validity.{IsAmong, IsLong, IsMask, IsOrigin, is_among}
use Rattle.trace_format.proofs.Values.{same_test}
use Rattle.trace_format.proofs.ProfileMask.{profile_alone, profile_and}

implies : (a b : Bool) → (a ≡ true → b ≡ true) → (not a || b) ≡ true
implies true b then_b = then_b refl
implies false b then_b = refl

implied : (a b : Bool) → (not a || b) ≡ true → a ≡ true → b ≡ true
implied true b test here = test
implied false b test here = absurd cc

pub mask_accepted : (header : Header) → IsMask header → accepts_mask header.version header.origin header.mask ≡ true
mask_accepted header is =
    and_from (bit_and header.mask PROFILE_MASK == header.mask) _ (same_test _ header.mask (profile_and header.mask is.long is.profile))
    (implies (is_registered header.mask DISPATCH) (header.version == VERSION && header.origin == RECORDED)
    (λ registered. let both = is.dispatch registered in
    and_from (header.version == VERSION) (header.origin == RECORDED) (same_test header.version VERSION both.0) (same_test header.origin RECORDED both.1)))

pub mask_is : (header : Header) → IsLong header.mask → accepts_mask header.version header.origin header.mask ≡ true → IsMask header
mask_is header small test =
    let both = and_parts (bit_and header.mask PROFILE_MASK == header.mask) (not (is_registered header.mask DISPATCH) || (header.version == VERSION && header.origin == RECORDED)) test in
    record {
      long = small;
      profile = λ number. profile_alone header.mask number (eqb-true _ header.mask both.0);
      dispatch = λ registered.
          let of_run = and_parts (header.version == VERSION) (header.origin == RECORDED) (implied (is_registered header.mask DISPATCH) (header.version == VERSION && header.origin == RECORDED) both.1 registered) in
          (eqb-true header.version VERSION of_run.0, eqb-true header.origin RECORDED of_run.1);
    }

abbrev pub accepts_origin : ℕ → ℕ → Bool
accepts_origin version origin = origin == RECORDED || (origin == MIGRATED && version == VERSION)

pub origin_accepted : (version origin : ℕ) → IsAmong (FIRST_VERSION ∷ VERSION ∷ []) version → IsOrigin version origin → accepts_origin version origin ≡ true
origin_accepted version origin of_version is = elim (or_cases (origin == RECORDED) (is_among (MIGRATED ∷ []) origin) is.0) [
  | inl recorded ↦ or_left (origin == RECORDED) _ recorded
  | inr rest ↦ elim (or_cases (origin == MIGRATED) (is_among [] origin) rest) [
    | inr none ↦ absurd cc
    | inl migrated ↦
        let one = eqb-true origin MIGRATED migrated in
        elim (or_cases (version == FIRST_VERSION) (is_among (VERSION ∷ []) version) of_version) [
          | inl first ↦ let zero_origin = is.1 (eqb-true version FIRST_VERSION first) in absurd (omega (arith, one, zero_origin))
          | inr later ↦ elim (or_cases (version == VERSION) (is_among [] version) later) [
            | inr none ↦ absurd cc
            | inl second ↦ or_right (origin == RECORDED) _ (and_from (origin == MIGRATED) (version == VERSION) migrated second)
          ]
        ]
  ]
]

pub origin_is : (version origin : ℕ) → accepts_origin version origin ≡ true → IsOrigin version origin
origin_is version origin test = elim (or_cases (origin == RECORDED) (origin == MIGRATED && version == VERSION) test) [
  | inl recorded ↦ (or_left (origin == RECORDED) _ recorded, λ first. eqb-true origin RECORDED recorded)
  | inr both ↦
      let parts = and_parts (origin == MIGRATED) (version == VERSION) both in
      let second = eqb-true version VERSION parts.1 in
      (or_right (origin == RECORDED) _ (or_left (origin == MIGRATED) _ parts.0), λ first. absurd (omega (arith, second, first)))
]
