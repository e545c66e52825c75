-- Sets of threads, by the bits of their numbers.
use Rattle.std.proofs.Common.{◌≡◌, ◌≢◌, ℕ, ◌<◌, ◌≤◌, ◌-◌, ◌^◌, ◌*◌, suc, zero, min, max, true, false, not, ◌||◌, ◌&&◌, ◌==◌, bit_or, bit_and, refl, inl, inr, arith}
use Rattle.std.specs.Int.{bit_at}
use Rattle.std.proofs.lemmas.Bool.{cases_lt}
use Rattle.std.proofs.lemmas.Bool.Decides.{nat_tests}
use Rattle.std.proofs.lemmas.Nat.Bits.{and_pow, bit_at-lt, bit_at-zero, bit_at_above, bit_at_and, bit_at_not, bit_at_or, bit_at-pow_same, bit_at-pow_other}
use Rattle.std.proofs.lemmas.Nat.{pow_below, pow_pos}
use Rattle.std.proofs.Math.Bool.{or-true, or-false, and-true, and-false}
use Rattle.std.specs.Int.Bits.{and_zero_r}
use mir.Syntax.{w16}
use Rattle.thread_wakes.specs.ThreadSets.{has_thread}

either-bit : (a b : ℕ) → a < 2 → b < 2 → (max a b == 1) ≡ ((a == 1) || (b == 1))
either-bit a b below-a below-b = grind (arith, nat_tests)

without-bit : (a b : ℕ) → a < 2 → b < 2 → (min a (1 - b) == 1) ≡ ((a == 1) && not (b == 1))
without-bit a b below-a below-b = grind (arith, nat_tests)

pub has-union : (a b t : ℕ) → has_thread (bit_or a b) t ≡ (has_thread a t || has_thread b t)
has-union a b t = rw (bit_at_or a b t) (either-bit (bit_at a t) (bit_at b t) (bit_at-lt a t) (bit_at-lt b t))

pub has-minus : (a b t : ℕ) → a < 2 ^ 16 → b < 2 ^ 16
    → has_thread (bit_and a (2 ^ 16 - 1 - b)) t ≡ (has_thread a t && not (has_thread b t))
has-minus a b t fits-a fits-b =
    elim (cases_lt t 16) [
      | inl near ↦
          rw (bit_at_and a (2 ^ 16 - 1 - b) t, bit_at_not w16 b t fits-b near)
          (without-bit (bit_at a t) (bit_at b t) (bit_at-lt a t) (bit_at-lt b t))
      | inr far ↦
          let zero = bit_at_above a 16 t fits-a far in
          let none : bit_at (bit_and a (2 ^ 16 - 1 - b)) t ≡ 0 = omega (arith, bit_at_and a (2 ^ 16 - 1 - b) t, zero) in
          rw (none, zero) refl
    ]

-- the set that has no thread but this one, where a run may have it
pub record IsAlone (thread set : ℕ) : Type 0 where
  pub fits : set < 2 ^ 16
  pub this : thread < 16 → has_thread set thread ≡ true
  pub others : (t : ℕ) → t ≢ thread → has_thread set t ≡ false

pub has-none : (t : ℕ) → has_thread 0 t ≡ false
has-none t = rw (bit_at-zero t) refl

pub bit-alone : (thread set : ℕ) → (thread < 16 → set ≡ 2 ^ thread) → (16 ≤ thread → set ≡ 0) → IsAlone thread set
bit-alone thread set one none =
    elim (cases_lt thread 16) [
      | inl near ↦ rw (one near) record {
        fits = pow_below thread 16 near;
        this = λ _. rw (bit_at-pow_same thread) refl;
        others = λ t other. rw (bit_at-pow_other thread t other) refl;
      }
      | inr far ↦ rw (none far) record {
        fits = omega arith;
        this = λ near. absurd (omega (arith, near, far));
        others = λ t other. has-none t;
      }
    ]

beyond : (set t : ℕ) → set < 2 ^ 16 → 16 ≤ t → has_thread set t ≡ false
beyond set t fits far = rw (bit_at_above set 16 t fits far) refl

pub with-this : (set thread bit : ℕ) → IsAlone thread bit → thread < 16 → has_thread (bit_or set bit) thread ≡ true
with-this set thread bit alone near = rw (has-union set bit thread, alone.this near) (or-true (has_thread set thread))

pub with-others : (set thread bit t : ℕ) → IsAlone thread bit → t ≢ thread → has_thread (bit_or set bit) t ≡ has_thread set t
with-others set thread bit t alone other = rw (has-union set bit t, alone.others t other) (or-false (has_thread set t))

pub without-this : (set thread bit : ℕ) → set < 2 ^ 16 → IsAlone thread bit
    → has_thread (bit_and set (2 ^ 16 - 1 - bit)) thread ≡ false
without-this set thread bit fits alone =
    elim (cases_lt thread 16) [
      | inl near ↦ rw (has-minus set bit thread fits alone.fits, alone.this near) (and-false (has_thread set thread))
      | inr far ↦ rw (has-minus set bit thread fits alone.fits, beyond set thread fits far) refl
    ]

pub without-others : (set thread bit t : ℕ) → set < 2 ^ 16 → IsAlone thread bit → t ≢ thread
    → has_thread (bit_and set (2 ^ 16 - 1 - bit)) t ≡ has_thread set t
without-others set thread bit t fits alone other =
    rw (has-minus set bit t fits alone.fits, alone.others t other) (and-true (has_thread set t))

tested : (bit power : ℕ) → bit < 2 → 0 < power → not (bit * power == 0) ≡ (bit == 1)
tested zero power below some = grind (arith, nat_tests)
tested (suc zero) power below some = grind (arith, nat_tests)
tested (suc (suc bit)) power below some = absurd (omega arith)

pub has-test : (set thread bit : ℕ) → set < 2 ^ 16 → (thread < 16 → bit ≡ 2 ^ thread) → (16 ≤ thread → bit ≡ 0)
    → not (bit_and set bit == 0) ≡ has_thread set thread
has-test set thread bit fits one none =
    elim (cases_lt thread 16) [
      | inl near ↦ rw (one near, and_pow set thread) (tested (bit_at set thread) (2 ^ thread) (bit_at-lt set thread) (pow_pos thread))
      | inr far ↦ rw (none far, and_zero_r set, beyond set thread fits far) refl
    ]
