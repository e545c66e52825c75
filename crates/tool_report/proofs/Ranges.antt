-- What is written for each number of a range.
use Rattle.std.proofs.Common.{◌≡◌, ℕ, zero, suc, ◌+◌, ◌<◌, List, ◌++◌, refl, arith, append-nil, append_assoc}
use Rattle.std.specs.List.{flat_map, range_with_len}

-- two that write the same for each number write the same
pub same-lines : (f g : ℕ → List ℕ) (a n : ℕ) → ((k : ℕ) → k < a + n → f k ≡ g k) → flat_map f (range_with_len a n) ≡ flat_map g (range_with_len a n)
same-lines f g a zero same = refl
same-lines f g a (suc n) same = rw (same a (omega arith), same-lines f g (a + 1) n (λ k below. same k (omega arith))) refl

-- a range that begins one further
pub shifted : (f : ℕ → List ℕ) (a n : ℕ) → flat_map f (range_with_len (suc a) n) ≡ flat_map (λ (k : ℕ). f (suc k)) (range_with_len a n)
shifted f a zero = refl
shifted f a (suc n) = rw (one-further a, shifted f (a + 1) n) refl
  where
    one-further : (a : ℕ) → suc a + 1 ≡ suc (a + 1)
    one-further a = omega arith

-- a range of one number more
pub one-longer : (f : ℕ → List ℕ) (a n k : ℕ) → a + n ≡ k → flat_map f (range_with_len a (n + 1)) ≡ flat_map f (range_with_len a n) ++ f k
one-longer f a zero k is = let here : a ≡ k = omega arith in rw (here, append-nil) refl
one-longer f a (suc n) k is = rw (one-more n) (rw (one-longer f (a + 1) n k (omega arith), append_assoc) refl)
  where
    one-more : (n : ℕ) → suc n + 1 ≡ suc (n + 1)
    one-more n = omega arith
