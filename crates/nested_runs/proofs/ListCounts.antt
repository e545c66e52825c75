-- How many elements of a list pass a test, and flags that are set.
use Rattle.std.proofs.Common.{ℕ, zero, suc, ◌≡◌, ◌<◌, ◌≤◌, ◌+◌, not, Bool, true, false, if◌then◌else◌, List, [], ◌∷◌, length, slice_index_or, slice_set, refl, ap, ◌∙◌, arith}
use Rattle.std.specs.Prelude.{count_by, take}
use Rattle.std.specs.List.{list_all}
use Rattle.std.proofs.lemmas.Bool.{and_from, and_parts, eq-eqb, ne_eqb}
use Rattle.std.proofs.lemmas.List.Sums.{sum_by-cons, sum_by-set}
use Rattle.nested_runs.proofs.Known.{is_some_task}

-- a test that passes counts 1
abbrev one_if : Bool → ℕ
one_if b = if b then 1 else 0

-- one element more passes a test
pub count-set : {X : Type 0} (test : X → Bool) (xs : List X) (i : ℕ) (y d : X) → i < length xs → test (slice_index_or xs i d) ≡ false → test y ≡ true →
    count_by test (slice_set xs i y) ≡ count_by test xs + 1
count-set test xs i y d within before now =
    omega (arith, sum_by-set (λ x. one_if (test x)) xs i y d within, ap one_if before, ap one_if now)

-- the first ones pass, so many, and no other
pub count-first : (xs : List ℕ) (n : ℕ) → n ≤ length xs → ((i : ℕ) → i < n → 1 ≤ slice_index_or xs i 0) → ((i : ℕ) → n ≤ i → slice_index_or xs i 0 ≡ 0) →
    count_by is_some_task xs ≡ n
count-first [] n fits first rest = omega (arith, fits)
count-first (x ∷ xs) zero fits first rest =
    let later = count-first xs zero (omega arith) (λ i below. absurd (omega (arith, below))) (λ i above. rest (suc i) (omega arith)) in
    sum_by-cons (λ (k : ℕ). one_if (is_some_task k)) x xs
    ∙ (ap (λ (b : Bool). one_if (not b) + count_by is_some_task xs) (eq-eqb x 0 (rest 0 (omega arith))) ∙ omega (arith, later))
count-first (x ∷ xs) (suc n) fits first rest =
    let some : 1 ≤ x = first 0 (omega arith) in
    let later = count-first xs n (omega (arith, fits)) (λ i below. first (suc i) (omega (arith, below))) (λ i above. rest (suc i) (omega (arith, above))) in
    sum_by-cons (λ (k : ℕ). one_if (is_some_task k)) x xs
    ∙ (ap (λ (b : Bool). one_if (not b) + count_by is_some_task xs) (ne_eqb x 0 (λ is. omega (arith, is, some))) ∙ omega (arith, later))

-- where all of the first flags are set, they are with one more that is set
pub all-with-set : (flags : List Bool) (n i : ℕ) → list_all (λ (flag : Bool). flag) (take n flags) ≡ true →
    list_all (λ (flag : Bool). flag) (take n (slice_set flags i true)) ≡ true
all-with-set [] n i all = all
all-with-set (flag ∷ flags) zero i all = refl
all-with-set (flag ∷ flags) (suc n) zero all = and_from true _ refl (and_parts flag _ all).1
all-with-set (flag ∷ flags) (suc n) (suc i) all = let parts = and_parts flag _ all in and_from flag _ parts.0 (all-with-set flags n i parts.1)
