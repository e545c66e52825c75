-- Tests on lists: an element that passes, and all that lie within a range.
use Rattle.std.proofs.Common.{ℕ, zero, suc, ◌≡◌, ◌<◌, ◌≤◌, ◌+◌, ◌==◌, not, Bool, true, false, if◌then◌else◌, List, [], ◌∷◌, length, take, slice_index_or, slice_set, refl, sym, ◌∙◌, subst, inl, inr, arith}
use Rattle.std.specs.Prelude.{count_by, filter}
use Rattle.std.specs.List.{list_all, list_any, range_with_len}
use Rattle.std.proofs.lemmas.Bool.{and_from, and_parts, cases_Bool, eq-eqb, ne_eqb, or_cases, or_left, or_right, true≢false}
use Rattle.std.proofs.lemmas.List.{get_or-take, length-take-le}
use Rattle.std.proofs.lemmas.List.Sums.{AllPass-from_list_all, sum_by-cons}

-- an element that passes a test
pub any-at : {X : Type 0} (test : X → Bool) (xs : List X) (d : X) → list_any test xs ≡ true → (i : ℕ) × (i < length xs) × (test (slice_index_or xs i d) ≡ true)
any-at test [] d found = absurd (true≢false (sym found))
any-at test (x ∷ xs) d found =
    elim (or_cases (test x) _ found) [
      | inl here ↦ (zero, omega arith, here)
      | inr later ↦ let at = any-at test xs d later in (suc at.0, omega (arith, at.1), at.2)
    ]

-- one that passes in what a filter keeps
pub any-filter : {X : Type 0} (keeps test : X → Bool) (xs : List X) → list_any test (filter keeps xs) ≡ true → list_any test xs ≡ true
any-filter keeps test [] found = found
any-filter keeps test (x ∷ xs) found =
    elim (cases_Bool (keeps x)) [
      | inl kept ↦ elim (or_cases (test x) _ (subst (λ b. list_any test (if b then x ∷ filter keeps xs else filter keeps xs) ≡ true) kept found)) [
        | inl here ↦ or_left (test x) _ here
        | inr later ↦ or_right (test x) _ (any-filter keeps test xs later)
      ]
      | inr dropped ↦
          or_right (test x) _ (any-filter keeps test xs (subst (λ b. list_any test (if b then x ∷ filter keeps xs else filter keeps xs) ≡ true) dropped found))
    ]

-- all within a range pass
pub all-in-range : (test : ℕ → Bool) (from count : ℕ) → ((i : ℕ) → from ≤ i → i < from + count → test i ≡ true) →
    list_all test (range_with_len from count) ≡ true
all-in-range test from zero each = refl
all-in-range test from (suc count) each =
    and_from (test from) _ (each from (omega arith) (omega arith))
    (all-in-range test (from + 1) count (λ i low high. each i (omega (arith, low)) (omega (arith, high))))

-- where all of the first flags are set, each is
pub flag-at : (flags : List Bool) (size i : ℕ) → list_all (λ (flag : Bool). flag) (take size flags) ≡ true → i < size → size ≤ length flags →
    slice_index_or flags i false ≡ true
flag-at flags size i all below fits =
    sym (get_or-take size flags i false below)
    ∙ AllPass-from_list_all (λ (flag : Bool). flag) (take size flags) all i false (omega (arith, length-take-le size flags fits, below))

-- and they are still where one more is set
pub all-set : (flags : List Bool) (size i : ℕ) → list_all (λ (flag : Bool). flag) (take size flags) ≡ true →
    list_all (λ (flag : Bool). flag) (take size (slice_set flags i true)) ≡ true
all-set [] size i all = all
all-set (flag ∷ flags) zero i all = refl
all-set (flag ∷ flags) (suc size) zero all = (and_parts flag _ all).1
all-set (flag ∷ flags) (suc size) (suc i) all = let parts = and_parts flag _ all in and_from flag _ parts.0 (all-set flags size i parts.1)

-- ---- the first of a list are at least 1, and no others

abbrev pub is_nonzero : ℕ → Bool
is_nonzero n = not (n == 0)

-- so many of them
pub count-first : (xs : List ℕ) (n : ℕ) → n ≤ length xs → ((i : ℕ) → i < n → 1 ≤ slice_index_or xs i 0) → ((i : ℕ) → n ≤ i → slice_index_or xs i 0 ≡ 0) →
    count_by is_nonzero xs ≡ n
count-first [] n fits first beyond = omega (arith, fits)
count-first (x ∷ xs) zero fits first beyond =
    let none : x ≡ 0 = beyond zero (omega arith) in
    let rest = count-first xs zero (omega arith) (λ i below. absurd (omega (arith, below))) (λ i far. beyond (suc i) (omega arith)) in
    sum_by-cons (λ (k : ℕ). if is_nonzero k then 1 else 0) x xs ∙ rw (eq-eqb x 0 none) (omega (arith, rest))
count-first (x ∷ xs) (suc n) fits first beyond =
    let some : 1 ≤ x = first zero (omega arith) in
    let rest = count-first xs n (omega (arith, fits)) (λ i below. first (suc i) (omega (arith, below))) (λ i far. beyond (suc i) (omega (arith, far))) in
    sum_by-cons (λ (k : ℕ). if is_nonzero k then 1 else 0) x xs ∙ rw (ne_eqb x 0 (λ is. omega (arith, is, some))) (omega (arith, rest))
