-- Members arrive at the barriers that they meet, and pass them, in order: so it is enough to count.
use Rattle.std.proofs.Common.{◌≡◌, ℕ, zero, suc, ◌+◌, ◌-◌, ◌<◌, nat_le, Bool, true, false, cond, List, [], ◌∷◌, ◌++◌, length, set, count_by, refl, sym, ap, subst, ◌∙◌, inl, inr, arith}
use Rattle.std.proofs.lemmas.Bool.{cases_eq, cases_lt, false≢true, le-leb, lt-leb}
use Rattle.std.proofs.lemmas.Bool.Decides.{nat_tests}
use Rattle.std.proofs.lemmas.List.{get_or_append_left, get_or_past, get_or_push, get_or-set_other, get_or-set_same, length_push, length-set}
use Rattle.std.proofs.lemmas.List.Elements.{All-from_get_or}
use Rattle.std.proofs.lemmas.List.Sums.{count_by-le-length, sum_by-cons}
use Rattle.team_parts.specs.Meetings.{is_barrier}
use Rattle.team_words.specs.Team.{Met, met_at, not_met}
use Rattle.team_words.specs.Counted.{is_met_at_barrier}
use Rattle.team_words.proofs.ChangedLists.{count-some, one, one-le, same-count}

-- a flag is set of each barrier but the last meeting, and of nothing else
pub record IsInOrder (flag : Met → Bool) (mets : List Met) : Type 0 where
  pub before : (k : ℕ) → k + 1 < length mets → flag (met_at k mets) ≡ is_met_at_barrier (met_at k mets)
  pub only : (k : ℕ) → k < length mets → flag (met_at k mets) ≡ true → is_met_at_barrier (met_at k mets) ≡ true

pub order-nil : (flag : Met → Bool) → IsInOrder flag []
order-nil flag = record { before = λ k within. absurd (omega arith); only = λ k within. absurd (omega arith) }

-- .. and of the last one
order-before : (flag : Met → Bool) (mets : List Met) → IsInOrder flag mets → (0 < length mets → flag (met_at (length mets - 1) mets) ≡ is_met_at_barrier (met_at (length mets - 1) mets)) → (k : ℕ) → k < length mets → flag (met_at k mets) ≡ is_met_at_barrier (met_at k mets)
order-before flag mets order last k within = elim (cases_lt (k + 1) (length mets)) [
  | inl below ↦ order.before k below
  | inr end ↦ let is : length mets - 1 ≡ k = omega arith in subst (λ n. flag (met_at n mets) ≡ is_met_at_barrier (met_at n mets)) is (last (omega arith))
]

-- one more is met, without the flag
pub order-push : (flag : Met → Bool) (mets : List Met) (new : Met) → IsInOrder flag mets → (0 < length mets → flag (met_at (length mets - 1) mets) ≡ is_met_at_barrier (met_at (length mets - 1) mets)) → flag new ≡ false → IsInOrder flag (mets ++ new ∷ [])
order-push flag mets new order last unset =
    let long = length_push mets new in
    record {
      before = λ k within.
          let below : k < length mets = omega arith in
          subst (λ (met : Met). flag met ≡ is_met_at_barrier met) (sym (get_or_append_left mets (new ∷ []) not_met k below)) (order-before flag mets order last k below);
      only = λ k within set. elim (cases_lt k (length mets)) [
        | inl below ↦
            let left = get_or_append_left mets (new ∷ []) not_met k below in
            ap is_met_at_barrier left ∙ order.only k below (sym (ap flag left) ∙ set)
        | inr past ↦
            let right = get_or_push mets new not_met k (omega arith) in absurd (false≢true (sym unset ∙ sym (ap flag right) ∙ set))
      ];
    }

-- the last meeting is changed
pub order-last : (flag : Met → Bool) (mets : List Met) (new : Met) → IsInOrder flag mets → (flag new ≡ true → is_met_at_barrier new ≡ true) → IsInOrder flag (set mets (length mets - 1) new)
order-last flag mets new order kept =
    let last = length mets - 1 in
    let long = length-set mets last new in
    record {
      before = λ k within.
          let apart : k ≡ last → ⊥ = λ same. omega arith in
          let other = get_or-set_other mets last k new not_met apart in
          subst (λ (met : Met). flag met ≡ is_met_at_barrier met) (sym other) (order.before k (omega arith));
      only = λ k within. elim (cases_eq k last) [
        | inl same ↦
            let here = ap (λ n. met_at n (set mets last new)) same ∙ get_or-set_same mets last new not_met (omega arith) in
            subst (λ (met : Met). flag met ≡ true → is_met_at_barrier met ≡ true) (sym here) kept
        | inr apart ↦
            let other = get_or-set_other mets last k new not_met apart in
            subst (λ (met : Met). flag met ≡ true → is_met_at_barrier met ≡ true) (sym other) (order.only k (omega arith))
      ];
    }

-- where the flag is set of the last barrier too, it is set of as many as there are
pub order-all : (flag : Met → Bool) (mets : List Met) → IsInOrder flag mets → flag (met_at (length mets - 1) mets) ≡ is_met_at_barrier (met_at (length mets - 1) mets) → count_by flag mets ≡ count_by is_met_at_barrier mets
order-all flag mets order last =
    same-count flag is_met_at_barrier mets
    (All-from_get_or (λ (met : Met). flag met ≡ is_met_at_barrier met) mets not_met (order-before flag mets order (λ _. last)))

-- ---- a member's barriers, and those of another one where the flag is set

-- both have met the same, as far as both have met something
abbrev pub HaveMetAlike : List Met → List Met → Type 0
HaveMetAlike one other = (k : ℕ) → k < length one → k < length other → (met_at k one).what ≡ (met_at k other).what

order-tail : (flag : Met → Bool) (met : Met) (mets : List Met) → IsInOrder flag (met ∷ mets) → IsInOrder flag mets
order-tail flag met mets order = record { before = λ k within. order.before (suc k) (omega arith); only = λ k within. order.only (suc k) (omega arith) }

alike-tail : (x y : Met) (xs ys : List Met) → HaveMetAlike (x ∷ xs) (y ∷ ys) → HaveMetAlike xs ys
alike-tail x y xs ys alike = λ k one other. alike (suc k) (omega arith) (omega arith)

le-add : (a m n x y : ℕ) → x ≡ a + m → y ≡ a + n → nat_le x y ≡ nat_le m n
le-add a m n x y first second = grind (arith, nat_tests)

-- the first meeting of one is its barrier
first-alike : (flag : Met → Bool) (y : Met) (ys : List Met) (most : ℕ) (b : Bool) → most ≡ 1 → flag y ≡ b → IsInOrder flag (y ∷ ys) → is_met_at_barrier y ≡ true → nat_le most (count_by flag (y ∷ ys)) ≡ b
first-alike flag y ys most true one_at set order at =
    let counts : one flag y ≡ 1 = ap (λ b. cond b 1 0) set in
    le-leb most (count_by flag (y ∷ ys)) (omega (arith, sum_by-cons (one flag) y ys, counts))
first-alike flag y ys most false one_at unset order at = elim (cases_lt 0 (length ys)) [
  | inl more ↦ absurd (false≢true (sym unset ∙ order.before 0 (omega arith) ∙ at))
  | inr none ↦
      let counts : one flag y ≡ 0 = ap (λ b. cond b 1 0) unset in
      lt-leb most (count_by flag (y ∷ ys)) (omega (arith, sum_by-cons (one flag) y ys, counts, count_by-le-length flag ys))
]

-- Where one's last meeting is a barrier, the n-th from 0 on, another one has the flag set at as many barriers as the first has met just where it has
-- it set at its n-th.
pub reaches : (flag : Met → Bool) → flag not_met ≡ false → (xs : List Met) (n : ℕ) (ys : List Met) → length xs ≡ suc n → is_met_at_barrier (met_at n xs) ≡ true → HaveMetAlike xs ys → IsInOrder flag ys → nat_le (count_by is_met_at_barrier xs) (count_by flag ys) ≡ flag (met_at n ys)
reaches flag none [] n ys long at alike order = absurd (omega arith)
reaches flag none (x ∷ xs) zero [] long at alike order =
    let counts : one is_met_at_barrier x ≡ 1 = ap (λ b. cond b 1 0) at in
    lt-leb (count_by is_met_at_barrier (x ∷ xs)) 0 (omega (arith, sum_by-cons (one is_met_at_barrier) x xs, counts)) ∙ sym none
reaches flag none (x ∷ xs) zero (y ∷ ys) long at alike order =
    let counts : one is_met_at_barrier x ≡ 1 = ap (λ b. cond b 1 0) at in
    let rest = count_by-le-length is_met_at_barrier xs in
    let barrier : is_met_at_barrier y ≡ true = sym (ap is_barrier (alike 0 (omega arith) (omega arith))) ∙ at in
    first-alike flag y ys (count_by is_met_at_barrier (x ∷ xs)) (flag y) (omega (arith, sum_by-cons (one is_met_at_barrier) x xs, counts, rest)) refl order barrier
reaches flag none (x ∷ xs) (suc n) [] long at alike order =
    let some = count-some is_met_at_barrier xs n not_met (omega arith) at in
    lt-leb (count_by is_met_at_barrier (x ∷ xs)) 0 (omega (arith, sum_by-cons (one is_met_at_barrier) x xs, some)) ∙ sym none
reaches flag none (x ∷ xs) (suc n) (y ∷ ys) long at alike order = elim (cases_lt 0 (length ys)) [
  | inl more ↦
      let same : flag y ≡ is_met_at_barrier x = order.before 0 (omega arith) ∙ sym (ap is_barrier (alike 0 (omega arith) (omega arith))) in
      let one_same : one flag y ≡ one is_met_at_barrier x = ap (λ b. cond b 1 0) same in
      le-add (one is_met_at_barrier x) (count_by is_met_at_barrier xs) (count_by flag ys) _ _ (sum_by-cons (one is_met_at_barrier) x xs)
      (sum_by-cons (one flag) y ys ∙ ap (λ m. m + count_by flag ys) one_same)
      ∙ reaches flag none xs n ys (omega arith) at (alike-tail x y xs ys alike) (order-tail flag y ys order)
  | inr end ↦
      let some = count-some is_met_at_barrier xs n not_met (omega arith) at in
      let same : is_met_at_barrier x ≡ is_met_at_barrier y = ap is_barrier (alike 0 (omega arith) (omega arith)) in
      let one_same : one is_met_at_barrier x ≡ one is_met_at_barrier y = ap (λ b. cond b 1 0) same in
      let less = one-le (flag y) (is_met_at_barrier y) (order.only 0 (omega arith)) in
      lt-leb (count_by is_met_at_barrier (x ∷ xs)) (count_by flag (y ∷ ys))
      (omega (arith, sum_by-cons (one is_met_at_barrier) x xs, sum_by-cons (one flag) y ys, some, one_same, less, count_by-le-length flag ys))
      ∙ sym (ap flag (get_or_past ys n not_met (omega arith)) ∙ none)
]
