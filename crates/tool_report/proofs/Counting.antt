-- How often a number stands in a list, and what is counted for each number of a list.
use Rattle.std.proofs.Common.{◌≡◌, ◌≢◌, ℕ, zero, suc, ◌+◌, ◌<◌, ◌==◌, Bool, true, false, cond, List, [], ◌∷◌, length, map, set, get_or, refl, sym, ◌∙◌, inl, inr, arith}
use Rattle.std.specs.List.{sum_by}
use Rattle.std.proofs.lemmas.Bool.{eq-eqb, ne_eqb}
use Rattle.std.proofs.lemmas.Bool.Decides.{eqb_tells}
use Rattle.std.proofs.lemmas.List.Sums.{sum_by-cons}

-- how often a number stands in a list
abbrev pub times : ℕ → List ℕ → ℕ
times m [] = 0
times m (n ∷ ns) = cond (m == n) 1 0 + times m ns

-- a number at a place of the list stands there
times-at : (m place : ℕ) (ns : List ℕ) → place < length ns → get_or ns place 0 ≡ m → 0 < times m ns
times-at m place [] below is = absurd (omega arith)
times-at m zero (n ∷ ns) below is = rw (eq-eqb m n (sym is)) (omega arith)
times-at m (suc place) (n ∷ ns) below is = let rest = times-at m place ns (omega arith) is in omega arith

-- a number that is at no place of the list stands nowhere there
pub times-none : (m : ℕ) (ns : List ℕ) → ((k : ℕ) → k < length ns → get_or ns k 0 ≢ m) → times m ns ≡ 0
times-none m [] none = refl
times-none m (n ∷ ns) none =
    let rest = times-none m ns (λ k below. none (suc k) (omega arith)) in
    rw (ne_eqb m n (λ same. none 0 (omega arith) (sym same))) (omega arith)

-- two counts that agree but at one number are the same over a list without it
same-without : (m : ℕ) (c d : ℕ → ℕ) (ns : List ℕ) → ((n : ℕ) → (m == n) ≡ false → d n ≡ c n) → times m ns ≡ 0 → map c ns ≡ map d ns
same-without m c d [] other none = refl
same-without m c d (n ∷ ns) other none =
    elim (eqb_tells m n) as (λ _. map c (n ∷ ns) ≡ map d (n ∷ ns)) [ inl here ↦ absurd (stands (m == n) (times m ns) (eq-eqb m n here.1) none) | inr away ↦ rw (other n away.0, same-without m c d ns other (later (m == n) (times m ns) none)) refl ]
  where
    stands : (b : Bool) (k : ℕ) → b ≡ true → cond b 1 0 + k ≡ 0 → ⊥
    stands true k holds none = omega arith
    stands false k holds none = cc

    later : (b : Bool) (k : ℕ) → cond b 1 0 + k ≡ 0 → k ≡ 0
    later b k none = omega arith

-- one more is counted at the only place of a number
pub one-more : (m place : ℕ) (c d : ℕ → ℕ) (ns : List ℕ) → place < length ns → get_or ns place 0 ≡ m → times m ns ≡ 1 → d m ≡ c m + 1 → ((n : ℕ) → (m == n) ≡ false → d n ≡ c n) → set (map c ns) place (get_or (map c ns) place 0 + 1) ≡ map d ns
one-more m place c d [] below is once more other = absurd (omega arith)
one-more m zero c d (n ∷ ns) below is once more other =
    let none : times m ns ≡ 0 = alone (m == n) (times m ns) (eq-eqb m n (sym is)) once in
    let rest = same-without m c d ns other none in
    let here : d n ≡ c n + 1 = rw is more in
    rw (here, rest) refl
  where
    alone : (b : Bool) (k : ℕ) → b ≡ true → cond b 1 0 + k ≡ 1 → k ≡ 0
    alone true k holds one = omega arith
    alone false k holds one = cc
one-more m (suc place) c d (n ∷ ns) below is once more other =
    let some = times-at m place ns (omega arith) is in
    elim (eqb_tells m n) as (λ _. set (map c (n ∷ ns)) (suc place) (get_or (map c (n ∷ ns)) (suc place) 0 + 1) ≡ map d (n ∷ ns)) [
      | inl here ↦ absurd (twice (m == n) (times m ns) (eq-eqb m n here.1) some once)
      | inr away ↦ rw (other n away.0, one-more m place c d ns (omega arith) is (rest (m == n) (times m ns) away.0 once) more other) refl
    ]
  where
    twice : (b : Bool) (k : ℕ) → b ≡ true → 0 < k → cond b 1 0 + k ≡ 1 → ⊥
    twice true k holds some one = omega arith
    twice false k holds some one = cc

    rest : (b : Bool) (k : ℕ) → b ≡ false → cond b 1 0 + k ≡ 1 → k ≡ 1
    rest true k fails one = cc
    rest false k fails one = omega arith

-- each count is greater by how often the number stands there, so the sum is
pub sum-more : (m : ℕ) (c d : ℕ → ℕ) (ns : List ℕ) → ((n : ℕ) → d n ≡ cond (m == n) 1 0 + c n) → sum_by d ns ≡ times m ns + sum_by c ns
sum-more m c d [] each = refl
sum-more m c d (n ∷ ns) each =
    let left = sum_by-cons d n ns in
    let right = sum_by-cons c n ns in
    let here = each n in
    let rest = sum-more m c d ns each in
    omega arith

-- a sum over what is made of each is a sum over each
pub sum-made : {X A : Type 0} (f : A → ℕ) (g : X → A) (h : X → ℕ) → ((x : X) → f (g x) ≡ h x) → (xs : List X) → sum_by f (map g xs) ≡ sum_by h xs
sum-made f g h same [] = refl
sum-made f g h same (x ∷ xs) = sum_by-cons f (g x) (map g xs) ∙ rw (same x, sum-made f g h same xs) (sym (sum_by-cons h x xs))
