-- The fewest barriers at which all members have begun to wait, and the most at which the wait of some member has ended.
use Rattle.std.proofs.Common.{◌≡◌, ℕ, zero, suc, ◌<◌, ◌≤◌, nat_le, max, min, ◌&&◌, ◌||◌, Bool, true, false, List, [], ◌∷◌, length, get_or, set, All, refl, sym, ap, ◌∙◌, arith}
use Rattle.std.specs.List.{list_all, list_any}
use Rattle.std.proofs.lemmas.Bool.{false≢true, leb-true, le-leb, lt-leb}
use Rattle.std.proofs.lemmas.Bool.Decides.{nat_tests}
use Rattle.std.proofs.lemmas.List.Elements.{All-head}
use Rattle.std.proofs.lemmas.List.Folds.{list_any_none}
use Rattle.std.proofs.lemmas.List.Sums.{list_all-from_AllPass}
use Rattle.team_parts.specs.declared.member.Member.{Member}
use Rattle.team_parts.specs.Team.{has_begun, has_passed}
use Rattle.team_parts.specs.Sound.{IsFewest, IsMost}

-- a test of all, or of some, after a write that passes it just as what stood there
pub list_all-set : {X : Type 0} (p : X → Bool) (xs : List X) (i : ℕ) (y d : X) → p y ≡ p (get_or xs i d) → list_all p (set xs i y) ≡ list_all p xs
list_all-set p [] i y d same = refl
list_all-set p (x ∷ xs) zero y d same = ap (λ passes. passes && list_all p xs) same
list_all-set p (x ∷ xs) (suc i) y d same = ap (λ rest. p x && rest) (list_all-set p xs i y d same)

pub list_any-same : {X : Type 0} (p : X → Bool) (xs : List X) (i : ℕ) (y d : X) → p y ≡ p (get_or xs i d) → list_any p (set xs i y) ≡ list_any p xs
list_any-same p [] i y d same = refl
list_any-same p (x ∷ xs) zero y d same = ap (λ passes. passes || list_any p xs) same
list_any-same p (x ∷ xs) (suc i) y d same = ap (λ rest. p x || rest) (list_any-same p xs i y d same)

or_turned : (old rest new : Bool) → (old ≡ true → new ≡ true) → (new || rest) ≡ ((old || rest) || new)
or_turned true rest true kept = refl
or_turned true rest false kept = absurd (false≢true (kept refl))
or_turned false true true kept = refl
or_turned false true false kept = refl
or_turned false false true kept = refl
or_turned false false false kept = refl

or_assoc : (first rest new : Bool) → (first || (rest || new)) ≡ ((first || rest) || new)
or_assoc true rest new = refl
or_assoc false rest new = refl

-- a test of some, after a write that passes it where what stood there did
pub list_any-set : {X : Type 0} (p : X → Bool) (xs : List X) (i : ℕ) (y d : X) → i < length xs → (p (get_or xs i d) ≡ true → p y ≡ true) → list_any p (set xs i y) ≡ (list_any p xs || p y)
list_any-set p [] i y d within kept = absurd (omega arith)
list_any-set p (x ∷ xs) zero y d within kept = or_turned (p x) (list_any p xs) (p y) kept
list_any-set p (x ∷ xs) (suc i) y d within kept =
    ap (λ rest. p x || rest) (list_any-set p xs i y d (omega arith) kept) ∙ or_assoc (p x) (list_any p xs) (p y)

-- one of two tests of a bound is that of the greater bound, and both are that of the lesser one
pub max-either : (a m n : ℕ) → (nat_le a m || nat_le a n) ≡ nat_le a (max m n)
max-either a m n = grind (arith, nat_tests)

pub min-both : (a m n : ℕ) → (nat_le a m && nat_le a n) ≡ nat_le a (min m n)
min-both a m n = grind (arith, nat_tests)

pub same-bound : (m n : ℕ) → ((a : ℕ) → nat_le a m ≡ nat_le a n) → m ≡ n
same-bound m n same =
    let up : m ≤ n = leb-true m n (sym (same m) ∙ le-leb m m (omega arith)) in
    let down : n ≤ m = leb-true n m (same n ∙ le-leb n n (omega arith)) in
    omega arith

-- where no member has begun to wait, or to pass
pub fewest-none : (members : List Member) → 1 ≤ length members → All (λ (m : Member). m.begun ≡ 0) members → IsFewest members 0
fewest-none [] some none barrier = absurd (omega arith)
fewest-none (x ∷ rest) some none zero =
    list_all-from_AllPass (has_begun 0) (x ∷ rest) (λ k d within. le-leb 0 _ (omega arith))
fewest-none (x ∷ rest) some none (suc barrier) =
    let first : x.begun ≡ 0 = All-head (λ (m : Member). m.begun ≡ 0) x rest none in
    let here : nat_le (suc barrier) x.begun ≡ false = lt-leb (suc barrier) x.begun (omega arith) in
    let past : nat_le (suc barrier) 0 ≡ false = lt-leb (suc barrier) 0 (omega arith) in
    ap (λ begun. begun && list_all (has_begun (suc barrier)) rest) here ∙ sym past

pub most-none : (members : List Member) → 1 ≤ length members → All (λ (m : Member). m.passed ≡ 0) members → IsMost members 0
most-none [] some none barrier = absurd (omega arith)
most-none (x ∷ rest) some none zero =
    ap (λ passes. passes || list_any (has_passed 0) rest) (le-leb 0 x.passed (omega arith))
most-none (x ∷ rest) some none (suc barrier) =
    let past : nat_le (suc barrier) 0 ≡ false = lt-leb (suc barrier) 0 (omega arith) in
    list_any_none (has_passed (suc barrier)) (x ∷ rest) (λ k d within. lt-leb (suc barrier) _ (omega (arith, none k d within))) ∙ sym past

pub fewest-is : (members : List Member) (m n : ℕ) → IsFewest members m → IsFewest members n → m ≡ n
fewest-is members m n one other = same-bound m n (λ a. sym (one a) ∙ other a)

pub most-is : (members : List Member) (m n : ℕ) → IsMost members m → IsMost members n → m ≡ n
most-is members m n one other = same-bound m n (λ a. sym (one a) ∙ other a)
