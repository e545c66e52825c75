-- What is so of a loop that is dealt stays so, whichever members ask, and what a chunk adds to the times of an iteration.
use Rattle.std.proofs.Common.{◌≡◌, ℕ, ◌+◌, ◌<◌, ◌≤◌, nat_lt, min, ◌-◌, Bool, true, false, cond, Option, Some, None, List, [], ◌∷◌, All, inl, inr, refl, sym, ap, ◌∙◌, arith}
use Rattle.std.proofs.lemmas.Bool.{true≢false, cases_lt, and_parts, and_from, ltb-true, leb-true, lt-ltb, le-leb, le-ltb}
use Rattle.std.proofs.lemmas.List.Elements.{All-head, All-tail}
use Rattle.std.proofs.lemmas.List.Sums.{sum_by_push}
use Rattle.team_parts.specs.Chunks.{chunk_at}
use Rattle.team_parts.specs.Dealing.{Deal, with_chunk, after_asking, after_all, has_iteration, times_dealt, one_if}

pub all-keep : (size : ℕ) (P : Deal → Type 0) → ((dealt : Deal) (member : ℕ) → member < size → P dealt → P (after_asking size dealt member)) → (dealt : Deal) (order : List ℕ) → All (λ (member : ℕ). member < size) order → P dealt → P (after_all size dealt order)
unfolding after_all
all-keep size P step dealt [] of_team at = at
all-keep size P step dealt (member ∷ others) of_team at =
    all-keep size P step (after_asking size dealt member) others (All-tail (λ (m : ℕ). m < size) member others of_team)
    (step dealt member (All-head (λ (m : ℕ). m < size) member others of_team) at)

-- how often a chunk that was answered, or none, has the iteration
abbrev pub hits : ℕ → Option (ℕ × ℕ) → ℕ
hits iteration None = 0
hits iteration (Some chunk) = one_if (has_iteration iteration chunk)

cond-one : (test : Bool) → cond test 1 0 ≡ one_if test
cond-one true = refl
cond-one false = refl

pub times-more : (dealt : Deal) (member iteration : ℕ) (answer : Option (ℕ × ℕ)) → times_dealt (with_chunk dealt member answer).chunks iteration ≡ times_dealt dealt.chunks iteration + hits iteration answer
times-more dealt member iteration None = omega arith
times-more dealt member iteration (Some chunk) =
    sum_by_push (λ (c : ℕ × ℕ). cond (has_iteration iteration c) 1 0) dealt.chunks chunk
    ∙ ap (λ n. times_dealt dealt.chunks iteration + n) (cond-one (has_iteration iteration chunk))

one_if-yes : (test : Bool) → test ≡ true → one_if test ≡ 1
one_if-yes test passes = ap one_if passes

one_if-no : (test : Bool) → (test ≡ true → ⊥) → one_if test ≡ 0
one_if-no true fails = absurd (fails refl)
one_if-no false fails = refl

has-yes : (iteration start length : ℕ) → start ≤ iteration → iteration < start + length → one_if (has_iteration iteration (start, length)) ≡ 1
has-yes iteration start length from until = one_if-yes _ (and_from _ _ (le-leb start iteration from) (lt-ltb iteration (start + length) until))

has-no : (iteration start length : ℕ) → (start ≤ iteration → iteration < start + length → ⊥) → one_if (has_iteration iteration (start, length)) ≡ 0
has-no iteration start length outside = one_if-no _ (λ passes. let both = and_parts _ _ passes in outside (leb-true start iteration both.0) (ltb-true iteration (start + length) both.1))

pub hits-yes : (iteration start most count : ℕ) → start ≤ iteration → iteration < start + most → iteration < count → hits iteration (chunk_at start most count) ≡ 1
hits-yes iteration start most count from until within =
    let begins : start < count = omega arith in
    rw (lt-ltb start count begins) (has-yes iteration start (min most (count - start)) from (omega arith))

pub hits-no : (iteration start most count : ℕ) → (start ≤ iteration → iteration < start + most → iteration < count → ⊥) → hits iteration (chunk_at start most count) ≡ 0
hits-no iteration start most count outside = elim (cases_lt start count) [
  | inl begins ↦ rw (lt-ltb start count begins) (has-no iteration start (min most (count - start)) (λ from until. outside from (omega arith) (omega arith)))
  | inr ended ↦ rw (le-ltb start count ended) refl
]

cond-none : {X : Type 0} (test : Bool) (x : X) → cond test (Some x) None ≡ None → test ≡ false
cond-none true x none = absurd cc
cond-none false x none = refl

pub chunk_at-none : (start most count : ℕ) → chunk_at start most count ≡ None → count ≤ start
chunk_at-none start most count none = elim (cases_lt start count) [
  | inl begins ↦ absurd (true≢false (sym (lt-ltb start count begins) ∙ cond-none (nat_lt start count) (start, min most (count - start)) none))
  | inr ended ↦ ended
]

pub sums : (a b c x y z : ℕ) → a ≡ x → b ≡ y → c ≡ z → x + y ≡ z → a + b ≡ c
sums a b c x y z first second both add = omega arith

-- the iterations before a chunk, and those in it
pub times-next : (iteration start length : ℕ) → one_if (nat_lt iteration start) + one_if (has_iteration iteration (start, length)) ≡ one_if (nat_lt iteration (start + length))
times-next iteration start length = elim (cases_lt iteration start) [
  | inl before ↦
      sums _ _ _ 1 0 1 (ap one_if (lt-ltb iteration start before)) (has-no iteration start length (λ from until. omega arith)) (ap one_if (lt-ltb iteration (start + length) (omega arith))) refl
  | inr from ↦ elim (cases_lt iteration (start + length)) [
    | inl until ↦
        sums _ _ _ 0 1 1 (ap one_if (le-ltb iteration start from)) (has-yes iteration start length from until) (ap one_if (lt-ltb iteration (start + length) until)) refl
    | inr past ↦
        sums _ _ _ 0 0 0 (ap one_if (le-ltb iteration start from)) (has-no iteration start length (λ _ until. omega arith)) (ap one_if (le-ltb iteration (start + length) past)) refl
  ]
]
