-- Bytes cut in two, and tests of bytes.
use Rattle.std.proofs.Common.{◌≡◌, ◌≢◌, ℕ, ◌+◌, Bool, true, false, ◌==◌, List, [], ◌∷◌, ◌++◌, Option, Some, None, length, inl, inr, refl, sym, ap, ◌∙◌, arith, ne_eqb}
use Rattle.std.specs.Prelude.{IsTrue}
use Rattle.std.specs.List.{prefix_len}
use Rattle.std.proofs.lemmas.Bool.{cases_eq, cond_both, true≢false}
use Rattle.std.proofs.lemmas.List.Elements.{All-cons, All-head, All-nil, All-tail}
use Rattle.c_tokens.specs.language.Blanks.{one_more}
use Rattle.c_tokens.specs.language.Pieces.{Passes, StopsAt}

-- bytes whose first ones, so many, are something before the rest
pub record Cut (bytes : List ℕ) (count : ℕ) (P : List ℕ → List ℕ → Type 0) : Type 0 where
  pub front : List ℕ
  pub rest : List ℕ
  pub whole : bytes ≡ front ++ rest
  pub counted : length front ≡ count
  pub holds : P front rest

-- all bytes at the front that pass a test
abbrev pub IsRun : (ℕ → Bool) → List ℕ → List ℕ → Type 0
IsRun test front rest = Passes test front × StopsAt test rest

pub run : (test : ℕ → Bool) (bytes : List ℕ) → Cut bytes (prefix_len test bytes) (IsRun test)
run test [] = record { front = []; rest = []; whole = refl; counted = refl; holds = (All-nil (λ byte. IsTrue (test byte)), refl) }
run test (byte ∷ bytes) =
    let more = run test bytes in
    cond_both (test byte) (1 + prefix_len test bytes) 0 (λ n. Cut (byte ∷ bytes) n (IsRun test))
    (λ passed. record { front = byte ∷ more.front; rest = more.rest; whole = ap (λ (end : List ℕ). byte ∷ end) more.whole; counted = omega (arith, more.counted); holds = (All-cons (λ b. IsTrue (test b)) byte more.front passed more.holds.0, more.holds.1) })
    (λ failed. record { front = []; rest = byte ∷ bytes; whole = refl; counted = refl; holds = (All-nil (λ b. IsTrue (test b)), failed) })

stopped : (test : ℕ → Bool) (rest : List ℕ) → StopsAt test rest → prefix_len test rest ≡ 0
stopped test [] stops = refl
stopped test (byte ∷ rest) stops = rw stops refl

pub length-run : (test : ℕ → Bool) (front rest : List ℕ) → Passes test front → StopsAt test rest → prefix_len test (front ++ rest) ≡ length front
length-run test [] rest all stops = stopped test rest stops
length-run test (byte ∷ front) rest all stops =
    let first : test byte ≡ true = All-head (λ b. IsTrue (test b)) byte front all in
    rw (first, length-run test front rest (All-tail (λ b. IsTrue (test b)) byte front all) stops) (omega arith)

-- a byte that passes a test isn't one that doesn't
pub differs : (test : ℕ → Bool) (byte other : ℕ) → test byte ≡ true → test other ≡ false → (byte == other) ≡ false
differs test byte other passed failed = elim (cases_eq byte other) [
  | inl same ↦ absurd (true≢false (sym passed ∙ ap test same ∙ failed))
  | inr not_same ↦ ne_eqb byte other not_same
]

-- what one more is, or isn't
pub one_more-some : (count : Option ℕ) (n : ℕ) → one_more count ≡ Some n → (m : ℕ) × (count ≡ Some m) × (m + 1 ≡ n)
one_more-some None n found = absurd (cc)
one_more-some (Some m) n found = (m, refl, cc)

pub one_more-none : (count : Option ℕ) → one_more count ≡ None → count ≡ None
one_more-none None none = refl
one_more-none (Some m) none = absurd (cc)

pub none_from : (count : Option ℕ) → ((n : ℕ) → count ≢ Some n) → count ≡ None
none_from None other = refl
none_from (Some n) other = absurd (other n refl)
