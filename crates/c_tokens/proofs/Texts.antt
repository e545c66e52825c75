-- Texts in quotes, and where they end.
use Rattle.std.proofs.Common.{◌≡◌, ℕ, ◌+◌, ◌-◌, Bool, true, false, cond, ◌==◌, List, [], ◌∷◌, ◌++◌, Result, Ok, Err, length, inl, inr, refl, sym, ap, subst, ◌∙◌, arith, ne_eqb}
use Rattle.std.proofs.lemmas.Bool.{cond-true, cond_both, eqb-false, eqb-true}
use Rattle.c_tokens.specs.language.Bytes.{is_control}
use Rattle.c_tokens.specs.language.Quoted.{backslash, is_escape, quote, text_end}
use Rattle.c_tokens.specs.language.Pieces.{IsPlain, IsQuoted}

-- the bytes with the backslash before them
abbrev pub from : Bool → List ℕ → List ℕ
from true bytes = backslash ∷ bytes
from false bytes = bytes

-- a text up to its closing quote, of which the first bytes were read
pub record Quoted (at : ℕ) (escaped : Bool) (bytes : List ℕ) (count : ℕ) : Type 0 where
  pub inside : List ℕ
  pub rest : List ℕ
  pub whole : bytes ≡ inside ++ quote ∷ rest
  pub counted : at + length inside + 1 ≡ count
  pub quoted : IsQuoted (from escaped inside)

pub IsQuoted-plain : (byte : ℕ) (bytes : List ℕ) → IsPlain byte → IsQuoted bytes → IsQuoted (byte ∷ bytes)
IsQuoted-plain byte [] plain more = plain
IsQuoted-plain byte (next ∷ bytes) plain more = inl (plain, more)

longer : (at : ℕ) (escaped next : Bool) (byte : ℕ) (bytes : List ℕ) (count : ℕ) → (more : Quoted (at + 1) next bytes count) → IsQuoted (from escaped (byte ∷ more.inside)) → Quoted at escaped (byte ∷ bytes) count
longer at escaped next byte bytes count more quoted = record { inside = byte ∷ more.inside; rest = more.rest; whole = ap (λ (e : List ℕ). byte ∷ e) more.whole; counted = omega (arith, more.counted); quoted = quoted }

pub text_found : (at : ℕ) (escaped : Bool) (bytes : List ℕ) (count : ℕ) → text_end at escaped bytes ≡ Ok count → Quoted at escaped bytes count
text_found at true [] count found = absurd (cc)
text_found at false [] count found = absurd (cc)
text_found at true (byte ∷ bytes) count found =
    cond_both (is_escape byte) (text_end (at + 1) false bytes) (Err (at - 1)) (λ r. r ≡ Ok count → Quoted at true (byte ∷ bytes) count)
    (λ escapes here. let more = text_found (at + 1) false bytes count here in longer at true false byte bytes count more (inr (refl, escapes, more.quoted)))
    (λ other here. absurd (cc))
    found
text_found at false (byte ∷ bytes) count found =
    let P : Result ℕ ℕ → Type 0 = λ r. r ≡ Ok count → Quoted at false (byte ∷ bytes) count in
    let plain : Result ℕ ℕ = cond (is_control byte) (Err at) (text_end (at + 1) false bytes) in
    cond_both (byte == quote) (Ok (at + 1)) (cond (byte == backslash) (text_end (at + 1) true bytes) plain) P
    (λ closes here. let sum : at + 1 ≡ count = cc in record { inside = []; rest = bytes; whole = ap (λ (b : ℕ). b ∷ bytes) (eqb-true byte quote closes); counted = omega (arith, sum); quoted = tt })
    (λ not_quote. cond_both (byte == backslash) (text_end (at + 1) true bytes) plain P
    (λ escapes here. let more = text_found (at + 1) true bytes count here in longer at false true byte bytes count more (subst (λ (b : ℕ). IsQuoted (b ∷ more.inside)) (sym (eqb-true byte backslash escapes)) more.quoted))
    (λ not_escape. cond_both (is_control byte) (Err at) (text_end (at + 1) false bytes) P
    (λ control here. absurd (cc))
    (λ not_control here. let more = text_found (at + 1) false bytes count here in
    longer at false false byte bytes count more (IsQuoted-plain byte more.inside (eqb-false byte quote not_quote, eqb-false byte backslash not_escape, not_control) more.quoted))))
    found

pub plain_read : (at byte : ℕ) (bytes : List ℕ) → IsPlain byte → text_end at false (byte ∷ bytes) ≡ text_end (at + 1) false bytes
plain_read at byte bytes (not_quote, not_escape, not_control) = rw (ne_eqb byte quote not_quote, ne_eqb byte backslash not_escape, not_control) refl

pub text_read : (at : ℕ) (inside rest : List ℕ) → IsQuoted inside → text_end at false (inside ++ quote ∷ rest) ≡ Ok (at + length inside + 1)
text_read at [] rest quoted = ap Ok (omega arith)
text_read at (byte ∷ []) rest plain = plain_read at byte (quote ∷ rest) plain ∙ ap Ok (omega arith)
text_read at (byte ∷ next ∷ inside) rest (inl (plain, quoted)) =
    plain_read at byte (next ∷ (inside ++ quote ∷ rest)) plain ∙ text_read (at + 1) (next ∷ inside) rest quoted ∙ ap Ok (omega arith)
text_read at (byte ∷ next ∷ inside) rest (inr (escapes, allowed, quoted)) =
    let end = inside ++ quote ∷ rest in
    ap (λ (b : ℕ). text_end at false (b ∷ next ∷ end)) escapes ∙ cond-true (is_escape next) (text_end (at + 1 + 1) false end) (Err (at + 1 - 1)) allowed ∙ text_read (at + 1 + 1) inside rest quoted ∙ ap Ok (omega arith)
