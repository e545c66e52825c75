-- Texts in quotes that have no end, and where they break off.
use Rattle.std.proofs.Common.{◌≡◌, ℕ, ◌+◌, ◌-◌, ◌≤◌, Bool, true, false, cond, ◌==◌, List, [], ◌∷◌, ◌++◌, Result, Ok, Err, length, inl, inr, refl, sym, ap, ◌∙◌, arith}
use Rattle.std.proofs.lemmas.Bool.{cond-false, cond-true, cond_both, eqb-false, eqb-true}
use Rattle.c_tokens.specs.language.Bytes.{is_control}
use Rattle.c_tokens.specs.language.Quoted.{backslash, is_escape, quote, quoted_end, text_end}
use Rattle.c_tokens.specs.language.Pieces.{IsQuoted}
use Rattle.c_tokens.specs.language.Ending.{IsBadText, StopsText}
use Rattle.c_tokens.proofs.Cuts.{differs}
use Rattle.c_tokens.proofs.Texts.{IsQuoted-plain, from, plain_read}

-- how many bytes stand before those that are left
abbrev led : Bool → ℕ
led true = 1
led false = 0

-- a text up to what may not go on it, of which the first bytes were read
record Broken (at : ℕ) (escaped : Bool) (bytes : List ℕ) (offset : ℕ) : Type 0 where
  inside : List ℕ
  rest : List ℕ
  whole : from escaped bytes ≡ inside ++ rest
  counted : at + length inside ≡ offset + led escaped
  quoted : IsQuoted inside
  stops : StopsText rest

text_broken : (at : ℕ) (escaped : Bool) (bytes : List ℕ) (offset : ℕ) → led escaped ≤ at → text_end at escaped bytes ≡ Err offset → Broken at escaped bytes offset
text_broken at true [] offset behind found = let same : at - 1 ≡ offset = cc in record { inside = []; rest = backslash ∷ []; whole = refl; counted = omega arith; quoted = tt; stops = inr (refl, refl) }
text_broken at false [] offset behind found = let same : at ≡ offset = cc in record { inside = []; rest = []; whole = refl; counted = omega arith; quoted = tt; stops = tt }
text_broken at true (byte ∷ bytes) offset behind found =
    cond_both (is_escape byte) (text_end (at + 1) false bytes) (Err (at - 1)) (λ r. r ≡ Err offset → Broken at true (byte ∷ bytes) offset)
    (λ escapes here.
    let more = text_broken (at + 1) false bytes offset (omega arith) here in
    record { inside = backslash ∷ byte ∷ more.inside; rest = more.rest; whole = ap (λ (e : List ℕ). backslash ∷ byte ∷ e) more.whole; counted = omega (arith, more.counted); quoted = inr (refl, escapes, more.quoted); stops = more.stops })
    (λ other here. let same : at - 1 ≡ offset = cc in record { inside = []; rest = backslash ∷ byte ∷ bytes; whole = refl; counted = omega arith; quoted = tt; stops = inr (refl, other) })
    found
text_broken at false (byte ∷ bytes) offset behind found =
    let P : Result ℕ ℕ → Type 0 = λ r. r ≡ Err offset → Broken at false (byte ∷ bytes) offset in
    let plain : Result ℕ ℕ = cond (is_control byte) (Err at) (text_end (at + 1) false bytes) in
    cond_both (byte == quote) (Ok (at + 1)) (cond (byte == backslash) (text_end (at + 1) true bytes) plain) P
    (λ closes here. absurd (cc))
    (λ not_quote. cond_both (byte == backslash) (text_end (at + 1) true bytes) plain P
    (λ escapes here.
    let more = text_broken (at + 1) true bytes offset (omega arith) here in
    record { inside = more.inside; rest = more.rest; whole = ap (λ (b : ℕ). b ∷ bytes) (eqb-true byte backslash escapes) ∙ more.whole; counted = omega (arith, more.counted); quoted = more.quoted; stops = more.stops })
    (λ not_escape. cond_both (is_control byte) (Err at) (text_end (at + 1) false bytes) P
    (λ control here. let same : at ≡ offset = cc in record { inside = []; rest = byte ∷ bytes; whole = refl; counted = omega arith; quoted = tt; stops = inl control })
    (λ not_control here.
    let more = text_broken (at + 1) false bytes offset (omega arith) here in
    record { inside = byte ∷ more.inside; rest = more.rest; whole = ap (λ (e : List ℕ). byte ∷ e) more.whole; counted = omega (arith, more.counted); quoted = IsQuoted-plain byte more.inside (eqb-false byte quote not_quote, eqb-false byte backslash not_escape, not_control) more.quoted; stops = more.stops })))
    found

pub IsBadText-found : (bytes : List ℕ) (offset : ℕ) → text_end 1 false bytes ≡ Err offset → IsBadText (quote ∷ bytes) offset
IsBadText-found bytes offset found =
    let text = text_broken 1 false bytes offset (omega arith) found in
    (text.inside, text.rest, ap (λ (e : List ℕ). quote ∷ e) text.whole, text.quoted, text.stops, omega (arith, text.counted))

-- what stops a text stops it where it stands
stop_read : (at : ℕ) (rest : List ℕ) → StopsText rest → text_end at false rest ≡ Err at
stop_read at [] stops = refl
stop_read at (byte ∷ rest) (inl control) =
    rw (differs is_control byte quote control refl, differs is_control byte backslash control refl, control) refl
stop_read at (byte ∷ []) (inr (escapes, other)) = ap (λ (b : ℕ). text_end at false (b ∷ [])) escapes ∙ ap Err (omega arith)
stop_read at (byte ∷ next ∷ rest) (inr (escapes, other)) =
    ap (λ (b : ℕ). text_end at false (b ∷ next ∷ rest)) escapes ∙ cond-false (is_escape next) (text_end (at + 1 + 1) false rest) (Err (at + 1 - 1)) other ∙ ap Err (omega arith)

broken_read : (at : ℕ) (inside rest : List ℕ) → IsQuoted inside → StopsText rest → text_end at false (inside ++ rest) ≡ Err (at + length inside)
broken_read at [] rest quoted stops = stop_read at rest stops ∙ ap Err (omega arith)
broken_read at (byte ∷ []) rest plain stops = plain_read at byte rest plain ∙ stop_read (at + 1) rest stops ∙ ap Err (omega arith)
broken_read at (byte ∷ next ∷ inside) rest (inl (plain, quoted)) stops =
    plain_read at byte (next ∷ (inside ++ rest)) plain ∙ broken_read (at + 1) (next ∷ inside) rest quoted stops ∙ ap Err (omega arith)
broken_read at (byte ∷ next ∷ inside) rest (inr (escapes, allowed, quoted)) stops =
    let end = inside ++ rest in
    ap (λ (b : ℕ). text_end at false (b ∷ next ∷ end)) escapes ∙ cond-true (is_escape next) (text_end (at + 1 + 1) false end) (Err (at + 1 - 1)) allowed ∙ broken_read (at + 1 + 1) inside rest quoted stops ∙ ap Err (omega arith)

-- a text breaks off in one place
IsBadText-end : (bytes : List ℕ) (offset : ℕ) → IsBadText bytes offset → quoted_end bytes ≡ Err offset
IsBadText-end bytes offset (inside, rest, whole, quoted, stops, counted) = ap quoted_end whole ∙ broken_read 1 inside rest quoted stops ∙ ap Err (sym counted)

pub one_end : (bytes : List ℕ) (first second : ℕ) → IsBadText bytes first → IsBadText bytes second → first ≡ second
one_end bytes first second one other = let end = IsBadText-end bytes first one in let same = IsBadText-end bytes second other in cc
