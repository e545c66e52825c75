-- The fault of a text is that in which its reading ends.
use Rattle.std.proofs.Common.{◌≡◌, ◌⊎◌, ℕ, zero, suc, ◌<◌, ◌≤◌, List, [], ◌∷◌, ◌++◌, Result, Ok, Err, length, inl, inr, refl, sym, ap, subst, ◌∙◌, arith, length-append}
use Rattle.c_tokens.specs.declared.token.Token.{Token}
use Rattle.c_tokens.specs.declared.token.TokenFault.{TokenFault}
use Rattle.c_tokens.specs.declared.token.TokenKind.{TokenKind}
use Rattle.c_tokens.specs.declared.token.TokenKind.TheVariants as kind
use Rattle.c_tokens.specs.declared.place.Line.TheVariants as line
use Rattle.c_tokens.specs.declared.place.Place.{Place}
use Rattle.c_tokens.specs.declared.item.Flaw.{Flaw}
use Rattle.c_tokens.specs.declared.item.Item.{Item}
use Rattle.c_tokens.specs.declared.item.Item.TheVariants as item
use Rattle.c_tokens.specs.language.Bytes.{newline}
use Rattle.c_tokens.specs.workings.Items.{item_of, newline_item}
use Rattle.c_tokens.specs.workings.Tokens.{scan, tokens_of, with_front}
use Rattle.c_tokens.specs.language.Places.{beginning, fault_at, line_with, place_after, places_after, token_at}
use Rattle.c_tokens.specs.language.Pieces.{IsPassed, IsToken, Reads}
use Rattle.c_tokens.specs.language.Ending.{EndsIn, IsFlaw, IsStuck}
use Rattle.c_tokens.specs.language.Ending.EndsIn.{here, passed, token, directive_end}
use Rattle.c_tokens.proofs.Flaws.{IsFlaw-item, IsStuck-item, stuck_item}
use Rattle.c_tokens.proofs.Fronts.{passed_front, token_front}
use Rattle.c_tokens.proofs.Law.{passed-some, reads-tokens, scan-end, scan-fault, scan-passed, scan-reads, scan-token, token-some}
use Rattle.c_tokens.proofs.Pieces.{IsPiece, item_piece}

-- tokens in front of a fault leave it
front-none : (front : List Token) (rest : Result (List Token) TokenFault) (fault : TokenFault) → with_front front rest ≡ Err fault → rest ≡ Err fault
front-none front (Ok more) fault whole = absurd (cc)
front-none front (Err other) fault whole = whole

-- what is shorter than a text ends in its fault
abbrev Shorter : List ℕ → Type 0
Shorter text = (rest : List ℕ) (place : Place) (fault : TokenFault) → length rest < length text → scan rest 0 place ≡ Err fault → EndsIn place rest fault

end-passed : (front rest : List ℕ) (place : Place) (fault : TokenFault) → IsPassed place.line front rest → item_of place.line (front ++ rest) ≡ item.Blank (length front) → scan (front ++ rest) 0 place ≡ Err fault → Shorter (front ++ rest) → EndsIn place (front ++ rest) fault
end-passed front rest place fault is_passed same whole shorter =
    let some = passed-some place.line front rest is_passed in
    let after = places_after front place in
    let left = front-none [] (scan rest 0 after) fault (sym (scan-passed front rest place same some) ∙ whole) in
    passed front is_passed (shorter rest after fault (omega (arith, length-append front rest)) left)

end-token : (kind : TokenKind) (front rest : List ℕ) (place : Place) (fault : TokenFault) → IsToken kind place.line front rest → item_of place.line (front ++ rest) ≡ item.Token kind (length front) → scan (front ++ rest) 0 place ≡ Err fault → Shorter (front ++ rest) → EndsIn place (front ++ rest) fault
end-token kind front rest place fault is_token same whole shorter =
    let some = token-some kind place.line front rest is_token in
    let after = places_after front (record place { line = line_with kind place.line }) in
    let left = front-none (token_at kind place (length front) ∷ []) (scan rest 0 after) fault (sym (scan-token kind front rest place same some) ∙ whole) in
    token kind front is_token (shorter rest after fault (omega (arith, length-append front rest)) left)

end-end : (rest : List ℕ) (place : Place) (fault : TokenFault) → place.line ≡ line.Directive → item_of place.line (newline ∷ rest) ≡ item.DirectiveEnd → scan (newline ∷ rest) 0 place ≡ Err fault → Shorter (newline ∷ rest) → EndsIn place (newline ∷ rest) fault
end-end rest place fault in_directive same whole shorter =
    let after = place_after newline (record place { line = line.Fresh }) in
    let left = front-none (token_at kind.PragmaEnd place 0 ∷ []) (scan rest 0 after) fault (sym (scan-end rest place same) ∙ whole) in
    directive_end in_directive (shorter rest after fault (omega arith) left)

-- the item at the front is read, and then the rest, or the reading ends there
Ending : List ℕ → Place → TokenFault → Item → Type 0
Ending text place fault it = item_of place.line text ≡ it → scan text 0 place ≡ Err fault → Shorter text → EndsIn place text fault

end-item : (byte : ℕ) (bytes : List ℕ) (place : Place) (fault : TokenFault) (it : Item) → IsPiece place.line (byte ∷ bytes) it → Ending (byte ∷ bytes) place fault it
unfolding Ending
end-item byte bytes place fault (item.Blank count) cut =
    let P : List ℕ → Type 0 = λ text. Ending text place fault (item.Blank count) in
    subst P (sym cut.whole) (λ same. end-passed cut.front cut.rest place fault cut.holds (same ∙ ap item.Blank (sym cut.counted)))
end-item byte bytes place fault (item.Token kind count) cut =
    let P : List ℕ → Type 0 = λ text. Ending text place fault (item.Token kind count) in
    subst P (sym cut.whole) (λ same. end-token kind cut.front cut.rest place fault cut.holds (same ∙ ap (item.Token kind) (sym cut.counted)))
end-item byte bytes place fault item.DirectiveEnd (rest, parts, in_directive) =
    let P : List ℕ → Type 0 = λ text. Ending text place fault item.DirectiveEnd in
    subst P (sym parts) (λ same. end-end rest place fault in_directive same)
end-item byte bytes place fault (item.Fault what offset) piece = λ same whole shorter.
    let there = scan-fault byte bytes place what offset same in
    let is_fault : fault_at what place offset ≡ fault = cc in
    subst (EndsIn place (byte ∷ bytes)) is_fault (here what offset (IsStuck-item place.line byte bytes what offset same) (IsFlaw-item place.line byte bytes what offset same))

-- An item may have more than one byte, so the steps are counted: `fuel` is no less than the bytes.
end-within : (fuel : ℕ) (text : List ℕ) (place : Place) (fault : TokenFault) → length text ≤ fuel → scan text 0 place ≡ Err fault → EndsIn place text fault
unfolding scan Ending
end-within fuel [] place fault within whole = absurd (cc)
end-within zero (byte ∷ bytes) place fault within whole = absurd (omega arith)
end-within (suc fuel) (byte ∷ bytes) place fault within whole =
    end-item byte bytes place fault (item_of place.line (byte ∷ bytes)) (item_piece place.line byte bytes) refl whole
    (λ rest after other short found. end-within fuel rest after other (omega arith) found)

pub scan-ends : (text : List ℕ) (fault : TokenFault) → tokens_of text ≡ Err fault → EndsIn beginning text fault
scan-ends text fault whole = end-within (length text) text beginning fault (omega arith) whole

-- each piece is the item at the front, and so is the fault
here-scan : (bytes : List ℕ) (place : Place) (what : Flaw) (offset : ℕ) → IsStuck place.line bytes → IsFlaw bytes what offset → scan bytes 0 place ≡ Err (fault_at what place offset)
here-scan [] place what offset stuck is_flaw = absurd (stuck.some refl)
here-scan (byte ∷ bytes) place what offset stuck is_flaw = scan-fault byte bytes place what offset (stuck_item place.line byte bytes what offset stuck is_flaw)

ends-scan : {place : Place} {text : List ℕ} {fault : TokenFault} → EndsIn place text fault → scan text 0 place ≡ Err fault
ends-scan (here {place} {bytes} what offset stuck is_flaw) = here-scan bytes place what offset stuck is_flaw
ends-scan (passed {place} {rest} {fault} bytes is_passed more) =
    scan-passed bytes rest place (passed_front place.line bytes rest is_passed) (passed-some place.line bytes rest is_passed) ∙ ap (with_front []) (ends-scan more)
ends-scan (token {place} {rest} {fault} kind bytes is_token more) =
    scan-token kind bytes rest place (token_front kind place.line bytes rest is_token) (token-some kind place.line bytes rest is_token) ∙ ap (with_front (token_at kind place (length bytes) ∷ [])) (ends-scan more)
ends-scan (directive_end {place} {rest} {fault} in_directive more) =
    scan-end rest place (ap newline_item in_directive) ∙ ap (with_front (token_at kind.PragmaEnd place 0 ∷ [])) (ends-scan more)

pub ends-fault : (text : List ℕ) (fault : TokenFault) → EndsIn beginning text fault → tokens_of text ≡ Err fault
ends-fault text fault ends = ends-scan ends

-- a text is read or ends in a fault, and not both
read-or-fault : (text : List ℕ) (answer : Result (List Token) TokenFault) → tokens_of text ≡ answer → ((tokens : List Token) × Reads beginning text tokens) ⊎ ((fault : TokenFault) × EndsIn beginning text fault)
read-or-fault text (Ok tokens) whole = inl (tokens, scan-reads text tokens whole)
read-or-fault text (Err fault) whole = inr (fault, scan-ends text fault whole)

pub read-or-ended : (text : List ℕ) → ((tokens : List Token) × Reads beginning text tokens) ⊎ ((fault : TokenFault) × EndsIn beginning text fault)
read-or-ended text = read-or-fault text (tokens_of text) refl

pub reads-no_end : (text : List ℕ) (tokens : List Token) (fault : TokenFault) → Reads beginning text tokens → EndsIn beginning text fault → ⊥
reads-no_end text tokens fault reads ends = let read = reads-tokens text tokens reads in let ended = ends-fault text fault ends in absurd (cc)

pub ends-one : (text : List ℕ) (first second : TokenFault) → EndsIn beginning text first → EndsIn beginning text second → first ≡ second
ends-one text first second one other = let fault = ends-fault text first one in let same = ends-fault text second other in cc
