-- The tokens of a text are those as which it is read.
use Rattle.std.proofs.Common.{◌≡◌, ℕ, zero, suc, ◌-◌, ◌≤◌, ◌<◌, Bool, true, List, [], ◌∷◌, ◌++◌, Result, Ok, Err, length, take, drop, inl, inr, refl, sym, ap, subst, ◌∙◌, arith, length-append}
use Rattle.std.proofs.lemmas.Bool.{false≢true}
use Rattle.std.proofs.lemmas.List.{drop_at, take_at}
use Rattle.c_tokens.specs.declared.token.Token.{Token}
use Rattle.c_tokens.specs.declared.token.TokenFault.{TokenFault}
use Rattle.c_tokens.specs.declared.token.TokenKind.{TokenKind}
use Rattle.c_tokens.specs.declared.token.TokenKind.TheVariants as kind
use Rattle.c_tokens.specs.declared.place.Line.{Line}
use Rattle.c_tokens.specs.declared.place.Line.TheVariants as line
use Rattle.c_tokens.specs.declared.place.Place.{Place}
use Rattle.c_tokens.specs.declared.item.Flaw.{Flaw}
use Rattle.c_tokens.specs.declared.item.Item.{Item}
use Rattle.c_tokens.specs.declared.item.Item.TheVariants as item
use Rattle.c_tokens.specs.language.Bytes.{begins, is_digit, is_letter, newline}
use Rattle.c_tokens.specs.workings.Items.{item_of, newline_item}
use Rattle.c_tokens.specs.workings.Tokens.{Fits, found, item_len, place_in, scan, tokens_of, with_front}
use Rattle.c_tokens.specs.language.Places.{beginning, closing, fault_at, line_with, place_after, places_after, token_at}
use Rattle.c_tokens.specs.language.Pieces.{IsPassed, IsToken, Reads}
use Rattle.c_tokens.specs.language.Pieces.Reads.{over, passed, token, directive_end}
use Rattle.c_tokens.proofs.Fronts.{passed_front, token_front}
use Rattle.c_tokens.proofs.Pieces.{IsPiece, item_piece}
use Rattle.c_tokens.proofs.Scanning.{scan-item}

-- a piece has a byte at least
begins-some : (test : ℕ → Bool) (bytes : List ℕ) → begins test bytes ≡ true → 1 ≤ length bytes
begins-some test [] begun = absurd (false≢true begun)
begins-some test (byte ∷ bytes) begun = omega arith

some_from : (bytes : List ℕ) (first : ℕ) (more : List ℕ) → bytes ≡ first ∷ more → 1 ≤ length bytes
some_from bytes first more same = omega (arith, ap length same)

pub passed-some : (in_line : Line) (bytes rest : List ℕ) → IsPassed in_line bytes rest → 1 ≤ length bytes
passed-some line.Fresh bytes rest (inl (byte, same, blank)) = some_from bytes byte [] same
passed-some line.Begun bytes rest (inl (byte, same, blank)) = some_from bytes byte [] same
passed-some line.Directive bytes rest (inl (byte, same, blank, other)) = some_from bytes byte [] same
passed-some in_line bytes rest (inr (inl (inl same))) = omega (arith, ap length same)
passed-some in_line bytes rest (inr (inl (inr same))) = omega (arith, ap length same)
passed-some in_line bytes rest (inr (inr (inl (inside, same, inline, ends)))) = omega (arith, ap length same)
passed-some in_line bytes rest (inr (inr (inr (inside, same, earliest)))) = omega (arith, ap length same)

pub token-some : (kind : TokenKind) (in_line : Line) (bytes rest : List ℕ) → IsToken kind in_line bytes rest → 1 ≤ length bytes
token-some kind.Name in_line bytes rest (begun, all, stops) = begins-some is_letter bytes begun
token-some kind.Number in_line bytes rest (begun, all, plain, least, stops, ends) = begins-some is_digit bytes begun
token-some kind.Text in_line bytes rest (inside, same, quoted) = omega (arith, ap length same)
token-some kind.Symbol in_line bytes rest (inl (first, second, same, pair)) = omega (arith, ap length same)
token-some kind.Symbol in_line bytes rest (inr (byte, same, single, stops, not_comment)) = omega (arith, ap length same)
token-some kind.Include in_line bytes rest (counts, (first, second, name, tail, same, gaps, more_gaps, is_file, is_tail)) = omega (arith, ap length same)
token-some kind.Pragma in_line bytes rest (counts, (first, second, same, gaps, more_gaps, some, stops)) = omega (arith, ap length same)
token-some kind.OtherHash in_line bytes rest (counts, (inside, same, inline, ends, other)) = omega (arith, ap length same)
token-some kind.PragmaEnd in_line bytes rest never = absurd never
token-some kind.End in_line bytes rest never = absurd never

-- the item at the front, by its bytes and the rest
scan-front : (front rest : List ℕ) (place : Place) (it : Item) → item_of place.line (front ++ rest) ≡ it → 1 ≤ length front → length front ≡ item_len it → Fits it (length (front ++ rest)) → scan (front ++ rest) 0 place ≡ found it place (scan rest 0 (places_after front (place_in it place)))
scan-front front rest place it same some counted fits =
    let text = front ++ rest in
    let whole : 0 < length text = omega (arith, length-append front rest) in
    let step : Item → Type 0 = λ i. Fits i (length text) → scan text 0 place ≡ found i place (scan (drop (item_len i) text) 0 (places_after (take (item_len i) text) (place_in i place))) in
    subst step same (scan-item text place whole) fits
    ∙ ap (λ (end : List ℕ). found it place (scan end 0 (places_after (take (item_len it) text) (place_in it place)))) (drop_at front rest (item_len it) counted)
    ∙ ap (λ (begin : List ℕ). found it place (scan rest 0 (places_after begin (place_in it place)))) (take_at front rest (item_len it) counted)

pub scan-passed : (front rest : List ℕ) (place : Place) → item_of place.line (front ++ rest) ≡ item.Blank (length front) → 1 ≤ length front → scan (front ++ rest) 0 place ≡ with_front [] (scan rest 0 (places_after front place))
scan-passed front rest place same some = scan-front front rest place (item.Blank (length front)) same some refl (some, omega (arith, length-append front rest))

pub scan-token : (kind : TokenKind) (front rest : List ℕ) (place : Place) → item_of place.line (front ++ rest) ≡ item.Token kind (length front) → 1 ≤ length front → scan (front ++ rest) 0 place ≡ with_front (token_at kind place (length front) ∷ []) (scan rest 0 (places_after front (record place { line = line_with kind place.line })))
scan-token kind front rest place same some = scan-front front rest place (item.Token kind (length front)) same some refl (some, omega (arith, length-append front rest))

pub scan-end : (rest : List ℕ) (place : Place) → item_of place.line (newline ∷ rest) ≡ item.DirectiveEnd → scan (newline ∷ rest) 0 place ≡ with_front (token_at kind.PragmaEnd place 0 ∷ []) (scan rest 0 (place_after newline (record place { line = line.Fresh })))
scan-end rest place same = scan-front (newline ∷ []) rest place item.DirectiveEnd same (omega arith) refl (omega arith)

-- what stands in front of tokens
front-some : (front : List Token) (rest : Result (List Token) TokenFault) (tokens : List Token) → with_front front rest ≡ Ok tokens → (more : List Token) × (rest ≡ Ok more) × (tokens ≡ front ++ more)
front-some front (Ok more) tokens whole = (more, refl, cc)
front-some front (Err fault) tokens whole = absurd (cc)

Reads-as : (place : Place) (text : List ℕ) (tokens other : List Token) → tokens ≡ other → Reads place text other → Reads place text tokens
Reads-as place text tokens other same reads = subst (Reads place text) (sym same) reads

pub scan-fault : (byte : ℕ) (bytes : List ℕ) (place : Place) (flaw : Flaw) (offset : ℕ) → item_of place.line (byte ∷ bytes) ≡ item.Fault flaw offset → scan (byte ∷ bytes) 0 place ≡ Err (fault_at flaw place offset)
unfolding scan
scan-fault byte bytes place flaw offset same = ap (λ (i : Item). found i place (scan bytes (item_len i - 1) (place_after byte (place_in i place)))) same

-- what is shorter than a text is read as its tokens
abbrev Shorter : List ℕ → Type 0
Shorter text = (rest : List ℕ) (place : Place) (tokens : List Token) → length rest < length text → scan rest 0 place ≡ Ok tokens → Reads place rest tokens

read-passed : (front rest : List ℕ) (place : Place) (tokens : List Token) → IsPassed place.line front rest → item_of place.line (front ++ rest) ≡ item.Blank (length front) → scan (front ++ rest) 0 place ≡ Ok tokens → Shorter (front ++ rest) → Reads place (front ++ rest) tokens
read-passed front rest place tokens is_passed same whole shorter =
    let some = passed-some place.line front rest is_passed in
    let after = places_after front place in
    let parts = front-some [] (scan rest 0 after) tokens (sym (scan-passed front rest place same some) ∙ whole) in
    Reads-as place (front ++ rest) tokens parts.0 parts.2 (passed front is_passed (shorter rest after parts.0 (omega (arith, length-append front rest)) parts.1))

read-token : (kind : TokenKind) (front rest : List ℕ) (place : Place) (tokens : List Token) → IsToken kind place.line front rest → item_of place.line (front ++ rest) ≡ item.Token kind (length front) → scan (front ++ rest) 0 place ≡ Ok tokens → Shorter (front ++ rest) → Reads place (front ++ rest) tokens
read-token kind front rest place tokens is_token same whole shorter =
    let some = token-some kind place.line front rest is_token in
    let after = places_after front (record place { line = line_with kind place.line }) in
    let first = token_at kind place (length front) in
    let parts = front-some (first ∷ []) (scan rest 0 after) tokens (sym (scan-token kind front rest place same some) ∙ whole) in
    Reads-as place (front ++ rest) tokens (first ∷ parts.0) parts.2 (token kind front is_token (shorter rest after parts.0 (omega (arith, length-append front rest)) parts.1))

read-end : (rest : List ℕ) (place : Place) (tokens : List Token) → place.line ≡ line.Directive → item_of place.line (newline ∷ rest) ≡ item.DirectiveEnd → scan (newline ∷ rest) 0 place ≡ Ok tokens → Shorter (newline ∷ rest) → Reads place (newline ∷ rest) tokens
read-end rest place tokens in_directive same whole shorter =
    let after = place_after newline (record place { line = line.Fresh }) in
    let first = token_at kind.PragmaEnd place 0 in
    let parts = front-some (first ∷ []) (scan rest 0 after) tokens (sym (scan-end rest place same) ∙ whole) in
    Reads-as place (newline ∷ rest) tokens (first ∷ parts.0) parts.2 (directive_end in_directive (shorter rest after parts.0 (omega arith) parts.1))

-- the item at the front is read, and then the rest
Reading : List ℕ → Place → List Token → Item → Type 0
Reading text place tokens it = item_of place.line text ≡ it → scan text 0 place ≡ Ok tokens → Shorter text → Reads place text tokens

read-item : (byte : ℕ) (bytes : List ℕ) (place : Place) (tokens : List Token) (it : Item) → IsPiece place.line (byte ∷ bytes) it → Reading (byte ∷ bytes) place tokens it
unfolding Reading
read-item byte bytes place tokens (item.Blank count) cut =
    let P : List ℕ → Type 0 = λ text. Reading text place tokens (item.Blank count) in
    subst P (sym cut.whole) (λ same. read-passed cut.front cut.rest place tokens cut.holds (same ∙ ap item.Blank (sym cut.counted)))
read-item byte bytes place tokens (item.Token kind count) cut =
    let P : List ℕ → Type 0 = λ text. Reading text place tokens (item.Token kind count) in
    subst P (sym cut.whole) (λ same. read-token kind cut.front cut.rest place tokens cut.holds (same ∙ ap (item.Token kind) (sym cut.counted)))
read-item byte bytes place tokens item.DirectiveEnd (rest, parts, in_directive) =
    let P : List ℕ → Type 0 = λ text. Reading text place tokens item.DirectiveEnd in
    subst P (sym parts) (λ same. read-end rest place tokens in_directive same)
read-item byte bytes place tokens (item.Fault flaw offset) piece = λ same whole shorter. let fault = scan-fault byte bytes place flaw offset same in absurd (cc)

-- An item may have more than one byte, so the steps are counted: `fuel` is no less than the bytes.
read-within : (fuel : ℕ) (text : List ℕ) (place : Place) (tokens : List Token) → length text ≤ fuel → scan text 0 place ≡ Ok tokens → Reads place text tokens
unfolding scan Reading
read-within fuel [] place tokens within whole = let same : tokens ≡ closing place.line place = cc in Reads-as place [] tokens (closing place.line place) same over
read-within zero (byte ∷ bytes) place tokens within whole = absurd (omega arith)
read-within (suc fuel) (byte ∷ bytes) place tokens within whole =
    read-item byte bytes place tokens (item_of place.line (byte ∷ bytes)) (item_piece place.line byte bytes) refl whole
    (λ rest after more short found. read-within fuel rest after more (omega arith) found)

pub scan-reads : (text : List ℕ) (tokens : List Token) → tokens_of text ≡ Ok tokens → Reads beginning text tokens
scan-reads text tokens whole = read-within (length text) text beginning tokens (omega arith) whole

-- each piece is the item at the front
reads-scan : {place : Place} {text : List ℕ} {tokens : List Token} → Reads place text tokens → scan text 0 place ≡ Ok tokens
unfolding scan
reads-scan (over {place}) = refl
reads-scan (passed {place} {rest} {tokens} bytes is_passed more) =
    scan-passed bytes rest place (passed_front place.line bytes rest is_passed) (passed-some place.line bytes rest is_passed) ∙ ap (with_front []) (reads-scan more)
reads-scan (token {place} {rest} {tokens} kind bytes is_token more) =
    scan-token kind bytes rest place (token_front kind place.line bytes rest is_token) (token-some kind place.line bytes rest is_token) ∙ ap (with_front (token_at kind place (length bytes) ∷ [])) (reads-scan more)
reads-scan (directive_end {place} {rest} {tokens} in_directive more) =
    scan-end rest place (ap newline_item in_directive) ∙ ap (with_front (token_at kind.PragmaEnd place 0 ∷ [])) (reads-scan more)

pub reads-tokens : (text : List ℕ) (tokens : List Token) → Reads beginning text tokens → tokens_of text ≡ Ok tokens
reads-tokens text tokens reads = reads-scan reads

pub reads-one : (text : List ℕ) (first second : List Token) → Reads beginning text first → Reads beginning text second → first ≡ second
reads-one text first second one other = let tokens = reads-tokens text first one in let same = reads-tokens text second other in cc
