-- The spans of the tokens of a text, how many tokens there are, and the last of them.
use Rattle.std.proofs.Common.{◌≡◌, ℕ, ◌+◌, ◌-◌, ◌≤◌, List, [], ◌∷◌, ◌++◌, Ok, length, take, drop, refl, sym, ap, subst, ◌∙◌, arith, append_assoc, length-append}
use Rattle.std.specs.Prelude.{All}
use Rattle.std.proofs.lemmas.List.{drop_at, take_at}
use Rattle.std.proofs.lemmas.List.Elements.{All-cons, All-nil}
use Rattle.c_tokens.specs.declared.token.Spot.{Spot}
use Rattle.c_tokens.specs.declared.token.Token.{Token}
use Rattle.c_tokens.specs.declared.token.TokenKind.{TokenKind}
use Rattle.c_tokens.specs.declared.token.TokenKind.TheVariants as kind
use Rattle.c_tokens.specs.declared.place.Line.{Line}
use Rattle.c_tokens.specs.declared.place.Line.TheVariants as line
use Rattle.c_tokens.specs.declared.place.Place.{Place}
use Rattle.c_tokens.specs.language.Bytes.{newline}
use Rattle.c_tokens.specs.language.Words.{decimal_value, greatest}
use Rattle.c_tokens.specs.language.Quoted.{quote}
use Rattle.c_tokens.specs.workings.Tokens.{tokens_of}
use Rattle.c_tokens.specs.language.Places.{beginning, closing, line_after, line_with, place_after, places_after, token_at}
use Rattle.c_tokens.specs.language.Pieces.{IsToken, Reads}
use Rattle.c_tokens.specs.language.Pieces.Reads.{over, passed, token, directive_end}
use Rattle.c_tokens.proofs.Law.{scan-reads, token-some}

-- the bytes of a token
abbrev pub bytes_at : List ℕ → Token → List ℕ
bytes_at text it = take (it.end - it.start) (drop it.start text)

-- The span of a token lies in the text. That of a number writes a small one, and that of a text has two quotes.
pub record IsSpanOf (text : List ℕ) (it : Token) : Type 0 where
  pub ordered : it.start ≤ it.end
  pub inside : it.end ≤ length text
  pub small : it.kind ≡ kind.Number → decimal_value (bytes_at text it) ≤ greatest
  pub quoted : it.kind ≡ kind.Text → it.start + 2 ≤ it.end

pub places_after-at : (bytes : List ℕ) (place : Place) → (places_after bytes place).at ≡ place.at + length bytes
places_after-at [] place = omega arith
places_after-at (byte ∷ bytes) place = omega (arith, places_after-at bytes (place_after byte place))

-- the line of a place says nothing of the spots after it
spot-line : (bytes : List ℕ) (place : Place) (other : Line) → (places_after bytes (record place { line = other })).spot ≡ (places_after bytes place).spot
spot-line [] place other = refl
spot-line (byte ∷ bytes) place other =
    let next = place_after byte place in
    spot-line bytes next (line_after byte other)

places_after-append : (front rest : List ℕ) (place : Place) → places_after (front ++ rest) place ≡ places_after rest (places_after front place)
places_after-append [] rest place = refl
places_after-append (byte ∷ front) rest place = places_after-append front rest (place_after byte place)

number-small : (it : TokenKind) (in_line : Line) (bytes rest : List ℕ) → IsToken it in_line bytes rest → it ≡ kind.Number → decimal_value bytes ≤ greatest
number-small kind.Number in_line bytes rest (begun, all, plain, least, stops, ends) same = least
number-small kind.Name in_line bytes rest is_token same = absurd (cc)
number-small kind.Text in_line bytes rest is_token same = absurd (cc)
number-small kind.Symbol in_line bytes rest is_token same = absurd (cc)
number-small kind.Include in_line bytes rest is_token same = absurd (cc)
number-small kind.Pragma in_line bytes rest is_token same = absurd (cc)
number-small kind.OtherHash in_line bytes rest is_token same = absurd (cc)
number-small kind.PragmaEnd in_line bytes rest is_token same = absurd (cc)
number-small kind.End in_line bytes rest is_token same = absurd (cc)

text-quoted : (it : TokenKind) (in_line : Line) (bytes rest : List ℕ) → IsToken it in_line bytes rest → it ≡ kind.Text → 2 ≤ length bytes
text-quoted kind.Text in_line bytes rest (inside, same_bytes, quoted) same = omega (arith, ap length same_bytes, length-append inside (quote ∷ []))
text-quoted kind.Number in_line bytes rest is_token same = absurd (cc)
text-quoted kind.Name in_line bytes rest is_token same = absurd (cc)
text-quoted kind.Symbol in_line bytes rest is_token same = absurd (cc)
text-quoted kind.Include in_line bytes rest is_token same = absurd (cc)
text-quoted kind.Pragma in_line bytes rest is_token same = absurd (cc)
text-quoted kind.OtherHash in_line bytes rest is_token same = absurd (cc)
text-quoted kind.PragmaEnd in_line bytes rest is_token same = absurd (cc)
text-quoted kind.End in_line bytes rest is_token same = absurd (cc)

-- a token without bytes
empty-span : (text : List ℕ) (it : TokenKind) (place : Place) → place.at ≤ length text → (it ≡ kind.Number → ⊥) → (it ≡ kind.Text → ⊥) → IsSpanOf text (token_at it place 0)
empty-span text it place within no_number no_text = record {
  ordered = omega arith;
  inside = omega arith;
  small = λ same. absurd (no_number same);
  quoted = λ same. absurd (no_text same);
}

-- the bytes behind a front
span-behind : (front bytes rest : List ℕ) (start end : ℕ) → start ≡ length front → end ≡ start + length bytes → take (end - start) (drop start (front ++ (bytes ++ rest))) ≡ bytes
span-behind front bytes rest start end begins ends =
    ap (λ (b : List ℕ). take (end - start) b) (drop_at front (bytes ++ rest) start (sym begins))
    ∙ take_at bytes rest (end - start) (omega arith)

token-span : (front bytes rest : List ℕ) (it : TokenKind) (place : Place) → place.at ≡ length front → IsToken it place.line bytes rest → IsSpanOf (front ++ (bytes ++ rest)) (token_at it place (length bytes))
token-span front bytes rest it place at is_token = record {
  ordered = omega arith;
  inside = omega (arith, length-append front (bytes ++ rest), length-append bytes rest);
  small = λ same. subst (λ (b : List ℕ). decimal_value b ≤ greatest) (sym (span-behind front bytes rest place.at (place.at + length bytes) at refl)) (number-small it place.line bytes rest is_token same);
  quoted = λ same. omega (arith, text-quoted it place.line bytes rest is_token same);
}

closing-spans : (text : List ℕ) (place : Place) (in_line : Line) → place.at ≤ length text → All (IsSpanOf text) (closing in_line place)
closing-spans text place line.Fresh within = All-cons (IsSpanOf text) _ [] (empty-span text kind.End place within (λ same. cc) (λ same. cc)) (All-nil (IsSpanOf text))
closing-spans text place line.Begun within = All-cons (IsSpanOf text) _ [] (empty-span text kind.End place within (λ same. cc) (λ same. cc)) (All-nil (IsSpanOf text))
closing-spans text place line.Directive within =
    All-cons (IsSpanOf text) _ (token_at kind.End place 0 ∷ []) (empty-span text kind.PragmaEnd place within (λ same. cc) (λ same. cc))
    (All-cons (IsSpanOf text) _ [] (empty-span text kind.End place within (λ same. cc) (λ same. cc)) (All-nil (IsSpanOf text)))

reads-spans : {place : Place} {rest : List ℕ} {tokens : List Token} (front : List ℕ) → place.at ≡ length front → Reads place rest tokens → All (IsSpanOf (front ++ rest)) tokens
reads-spans front at (over {place}) = closing-spans (front ++ []) place place.line (omega (arith, length-append front []))
reads-spans front at (passed {place} {rest} {tokens} bytes is_passed more) =
    let P : List ℕ → Type 0 = λ text. All (IsSpanOf text) tokens in
    subst P (append_assoc front bytes rest) (reads-spans (front ++ bytes) (omega (arith, places_after-at bytes place, length-append front bytes)) more)
reads-spans front at (token {place} {rest} {tokens} it bytes is_token more) =
    let text = front ++ (bytes ++ rest) in
    let after = record place { line = line_with it place.line } in
    let P : List ℕ → Type 0 = λ whole. All (IsSpanOf whole) tokens in
    All-cons (IsSpanOf text) (token_at it place (length bytes)) tokens (token-span front bytes rest it place at is_token)
    (subst P (append_assoc front bytes rest) (reads-spans (front ++ bytes) (omega (arith, places_after-at bytes after, length-append front bytes)) more))
reads-spans front at (directive_end {place} {rest} {tokens} in_directive more) =
    let text = front ++ newline ∷ rest in
    let P : List ℕ → Type 0 = λ whole. All (IsSpanOf whole) tokens in
    All-cons (IsSpanOf text) (token_at kind.PragmaEnd place 0) tokens (empty-span text kind.PragmaEnd place (omega (arith, length-append front (newline ∷ rest))) (λ same. cc) (λ same. cc))
    (subst P (append_assoc front (newline ∷ []) rest) (reads-spans (front ++ newline ∷ []) (omega (arith, length-append front (newline ∷ []))) more))

closing-length : (in_line : Line) (place : Place) → length (closing in_line place) ≤ 2
closing-length line.Fresh place = omega arith
closing-length line.Begun place = omega arith
closing-length line.Directive place = omega arith

-- each token has a byte at least, but for two at the end
reads-length : {place : Place} {rest : List ℕ} {tokens : List Token} → Reads place rest tokens → length tokens ≤ length rest + 2
reads-length (over {place}) = closing-length place.line place
reads-length (passed {place} {rest} {tokens} bytes is_passed more) = omega (arith, reads-length more, length-append bytes rest)
reads-length (token {place} {rest} {tokens} it bytes is_token more) = omega (arith, reads-length more, length-append bytes rest, token-some it place.line bytes rest is_token)
reads-length (directive_end {place} {rest} {tokens} in_directive more) = omega (arith, reads-length more)

-- The last token is the end of the text, and stands there.
pub record HasEnd (at : ℕ) (spot : Spot) (tokens : List Token) : Type 0 where
  pub front : List Token
  pub last : Token
  pub parts : tokens ≡ front ++ last ∷ []
  pub is_end : last.kind ≡ kind.End
  pub at_end : (last.start ≡ at) × (last.end ≡ at)
  pub spot_of_end : last.spot ≡ spot

-- more tokens before it
HasEnd-cons : (at : ℕ) (spot : Spot) (first : Token) (tokens : List Token) → HasEnd at spot tokens → HasEnd at spot (first ∷ tokens)
HasEnd-cons at spot first tokens ended = record {
  front = first ∷ ended.front;
  last = ended.last;
  parts = ap (λ (more : List Token). first ∷ more) ended.parts;
  is_end = ended.is_end;
  at_end = ended.at_end;
  spot_of_end = ended.spot_of_end;
}

HasEnd-at : (at other : ℕ) (spot next : Spot) (tokens : List Token) → at ≡ other → spot ≡ next → HasEnd at spot tokens → HasEnd other next tokens
HasEnd-at at other spot next tokens same place ended = record {
  front = ended.front;
  last = ended.last;
  parts = ended.parts;
  is_end = ended.is_end;
  at_end = (ended.at_end.0 ∙ same, ended.at_end.1 ∙ same);
  spot_of_end = ended.spot_of_end ∙ place;
}

closing-end : (place : Place) (in_line : Line) → HasEnd place.at place.spot (closing in_line place)
closing-end place line.Fresh = record { front = []; last = token_at kind.End place 0; parts = refl; is_end = refl; at_end = (refl, omega arith); spot_of_end = refl }
closing-end place line.Begun = record { front = []; last = token_at kind.End place 0; parts = refl; is_end = refl; at_end = (refl, omega arith); spot_of_end = refl }
closing-end place line.Directive = record { front = token_at kind.PragmaEnd place 0 ∷ []; last = token_at kind.End place 0; parts = refl; is_end = refl; at_end = (refl, omega arith); spot_of_end = refl }

reads-end : {place : Place} {rest : List ℕ} {tokens : List Token} → Reads place rest tokens → HasEnd (place.at + length rest) (places_after rest place).spot tokens
reads-end (over {place}) = HasEnd-at place.at (place.at + 0) place.spot place.spot (closing place.line place) (omega arith) refl (closing-end place place.line)
reads-end (passed {place} {rest} {tokens} bytes is_passed more) =
    let next = places_after bytes place in
    HasEnd-at (next.at + length rest) (place.at + length (bytes ++ rest)) (places_after rest next).spot (places_after (bytes ++ rest) place).spot tokens
    (omega (arith, places_after-at bytes place, length-append bytes rest))
    (ap (λ (p : Place). p.spot) (sym (places_after-append bytes rest place)))
    (reads-end more)
reads-end (token {place} {rest} {tokens} it bytes is_token more) =
    let begun = record place { line = line_with it place.line } in
    let next = places_after bytes begun in
    HasEnd-cons (place.at + length (bytes ++ rest)) (places_after (bytes ++ rest) place).spot (token_at it place (length bytes)) tokens
    (HasEnd-at (next.at + length rest) (place.at + length (bytes ++ rest)) (places_after rest next).spot (places_after (bytes ++ rest) place).spot tokens
    (omega (arith, places_after-at bytes begun, length-append bytes rest))
    (ap (λ (p : Place). p.spot) (sym (places_after-append bytes rest begun)) ∙ spot-line (bytes ++ rest) place (line_with it place.line))
    (reads-end more))
reads-end (directive_end {place} {rest} {tokens} in_directive more) =
    let begun = record place { line = line.Fresh } in
    let next = place_after newline begun in
    HasEnd-cons (place.at + length (newline ∷ rest)) (places_after (newline ∷ rest) place).spot (token_at kind.PragmaEnd place 0) tokens
    (HasEnd-at (next.at + length rest) (place.at + length (newline ∷ rest)) (places_after rest next).spot (places_after (newline ∷ rest) place).spot tokens
    (omega arith)
    (spot-line (newline ∷ rest) place line.Fresh)
    (reads-end more))

-- the tokens of a text
pub spans : (text : List ℕ) (tokens : List Token) → tokens_of text ≡ Ok tokens → All (IsSpanOf text) tokens
spans text tokens whole = reads-spans [] refl (scan-reads text tokens whole)

pub tokens-length : (text : List ℕ) (tokens : List Token) → tokens_of text ≡ Ok tokens → length tokens ≤ length text + 2
tokens-length text tokens whole = reads-length (scan-reads text tokens whole)

pub tokens-end : (text : List ℕ) (tokens : List Token) → tokens_of text ≡ Ok tokens → HasEnd (length text) (places_after text beginning).spot tokens
tokens-end text tokens whole = HasEnd-at (0 + length text) (length text) _ _ tokens (omega arith) refl (reads-end (scan-reads text tokens whole))
