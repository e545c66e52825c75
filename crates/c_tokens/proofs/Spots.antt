-- The spots of the tokens of a text: each stands where the one before it stands or further on, and further on where that one has bytes.
use Rattle.std.proofs.Common.{◌≡◌, ◌≢◌, ℕ, ◌+◌, ◌<◌, ◌≤◌, ◌==◌, Bool, true, false, if◌then◌else◌, IsTrue, List, [], ◌∷◌, Ok, length, refl, sym, ap, subst, ◌∙◌, arith}
use Rattle.std.specs.Prelude.{All}
use Rattle.std.proofs.lemmas.Bool.{false≢true}
use Rattle.std.proofs.lemmas.List.Elements.{All-cons, All-nil, All-weaker}
use Rattle.c_tokens.specs.declared.token.Spot.{Spot}
use Rattle.c_tokens.specs.declared.token.Token.{Token}
use Rattle.c_tokens.specs.declared.token.TokenKind.{TokenKind}
use Rattle.c_tokens.specs.declared.token.TokenKind.TheVariants as kind
use Rattle.c_tokens.specs.declared.place.Line.{Line}
use Rattle.c_tokens.specs.declared.place.Line.TheVariants as line
use Rattle.c_tokens.specs.declared.place.Place.{Place}
use Rattle.c_tokens.specs.language.Bytes.{newline}
use Rattle.c_tokens.specs.workings.Tokens.{tokens_of}
use Rattle.c_tokens.specs.language.Places.{closing, line_with, place_after, places_after, token_at}
use Rattle.c_tokens.specs.language.Pieces.{Reads}
use Rattle.c_tokens.specs.language.Pieces.Reads.{over, passed, token, directive_end}
use Rattle.c_tokens.proofs.Law.{scan-reads, token-some}

-- a spot in a later line, or not before another in its line
record IsFrom (first second : Spot) : Type 0 where
  line : first.line ≤ second.line
  column : first.line ≡ second.line → first.column ≤ second.column

-- a spot in a later line, or behind another in its line
record IsBehind (first second : Spot) : Type 0 where
  line : first.line ≤ second.line
  column : first.line ≡ second.line → first.column < second.column

from-itself : (spot : Spot) → IsFrom spot spot
from-itself spot = record { line = omega arith; column = λ same. omega arith }

from-behind : {first second : Spot} → IsBehind first second → IsFrom first second
from-behind behind = record { line = behind.line; column = λ same. let less = behind.column same in omega arith }

from-from : {first second third : Spot} → IsFrom first second → IsFrom second third → IsFrom first third
from-from {first} {second} {third} one other = record {
  line = omega (arith, one.line, other.line);
  column = λ same.
      let here : first.line ≡ second.line = omega (arith, one.line, other.line) in
      let there : second.line ≡ third.line = omega (arith, one.line, other.line) in
      omega (arith, one.column here, other.column there);
}

behind-from : {first second third : Spot} → IsBehind first second → IsFrom second third → IsBehind first third
behind-from {first} {second} {third} one other = record {
  line = omega (arith, one.line, other.line);
  column = λ same.
      let here : first.line ≡ second.line = omega (arith, one.line, other.line) in
      let there : second.line ≡ third.line = omega (arith, one.line, other.line) in
      omega (arith, one.column here, other.column there);
}

behind-apart : {first second : Spot} → IsBehind first second → first ≢ second
behind-apart {first} {second} behind same =
    let lines : first.line ≡ second.line = ap (λ (spot : Spot). spot.line) same in
    let columns : first.column ≡ second.column = ap (λ (spot : Spot). spot.column) same in
    omega (arith, behind.column lines)

-- a byte moves on
byte-behind : (test : Bool) (spot : Spot) → IsBehind spot (if test then record { line = spot.line + 1; column = 1 } else record spot { column = spot.column + 1 })
byte-behind true spot = record { line = omega arith; column = λ same. absurd (omega arith) }
byte-behind false spot = record { line = omega arith; column = λ same. omega arith }

bytes-from : (bytes : List ℕ) (place : Place) → IsFrom place.spot (places_after bytes place).spot
bytes-from [] place = from-itself place.spot
bytes-from (byte ∷ bytes) place = from-from (from-behind (byte-behind (byte == newline) place.spot)) (bytes-from bytes (place_after byte place))

bytes-behind : (bytes : List ℕ) (place : Place) → 1 ≤ length bytes → IsBehind place.spot (places_after bytes place).spot
bytes-behind [] place some = absurd (omega arith)
bytes-behind (byte ∷ bytes) place some = behind-from (byte-behind (byte == newline) place.spot) (bytes-from bytes (place_after byte place))

-- all but the ends of directives and of the text
abbrev pub has_bytes : TokenKind → Bool
has_bytes kind.PragmaEnd = false
has_bytes kind.End = false
has_bytes other = true

-- no later token stands where a token with bytes stands
abbrev pub HaveOwnSpots : List Token → Type 0
HaveOwnSpots [] = Unit {0}
HaveOwnSpots (first ∷ rest) = All (λ other. IsTrue (has_bytes first.kind) → first.spot ≢ other.spot) rest × HaveOwnSpots rest

-- tokens that begin at a spot or further on, and have spots of their own
record StandFrom (spot : Spot) (tokens : List Token) : Type 0 where
  from : All (λ it. IsFrom spot it.spot) tokens
  own : HaveOwnSpots tokens

-- what stands from a spot on stands from an earlier one
earlier : {first second : Spot} (tokens : List Token) → IsFrom first second → All (λ it. IsFrom second it.spot) tokens → All (λ it. IsFrom first it.spot) tokens
earlier {first} {second} tokens one = All-weaker (λ it. IsFrom second it.spot) (λ it. IsFrom first it.spot) (λ it other. from-from one other) tokens

-- a token without bytes before others
empty-first : {spot : Spot} {tokens : List Token} (it : Token) → has_bytes it.kind ≡ false → it.spot ≡ spot → StandFrom spot tokens → StandFrom spot (it ∷ tokens)
empty-first {spot} {tokens} it empty here rest = record {
  from = All-cons (λ other. IsFrom spot other.spot) it tokens (subst (λ at. IsFrom spot at) (sym here) (from-itself spot)) rest.from;
  own = (λ at none within full. absurd (false≢true (sym empty ∙ full)), rest.own);
}

-- a token before others that stand behind it
token-first : {spot next : Spot} {tokens : List Token} (it : Token) → it.spot ≡ spot → IsBehind spot next → StandFrom next tokens → StandFrom spot (it ∷ tokens)
token-first {spot} {next} {tokens} it here behind rest = record {
  from = All-cons (λ other. IsFrom spot other.spot) it tokens (subst (λ at. IsFrom spot at) (sym here) (from-itself spot)) (earlier tokens (from-behind behind) rest.from);
  own = (
    All-weaker (λ other. IsFrom next other.spot) (λ other. IsTrue (has_bytes it.kind) → it.spot ≢ other.spot) (λ other further full same. behind-apart (behind-from behind further) (sym here ∙ same)) tokens rest.from,
    rest.own,
  );
}

none-stand : (spot : Spot) → StandFrom spot []
none-stand spot = record { from = All-nil (λ it. IsFrom spot it.spot); own = tt }

closing-stand : (place : Place) (in_line : Line) → StandFrom place.spot (closing in_line place)
closing-stand place line.Fresh = empty-first (token_at kind.End place 0) refl refl (none-stand place.spot)
closing-stand place line.Begun = empty-first (token_at kind.End place 0) refl refl (none-stand place.spot)
closing-stand place line.Directive = empty-first (token_at kind.PragmaEnd place 0) refl refl (empty-first (token_at kind.End place 0) refl refl (none-stand place.spot))

reads-stand : {place : Place} {rest : List ℕ} {tokens : List Token} → Reads place rest tokens → StandFrom place.spot tokens
reads-stand (over {place}) = closing-stand place place.line
reads-stand (passed {place} {rest} {tokens} bytes is_passed more) =
    let further = reads-stand more in
    record { from = earlier tokens (bytes-from bytes place) further.from; own = further.own }
reads-stand (token {place} {rest} {tokens} it bytes is_token more) =
    token-first (token_at it place (length bytes)) refl (bytes-behind bytes (record place { line = line_with it place.line }) (token-some it place.line bytes rest is_token)) (reads-stand more)
reads-stand (directive_end {place} {rest} {tokens} in_directive more) =
    token-first (token_at kind.PragmaEnd place 0) refl (byte-behind (newline == newline) place.spot) (reads-stand more)

pub tokens-own : (text : List ℕ) (tokens : List Token) → tokens_of text ≡ Ok tokens → HaveOwnSpots tokens
tokens-own text tokens whole = (reads-stand (scan-reads text tokens whole)).own
