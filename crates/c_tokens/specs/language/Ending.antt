-- Where the reading of a text ends at a fault: nothing is read at the front of what is left, and the first bytes say what the fault
-- is, and how far on it stands.
use Rattle.std.specs.Prelude.{ℕ, ◌+◌, ◌≡◌, ◌≢◌, ◌⊎◌, ◌==◌, length, IsTrue, List, [], ◌∷◌, ◌++◌}
use Rattle.c_tokens.specs.declared.token.TokenKind.{TokenKind}
use Rattle.c_tokens.specs.declared.token.TokenFault.{TokenFault}
use Rattle.c_tokens.specs.declared.place.Line.{Line}
use Rattle.c_tokens.specs.declared.place.Line.TheVariants as line
use Rattle.c_tokens.specs.declared.place.Place.{Place}
use Rattle.c_tokens.specs.declared.item.Flaw.{Flaw}
use Rattle.c_tokens.specs.declared.item.Flaw.TheVariants as flaw
use Rattle.c_tokens.specs.language.Bytes.{begins, is_control, is_digit, newline}
use Rattle.c_tokens.specs.language.Blanks.{slash, star}
use Rattle.c_tokens.specs.language.Quoted.{backslash, is_escape, quote}
use Rattle.c_tokens.specs.language.Places.{fault_at, line_with, place_after, places_after}
use Rattle.c_tokens.specs.language.Pieces.{IsPassed, IsQuoted, IsToken, StopsAt}

-- Nothing is read at the front of these bytes: there is one, and no blank or comment stands there, no token of any kind, and no end
-- of a directive's line.
pub record IsStuck (in_line : Line) (bytes : List ℕ) : Type 0 where
  pub some : bytes ≢ []
  pub not_passed : (front rest : List ℕ) → bytes ≡ front ++ rest → IsPassed in_line front rest → ⊥
  pub no_token : (kind : TokenKind) (front rest : List ℕ) → bytes ≡ front ++ rest → IsToken kind in_line front rest → ⊥
  pub no_end : in_line ≡ line.Directive → StopsAt (λ byte. byte == newline) bytes

-- what may not go on a text in quotes: the end of the bytes, a control byte, or a backslash with no byte behind it that it may have
abbrev pub StopsText : List ℕ → Type 0
StopsText [] = Unit {0}
StopsText (byte ∷ rest) = IsTrue (is_control byte) ⊎ ((byte ≡ backslash) × StopsAt is_escape rest)

-- a text in quotes, of which so many bytes stand before what may not go on it
abbrev pub IsBadText : List ℕ → ℕ → Type 0
IsBadText bytes offset = (inside rest : List ℕ) × (bytes ≡ quote ∷ (inside ++ rest)) × IsQuoted inside × StopsText rest × (offset ≡ 1 + length inside)

-- a comment of its own begins
abbrev pub OpensComment : List ℕ → Type 0
OpensComment bytes = (inside : List ℕ) × (bytes ≡ slash ∷ star ∷ inside)

-- no number begins, no text in quotes, and no comment of its own
abbrev pub IsOther : List ℕ → Type 0
IsOther bytes = StopsAt is_digit bytes × StopsAt (λ byte. byte == quote) bytes × (OpensComment bytes → ⊥)

-- The fault where nothing is read, by the first bytes: what it is, and how many bytes further on it stands.
abbrev pub IsFlaw : List ℕ → Flaw → ℕ → Type 0
IsFlaw bytes flaw.BadNumber offset = IsTrue (begins is_digit bytes) × (offset ≡ 0)
IsFlaw bytes flaw.OpenComment offset = OpensComment bytes × (offset ≡ 0)
IsFlaw bytes flaw.BadByte offset = IsBadText bytes offset ⊎ (IsOther bytes × (offset ≡ 0))

-- The text from a place on is read up to this fault: pieces are read as they are where the whole text is, until nothing is read.
pub data EndsIn : Place → List ℕ → TokenFault → Type 0 where
  here : {place : Place} {bytes : List ℕ} (what : Flaw) (offset : ℕ) → IsStuck place.line bytes → IsFlaw bytes what offset → EndsIn place bytes (fault_at what place offset)
  passed : {place : Place} {rest : List ℕ} {fault : TokenFault} (bytes : List ℕ) → IsPassed place.line bytes rest → EndsIn (places_after bytes place) rest fault → EndsIn place (bytes ++ rest) fault
  token : {place : Place} {rest : List ℕ} {fault : TokenFault} (kind : TokenKind) (bytes : List ℕ) → IsToken kind place.line bytes rest → EndsIn (places_after bytes (record place { line = line_with kind place.line })) rest fault → EndsIn place (bytes ++ rest) fault
  directive_end : {place : Place} {rest : List ℕ} {fault : TokenFault} → place.line ≡ line.Directive → EndsIn (place_after newline (record place { line = line.Fresh })) rest fault → EndsIn place (newline ∷ rest) fault
