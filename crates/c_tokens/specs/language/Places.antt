-- Where the bytes of a text stand: their lines and columns, and the lines of directives. What a token at a place is.
use Rattle.std.specs.Prelude.{ℕ, ◌+◌, ◌==◌, if◌then◌else◌, List, [], ◌∷◌}
use Rattle.c_tokens.specs.declared.token.Spot.{Spot}
use Rattle.c_tokens.specs.declared.token.Token.{Token}
use Rattle.c_tokens.specs.declared.token.TokenKind.{TokenKind}
use Rattle.c_tokens.specs.declared.token.TokenKind.TheVariants as kind
use Rattle.c_tokens.specs.declared.token.TokenFault.{TokenFault}
use Rattle.c_tokens.specs.declared.token.TokenFault.TheVariants as fault
use Rattle.c_tokens.specs.declared.place.Line.{Line}
use Rattle.c_tokens.specs.declared.place.Line.TheVariants as line
use Rattle.c_tokens.specs.declared.place.Place.{Place}
use Rattle.c_tokens.specs.declared.item.Flaw.{Flaw}
use Rattle.c_tokens.specs.declared.item.Flaw.TheVariants as flaw
use Rattle.c_tokens.specs.language.Bytes.{newline}

-- the place before the first byte
abbrev pub beginning : Place
beginning = record { at = 0; spot = record { line = 1; column = 1 }; line = line.Fresh }

-- the spot after a byte
abbrev pub spot_after : ℕ → Spot → Spot
spot_after byte spot = if byte == newline then record { line = spot.line + 1; column = 1 } else record spot { column = spot.column + 1 }

-- a newline begins a line, but in the line of a directive, which only its end ends
abbrev pub line_from : Line → Line
line_from line.Fresh = line.Fresh
line_from line.Begun = line.Fresh
line_from line.Directive = line.Directive

abbrev pub line_after : ℕ → Line → Line
line_after byte old = if byte == newline then line_from old else old

-- the place after a byte of an item
abbrev pub place_after : ℕ → Place → Place
place_after byte place = record { at = place.at + 1; spot = spot_after byte place.spot; line = line_after byte place.line }

abbrev pub places_after : List ℕ → Place → Place
places_after [] place = place
places_after (byte ∷ bytes) place = places_after bytes (place_after byte place)

-- the line once a token of this kind has begun in it
abbrev pub begun : Line → Line
begun line.Fresh = line.Begun
begun line.Begun = line.Begun
begun line.Directive = line.Directive

abbrev pub line_with : TokenKind → Line → Line
line_with kind.Pragma old = line.Directive
line_with _ old = begun old

-- a token of so many bytes at this place
abbrev pub token_at : TokenKind → Place → ℕ → Token
token_at kind place count = record { kind = kind; start = place.at; end = place.at + count; spot = place.spot }

-- a fault so many bytes further on in the same line
abbrev pub fault_of : Flaw → Spot → TokenFault
fault_of flaw.BadByte spot = fault.BadByte spot
fault_of flaw.OpenComment spot = fault.OpenComment spot
fault_of flaw.BadNumber spot = fault.BadNumber spot

abbrev pub fault_at : Flaw → Place → ℕ → TokenFault
fault_at flaw place offset = fault_of flaw (record place.spot { column = place.spot.column + offset })

-- the tokens at the end of a text, which ends the line of a directive too
abbrev pub closing : Line → Place → List Token
closing line.Fresh place = token_at kind.End place 0 ∷ []
closing line.Begun place = token_at kind.End place 0 ∷ []
closing line.Directive place = token_at kind.PragmaEnd place 0 ∷ token_at kind.End place 0 ∷ []
