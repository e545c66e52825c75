-- A text as the pieces in which it is read: what each of them is, said of its own bytes and of what follows it.
use Rattle.std.specs.Prelude.{ℕ, Bool, ◌≡◌, ◌≢◌, ◌≤◌, ◌⊎◌, false, ◌==◌, ◌||◌, length, IsTrue, List, [], ◌∷◌, ◌++◌, All, codes}
use Rattle.c_tokens.specs.declared.token.Token.{Token}
use Rattle.c_tokens.specs.declared.token.TokenKind.{TokenKind}
use Rattle.c_tokens.specs.declared.token.TokenKind.TheVariants as kind
use Rattle.c_tokens.specs.declared.place.Line.{Line}
use Rattle.c_tokens.specs.declared.place.Line.TheVariants as line
use Rattle.c_tokens.specs.declared.place.Place.{Place}
use Rattle.c_tokens.specs.language.Bytes.{begins, is_blank, is_control, is_digit, is_gap, is_inline, is_letter, is_word, newline}
use Rattle.c_tokens.specs.language.Blanks.{return, slash, star}
use Rattle.c_tokens.specs.language.Words.{clings, decimal_value, greatest, is_led_by_zero}
use Rattle.c_tokens.specs.language.Symbols.{double_symbols, has_byte, has_pair, single_symbols}
use Rattle.c_tokens.specs.language.Quoted.{backslash, is_escape, quote}
use Rattle.c_tokens.specs.language.Places.{closing, line_with, place_after, places_after, token_at}

abbrev pub Passes : (ℕ → Bool) → List ℕ → Type 0
Passes test bytes = All (λ byte. IsTrue (test byte)) bytes

-- the first byte doesn't pass, or there is none
abbrev pub StopsAt : (ℕ → Bool) → List ℕ → Type 0
StopsAt test rest = begins test rest ≡ false

-- the end of the text, or a newline
abbrev pub IsLineEnd : List ℕ → Type 0
IsLineEnd rest = StopsAt is_inline rest

-- a comment to the end of its line
abbrev pub IsLineComment : List ℕ → List ℕ → Type 0
IsLineComment bytes rest = (inside : List ℕ) × (bytes ≡ slash ∷ slash ∷ inside) × Passes is_inline inside × IsLineEnd rest

-- a comment of its own, which the first star and slash behind its opening end
abbrev pub IsComment : List ℕ → Type 0
IsComment bytes = (inside : List ℕ) × (bytes ≡ slash ∷ star ∷ (inside ++ star ∷ slash ∷ [])) × ((front back : List ℕ) → inside ++ star ∷ [] ≢ front ++ star ∷ slash ∷ back)

-- a backslash before the end of a line
abbrev pub IsContinued : List ℕ → Type 0
IsContinued bytes = (bytes ≡ backslash ∷ newline ∷ []) ⊎ (bytes ≡ backslash ∷ return ∷ newline ∷ [])

-- a blank of one byte, which in the line of a directive is no newline
abbrev pub IsBlank : Line → List ℕ → Type 0
IsBlank line.Fresh bytes = (byte : ℕ) × (bytes ≡ byte ∷ []) × IsTrue (is_blank byte)
IsBlank line.Begun bytes = (byte : ℕ) × (bytes ≡ byte ∷ []) × IsTrue (is_blank byte)
IsBlank line.Directive bytes = (byte : ℕ) × (bytes ≡ byte ∷ []) × IsTrue (is_blank byte) × (byte ≢ newline)

-- what is passed over between tokens
abbrev pub IsPassed : Line → List ℕ → List ℕ → Type 0
IsPassed in_line bytes rest = IsBlank in_line bytes ⊎ (IsContinued bytes ⊎ (IsLineComment bytes rest ⊎ IsComment bytes))

abbrev pub IsName : List ℕ → List ℕ → Type 0
IsName bytes rest = IsTrue (begins is_letter bytes) × Passes is_word bytes × StopsAt is_word rest

abbrev pub IsNumber : List ℕ → List ℕ → Type 0
IsNumber bytes rest = IsTrue (begins is_digit bytes) × Passes is_digit bytes × (is_led_by_zero bytes ≡ false) × (decimal_value bytes ≤ greatest) × StopsAt is_digit rest × StopsAt clings rest

-- a byte that stands for itself in a text
abbrev pub IsPlain : ℕ → Type 0
IsPlain byte = (byte ≢ quote) × (byte ≢ backslash) × (is_control byte ≡ false)

-- what may stand between the quotes of a text
abbrev pub IsQuoted : List ℕ → Type 0
IsQuoted [] = Unit {0}
IsQuoted (byte ∷ []) = IsPlain byte
IsQuoted (byte ∷ next ∷ bytes) = (IsPlain byte × IsQuoted (next ∷ bytes)) ⊎ ((byte ≡ backslash) × IsTrue (is_escape next) × IsQuoted bytes)

abbrev pub IsText : List ℕ → Type 0
IsText bytes = (inside : List ℕ) × (bytes ≡ quote ∷ (inside ++ quote ∷ [])) × IsQuoted inside

-- A symbol of two bytes. Or one of one byte, where it doesn't begin one of two with the byte behind it, nor a comment.
abbrev pub IsDouble : List ℕ → Type 0
IsDouble bytes = (first second : ℕ) × (bytes ≡ first ∷ second ∷ []) × IsTrue (has_pair first second double_symbols)

abbrev pub IsSingle : List ℕ → List ℕ → Type 0
IsSingle bytes rest = (byte : ℕ) × (bytes ≡ byte ∷ []) × IsTrue (has_byte byte single_symbols) × StopsAt (λ next. has_pair byte next double_symbols) rest × (byte ≡ slash → StopsAt (λ next. next == slash || next == star) rest)

abbrev pub IsSymbol : List ℕ → List ℕ → Type 0
IsSymbol bytes rest = IsDouble bytes ⊎ IsSingle bytes rest

-- blanks and comments up to the end of a line, which may be a carriage return and a newline
abbrev pub EndsLine : List ℕ → Type 0
EndsLine rest = IsLineEnd rest ⊎ ((bytes : List ℕ) × (rest ≡ return ∷ newline ∷ bytes))

pub data IsTail : List ℕ → List ℕ → Type 0 where
  nothing : {rest : List ℕ} → EndsLine rest → IsTail [] rest
  gap : {byte : ℕ} {bytes rest : List ℕ} → IsTrue (is_gap byte) → IsTail bytes rest → IsTail (byte ∷ bytes) rest
  comment : {first bytes rest : List ℕ} → IsComment first → IsTail bytes rest → IsTail (first ++ bytes) rest
  last : {bytes rest : List ℕ} → IsLineComment bytes rest → IsTail bytes rest

abbrev pub IsFile : List ℕ → Type 0
IsFile name = (name ≡ codes "<omp.h>") ⊎ (name ≡ codes "<stdio.h>")

abbrev pub hash : ℕ
hash = 35

-- a line that includes a file of the library, up to its end
abbrev pub IsInclude : List ℕ → List ℕ → Type 0
IsInclude bytes rest = (first second name tail : List ℕ) × (bytes ≡ hash ∷ (first ++ codes "include" ++ second ++ name ++ tail)) × Passes is_gap first × Passes is_gap second × IsFile name × IsTail tail rest

-- the head of a directive, with a blank at least between its words
abbrev pub IsPragma : List ℕ → List ℕ → Type 0
IsPragma bytes rest = (first second : List ℕ) × (bytes ≡ hash ∷ (first ++ codes "pragma" ++ second ++ codes "omp")) × Passes is_gap first × Passes is_gap second × (second ≢ []) × StopsAt is_word rest

-- any other line that begins with a `#`, up to its newline
abbrev pub IsOtherHash : List ℕ → List ℕ → Type 0
IsOtherHash bytes rest = (inside : List ℕ) × (bytes ≡ hash ∷ inside) × Passes is_inline inside × IsLineEnd rest × ((front back : List ℕ) → bytes ++ rest ≡ front ++ back → (IsInclude front back → ⊥) × (IsPragma front back → ⊥))

-- a `#` counts where nothing but blanks and comments stands before it on its line, which isn't that of a directive
abbrev pub Counts : Line → Type 0
Counts line.Fresh = Unit {0}
Counts line.Begun = ⊥
Counts line.Directive = ⊥

-- the bytes of a token of each kind, before the rest
abbrev pub IsToken : TokenKind → Line → List ℕ → List ℕ → Type 0
IsToken kind.Name in_line bytes rest = IsName bytes rest
IsToken kind.Number in_line bytes rest = IsNumber bytes rest
IsToken kind.Text in_line bytes rest = IsText bytes
IsToken kind.Symbol in_line bytes rest = IsSymbol bytes rest
IsToken kind.Include in_line bytes rest = Counts in_line × IsInclude bytes rest
IsToken kind.Pragma in_line bytes rest = Counts in_line × IsPragma bytes rest
IsToken kind.OtherHash in_line bytes rest = Counts in_line × IsOtherHash bytes rest
IsToken kind.PragmaEnd in_line bytes rest = ⊥
IsToken kind.End in_line bytes rest = ⊥

-- The text from a place on is read as these tokens: a blank or a comment is passed over; a token has its kind, its span and its
-- place; the newline that ends the line of a directive is a token without bytes, and so is the end of the text.
pub data Reads : Place → List ℕ → List Token → Type 0 where
  over : {place : Place} → Reads place [] (closing place.line place)
  passed : {place : Place} {rest : List ℕ} {tokens : List Token} (bytes : List ℕ) → IsPassed place.line bytes rest → Reads (places_after bytes place) rest tokens → Reads place (bytes ++ rest) tokens
  token : {place : Place} {rest : List ℕ} {tokens : List Token} (kind : TokenKind) (bytes : List ℕ) → IsToken kind place.line bytes rest → Reads (places_after bytes (record place { line = line_with kind place.line })) rest tokens → Reads place (bytes ++ rest) (token_at kind place (length bytes) ∷ tokens)
  directive_end : {place : Place} {rest : List ℕ} {tokens : List Token} → place.line ≡ line.Directive → Reads (place_after newline (record place { line = line.Fresh })) rest tokens → Reads place (newline ∷ rest) (token_at kind.PragmaEnd place 0 ∷ tokens)
