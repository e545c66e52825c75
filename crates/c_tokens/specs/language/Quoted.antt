-- Texts in double quotes.
use Rattle.std.specs.Prelude.{ℕ, Bool, true, false, ◌+◌, ◌-◌, ◌==◌, ◌||◌, if◌then◌else◌, List, [], ◌∷◌, Result, Ok, Err}
use Rattle.c_tokens.specs.language.Bytes.{is_control}

abbrev pub quote : ℕ
quote = 34

abbrev pub backslash : ℕ
backslash = 92

-- what may follow a backslash: `n`, `t`, a backslash and a quote
abbrev pub is_escape : ℕ → Bool
is_escape byte = byte == 110 || byte == 116 || byte == backslash || byte == quote

-- Where a text ends whose first bytes were read: the offset behind its closing quote. Or the offset of the first byte that isn't
-- allowed, which is the end of the bytes where the text is open there. `escaped` says that the byte before is a backslash
-- that wants its second byte; where that one isn't allowed, the backslash isn't.
abbrev pub text_end : ℕ → Bool → List ℕ → Result ℕ ℕ
text_end at true [] = Err (at - 1)
text_end at false [] = Err at
text_end at true (byte ∷ bytes) = if is_escape byte then text_end (at + 1) false bytes else Err (at - 1)
text_end at false (byte ∷ bytes) = if byte == quote then Ok (at + 1) else if byte == backslash then text_end (at + 1) true bytes else if is_control byte then Err at else text_end (at + 1) false bytes

-- the same for a text whose opening quote is the first byte
abbrev pub quoted_end : List ℕ → Result ℕ ℕ
quoted_end [] = Err 0
quoted_end (opening ∷ bytes) = text_end 1 false bytes
