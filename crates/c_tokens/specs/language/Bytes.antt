-- The classes of bytes, by their ASCII codes.
use Rattle.std.specs.Prelude.{ℕ, Bool, true, false, ◌==◌, ◌&&◌, ◌||◌, nat_lt, nat_le, if◌then◌else◌, List, [], ◌∷◌, Option, Some, None}
use Rattle.std.specs.Prelude.{drop}
use Rattle.std.specs.List.{prefix_len}

abbrev pub within : ℕ → ℕ → ℕ → Bool
within first last byte = nat_le first byte && nat_le byte last

abbrev pub newline : ℕ
newline = 10

-- a space or a tab
abbrev pub is_gap : ℕ → Bool
is_gap byte = byte == 32 || byte == 9

-- a space, a tab, a carriage return or a newline
abbrev pub is_blank : ℕ → Bool
is_blank byte = is_gap byte || byte == 13 || byte == newline

-- a letter or `_`
abbrev pub is_letter : ℕ → Bool
is_letter byte = within 65 90 byte || within 97 122 byte || byte == 95

abbrev pub is_digit : ℕ → Bool
is_digit byte = within 48 57 byte

-- what a name goes on with
abbrev pub is_word : ℕ → Bool
is_word byte = is_letter byte || is_digit byte

-- what may not stand in a text in quotes: a control code
abbrev pub is_control : ℕ → Bool
is_control byte = nat_lt byte 32 || byte == 127

abbrev pub is_inline : ℕ → Bool
is_inline byte = if byte == newline then false else true

-- whether the first byte passes a test; false where there is none
abbrev pub begins : (ℕ → Bool) → List ℕ → Bool
begins test [] = false
begins test (byte ∷ bytes) = test byte

-- what follows the bytes at the front that pass a test
abbrev pub past : (ℕ → Bool) → List ℕ → List ℕ
past test bytes = drop (prefix_len test bytes) bytes

-- what follows a word at the front, where it stands there
abbrev pub after : List ℕ → List ℕ → Option (List ℕ)
after [] bytes = Some bytes
after (letter ∷ word) [] = None
after (letter ∷ word) (byte ∷ bytes) = if letter == byte then after word bytes else None
