-- What a `printf` prints (C11 7.21.6.1): its text, with `%d` for each number in order, `%%` for a percent sign, and the escapes.
use Rattle.std.specs.Prelude.{ℕ, ◌==◌, if◌then◌else◌, List, [], ◌∷◌, ◌++◌, ℤ}
use Rattle.std.specs.Fmt.{signed_decimal}

abbrev percent : ℕ
percent = 37

abbrev backslash : ℕ
backslash = 92

abbrev letter_d : ℕ
letter_d = 100

-- what a byte behind a backslash stands for: `\n` and `\t`, and else itself (C11 5.2.2)
abbrev pub escaped_byte : ℕ → ℕ
escaped_byte byte = if byte == 110 then 10 else if byte == 116 then 9 else byte

abbrev pub first_decimal : List ℤ → List ℕ
first_decimal [] = []
first_decimal (number ∷ numbers) = signed_decimal number

abbrev pub numbers_behind_first : List ℤ → List ℤ
numbers_behind_first [] = []
numbers_behind_first (number ∷ numbers) = numbers

-- A percent sign that neither `d` nor a second one follows, and a backslash at the end, print nothing. So does a `%d` without a number.
unfoldable mutual
  pub printed_text : List ℕ → List ℤ → List ℕ
  printed_text [] numbers = []
  printed_text (byte ∷ bytes) numbers =
      if byte == percent then text_behind_percent bytes numbers
      else if byte == backslash then text_behind_backslash bytes numbers
      else byte ∷ printed_text bytes numbers

  pub text_behind_percent : List ℕ → List ℤ → List ℕ
  text_behind_percent [] numbers = []
  text_behind_percent (byte ∷ bytes) numbers =
      if byte == letter_d then first_decimal numbers ++ printed_text bytes (numbers_behind_first numbers)
      else if byte == percent then percent ∷ printed_text bytes numbers
      else printed_text bytes numbers

  pub text_behind_backslash : List ℕ → List ℤ → List ℕ
  text_behind_backslash [] numbers = []
  text_behind_backslash (byte ∷ bytes) numbers = escaped_byte byte ∷ printed_text bytes numbers
