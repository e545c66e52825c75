-- The test of each class of bytes.
use Rattle.std.specs.Prelude.{ℕ, Bool}
use Rattle.c_tokens.specs.declared.bytes.Class.{Class}
use Rattle.c_tokens.specs.declared.bytes.Class.TheVariants.{Gap, Inline, Letter, Digit, Word, Clinging, Control}
use Rattle.c_tokens.specs.language.Bytes.{is_control, is_digit, is_gap, is_inline, is_letter, is_word}
use Rattle.c_tokens.specs.language.Words.{clings}

abbrev pub test_of : Class → ℕ → Bool
test_of Gap = is_gap
test_of Inline = is_inline
test_of Letter = is_letter
test_of Digit = is_digit
test_of Word = is_word
test_of Clinging = clings
test_of Control = is_control
