-- Numbers in decimal as values of options, and what the typed getter reads of a value.
use Rattle.std.proofs.Common.{refl, true, false, Bool, List, Option, Some, [], ◌∷◌, ◌≡◌, ℕ, arith, ◌<◌, ◌≤◌, ◌^◌, ◌&&◌, Ok, Err, Result}
use Rattle.std.specs.Prelude.{None, pos, decimal, get_or, nat_le, nat_lt, if◌then◌else◌, ◌==◌, length}
use Rattle.std.specs.List.{list_all}
use Rattle.std.specs.Char.{digit_value}
use Rattle.std.specs.Str.Parse.{AllDigits, IsNumeral, ParsesUnsigned, digits_value, signed_digits_value, without_leading_plus, without_leading_sign}
use Rattle.std.proofs.lemmas.Fmt.{decimal_is_IsNumeral, first_decimal}
use Rattle.std.proofs.lemmas.Int.{ints}
use Rattle.std.proofs.lemmas.Bool.{lt-ltb, ne_eqb}
use Rattle.clap.specs.Matches.{ReadsOne}
use Rattle.clap.specs.Lexer.{without_minus}
use Rattle.clap.specs.ValueTests.{accepts, is_numeral, is_unsigned_in}
use Rattle.clap.specs.declared.builder.value_parser.ValueParser.TheVariants.{Signed, Unsigned}
use Rattle.clap.proofs.ValueTestLemmas.{Accepts-accepts, accepts-Accepts}
use Rattle.ompt_words.specs.Answers.{number_in}
use Rattle.ompt_words.proofs.Options.{IsValue}

-- a text whose first byte is a digit but 0 is a value, with no sign
record IsPlain (text : List ℕ) : Type 0 where
  value : IsValue text
  no_sign : without_leading_sign text ≡ text
  no_plus : without_leading_plus text ≡ text
  no_minus : without_minus text ≡ text
  signed : signed_digits_value 10 text ≡ pos (digits_value 10 text)

-- a text that begins with such a digit is plain
plain : (text : List ℕ) → 48 < get_or text 0 0 → IsPlain text
plain [] some = absurd (omega arith)
plain (first ∷ rest) some =
    let minus : (first == 45) ≡ false = ne_eqb first 45 (λ e. omega arith) in
    let plus : (first == 43) ≡ false = ne_eqb first 43 (λ e. omega arith) in
    record {
      value = record { long = rw minus refl; short = rw minus refl; not_dashes = rw minus refl };
      no_sign = rw (minus, plus) refl;
      no_plus = rw plus refl;
      no_minus = rw minus refl;
      signed = rw (minus, plus) refl;
    }

-- so a number in decimal is
plain_decimal : (n : ℕ) → 0 < n → n < 2 ^ 64 → IsPlain (decimal n)
plain_decimal n some small = plain (decimal n) (first_decimal n some small)

pub decimal_value : (n : ℕ) → 0 < n → n < 2 ^ 64 → IsValue (decimal n)
decimal_value n some small = (plain_decimal n some small).value

pub decimal_without_minus : (n : ℕ) → 0 < n → n < 2 ^ 64 → without_minus (decimal n) ≡ decimal n
decimal_without_minus n some small = (plain_decimal n some small).no_minus

-- clap takes a number within the limits
pub decimal_fits : (low high n : ℕ) → 0 < n → low ≤ n → n ≤ high → high < 2 ^ 63 → accepts false (Signed (pos low) (pos high)) (decimal n) ≡ true
decimal_fits low high n some above below small =
    let n_small : n < 2 ^ 64 = omega arith in
    let is = decimal_is_IsNumeral n n_small in
    let p : IsPlain (decimal n) = plain_decimal n some n_small in
    Accepts-accepts false (Signed (pos low) (pos high)) (decimal n)
    (rw p.no_sign is.0, rw (p.signed, is.1) (record { sfits = omega arith }), rw (p.signed, is.1) (omega (arith, ints)), rw (p.signed, is.1) (omega (arith, ints)))

-- and it is what its text writes
pub decimal_number : (low high default n : ℕ) → 0 < n → low ≤ n → n ≤ high → high < 2 ^ 63 → number_in low high default (Some (decimal n)) ≡ n
decimal_number low high default n some above below small =
    let n_small : n < 2 ^ 64 = omega arith in
    let is = decimal_is_IsNumeral n n_small in
    let p : IsPlain (decimal n) = plain_decimal n some n_small in
    let test : is_unsigned_in low high (decimal n) ≡ true = Accepts-accepts false (Unsigned low high) (decimal n)
    (rw p.no_plus is.0, rw (p.no_plus, is.1) n_small, rw (p.no_plus, is.1) above, rw (p.no_plus, is.1) below) in
    rw test (rw (p.no_plus, is.1) refl)

-- ---- what the getter reads

-- a numeral passes the test of one
digits_pass : (digits : List ℕ) → AllDigits 10 digits → list_all (λ d. nat_lt (digit_value d) 10) digits ≡ true
digits_pass [] all = refl
digits_pass (d ∷ digits) all = rw (lt-ltb (digit_value d) 10 all.0) (digits_pass digits all.1)

numeral_passes : (digits : List ℕ) → IsNumeral 10 digits → is_numeral digits ≡ true
numeral_passes digits is = rw (lt-ltb 0 (length digits) is.0, digits_pass digits is.1) refl

-- the number that was read of a text, where it is within the limits
abbrev pub kept_number : ℕ → ℕ → ℕ → Option ℕ → ℕ
kept_number low high default None = default
kept_number low high default (Some n) = if nat_le low n && nat_le n high then n else default

module _ {E : Type 0} (gives : List ℕ → Result ℕ E → Type 0) (bits low high default : ℕ)
    (parses : (text : List ℕ) (read : Result ℕ E) → gives text read → ParsesUnsigned bits 10 text read) (fits : high < 2 ^ bits) (narrow : 2 ^ bits ≤ 2 ^ 64) where
  -- the number that is read of a text
  of_text : (text : List ℕ) (read : Option ℕ) → ReadsOne gives text read → kept_number low high default read ≡ number_in low high default (Some text)
  of_text text (Some n) reads =
      let is = parses text (Ok n) reads in
      let test : is_unsigned_in low high text ≡ (nat_le low (digits_value 10 (without_leading_plus text)) && nat_le (digits_value 10 (without_leading_plus text)) high) =
      rw (numeral_passes _ is.0.0, lt-ltb (digits_value 10 (without_leading_plus text)) (2 ^ 64) (omega arith)) refl in
      rw (is.1, test) refl
  of_text text None reads = by (is_unsigned_in low high text) refl
    where
      by : (passes : Bool) → is_unsigned_in low high text ≡ passes → default ≡ number_in low high default (Some text)
      by true is = let so = accepts-Accepts false (Unsigned low high) text is in absurd (parses text (Err reads.0) reads.1 (so.0, omega arith))
      by false is = rw is refl

  -- the getter reads the number that the text writes
  pub number_read : (text : Option (List ℕ)) (read : Option ℕ) → (text ≡ None → read ≡ None) → ((t : List ℕ) → text ≡ Some t → ReadsOne gives t read)
      → kept_number low high default read ≡ number_in low high default text
  number_read None read none some = rw (none refl) refl
  number_read (Some text) read none some = of_text text read (some text refl)
