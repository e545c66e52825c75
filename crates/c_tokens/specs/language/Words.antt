-- Names and numbers.
use Rattle.std.specs.Prelude.{ℕ, Bool, false, ◌+◌, ◌-◌, ◌*◌, ◌==◌, ◌||◌, nat_le, if◌then◌else◌, List, [], ◌∷◌, take, drop, fold}
use Rattle.std.specs.List.{prefix_len}
use Rattle.c_tokens.specs.language.Bytes.{begins, is_digit, is_letter, is_word}

-- the number that digits write in decimal
abbrev pub decimal_value : List ℕ → ℕ
decimal_value digits = fold (λ value digit. 10 * value + (digit - 48)) 0 digits

-- the greatest number that may be written
abbrev pub greatest : ℕ
greatest = 2147483647

-- a 0 at the front of other digits writes no number
abbrev pub is_led_by_zero : List ℕ → Bool
is_led_by_zero [] = false
is_led_by_zero (digit ∷ []) = false
is_led_by_zero (digit ∷ second ∷ digits) = digit == 48

abbrev pub is_number : List ℕ → Bool
is_number digits = if is_led_by_zero digits then false else nat_le (decimal_value digits) greatest

-- what may not follow a number directly
abbrev pub clings : ℕ → Bool
clings byte = is_letter byte || byte == 46

-- the digits at the front, and whether they are a number that ends there
abbrev pub digits_len : List ℕ → ℕ
digits_len bytes = prefix_len is_digit bytes

abbrev pub has_number : List ℕ → Bool
has_number bytes = if begins clings (drop (digits_len bytes) bytes) then false else is_number (take (digits_len bytes) bytes)

abbrev pub name_len : List ℕ → ℕ
name_len bytes = prefix_len is_word bytes
