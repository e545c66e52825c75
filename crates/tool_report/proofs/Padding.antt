-- What a format with a width writes is a text at the left or a number at the right of its places.
use Rattle.std.proofs.Common.{◌≡◌, ℕ, zero, suc, ◌-◌, ◌^◌, ◌≤◌, ◌==◌, Bool, true, false, cond, ◌&&◌, List, [], ◌∷◌, length, replicate, refl, ap, arith, append-nil}
use Rattle.std.proofs.Math.Nat.{sub-zero}
use Rattle.std.specs.Prelude.{nat_lt}
use Rattle.std.specs.List.{repeat, list_all}
use Rattle.std.proofs.lemmas.Bool.Decides.{nat_tests}
use Rattle.std.specs.Fmt.{format_spec, styled_text, padded, take_chars, char_count, is_char_start, styled_decimal, decimal, padded_integral}
use Rattle.std.proofs.Math.Utf8.{encode}
use Rattle.tool_report.specs.Layout.{left_in, right_in}

-- a blank, so many times
blanks : (n : ℕ) → repeat {A = ℕ} n (32 ∷ []) ≡ replicate n 32
blanks zero = refl
blanks (suc n) = ap (λ (rest : List ℕ). 32 ∷ rest) (blanks n)

-- a text that has no more characters than the most that are shown is shown whole
whole : (n : ℕ) (text : List ℕ) → length text ≤ n → take_chars n text ≡ text
unfolding take_chars
whole n [] short = refl
whole n (b ∷ text) short =
    let some : (n == 0) ≡ false = some-room n (length text) short in
    elim (is_char_start b) as (λ (v : Bool). cond v (cond (n == 0) [] (b ∷ take_chars (n - 1) text)) (b ∷ take_chars n text) ≡ b ∷ text) [ true ↦ rw (some, whole (n - 1) text (omega arith)) refl | false ↦ rw (whole n text (omega arith)) refl ]
  where
    some-room : (n k : ℕ) → suc k ≤ n → (n == 0) ≡ false
    some-room n k short = grind (arith, nat_tests)

-- the fill of a format with blanks
blank-code : encode 32 ≡ 32 ∷ []
unfolding encode
blank-code = refl

-- nothing is filled up where all of it was
nothing-left : (k : ℕ) → k - k ≡ 0
nothing-left k = omega arith

-- in a text of ASCII each byte is a character
ascii-chars : (text : List ℕ) → list_all (λ (byte : ℕ). nat_lt byte 128) text ≡ true → char_count text ≡ length text
unfolding char_count
ascii-chars [] plain = refl
ascii-chars (b ∷ text) plain =
    let parts = both (nat_lt b 128) (list_all (λ (byte : ℕ). nat_lt byte 128) text) plain in
    let first : is_char_start b ≡ true = rw (parts.0) refl in
    rw (first, ascii-chars text parts.1) (omega arith)
  where
    both : (x y : Bool) → (x && y) ≡ true → (x ≡ true) × (y ≡ true)
    both true y holds = (refl, holds)
    both false y holds = cc

-- a name at the left of 18 places
pub left-padded : (text : List ℕ) → length text ≤ 18 → list_all (λ (byte : ℕ). nat_lt byte 128) text ≡ true → styled_text (format_spec 32 1 0 18 (2 ^ 64 - 1)) text ≡ left_in 18 text
unfolding padded
left-padded text short plain = rw (whole (2 ^ 64 - 1) text (omega arith), ascii-chars text plain, sub-zero, blank-code, blanks) refl

-- a number at the right of its places
pub right-padded : (w n : ℕ) → (w == 0) ≡ false → styled_decimal (format_spec 32 3 0 w (2 ^ 64 - 1)) n ≡ right_in w (decimal n)
unfolding padded_integral char_count
right-padded w n some = rw (some, padded_integral) (rw (nothing-left, blank-code, blanks) (simp (append-nil, sub-zero)))
