-- A byte more of a comment, a text or a number.
use Rattle.std.proofs.Common.{◌≡◌, ℕ, zero, suc, ◌+◌, ◌-◌, ◌*◌, ◌<◌, ◌≤◌, Bool, true, false, List, [], ◌∷◌, Option, Some, None, Err, take, drop, length, refl, sym, ap, ◌∙◌, fold, arith}
use Rattle.std.specs.Prelude.{nat_le}
use Rattle.std.proofs.lemmas.Bool.{lt-leb}
use Rattle.std.proofs.lemmas.List.{drop_all}
use Rattle.c_tokens.specs.language.Words.{decimal_value, greatest}
use Rattle.c_tokens.specs.language.Quoted.{quoted_end, text_end}
use Rattle.c_tokens.specs.language.Blanks.{further, one_more}

-- so many bytes further, and one
pub further-one_more : (count : ℕ) (rest : Option ℕ) → further count (one_more rest) ≡ further (count + 1) rest
further-one_more count None = refl
further-one_more count (Some n) = ap Some (omega arith)

pub further-zero : (rest : Option ℕ) → further 0 rest ≡ rest
further-zero None = refl
further-zero (Some n) = ap Some (omega arith)

-- digits make a number no smaller
pub fold-grows : (start : ℕ) (digits : List ℕ) → start ≤ fold (λ value digit. 10 * value + (digit - 48)) start digits
fold-grows start [] = omega arith
fold-grows start (digit ∷ digits) = omega (arith, fold-grows (10 * start + (digit - 48)) digits)

pub fold-take : (start count : ℕ) (digits : List ℕ) → fold (λ value digit. 10 * value + (digit - 48)) start digits ≡ fold (λ value digit. 10 * value + (digit - 48)) (fold (λ value digit. 10 * value + (digit - 48)) start (take count digits)) (drop count digits)
fold-take start zero digits = refl
fold-take start (suc count) [] = refl
fold-take start (suc count) (digit ∷ digits) = fold-take (10 * start + (digit - 48)) count digits

-- a number whose first digits are too many is too great
pub too_great : (digits : List ℕ) (count value : ℕ) → value ≡ decimal_value (take count digits) → greatest < value → nat_le (decimal_value digits) greatest ≡ false
too_great digits count value same above =
    let grown = fold-grows (decimal_value (take count digits)) (drop count digits) in
    lt-leb (decimal_value digits) greatest (omega (arith, fold-take 0 count digits, grown))

-- a text is open at the end of the bytes
open-end : (bytes : List ℕ) (at : ℕ) (escaped : Bool) → length bytes ≡ at → quoted_end bytes ≡ text_end at escaped (drop at bytes) → quoted_end bytes ≡ text_end at escaped []
open-end bytes at escaped over so_far = so_far ∙ ap (text_end at escaped) (drop_all at bytes (omega arith))

pub open-text : (bytes : List ℕ) (at : ℕ) (escaped : Bool) → length bytes ≡ at → escaped ≡ false → quoted_end bytes ≡ text_end at escaped (drop at bytes) → quoted_end bytes ≡ Err (length bytes)
open-text bytes at escaped over plain so_far = open-end bytes at escaped over so_far ∙ ap (λ (b : Bool). text_end at b []) plain ∙ ap Err (sym over)

pub open-text-escaped : (bytes : List ℕ) (at : ℕ) (escaped : Bool) → length bytes ≡ at → escaped ≡ true → quoted_end bytes ≡ text_end at escaped (drop at bytes) → quoted_end bytes ≡ Err (length bytes - 1)
open-text-escaped bytes at escaped over plain so_far = open-end bytes at escaped over so_far ∙ ap (λ (b : Bool). text_end at b []) plain ∙ ap (λ (n : ℕ). Err (n - 1)) (sym over)
