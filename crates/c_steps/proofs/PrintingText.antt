-- What is printed of a pattern, a byte at a time.
use Rattle.std.specs.Prelude.{◌≡◌, ℕ, ◌≤◌, ◌==◌, nat_lt, if◌then◌else◌, false, List, [], ◌∷◌, ◌++◌, length, take, drop, ℤ, refl}
use Rattle.std.proofs.Common.{ap, sym, ◌∙◌, arith}
use Rattle.std.proofs.lemmas.List.{append-nil, at_drop_all, take-append-le}
use Rattle.std.proofs.Math.Seq.{take-append_seam}
use Rattle.c_model.specs.Text.{escaped_byte, first_decimal, numbers_behind_first, printed_text, text_behind_backslash, text_behind_percent}
use Rattle.c_steps.specs.declared.printing.Before.{Before}
use Rattle.c_steps.specs.declared.printing.Before.TheVariants.{Plain, Percent, Backslash}
use Rattle.c_steps.specs.Printing.{text_left}

pub plain_is : (byte : ℕ) (bytes : List ℕ) (numbers : List ℤ) →
    printed_text (byte ∷ bytes) numbers
    ≡ (if byte == 37 then text_behind_percent bytes numbers else if byte == 92 then text_behind_backslash bytes numbers else byte ∷ printed_text bytes numbers)
unfolding printed_text
plain_is byte bytes numbers = refl

pub format_is : (byte : ℕ) (bytes : List ℕ) (numbers : List ℤ) →
    text_behind_percent (byte ∷ bytes) numbers
    ≡ (if byte == 100 then first_decimal numbers ++ printed_text bytes (numbers_behind_first numbers)
    else if byte == 37 then 37 ∷ printed_text bytes numbers else printed_text bytes numbers)
unfolding printed_text
format_is byte bytes numbers = refl

pub slash_is : (byte : ℕ) (bytes : List ℕ) (numbers : List ℤ) →
    text_behind_backslash (byte ∷ bytes) numbers ≡ escaped_byte byte ∷ printed_text bytes numbers
unfolding printed_text
slash_is byte bytes numbers = refl

nothing_left : (before : Before) (numbers : List ℤ) → text_left before [] numbers ≡ []
unfolding printed_text
nothing_left Plain numbers = refl
nothing_left Percent numbers = refl
nothing_left Backslash numbers = refl

-- where no byte is left, the whole is printed
pub whole_printed : (before : Before) (items : List ℕ) (index : ℕ) (numbers : List ℤ) (text whole : List ℕ) → length items ≤ index →
    text ++ text_left before (drop index items) numbers ≡ whole → text ≡ whole
whole_printed before items index numbers text whole past is =
    sym (ap (λ (rest : List ℕ). text ++ rest) (at_drop_all (λ (bytes : List ℕ). text_left before bytes numbers) items index past ∙ nothing_left before numbers) ∙ append-nil text) ∙ is

pub limit_kept : (before : Before) (items : List ℕ) (index : ℕ) (numbers : List ℤ) (text whole : List ℕ) (limit : ℕ) → length items ≤ index →
    text ++ text_left before (drop index items) numbers ≡ whole → length text ≤ limit → nat_lt limit (length whole) ≡ false
limit_kept before items index numbers text whole limit past is few =
    let same : text ≡ whole = whole_printed before items index numbers text whole past is in
    grind (arith, ap length same)

-- what was printed first is still in front
pub front_kept : (old text rest whole : List ℕ) → text ++ rest ≡ old ++ whole → length old ≤ length text → take (length old) text ≡ old
front_kept old text rest whole is longer =
    sym (take-append-le (length old) text rest longer) ∙ ap (take (length old)) is ∙ take-append_seam old whole
