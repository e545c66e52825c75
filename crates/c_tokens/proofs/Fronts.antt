-- Bytes that begin with a piece, and the item at their front.
use Rattle.std.proofs.Common.{◌≡◌, ℕ, ◌+◌, Bool, true, false, cond, ◌==◌, List, [], ◌∷◌, ◌++◌, None, length, take, drop, inl, inr, refl, sym, ap, ◌∙◌, append_assoc, arith, length-append, ne_eqb}
use Rattle.std.specs.Prelude.{◌&&◌, ◌||◌, nat_le}
use Rattle.std.specs.List.{list_all, prefix_len}
use Rattle.std.proofs.lemmas.Bool.{and_parts, cases_eq, cond-false, cond-true, eqb-true, le-leb, or_cases, or_from, or_parts, true≢false}
use Rattle.std.proofs.lemmas.Bool.Decides.{nat_tests}
use Rattle.std.proofs.lemmas.List.{drop_at, take_at}
use Rattle.c_tokens.specs.declared.token.TokenKind.{TokenKind}
use Rattle.c_tokens.specs.declared.token.TokenKind.TheVariants as kind
use Rattle.c_tokens.specs.declared.place.Line.{Line}
use Rattle.c_tokens.specs.declared.place.Line.TheVariants as line
use Rattle.c_tokens.specs.declared.item.Flaw.TheVariants as flaw
use Rattle.c_tokens.specs.declared.item.Item.TheVariants as item
use Rattle.c_tokens.specs.language.Bytes.{begins, is_blank, is_digit, is_inline, is_letter, is_word, newline}
use Rattle.c_tokens.specs.language.Blanks.{comment_rest, line_rest, return, slash, star}
use Rattle.c_tokens.specs.language.Words.{clings, decimal_value, digits_len, greatest, has_number, is_led_by_zero, is_number}
use Rattle.c_tokens.specs.language.Symbols.{double_symbols, has_byte, has_pair, single_len, single_symbols, symbol_len}
use Rattle.c_tokens.specs.language.Quoted.{backslash, quote, text_end}
use Rattle.c_tokens.specs.workings.Lines.{include_len, pragma_len}
use Rattle.c_tokens.specs.workings.Items.{comment_item, head_item, include_item, item_of, name_item, newline_item, number_item, slash_item, symbol_item, text_item}
use Rattle.c_tokens.specs.language.Pieces.{IsBlank, IsComment, IsContinued, IsInclude, IsLineComment, IsName, IsNumber, IsOtherHash, IsPassed, IsPragma, IsSymbol, IsText, IsToken, StopsAt, hash}
use Rattle.c_tokens.proofs.Comments.{comment_read}
use Rattle.c_tokens.proofs.Cuts.{differs, length-run, none_from}
use Rattle.c_tokens.proofs.Hashes.{include_found, include_read, pragma_found, pragma_read}
use Rattle.c_tokens.proofs.Pieces.{excluded}
use Rattle.c_tokens.proofs.Texts.{text_read}

digit_not_letter : (byte : ℕ) → is_digit byte ≡ true → is_letter byte ≡ false
digit_not_letter byte digit = grind (arith, nat_tests)

letter_item : (in_line : Line) (byte : ℕ) (bytes : List ℕ) → is_letter byte ≡ true → item_of in_line (byte ∷ bytes) ≡ name_item (byte ∷ bytes)
letter_item in_line byte bytes letter =
    let is = λ (other : ℕ) (not_one : is_letter other ≡ false). differs is_letter byte other letter not_one in
    rw (is newline refl, is 32 refl, is 9 refl, is return refl, is backslash refl, is slash refl, letter) refl

digit_item : (in_line : Line) (byte : ℕ) (bytes : List ℕ) → is_digit byte ≡ true → item_of in_line (byte ∷ bytes) ≡ number_item (byte ∷ bytes)
digit_item in_line byte bytes digit =
    let is = λ (other : ℕ) (not_one : is_digit other ≡ false). differs is_digit byte other digit not_one in
    rw (is newline refl, is 32 refl, is 9 refl, is return refl, is backslash refl, is slash refl, digit_not_letter byte digit, digit) refl

-- no blank, and no byte that begins a text, a continued line or a line of its own
abbrev is_mark : ℕ → Bool
is_mark byte = cond (is_blank byte || byte == backslash || byte == quote || byte == hash) false true

-- the bytes with which nothing begins but a symbol, or, at a slash, a comment
abbrev symbolic : ℕ → Bool
symbolic byte = cond (is_letter byte) false (cond (is_digit byte) false (is_mark byte))

-- what holds of each byte of a list of symbols holds of the first byte of each
listed : (test : ℕ → Bool) (byte : ℕ) (bytes : List ℕ) → list_all test bytes ≡ true → has_byte byte bytes ≡ true → test byte ≡ true
listed test byte [] all here = absurd (true≢false (sym here))
listed test byte (first ∷ bytes) all here =
    let both = and_parts (test first) (list_all test bytes) all in
    elim (or_cases (byte == first) (has_byte byte bytes) here) [
      | inl same ↦ ap test (eqb-true byte first same) ∙ both.0
      | inr later ↦ listed test byte bytes both.1 later
    ]

paired : (test : ℕ → Bool) (first second : ℕ) (bytes : List ℕ) → list_all test bytes ≡ true → has_pair first second bytes ≡ true → test first ≡ true
paired test first second [] all here = absurd (true≢false (sym here))
paired test first second (byte ∷ []) all here = absurd (true≢false (sym here))
paired test first second (byte ∷ next ∷ bytes) all here =
    let both = and_parts (test byte) (test next && list_all test bytes) all in
    let more = and_parts (test next) (list_all test bytes) both.1 in
    elim (or_cases (first == byte && second == next) (has_pair first second bytes) here) [
      | inl same ↦ ap test (eqb-true first byte (and_parts (first == byte) (second == next) same).0) ∙ both.0
      | inr later ↦ paired test first second bytes more.1 later
    ]

-- a slash that begins no comment
slash_symbol : (bytes : List ℕ) → StopsAt (λ next. next == slash || next == star) bytes → slash_item (slash ∷ bytes) ≡ symbol_item (symbol_len (slash ∷ bytes))
slash_symbol [] not_comment = refl
slash_symbol (next ∷ bytes) not_comment = let other = or_parts (next == slash) (next == star) not_comment in rw (other.0, other.1) refl

symbolic_item : (in_line : Line) (byte : ℕ) (bytes : List ℕ) → symbolic byte ≡ true → (byte ≡ slash → StopsAt (λ next. next == slash || next == star) bytes) → item_of in_line (byte ∷ bytes) ≡ symbol_item (symbol_len (byte ∷ bytes))
symbolic_item in_line byte bytes is_one not_comment =
    let is = λ (other : ℕ) (not_one : symbolic other ≡ false). differs symbolic byte other is_one not_one in
    let letter = excluded (is_letter byte) (cond (is_digit byte) false (is_mark byte)) is_one in
    let digit = excluded (is_digit byte) (is_mark byte) letter.1 in
    elim (cases_eq byte slash) [
      | inl same ↦ ap (λ (b : ℕ). item_of in_line (b ∷ bytes)) same ∙ slash_symbol bytes (not_comment same) ∙ ap (λ (b : ℕ). symbol_item (symbol_len (b ∷ bytes))) (sym same)
      | inr other ↦ rw (is newline refl, is 32 refl, is 9 refl, is return refl, is backslash refl, ne_eqb byte slash other, letter.0, digit.0, is quote refl, is hash refl) refl
    ]

single_len-read : (byte : ℕ) (rest : List ℕ) → has_byte byte single_symbols ≡ true → StopsAt (λ next. has_pair byte next double_symbols) rest → symbol_len (byte ∷ rest) ≡ 1
single_len-read byte [] single stops = cond-true (has_byte byte single_symbols) 1 0 single
single_len-read byte (next ∷ rest) single stops = cond-false (has_pair byte next double_symbols) 2 (single_len byte) stops ∙ cond-true (has_byte byte single_symbols) 1 0 single

-- no symbol of two bytes begins a comment
not_comment : (first second : ℕ) → has_pair first second double_symbols ≡ true → first ≡ slash → (second == slash || second == star) ≡ false
not_comment first second double same =
    let slashed : has_pair slash second double_symbols ≡ true = ap (λ (b : ℕ). has_pair b second double_symbols) (sym same) ∙ double in
    or_from (second == slash) (second == star) (differs (λ next. has_pair slash next double_symbols) second slash slashed refl) (differs (λ next. has_pair slash next double_symbols) second star slashed refl)

symbol_front : (in_line : Line) (bytes rest : List ℕ) → IsSymbol bytes rest → item_of in_line (bytes ++ rest) ≡ item.Token kind.Symbol (length bytes)
symbol_front in_line bytes rest (inl (first, second, same, double)) =
    ap (λ (b : List ℕ). item_of in_line (b ++ rest)) same
    ∙ symbolic_item in_line first (second ∷ rest) (paired symbolic first second double_symbols refl double) (not_comment first second double)
    ∙ ap symbol_item (cond-true (has_pair first second double_symbols) 2 (single_len first) double) ∙ ap (λ (b : List ℕ). item.Token kind.Symbol (length b)) (sym same)
symbol_front in_line bytes rest (inr (byte, same, single, stops, no_comment)) =
    ap (λ (b : List ℕ). item_of in_line (b ++ rest)) same
    ∙ symbolic_item in_line byte rest (listed symbolic byte single_symbols refl single) no_comment
    ∙ ap symbol_item (single_len-read byte rest single stops) ∙ ap (λ (b : List ℕ). item.Token kind.Symbol (length b)) (sym same)

name_front : (in_line : Line) (bytes rest : List ℕ) → IsName bytes rest → item_of in_line (bytes ++ rest) ≡ item.Token kind.Name (length bytes)
name_front in_line [] rest (begun, all, stops) = absurd (true≢false (sym begun))
name_front in_line (byte ∷ bytes) rest (begun, all, stops) =
    letter_item in_line byte (bytes ++ rest) begun ∙ ap (item.Token kind.Name) (length-run is_word (byte ∷ bytes) rest all stops)

number_front : (in_line : Line) (bytes rest : List ℕ) → IsNumber bytes rest → item_of in_line (bytes ++ rest) ≡ item.Token kind.Number (length bytes)
number_front in_line [] rest (begun, all, plain, small, stops, ends) = absurd (true≢false (sym begun))
number_front in_line (byte ∷ bytes) rest (begun, all, plain, small, stops, ends) =
    let digits = byte ∷ bytes in
    let whole = byte ∷ (bytes ++ rest) in
    let counted : digits_len whole ≡ length digits = length-run is_digit digits rest all stops in
    let left : drop (digits_len whole) whole ≡ rest = drop_at digits rest (digits_len whole) (sym counted) in
    let taken : take (digits_len whole) whole ≡ digits = take_at digits rest (digits_len whole) (sym counted) in
    let valued : is_number digits ≡ true = cond-false (is_led_by_zero digits) false (nat_le (decimal_value digits) greatest) plain ∙ le-leb (decimal_value digits) greatest small in
    let number : has_number whole ≡ true =
    cond-false (begins clings (drop (digits_len whole) whole)) false (is_number (take (digits_len whole) whole)) (ap (begins clings) left ∙ ends) ∙ ap is_number taken ∙ valued in
    digit_item in_line byte (bytes ++ rest) begun
    ∙ cond-true (has_number whole) (item.Token kind.Number (digits_len whole)) (item.Fault flaw.BadNumber 0) number ∙ ap (item.Token kind.Number) counted

text_front : (in_line : Line) (bytes rest : List ℕ) → IsText bytes → item_of in_line (bytes ++ rest) ≡ item.Token kind.Text (length bytes)
text_front in_line bytes rest (inside, same, quoted) =
    let counted : 1 + length inside + 1 ≡ length bytes = omega (arith, ap length same, length-append inside (quote ∷ [])) in
    ap (λ (b : List ℕ). item_of in_line (b ++ rest)) same
    ∙ ap (λ (e : List ℕ). text_item (text_end 1 false e)) (append_assoc inside (quote ∷ []) rest)
    ∙ ap text_item (text_read 1 inside rest quoted) ∙ ap (item.Token kind.Text) counted

-- a `#` where it counts
hash_front : (bytes rest inside : List ℕ) → bytes ≡ hash ∷ inside → item_of line.Fresh (bytes ++ rest) ≡ include_item (bytes ++ rest) (include_len (bytes ++ rest))
hash_front bytes rest inside same = rw same refl

include_front : (bytes rest : List ℕ) → IsInclude bytes rest → item_of line.Fresh (bytes ++ rest) ≡ item.Token kind.Include (length bytes)
include_front bytes rest included = hash_front bytes rest _ included.4 ∙ ap (include_item (bytes ++ rest)) (include_read bytes rest included)

pragma_front : (bytes rest : List ℕ) → IsPragma bytes rest → item_of line.Fresh (bytes ++ rest) ≡ item.Token kind.Pragma (length bytes)
pragma_front bytes rest headed =
    let lens = pragma_read bytes rest headed in
    hash_front bytes rest _ headed.2 ∙ ap (include_item (bytes ++ rest)) lens.0 ∙ ap (head_item (bytes ++ rest)) lens.1

other_front : (bytes rest : List ℕ) → IsOtherHash bytes rest → item_of line.Fresh (bytes ++ rest) ≡ item.Token kind.OtherHash (length bytes)
other_front bytes rest (inside, same, inline, ends, other) =
    let end = inside ++ rest in
    let whole : bytes ++ rest ≡ hash ∷ end = ap (λ (b : List ℕ). b ++ rest) same in
    let not_include : include_len (hash ∷ end) ≡ None = none_from (include_len (hash ∷ end)) (λ n found. let cut = include_found end n found in (other cut.front cut.rest (whole ∙ cut.whole)).0 cut.holds) in
    let not_pragma : pragma_len (hash ∷ end) ≡ None = none_from (pragma_len (hash ∷ end)) (λ n found. let cut = pragma_found end n found in (other cut.front cut.rest (whole ∙ cut.whole)).1 cut.holds) in
    let counted : prefix_len is_inline (hash ∷ end) ≡ length bytes = omega (arith, ap length same, length-run is_inline inside rest inline ends) in
    ap (item_of line.Fresh) whole ∙ ap (include_item (hash ∷ end)) not_include ∙ ap (head_item (hash ∷ end)) not_pragma ∙ ap (item.Token kind.OtherHash) counted

pub token_front : (kind : TokenKind) (in_line : Line) (bytes rest : List ℕ) → IsToken kind in_line bytes rest → item_of in_line (bytes ++ rest) ≡ item.Token kind (length bytes)
token_front kind.Name in_line bytes rest is_token = name_front in_line bytes rest is_token
token_front kind.Number in_line bytes rest is_token = number_front in_line bytes rest is_token
token_front kind.Text in_line bytes rest is_token = text_front in_line bytes rest is_token
token_front kind.Symbol in_line bytes rest is_token = symbol_front in_line bytes rest is_token
token_front kind.Include line.Fresh bytes rest (counts, is_token) = include_front bytes rest is_token
token_front kind.Include line.Begun bytes rest (counts, is_token) = absurd counts
token_front kind.Include line.Directive bytes rest (counts, is_token) = absurd counts
token_front kind.Pragma line.Fresh bytes rest (counts, is_token) = pragma_front bytes rest is_token
token_front kind.Pragma line.Begun bytes rest (counts, is_token) = absurd counts
token_front kind.Pragma line.Directive bytes rest (counts, is_token) = absurd counts
token_front kind.OtherHash line.Fresh bytes rest (counts, is_token) = other_front bytes rest is_token
token_front kind.OtherHash line.Begun bytes rest (counts, is_token) = absurd counts
token_front kind.OtherHash line.Directive bytes rest (counts, is_token) = absurd counts
token_front kind.PragmaEnd in_line bytes rest never = absurd never
token_front kind.End in_line bytes rest never = absurd never

blank_item : (in_line : Line) (byte : ℕ) (rest : List ℕ) → is_blank byte ≡ true → (byte ≡ newline → newline_item in_line ≡ item.Blank 1) → item_of in_line (byte ∷ rest) ≡ item.Blank 1
blank_item in_line byte rest blank passed = elim (cases_eq byte newline) [
  | inl same ↦ ap (λ (b : ℕ). item_of in_line (b ∷ rest)) same ∙ passed same
  | inr other ↦ rw (blank, ne_eqb byte newline other) refl
]

blank_front : (in_line : Line) (bytes rest : List ℕ) → IsBlank in_line bytes → item_of in_line (bytes ++ rest) ≡ item.Blank (length bytes)
blank_front line.Fresh bytes rest (byte, same, blank) = ap (λ (b : List ℕ). item_of line.Fresh (b ++ rest)) same ∙ blank_item line.Fresh byte rest blank (λ at_end. refl) ∙ ap (λ (b : List ℕ). item.Blank (length b)) (sym same)
blank_front line.Begun bytes rest (byte, same, blank) = ap (λ (b : List ℕ). item_of line.Begun (b ++ rest)) same ∙ blank_item line.Begun byte rest blank (λ at_end. refl) ∙ ap (λ (b : List ℕ). item.Blank (length b)) (sym same)
blank_front line.Directive bytes rest (byte, same, blank, other) = ap (λ (b : List ℕ). item_of line.Directive (b ++ rest)) same ∙ blank_item line.Directive byte rest blank (λ at_end. absurd (other at_end)) ∙ ap (λ (b : List ℕ). item.Blank (length b)) (sym same)

newline_continued : (in_line : Line) (rest : List ℕ) → item_of in_line (backslash ∷ newline ∷ rest) ≡ item.Blank 2
newline_continued in_line [] = refl
newline_continued in_line (byte ∷ rest) = refl

continued_front : (in_line : Line) (bytes rest : List ℕ) → IsContinued bytes → item_of in_line (bytes ++ rest) ≡ item.Blank (length bytes)
continued_front in_line bytes rest (inl same) = rw same (newline_continued in_line rest)
continued_front in_line bytes rest (inr same) = rw same refl

line_comment_front : (in_line : Line) (bytes rest : List ℕ) → IsLineComment bytes rest → item_of in_line (bytes ++ rest) ≡ item.Blank (length bytes)
line_comment_front in_line bytes rest (inside, same, inline, ends) =
    let counted : line_rest (inside ++ rest) + 2 ≡ length bytes = omega (arith, ap length same, length-run is_inline inside rest inline ends) in
    ap (λ (b : List ℕ). item_of in_line (b ++ rest)) same ∙ ap item.Blank counted

comment_front : (in_line : Line) (bytes rest : List ℕ) → IsComment bytes → item_of in_line (bytes ++ rest) ≡ item.Blank (length bytes)
comment_front in_line bytes rest (inside, same, earliest) =
    let counted : length inside + 2 + 2 ≡ length bytes = omega (arith, ap length same, length-append inside (star ∷ slash ∷ [])) in
    ap (λ (b : List ℕ). item_of in_line (b ++ rest)) same
    ∙ ap (λ (e : List ℕ). comment_item (comment_rest false e)) (append_assoc inside (star ∷ slash ∷ []) rest)
    ∙ ap comment_item (comment_read inside rest earliest) ∙ ap item.Blank counted

pub passed_front : (in_line : Line) (bytes rest : List ℕ) → IsPassed in_line bytes rest → item_of in_line (bytes ++ rest) ≡ item.Blank (length bytes)
passed_front in_line bytes rest (inl blank) = blank_front in_line bytes rest blank
passed_front in_line bytes rest (inr (inl continued)) = continued_front in_line bytes rest continued
passed_front in_line bytes rest (inr (inr (inl comment))) = line_comment_front in_line bytes rest comment
passed_front in_line bytes rest (inr (inr (inr comment))) = comment_front in_line bytes rest comment
