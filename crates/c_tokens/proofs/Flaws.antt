-- The flaw at the front of bytes where nothing is read.
use Rattle.std.proofs.Common.{◌≡◌, ◌≢◌, ℕ, ◌+◌, true, false, cond, ◌==◌, List, [], ◌∷◌, Option, Some, None, Result, Ok, Err, inl, inr, refl, sym, ap, subst, ◌∙◌, ne_eqb}
use Rattle.std.proofs.lemmas.Bool.{cases_eq, cond_both, eqb-false, eqb-true, true≢false}
use Rattle.c_tokens.specs.declared.token.TokenKind.TheVariants as kind
use Rattle.c_tokens.specs.declared.place.Line.{Line}
use Rattle.c_tokens.specs.declared.place.Line.TheVariants as line
use Rattle.c_tokens.specs.declared.item.Flaw.{Flaw}
use Rattle.c_tokens.specs.declared.item.Flaw.TheVariants as flaw
use Rattle.c_tokens.specs.declared.item.Item.{Item}
use Rattle.c_tokens.specs.declared.item.Item.TheVariants as item
use Rattle.c_tokens.specs.language.Bytes.{begins, is_blank, is_digit, is_letter, newline}
use Rattle.c_tokens.specs.language.Blanks.{comment_rest, line_end_len, line_rest, slash, star}
use Rattle.c_tokens.specs.language.Words.{digits_len, has_number}
use Rattle.c_tokens.specs.language.Symbols.{symbol_len}
use Rattle.c_tokens.specs.language.Quoted.{backslash, quote, quoted_end, text_end}
use Rattle.c_tokens.specs.workings.Lines.{include_len, pragma_len}
use Rattle.c_tokens.specs.workings.Items.{comment_item, continued_item, hash_item, head_item, include_item, item_of, name_item, newline_item, number_item, slash_item, symbol_item, text_item}
use Rattle.c_tokens.specs.language.Pieces.{hash}
use Rattle.c_tokens.specs.language.Ending.{IsBadText, IsFlaw, IsOther, IsStuck, OpensComment}
use Rattle.c_tokens.proofs.BadTexts.{IsBadText-found, one_end}
use Rattle.c_tokens.proofs.Fronts.{passed_front, token_front}
use Rattle.c_tokens.proofs.Pieces.{IsPiece, item_piece}

-- the flaw that an item is, if it is one
abbrev IsFlawed : List ℕ → Item → Type 0
IsFlawed bytes (item.Blank count) = Unit {0}
IsFlawed bytes (item.Token kind count) = Unit {0}
IsFlawed bytes item.DirectiveEnd = Unit {0}
IsFlawed bytes (item.Fault what offset) = IsFlaw bytes what offset

newline_flaw : (in_line : Line) (bytes : List ℕ) → IsFlawed bytes (newline_item in_line)
newline_flaw line.Fresh bytes = tt
newline_flaw line.Begun bytes = tt
newline_flaw line.Directive bytes = tt

IsOther-first : (byte : ℕ) (bytes : List ℕ) → is_digit byte ≡ false → (byte == quote) ≡ false → byte ≢ slash → IsOther (byte ∷ bytes)
IsOther-first byte bytes not_digit not_quote not_slash = (not_digit, not_quote, λ opens. let same = opens.1 in not_slash cc)

continued_flaw : (bytes : List ℕ) (count : Option ℕ) → IsFlawed (backslash ∷ bytes) (continued_item count)
continued_flaw bytes None = inr (IsOther-first backslash bytes refl refl (eqb-false backslash slash refl), refl)
continued_flaw bytes (Some count) = tt

symbol_flaw : (bytes : List ℕ) (count : ℕ) → IsOther bytes → IsFlawed bytes (symbol_item count)
symbol_flaw bytes count other = cond_both (count == 0) (item.Fault flaw.BadByte 0) (item.Token kind.Symbol count) (IsFlawed bytes) (λ none. inr (other, refl)) (λ some. tt)

comment_flaw : (bytes : List ℕ) (count : Option ℕ) → OpensComment bytes → IsFlawed bytes (comment_item count)
comment_flaw bytes None opens = (opens, refl)
comment_flaw bytes (Some count) opens = tt

slash_flaw : (bytes : List ℕ) → IsFlawed (slash ∷ bytes) (slash_item (slash ∷ bytes))
slash_flaw [] = tt
slash_flaw (second ∷ bytes) =
    let whole = slash ∷ second ∷ bytes in
    let symbol : Item = symbol_item (symbol_len whole) in
    cond_both (second == slash) (item.Blank (line_rest bytes + 2)) (cond (second == star) (comment_item (comment_rest false bytes)) symbol) (IsFlawed whole)
    (λ slashed. tt)
    (λ not_slash. cond_both (second == star) (comment_item (comment_rest false bytes)) symbol (IsFlawed whole)
    (λ starred. comment_flaw whole (comment_rest false bytes) (bytes, ap (λ (b : ℕ). slash ∷ b ∷ bytes) (eqb-true second star starred)))
    (λ not_star. symbol_flaw whole (symbol_len whole) (refl, refl, λ opens. let same = opens.1 in eqb-false second star not_star cc)))

number_flaw : (byte : ℕ) (bytes : List ℕ) → is_digit byte ≡ true → IsFlawed (byte ∷ bytes) (number_item (byte ∷ bytes))
number_flaw byte bytes digit =
    let whole = byte ∷ bytes in
    cond_both (has_number whole) (item.Token kind.Number (digits_len whole)) (item.Fault flaw.BadNumber 0) (IsFlawed whole) (λ number. tt) (λ other. (digit, refl))

text_flaw : (bytes : List ℕ) (end : Result ℕ ℕ) → text_end 1 false bytes ≡ end → IsFlawed (quote ∷ bytes) (text_item end)
text_flaw bytes (Ok count) found = tt
text_flaw bytes (Err offset) found = inl (IsBadText-found bytes offset found)

head_flaw : (bytes : List ℕ) (head : Option ℕ) → IsFlawed bytes (head_item bytes head)
head_flaw bytes (Some count) = tt
head_flaw bytes None = tt

include_flaw : (bytes : List ℕ) (included : Option ℕ) → IsFlawed bytes (include_item bytes included)
include_flaw bytes (Some count) = tt
include_flaw bytes None = head_flaw bytes (pragma_len bytes)

hash_flaw : (in_line : Line) (bytes : List ℕ) → IsFlawed (hash ∷ bytes) (hash_item in_line (hash ∷ bytes))
hash_flaw line.Fresh bytes = include_flaw (hash ∷ bytes) (include_len (hash ∷ bytes))
hash_flaw line.Begun bytes = inr (IsOther-first hash bytes refl refl (eqb-false hash slash refl), refl)
hash_flaw line.Directive bytes = inr (IsOther-first hash bytes refl refl (eqb-false hash slash refl), refl)

-- the item at the front, where it is a fault, is one by the first bytes
item_flaw : (in_line : Line) (byte : ℕ) (bytes : List ℕ) → IsFlawed (byte ∷ bytes) (item_of in_line (byte ∷ bytes))
item_flaw in_line byte bytes =
    let whole = byte ∷ bytes in
    let P : Item → Type 0 = IsFlawed whole in
    let symbol : Item = symbol_item (symbol_len whole) in
    let hashed : Item = cond (byte == hash) (hash_item in_line whole) symbol in
    let quoted : Item = cond (byte == quote) (text_item (quoted_end whole)) hashed in
    let digits : Item = cond (is_digit byte) (number_item whole) quoted in
    let letters : Item = cond (is_letter byte) (name_item whole) digits in
    let slashed : Item = cond (byte == slash) (slash_item whole) letters in
    let continued : Item = cond (byte == backslash) (continued_item (line_end_len bytes)) slashed in
    cond_both (byte == newline) (newline_item in_line) (cond (is_blank byte) (item.Blank 1) continued) P
    (λ here. newline_flaw in_line whole)
    (λ not_newline. cond_both (is_blank byte) (item.Blank 1) continued P
    (λ blank. tt)
    (λ not_blank. cond_both (byte == backslash) (continued_item (line_end_len bytes)) slashed P
    (λ here. subst (λ (b : ℕ). IsFlawed (b ∷ bytes) (continued_item (line_end_len bytes))) (sym (eqb-true byte backslash here)) (continued_flaw bytes (line_end_len bytes)))
    (λ not_backslash. cond_both (byte == slash) (slash_item whole) letters P
    (λ here. subst (λ (b : ℕ). IsFlawed (b ∷ bytes) (slash_item (b ∷ bytes))) (sym (eqb-true byte slash here)) (slash_flaw bytes))
    (λ not_slash. cond_both (is_letter byte) (name_item whole) digits P
    (λ letter. tt)
    (λ not_letter. cond_both (is_digit byte) (number_item whole) quoted P
    (λ digit. number_flaw byte bytes digit)
    (λ not_digit. cond_both (byte == quote) (text_item (quoted_end whole)) hashed P
    (λ here. subst (λ (b : ℕ). IsFlawed (b ∷ bytes) (text_item (quoted_end (b ∷ bytes)))) (sym (eqb-true byte quote here)) (text_flaw bytes (text_end 1 false bytes) refl))
    (λ not_quote. cond_both (byte == hash) (hash_item in_line whole) symbol P
    (λ here. subst (λ (b : ℕ). IsFlawed (b ∷ bytes) (hash_item in_line (b ∷ bytes))) (sym (eqb-true byte hash here)) (hash_flaw in_line bytes))
    (λ not_hash. symbol_flaw whole (symbol_len whole) (IsOther-first byte bytes not_digit not_quote (eqb-false byte slash not_slash))))))))))

pub IsFlaw-item : (in_line : Line) (byte : ℕ) (bytes : List ℕ) (what : Flaw) (offset : ℕ) → item_of in_line (byte ∷ bytes) ≡ item.Fault what offset → IsFlaw (byte ∷ bytes) what offset
IsFlaw-item in_line byte bytes what offset same = subst (IsFlawed (byte ∷ bytes)) same (item_flaw in_line byte bytes)

not_newline : (in_line : Line) (byte : ℕ) (bytes : List ℕ) (what : Flaw) (offset : ℕ) → item_of in_line (byte ∷ bytes) ≡ item.Fault what offset → in_line ≡ line.Directive → (byte == newline) ≡ false
not_newline in_line byte bytes what offset fault in_directive = elim (cases_eq byte newline) [
  | inl same ↦ let ends : item_of in_line (byte ∷ bytes) ≡ item.DirectiveEnd = ap (λ (b : ℕ). item_of in_line (b ∷ bytes)) same ∙ ap newline_item in_directive in absurd (cc)
  | inr other ↦ ne_eqb byte newline other
]

-- where the item at the front is a fault, nothing is read
pub IsStuck-item : (in_line : Line) (byte : ℕ) (bytes : List ℕ) (what : Flaw) (offset : ℕ) → item_of in_line (byte ∷ bytes) ≡ item.Fault what offset → IsStuck in_line (byte ∷ bytes)
IsStuck-item in_line byte bytes what offset fault = record {
  some = λ none. absurd (cc);
  not_passed = λ front rest whole passed. let blank = passed_front in_line front rest passed in let here = ap (item_of in_line) whole in absurd (cc);
  no_token = λ kind front rest whole is_token. let token = token_front kind in_line front rest is_token in let here = ap (item_of in_line) whole in absurd (cc);
  no_end = not_newline in_line byte bytes what offset fault;
}

-- where nothing is read, the item at the front is a fault
fault_from : (in_line : Line) (bytes : List ℕ) (it : Item) → IsStuck in_line bytes → IsPiece in_line bytes it → (what : Flaw) × (offset : ℕ) × (it ≡ item.Fault what offset)
fault_from in_line bytes (item.Blank count) stuck cut = absurd (stuck.not_passed cut.front cut.rest cut.whole cut.holds)
fault_from in_line bytes (item.Token kind count) stuck cut = absurd (stuck.no_token kind cut.front cut.rest cut.whole cut.holds)
fault_from in_line bytes item.DirectiveEnd stuck (rest, whole, in_directive) = absurd (true≢false (sym (ap (begins (λ byte. byte == newline)) whole) ∙ stuck.no_end in_directive))
fault_from in_line bytes (item.Fault what offset) stuck piece = (what, offset, refl)

-- the first bytes have one flaw
digit_opens : (bytes : List ℕ) → begins is_digit bytes ≡ true → OpensComment bytes → ⊥
digit_opens bytes digit (inside, whole) = true≢false (sym digit ∙ ap (begins is_digit) whole)

digit_text : (bytes : List ℕ) (offset : ℕ) → begins is_digit bytes ≡ true → IsBadText bytes offset → ⊥
digit_text bytes offset digit text = true≢false (sym digit ∙ ap (begins is_digit) text.2)

opens_text : (bytes : List ℕ) (offset : ℕ) → OpensComment bytes → IsBadText bytes offset → ⊥
opens_text bytes offset (inside, whole) text = true≢false (sym (ap (begins (λ byte. byte == quote)) text.2) ∙ ap (begins (λ byte. byte == quote)) whole)

text_other : (bytes : List ℕ) (offset : ℕ) → IsBadText bytes offset → IsOther bytes → ⊥
text_other bytes offset text (not_digit, not_quote, not_comment) = true≢false (sym (ap (begins (λ byte. byte == quote)) text.2) ∙ not_quote)

one_flaw : (bytes : List ℕ) (first second : Flaw) (here there : ℕ) → IsFlaw bytes first here → IsFlaw bytes second there → (first ≡ second) × (here ≡ there)
one_flaw bytes flaw.BadNumber flaw.BadNumber here there (digit, same) (other, also) = (refl, same ∙ sym also)
one_flaw bytes flaw.BadNumber flaw.OpenComment here there (digit, same) (opens, also) = absurd (digit_opens bytes digit opens)
one_flaw bytes flaw.BadNumber flaw.BadByte here there (digit, same) (inl text) = absurd (digit_text bytes there digit text)
one_flaw bytes flaw.BadNumber flaw.BadByte here there (digit, same) (inr (other, also)) = absurd (true≢false (sym digit ∙ other.0))
one_flaw bytes flaw.OpenComment flaw.BadNumber here there (opens, same) (digit, also) = absurd (digit_opens bytes digit opens)
one_flaw bytes flaw.OpenComment flaw.OpenComment here there (opens, same) (other, also) = (refl, same ∙ sym also)
one_flaw bytes flaw.OpenComment flaw.BadByte here there (opens, same) (inl text) = absurd (opens_text bytes there opens text)
one_flaw bytes flaw.OpenComment flaw.BadByte here there (opens, same) (inr (other, also)) = absurd (other.2 opens)
one_flaw bytes flaw.BadByte flaw.BadNumber here there (inl text) (digit, also) = absurd (digit_text bytes here digit text)
one_flaw bytes flaw.BadByte flaw.BadNumber here there (inr (other, same)) (digit, also) = absurd (true≢false (sym digit ∙ other.0))
one_flaw bytes flaw.BadByte flaw.OpenComment here there (inl text) (opens, also) = absurd (opens_text bytes here opens text)
one_flaw bytes flaw.BadByte flaw.OpenComment here there (inr (other, same)) (opens, also) = absurd (other.2 opens)
one_flaw bytes flaw.BadByte flaw.BadByte here there (inl text) (inl again) = (refl, one_end bytes here there text again)
one_flaw bytes flaw.BadByte flaw.BadByte here there (inl text) (inr (other, also)) = absurd (text_other bytes here text other)
one_flaw bytes flaw.BadByte flaw.BadByte here there (inr (other, same)) (inl text) = absurd (text_other bytes there text other)
one_flaw bytes flaw.BadByte flaw.BadByte here there (inr (other, same)) (inr (another, also)) = (refl, same ∙ sym also)

-- so the item is the fault that stands there
pub stuck_item : (in_line : Line) (byte : ℕ) (bytes : List ℕ) (what : Flaw) (offset : ℕ) → IsStuck in_line (byte ∷ bytes) → IsFlaw (byte ∷ bytes) what offset → item_of in_line (byte ∷ bytes) ≡ item.Fault what offset
stuck_item in_line byte bytes what offset stuck is_flaw =
    let fault = fault_from in_line (byte ∷ bytes) (item_of in_line (byte ∷ bytes)) stuck (item_piece in_line byte bytes) in
    let one = one_flaw (byte ∷ bytes) fault.0 what fault.1 offset (IsFlaw-item in_line byte bytes fault.0 fault.1 fault.2) is_flaw in
    let is = fault.2 in
    let first = one.0 in
    let second = one.1 in
    cc
