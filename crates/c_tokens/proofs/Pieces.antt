-- What stands at the front of bytes, and the piece that it is.
use Rattle.std.proofs.Common.{◌≡◌, ◌≢◌, ℕ, ◌+◌, Bool, true, false, cond, ◌==◌, List, [], ◌∷◌, ◌++◌, Option, Some, None, Result, Ok, Err, length, take, drop, inl, inr, refl, sym, ap, subst, ◌∙◌, append_assoc, arith, length-append}
use Rattle.std.specs.Prelude.{IsTrue, ◌&&◌, ◌||◌, nat_le}
use Rattle.std.proofs.lemmas.Bool.{and_parts, cond_both, eqb-false, eqb-true, leb-true, or_from, or_left, true≢false}
use Rattle.std.proofs.lemmas.List.{drop_at, take_at}
use Rattle.c_tokens.specs.declared.token.TokenKind.TheVariants as kind
use Rattle.c_tokens.specs.declared.place.Line.{Line}
use Rattle.c_tokens.specs.declared.place.Line.TheVariants as line
use Rattle.c_tokens.specs.declared.item.Flaw.TheVariants as flaw
use Rattle.c_tokens.specs.declared.item.Item.{Item}
use Rattle.c_tokens.specs.declared.item.Item.TheVariants as item
use Rattle.c_tokens.specs.language.Bytes.{begins, is_blank, is_digit, is_inline, is_letter, is_word, newline}
use Rattle.c_tokens.specs.language.Blanks.{comment_rest, line_end_len, line_rest, return, slash, star}
use Rattle.c_tokens.specs.language.Words.{clings, decimal_value, digits_len, greatest, has_number, is_led_by_zero, is_number}
use Rattle.c_tokens.specs.language.Symbols.{double_symbols, has_byte, has_pair, single_len, single_symbols, symbol_len}
use Rattle.c_tokens.specs.language.Quoted.{backslash, quote, quoted_end, text_end}
use Rattle.c_tokens.specs.workings.Lines.{include_len, pragma_len}
use Rattle.c_tokens.specs.workings.Items.{comment_item, continued_item, hash_item, head_item, include_item, item_of, name_item, newline_item, number_item, slash_item, symbol_item, text_item}
use Rattle.c_tokens.specs.language.Pieces.{IsBlank, IsPassed, IsToken, StopsAt, hash}
use Rattle.c_tokens.proofs.Comments.{IsComment-closing, comment_found}
use Rattle.c_tokens.proofs.Cuts.{Cut, run}
use Rattle.c_tokens.proofs.Hashes.{include_found, include_read, pragma_found, pragma_read}
use Rattle.c_tokens.proofs.Texts.{text_found}

some≢none : (n : ℕ) → Some n ≡ None → ⊥
some≢none n same = absurd (cc)

-- the piece that an item is
abbrev pub IsPiece : Line → List ℕ → Item → Type 0
IsPiece in_line bytes (item.Blank count) = Cut bytes count (IsPassed in_line)
IsPiece in_line bytes (item.Token kind count) = Cut bytes count (IsToken kind in_line)
IsPiece in_line bytes item.DirectiveEnd = (rest : List ℕ) × (bytes ≡ newline ∷ rest) × (in_line ≡ line.Directive)
IsPiece in_line bytes (item.Fault flaw offset) = Unit {0}

newline_piece : (in_line : Line) (bytes : List ℕ) → IsPiece in_line (newline ∷ bytes) (newline_item in_line)
newline_piece line.Fresh bytes = record { front = newline ∷ []; rest = bytes; whole = refl; counted = refl; holds = inl (newline, refl, refl) }
newline_piece line.Begun bytes = record { front = newline ∷ []; rest = bytes; whole = refl; counted = refl; holds = inl (newline, refl, refl) }
newline_piece line.Directive bytes = (bytes, refl, refl)

IsBlank-one : (in_line : Line) (byte : ℕ) → IsTrue (is_blank byte) → byte ≢ newline → IsBlank in_line (byte ∷ [])
IsBlank-one line.Fresh byte blank other = (byte, refl, blank)
IsBlank-one line.Begun byte blank other = (byte, refl, blank)
IsBlank-one line.Directive byte blank other = (byte, refl, blank, other)

blank_piece : (in_line : Line) (byte : ℕ) (bytes : List ℕ) → is_blank byte ≡ true → byte ≢ newline → IsPiece in_line (byte ∷ bytes) (item.Blank 1)
blank_piece in_line byte bytes blank other = record { front = byte ∷ []; rest = bytes; whole = refl; counted = refl; holds = inl (IsBlank-one in_line byte blank other) }

continued_piece : (in_line : Line) (bytes : List ℕ) → IsPiece in_line (backslash ∷ bytes) (continued_item (line_end_len bytes))
continued_piece in_line [] = tt
continued_piece in_line (first ∷ []) =
    cond_both (first == newline) (Some 1) None (λ n. IsPiece in_line (backslash ∷ first ∷ []) (continued_item n))
    (λ ends. record { front = backslash ∷ first ∷ []; rest = []; whole = refl; counted = refl; holds = inr (inl (inl (ap (λ (b : ℕ). backslash ∷ b ∷ []) (eqb-true first newline ends)))) })
    (λ other. tt)
continued_piece in_line (first ∷ second ∷ bytes) =
    let P : Option ℕ → Type 0 = λ n. IsPiece in_line (backslash ∷ first ∷ second ∷ bytes) (continued_item n) in
    cond_both (first == newline) (Some 1) (cond (first == return && second == newline) (Some 2) None) P
    (λ ends. record { front = backslash ∷ first ∷ []; rest = second ∷ bytes; whole = refl; counted = refl; holds = inr (inl (inl (ap (λ (b : ℕ). backslash ∷ b ∷ []) (eqb-true first newline ends)))) })
    (λ not_newline. cond_both (first == return && second == newline) (Some 2) None P
    (λ returns.
    let both = and_parts (first == return) (second == newline) returns in
    let is_return = eqb-true first return both.0 in
    let is_newline = eqb-true second newline both.1 in
    record { front = backslash ∷ first ∷ second ∷ []; rest = bytes; whole = refl; counted = refl; holds = inr (inl (inr cc)) })
    (λ other. tt))

-- the longest symbol, where no comment begins
symbol_piece : (in_line : Line) (byte : ℕ) (bytes : List ℕ) → (byte ≡ slash → StopsAt (λ next. next == slash || next == star) bytes) → IsPiece in_line (byte ∷ bytes) (symbol_item (symbol_len (byte ∷ bytes)))
symbol_piece in_line byte [] not_comment =
    cond_both (has_byte byte single_symbols) 1 0 (λ n. IsPiece in_line (byte ∷ []) (symbol_item n))
    (λ single. record { front = byte ∷ []; rest = []; whole = refl; counted = refl; holds = inr (byte, refl, single, refl, not_comment) })
    (λ other. tt)
symbol_piece in_line byte (next ∷ bytes) not_comment =
    let P : ℕ → Type 0 = λ n. IsPiece in_line (byte ∷ next ∷ bytes) (symbol_item n) in
    cond_both (has_pair byte next double_symbols) 2 (single_len byte) P
    (λ double. record { front = byte ∷ next ∷ []; rest = bytes; whole = refl; counted = refl; holds = inl (byte, next, refl, double) })
    (λ not_double. cond_both (has_byte byte single_symbols) 1 0 P
    (λ single. record { front = byte ∷ []; rest = next ∷ bytes; whole = refl; counted = refl; holds = inr (byte, refl, single, not_double, not_comment) })
    (λ other. tt))

comment_piece : (in_line : Line) (bytes : List ℕ) (count : Option ℕ) → comment_rest false bytes ≡ count → IsPiece in_line (slash ∷ star ∷ bytes) (comment_item count)
comment_piece in_line bytes None found = tt
comment_piece in_line bytes (Some count) found =
    let cut = comment_found false bytes count found in
    record { front = slash ∷ star ∷ cut.front; rest = cut.rest; whole = ap (λ (e : List ℕ). slash ∷ star ∷ e) cut.whole; counted = omega (arith, cut.counted); holds = inr (inr (inr (IsComment-closing cut.front cut.holds))) }

line_comment_piece : (in_line : Line) (bytes : List ℕ) → IsPiece in_line (slash ∷ slash ∷ bytes) (item.Blank (line_rest bytes + 2))
line_comment_piece in_line bytes =
    let cut = run is_inline bytes in
    record { front = slash ∷ slash ∷ cut.front; rest = cut.rest; whole = ap (λ (e : List ℕ). slash ∷ slash ∷ e) cut.whole; counted = omega (arith, cut.counted); holds = inr (inr (inl (cut.front, refl, cut.holds.0, cut.holds.1))) }

slash_piece : (in_line : Line) (bytes : List ℕ) → IsPiece in_line (slash ∷ bytes) (slash_item (slash ∷ bytes))
slash_piece in_line [] = symbol_piece in_line slash [] (λ same. refl)
slash_piece in_line (second ∷ bytes) =
    let P : Item → Type 0 = λ i. IsPiece in_line (slash ∷ second ∷ bytes) i in
    let symbol : Item = symbol_item (symbol_len (slash ∷ second ∷ bytes)) in
    cond_both (second == slash) (item.Blank (line_rest bytes + 2)) (cond (second == star) (comment_item (comment_rest false bytes)) symbol) P
    (λ slashed. subst (λ (b : ℕ). IsPiece in_line (slash ∷ b ∷ bytes) (item.Blank (line_rest bytes + 2))) (sym (eqb-true second slash slashed)) (line_comment_piece in_line bytes))
    (λ not_slash. cond_both (second == star) (comment_item (comment_rest false bytes)) symbol P
    (λ starred. subst (λ (b : ℕ). IsPiece in_line (slash ∷ b ∷ bytes) (comment_item (comment_rest false bytes))) (sym (eqb-true second star starred)) (comment_piece in_line bytes (comment_rest false bytes) refl))
    (λ not_star. symbol_piece in_line slash (second ∷ bytes) (λ same. or_from (second == slash) (second == star) not_slash not_star)))

-- bytes that begin with one of a run begin the run
run_begins : (test other : ℕ → Bool) (front rest : List ℕ) (byte : ℕ) (bytes : List ℕ) → byte ∷ bytes ≡ front ++ rest → StopsAt test rest → test byte ≡ true → other byte ≡ true → begins other front ≡ true
run_begins test other [] rest byte bytes whole stops passed also = absurd (true≢false (sym passed ∙ ap (begins test) whole ∙ stops))
run_begins test other (first ∷ front) rest byte bytes whole stops passed also = let same : byte ≡ first = cc in ap other (sym same) ∙ also

name_piece : (in_line : Line) (byte : ℕ) (bytes : List ℕ) → is_letter byte ≡ true → IsPiece in_line (byte ∷ bytes) (name_item (byte ∷ bytes))
name_piece in_line byte bytes letter =
    let cut = run is_word (byte ∷ bytes) in
    record { front = cut.front; rest = cut.rest; whole = cut.whole; counted = cut.counted; holds = (run_begins is_word is_letter cut.front cut.rest byte bytes cut.whole cut.holds.1 (or_left (is_letter byte) (is_digit byte) letter) letter, cut.holds.0, cut.holds.1) }

-- what a test that excludes another says
pub excluded : (other rest : Bool) → cond other false rest ≡ true → (other ≡ false) × (rest ≡ true)
excluded true rest passed = absurd (true≢false (sym passed))
excluded false rest passed = (refl, passed)

number_piece : (in_line : Line) (byte : ℕ) (bytes : List ℕ) → is_digit byte ≡ true → IsPiece in_line (byte ∷ bytes) (number_item (byte ∷ bytes))
number_piece in_line byte bytes digit =
    let whole = byte ∷ bytes in
    cond_both (has_number whole) (item.Token kind.Number (digits_len whole)) (item.Fault flaw.BadNumber 0) (IsPiece in_line whole)
    (λ number.
    let cut = run is_digit whole in
    let n = digits_len whole in
    let left : drop n whole ≡ cut.rest = ap (drop n) cut.whole ∙ drop_at cut.front cut.rest n cut.counted in
    let digits : take n whole ≡ cut.front = ap (take n) cut.whole ∙ take_at cut.front cut.rest n cut.counted in
    let ended = excluded (begins clings (drop n whole)) (is_number (take n whole)) number in
    let valued = excluded (is_led_by_zero (take n whole)) (nat_le (decimal_value (take n whole)) greatest) ended.1 in
    record {
      front = cut.front;
      rest = cut.rest;
      whole = cut.whole;
      counted = cut.counted;
      holds = (run_begins is_digit is_digit cut.front cut.rest byte bytes cut.whole cut.holds.1 digit digit, cut.holds.0, ap is_led_by_zero (sym digits) ∙ valued.0, leb-true (decimal_value cut.front) greatest (ap (λ (d : List ℕ). nat_le (decimal_value d) greatest) (sym digits) ∙ valued.1), cut.holds.1, ap (begins clings) (sym left) ∙ ended.0);
    })
    (λ other. tt)

text_piece : (in_line : Line) (bytes : List ℕ) (end : Result ℕ ℕ) → text_end 1 false bytes ≡ end → IsPiece in_line (quote ∷ bytes) (text_item end)
text_piece in_line bytes (Err offset) found = tt
text_piece in_line bytes (Ok count) found =
    let text = text_found 1 false bytes count found in
    record {
      front = quote ∷ (text.inside ++ quote ∷ []);
      rest = text.rest;
      whole = ap (λ (e : List ℕ). quote ∷ e) (text.whole ∙ sym (append_assoc text.inside (quote ∷ []) text.rest));
      counted = omega (arith, text.counted, length-append text.inside (quote ∷ []));
      holds = (text.inside, refl, text.quoted);
    }

head_piece : (bytes : List ℕ) (head : Option ℕ) → include_len (hash ∷ bytes) ≡ None → pragma_len (hash ∷ bytes) ≡ head → IsPiece line.Fresh (hash ∷ bytes) (head_item (hash ∷ bytes) head)
head_piece bytes (Some count) not_include found =
    let cut = pragma_found bytes count found in
    record { front = cut.front; rest = cut.rest; whole = cut.whole; counted = cut.counted; holds = (tt, cut.holds) }
head_piece bytes None not_include not_pragma =
    let cut = run is_inline bytes in
    let whole : hash ∷ bytes ≡ (hash ∷ cut.front) ++ cut.rest = ap (λ (e : List ℕ). hash ∷ e) cut.whole in
    record {
      front = hash ∷ cut.front;
      rest = cut.rest;
      whole = whole;
      counted = omega (arith, cut.counted);
      holds = (
        tt,
        (
          cut.front,
          refl,
          cut.holds.0,
          cut.holds.1,
          λ front back same. (
            λ included. some≢none (length front) (sym (include_read front back included) ∙ ap include_len (sym (whole ∙ same)) ∙ not_include),
            λ headed. some≢none (length front) (sym (pragma_read front back headed).1 ∙ ap pragma_len (sym (whole ∙ same)) ∙ not_pragma),
          ),
        ),
      );
    }

include_piece : (bytes : List ℕ) (included : Option ℕ) → include_len (hash ∷ bytes) ≡ included → IsPiece line.Fresh (hash ∷ bytes) (include_item (hash ∷ bytes) included)
include_piece bytes (Some count) found =
    let cut = include_found bytes count found in
    record { front = cut.front; rest = cut.rest; whole = cut.whole; counted = cut.counted; holds = (tt, cut.holds) }
include_piece bytes None found = head_piece bytes (pragma_len (hash ∷ bytes)) found refl

hash_piece : (in_line : Line) (bytes : List ℕ) → IsPiece in_line (hash ∷ bytes) (hash_item in_line (hash ∷ bytes))
hash_piece line.Fresh bytes = include_piece bytes (include_len (hash ∷ bytes)) refl
hash_piece line.Begun bytes = tt
hash_piece line.Directive bytes = tt

-- the item at the front is its piece
pub item_piece : (in_line : Line) (byte : ℕ) (bytes : List ℕ) → IsPiece in_line (byte ∷ bytes) (item_of in_line (byte ∷ bytes))
item_piece in_line byte bytes =
    let whole = byte ∷ bytes in
    let P : Item → Type 0 = IsPiece in_line whole in
    let symbol : Item = symbol_item (symbol_len whole) in
    let hashed : Item = cond (byte == hash) (hash_item in_line whole) symbol in
    let quoted : Item = cond (byte == quote) (text_item (quoted_end whole)) hashed in
    let digits : Item = cond (is_digit byte) (number_item whole) quoted in
    let letters : Item = cond (is_letter byte) (name_item whole) digits in
    let slashed : Item = cond (byte == slash) (slash_item whole) letters in
    let continued : Item = cond (byte == backslash) (continued_item (line_end_len bytes)) slashed in
    cond_both (byte == newline) (newline_item in_line) (cond (is_blank byte) (item.Blank 1) continued) P
    (λ here. subst (λ (b : ℕ). IsPiece in_line (b ∷ bytes) (newline_item in_line)) (sym (eqb-true byte newline here)) (newline_piece in_line bytes))
    (λ not_newline. cond_both (is_blank byte) (item.Blank 1) continued P
    (λ blank. blank_piece in_line byte bytes blank (eqb-false byte newline not_newline))
    (λ not_blank. cond_both (byte == backslash) (continued_item (line_end_len bytes)) slashed P
    (λ here. subst (λ (b : ℕ). IsPiece in_line (b ∷ bytes) (continued_item (line_end_len bytes))) (sym (eqb-true byte backslash here)) (continued_piece in_line bytes))
    (λ not_backslash. cond_both (byte == slash) (slash_item whole) letters P
    (λ here. subst (λ (b : ℕ). IsPiece in_line (b ∷ bytes) (slash_item (b ∷ bytes))) (sym (eqb-true byte slash here)) (slash_piece in_line bytes))
    (λ not_slash. cond_both (is_letter byte) (name_item whole) digits P
    (λ letter. name_piece in_line byte bytes letter)
    (λ not_letter. cond_both (is_digit byte) (number_item whole) quoted P
    (λ digit. number_piece in_line byte bytes digit)
    (λ not_digit. cond_both (byte == quote) (text_item (quoted_end whole)) hashed P
    (λ here. subst (λ (b : ℕ). IsPiece in_line (b ∷ bytes) (text_item (quoted_end (b ∷ bytes)))) (sym (eqb-true byte quote here)) (text_piece in_line bytes (text_end 1 false bytes) refl))
    (λ not_quote. cond_both (byte == hash) (hash_item in_line whole) symbol P
    (λ here. subst (λ (b : ℕ). IsPiece in_line (b ∷ bytes) (hash_item in_line (b ∷ bytes))) (sym (eqb-true byte hash here)) (hash_piece in_line bytes))
    (λ not_hash. symbol_piece in_line byte bytes (λ same. absurd (eqb-false byte slash not_slash same))))))))))
