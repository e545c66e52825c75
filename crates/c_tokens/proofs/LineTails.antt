-- What stands behind an include up to the end of its line.
use Rattle.std.proofs.Common.{◌≡◌, ℕ, zero, suc, ◌+◌, ◌≤◌, Bool, true, false, cond, ◌==◌, List, [], ◌∷◌, ◌++◌, Option, Some, None, length, drop, inl, inr, refl, sym, ap, subst, ◌∙◌, append_assoc, arith, length-append, ne_eqb}
use Rattle.std.proofs.lemmas.Bool.{cond-false, cond-true, cond_both, eqb-true, cases_eq, true≢false}
use Rattle.std.proofs.lemmas.List.{drop_at}
use Rattle.c_tokens.specs.language.Bytes.{is_gap, is_inline, newline}
use Rattle.c_tokens.specs.language.Blanks.{comment_rest, further, line_rest, one_more, return, slash, star}
use Rattle.c_tokens.specs.workings.Lines.{Tail, tail_len}
use Rattle.c_tokens.specs.workings.Lines.Tail.{Gaps, Slash, Line, Inside, Starred, Return}
use Rattle.c_tokens.specs.language.Pieces.{EndsLine, IsComment, IsLineComment, IsLineEnd, IsTail}
use Rattle.c_tokens.specs.language.Pieces.IsTail.{nothing, gap, comment, last}
use Rattle.c_tokens.proofs.Comments.{IsComment-closing, comment_found, comment_read}
use Rattle.c_tokens.proofs.Cuts.{Cut, length-run, one_more-some, run}

-- inside a comment, whether a star was read last or not
inside : Bool → Tail
inside true = Starred
inside false = Inside

-- the tail behind the end of a comment
behind : Option ℕ → List ℕ → Option ℕ
behind None bytes = None
behind (Some n) bytes = further n (tail_len Gaps (drop n bytes))

further-one : (count : Option ℕ) → one_more count ≡ further 1 count
further-one None = refl
further-one (Some n) = ap Some (omega arith)

one_more-further : (n : ℕ) (count : Option ℕ) → one_more (further n count) ≡ further (suc n) count
one_more-further n None = refl
one_more-further n (Some m) = ap Some (omega arith)

one_more-behind : (byte : ℕ) (bytes : List ℕ) (count : Option ℕ) → one_more (behind count bytes) ≡ behind (one_more count) (byte ∷ bytes)
unfolding behind
one_more-behind byte bytes None = refl
one_more-behind byte bytes (Some n) =
    let same : n + 1 ≡ suc n = omega arith in
    rw same (one_more-further n (tail_len Gaps (drop n bytes)))

either_inside : (starred : Bool) (bytes : List ℕ) → cond starred (one_more (tail_len Starred bytes)) (one_more (tail_len Inside bytes)) ≡ one_more (tail_len (inside starred) bytes)
unfolding inside
either_inside true bytes = refl
either_inside false bytes = refl

starred_tail : (closes : Bool) (byte : ℕ) (bytes : List ℕ) (goes : Option ℕ) (more : Option ℕ) → goes ≡ behind more (byte ∷ bytes) → cond closes (one_more (tail_len Gaps bytes)) goes ≡ behind (cond closes (Some 1) more) (byte ∷ bytes)
unfolding behind
starred_tail true byte bytes goes more same = further-one (tail_len Gaps bytes)
starred_tail false byte bytes goes more same = same

-- a tail from the inside of a comment is the comment's rest, and the tail behind it
tail-inside : (starred : Bool) (bytes : List ℕ) → tail_len (inside starred) bytes ≡ behind (comment_rest starred bytes) bytes
unfolding inside behind
tail-inside true [] = refl
tail-inside false [] = refl
tail-inside true (byte ∷ bytes) =
    starred_tail (byte == slash) byte bytes (cond (byte == star) (one_more (tail_len Starred bytes)) (one_more (tail_len Inside bytes))) (one_more (comment_rest (byte == star) bytes))
    (either_inside (byte == star) bytes ∙ ap one_more (tail-inside (byte == star) bytes) ∙ one_more-behind byte bytes (comment_rest (byte == star) bytes))
tail-inside false (byte ∷ bytes) = either_inside (byte == star) bytes ∙ ap one_more (tail-inside (byte == star) bytes) ∙ one_more-behind byte bytes (comment_rest (byte == star) bytes)

ended_line : (ends : Bool) (count : ℕ) → cond ends (Some 0) (one_more (Some count)) ≡ Some (cond (cond ends false true) (1 + count) 0)
ended_line true count = refl
ended_line false count = ap Some (omega arith)

-- a tail from the inside of a comment to the line's end is the rest of its line
tail-line : (bytes : List ℕ) → tail_len Line bytes ≡ Some (line_rest bytes)
tail-line [] = refl
tail-line (byte ∷ bytes) = ap (λ (rest : Option ℕ). cond (byte == newline) (Some 0) (one_more rest)) (tail-line bytes) ∙ ended_line (byte == newline) (line_rest bytes)

record Behind (bytes : List ℕ) (closes : Option ℕ) (count : ℕ) : Type 0 where
  n : ℕ
  m : ℕ
  closed : closes ≡ Some n
  tail : tail_len Gaps (drop n bytes) ≡ Some m
  counted : n + m ≡ count

pub further-some : (n : ℕ) (rest : Option ℕ) (count : ℕ) → further n rest ≡ Some count → (m : ℕ) × (rest ≡ Some m) × (n + m ≡ count)
further-some n None count found = absurd (cc)
further-some n (Some m) count found = (m, refl, cc)

behind-some : (bytes : List ℕ) (closes : Option ℕ) (count : ℕ) → behind closes bytes ≡ Some count → Behind bytes closes count
unfolding behind
behind-some bytes None count found = absurd (cc)
behind-some bytes (Some n) count found =
    let rest = further-some n (tail_len Gaps (drop n bytes)) count found in
    record { n = n; m = rest.0; closed = refl; tail = rest.1; counted = rest.2 }

none_left : (rest : List ℕ) (count : ℕ) → EndsLine rest → Some 0 ≡ Some count → Cut rest count IsTail
none_left rest count ends found = record { front = []; rest = rest; whole = refl; counted = cc; holds = nothing ends }

line_end : (byte : ℕ) (bytes : List ℕ) → (byte == newline) ≡ true → IsLineEnd (byte ∷ bytes)
line_end byte bytes ends = cond-true (byte == newline) false true ends

-- a carriage return before a newline
returned : (bytes : List ℕ) (count : ℕ) → tail_len Return bytes ≡ Some count → Cut (return ∷ bytes) count IsTail
returned [] count found = absurd (cc)
returned (byte ∷ bytes) count found =
    cond_both (byte == newline) (Some 0) None (λ r. r ≡ Some count → Cut (return ∷ byte ∷ bytes) count IsTail)
    (λ ends done. none_left (return ∷ byte ∷ bytes) count (inr (bytes, ap (λ (b : ℕ). return ∷ b ∷ bytes) (eqb-true byte newline ends))) done)
    (λ other done. absurd (cc))
    found

line_found : (bytes : List ℕ) (count : ℕ) → one_more (one_more (tail_len Line bytes)) ≡ Some count → Cut (slash ∷ slash ∷ bytes) count IsTail
line_found bytes count found =
    let cut = run is_inline bytes in
    let counted : one_more (one_more (Some (line_rest bytes))) ≡ Some count = ap (λ (rest : Option ℕ). one_more (one_more rest)) (sym (tail-line bytes)) ∙ found in
    let same : line_rest bytes + 1 + 1 ≡ count = cc in
    record { front = slash ∷ slash ∷ cut.front; rest = cut.rest; whole = ap (λ (end : List ℕ). slash ∷ slash ∷ end) cut.whole; counted = omega (arith, cut.counted, same); holds = last (cut.front, refl, cut.holds.0, cut.holds.1) }

-- a comment, and the tail behind it
comment_before : (closing rest : List ℕ) (n m count : ℕ) → IsComment (slash ∷ star ∷ closing) → length closing ≡ n → Cut rest m IsTail → n + m + 1 + 1 ≡ count → Cut (slash ∷ star ∷ (closing ++ rest)) count IsTail
comment_before closing rest n m count is_comment len tail sum = record {
  front = slash ∷ star ∷ (closing ++ tail.front);
  rest = tail.rest;
  whole = ap (λ (end : List ℕ). slash ∷ star ∷ end) (ap (λ (end : List ℕ). closing ++ end) tail.whole ∙ sym (append_assoc closing tail.front tail.rest));
  counted = omega (arith, length-append closing tail.front, tail.counted);
  holds = comment {first = slash ∷ star ∷ closing} is_comment tail.holds;
}

-- a comment that begins a tail; what is no longer than the bytes behind its opening is cut already
comment_tail : (bytes : List ℕ) (count : ℕ) → ((rest : List ℕ) (n : ℕ) → length rest ≤ length bytes → tail_len Gaps rest ≡ Some n → Cut rest n IsTail) → one_more (one_more (tail_len Inside bytes)) ≡ Some count → Cut (slash ∷ star ∷ bytes) count IsTail
unfolding inside
comment_tail bytes count smaller found =
    let outer = one_more-some (one_more (tail_len Inside bytes)) count found in
    let inner = one_more-some (tail_len Inside bytes) outer.0 outer.1 in
    let parts = behind-some bytes (comment_rest false bytes) inner.0 (sym (tail-inside false bytes) ∙ inner.1) in
    let cut = comment_found false bytes parts.n parts.closed in
    let left : drop parts.n bytes ≡ cut.rest = ap (drop parts.n) cut.whole ∙ drop_at cut.front cut.rest parts.n cut.counted in
    let tail = smaller cut.rest parts.m (omega (arith, ap length cut.whole, length-append cut.front cut.rest)) (ap (tail_len Gaps) (sym left) ∙ parts.tail) in
    let P : List ℕ → Type 0 = λ end. Cut (slash ∷ star ∷ end) count IsTail in
    subst P (sym cut.whole) (comment_before cut.front cut.rest parts.n parts.m count (IsComment-closing cut.front cut.holds) cut.counted tail (omega (arith, parts.counted, inner.2, outer.2)))

slash_tail : (bytes : List ℕ) (count : ℕ) → ((rest : List ℕ) (n : ℕ) → length rest ≤ length bytes → tail_len Gaps rest ≡ Some n → Cut rest n IsTail) → one_more (tail_len Slash bytes) ≡ Some count → Cut (slash ∷ bytes) count IsTail
slash_tail [] count smaller found = absurd (cc)
slash_tail (second ∷ bytes) count smaller found =
    let P : ℕ → Type 0 = λ b. Cut (slash ∷ b ∷ bytes) count IsTail in
    cond_both (second == slash) (one_more (tail_len Line bytes)) (cond (second == star) (one_more (tail_len Inside bytes)) None) (λ r. one_more r ≡ Some count → Cut (slash ∷ second ∷ bytes) count IsTail)
    (λ slashed here. subst P (sym (eqb-true second slash slashed)) (line_found bytes count here))
    (λ other. cond_both (second == star) (one_more (tail_len Inside bytes)) None (λ r. one_more r ≡ Some count → Cut (slash ∷ second ∷ bytes) count IsTail)
    (λ is_star here. subst P (sym (eqb-true second star is_star)) (comment_tail bytes count (λ rest n below. smaller rest n (omega arith)) here))
    (λ neither here. absurd (cc)))
    found

gap_before : (byte : ℕ) (bytes : List ℕ) (m count : ℕ) → is_gap byte ≡ true → Cut bytes m IsTail → m + 1 ≡ count → Cut (byte ∷ bytes) count IsTail
gap_before byte bytes m count is_one tail sum = record { front = byte ∷ tail.front; rest = tail.rest; whole = ap (λ (end : List ℕ). byte ∷ end) tail.whole; counted = omega (arith, tail.counted); holds = gap is_one tail.holds }

-- The tail at the front. A comment skips bytes, so the steps are counted: `fuel` is no less than the bytes.
tail_within : (fuel : ℕ) (bytes : List ℕ) (count : ℕ) → length bytes ≤ fuel → tail_len Gaps bytes ≡ Some count → Cut bytes count IsTail
tail_within fuel [] count within found = none_left [] count (inl refl) found
tail_within zero (byte ∷ bytes) count within found = absurd (omega arith)
tail_within (suc fuel) (byte ∷ bytes) count within found =
    let P : Option ℕ → Type 0 = λ r. r ≡ Some count → Cut (byte ∷ bytes) count IsTail in
    let Q : ℕ → Type 0 = λ b. Cut (b ∷ bytes) count IsTail in
    let slashed : Option ℕ = cond (byte == slash) (one_more (tail_len Slash bytes)) None in
    let returning : Option ℕ = cond (byte == return) (tail_len Return bytes) slashed in
    cond_both (is_gap byte) (one_more (tail_len Gaps bytes)) (cond (byte == newline) (Some 0) returning) P
    (λ is_one here. let less = one_more-some (tail_len Gaps bytes) count here in gap_before byte bytes less.0 count is_one (tail_within fuel bytes less.0 (omega arith) less.1) less.2)
    (λ not_gap. cond_both (byte == newline) (Some 0) returning P
    (λ ends here. none_left (byte ∷ bytes) count (inl (line_end byte bytes ends)) here)
    (λ not_end. cond_both (byte == return) (tail_len Return bytes) slashed P
    (λ is_return here. subst Q (sym (eqb-true byte return is_return)) (returned bytes count here))
    (λ not_return. cond_both (byte == slash) (one_more (tail_len Slash bytes)) None P
    (λ is_slash here. subst Q (sym (eqb-true byte slash is_slash)) (slash_tail bytes count (λ rest n below. tail_within fuel rest n (omega arith)) here))
    (λ neither here. absurd (cc)))))
    found

pub tail_found : (bytes : List ℕ) (count : ℕ) → tail_len Gaps bytes ≡ Some count → Cut bytes count IsTail
tail_found bytes count = tail_within (length bytes) bytes count (omega arith)

newline-at : (byte : ℕ) → is_inline byte ≡ false → byte ≡ newline
newline-at byte ends = elim (cases_eq byte newline) [
  | inl same ↦ same
  | inr other ↦ absurd (true≢false (sym (cond-false (byte == newline) false true (ne_eqb byte newline other)) ∙ ends))
]

-- what ends the line is no part of a tail
no_tail : (rest : List ℕ) → EndsLine rest → tail_len Gaps rest ≡ Some 0
no_tail [] ends = refl
no_tail (byte ∷ rest) (inl ends) = ap (λ (b : ℕ). tail_len Gaps (b ∷ rest)) (newline-at byte ends)
no_tail (byte ∷ rest) (inr (bytes, same)) = ap (tail_len Gaps) same

comment_passed : (first rest : List ℕ) → IsComment first → tail_len Gaps (first ++ rest) ≡ further (length first) (tail_len Gaps rest)
unfolding inside behind
comment_passed first rest (within, same, earliest) =
    let closing = within ++ star ∷ slash ∷ [] in
    let whole = within ++ star ∷ slash ∷ rest in
    let n = length within + 2 in
    let parts : closing ++ rest ≡ whole = append_assoc within (star ∷ slash ∷ []) rest in
    let shape : first ++ rest ≡ slash ∷ star ∷ whole = ap (λ (front : List ℕ). front ++ rest) same ∙ ap (λ (end : List ℕ). slash ∷ star ∷ end) parts in
    let left : drop n whole ≡ rest = ap (drop n) (sym parts) ∙ drop_at closing rest n (length-append within (star ∷ slash ∷ [])) in
    let counted : suc (suc n) ≡ length first = omega (arith, ap length same, length-append within (star ∷ slash ∷ [])) in
    ap (tail_len Gaps) shape
    ∙ ap (λ (r : Option ℕ). one_more (one_more r)) (tail-inside false whole ∙ ap (λ (r : Option ℕ). behind r whole) (comment_read within rest earliest) ∙ ap (λ (end : List ℕ). further n (tail_len Gaps end)) left)
    ∙ ap one_more (one_more-further n (tail_len Gaps rest)) ∙ one_more-further (suc n) (tail_len Gaps rest)
    ∙ ap (λ (m : ℕ). further m (tail_len Gaps rest)) counted

line_passed : (bytes rest : List ℕ) → IsLineComment bytes rest → tail_len Gaps (bytes ++ rest) ≡ Some (length bytes)
line_passed bytes rest (within, same, inline, ends) =
    let counted : line_rest (within ++ rest) + 1 + 1 ≡ length bytes = omega (arith, ap length same, length-run is_inline within rest inline ends) in
    ap (λ (front : List ℕ). tail_len Gaps (front ++ rest)) same ∙ ap (λ (r : Option ℕ). one_more (one_more r)) (tail-line (within ++ rest)) ∙ ap Some counted

-- a tail is read up to the end of its line
pub tail_read : {bytes rest : List ℕ} → IsTail bytes rest → tail_len Gaps (bytes ++ rest) ≡ Some (length bytes)
tail_read {bytes} {rest} (nothing ends) = no_tail rest ends
tail_read {bytes} {rest} (gap {byte} {bytes = more} is_one tail) = rw is_one (ap one_more (tail_read tail) ∙ ap Some (omega arith))
tail_read {bytes} {rest} (comment {first} {bytes = more} is_comment tail) =
    ap (tail_len Gaps) (append_assoc first more rest) ∙ comment_passed first (more ++ rest) is_comment ∙ ap (further (length first)) (tail_read tail) ∙ ap Some (sym (length-append first more))
tail_read {bytes} {rest} (last is_line) = line_passed bytes rest is_line
