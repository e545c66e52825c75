-- Ends of bytes, and what they are as tails.
use Rattle.std.proofs.Common.{◌≡◌, ◌≢◌, ℕ, suc, ◌+◌, ◌-◌, ◌<◌, ◌≤◌, Bool, true, false, cond, ◌==◌, List, [], ◌∷◌, ◌++◌, Option, Some, None, length, take, drop, get_or, inl, inr, refl, sym, ap, ◌∙◌, append_assoc, subst, arith, length-append, eq-eqb, ne_eqb}
use Rattle.std.specs.Prelude.{IfSome, MatchOption, slice_get}
use Rattle.std.specs.Option.{option_copied}
use denote.Bor.{Bor}
use Rattle.std.proofs.Math.Seq.{drop-append_seam, drop-length}
use Rattle.c_tokens.specs.declared.tail.Row.{Row}
use Rattle.std.proofs.lemmas.Bool.{cases_eq}
use Rattle.std.proofs.lemmas.List.{get_or_append_left, get_or_push, take-append-drop, take_all}
use Rattle.std.proofs.lemmas.Option.{get_or_from_slice_get, slice_get-get_or, slice_get_within}
use Rattle.c_tokens.specs.language.Bytes.{after, is_gap, newline}
use Rattle.c_tokens.specs.workings.Lines.{Tail, include_len, include_rest, tail_len}
use Rattle.c_tokens.specs.workings.Lines.Tail.{Gaps, Slash, Line, Inside, Starred, Return}
use Rattle.c_tokens.specs.language.Blanks.{one_more, return, slash, star}
use Rattle.c_tokens.specs.workings.Tails.{AreTails, IsEndOf, IsSmall, IsSmallRow, row_of}

pub IsEndOf-itself : (bytes : List ℕ) → IsEndOf bytes bytes
IsEndOf-itself bytes = ([], refl)

pub IsEndOf-through : (whole middle rest : List ℕ) → IsEndOf whole middle → IsEndOf middle rest → IsEndOf whole rest
IsEndOf-through whole middle rest (front, first) (more, second) =
    (front ++ more, first ∙ ap (λ (end : List ℕ). front ++ end) second ∙ sym (append_assoc front more rest))

pub length-IsEndOf : (whole rest : List ℕ) → IsEndOf whole rest → length rest ≤ length whole
length-IsEndOf whole rest (front, same) = omega (arith, ap length same, length-append front rest)

pub AreTails-end : (whole rest : List ℕ) (tails : List (Option ℕ)) → AreTails whole tails → IsEndOf whole rest → AreTails rest tails
AreTails-end whole rest tails all end = λ last inside. all last (IsEndOf-through whole rest last end inside)

-- a word at the front
pub after-append : (word rest : List ℕ) → after word (word ++ rest) ≡ Some rest
after-append [] rest = refl
after-append (letter ∷ word) rest = rw (eq-eqb letter letter refl) (after-append word rest)

pub after-none : (word bytes : List ℕ) → ((rest : List ℕ) → bytes ≢ word ++ rest) → after word bytes ≡ None
after-none [] bytes none = absurd (none bytes refl)
after-none (letter ∷ word) [] none = refl
after-none (letter ∷ word) (byte ∷ bytes) none = elim (cases_eq letter byte) [
  | inl same ↦ rw (eq-eqb letter byte same) (after-none word bytes (λ rest whole. none rest cc))
  | inr other ↦ rw (ne_eqb letter byte other) refl
]

-- a tail is no longer than its bytes
Within : List ℕ → Option ℕ → Type 0
Within bytes count = IfSome count (λ n. n ≤ length bytes)

one_more-within : (byte : ℕ) (bytes : List ℕ) (count : Option ℕ) → Within bytes count → Within (byte ∷ bytes) (one_more count)
unfolding Within
one_more-within byte bytes None within = within
one_more-within byte bytes (Some n) within = omega arith

later-within : (byte : ℕ) (bytes : List ℕ) (count : Option ℕ) → Within bytes count → Within (byte ∷ bytes) count
unfolding Within
later-within byte bytes None within = within
later-within byte bytes (Some n) within = omega arith

either-within : (test : Bool) (bytes : List ℕ) (first second : Option ℕ) → Within bytes first → Within bytes second → Within bytes (cond test first second)
either-within true bytes first second within other = within
either-within false bytes first second within other = other

zero-within : (bytes : List ℕ) → Within bytes (Some 0)
unfolding Within
zero-within bytes = omega arith

none-within : (bytes : List ℕ) → Within bytes None
unfolding Within
none-within bytes = tt

tail_len-within : (state : Tail) (bytes : List ℕ) → Within bytes (tail_len state bytes)
tail_len-within Gaps [] = zero-within []
tail_len-within Slash [] = none-within []
tail_len-within Line [] = zero-within []
tail_len-within Inside [] = none-within []
tail_len-within Starred [] = none-within []
tail_len-within Return [] = none-within []
tail_len-within Gaps (byte ∷ bytes) =
    let all = byte ∷ bytes in
    either-within (is_gap byte) all _ _ (one_more-within byte bytes _ (tail_len-within Gaps bytes))
    (either-within (byte == newline) all _ _ (zero-within all)
    (either-within (byte == return) all _ _ (later-within byte bytes _ (tail_len-within Return bytes))
    (either-within (byte == slash) all _ _ (one_more-within byte bytes _ (tail_len-within Slash bytes)) (none-within all))))
tail_len-within Slash (byte ∷ bytes) =
    let all = byte ∷ bytes in
    either-within (byte == slash) all _ _ (one_more-within byte bytes _ (tail_len-within Line bytes))
    (either-within (byte == star) all _ _ (one_more-within byte bytes _ (tail_len-within Inside bytes)) (none-within all))
tail_len-within Line (byte ∷ bytes) =
    let all = byte ∷ bytes in
    either-within (byte == newline) all _ _ (zero-within all) (one_more-within byte bytes _ (tail_len-within Line bytes))
tail_len-within Inside (byte ∷ bytes) =
    let all = byte ∷ bytes in
    either-within (byte == star) all _ _ (one_more-within byte bytes _ (tail_len-within Starred bytes)) (one_more-within byte bytes _ (tail_len-within Inside bytes))
tail_len-within Starred (byte ∷ bytes) =
    let all = byte ∷ bytes in
    either-within (byte == slash) all _ _ (one_more-within byte bytes _ (tail_len-within Gaps bytes))
    (either-within (byte == star) all _ _ (one_more-within byte bytes _ (tail_len-within Starred bytes)) (one_more-within byte bytes _ (tail_len-within Inside bytes)))
tail_len-within Return (byte ∷ bytes) = either-within (byte == newline) (byte ∷ bytes) _ _ (zero-within (byte ∷ bytes)) (none-within (byte ∷ bytes))

pub within-tail_len : (state : Tail) (bytes : List ℕ) → IfSome (tail_len state bytes) (λ n. n ≤ length bytes)
unfolding Within
within-tail_len state bytes = tail_len-within state bytes

IfSome-smaller : (count : Option ℕ) (least most : ℕ) → least < most → IfSome count (λ n. n ≤ least) → IfSome count (λ n. n < most)
IfSome-smaller None least most below within = tt
IfSome-smaller (Some n) least most below within = omega arith

small : (state : Tail) (bytes : List ℕ) → length bytes < 65536 → IsSmall (tail_len state bytes)
unfolding Within
small state bytes short = IfSome-smaller (tail_len state bytes) (length bytes) 65536 short (tail_len-within state bytes)

pub IsSmallRow-row_of : (bytes : List ℕ) → length bytes < 65536 → IsSmallRow (row_of bytes)
IsSmallRow-row_of bytes short = record {
  gaps = small Gaps bytes short;
  slash = small Slash bytes short;
  line = small Line bytes short;
  inside = small Inside bytes short;
  starred = small Starred bytes short;
  carriage = small Return bytes short;
}

get-last : (tails : List (Option ℕ)) (tail : Option ℕ) (at : ℕ) → length tails ≡ at → slice_get (tails ++ tail ∷ []) at ≡ Some tail
get-last tails tail at same =
    let inside : at < length (tails ++ tail ∷ []) = omega (arith, length-append tails (tail ∷ [])) in
    slice_get-get_or (tails ++ tail ∷ []) at tail inside ∙ ap Some (get_or_push tails tail tail at same)

get-before : (tails : List (Option ℕ)) (tail : Option ℕ) (at : ℕ) → at < length tails → slice_get (tails ++ tail ∷ []) at ≡ slice_get tails at
get-before tails tail at before =
    let inside : at < length (tails ++ tail ∷ []) = omega (arith, length-append tails (tail ∷ [])) in
    slice_get-get_or (tails ++ tail ∷ []) at tail inside ∙ ap Some (get_or_append_left tails (tail ∷ []) tail at before) ∙ sym (slice_get-get_or tails at tail before)

-- one end more, with its tail
AreTails-push : (byte : ℕ) (bytes : List ℕ) (tails : List (Option ℕ)) (front rest : List ℕ) → length tails ≡ length bytes + 1 → AreTails bytes tails → byte ∷ bytes ≡ front ++ rest → slice_get (tails ++ tail_len Gaps (byte ∷ bytes) ∷ []) (length rest) ≡ Some (tail_len Gaps rest)
AreTails-push byte bytes tails [] rest counted all whole =
    let P : List ℕ → Type 0 = λ end. slice_get (tails ++ tail_len Gaps (byte ∷ bytes) ∷ []) (length end) ≡ Some (tail_len Gaps end) in
    subst P whole (get-last tails (tail_len Gaps (byte ∷ bytes)) (suc (length bytes)) (omega arith))
AreTails-push byte bytes tails (first ∷ front) rest counted all whole =
    let inside : bytes ≡ front ++ rest = cc in
    let below : length rest < length tails = omega (arith, ap length inside, length-append front rest) in
    get-before tails (tail_len Gaps (byte ∷ bytes)) (length rest) below ∙ all rest (front, inside)

pub AreTails-more : (byte : ℕ) (bytes : List ℕ) (tails : List (Option ℕ)) → length tails ≡ length bytes + 1 → AreTails bytes tails → AreTails (byte ∷ bytes) (tails ++ tail_len Gaps (byte ∷ bytes) ∷ [])
AreTails-more byte bytes tails counted all = λ rest end. AreTails-push byte bytes tails end.0 rest counted all end.1

none-ends : (front rest : List ℕ) → [] ≡ front ++ rest → slice_get (tail_len Gaps [] ∷ []) (length rest) ≡ Some (tail_len Gaps rest)
none-ends front [] whole = refl
none-ends front (byte ∷ rest) whole = absurd (omega (arith, ap length whole, length-append front (byte ∷ rest)))

pub AreTails-none : AreTails [] (tail_len Gaps [] ∷ [])
AreTails-none = λ rest end. none-ends end.0 rest end.1

-- the last byte of what is left goes over to what is done
pub last-over : (text rest front : List ℕ) (byte : ℕ) → text ≡ rest ++ drop (length rest) text → rest ≡ front ++ byte ∷ [] → drop (length front) text ≡ byte ∷ drop (length rest) text
last-over text rest front byte whole parts =
    let same : text ≡ front ++ (byte ∷ drop (length rest) text) = whole ∙ ap (λ (start : List ℕ). start ++ drop (length rest) text) parts ∙ append_assoc front (byte ∷ []) (drop (length rest) text) in
    ap (drop (length front)) same ∙ drop-append_seam front (byte ∷ drop (length rest) text)

-- what is left when a word is stripped off the front
pub after-stripped : (word bytes : List ℕ) (rest : Option (Bor (List ℕ))) → MatchOption rest ((more : List ℕ) → bytes ≢ word ++ more) (λ found. bytes ≡ word ++ found.now) → option_copied rest ≡ after word bytes
after-stripped word bytes None none = sym (after-none word bytes none)
after-stripped word bytes (Some found) whole = rw whole (sym (after-append word found.now))

pub end-stripped : (word bytes : List ℕ) (rest : Option (Bor (List ℕ))) → MatchOption rest ((more : List ℕ) → bytes ≢ word ++ more) (λ found. bytes ≡ word ++ found.now) → IfSome rest (λ found. IsEndOf bytes found.now)
end-stripped word bytes None none = tt
end-stripped word bytes (Some found) whole = (word, whole)

pub IsEndOf-drop : (count : ℕ) (bytes : List ℕ) → IsEndOf bytes (drop count bytes)
IsEndOf-drop count bytes = (take count bytes, sym (take-append-drop count bytes))

-- an end of an end
pub IfSome-end : (whole middle : List ℕ) (rest : Option (Bor (List ℕ))) → IsEndOf whole middle → IfSome rest (λ found. IsEndOf middle found.now) → IfSome rest (λ found. IsEndOf whole found.now)
IfSome-end whole middle None end within = tt
IfSome-end whole middle (Some found) end within = IsEndOf-through whole middle found.now end within

-- the tail of the whole, as it was found
pub tail-at : (rest : List ℕ) (tails : List (Option ℕ)) (other : Option ℕ) → AreTails rest tails → get_or tails (length rest) other ≡ tail_len Gaps rest
tail-at rest tails other all = get_or_from_slice_get tails (length rest) (tail_len Gaps rest) other (all rest (IsEndOf-itself rest))

pub tail-inside : (rest : List ℕ) (tails : List (Option ℕ)) → AreTails rest tails → length rest < length tails
tail-inside rest tails all = slice_get_within tails (length rest) (tail_len Gaps rest) (all rest (IsEndOf-itself rest))

pub whole-over : (text rest front : List ℕ) (byte : ℕ) → text ≡ rest ++ drop (length rest) text → rest ≡ front ++ byte ∷ [] → text ≡ front ++ drop (length front) text
whole-over text rest front byte whole parts =
    whole ∙ ap (λ (start : List ℕ). start ++ drop (length rest) text) parts ∙ append_assoc front (byte ∷ []) (drop (length rest) text) ∙ ap (λ (end : List ℕ). front ++ end) (sym (last-over text rest front byte whole parts))

-- the tails before the first byte, and after one more
pub AreTails-begun : (text : List ℕ) (tails : List (Option ℕ)) (row : Row) → row ≡ row_of [] → tails ≡ [] ++ row.gaps ∷ [] → AreTails (drop (length text) text) tails
AreTails-begun text tails row same items =
    let P : List ℕ → Type 0 = λ end. AreTails end tails in
    let Q : List (Option ℕ) → Type 0 = λ found. AreTails [] found in
    subst P (sym (drop-length text)) (subst Q (sym (items ∙ ap (λ (made : Row). [] ++ made.gaps ∷ []) same)) AreTails-none)

pub AreTails-grown : (text rest front : List ℕ) (byte : ℕ) (old new : List (Option ℕ)) (row : Row) → drop (length front) text ≡ byte ∷ drop (length rest) text → row ≡ row_of (byte ∷ drop (length rest) text) → length old ≡ length (drop (length rest) text) + 1 → AreTails (drop (length rest) text) old → new ≡ old ++ row.gaps ∷ [] → AreTails (drop (length front) text) new
AreTails-grown text rest front byte old new row over same counted all items =
    let done = drop (length rest) text in
    let P : List ℕ → Type 0 = λ end. AreTails end new in
    let Q : List (Option ℕ) → Type 0 = λ found. AreTails (byte ∷ done) found in
    subst P (sym over) (subst Q (sym (items ∙ ap (λ (made : Row). old ++ made.gaps ∷ []) same)) (AreTails-more byte done old counted all))

-- what follows the first byte, as a part of the whole
behind-first : (first : ℕ) (bytes : List ℕ) → take (suc (length bytes) - 1) bytes ≡ bytes
behind-first first bytes = take_all (suc (length bytes) - 1) bytes (omega arith)

pub IsEndOf-behind : (bytes : List ℕ) → 1 ≤ length bytes → IsEndOf bytes (take (length bytes - 1) (drop 1 bytes))
IsEndOf-behind [] some = absurd (omega arith)
IsEndOf-behind (first ∷ bytes) some = (first ∷ [], ap (λ (rest : List ℕ). first ∷ rest) (sym (behind-first first bytes)))

-- an include whose tail was found, or isn't one
pub include_len-found : (bytes rest : List ℕ) (tail : ℕ) → 1 ≤ length bytes → include_rest (take (length bytes - 1) (drop 1 bytes)) ≡ Some rest → tail_len Gaps rest ≡ Some tail → include_len bytes ≡ Some (length bytes - length rest + tail)
include_len-found [] rest tail some found at = absurd (omega arith)
include_len-found (hash ∷ bytes) rest tail some found at =
    let there : include_rest bytes ≡ Some rest = ap include_rest (sym (behind-first hash bytes)) ∙ found in
    rw (there, at) (ap Some (omega arith))

pub include_len-open : (bytes rest : List ℕ) → 1 ≤ length bytes → include_rest (take (length bytes - 1) (drop 1 bytes)) ≡ Some rest → tail_len Gaps rest ≡ None → include_len bytes ≡ None
include_len-open [] rest some found at = refl
include_len-open (hash ∷ bytes) rest some found at =
    let there : include_rest bytes ≡ Some rest = ap include_rest (sym (behind-first hash bytes)) ∙ found in
    rw (there, at) refl
