-- Comments of their own, and where they end.
use Rattle.std.proofs.Common.{◌≡◌, ◌≢◌, ◌⊎◌, ℕ, ◌+◌, Bool, true, false, ◌==◌, List, [], ◌∷◌, ◌++◌, Some, None, length, inl, inr, refl, sym, ap, ◌∙◌, append_assoc, arith}
use Rattle.std.specs.Prelude.{◌&&◌}
use Rattle.std.proofs.lemmas.Bool.{and_parts, cond-false, cond_both, eqb-true, false≢true}
use Rattle.c_tokens.specs.language.Blanks.{comment_rest, one_more, slash, star}
use Rattle.c_tokens.specs.language.Pieces.{IsComment}
use Rattle.c_tokens.proofs.Cuts.{Cut, none_from, one_more-none, one_more-some}

-- What ends a comment: a slash behind its star, or more up to the first star and slash. `starred` says that a star stands
-- before it.
abbrev pub IsClosing : Bool → List ℕ → Type 0
IsClosing starred closing = ((starred ≡ true) × (closing ≡ slash ∷ [])) ⊎ ((inside : List ℕ) × (closing ≡ inside ++ star ∷ slash ∷ []) × (comment_rest starred (inside ++ star ∷ []) ≡ None))

lone_star : (starred : Bool) → comment_rest starred (star ∷ []) ≡ None
lone_star true = refl
lone_star false = refl

IsClosing-more : (starred : Bool) (byte : ℕ) (closing : List ℕ) → (starred && byte == slash) ≡ false → IsClosing (byte == star) closing → IsClosing starred (byte ∷ closing)
IsClosing-more starred byte closing goes (inl (at_star, only)) =
    let is_star : byte ≡ star = eqb-true byte star at_star in
    inr ([], cc, lone_star starred)
IsClosing-more starred byte closing goes (inr (inside, whole, none)) =
    inr (byte ∷ inside, ap (λ (end : List ℕ). byte ∷ end) whole, cond-false (starred && byte == slash) (Some 1) (one_more (comment_rest (byte == star) (inside ++ star ∷ []))) goes ∙ ap one_more none)

-- the end that was found
pub comment_found : (starred : Bool) (bytes : List ℕ) (count : ℕ) → comment_rest starred bytes ≡ Some count → Cut bytes count (λ closing rest. IsClosing starred closing)
comment_found starred [] count found = absurd (cc)
comment_found starred (byte ∷ bytes) count found =
    cond_both (starred && byte == slash) (Some 1) (one_more (comment_rest (byte == star) bytes)) (λ r. r ≡ Some count → Cut (byte ∷ bytes) count (λ closing rest. IsClosing starred closing))
    (λ closes ends.
    let both = and_parts starred (byte == slash) closes in
    let is_slash : byte ≡ slash = eqb-true byte slash both.1 in
    record { front = byte ∷ []; rest = bytes; whole = refl; counted = cc; holds = inl (both.0, cc) })
    (λ goes ends.
    let less = one_more-some (comment_rest (byte == star) bytes) count ends in
    let more = comment_found (byte == star) bytes less.0 less.1 in
    record { front = byte ∷ more.front; rest = more.rest; whole = ap (λ (end : List ℕ). byte ∷ end) more.whole; counted = omega (arith, more.counted, less.2); holds = IsClosing-more starred byte more.front goes more.holds })
    found

-- a star and a slash end it, whatever stands before them
comment_ends : (starred : Bool) (front back : List ℕ) → comment_rest starred (front ++ star ∷ slash ∷ back) ≢ None
comment_ends true [] back none = absurd (cc)
comment_ends false [] back none = absurd (cc)
comment_ends starred (byte ∷ front) back none =
    cond_both (starred && byte == slash) (Some 1) (one_more (comment_rest (byte == star) (front ++ star ∷ slash ∷ back))) (λ r. r ≢ None)
    (λ closes never. absurd (cc))
    (λ goes never. comment_ends (byte == star) front back (one_more-none (comment_rest (byte == star) (front ++ star ∷ slash ∷ back)) never))
    none

pub IsComment-closing : (closing : List ℕ) → IsClosing false closing → IsComment (slash ∷ star ∷ closing)
IsComment-closing closing (inl (at_star, only)) = absurd (false≢true at_star)
IsComment-closing closing (inr (inside, whole, none)) =
    (inside, ap (λ (end : List ℕ). slash ∷ star ∷ end) whole, λ front back same. comment_ends false front back (ap (comment_rest false) (sym same) ∙ none))

-- with no star and slash there is no end
no_closing : (bytes closing rest : List ℕ) → ((front back : List ℕ) → bytes ≢ front ++ star ∷ slash ∷ back) → bytes ≡ closing ++ rest → IsClosing false closing → ⊥
no_closing bytes closing rest other whole (inl (at_star, only)) = false≢true at_star
no_closing bytes closing rest other whole (inr (inside, parts, none)) =
    other inside rest (whole ∙ ap (λ (front : List ℕ). front ++ rest) parts ∙ append_assoc inside (star ∷ slash ∷ []) rest)

comment_none : (bytes : List ℕ) → ((front back : List ℕ) → bytes ≢ front ++ star ∷ slash ∷ back) → comment_rest false bytes ≡ None
comment_none bytes other = none_from (comment_rest false bytes) (λ n found. let cut = comment_found false bytes n found in no_closing bytes cut.front cut.rest other cut.whole cut.holds)

-- a star and a slash behind what doesn't end it are its end
comment_closed : (starred : Bool) (inside rest : List ℕ) → comment_rest starred (inside ++ star ∷ []) ≡ None → comment_rest starred (inside ++ star ∷ slash ∷ rest) ≡ Some (length inside + 2)
comment_closed true [] rest none = refl
comment_closed false [] rest none = refl
comment_closed starred (byte ∷ inside) rest none =
    cond_both (starred && byte == slash) (Some 1) (one_more (comment_rest (byte == star) (inside ++ star ∷ []))) (λ r. r ≡ None → comment_rest starred (byte ∷ (inside ++ star ∷ slash ∷ rest)) ≡ Some (length inside + 1 + 2))
    (λ closes never. absurd (cc))
    (λ goes never. cond-false (starred && byte == slash) (Some 1) (one_more (comment_rest (byte == star) (inside ++ star ∷ slash ∷ rest))) goes ∙ ap one_more (comment_closed (byte == star) inside rest (one_more-none (comment_rest (byte == star) (inside ++ star ∷ [])) never)) ∙ ap Some (omega arith))
    none ∙ ap Some (omega arith)

pub comment_read : (inside rest : List ℕ) → ((front back : List ℕ) → inside ++ star ∷ [] ≢ front ++ star ∷ slash ∷ back) → comment_rest false (inside ++ star ∷ slash ∷ rest) ≡ Some (length inside + 2)
comment_read inside rest first = comment_closed false inside rest (comment_none (inside ++ star ∷ []) first)
