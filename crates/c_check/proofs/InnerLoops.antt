-- The loops inside constructs, as they are kept.
use Rattle.std.proofs.Common.{◌≡◌, ℕ, Bool, true, false, cond, ◌||◌, ◌&&◌, List, [], ◌∷◌, ◌++◌, refl, sym, ap, ◌∙◌, nat_eq}
use Rattle.c_tokens.specs.declared.token.Spot.{Spot}
use Rattle.c_check.specs.declared.constructs.parts.LoopInside.{LoopInside}
use Rattle.c_check.specs.Faults.{is_same_spot}
use Rattle.c_check.specs.Rules.{is_loop_inside}
use Rattle.c_check.specs.Pairs.{same_triple}

or_false : (test : Bool) → (test || false) ≡ test
or_false true = refl
or_false false = refl

and_three : (a b c : Bool) → ((a && b) && c) ≡ (a && (b && c))
and_three true b c = refl
and_three false b c = refl

is_loop_inside-more : (loops : List LoopInside) (one : LoopInside) (slot : ℕ) (construct : Spot)
    → is_loop_inside (loops ++ one ∷ []) slot construct ≡ (is_loop_inside loops slot construct || same_triple (one.slot, one.construct.line, one.construct.column) (slot, construct.line, construct.column))
unfolding is_loop_inside
is_loop_inside-more [] one slot construct =
    or_false (nat_eq one.slot slot && is_same_spot one.construct construct)
    ∙ sym (and_three (nat_eq one.slot slot) (nat_eq one.construct.line construct.line) (nat_eq one.construct.column construct.column))
is_loop_inside-more (first ∷ loops) one slot construct =
    elim (nat_eq first.slot slot && is_same_spot first.construct construct) as (λ here. (here || is_loop_inside (loops ++ one ∷ []) slot construct) ≡ ((here || is_loop_inside loops slot construct) || same_triple (one.slot, one.construct.line, one.construct.column) (slot, construct.line, construct.column))) [
      | true ↦ refl
      | false ↦ is_loop_inside-more loops one slot construct
    ]

cond_or : (test other : Bool) → cond test true other ≡ (other || test)
cond_or true true = refl
cond_or true false = refl
cond_or false true = refl
cond_or false false = refl

-- with one more
pub one_more_inside : (loops : List LoopInside) (one : LoopInside) (before after : ℕ × ℕ × ℕ → Bool) → ((slot : ℕ) (construct : Spot) → before (slot, construct.line, construct.column) ≡ is_loop_inside loops slot construct)
    → ((three : ℕ × ℕ × ℕ) → after three ≡ cond (same_triple (one.slot, one.construct.line, one.construct.column) three) true (before three))
    → (slot : ℕ) (construct : Spot) → after (slot, construct.line, construct.column) ≡ is_loop_inside (loops ++ one ∷ []) slot construct
one_more_inside loops one before after has same slot construct =
    same (slot, construct.line, construct.column) ∙ cond_or (same_triple (one.slot, one.construct.line, one.construct.column) (slot, construct.line, construct.column)) (before (slot, construct.line, construct.column))
    ∙ ap (λ (found : Bool). found || same_triple (one.slot, one.construct.line, one.construct.column) (slot, construct.line, construct.column)) (has slot construct) ∙ sym (is_loop_inside-more loops one slot construct)
