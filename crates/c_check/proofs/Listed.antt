-- The variables that data clauses list, as they are kept.
use Rattle.std.proofs.Common.{◌≡◌, ℕ, true, false, cond, List, [], ◌∷◌, ◌++◌, Some, None, refl, nat_eq}
use Rattle.c_check.specs.declared.constructs.parts.Mention.{Mention}
use Rattle.c_check.specs.Constructs.{mention}
use Rattle.std.specs.Option.{option_or}

-- with one more
pub mention-more : (mentions : List Mention) (one : Mention) (slot : ℕ) → mention (mentions ++ one ∷ []) slot ≡ option_or (mention mentions slot) (mention (one ∷ []) slot)
unfolding mention
mention-more [] one slot = refl
mention-more (first ∷ mentions) one slot =
    elim (nat_eq first.slot slot) as (λ here. cond here (Some first.clause) (mention (mentions ++ one ∷ []) slot) ≡ option_or (cond here (Some first.clause) (mention mentions slot)) (cond (nat_eq one.slot slot) (Some one.clause) None)) [
      | true ↦ refl
      | false ↦ mention-more mentions one slot
    ]
