use Rattle.std.proofs.Common.{◌≡◌, ◌⊎◌, ℕ, Option, Some, ◌∙◌, inl, inr, subst, arith}
use Rattle.std.specs.BTreeMap.{Updates, get}
use Rattle.std.specs.Ordering.{nat_cmp}
use Rattle.tool_tasks.specs.declared.key.Key.{Key}
use Rattle.tool_tasks.specs.Holding.{EndsFor, number_of, or_nowhere}
use Rattle.tool_tasks.proofs.reaches.Reaches.give.Goals as goal
use Rattle.tool_tasks.proofs.Walks.{given_ends}

pub returns-clause-ends : goal.returns-clause-ends
returns-clause-ends c = λ links past holds ends.
    let either : (c.longer-best.result ≡ or_nowhere (get nat_cmp c.args.self.now.bests (number_of c.in-Some.key))) ⊎ (c.longer-best.result ≡ c.args.reach) =
    elim c.longer-best.ensures.either [ inl is ↦ inl (is ∙ c.best.ensures.reach) | inr is ↦ inr is ] in
    given_ends c.args.self.now.bests c.insert.new.self links past c.in-Some.key c.args.reach c.longer-best.result c.number.ensures.short
    (subst (λ (n : ℕ). Updates nat_cmp c.args.self.now.bests c.insert.new.self n (Some c.longer-best.result)) c.number.ensures.number c.in_ok-insert.ensures.updates)
    either (let longest = c.longer-best.ensures.length in omega (arith, longest)) holds (subst (λ (key : Option Key). EndsFor links past key c.args.reach) c.in-Some.is ends)
