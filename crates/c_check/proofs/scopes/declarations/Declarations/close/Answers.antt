use Rattle.std.proofs.Common.{◌≡◌, ◌-◌, ◌∙◌, ap, sym, true}
use Rattle.c_check.specs.Declarations.{Declarations}
use Rattle.c_check.specs.Visible.{ends_first}
use Rattle.c_check.proofs.Visible.{closed-none, closed-without_first, fewer_visible}
use Rattle.c_check.proofs.scopes.declarations.Declarations.close.Goals as goal

ends : (c : goal.In_ok-uncover) → ends_first c.loop-self.self.level c.loop-self.self.visible ≡ true
ends c = sym c.newest_ends.ensures ∙ c.loop-self-test.true

pub loop-self-smaller : goal.loop-self-smaller
loop-self-smaller c = rw c.in_ok-uncover.ensures (fewer_visible c.loop-self.self.level c.loop-self.self.visible (ends c))

pub loop-self-preserved : goal.loop-self-preserved
loop-self-preserved c = rw c.in_ok-uncover.ensures (closed-without_first c.loop-self.self (ends c) ∙ c.loop-self.invariant)

pub returns : goal.returns
returns c =
    let all_left = closed-none c.loop-self.self (sym c.newest_ends.ensures ∙ c.loop-self-test.false) in
    rw c.saturating_sub-self-inside.ensures (ap (λ (names : Declarations). let it : Declarations = record names { level = names.level - 1 } in it) c.self.view_is ∙ (sym all_left ∙ c.loop-self.invariant))
