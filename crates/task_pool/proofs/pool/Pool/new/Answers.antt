use Rattle.std.proofs.Common.{sym, ap, subst}
use Rattle.task_pool.specs.Chain.{ChainView}
use Rattle.task_pool.specs.Links.{follow, pool_view, rings_of, AreLinked}
use Rattle.task_pool.proofs.Adding.{linked-none}
use Rattle.task_pool.proofs.pool.Pool.new.Goals as goal

pub invariant_of-result : goal.invariant_of-result
invariant_of-result c = subst (λ (C : ChainView). AreLinked (rings_of C)) (sym c.in_ok-chain.ensures) linked-none

pub returns : goal.returns
unfolding follow
returns c = ap pool_view c.in_ok-chain.ensures
