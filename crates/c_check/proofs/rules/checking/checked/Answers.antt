use Rattle.std.proofs.Common.{subst}
use Rattle.c_check.specs.Under.{IsUnderWay}
use Rattle.c_check.proofs.UnderWay.{under-found, under-more, under-stands}
use Rattle.c_check.proofs.rules.checking.checked.Goals as goal

pub loop-checker-preserved : goal.loop-checker-preserved
loop-checker-preserved c = record {
  there = c.in_ok-act.ensures.there;
  under_way =
      under-more c.args.tree.now c.loop-checker.checker c.does.new.self c.in-Some.act _
      (subst (λ left. IsUnderWay c.args.tree.now c.loop-checker.checker left) (rw c.in-Some.is at c.in_ok-act.ensures.next) c.loop-checker.invariant.under_way)
      c.in_ok-does.ensures;
}

pub returns-clause-stands : goal.returns-clause-stands
returns-clause-stands c =
    under-stands c.args.tree.now c.loop-checker.checker
    (subst (λ left. IsUnderWay c.args.tree.now c.loop-checker.checker left) (rw c.in_default.is at c.in_ok-act.ensures.next).0 c.loop-checker.invariant.under_way)

pub returns-clause-found : goal.returns-clause-found
returns-clause-found c =
    under-found c.args.tree.now c.loop-checker.checker
    (subst (λ left. IsUnderWay c.args.tree.now c.loop-checker.checker left) (rw c.in_default.is at c.in_ok-act.ensures.next).0 c.loop-checker.invariant.under_way)
