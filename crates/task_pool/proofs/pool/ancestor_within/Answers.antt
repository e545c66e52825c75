use Rattle.std.proofs.Common.{sym, subst}
use Rattle.task_pool.specs.Links.{tasks_of}
use Rattle.task_pool.proofs.Ancestors.{Walks, walks-up, walks-end}
use Rattle.task_pool.proofs.pool.ancestor_within.Goals as goal

pub loop-ancestor-preserved : goal.loop-ancestor-preserved
loop-ancestor-preserved c = subst (Walks (tasks_of c.args.chain.now) c.args.task c.args.bound) (sym c.parent_of-ancestor.ensures)
    (walks-up (tasks_of c.args.chain.now) c.args.task c.args.bound c.loop-ancestor.ancestor c.requires.parents c.loop-ancestor-test.true c.loop-ancestor.invariant)

pub returns : goal.returns
returns c = walks-end (tasks_of c.args.chain.now) c.args.task c.args.bound c.loop-ancestor.ancestor c.requires.parents c.loop-ancestor-test.false c.loop-ancestor.invariant
