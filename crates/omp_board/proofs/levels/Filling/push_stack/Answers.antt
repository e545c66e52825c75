use Rattle.std.proofs.Common.{◌≡◌, ◌++◌, ◌∷◌, [], ◌∙◌, List, sym, ap, arith}
use Rattle.ompt_calls.specs.declared.snapshot.RegionLevel.{RegionLevel}
use Rattle.omp_board.proofs.Filling.{regions-more, regions-none, stack-more, stack-none}
use Rattle.omp_board.proofs.levels.Filling.push_stack.Goals as goal

pub loop-below-preserved : goal.loop-below-preserved
loop-below-preserved c =
    let pushed : c.push.new.self.items ≡ c.loop-below.self.tasks.items ++ c.task_level-level.result ∷ [] = rw c.unwrap.ensures at c.push.ensures.items in
    let longer = rw c.unwrap.ensures at c.push.ensures.len in
    record {
      below = omega arith;
      items = stack-more c.args.board.now.world c.args.thread c.args.event c.args.owner c.args.stack.now c.loop-below.below 0 c.loop-below.self.tasks.items c.push.new.self.items c.task_level-level.result c.loop-below-test.true c.loop-below.invariant.below c.task_level-level.ensures pushed ∙ c.loop-below.invariant.items;
      regions = λ rest. regions-more c.args.board.now.world c.args.thread c.args.event c.args.owner c.args.stack.now c.loop-below.below 0 c.loop-below.self.last c.loop-below.self.regions.items c.push_region.new.levels.items c.task_level-level.result c.loop-below-test.true c.loop-below.invariant.below c.task_level-level.ensures c.push_region.ensures.items rest ∙ c.loop-below.invariant.regions rest;
      len = omega arith;
      few = omega arith;
      capacity = omega arith;
      enough = omega arith;
    }

pub returns-clause-items : goal.returns-clause-items
returns-clause-items c =
    sym (stack-none c.args.board.now.world c.args.thread c.args.event c.args.owner c.args.stack.now c.loop-below.below c.loop-below.self.tasks.items c.loop-below-test.false) ∙ c.loop-below.invariant.items

pub returns-clause-regions : goal.returns-clause-regions
returns-clause-regions c rest =
    ap (λ (more : List RegionLevel). c.loop-below.self.regions.items ++ more) (sym (regions-none c.args.board.now.world c.args.thread c.args.event c.args.owner c.args.stack.now c.loop-below.below c.loop-below.self.last rest c.loop-below-test.false))
    ∙ c.loop-below.invariant.regions rest
