use Rattle.std.proofs.Common.{◌∷◌, [], ◌∙◌, length, length-append, ap, arith}
use Rattle.omp_board.proofs.Filling.{down-here, down-past, down-none}
use Rattle.omp_board.proofs.levels.up_to.Goals as goal

pub loop-top-preserved : goal.loop-top-preserved
loop-top-preserved c =
    let is = c.in-Some.ensures.cases.0 in
    record {
      sought = down-past c.loop-top.lowest.now c.in-Some.below.now c.in-Some.top.now c.args.task is c.if-top-task.false ∙ c.loop-top.invariant.sought;
      few = omega (arith, c.loop-top.invariant.few, ap length is, length-append c.in-Some.below.now (c.in-Some.top.now ∷ []));
    }

pub returns-then-top-task-clause-tasks : goal.returns-then-top-task-clause-tasks
returns-then-top-task-clause-tasks c =
    down-here c.loop-top.lowest.now c.in-Some.below.now c.in-Some.top.now c.args.task c.in-Some.ensures.cases.0 c.if-top-task.true ∙ c.loop-top.invariant.sought

pub returns-clause-tasks : goal.returns-clause-tasks
returns-clause-tasks c = down-none c.loop-top.lowest.now c.args.task c.in_default.ensures.cases ∙ c.loop-top.invariant.sought
