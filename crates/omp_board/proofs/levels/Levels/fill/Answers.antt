use Rattle.std.proofs.Common.{◌++◌, ◌∙◌, ap}
use Rattle.std.specs.Prelude.{reverse}
use Rattle.omp_model.specs.Snapshots.{levels_from, outer_tasks, region_levels}
use Rattle.omp_board.proofs.Filling.{both-stacks}
use Rattle.omp_board.proofs.levels.Levels.fill.Goals as goal

pub returns-clause-regions : goal.returns-clause-regions
returns-clause-regions c =
    let W = c.args.board.now.world in
    let t = c.args.thread in
    let event = c.args.event in
    let outer = c.outer_tasks-outer.ensures.tasks ∙ ap (outer_tasks W) c.lowest.ensures in
    both-stacks W (levels_from W t event t (reverse c.stack.result.now)) (levels_from W t event 0 (reverse c.outer_tasks-outer.result.now)) c.self.inside.regions.items c.push_stack.new.self.regions.items c.push_stack-2.new.self.regions.items c.push_stack.new.self.last c.push_stack-2.new.self.last c.self.invariant.2 c.push_stack.ensures.regions c.push_stack-2.ensures.regions
    ∙ (λ i. region_levels W (levels_from W t event t (c.stack.ensures.tasks i) ++ levels_from W t event 0 (outer i)))
