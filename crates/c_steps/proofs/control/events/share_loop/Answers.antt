use Rattle.std.proofs.Common.{FitsSigned, w32, sym, subst, rules}
use Rattle.std.proofs.lemmas.Int.{to_z-of_z}
use Rattle.c_steps.specs.Ready.{AreLoopNumbers, AreWorkNumbers}
use Rattle.c_steps.proofs.Iterating.{are_loop_numbers, cell_of_i32}
use Rattle.c_steps.proofs.control.events.share_loop.Goals as goal

pub returns : goal.returns
returns c =
    let parts = c.args.parts in
    let start : FitsSigned w32 c.args.start = c.ranges.start in
    let end : FitsSigned w32 c.args.end = c.ranges.end in
    let step : FitsSigned w32 c.args.parts.step = search rules in
    let work = simp to_z-of_z at c.loop_work-work.ensures in
    let count = simp to_z-of_z at c.iteration_count-count.ensures in
    let numbers = are_loop_numbers parts.comparison c.args.start c.args.end parts.step (cell_of_i32 c.args.start start) (cell_of_i32 c.args.end end) c.requires.goes_on in
    record {
      step = search rules;
      unchanged = search rules;
      numbers = (c.args.node.there, subst AreWorkNumbers (sym work) (subst (λ count. AreLoopNumbers c.args.start count parts.step) (sym count) numbers));
    }
