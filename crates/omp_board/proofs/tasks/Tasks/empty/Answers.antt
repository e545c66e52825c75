use Rattle.std.proofs.Common.{refl, ◌∙◌}
use Rattle.c_model.specs.Begin.{blank_task}
use Rattle.omp_model.specs.State.{Task as Seen}
use Rattle.omp_board.specs.Keeping.{kept_nothing, seen_task}
use Rattle.omp_board.specs.Tasks.{code_of}
use Rattle.omp_board.proofs.Kept.{kept_blank}
use Rattle.omp_board.proofs.Seen.{wrote}
use Rattle.omp_board.proofs.tasks.Tasks.empty.Goals as goal

pub invariant_of-self-2 : goal.invariant_of-self-2
invariant_of-self-2 c =
    (kept_blank c.self.inside.code c.self.inside.list.items _ c.self.inside.blanks.spare.items _ c.self.invariant.0 c.args.task _ c.keep_blank.new.blanks.items c.take.ensures.after c.keep_blank.ensures.blanks c.keep_blank.ensures.more, c.self.invariant.1)

pub returns : goal.returns
returns c =
    wrote c.self.inside.code c.self.inside.list.items c.self.inside.cells _ _ c.self.view_is c.args.task c.in-Some.kept.now (c.in-Some.ensures.item.3.1 kept_nothing)
    (record c.in-Some.kept.now { control = c.take.new.self }) (λ (task : Seen). record task { code = blank_task })
    (λ i. record (seen_task c.self.inside.code c.in-Some.kept.now) { code = code_of c.self.inside.code (c.take.ensures.after i) })
