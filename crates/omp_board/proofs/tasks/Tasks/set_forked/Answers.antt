use Rattle.std.proofs.Common.{refl}
use Rattle.omp_model.specs.State.{Task as Seen}
use Rattle.omp_board.specs.Keeping.{kept_nothing}
use Rattle.omp_board.proofs.Seen.{wrote}
use Rattle.omp_board.proofs.tasks.Tasks.set_forked.Goals as goal

pub returns : goal.returns
returns c =
    wrote c.self.inside.code c.self.inside.list.items c.self.inside.cells _ _ c.self.view_is c.args.task c.in-Some.kept.now (c.in-Some.ensures.item.3.1 kept_nothing)
    (record c.in-Some.kept.now { forked = c.args.region }) (λ (task : Seen). record task { forked = c.args.region }) refl
