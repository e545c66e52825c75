use Rattle.std.proofs.Common.{◌<◌, length, refl, ap, ◌∙◌, arith}
use Rattle.omp_model.specs.State.{Region as Seen}
use Rattle.omp_board.specs.Regions.{RegionsView, with_head_in}
use Rattle.omp_board.specs.contracts.regions.Regions.{the_view}
use Rattle.omp_board.proofs.Seeing.{changed}
use Rattle.omp_board.proofs.regions.Regions.set_head.Goals as goal

pub returns : goal.returns
returns c =
    let kept = c.in-Some.kept.now in
    let regions = c.self.inside.list.items in
    let within : c.args.region < length regions = omega (arith, c.in-Some.ensures.variant.0 refl) in
    changed (the_view c.self.inside) regions c.args.region kept (record kept { head = c.args.head }) (λ (seen : Seen). record seen { head = c.args.head }) refl within c.in-Some.ensures.value refl
    ∙ ap (λ (view : RegionsView). with_head_in view c.args.region c.args.head) c.self.view_is
