use Rattle.std.proofs.Common.{◌<◌, length, refl, ap, ◌∙◌, arith}
use Rattle.omp_model.specs.State.{Region as Seen}
use Rattle.team_parts.specs.Team.{with_begun}
use Rattle.omp_board.specs.Regions.{RegionsView, team_in, with_team_in}
use Rattle.omp_board.specs.contracts.regions.Regions.{the_view}
use Rattle.omp_board.proofs.Seeing.{changed}
use Rattle.omp_board.proofs.regions.Regions.arrive.Goals as goal

pub returns : goal.returns
returns c =
    let kept = c.in-Some.kept.now in
    let regions = c.self.inside.list.items in
    let within : c.args.region < length regions = omega (arith, c.in-Some.ensures.variant.0 refl) in
    changed (the_view c.self.inside) regions c.args.region kept c.arrive.new.self (λ (seen : Seen). record seen { team = with_begun seen.team c.args.member }) refl within c.in-Some.ensures.value c.arrive.ensures.begun
    ∙ ap (λ (view : RegionsView). with_team_in view c.args.region (with_begun (team_in view c.args.region) c.args.member)) c.self.view_is
