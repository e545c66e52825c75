use Rattle.std.proofs.Common.{◌<◌, length, refl, ap, ◌∙◌, arith, cond}
use Rattle.omp_model.specs.State.{Region as Seen}
use Rattle.team_parts.specs.Team.{after_section}
use Rattle.omp_board.specs.Regions.{RegionsView, after_section_in}
use Rattle.omp_board.specs.KeepingRegions.{has_member}
use Rattle.omp_board.specs.contracts.regions.Regions.{the_view}
use Rattle.omp_board.proofs.Seeing.{changed}
use Rattle.omp_board.proofs.regions.Regions.next_section.Goals as goal

pub returns-clause-taken : goal.returns-clause-taken
returns-clause-taken c =
    let kept = c.in_ok-get_mut.field-0.now in
    let regions = c.self.inside.list.items in
    let within : c.args.region < length regions = omega (arith, c.in_ok-get_mut.ensures.variant.0 refl) in
    changed (the_view c.self.inside) regions c.args.region kept c.next_section.new.self (λ (seen : Seen). record seen { team = cond (has_member seen.team c.args.member) (after_section seen.team c.args.member) seen.team }) refl within c.in_ok-get_mut.ensures.value c.next_section.ensures.taken
    ∙ ap (λ (view : RegionsView). after_section_in view c.args.region c.args.member) c.self.view_is
