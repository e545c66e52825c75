use Rattle.std.proofs.Common.{◌≡◌, ◌++◌, ◌∷◌, [], refl, ap, sym, ◌∙◌}
use Rattle.std.specs.Prelude.{Some}
use Rattle.omp_model.specs.State.{fresh_region}
use Rattle.omp_board.specs.Regions.{RegionsView}
use Rattle.omp_board.specs.contracts.regions.Regions.{the_view}
use Rattle.omp_board.proofs.Seeing.{added, fitted}
use Rattle.omp_board.proofs.regions.Regions.add.Goals as goal

abbrev without_regions : RegionsView → RegionsView
without_regions view = record view { room = record view.room { regions = 0 } }

pub returns : goal.returns
returns c =
    let regions = c.self.inside.list.items in
    let pushed : c.push.new.self.items ≡ regions ++ record { head = c.fresh_head.result; team = Some c.fit.new.self } ∷ [] = c.push.ensures.items ∙ rw c.unwrap.ensures refl in
    let fresh = rw (sym c.take.ensures.value ∙ c.unwrap-team.ensures) at c.self.invariant.fresh_team.1 in
    let made = fitted c.unwrap-team.result c.fit.new.self c.args.size fresh c.requires.few (c.fit.ensures ∙ rw c.from.ensures refl) in
    added (without_regions (the_view c.self.inside)) regions c.push.new.self.items (record { head = c.fresh_head.result; team = Some c.fit.new.self }) (fresh_region c.args.task c.args.size) refl pushed (rw (c.fresh_head.ensures, made) refl)
    ∙ ap (λ (view : RegionsView). record (without_regions view) { regions = view.regions ++ fresh_region c.args.task c.args.size ∷ [] }) c.self.view_is
