use Rattle.std.proofs.Common.{◌<◌, cond, length, refl, ap, ◌∙◌, arith}
use Rattle.omp_model.specs.State.{Region as Seen}
use Rattle.team_parts.specs.Team.{after_meeting}
use Rattle.omp_board.specs.Regions.{RegionsView, is_member_in, team_in, with_team_in}
use Rattle.omp_board.specs.KeepingRegions.{has_member}
use Rattle.omp_board.specs.contracts.regions.Regions.{the_view}
use Rattle.omp_board.proofs.Seeing.{changed, only-if}
use Rattle.omp_board.proofs.regions.Regions.meet.Goals as goal

abbrev with_no_meeting : RegionsView → RegionsView
with_no_meeting view = record view { room = record view.room { meetings = 0 } }

pub returns : goal.returns
returns c =
    let r = c.args.region in
    let i = c.args.member in
    let kept = c.in-Some.kept.now in
    let regions = c.self.inside.list.items in
    let within : r < length regions = omega (arith, c.in-Some.ensures.variant.0 refl) in
    changed (with_no_meeting (the_view c.self.inside)) regions r kept c.meet.new.self
    (λ (seen : Seen). record seen { team = cond (has_member seen.team i) (after_meeting seen.team i c.args.what) seen.team })
    refl within c.in-Some.ensures.value c.meet.ensures
    ∙ ap (λ (view : RegionsView). with_no_meeting (with_team_in view r (cond (is_member_in view r i) (after_meeting (team_in view r) i c.args.what) (team_in view r)))) c.self.view_is
    ∙ ap (λ (view : RegionsView). record view { room = record c.args.self.now.room { meetings = 0 } }) (only-if c.args.self.now r (is_member_in c.args.self.now r i) (after_meeting (team_in c.args.self.now r) i c.args.what))
