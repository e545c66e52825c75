use Rattle.std.proofs.Common.{◌≡◌, ◌<◌, List, length, refl, ap, ◌∙◌, arith}
use Rattle.omp_model.specs.State.{Region as Seen}
use Rattle.omp_board.specs.Regions.{RegionsView}
use Rattle.omp_board.specs.KeepingRegions.{seen_regions}
use Rattle.omp_board.proofs.Seeing.{unchanged}
use Rattle.omp_board.proofs.regions.Regions.reserve.Goals as goal
use Rattle.omp_board.proofs.regions.Regions.reserve.Goals.{in-Some+in_ok-reserve-2, in_default}

pub returns-clause-kept : goal.returns-clause-kept
returns-clause-kept c =
    let regions = c.reserve.new.self.items in
    let before : seen_regions regions ≡ c.args.self.now.regions = ap seen_regions c.in_ok-reserve.ensures.items ∙ ap (λ (view : RegionsView). view.regions) c.self.view_is in
    let after : seen_regions c.match-get_mut.self-inside.list.items ≡ seen_regions regions =
    elim c.match-get_mut.branch [
      | in-Some+in_ok-reserve-2 w ↦
          let within : c.args.region < length regions = omega (arith, w.in-Some.ensures.variant.0 refl) in
          rw w.self-inside-is (unchanged regions c.args.region w.in-Some.kept.now w.reserve-in-Some.new.self within w.in-Some.ensures.value w.reserve-in-Some.ensures.kept)
      | in_default w ↦ rw w.self-inside-is refl
    ]
    in
    ap (λ (all : List Seen). record { regions = all; room = record { region = c.args.region; meetings = 1; regions = 1 } }) (after ∙ before)
