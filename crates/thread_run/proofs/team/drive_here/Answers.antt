use Rattle.std.proofs.Common.{rules, ◌<◌, length, arith}
use Rattle.std.proofs.lemmas.List.{length-set}
use Rattle.thread_run.{specs.Drivers.IsSlot, proofs.Drivers.kept-set}
use Rattle.thread_run.proofs.team.drive_here.Goals as goal

pub loop-place-preserved : goal.loop-place-preserved
loop-place-preserved g c =
    let kept = c.loop-place.invariant in
    let within : c.loop-place.place < length c.loop-place.slots = search rules in (
      omega (arith, kept.0, length-set c.loop-place.slots c.loop-place.place c.visit_here.new.slot),
      kept-set (IsSlot {K = g.row.K.Denot} g.P.ToolPart.stands_for g.P.ToolPart.same g.K.BookName.run) c.args.slots.now c.loop-place.slots
          c.loop-place.place c.index-slots-place.result c.visit_here.new.slot kept.1 within c.visit_here.ensures,
    )
