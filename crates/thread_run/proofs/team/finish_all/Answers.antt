use Rattle.std.proofs.Common.{rules, ◌∷◌, [], length, length-append, ap, List, arith}
use Rattle.step_book.specs.Sharing.{PassView}
use Rattle.thread_run.{specs.Drivers.IsSlot, proofs.Drivers.finish-more, proofs.Drivers.whole-next}
use Rattle.thread_run.proofs.team.finish_all.Goals as goal

pub loop-slot-preserved : goal.loop-slot-preserved
loop-slot-preserved g c =
    let kept = c.loop-slot.invariant in
    let next = c.in-Some.ensures.steps.0 in
    let yields = length-append c.loop-slot.yielded (c.in-Some.slot ∷ []) in (
      tt,
      tt,
      whole-next c.args.slots.items c.loop-slot.yielded _ _ c.in-Some.slot kept.2 next,
      omega (arith, ap (λ (passes : List PassView). length passes) c.push_reserved.ensures.items, length-append c.loop-slot.passes.items (c.finish-pass.result.0 ∷ []), kept.3, yields),
      omega (arith, ap (λ (parts : List g.row.P.Denot). length parts) c.push_reserved-in-loop-slot.ensures.items, length-append c.loop-slot.parts.items (c.finish-pass.result.1 ∷ []), kept.4, yields),
      search rules,
      search rules,
      λ first are.
          rw (c.push_reserved.ensures.items, c.push_reserved-in-loop-slot.ensures.items)
          (finish-more c.args.slots.items c.loop-slot.yielded _ _ c.in-Some.slot kept.2 next g.P.ToolPart.stands_for g.P.ToolPart.same g.K.BookName.run
          (IsSlot {K = g.row.K.Denot} g.P.ToolPart.stands_for g.P.ToolPart.same g.K.BookName.run) first c.loop-slot.passes.items c.loop-slot.parts.items c.finish-pass.result.0 c.finish-pass.result.1 kept.3 kept.4 are (kept.7 first are) c.finish-pass.ensures),
    )
