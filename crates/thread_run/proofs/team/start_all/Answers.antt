use Rattle.std.proofs.Common.{◌≡◌, rules, ◌+◌, ◌++◌, ◌∷◌, [], ◌∙◌, ℕ, drop, length, length-append, sym, ap, List, arith}
use Rattle.thread_run.{specs.declared.team.Slot.Slot, specs.Drivers.IsDriver, specs.Drivers.IsSlot, proofs.Drivers.driver-next, proofs.Drivers.for-more, proofs.Drivers.rest-next, proofs.Drivers.whole-next, proofs.team.start_all.Goals.then-place-eq0, proofs.team.start_all.Goals.else-place-eq0}
use Rattle.thread_run.proofs.team.start_all.Goals as goal

pub loop-pass-preserved : goal.loop-pass-preserved
loop-pass-preserved g c =
    let kept = c.loop-pass.invariant in
    let passes = c.args.passes.items in
    let parts = c.args.parts.items in
    let yielded = c.loop-pass.yielded in
    let pass = c.in-Some.pass in
    let part = c.in-Some-next.part in
    let slots = c.loop-pass.slots.items in
    let slot = c.if-place-eq0.slot in
    let next = c.in-Some.ensures.steps.0 in
    let rest = rest-next parts _ _ (length yielded) part kept.3 c.in-Some-next.ensures.cases.0 in
    let longer : length (yielded ++ pass ∷ []) ≡ length yielded + 1 = length-append yielded (pass ∷ []) in
    let goes : (t : ℕ) (whose : g.row.P.Denot) → IsDriver g.P.ToolPart.stands_for g.P.ToolPart.same g.K.BookName.run t whose pass part → IsSlot {K = g.row.K.Denot} g.P.ToolPart.stands_for g.P.ToolPart.same g.K.BookName.run t whose slot = λ t whose driver. elim c.if-place-eq0.branch [
      | then-place-eq0 w ↦ rw w.slot-is driver
      | else-place-eq0 w ↦ rw w.slot-is (w.start-slot.ensures t whose driver)
    ] in (
      tt,
      tt,
      whole-next passes yielded _ _ pass kept.2 next,
      rest.0 ∙ ap (λ n. drop n parts) (sym longer),
      omega (arith, ap (λ (slots : List (Slot g.row.K.Denot g.row.P.Denot)). length slots) c.push_reserved.ensures.items, length-append slots (slot ∷ []), kept.4, longer),
      search rules,
      λ are.
          rw c.push_reserved.ensures.items
          (for-more (IsSlot {K = g.row.K.Denot} g.P.ToolPart.stands_for g.P.ToolPart.same g.K.BookName.run) parts slots slot (kept.6 are)
          (λ whose. goes (length slots) _ (driver-next g.P.ToolPart.stands_for g.P.ToolPart.same g.K.BookName.run passes yielded _ _ pass kept.2 next parts part (length slots) kept.4 rest.1 are whose))),
    )
