use Rattle.std.proofs.Common.{◌≡◌, ◌∙◌, List, length, sym, ap}
use Rattle.team_run.proofs.Serving.{written-back}
use Rattle.thread_run.{specs.declared.team.Slot.Slot, specs.Drivers.IsSlot, proofs.Drivers.for-kept}
use Rattle.thread_run.proofs.threads.fn.run_drivers.scope.Goals as goal

pub returns : goal.returns
returns g c =
    let slots = c.start_all-slots.result in
    let value = c.deref_mut.ensures.value in
    let many : length c.drive_here.new.slots ≡ length slots.items = c.drive_here.ensures.as_many ∙ ap (λ (slots : List (Slot g.row.K.Denot g.row.P.Denot)). length slots) value in
    let back = written-back c.drive_here.new.slots slots.items slots.len many (sym slots.ok.0) in
    let all =
    ap (λ (slots : List (Slot g.row.K.Denot g.row.P.Denot)). length slots) back ∙ many ∙ c.start_all-slots.ensures.as_many in record {
      passes = c.finish_all.ensures.passes ∙ all;
      parts = c.finish_all.ensures.parts ∙ all;
      drivers = λ are.
          c.finish_all.ensures.drivers _
          (rw back (for-kept (IsSlot {K = g.row.K.Denot} g.P.ToolPart.stands_for g.P.ToolPart.same g.K.BookName.run) _ slots.items
          c.drive_here.new.slots (c.start_all-slots.ensures.slots are) (rw value at c.drive_here.ensures)));
    }
