use Rattle.std.proofs.Common.{◌≡◌, ◌≤◌, ◌++◌, List, length, vec_capacity}
use Rattle.std.specs.Vec.Iter.{into_iter_items}
use Rattle.thread_run.specs.Drivers.{AreDrivers, AreFor, IsSlot}
use Rattle.thread_run.proofs.team.finish_all.Given as goal

abbrev pub invariant-loop-slot : goal.invariant-loop-slot
invariant-loop-slot g l =
    (goal.iterator-loop-slot g).can_next l.slot-iterator ×
    (goal.iterator-loop-slot g).is_finite l.slot-iterator ×
    (l.yielded ++ into_iter_items l.slot-iterator ≡ l.fn.slots.items) ×
    (length l.passes.items ≡ length l.yielded) ×
    (length l.parts.items ≡ length l.yielded) ×
    (length l.fn.slots.items ≤ vec_capacity l.passes) ×
    (length l.fn.slots.items ≤ vec_capacity l.parts) ×
    ((first : List g.row.P.Denot) → AreFor (IsSlot g.P.ToolPart.stands_for g.P.ToolPart.same g.K.BookName.run) first l.fn.slots.items →
    AreDrivers g.P.ToolPart.stands_for g.P.ToolPart.same g.K.BookName.run first l.passes.items l.parts.items)
