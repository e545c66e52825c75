use Rattle.std.proofs.Common.{◌≡◌, ◌≤◌, ◌++◌, drop, length, vec_capacity}
use Rattle.std.specs.Vec.Iter.{into_iter_items}
use Rattle.thread_run.specs.Drivers.{AreDrivers, AreFor, IsSlot}
use Rattle.thread_run.proofs.team.start_all.Given as goal

abbrev pub invariant-loop-pass : goal.invariant-loop-pass
invariant-loop-pass g l =
    (goal.iterator-loop-pass g).can_next l.pass-iterator ×
    (goal.iterator-loop-pass g).is_finite l.pass-iterator ×
    (l.yielded ++ into_iter_items l.pass-iterator ≡ l.fn.passes.items) ×
    (into_iter_items l.parts ≡ drop (length l.yielded) l.fn.parts.items) ×
    (length l.slots.items ≡ length l.yielded) ×
    (length l.fn.passes.items ≤ vec_capacity l.slots) ×
    (AreDrivers g.P.ToolPart.stands_for g.P.ToolPart.same g.K.BookName.run l.fn.parts.items l.fn.passes.items l.fn.parts.items →
    AreFor (IsSlot g.P.ToolPart.stands_for g.P.ToolPart.same g.K.BookName.run) l.fn.parts.items l.slots.items)
