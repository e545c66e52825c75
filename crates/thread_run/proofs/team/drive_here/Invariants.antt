use Rattle.std.proofs.Common.{◌≡◌, length}
use Rattle.thread_run.specs.Drivers.{AreKept, IsSlot}
use Rattle.thread_run.proofs.team.drive_here.Given as goal

abbrev pub invariant-loop : goal.invariant-loop
invariant-loop g l = AreKept (IsSlot g.P.ToolPart.stands_for g.P.ToolPart.same g.K.BookName.run) l.fn.slots l.slots

abbrev pub invariant-loop-place : goal.invariant-loop-place
invariant-loop-place g l =
    (l.place-end ≡ length l.slots) × AreKept (IsSlot g.P.ToolPart.stands_for g.P.ToolPart.same g.K.BookName.run) l.fn.slots l.slots
