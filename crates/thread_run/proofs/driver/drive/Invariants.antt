use Rattle.std.proofs.Common.{◌≡◌, IfOk}
use Rattle.team_run.specs.Names.{OwesStep, KeepsStep, book_after}
use Rattle.thread_run.specs.Driving.{HasCome, IsDriven}
use Rattle.thread_run.proofs.driver.drive.Given as goal

abbrev pub invariant-loop : goal.invariant-loop
invariant-loop g l =
    (l.pass.thread ≡ l.fn.pass.thread) ×
    IfOk l.came (λ step. OwesStep (book_after g.K.BookName.run l.pass.seen l.pass.ended) l.pass.thread step) ×
    IfOk l.came (λ step. KeepsStep l.pass step) ×
    ((first : g.row.P.Denot) → IsDriven g.P.ToolPart.stands_for g.P.ToolPart.same g.K.BookName.run first l.fn.pass l.fn.part →
    HasCome g.P.ToolPart.stands_for g.P.ToolPart.same g.K.BookName.run first l.pass l.part l.came)
