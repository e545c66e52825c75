use Rattle.std.proofs.Common.{◌∙◌}
use Rattle.thread_run.proofs.Driving.{come-gone}
use Rattle.thread_run.proofs.driver.drive.Goals as goal

pub loop-init : goal.loop-init
loop-init g c = (
  c.go-came.ensures.thread,
  c.go-came.ensures.owes,
  c.go-came.ensures.told,
  λ whose driven.
      come-gone g.P.ToolPart.stands_for g.P.ToolPart.same g.K.BookName.run whose c.args.pass.now c.go-came.new.pass c.args.part.now c.go-came.result c.legal.ensures.below c.go-came.ensures.over c.go-came.ensures.ok c.go-came.ensures.memory c.go-came.ensures.ended driven,
)

pub loop-preserved-in-Ok-Told : goal.loop-preserved-in-Ok-Told
loop-preserved-in-Ok-Told g c = (
  c.serve_and_go.ensures.thread ∙ c.loop.invariant.0,
  c.serve_and_go.ensures.owes,
  c.serve_and_go.ensures.told,
  λ whose driven. let told = rw (c.in-Ok-Told.is, c.in-Ok-Told.field-0-is) at (c.loop.invariant.3 whose driven) in c.serve_and_go.ensures.comes whose told.0 told.1,
)

pub loop-preserved-in-Ok-Quiet : goal.loop-preserved-in-Ok-Quiet
loop-preserved-in-Ok-Quiet g c = (
  c.go.ensures.thread ∙ c.loop.invariant.0,
  c.go.ensures.owes,
  c.go.ensures.told,
  λ whose driven.
      come-gone g.P.ToolPart.stands_for g.P.ToolPart.same g.K.BookName.run whose c.loop.pass c.go.new.pass c.loop.part c.go.result (rw c.loop.invariant.0 c.legal.ensures.below) c.go.ensures.over c.go.ensures.ok c.go.ensures.memory c.go.ensures.ended (rw (c.in-Ok-Quiet.is, c.in-Ok-Quiet.field-0-is) at (c.loop.invariant.3 whose driven)),
)

pub loop-preserved : goal.loop-preserved
loop-preserved g c = (
  c.go-in-Ok-NotYet.ensures.thread ∙ c.loop.invariant.0,
  c.go-in-Ok-NotYet.ensures.owes,
  c.go-in-Ok-NotYet.ensures.told,
  λ whose driven.
      come-gone g.P.ToolPart.stands_for g.P.ToolPart.same g.K.BookName.run whose c.loop.pass c.go-in-Ok-NotYet.new.pass c.loop.part c.go-in-Ok-NotYet.result (rw c.loop.invariant.0 c.legal.ensures.below) c.go-in-Ok-NotYet.ensures.over c.go-in-Ok-NotYet.ensures.ok c.go-in-Ok-NotYet.ensures.memory c.go-in-Ok-NotYet.ensures.ended (rw (c.in-Ok-NotYet.is, c.in-Ok-NotYet.field-0-is) at (c.loop.invariant.3 whose driven)),
)
