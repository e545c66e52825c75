use Rattle.thread_run.proofs.Driving.{driven-answered, driven-unheard}
use Rattle.thread_run.proofs.driver.serve.Goals as goal

pub returns-in-Ok-clause-driven : goal.returns-in-Ok-clause-driven
returns-in-Ok-clause-driven g c = λ whose inside.
    driven-answered g.P.ToolPart.stands_for g.P.ToolPart.same g.K.BookName.run whose c.args.pass.now c.answer.new.pass c.args.part.now c.callback.new.self _ _ _ c.in-Ok.reply c.legal.ensures.legal c.legal.ensures.below c.requires.owes c.answer.ensures.seen
    (λ h stands. rw c.thread.ensures at (c.in-Ok.ensures.heard h stands)) (g.met.P.ToolPart g.world.𝓛 g.world.𝓜 g.world.𝓡 ((λ s x. x), (λ x. x), (λ x. x), λ x. x)).same_onward c.callback.ensures.kept inside

pub returns-in-Err-clause-driven : goal.returns-in-Err-clause-driven
returns-in-Err-clause-driven g c = λ whose inside.
    driven-unheard g.P.ToolPart.stands_for g.P.ToolPart.same g.K.BookName.run whose c.args.pass.now c.end_memory.new.pass c.args.part.now c.callback.new.self _ _ _ c.requires.owes c.end_memory.ensures.seen c.end_memory.ensures.ended c.in-Err.ensures.memory (g.met.P.ToolPart g.world.𝓛 g.world.𝓜 g.world.𝓡 ((λ s x. x), (λ x. x), (λ x. x), λ x. x)).same_onward c.callback.ensures.kept inside
