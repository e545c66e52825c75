use Rattle.std.proofs.lemmas.Result.{err_from_is_err_and}
use Rattle.thread_run.proofs.Driving.{come-answered, driven-unheard}
use Rattle.thread_run.proofs.driver.serve_and_go.Goals as goal

pub returns-in_err-reply-clause-comes : goal.returns-in_err-reply-clause-comes
returns-in_err-reply-clause-comes g c =
    let failed = err_from_is_err_and c.from_residual.result c.from_residual.ensures.1 in
    λ whose open_now inside.
    rw failed.1 (λ last grows ended.
    driven-unheard g.P.ToolPart.stands_for g.P.ToolPart.same g.K.BookName.run whose c.args.pass.now last c.args.part.now c.callback.new.self _ _ _ c.requires.owes grows ended c.in_err-reply.ensures.memory (g.met.P.ToolPart g.world.𝓛 g.world.𝓜 g.world.𝓡 ((λ s x. x), (λ x. x), (λ x. x), λ x. x)).same_onward c.callback.ensures.kept inside)

pub returns-clause-comes : goal.returns-clause-comes
returns-clause-comes g c = λ whose open_now inside.
    come-answered g.P.ToolPart.stands_for g.P.ToolPart.same g.K.BookName.run whose c.args.pass.now c.answer_and_go.new.pass c.args.part.now c.callback.new.self _ _ _ _ c.answer_and_go.result c.legal.ensures.legal c.legal.ensures.below open_now c.requires.owes c.answer_and_go.ensures.ok c.answer_and_go.ensures.memory c.answer_and_go.ensures.ended
    (λ h stands. rw c.thread.ensures at (c.in_ok-reply.ensures.heard h stands)) (g.met.P.ToolPart g.world.𝓛 g.world.𝓜 g.world.𝓡 ((λ s x. x), (λ x. x), (λ x. x), λ x. x)).same_onward c.callback.ensures.kept inside
