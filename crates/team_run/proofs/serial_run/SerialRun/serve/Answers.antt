use Rattle.std.proofs.Common.{refl}
use Rattle.std.proofs.lemmas.List.{length-set}
use Rattle.ompt_calls.specs.Item.{item_of}
use Rattle.team_run.proofs.Serving.{same-at, told-at}
use Rattle.team_run.proofs.serial_run.SerialRun.serve.Goals as goal

pub returns-clause-answers : goal.returns-clause-answers
returns-clause-answers g c =
    let parts = c.args.self.now.parts.items in
    let t = c.args.thread in
    let reply = c.in_ok-reply.reply in record {
      reply = reply;
      history_is = rw (c.reuse.ensures, c.answer.ensures) refl;
      as_many = length-set parts t c.callback.new.self;
      each = told-at parts t c.index_mut.result.now c.callback.new.self c.index_mut.ensures.value c.requires.part g.P.ToolPart.stands_for (item_of c.args.seq t c.args.call.now c.args.snapshot reply) c.in_ok-reply.ensures.heard;
    }

pub returns-in_err-reply-clause-same : goal.returns-in_err-reply-clause-same
returns-in_err-reply-clause-same g c =
    same-at c.args.self.now.parts.items c.args.thread c.index_mut.result.now c.callback.new.self c.index_mut.ensures.value c.requires.part g.P.ToolPart.same (g.met.P.ToolPart g.world.𝓛 g.world.𝓜 g.world.𝓡 ((λ s x. x), (λ x. x), (λ x. x), λ x. x)).same_itself c.callback.ensures.kept

pub returns-clause-same : goal.returns-clause-same
returns-clause-same g c =
    same-at c.args.self.now.parts.items c.args.thread c.index_mut.result.now c.callback.new.self c.index_mut.ensures.value c.requires.part g.P.ToolPart.same (g.met.P.ToolPart g.world.𝓛 g.world.𝓜 g.world.𝓡 ((λ s x. x), (λ x. x), (λ x. x), λ x. x)).same_itself c.callback.ensures.kept
