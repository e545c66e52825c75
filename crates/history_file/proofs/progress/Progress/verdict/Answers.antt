use Rattle.std.proofs.Common.{sym, ◌∙◌}
use Rattle.std.proofs.lemmas.Bool.{true≢false}
use Rattle.history_file.proofs.Progressing.{illegal_ended, legal_ended}
use Rattle.history_file.proofs.progress.Progress.verdict.Goals as goal

pub returns-then-ends_as : goal.returns-then-ends_as
returns-then-ends_as c =
    legal_ended c.args.file.now c.args.self.now c.heard_calls.result c.requires (c.ends_as.ensures.0 c.if-ends_as.true) (c.heard_calls.ensures c.args.file.now.history c.requires)

pub returns-else-ends_as : goal.returns-else-ends_as
returns-else-ends_as c = illegal_ended c.args.file.now c.args.self.now c.requires (λ ends. true≢false (sym (c.ends_as.ensures.1 ends) ∙ c.if-ends_as.false))
