use Rattle.std.proofs.Common.{rules}
use Rattle.std.proofs.lemmas.Fn.{filter_same}
use Rattle.history_file.proofs.Progressing.{heard_at_end}
use Rattle.history_file.proofs.progress.Progress.heard_calls.Goals as goal

pub returns : goal.returns
returns c = λ done at.
    rw c.replace.ensures.value
    (heard_at_end c.args.self.now done c.retain.new.self.items at (filter_same _ _ _ (λ x b f' k. search rules) _ _ c.retain.ensures.filtered))
