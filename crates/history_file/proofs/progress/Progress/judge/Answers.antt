use Rattle.std.proofs.Common.{List, All, sym, subst, ap, ◌∙◌}
use Rattle.omp_model.specs.declared.history.Entry.{Entry}
use Rattle.omp_model.specs.State.{Run}
use Rattle.history_file.specs.declared.verdict.Verdict.TheVariants as verdict
use Rattle.history_file.specs.Progressing.{Goes, Stops, IsAt}
use Rattle.history_file.specs.Verdicts.{IsVerdict}
use Rattle.history_file.proofs.Progressing.{illegal_stopped}
use Rattle.history_file.proofs.progress.Progress.judge.Goals as goal

pub returns-else-branch : goal.returns-else-branch
returns-else-branch c =
    let file = c.args.file.now in
    let after = c.take_all.new.self in
    let stops = subst (Goes c.as_slice.result.now after) c.if-branch.false c.in_ok-take_all.ensures.goes in
    let illegal = illegal_stopped file after (subst (λ (history : List Entry). Stops history after) c.as_slice.ensures stops) in
    subst (λ (run : Run). IsVerdict run file (verdict.Illegal after.seq)) c.in_ok-take_all.ensures.run illegal
