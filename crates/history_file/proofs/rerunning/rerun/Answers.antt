use Rattle.std.proofs.Common.{List, All, sym, subst}
use Rattle.omp_model.specs.declared.history.Entry.{Entry}
use Rattle.omp_model.specs.State.{Run}
use Rattle.std.specs.Prelude.{IfOk}
use Rattle.history_file.specs.Validity.{IsEntry}
use Rattle.history_file.specs.Verdicts.{IsVerdict}
use Rattle.history_file.proofs.rerunning.rerun.Goals as goal

pub judge-requires-clause-threads : goal.judge-requires-clause-threads
judge-requires-clause-threads c =
    subst (λ (run : Run). All (IsEntry run.threads) c.args.file.now.history) (sym c.in_ok-progress.ensures.run) c.requires.entries

pub returns : goal.returns
returns c = subst (λ (run : Run). IfOk c.judge.result (IsVerdict run c.args.file.now)) c.in_ok-progress.ensures.run c.judge.ensures
