use Rattle.std.proofs.Common.{IfOk, ap, sym, subst}
use Rattle.omp_model.specs.declared.history.Entry.{Entry}
use Rattle.omp_model.specs.declared.history.What.{What}
use Rattle.history_file.specs.RerunProgress.{entry_of}
use Rattle.history_file.specs.Progressing.{Steps}
use Rattle.history_file.proofs.progress.Progress.step.Goals as goal

pub returns-in-Go : goal.returns-in-Go
returns-in-Go c =
    subst (λ (e : Entry). IfOk c.go.result (Steps c.args.self.now e c.go.new.self)) (ap (λ (what : What). entry_of c.args.entry.thread what) (sym c.in-Go.is)) c.go.ensures

pub returns-in-Put : goal.returns-in-Put
returns-in-Put c =
    subst (λ (e : Entry). Steps c.args.self.now e c.put.new.self c.put.result) (ap (λ (what : What). entry_of c.args.entry.thread what) (sym c.in-Put.is)) c.put.ensures

pub returns-in-Back : goal.returns-in-Back
returns-in-Back c =
    subst (λ (e : Entry). Steps c.args.self.now e c.back.new.self c.back.result) (ap (λ (what : What). entry_of c.args.entry.thread what) (sym c.in-Back.is)) c.back.ensures
