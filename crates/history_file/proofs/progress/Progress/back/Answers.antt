use Rattle.std.proofs.Common.{◌≡◌, true, None, is_some, slice_set, refl, ap}
use Rattle.omp_model.specs.State.{pending_at}
use Rattle.history_file.proofs.Progressing.{takes_back}
use Rattle.history_file.proofs.progress.Progress.back.Goals as goal

pub returns : goal.returns
returns c =
    let h = c.if-not-pending.false in
    let inside : is_some (pending_at c.args.self.now.machine.state c.args.thread) ≡ true = cc in
    takes_back c.args.self.now _ c.args.thread c.requires.thread inside c.back.ensures (ap (λ k. slice_set c.args.self.now.waiting k None) c.from.ensures) refl refl
