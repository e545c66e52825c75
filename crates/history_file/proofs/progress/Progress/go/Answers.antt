use Rattle.std.proofs.Common.{ℕ, ◌+◌, sym, ap, ◌∙◌}
use Rattle.omp_model.specs.Turn.{turn}
use Rattle.omp_machine.specs.MachineView.{MachineView, went_of}
use Rattle.history_file.proofs.Progressing.{takes_go}
use Rattle.history_file.proofs.progress.Progress.go.Goals as goal

pub returns : goal.returns
returns c =
    let own = c.args.self.now in
    let same = c.in-Some.ensures.thread in
    let turned : ℕ → MachineView = λ t. record own.machine { state = (turn own.machine.run own.machine.state t).state } in
    takes_go own _ c.args.thread c.in_ok-went.went c.requires.thread (sym c.in-Some.ensures.enabled)
    (c.in_ok-went.ensures.went ∙ ap (went_of own.machine.run own.machine.state) same)
    (c.in_ok-hear.ensures.machine ∙ c.in_ok-went.ensures.turn ∙ ap turned same)
    c.in_ok-hear.ensures.waiting c.in_ok-hear.ensures.calls (ap (λ (n : ℕ). n + 1) c.in_ok-hear.ensures.seq)
