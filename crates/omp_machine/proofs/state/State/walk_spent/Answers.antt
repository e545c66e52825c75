use Rattle.std.proofs.Common.{sym, ◌∙◌, suc}
use Rattle.omp_machine.proofs.Walking.{walk-at_rest, walk-spent}
use Rattle.omp_machine.proofs.state.State.walk_spent.Goals as goal

pub returns-in-Steps-clause-walk : goal.returns-in-Steps-clause-walk
returns-in-Steps-clause-walk c = λ run left spent. walk-spent run left c.args.made c.args.self.now.state c.args.thread (sym c.arrival.ensures ∙ c.in-Steps.is) spent

pub returns-in_default : goal.returns-in_default
returns-in_default c = record {
  walk = λ run left spent. walk-at_rest run (suc left) c.args.made c.args.self.now.state c.args.thread (λ next. c.in_default.not-Steps (c.arrival.ensures ∙ next));
  next = c.arrival.ensures;
}
