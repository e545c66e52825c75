use Rattle.omp_board.proofs.Kept.{made_at}
use Rattle.omp_board.proofs.NoCode.{no_calls, no_todo, none_at}
use Rattle.omp_board.proofs.tasks.Tasks.code_of.Goals as goal

pub returns-in-Some-clause-made : goal.returns-in-Some-clause-made
returns-in-Some-clause-made c = made_at c.self.inside.code c.self.inside.list.items c.args.task c.in-Some.control.now c.self.invariant.0.controls (rw c.deref.ensures.value at c.in-Some.ensures)

pub returns-in-None-clause-todo : goal.returns-in-None-clause-todo
returns-in-None-clause-todo c =
    no_todo c.self.inside.code c.self.inside.blanks.none c.self.invariant.1.blank _ (none_at c.self.inside.code c.self.inside.list.items c.self.inside.cells _ c.args.self.now c.self.view_is c.args.task (rw c.deref.ensures.value at c.in-None.ensures))

pub returns-in-None-clause-calls : goal.returns-in-None-clause-calls
returns-in-None-clause-calls c =
    no_calls c.self.inside.code c.self.inside.blanks.none c.self.invariant.1.blank _ (none_at c.self.inside.code c.self.inside.list.items c.self.inside.cells _ c.args.self.now c.self.view_is c.args.task (rw c.deref.ensures.value at c.in-None.ensures))
