use Rattle.std.proofs.Common.{◌++◌, sym, ap, ◌∙◌, arith}
use Rattle.c_check.specs.declared.acts.walk.Task.{Task}
use Rattle.c_check.specs.Tasks.{left_of, told_by}
use Rattle.c_check.proofs.Putting.{none_left, taken_tells}
use Rattle.c_check.proofs.acts.walk.Walk.next.Goals as goal

pub returns-in-Tell-clause-next : goal.returns-in-Tell-clause-next
returns-in-Tell-clause-next c =
    let trees = c.args.tree.now.trees in
    sym c.loop-task.invariant.left
    ∙ taken_tells trees c.loop-task.self (record { tasks = c.pop.new.self }) c.in-Some.task c.in-Some.ensures.items
    ∙ ap (λ (one : Task). told_by trees one ++ left_of trees (record { tasks = c.pop.new.self })) c.in-Tell.is

pub loop-task-preserved : goal.loop-task-preserved
loop-task-preserved c = record {
  left = c.in_ok-begin.ensures.tells ∙ sym (taken_tells c.args.tree.now.trees c.loop-task.self (record { tasks = c.pop.new.self }) c.in-Some.task c.in-Some.ensures.items) ∙ c.loop-task.invariant.left;
  there = c.in_ok-begin.ensures.there;
}

pub returns-clause-next : goal.returns-clause-next
returns-clause-next c =
    let trees = c.args.tree.now.trees in
    (sym c.loop-task.invariant.left ∙ none_left trees c.loop-task.self (omega (arith, c.in_default.ensures.cases.0)), none_left trees (record { tasks = c.pop.new.self }) (omega (arith, c.in_default.ensures.cases.1)))
