use Rattle.std.proofs.Common.{refl, reverse}
use Rattle.trace_view.proofs.Pictures.{all_lines, more_lines, no_lines}
use Rattle.trace_view.proofs.dot.put_tasks.Goals as goal

pub loop-identity-init : goal.loop-identity-init
loop-identity-init c = λ events numbers is has. no_lines (reverse events) numbers c.args.text.now.items c.args.text.now.items 1 refl refl

pub loop-identity-preserved : goal.loop-identity-preserved
loop-identity-preserved c = λ events numbers is has.
    more_lines c.args.forest.now c.args.bold.now (reverse events) numbers c.args.text.now.items c.loop-identity.text.items c.put_task.new.text.items
    c.loop-identity.identity _ c.in-Some.task is.holds has (c.in-Some.ensures events is) refl (c.loop-identity.invariant events numbers is has)
    c.in_ok-put_task-in-Some.ensures

pub returns-in-None : goal.returns-in-None
returns-in-None c = λ events numbers is has.
    all_lines c.args.forest.now (reverse events) numbers c.args.text.now.items c.loop-identity.text.items c.loop-identity.identity is.holds
    (c.in-None.ensures events is) (c.loop-identity.invariant events numbers is has)
