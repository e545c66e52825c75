use Rattle.std.proofs.Common.{refl, reverse}
use Rattle.trace_view.proofs.Pictures.{drawn}
use Rattle.trace_view.proofs.dot.picture.Goals as goal

pub returns : goal.returns
returns c = λ events numbers is has.
    drawn (reverse events) numbers c.work.result c.args.span c.in_ok-text.text.items c.put_tasks.new.text.items _ _ c.in_ok-text.ensures
    (c.work.ensures events is) (c.in_ok-put_tasks.ensures events numbers is has) c.in_ok-extend_from_slice.ensures.items refl
