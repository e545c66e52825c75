use Rattle.std.proofs.Common.{◌≡◌, Some, slice_get, rules}
use Rattle.c_steps.specs.Trying.{item_of}
use Rattle.c_steps.proofs.Showing.{front_shown, same_still}
use Rattle.c_steps.proofs.control.Control.plain_front.Goals as goal

pub returns-in-Next-clause-found : goal.returns-in-Next-clause-found
returns-in-Next-clause-found c =
    let top : Some c.in-Some.frame.now ≡ slice_get c.loop-frame.self.frames 0 = search rules in
    let shows = rw (c.in_ok-plain.was, c.in-Next.is) at c.plain_look.ensures in
    front_shown c.args.code.now c.args.self.now c.loop-frame.self c.in-Some.frame.now c.loop-frame.invariant top (item_of c.in-Next.plain) shows

pub loop-frame-preserved : goal.loop-frame-preserved
loop-frame-preserved c =
    let top : Some c.in-Some.frame.now ≡ slice_get c.loop-frame.self.frames 0 = search rules in
    let same = rw (c.in_ok-plain.was, c.in-Instead.is) at c.plain_look.ensures in
    same_still c.args.code.now c.args.self.now c.loop-frame.self c.in-Some.frame.now c.loop-frame.invariant top c.in-Instead.other same c.replace_top.new.self c.replace_top.ensures
