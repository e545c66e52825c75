use Rattle.std.proofs.Common.{◌≡◌, true, false, Some, slice_get, rules}
use Rattle.c_model.specs.Step.{skips_masked}
use Rattle.c_steps.specs.Items.{item_at}
use Rattle.c_steps.proofs.Settling.{front_top, instead_top, moved, over_top, past_top, settled_at_front}
use Rattle.c_steps.proofs.control.Control.settle.Goals as goal

-- src/control/settling.rt:27:9
pub loop-frame-smaller-in-Over : goal.loop-frame-smaller-in-Over
loop-frame-smaller-in-Over c =
    let top : Some c.in-Some.frame.now ≡ slice_get c.loop-frame.self.frames 0 = search rules in
    (moved _ _ _ _ _ _ c.loop-frame.invariant.rest c.drop_top.ensures (over_top c.args.code.now c.args.view _ _ _ c.loop-frame.invariant.so top c.in-Over.ensures)).less

-- src/control/settling.rt:27:9
pub loop-frame-preserved-in-Over : goal.loop-frame-preserved-in-Over
loop-frame-preserved-in-Over c =
    let top : Some c.in-Some.frame.now ≡ slice_get c.loop-frame.self.frames 0 = search rules in
    let next = moved _ _ _ _ _ _ c.loop-frame.invariant.rest c.drop_top.ensures (over_top c.args.code.now c.args.view _ _ _ c.loop-frame.invariant.so top c.in-Over.ensures) in
    record { so = next.so; rest = next.rest }

-- src/control/settling.rt:27:9
pub loop-frame-smaller-in-Instead : goal.loop-frame-smaller-in-Instead
loop-frame-smaller-in-Instead c =
    let top : Some c.in-Some.frame.now ≡ slice_get c.loop-frame.self.frames 0 = search rules in
    (moved _ _ _ _ _ _ c.loop-frame.invariant.rest c.replace_top.ensures (instead_top c.args.code.now c.args.view _ _ _ c.loop-frame.invariant.so top _ c.in-Instead.ensures)).less

-- src/control/settling.rt:34:25
pub returns-then-not-skips_masked-clause-task : goal.returns-then-not-skips_masked-clause-task
returns-then-not-skips_masked-clause-task c =
    let top : Some c.in-Some.frame.now ≡ slice_get c.loop-frame.self.frames 0 = search rules in
    let stays : skips_masked (item_at c.args.code.now c.in-Found.item) c.args.view ≡ false = search rules in
    let front = front_top c.args.code.now c.args.view _ _ _ c.loop-frame.invariant.so top c.in-Found.item c.in-Found.ensures in
    settled_at_front c.args.code.now c.args.view _ _ c.in-Found.item c.loop-frame.invariant.rest c.loop-frame.invariant.so front stays

-- src/control/settling.rt:34:25
pub returns-then-not-skips_masked-clause-found :
    goal.returns-then-not-skips_masked-clause-found
returns-then-not-skips_masked-clause-found c =
    let top : Some c.in-Some.frame.now ≡ slice_get c.loop-frame.self.frames 0 = search rules in
    front_top c.args.code.now c.args.view _ _ _ c.loop-frame.invariant.so top c.in-Found.item c.in-Found.ensures

-- src/control/settling.rt:36:21
pub begin-requires : goal.begin-requires
begin-requires c =
    let top : Some c.in-Some.frame.now ≡ slice_get c.loop-frame.self.frames 0 = search rules in
    (front_top c.args.code.now c.args.view _ _ _ c.loop-frame.invariant.so top c.in-Found.item c.in-Found.ensures).can_begin

-- src/control/settling.rt:27:9
pub loop-frame-preserved : goal.loop-frame-preserved
loop-frame-preserved c =
    let top : Some c.in-Some.frame.now ≡ slice_get c.loop-frame.self.frames 0 = search rules in
    let past : skips_masked (item_at c.args.code.now c.in-Found.item) c.args.view ≡ true = search rules in
    let next = moved _ _ _ _ _ _ c.loop-frame.invariant.rest c.begin.ensures (past_top c.args.code.now c.args.view _ _ _ c.loop-frame.invariant.so top c.in-Found.item c.in-Found.ensures past) in
    record { so = next.so; rest = next.rest }
