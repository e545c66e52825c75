use Rattle.std.proofs.Common.{◌≡◌, true, false, [], ◌∷◌, reverse, rules}
use Rattle.std.proofs.lemmas.List.Elements.{All-nil}
use Rattle.c_model.specs.Step.{skips_masked}
use Rattle.c_steps.specs.FrontFrame.{above}
use Rattle.c_steps.specs.Items.{item_at}
use Rattle.c_steps.specs.Ready.{IsFrame}
use Rattle.c_steps.proofs.Standing.{all_left, found_first, over_left, past_left}
use Rattle.c_steps.proofs.control.Control.front.Goals as goal

pub loop-frame-init : goal.loop-frame-init
loop-frame-init c =
    let is : c.items-below.result.now ≡ reverse c.args.self.now.frames = search rules in
    all_left c.args.code.now c.args.view c.args.self.now.frames c.items-below.result.now is c.requires

pub loop-frame-preserved-in-Over : goal.loop-frame-preserved-in-Over
loop-frame-preserved-in-Over c =
    let top : above c.loop-frame.shown (reverse c.loop-frame.below.now) ≡ c.in-Some.frame ∷ reverse c.in-Some.rest.now = search rules in
    over_left c.args.code.now c.args.view _ _ (reverse c.in-Some.rest.now) c.in-Some.frame c.loop-frame.invariant top c.in-Over.ensures

pub skips_masked-requires : goal.skips_masked-requires
skips_masked-requires c = (c.in-Found.ensures.front [] (All-nil (IsFrame c.args.code.now))).is_item

pub returns-then-not-skips_masked-clause-first : goal.returns-then-not-skips_masked-clause-first
returns-then-not-skips_masked-clause-first c =
    let top : above c.loop-frame.shown (reverse c.loop-frame.below.now) ≡ c.in-Some.frame ∷ reverse c.in-Some.rest.now = search rules in
    let stays : skips_masked (item_at c.args.code.now c.in-Found.item) c.args.view ≡ false = search rules in
    found_first c.args.code.now c.args.view _ _ (reverse c.in-Some.rest.now) c.in-Some.frame c.loop-frame.invariant top c.in-Found.item c.in-Found.ensures stays

pub returns-then-not-skips_masked-clause-item : goal.returns-then-not-skips_masked-clause-item
returns-then-not-skips_masked-clause-item c = (c.in-Found.ensures.front [] (All-nil (IsFrame c.args.code.now))).is_item

pub loop-frame-preserved : goal.loop-frame-preserved
loop-frame-preserved c =
    let top : above c.loop-frame.shown (reverse c.loop-frame.below.now) ≡ c.in-Some.frame ∷ reverse c.in-Some.rest.now = search rules in
    let past : skips_masked (item_at c.args.code.now c.in-Found.item) c.args.view ≡ true = search rules in
    past_left c.args.code.now c.args.view _ _ (reverse c.in-Some.rest.now) c.in-Some.frame c.loop-frame.invariant top c.in-Found.item c.in-Found.ensures past c.begun-shown.result c.begun-shown.ensures
