use Rattle.std.proofs.Common.{◌≡◌, true, false, [], refl, sym}
use Rattle.ompt_calls.specs.Item.{Item, item_of}
use Rattle.ompt_calls.specs.Number.{is_registered, number_of}
use Rattle.ompt_calls.specs.Snapshot.{stores_of}
use Rattle.tool_both.proofs.Joining.{both-told, both-broken, first-lost, on-err}
use Rattle.tool_both.proofs.both.BothToolPart.callback.Goals as goal

pub returns-in-false-false-clause-heard : goal.returns-in-false-false-clause-heard
returns-in-false-false-clause-heard g c =
    let both = c.args.self.now in
    let item : Item = record { seq = c.args.seq; thread = c.args.thread; call = c.args.call.now; snapshot = c.args.snapshot.now; stores = [] } in
    let not_first : is_registered both.masks.first (number_of c.args.call.now) ≡ false = rw c.number-number.ensures at (sym c.in-false-false.ensures) in
    let not_second : is_registered both.masks.second (number_of c.args.call.now) ≡ false = rw c.number-number.ensures at (sym c.in-false-false.ensures') in
    both-told g.A.ToolPart.stands_for g.B.ToolPart.stands_for both.first both.first both.second both.second both.masks both.whole both.whole item [] [] false false
    c.if-not-self.false c.if-not-self.false not_first not_second (λ r stands. stands) (λ r stands. stands) refl refl refl

pub returns-in_ok-first-in-true-false-clause-heard : goal.returns-in_ok-first-in-true-false-clause-heard
returns-in_ok-first-in-true-false-clause-heard g c =
    let both = c.args.self.now in
    let item : Item = item_of c.args.seq c.args.thread c.args.call.now c.args.snapshot.now c.joined-in-true-false.result in
    let first : is_registered both.masks.first (number_of c.args.call.now) ≡ true = rw c.number-number.ensures at (sym c.in-true-false.ensures) in
    let not_second : is_registered both.masks.second (number_of c.args.call.now) ≡ false = rw c.number-number.ensures at (sym c.in-true-false.ensures') in
    both-told g.A.ToolPart.stands_for g.B.ToolPart.stands_for both.first c.callback-in-true-false.new.self both.second both.second both.masks both.whole both.whole item
    (stores_of c.in_ok-first-in-true-false.first c.args.snapshot.now) [] true false
    c.if-not-self.false c.if-not-self.false first not_second c.in_ok-first-in-true-false.ensures.heard (λ r stands. stands) tt refl c.joined-in-true-false.ensures

pub returns-in_ok-second-in-false-true-clause-heard : goal.returns-in_ok-second-in-false-true-clause-heard
returns-in_ok-second-in-false-true-clause-heard g c =
    let both = c.args.self.now in
    let item : Item = item_of c.args.seq c.args.thread c.args.call.now c.args.snapshot.now c.joined-in-false-true.result in
    let not_first : is_registered both.masks.first (number_of c.args.call.now) ≡ false = rw c.number-number.ensures at (sym c.in-false-true.ensures) in
    let second : is_registered both.masks.second (number_of c.args.call.now) ≡ true = rw c.number-number.ensures at (sym c.in-false-true.ensures') in
    both-told g.A.ToolPart.stands_for g.B.ToolPart.stands_for both.first both.first both.second c.callback-in-false-true.new.self both.masks both.whole both.whole item
    [] (stores_of c.in_ok-second-in-false-true.second c.args.snapshot.now) false true
    c.if-not-self.false c.if-not-self.false not_first second (λ r stands. stands) c.in_ok-second-in-false-true.ensures.heard refl tt c.joined-in-false-true.ensures

pub returns-in_ok-second-in-true-true-clause-heard : goal.returns-in_ok-second-in-true-true-clause-heard
returns-in_ok-second-in-true-true-clause-heard g c =
    let both = c.args.self.now in
    let item : Item = item_of c.args.seq c.args.thread c.args.call.now c.args.snapshot.now c.joined.result in
    let first : is_registered both.masks.first (number_of c.args.call.now) ≡ true = rw c.number-number.ensures at (sym c.in-true-true.ensures) in
    let second : is_registered both.masks.second (number_of c.args.call.now) ≡ true = rw c.number-number.ensures at (sym c.in-true-true.ensures') in
    let stays : c.is_ok-self.result ≡ true = rw c.in_ok-second-in-true-true.was at c.is_ok-self.ensures.value in
    let told_second = rw c.in_ok-second-in-true-true.was at c.callback-second.ensures.heard in
    both-told g.A.ToolPart.stands_for g.B.ToolPart.stands_for both.first c.callback.new.self both.second c.callback-second.new.self both.masks both.whole c.is_ok-self.result item
    (stores_of c.in_ok-first-in-true-true.first c.args.snapshot.now) (stores_of c.in_ok-second-in-true-true.field-0 c.args.snapshot.now) true true
    c.if-not-self.false stays first second c.in_ok-first-in-true-true.ensures.heard told_second tt tt c.joined.ensures

pub returns-in_err-first-in-true-true-clause-memory : goal.returns-in_err-first-in-true-true-clause-memory
returns-in_err-first-in-true-true-clause-memory g c =
    let both = c.args.self.now in
    on-err c.from_residual.result
    (first-lost g.A.ToolPart.stands_for g.B.ToolPart.stands_for both.first c.callback.new.self both.second both.masks both.whole c.in_err-first-in-true-true.ensures.memory)

pub returns-in_err-second-in-true-true-clause-memory : goal.returns-in_err-second-in-true-true-clause-memory
returns-in_err-second-in-true-true-clause-memory g c =
    let both = c.args.self.now in
    let item : Item = item_of c.args.seq c.args.thread c.args.call.now c.args.snapshot.now c.in_ok-first-in-true-true.first in
    let breaks : c.is_ok-self.result ≡ false = rw c.in_err-second-in-true-true.was at c.is_ok-self.ensures.value in
    let unheard_second = rw c.in_err-second-in-true-true.was at c.callback-second.ensures.memory in
    on-err c.from_residual-in_err-second-in-true-true.result
    (both-broken g.A.ToolPart.stands_for g.B.ToolPart.stands_for both.first c.callback.new.self both.second c.callback-second.new.self both.masks both.whole c.is_ok-self.result item
    c.if-not-self.false breaks c.in_ok-first-in-true-true.ensures.heard unheard_second)
