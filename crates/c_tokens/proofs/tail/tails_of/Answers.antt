use Rattle.std.proofs.Common.{◌<◌, ◌∷◌, [], ◌++◌, List, length, drop, sym, ap, ◌∙◌, arith, length-append, append-nil}
use Rattle.std.proofs.Math.Seq.{drop-length}
use Rattle.std.proofs.lemmas.List.{length-drop}
use Rattle.c_tokens.proofs.Ends.{AreTails-begun, AreTails-grown, IsSmallRow-row_of, last-over, whole-over}
use Rattle.c_tokens.proofs.tail.tails_of.Goals as goal

pub loop-byte-init : goal.loop-byte-init
loop-byte-init c =
    let none = drop-length c.args.text.now in
    record {
      whole = rw none (sym (append-nil c.args.text.now));
      row = rw none c.of_nothing-row.ensures;
      counted = grind arith;
      tails = AreTails-begun c.args.text.now c.push.new.self.items c.of_nothing-row.result c.of_nothing-row.ensures (c.in_ok-push.ensures.items ∙ ap (λ (items : List _). items ++ c.of_nothing-row.result.gaps ∷ []) c.new-tails.ensures.items);
    }

pub before-row-requires : goal.before-row-requires
before-row-requires c =
    let text = c.args.text.now in
    let parts = c.in-Some.ensures.cases in
    let short : length (drop (length c.loop-byte.rest.now) text) < 65536 = omega (arith, c.requires, length-drop (length c.loop-byte.rest.now) text, ap length c.loop-byte.invariant.whole, length-append c.loop-byte.rest.now (drop (length c.loop-byte.rest.now) text), parts.1) in
    rw (c.loop-byte.invariant.row) (IsSmallRow-row_of (drop (length c.loop-byte.rest.now) text) short)

pub loop-byte-preserved : goal.loop-byte-preserved
loop-byte-preserved c =
    let text = c.args.text.now in
    let parts = c.in-Some.ensures.cases in
    let over = last-over text c.loop-byte.rest.now c.in-Some.front.now c.in-Some.byte.now c.loop-byte.invariant.whole parts.0 in
    let row = c.before-row.ensures (drop (length c.loop-byte.rest.now) text) c.loop-byte.invariant.row in
    record {
      whole = whole-over text c.loop-byte.rest.now c.in-Some.front.now c.in-Some.byte.now c.loop-byte.invariant.whole parts.0;
      row = rw over row;
      counted = omega (arith, c.in_ok-push-2.ensures.len, c.loop-byte.invariant.counted, parts.1);
      tails = AreTails-grown text c.loop-byte.rest.now c.in-Some.front.now c.in-Some.byte.now c.loop-byte.tails.items c.push-in-Some.new.self.items c.before-row.result over row (omega (arith, c.loop-byte.invariant.counted, ap length c.loop-byte.invariant.whole, length-append c.loop-byte.rest.now (drop (length c.loop-byte.rest.now) text))) c.loop-byte.invariant.tails c.in_ok-push-2.ensures.items;
    }
