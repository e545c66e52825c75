use Rattle.std.proofs.Common.{◌≡◌, ◌==◌, ◌&&◌, not, get_or, refl, sym, ◌∙◌, arith}
use Rattle.c_check.proofs.Asking.{asked-none, asked-last, asked-letter, asked-sign, asked-other, asked-on}
use Rattle.c_check.proofs.acts.node_acts.numbers_in.Goals as goal
use Rattle.c_check.proofs.acts.node_acts.numbers_in.Goals.{then-asks+in-100, then-asks+in-37, else-asks, then-not-asks, else-not-asks}

pub returns-in_default : goal.returns-in_default
returns-in_default c =
    sym (asked-other c.args.text.now c.loop-byte.byte-index c.loop-byte-test.true c.loop-byte.asks c.loop-byte.numbers c.if-asks.true (λ is. omega arith) (λ is. omega arith))
    ∙ c.loop-byte.invariant.numbers

pub loop-byte-preserved : goal.loop-byte-preserved
loop-byte-preserved c =
    let next : c.if-not-asks.asks ≡ (not c.loop-byte.asks && get_or c.args.text.now c.loop-byte.byte-index 0 == 37) =
    elim c.if-not-asks.branch [
      | then-not-asks w ↦ w.asks-is ∙ rw w.if-not-asks.true refl
      | else-not-asks w ↦ w.asks-is ∙ rw w.if-not-asks.false refl
    ] in
    elim c.if-asks.branch [
      | then-asks+in-100 w ↦ record {
        numbers = asked-letter c.args.text.now c.loop-byte.byte-index c.loop-byte-test.true c.loop-byte.asks c.if-not-asks.asks c.loop-byte.numbers c.if-asks.numbers next w.if-asks.true w.in-100.is w.numbers-is ∙ c.loop-byte.invariant.numbers;
        few = omega arith;
      }
      | then-asks+in-37 w ↦ record {
        numbers = asked-sign c.args.text.now c.loop-byte.byte-index c.loop-byte-test.true c.loop-byte.asks c.if-not-asks.asks c.loop-byte.numbers c.if-asks.numbers next w.if-asks.true w.in-37.is w.numbers-is ∙ c.loop-byte.invariant.numbers;
        few = omega arith;
      }
      | else-asks w ↦ record {
        numbers = asked-on c.args.text.now c.loop-byte.byte-index c.loop-byte-test.true c.loop-byte.asks c.if-not-asks.asks c.loop-byte.numbers c.if-asks.numbers next w.if-asks.false w.numbers-is ∙ c.loop-byte.invariant.numbers;
        few = omega arith;
      }
    ]

pub returns-then-asks-2 : goal.returns-then-asks-2
returns-then-asks-2 c =
    sym (asked-none c.args.text.now c.loop-byte.byte-index c.loop-byte.asks c.loop-byte.numbers c.if-asks-2.true (omega arith)) ∙ c.loop-byte.invariant.numbers

pub returns-else-asks-2 : goal.returns-else-asks-2
returns-else-asks-2 c =
    sym (asked-last c.args.text.now c.loop-byte.byte-index c.loop-byte.asks c.loop-byte.numbers c.if-asks-2.false (omega arith)) ∙ c.loop-byte.invariant.numbers
