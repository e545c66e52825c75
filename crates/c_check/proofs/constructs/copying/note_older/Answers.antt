use Rattle.std.proofs.Common.{◌≡◌, ◌∙◌, ◌+◌, ◌∷◌, Bool, reverse, take, refl, sym, ap, append_assoc, append-nil}
use Rattle.c_check.specs.Around.{no_construct, numbered}
use Rattle.c_check.specs.Shares.{copies_around, copy_by_rule, shared_by_rule, shared_inside}
use Rattle.c_check.proofs.Copying.{is_some_copy-more}
use Rattle.c_check.proofs.Numbers.{numbered-outward}
use Rattle.c_check.proofs.constructs.copying.note_older.Goals as goal

pub loop-number-init : goal.loop-number-init
unfolding copies_around shared_by_rule
loop-number-init c = record { by_rule = refl; copied = refl; noted = λ before are. rw (append-nil before) are }

pub loop-number-preserved : goal.loop-number-preserved
unfolding copies_around shared_by_rule
loop-number-preserved c =
    let construct = c.in-Some.construct.now in
    let outer = numbered c.args.older.now (reverse (take c.loop-number.number-index c.args.numbers.now)) in
    let outward : numbered c.args.older.now (reverse (take (c.loop-number.number-index + 1) c.args.numbers.now)) ≡ construct ∷ outer =
    numbered-outward c.args.older.now c.args.numbers.now c.loop-number.number-index construct c.loop-number-test.true (c.in-Some.ensures.lookup.3.1 no_construct) in
    let by_rule = c.loop-number.invariant.by_rule in
    record {
      by_rule = rw outward (c.in_ok-found.ensures.by_rule ∙ ap (λ (rule : Bool). shared_inside construct rule c.args.slot) by_rule);
      copied =
          rw outward
          (c.in_ok-found.ensures.copied
          ∙ rw (c.loop-number.invariant.copied, by_rule) (sym (is_some_copy-more (copies_around outer c.args.of_file c.args.slot) construct (shared_by_rule outer c.args.of_file c.args.slot) c.args.slot)));
      noted = λ before are.
          rw (outward, ← by_rule, ← append_assoc before (copies_around outer c.args.of_file c.args.slot) (copy_by_rule construct c.loop-number.found.by_rule c.args.slot))
          (c.in_ok-found.ensures.noted _ (c.loop-number.invariant.noted before are));
    }
