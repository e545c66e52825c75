use Rattle.std.proofs.Common.{◌≡◌, ◌++◌, take, ap, sym, ◌∙◌, arith, rules}
use Rattle.trace_format.specs.declared.item.Item.TheVariants as item
use Rattle.trace_format.specs.Taking.{Reading}
use Rattle.trace_format.proofs.Feeding.{none_used, nothing_given, onward, onward_more, refused_in, still_within}
use Rattle.trace_format.proofs.reader.Reader.feed.Goals as goal

pub loop-used-init : goal.loop-used-init
loop-used-init c =
    record {
      within = omega arith;
      open_still = ap (λ (r : Reading). r.refusal) (sym c.self.view_is) ∙ c.in_default.is;
      took = λ bytes items has. none_used c.args.self.now bytes c.args.piece.now items has;
    }

pub returns-in_err-taken-clause-up_to : goal.returns-in_err-taken-clause-up_to
returns-in_err-taken-clause-up_to c =
    refused_in c.from_residual.result c.args.self.now c.loop-used.self c.step.new.self c.args.piece.now c.loop-used.used c.loop-used.invariant.within c.loop-used.invariant.took c.in_err-taken.ensures.up_to

pub returns-then-ne-clause-ok : goal.returns-then-ne-clause-ok
returns-then-ne-clause-ok c =
    λ bytes items has.
    onward c.step.new.self bytes c.args.piece.now c.loop-used.used c.in_ok-taken.taken.used _ (c.in_ok-taken.ensures.ok (bytes ++ take c.loop-used.used c.args.piece.now) items (c.loop-used.invariant.took bytes items has))

pub loop-used-preserved : goal.loop-used-preserved
loop-used-preserved c =
    let e : c.in_ok-taken.taken.item ≡ item.More = search rules in
    record {
      within = still_within c.args.piece.now c.loop-used.used c.in_ok-taken.taken.used c.loop-used.invariant.within c.in_ok-taken.ensures.used;
      open_still = c.in_ok-taken.ensures.open;
      took = λ bytes items has. onward_more c.step.new.self bytes c.args.piece.now c.loop-used.used c.in_ok-taken.taken.used items c.in_ok-taken.taken.item e (c.in_ok-taken.ensures.ok (bytes ++ take c.loop-used.used c.args.piece.now) items (c.loop-used.invariant.took bytes items has));
    }

pub returns-clause-ok : goal.returns-clause-ok
returns-clause-ok c = λ bytes items has. nothing_given c.loop-used.self _ items (c.loop-used.invariant.took bytes items has)
