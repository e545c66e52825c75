use Rattle.std.proofs.Common.{◌≡◌, refl, rules, subst}
use Rattle.trace_copy.specs.declared.copied.Copied.TheVariants.{Whole}
use Rattle.trace_copy.specs.Copying.{HasCopied}
use Rattle.trace_copy.proofs.Endings.{copied_last, copied_whole}
use Rattle.trace_copy.proofs.copy.copy_trace.Goals as goal

pub returns-in-Ok-clause-copied : goal.returns-in-Ok-clause-copied
returns-in-Ok-clause-copied g c =
    let left = g.S.Source.left c.args.source.now in
    let rest = g.S.Source.left c.read_items.new.source in
    let held = g.O.Sink.held c.args.out.now in
    let same : c.put_last.new.out ≡ _ = search rules in
    subst (λ (out : _). HasCopied c.args.form Whole left rest held (g.O.Sink.held out)) same
    (copied_whole c.args.form _ left rest held _ (g.O.Sink.held c.put_last.new.out) c.in-Whole.ensures.read c.in-Ok.ensures.whole)

pub returns-in-Err-clause-copied : goal.returns-in-Err-clause-copied
returns-in-Err-clause-copied g c =
    let left = g.S.Source.left c.args.source.now in
    let rest = g.S.Source.left c.read_items.new.source in
    let held = g.O.Sink.held c.args.out.now in
    let same : c.put_last.new.out ≡ _ = search rules in
    subst (λ (out : _). HasCopied c.args.form c.in-Err.stop left rest held (g.O.Sink.held out)) same
    (copied_last c.args.form _ c.in-Err.stop left rest held _ (g.O.Sink.held c.put_last.new.out) c.in-Whole.ensures.read
    (c.in-Err.ensures.ends c.in-Err.stop refl) c.in-Err.ensures.part)
