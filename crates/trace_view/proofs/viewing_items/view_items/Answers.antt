use Rattle.std.proofs.Common.{◌≡◌, rules, subst}
use Rattle.std.specs.Io.KnownBytes.{Appends}
use Rattle.trace_view.specs.ItemStyles.{styled_trace}
use Rattle.trace_view.proofs.Onward.{styled_whole}
use Rattle.trace_view.proofs.viewing_items.view_items.Goals as goal

pub returns-in-Whole-clause-viewed : goal.returns-in-Whole-clause-viewed
returns-in-Whole-clause-viewed g c =
    let (taken, items, input, consumed, read, took) = c.in-Whole.ensures.read in
    let held = g.O.Sink.held c.args.out.now in
    let same : c.read_items.new.taker.out.now ≡ _ = search rules in (
      taken,
      read.trace,
      input,
      read.writes,
      subst (λ (out : _). Appends held (g.O.Sink.held out) (styled_trace c.args.style read.trace)) same
          (subst (Appends held (g.O.Sink.held c.read_items.new.taker.out.now)) (styled_whole c.args.style read.trace items read.items_are) took.3),
    )
