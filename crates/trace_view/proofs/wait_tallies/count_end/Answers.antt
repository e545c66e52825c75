use Rattle.std.proofs.Common.{ap, ◌∙◌}
use Rattle.trace_view.specs.declared.wait_tallies.Tally.{Tally}
use Rattle.trace_view.specs.WaitTallies.{one_end}
use Rattle.trace_view.proofs.Counting.{counts_end}
use Rattle.trace_view.proofs.wait_tallies.count_end.Goals as goal

pub returns : goal.returns
returns c =
    counts_end c.args.tallies.now c.insert.new.self c.args.key c.in_ok-tally.tally c.args.is_end c.args.seq
    (c.in_ok-tally.ensures ∙ ap (λ (tally : Tally). one_end tally c.args.is_end c.args.seq) c.tally_at.ensures) c.in_ok-insert.ensures.updates
