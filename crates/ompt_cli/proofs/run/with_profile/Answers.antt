use Rattle.std.proofs.Common.{ℕ, ◌++◌, ◌∙◌, List, ap}
use Rattle.ompt_cli.proofs.run.with_profile.Goals as goal

pub returns : goal.returns
returns c = λ events kept.
    c.in_ok-extend_from_slice.ensures.items ∙ ap (λ (counts : List ℕ). c.args.printed.items ++ counts) (c.as_slice.ensures.value ∙ c.in_ok-counts.ensures events kept)
