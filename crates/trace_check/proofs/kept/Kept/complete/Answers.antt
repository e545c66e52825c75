use Rattle.std.proofs.Common.{sym, ◌∙◌, ap, ℕ, ◌-◌}
use Rattle.trace_check.proofs.kept.Kept.complete.Goals as goal
use Rattle.trace_check.proofs.CompletedTask.{completed_things, kept_before}

pub returns-in-Some-clause-learned : goal.returns-in-Some-clause-learned
returns-in-Some-clause-learned c =
    completed_things c.args.self.now c.put_children.new.self c.remove.new.self c.args.task _ c.in-Some.created (sym c.remove.ensures.value ∙ c.in-Some.is) c.remove.ensures.updates
    c.put_children.ensures.puts (c.saturating_sub.ensures ∙ ap (λ (n : ℕ). n - 1) c.children_of-children.ensures.kept)

pub returns-in_default-clause-learned : goal.returns-in_default-clause-learned
returns-in_default-clause-learned c = λ event is past known unbroken keeps.
    absurd (kept_before c.args.task past event is unbroken keeps (sym (known.created c.args.task) ∙ (sym c.remove.ensures.value ∙ c.in_default.is)))
