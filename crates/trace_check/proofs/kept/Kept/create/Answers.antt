use Rattle.std.proofs.Common.{sym, ◌∙◌, ap, ℕ, ◌+◌}
use Rattle.std.specs.Result.{result_ok}
use Rattle.trace_check.proofs.kept.Kept.create.Goals as goal
use Rattle.trace_check.proofs.CreatedTask.{created_things, creator_there, sum_is}

pub returns-clause-learned : goal.returns-clause-learned
returns-clause-learned c = λ event before is past runs known unbroken keeps.
    created_things c.args.self.now c.put_children.new.self c.insert.new.self c.args.task c.in_ok-children.children before c.in-Some.creator c.in_ok-insert.ensures.updates
    c.put_children.ensures.puts (λ past t things whole run.
    sum_is _ _ c.in_ok-children.children c.checked_add.result c.checked_add.ensures (c.ok_or.ensures.ok_part ∙ ap result_ok c.in_ok-children.was)
    ∙ ap (λ (n : ℕ). n + 1) (c.children_of.ensures.counted past t things whole run)) event is past (sym c.in-Some.is ∙ runs) known unbroken keeps

pub returns-in_default-clause-learned : goal.returns-in_default-clause-learned
returns-in_default-clause-learned c = λ event before is past runs known unbroken keeps.
    absurd (creator_there past event _ is keeps (sym c.in_default.is ∙ runs))
