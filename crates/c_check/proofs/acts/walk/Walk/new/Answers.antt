use Rattle.std.proofs.Common.{◌≡◌, ◌∷◌, [], List, reverse, refl, ap, ◌∙◌}
use Rattle.c_check.specs.declared.acts.act.Act.TheVariants.{Finish}
use Rattle.c_check.specs.declared.acts.role.Role.TheVariants.{Plain}
use Rattle.c_check.specs.declared.acts.walk.Task.{Task}
use Rattle.c_check.specs.declared.acts.walk.Task.TheVariants.{Tell, Visit}
use Rattle.c_check.specs.Tasks.{told_by_all}
use Rattle.c_check.proofs.acts.walk.Walk.new.Goals as goal

pub returns-clause-left : goal.returns-clause-left
unfolding told_by_all
returns-clause-left c =
    let items : c.push-2.new.self.items ≡ Tell (Finish c.args.tree.now.end) ∷ Visit Plain c.args.tree.now.root ∷ [] =
    c.in_ok-push-2.ensures.items ∙ rw (c.in_ok-push.ensures.items, c.new-tasks.ensures.items, c.root.ensures.root, c.end.ensures) refl in
    ap (λ (tasks : List Task). told_by_all c.args.tree.now.trees (reverse tasks)) items
