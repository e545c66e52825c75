use Rattle.std.proofs.Common.{◌≡◌, ◌++◌, ◌∷◌, [], ℕ, List, Option, sym, ◌∙◌, ap, subst}
use Rattle.std.specs.Option.{unwrap_or}
use Rattle.tool_tasks.specs.declared.forest.TaskNode.{TaskNode}
use Rattle.tool_tasks.specs.Holding.{HoldsNodes}
use Rattle.tool_tasks.specs.Tree.{encountering_task, or_zero}
use Rattle.tool_tasks.proofs.forest_builder.ForestBuilder.make.Goals as goal
use Rattle.tool_tasks.proofs.Grown.{or_zero_is, with_explicit, with_implicit}

pub returns-in_ok-push-in-Implicit-clause-nodes : goal.returns-in_ok-push-in-Implicit-clause-nodes
returns-in_ok-push-in-Implicit-clause-nodes c = λ past regions nodes unbroken keeps.
    let parent_is : c.unwrap_or-parent.result ≡ or_zero (encountering_task c.in-Implicit.region past) =
    c.unwrap_or-parent.ensures
    ∙ (ap (λ (o : Option ℕ). unwrap_or o 0) (c.copied.ensures ∙ (c.get.ensures.value ∙ regions c.in-Implicit.region))
    ∙ or_zero_is (encountering_task c.in-Implicit.region past)) in
    subst (λ (items : List TaskNode). HoldsNodes items (c.args.event.now ∷ past) past)
    (sym (c.in_ok-push-in-Implicit.ensures.items ∙ ap (λ (node : TaskNode). c.args.self.now.nodes.items ++ node ∷ []) c.made.ensures))
    (with_implicit c.args.self.now.nodes.items c.args.event.now past c.in-Implicit.task c.in-Implicit.region c.in-Implicit.flags c.unwrap_or-parent.result
    (sym c.in-Implicit.ensures) parent_is unbroken keeps nodes)

pub returns-in_ok-push-in-Explicit-clause-nodes : goal.returns-in_ok-push-in-Explicit-clause-nodes
returns-in_ok-push-in-Explicit-clause-nodes c = λ past regions nodes unbroken keeps.
    subst (λ (items : List TaskNode). HoldsNodes items (c.args.event.now ∷ past) past)
    (sym (c.in_ok-push-in-Explicit.ensures.items ∙ ap (λ (node : TaskNode). c.args.self.now.nodes.items ++ node ∷ []) c.made-in-Explicit.ensures))
    (with_explicit c.args.self.now.nodes.items c.args.event.now past c.in-Explicit.task c.in-Explicit.creator c.in-Explicit.flags (sym c.in-Explicit.ensures) unbroken keeps nodes)
