use Rattle.std.proofs.Common.{◌≡◌, ◌∷◌, Option, None, sym, ◌∙◌, ap}
use Rattle.tool_tasks.specs.declared.key.Key.TheVariants.{Child}
use Rattle.tool_tasks.specs.Charge.{charges_of}
use Rattle.tool_tasks.specs.Keys.{key_of, parent_next}
use Rattle.tool_tasks.specs.Leads.{parent_of}
use Rattle.tool_tasks.specs.Tree.{Origin, origin_of}
use Rattle.tool_tasks.proofs.chain_keys.completion_given.Goals as goal
use Rattle.tool_tasks.proofs.Giving.{completed, completed_none, node_is, three}

pub returns-in-Some : goal.returns-in-Some
returns-in-Some c = λ past event tasks nodes unbroken same.
    let given = completed past event c.args.task (charges_of c.args.task (event ∷ past)) c.in-Some.node (c.in-Some.ensures ∙ node_is c.args.nodes.now (event ∷ past) c.args.task nodes unbroken) same in
    three _ _ _ _ _ _ given.child (c.ended_given-region.ensures past tasks) (c.parent_given.ensures (event ∷ past) nodes unbroken ∙ given.next)

pub returns-in-None : goal.returns-in-None
returns-in-None c = λ past event tasks nodes unbroken same.
    let none : origin_of c.args.task past ≡ None =
    completed_none past event c.args.task (charges_of c.args.task (event ∷ past)) (c.in-None.ensures ∙ node_is c.args.nodes.now (event ∷ past) c.args.task nodes unbroken) same in
    three _ _ _ _ _ _ (sym (ap (λ (origin : Option Origin). key_of Child (parent_of origin)) none)) (c.ended_given-region.ensures past tasks) (sym (ap (parent_next past event) none))
