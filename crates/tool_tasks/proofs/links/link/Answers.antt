use Rattle.std.proofs.Common.{◌+◌, ◌==◌, Option, get_or, arith, ap, ◌∙◌}
use Rattle.std.proofs.lemmas.Option.{slice_get-get_or}
use Rattle.tool_tasks.specs.declared.forest.TaskNode.{TaskNode}
use Rattle.tool_tasks.specs.Holding.{with_child}
use Rattle.tool_tasks.proofs.links.link.Goals as goal
use Rattle.tool_tasks.proofs.Linking.{link_none, link_one, parent_there, zero_node}

pub returns-in_default : goal.returns-in_default
returns-in_default c = λ past unbroken holds.
    link_none c.args.nodes.now past c.args.place (get_or c.args.nodes.now c.args.place zero_node) (slice_get-get_or c.args.nodes.now c.args.place zero_node c.requires)
    (let none = c.in_default.ensures in omega (arith, none)) c.requires holds

pub returns-then-above-nodes : goal.returns-then-above-nodes
returns-then-above-nodes c = λ past unbroken holds.
    link_one c.args.nodes.now c.set_child.new.nodes past c.args.place c.in-Some.above (get_or c.args.nodes.now c.args.place zero_node) (get_or c.args.nodes.now c.in-Some.above zero_node)
    (slice_get-get_or c.args.nodes.now c.args.place zero_node c.requires) (slice_get-get_or c.args.nodes.now c.in-Some.above zero_node c.if-above-nodes.true)
    (let is = c.in-Some.ensures in omega (arith, is.0, is.1)) c.requires (c.set_child.auto.nodes ∙ c.set_sibling.auto.nodes)
    (λ other. c.set_child.ensures other ∙ ap (λ (found : Option TaskNode). with_child (other == c.in-Some.above) (get_or c.args.nodes.now c.args.place zero_node).identity found) (c.set_sibling.ensures other)) holds

pub returns-else-above-nodes : goal.returns-else-above-nodes
returns-else-above-nodes c = λ past unbroken holds.
    let there = parent_there c.args.nodes.now past (c.args.place + 1) c.args.place (get_or c.args.nodes.now c.args.place zero_node) unbroken holds (slice_get-get_or c.args.nodes.now c.args.place zero_node c.requires) in
    let is = c.in-Some.ensures in
    let beyond = c.if-above-nodes.false in
    absurd (omega (arith, there, is.0, is.1, beyond))
