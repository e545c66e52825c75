use Rattle.std.proofs.Common.{rules, refl}
use Rattle.tool_tasks.proofs.forest_builder.ForestBuilder.new.Goals as goal
use Rattle.tool_tasks.proofs.Grown.{initial}

pub returns : goal.returns
returns c = record {
  stacks = c.new.ensures;
  regions = λ r. search rules;
  nodes = initial c.push.new.self.items (rw (c.in_ok-push.ensures.items, c.new-nodes.ensures.items, c.made.ensures) refl);
  work = refl;
}
