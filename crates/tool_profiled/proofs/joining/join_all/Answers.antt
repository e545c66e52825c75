use Rattle.std.proofs.Common.{◌≡◌, ◌++◌, ◌∷◌, [], map, reverse}
use Rattle.tool_profiled.specs.Joining.{part_in}
use Rattle.tool_profiled.proofs.Waiting.{all-joined, one-joined}
use Rattle.tool_profiled.proofs.joining.join_all.Goals as goal

pub returns-clause-joined : goal.returns-clause-joined
returns-clause-joined g c =
    let first = c.first_joined-both.result in
    let rest = c.pop.new.self.items in
    let popped : c.reverse.new.self.items ≡ rest ++ c.unwrap.result ∷ [] = rw c.unwrap.ensures at c.pop.ensures.items in
    let pushed : c.push.new.self.items ≡ first.both ∷ [] = rw c.new-joined.ensures.items at c.in_ok-push.ensures.items in
    let tools : map part_in c.join_rest.new.joined.items ≡ part_in first.both ∷ reverse rest = rw pushed at c.in_ok-join_rest.ensures.parts in
    let fresh = c.in_ok-join_rest.ensures.fresh (one-joined g.P.ToolPart.stands_for first.masks first.both c.push.new.self.items pushed c.first_joined-both.ensures.fresh) in
    all-joined g.P.ToolPart.stands_for g.P.ToolPart.same c.args.parts.items c.reverse.new.self.items rest c.unwrap.result first.masks first.both c.join_rest.new.joined.items c.reverse.ensures.items popped
    c.first_joined-both.ensures.asked tools fresh
