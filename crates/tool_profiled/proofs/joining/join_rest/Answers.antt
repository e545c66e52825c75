use Rattle.std.proofs.Common.{◌≡◌, ◌++◌, ◌∷◌, [], ap, ◌∙◌}
use Rattle.std.proofs.lemmas.List.Elements.{All-push}
use Rattle.tool_profiled.specs.declared.asked.Asked.{Asked}
use Rattle.tool_profiled.specs.Joining.{IsFresh}
use Rattle.tool_profiled.proofs.Fresh.{joined-fresh}
use Rattle.tool_profiled.proofs.Waiting.{join-more}
use Rattle.tool_profiled.proofs.joining.join_rest.Goals as goal

pub loop-part-preserved : goal.loop-part-preserved
loop-part-preserved g c =
    let both = c.new-in-Some.result in
    let popped : c.loop-part.waiting.items ≡ c.pop.new.self.items ++ c.in-Some.part ∷ [] = rw c.in-Some.is at c.pop.ensures.items in
    let new = joined-fresh g.P.ToolPart.stands_for c.args.masks both _ _ c.new-in-Some.ensures.tools c.new.ensures c.new-in-Some.ensures.stands in
    record {
      parts = rw c.in_ok-push.ensures.items (join-more c.loop-part.joined.items both c.loop-part.waiting.items c.pop.new.self.items c.in-Some.part popped
          (ap (λ (tool : Asked _). tool.0) c.new-in-Some.ensures.tools.first_is) ∙ c.loop-part.invariant.parts);
      fresh = λ before.
          rw c.in_ok-push.ensures.items (All-push (IsFresh g.P.ToolPart.stands_for c.args.masks) c.loop-part.joined.items both (c.loop-part.invariant.fresh before) new);
    }
