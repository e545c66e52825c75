use Rattle.std.proofs.Common.{ap, subst, sym}
use Rattle.tool_profiled.specs.declared.asked.Asked.{Asked}
use Rattle.tool_profiled.specs.Joining.{WasAsked, nothing_counted}
use Rattle.tool_profiled.proofs.Fresh.{asked-counts, asked-mask, joined-fresh, nothing-counted}
use Rattle.tool_profiled.proofs.joining.first_joined.Goals as goal

pub returns-clause-asked : goal.returns-clause-asked
returns-clause-asked g c =
    let of_first = c.ask-masks.ensures.first in
    let of_second = c.ask-masks.ensures.second in
    let has = asked-mask _ _ _ of_second.0 of_second.1 (of_second.2 nothing_counted (nothing-counted _ c.new-profile.ensures)) in
    let same = sym (ap (λ (tool : Asked _). tool.0) c.new.ensures.tools.first_is) in
    subst (λ part. WasAsked g.P.ToolPart.stands_for g.P.ToolPart.same c.args.part c.ask-masks.result part) same
    (record {
      registered = of_first.0;
      mask_is = of_first.1;
      profile_mask = has.mask;
      profile_answer = has.answer_is;
      starts = of_first.2;
      same = c.ask-masks.ensures.kept.0;
    })

pub returns-clause-fresh : goal.returns-clause-fresh
returns-clause-fresh g c =
    let of_second = c.ask-masks.ensures.second in
    joined-fresh g.P.ToolPart.stands_for c.ask-masks.result c.new.result _ _ c.new.ensures.tools
    (asked-counts _ _ of_second.0 (of_second.2 nothing_counted (nothing-counted _ c.new-profile.ensures))) c.new.ensures.stands
