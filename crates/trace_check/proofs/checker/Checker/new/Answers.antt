use Rattle.std.proofs.Common.{Option, [], refl, sym, ◌∙◌, subst, inl}
use Rattle.trace_check.specs.declared.breach.Breach.{Breach}
use Rattle.trace_check.specs.Checking.{KeptSo}
use Rattle.trace_check.proofs.checker.Checker.new.Goals as goal
use Rattle.trace_check.proofs.checker.Checker.new.Goals.{then-is_whole_mask, else-is_whole_mask}

pub returns-clause-checks : goal.returns-clause-checks
returns-clause-checks c = record {
  last = refl;
  rises = tt;
  kept_so = elim c.if-is_whole_mask.branch as (λ _. KeptSo c.new.result c.if-is_whole_mask.breach c.args.header []) [
    | then-is_whole_mask w ↦ subst (λ (b : Option Breach). KeptSo c.new.result b c.args.header []) (sym w.breach-is)
        (record { whole = sym c.is_whole_mask.ensures ∙ w.if-is_whole_mask.true; unbroken = tt; known = c.new.ensures.known })
    | else-is_whole_mask w ↦ subst (λ (b : Option Breach). KeptSo c.new.result b c.args.header []) (sym w.breach-is)
        (record { none = c.new.ensures.empty; first = inl (record { partial = sym c.is_whole_mask.ensures ∙ w.if-is_whole_mask.false; rule_is = refl; seq_is = refl }) })
  ];
}
