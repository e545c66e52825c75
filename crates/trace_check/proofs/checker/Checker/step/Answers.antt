use Rattle.std.proofs.Common.{◌≡◌, false, not, ◌∷◌, Option, Some, None, reverse, is_some, refl, sym, ◌∙◌, ap, subst}
use Rattle.trace_check.specs.declared.breach.Breach.{Breach}
use Rattle.trace_check.specs.declared.checker.Checker.{Checker}
use Rattle.trace_check.specs.Checking.{KeptSo, KeptWhole}
use Rattle.trace_check.specs.Rules.{first_broken}
use Rattle.trace_check.proofs.checker.Checker.step.Goals as goal
use Rattle.trace_check.proofs.checker.Checker.step.Goals.{then-is_none+in-Some, then-is_none+in-None+in_ok-learn-in-None, else-is_none}
use Rattle.trace_check.proofs.Telling.{breaks_now, broken_more, checks_more, keeps_now, whole_of}

none_there : (breach : Option Breach) → is_some breach ≡ false → None ≡ breach
none_there None is = refl
none_there (Some breach) is = cc

pub returns-clause-checks : goal.returns-clause-checks
returns-clause-checks c = λ header events checks rises.
    let past = reverse events in
    let event = c.args.event.now in
    let old = c.args.self.now in
    let so : KeptSo c.if-is_none.self.kept c.if-is_none.self.breach header (event ∷ past) = elim c.if-is_none.branch [
      | then-is_none+in-Some w ↦
          let whole : KeptWhole old.kept header past =
          whole_of old.kept old.breach header past (c.is_none.ensures ∙ ap not w.if-is_none.true) checks.kept_so in
          let breaks : first_broken past event ≡ Some w.in-Some.rule = sym (w.first_broken.ensures past whole.known whole.unbroken) ∙ w.in-Some.is in
          subst (λ (checker : Checker). KeptSo checker.kept checker.breach header (event ∷ past)) (sym w.self-is)
          (breaks_now old.kept w.clear.new.self header past event w.in-Some.rule whole breaks w.clear.ensures.empty)
      | then-is_none+in-None+in_ok-learn-in-None w ↦
          let none : is_some old.breach ≡ false = c.is_none.ensures ∙ ap not w.if-is_none.true in
          let whole : KeptWhole old.kept header past = whole_of old.kept old.breach header past none checks.kept_so in
          let keeps : first_broken past event ≡ None = sym (w.first_broken.ensures past whole.known whole.unbroken) ∙ w.in-None.is in
          subst (λ (checker : Checker). KeptSo checker.kept checker.breach header (event ∷ past)) (sym w.self-is)
          (subst (λ (breach : Option Breach). KeptSo w.learn.new.self breach header (event ∷ past)) (none_there old.breach none)
          (keeps_now old.kept w.learn.new.self header past event whole keeps (w.in_ok-learn-in-None.ensures.learned past whole.known whole.unbroken keeps)))
      | else-is_none w ↦
          subst (λ (checker : Checker). KeptSo checker.kept checker.breach header (event ∷ past)) (sym w.self-is)
          (broken_more old.kept old.breach header past event (c.is_none.ensures ∙ ap not w.if-is_none.false) checks.kept_so)
    ] in
    checks_more old (record {
      kept =
          c.if-is_none.self.kept;
      breach = c.if-is_none.self.breach;
      last = Some event.seq;
    }) header events event checks rises refl so
