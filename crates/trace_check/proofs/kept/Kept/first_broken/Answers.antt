use Rattle.std.proofs.Common.{◌≡◌, Bool, true, false, ◌∙◌}
use Rattle.trace_check.specs.Rules.{keeps_brackets}
use Rattle.trace_check.specs.Checking.{thread_known}
use Rattle.trace_check.proofs.kept.Kept.first_broken.Goals as goal
use Rattle.trace_check.proofs.Kept12.{kind_broken, none_broken}

truth : (r x : Bool) → r ≡ x → r ≡ true → x ≡ true
truth r x is holds = cc

falsehood : (r x : Bool) → r ≡ x → r ≡ false → x ≡ false
falsehood r x is fails = cc

pub returns-then-not-keeps_kind : goal.returns-then-not-keeps_kind
returns-then-not-keeps_kind c = λ past known unbroken.
    let thread : c.copied-thread.result ≡ thread_known c.args.event.now.thread past = c.copied-thread.ensures ∙ (c.get.ensures.value ∙ known.threads c.args.event.now.thread) in
    kind_broken past c.args.event.now (truth _ _ (c.keeps_threads.ensures past thread) c.if-not-keeps_threads.false) (falsehood _ _ (c.keeps_kind.ensures past) c.if-not-keeps_kind.true)

pub returns-else-not-keeps_dispatches : goal.returns-else-not-keeps_dispatches
returns-else-not-keeps_dispatches c = λ past known unbroken.
    let t = c.args.event.now.thread in
    let thread : c.copied-thread.result ≡ thread_known t past = c.copied-thread.ensures ∙ (c.get.ensures.value ∙ known.threads t) in
    let brackets : keeps_brackets past t c.args.event.now.call ≡ true = truth _ _ (c.keeps_brackets.ensures past known thread) c.if-not-keeps_brackets.false in
    none_broken past c.args.event.now (record {
      threads = truth _ _ (c.keeps_threads.ensures past thread) c.if-not-keeps_threads.false;
      kind = truth _ _ (c.keeps_kind.ensures past) c.if-not-keeps_kind.false;
      regions = truth _ _ (c.keeps_regions.ensures past known thread) c.if-not-keeps_regions.false;
      tasks = truth _ _ (c.keeps_tasks.ensures past known unbroken thread) c.if-not-keeps_tasks.false;
      brackets = brackets;
      teams = truth _ _ (c.keeps_teams.ensures past t known unbroken brackets) c.if-not-keeps_teams.false;
      asking = truth _ _ (c.keeps_asking.ensures past thread) c.if-not-keeps_asking.false;
      holders = truth _ _ (c.keeps_holders.ensures past known) c.if-not-keeps_holders.false;
      creations = truth _ _ (c.keeps_creations.ensures past known thread) c.if-not-keeps_creations.false;
      starts = truth _ _ (c.keeps_starts.ensures past known unbroken) c.if-not-keeps_starts.false;
      waits = truth _ _ (c.keeps_waits.ensures past t known unbroken thread brackets) c.if-not-keeps_waits.false;
      dispatches = truth _ _ (c.keeps_dispatches.ensures past known thread) c.if-not-keeps_dispatches.false;
    })
