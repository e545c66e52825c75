use Rattle.std.proofs.Common.{◌≡◌, ◌==◌, true, refl, sym, subst, ◌∙◌}
use Rattle.trace_check.specs.Checking.{is_opening}
use Rattle.trace_check.specs.Brackets.{change_of}
use Rattle.trace_check.proofs.kept.Kept.enter.Goals as goal
use Rattle.trace_check.proofs.Unmoved.{IsSilent, initial_tells, no_barrier, opening_tells, opens_at, things_same, wait_tells}

pub returns-then-flags-eq-INITIAL-clause-learned : goal.returns-then-flags-eq-INITIAL-clause-learned
returns-then-flags-eq-INITIAL-clause-learned c = λ past runs known unbroken keeps.
    let w = c.in-ImplicitTask in
    let begins = opens_at w.endpoint _ (subst (λ call. is_opening (change_of call) ≡ true) w.is c.requires.opens) in
    let silent = initial_tells w.endpoint w.region w.task w.actual w.index w.flags begins c.if-flags-eq-INITIAL.true in
    things_same c.args.self.now past c.args.event.now (subst IsSilent (sym w.is) silent) known

pub returns-else-is_barrier-clause-learned : goal.returns-else-is_barrier-clause-learned
returns-else-is_barrier-clause-learned c = λ past runs known unbroken keeps.
    let w = c.in-SyncRegionWait in
    let apart = no_barrier (w.endpoint == 1) _ (sym c.is_barrier.ensures ∙ c.if-is_barrier.false) in
    let silent = wait_tells w.kind w.endpoint w.region w.task w.codeptr apart in
    things_same c.args.self.now past c.args.event.now (subst IsSilent (sym w.is) silent) known

pub returns-in_default : goal.returns-in_default
returns-in_default c = record {
  threads = refl;
  brackets = refl;
  learned = λ past runs known unbroken keeps. things_same c.args.self.now past c.args.event.now
      (opening_tells c.args.event.now.call c.requires.opens c.in_default.not-ParallelBegin c.in_default.not-ImplicitTask c.in_default.not-TaskSchedule
      c.in_default.not-SyncRegionWait) known;
  unchanged = tt;
}
