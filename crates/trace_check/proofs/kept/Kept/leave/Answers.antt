use Rattle.std.proofs.Common.{◌==◌, refl, sym, subst, ◌∙◌}
use Rattle.trace_check.proofs.kept.Kept.leave.Goals as goal
use Rattle.trace_check.proofs.Unmoved.{IsSilent, closing_tells, no_barrier, things_same, wait_tells}

pub returns-else-is_barrier-clause-learned : goal.returns-else-is_barrier-clause-learned
returns-else-is_barrier-clause-learned c = λ past runs known unbroken keeps.
    let w = c.in-SyncRegionWait in
    let apart = no_barrier (w.endpoint == 1) _ (sym c.is_barrier.ensures ∙ c.if-is_barrier.false) in
    let silent = wait_tells w.kind w.endpoint w.region w.task w.codeptr apart in
    things_same c.args.self.now past c.args.event.now (subst IsSilent (sym w.is) silent) known

pub returns-in_default : goal.returns-in_default
returns-in_default c = record {
  threads = refl;
  brackets = refl;
  learned = λ past runs known unbroken keeps. things_same c.args.self.now past c.args.event.now
      (closing_tells c.args.event.now.call c.requires.closes c.in_default.not-ParallelEnd c.in_default.not-ImplicitTask c.in_default.not-TaskSchedule
      c.in_default.not-SyncRegionWait) known;
}
