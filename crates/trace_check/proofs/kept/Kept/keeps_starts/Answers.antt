use Rattle.std.proofs.Common.{◌≡◌, ℕ, ◌==◌, ◌||◌, Bool, not, sym, ◌∙◌}
use Rattle.trace_check.proofs.kept.Kept.keeps_starts.Goals as goal
use Rattle.trace_check.proofs.Starts.{kept_starts, unkept_starts}

at_switch : (status : ℕ) (x b : Bool) → status ≡ 7 → x ≡ b → x ≡ (not (status == 7) || b)
at_switch status x b is same = rw is same

pub returns-in-Some : goal.returns-in-Some
returns-in-Some c = λ past known unbroken. rw c.in-TaskSchedule.is (at_switch c.in-TaskSchedule.status _ _ c.if-status-eq-SWITCH.true
    (kept_starts c.in-TaskSchedule.next.identity past c.in-Some.created.now (sym (known.things.created c.in-TaskSchedule.next.identity) ∙ sym c.in-Some.ensures.value)))

pub returns-in-None : goal.returns-in-None
returns-in-None c = λ past known unbroken. rw c.in-TaskSchedule.is (at_switch c.in-TaskSchedule.status _ _ c.if-status-eq-SWITCH.true
    (unkept_starts c.in-TaskSchedule.next.identity past unbroken (sym (known.things.created c.in-TaskSchedule.next.identity) ∙ sym c.in-None.ensures.value)))
