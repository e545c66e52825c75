use Rattle.std.proofs.Common.{◌≡◌, ℕ, ◌==◌, false, None, Some, sym, ◌∙◌, subst, arith}
use Rattle.std.proofs.lemmas.Bool.Decides.{nat_tests}
use Rattle.std.specs.Ordering.{nat_cmp}
use Rattle.std.specs.BTreeMap.{get}
use Rattle.trace_check.specs.Before.{joins, opened}
use Rattle.trace_check.specs.Checking.{member_known}
use Rattle.trace_check.proofs.kept.Kept.may_pass.Goals as goal
use Rattle.trace_check.proofs.Joined.{Passes, join_in, passes_gone, passes_seated, passes_unseated, running_task, seat_of}

other_task : (task : ℕ) → (task ≡ 1 → ⊥) → (task == 1) ≡ false
other_task task other = grind (arith, nat_tests)

pub returns-in_default : goal.returns-in_default
returns-in_default c = λ past t known unbroken run.
    let seat : seat_of (join_in c.args.current.task (joins past)) ≡ None = sym (running_task (joins past) (opened t past) c.args.current run).1 ∙ c.in_default.is in
    passes_unseated past c.args.current.task unbroken (other_task c.args.current.task c.if-current-eq-INITIAL_TASK.false) seat

pub returns-in-Some-get : goal.returns-in-Some-get
returns-in-Some-get c = λ past t known unbroken run.
    let seat : seat_of (join_in c.args.current.task (joins past)) ≡ Some c.in-Some.seat = sym (running_task (joins past) (opened t past) c.args.current run).1 ∙ c.in-Some.is in
    let key : get nat_cmp c.args.self.now.members c.member_key.result ≡ member_known c.in-Some.seat.region c.in-Some.seat.index past =
    subst (λ (k : ℕ). get nat_cmp c.args.self.now.members k ≡ member_known c.in-Some.seat.region c.in-Some.seat.index past) (sym c.member_key.ensures.key) (known.things.members c.in-Some.seat.region c.in-Some.seat.index c.member_key.ensures.fits) in
    let kept : member_known c.in-Some.seat.region c.in-Some.seat.index past ≡ Some c.in-Some-get.member.now = sym key ∙ sym c.in-Some-get.ensures.value in
    let passes : Passes past c.in-Some.seat c.args.current.task c.in-Some-get.member.now.waits =
    passes_seated past c.args.current.task c.in-Some.seat c.in-Some-get.member.now unbroken (other_task c.args.current.task c.if-current-eq-INITIAL_TASK.false) seat kept in
    c.have_waited.ensures past passes.actual known unbroken passes.is_open passes.size ∙ passes.is

pub returns-in-None : goal.returns-in-None
returns-in-None c = λ past t known unbroken run.
    let seat : seat_of (join_in c.args.current.task (joins past)) ≡ Some c.in-Some.seat = sym (running_task (joins past) (opened t past) c.args.current run).1 ∙ c.in-Some.is in
    let key : get nat_cmp c.args.self.now.members c.member_key.result ≡ member_known c.in-Some.seat.region c.in-Some.seat.index past =
    subst (λ (k : ℕ). get nat_cmp c.args.self.now.members k ≡ member_known c.in-Some.seat.region c.in-Some.seat.index past) (sym c.member_key.ensures.key) (known.things.members c.in-Some.seat.region c.in-Some.seat.index c.member_key.ensures.fits) in
    passes_gone past c.args.current.task c.in-Some.seat unbroken (other_task c.args.current.task c.if-current-eq-INITIAL_TASK.false) seat (sym key ∙ sym c.in-None.ensures.value)
