use Rattle.std.proofs.Common.{◌≡◌, ℕ, None, Some, sym, ◌∙◌, subst}
use Rattle.std.specs.Ordering.{nat_cmp}
use Rattle.std.specs.BTreeMap.{get}
use Rattle.trace_check.specs.Before.{joins, opened}
use Rattle.trace_check.specs.Checking.{member_known}
use Rattle.trace_check.proofs.kept.Kept.children_of.Goals as goal
use Rattle.trace_check.proofs.Joined.{join_in, running_task, seat_of}
use Rattle.trace_check.proofs.Counted.{created_count, member_count, member_there, no_seat, one_other, unseated_stands}

pub returns-in-Some-get-clause-counted : goal.returns-in-Some-get-clause-counted
returns-in-Some-get-clause-counted c = λ past t known unbroken run.
    let seat : seat_of (join_in c.args.current.task (joins past)) ≡ Some c.in-Some.seat = sym (running_task (joins past) (opened t past) c.args.current run).1 ∙ c.in-Some.is in
    let key : get nat_cmp c.args.self.now.members c.member_key.result ≡ member_known c.in-Some.seat.region c.in-Some.seat.index past =
    subst (λ (k : ℕ). get nat_cmp c.args.self.now.members k ≡ member_known c.in-Some.seat.region c.in-Some.seat.index past) (sym c.member_key.ensures.key) (known.members c.in-Some.seat.region c.in-Some.seat.index c.member_key.ensures.fits) in
    member_count c.args.current.task past c.in-Some.seat c.in-Some-get.member.now unbroken seat (sym key ∙ sym c.in-Some-get.ensures.value)

pub returns-in-None-get-clause-counted : goal.returns-in-None-get-clause-counted
returns-in-None-get-clause-counted c = λ past t known unbroken run.
    let seat : seat_of (join_in c.args.current.task (joins past)) ≡ Some c.in-Some.seat = sym (running_task (joins past) (opened t past) c.args.current run).1 ∙ c.in-Some.is in
    let key : get nat_cmp c.args.self.now.members c.member_key.result ≡ member_known c.in-Some.seat.region c.in-Some.seat.index past =
    subst (λ (k : ℕ). get nat_cmp c.args.self.now.members k ≡ member_known c.in-Some.seat.region c.in-Some.seat.index past) (sym c.member_key.ensures.key) (known.members c.in-Some.seat.region c.in-Some.seat.index c.member_key.ensures.fits) in
    absurd (member_there c.args.current.task t past c.in-Some.seat unbroken (one_other c.args.current.task c.if-current-eq-INITIAL_TASK.false)
    (running_task (joins past) (opened t past) c.args.current run).0 seat (sym key ∙ sym c.in-None-get.ensures.value))

pub returns-in-Some-get-2-clause-counted : goal.returns-in-Some-get-2-clause-counted
returns-in-Some-get-2-clause-counted c = λ past t known unbroken run.
    created_count c.args.current.task past c.in-Some-get-2.created.now (sym (known.created c.args.current.task) ∙ sym c.in-Some-get-2.ensures.value)

pub returns-in-None-get-2-clause-counted : goal.returns-in-None-get-2-clause-counted
returns-in-None-get-2-clause-counted c = λ past t known unbroken run.
    let none : seat_of (join_in c.args.current.task (joins past)) ≡ None = sym (running_task (joins past) (opened t past) c.args.current run).1 ∙ c.in-None.is in
    absurd (unseated_stands c.args.current.task t past unbroken (one_other c.args.current.task c.if-current-eq-INITIAL_TASK.false)
    (running_task (joins past) (opened t past) c.args.current run).0 (no_seat (join_in c.args.current.task (joins past)) none) (sym (known.created c.args.current.task) ∙ sym c.in-None-get-2.ensures.value))
