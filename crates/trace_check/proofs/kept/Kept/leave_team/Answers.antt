use Rattle.std.proofs.Common.{◌≡◌, ℕ, ◌+◌, ◌*◌, Option, Some, None, sym, ◌∙◌, subst}
use Rattle.std.specs.Ordering.{nat_cmp}
use Rattle.std.specs.BTreeMap.{Updates, get}
use Rattle.trace_check.specs.declared.things.Current.{Current}
use Rattle.trace_check.specs.declared.kept.Kept.{Kept}
use Rattle.trace_check.specs.Checking.{LearnsOf}
use Rattle.trace_check.proofs.kept.Kept.leave_team.Goals as goal
use Rattle.trace_check.proofs.LeftMember.{leaves_gone, leaves_nobody, leaves_now, leaves_put, leaves_unseated}

pub returns-in_default-clause-learned : goal.returns-in_default-clause-learned
returns-in_default-clause-learned c = λ event some.
    let kept : Kept = c.args.self.now in
    subst (λ (found : Option Current). LearnsOf found kept kept event) (sym c.in_default.is) (leaves_nobody kept event some)

pub returns-in_default-seat-clause-learned : goal.returns-in_default-seat-clause-learned
returns-in_default-seat-clause-learned c = λ event some.
    let kept : Kept = c.args.self.now in
    subst (λ (found : Option Current). LearnsOf found kept kept event) (sym c.in-Some.is)
    (leaves_unseated kept event c.in-Some.current some c.in_default-seat.is)

pub returns-in_default-copied-clause-learned : goal.returns-in_default-copied-clause-learned
returns-in_default-copied-clause-learned c = λ event some.
    let kept : Kept = c.args.self.now in
    let gone : get nat_cmp kept.members (c.in-Some-seat.seat.region * 4294967296 + c.in-Some-seat.seat.index) ≡ None =
    subst (λ (key : ℕ). get nat_cmp kept.members key ≡ None) c.member_key-key.ensures.key
    (sym c.get.ensures.value ∙ (sym c.copied.ensures ∙ c.in_default-copied.is)) in
    subst (λ (found : Option Current). LearnsOf found kept kept event) (sym c.in-Some.is)
    (leaves_gone kept event c.in-Some.current c.in-Some-seat.seat some c.in-Some-seat.is c.member_key-key.ensures.fits gone)

pub returns-in-Some-copied-clause-learned : goal.returns-in-Some-copied-clause-learned
returns-in-Some-copied-clause-learned c = λ event some.
    let kept : Kept = c.args.self.now in
    let there : get nat_cmp kept.members (c.in-Some-seat.seat.region * 4294967296 + c.in-Some-seat.seat.index) ≡ Some c.in-Some-copied.member =
    subst (λ (key : ℕ). get nat_cmp kept.members key ≡ Some c.in-Some-copied.member) c.member_key-key.ensures.key
    (sym c.get.ensures.value ∙ (sym c.copied.ensures ∙ c.in-Some-copied.is)) in
    let updates : Updates nat_cmp kept.members c.put_member.new.members (c.in-Some-seat.seat.region * 4294967296 + c.in-Some-seat.seat.index)
    (Some (leaves_now c.in-Some-copied.member)) =
    subst (λ (key : ℕ). Updates nat_cmp kept.members c.put_member.new.members key (Some (leaves_now c.in-Some-copied.member)))
    c.member_key-key.ensures.key c.put_member.ensures in
    subst (λ (found : Option Current). LearnsOf found kept (record kept { members = c.put_member.new.members }) event) (sym c.in-Some.is)
    (leaves_put kept c.put_member.new.members event c.in-Some.current c.in-Some-seat.seat c.in-Some-copied.member some c.in-Some-seat.is
    c.member_key-key.ensures.fits there updates)
