use Rattle.std.proofs.Common.{◌≡◌, ℕ, ◌+◌, ◌*◌, ◌<◌, Option, Some, None, sym, ◌∙◌, subst, subst₂}
use Rattle.std.specs.Option.{SomeIff}
use Rattle.std.specs.Ordering.{nat_cmp}
use Rattle.std.specs.BTreeMap.{Updates, get}
use Rattle.trace_check.specs.declared.things.Current.{Current}
use Rattle.trace_check.specs.declared.kept.Kept.{Kept}
use Rattle.trace_check.specs.Checking.{LearnsOf}
use Rattle.trace_check.proofs.kept.Kept.begin_wait.Goals as goal
use Rattle.trace_check.proofs.WaitedMember.{waits_gone, waits_nobody, waits_once, waits_put, waits_unseated}

pub returns-in_default-clause-learned : goal.returns-in_default-clause-learned
returns-in_default-clause-learned c = λ event some.
    let kept : Kept = c.args.self.now in
    subst (λ (found : Option Current). LearnsOf found kept kept event) (sym c.in_default.is) (waits_nobody kept event some)

pub returns-in_default-seat-clause-learned : goal.returns-in_default-seat-clause-learned
returns-in_default-seat-clause-learned c = λ event some.
    let kept : Kept = c.args.self.now in
    subst (λ (found : Option Current). LearnsOf found kept kept event) (sym c.in-Some.is)
    (waits_unseated kept event c.in-Some.current some c.in_default-seat.is)

pub returns-in_default-copied-clause-learned : goal.returns-in_default-copied-clause-learned
returns-in_default-copied-clause-learned c = λ event some.
    let kept : Kept = c.args.self.now in
    let gone : get nat_cmp kept.members (c.in-Some-seat.seat.region * 4294967296 + c.in-Some-seat.seat.index) ≡ None =
    subst (λ (key : ℕ). get nat_cmp kept.members key ≡ None) c.member_key-key.ensures.key
    (sym c.get.ensures.value ∙ (sym c.copied.ensures ∙ c.in_default-copied.is)) in
    subst (λ (found : Option Current). LearnsOf found kept kept event) (sym c.in-Some.is)
    (waits_gone kept event c.in-Some.current c.in-Some-seat.seat some c.in-Some-seat.is c.member_key-key.ensures.fits gone)

pub returns-clause-learned : goal.returns-clause-learned
returns-clause-learned c = λ event some.
    let kept : Kept = c.args.self.now in
    let there : get nat_cmp kept.members (c.in-Some-seat.seat.region * 4294967296 + c.in-Some-seat.seat.index) ≡ Some c.in-Some-copied.member =
    subst (λ (key : ℕ). get nat_cmp kept.members key ≡ Some c.in-Some-copied.member) c.member_key-key.ensures.key
    (sym c.get.ensures.value ∙ (sym c.copied.ensures ∙ c.in-Some-copied.is)) in
    let one_more : c.in_ok-waits.waits ≡ c.in-Some-copied.member.waits + 1 =
    (subst (λ (sum : Option ℕ). SomeIff sum (c.in-Some-copied.member.waits + 1 < 18446744073709551616) (c.in-Some-copied.member.waits + 1))
    c.in_ok-waits.ensures.ok_part c.checked_add.ensures).1 in
    let updates : Updates nat_cmp kept.members c.put_member.new.members (c.in-Some-seat.seat.region * 4294967296 + c.in-Some-seat.seat.index)
    (Some (waits_once c.in-Some-copied.member)) =
    subst₂ (λ (key waits : ℕ). Updates nat_cmp kept.members c.put_member.new.members key (Some (record c.in-Some-copied.member { waits = waits })))
    c.member_key-key.ensures.key one_more c.put_member.ensures in
    subst (λ (found : Option Current). LearnsOf found kept (record kept { members = c.put_member.new.members }) event) (sym c.in-Some.is)
    (waits_put kept c.put_member.new.members event c.in-Some.current c.in-Some-seat.seat c.in-Some-copied.member some c.in-Some-seat.is
    c.member_key-key.ensures.fits there updates)
