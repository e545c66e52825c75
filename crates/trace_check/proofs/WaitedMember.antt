-- The begin of a wait at a barrier, of the task that its thread runs.
use Rattle.std.proofs.Common.{◌≡◌, ℕ, ◌+◌, ◌*◌, ◌<◌, ◌==◌, ◌&&◌, Bool, true, false, cond, List, ◌∷◌, Option, Some, None, refl, sym, ◌∙◌, ap, subst, arith}
use Rattle.std.specs.Prelude.{is_some}
use Rattle.std.specs.Ordering.{nat_cmp}
use Rattle.std.specs.BTreeMap.{BTreeMap, Updates, get}
use Rattle.std.proofs.lemmas.Bool.{eq-eqb}
use Rattle.std.proofs.lemmas.Bool.Decides.{nat_tests}
use Rattle.ompt_calls.specs.declared.call.Call.{Call}
use Rattle.ompt_calls.specs.declared.call.Call.TheVariants.{SyncRegionWait}
use Rattle.ompt_calls.specs.declared.event.EventRecord.{EventRecord}
use Rattle.trace_check.specs.declared.kept.Kept.{Kept}
use Rattle.trace_check.specs.declared.things.Current.{Current}
use Rattle.trace_check.specs.declared.things.Member.{Member}
use Rattle.trace_check.specs.declared.things.Seat.{Seat}
use Rattle.trace_check.specs.Before.{Join, has_left, is_barrier, is_just, joins, left_task, opened, waiter, waits_of}
use Rattle.trace_check.specs.Rules.{first_broken}
use Rattle.trace_check.specs.Checking.{LearnsOf, children_of, member_of, running, seat_in}
use Rattle.trace_check.proofs.Kept12.{KeepsAll, keeps_all}
use Rattle.trace_check.proofs.MadeBefore.{waiter_runs}
use Rattle.trace_check.proofs.MemberParts.{Touches, children_stay, left_same, member_same, open_same, team_same, waits_more, waits_same}
use Rattle.trace_check.proofs.OneMember.{NoRegion, one_gone, one_put, one_unseated, runs_with}

-- what it tells beside the wait
pub record OnlyWaits (call : Call) : Type 0 where
  pub waiting : ℕ
  pub waits : waiter call ≡ Some waiting
  pub leaves : left_task call ≡ None
  pub none : NoRegion call

only_waits : (call : Call) → is_some (waiter call) ≡ true → OnlyWaits call
only_waits (SyncRegionWait kind endpoint region task codeptr) is =
    record {
      waiting = task.identity;
      waits = by-test ((endpoint == 1) && is_barrier kind) is;
      leaves = refl;
      none = record {
        begins = refl;
        ends = refl;
        joins = refl;
        creates = refl;
        starts = refl;
        completes = refl;
        region = refl;
        task = refl;
        held = λ id t before. refl;
      };
    }
  where
    by-test : (b : Bool) → is_some (cond b (Some task.identity) None) ≡ true → cond b (Some task.identity) None ≡ Some task.identity
    by-test true is = refl
    by-test false is = absurd (cc)
only_waits other is = absurd (cc)

-- one wait more
abbrev pub waits_once : Member → Member
waits_once member = record member { waits = member.waits + 1 }

touches_wait : (past : List EventRecord) (event : EventRecord) (only : OnlyWaits event.call) → Touches only.waiting waits_once past event
touches_wait past event only = record {
  regions = λ r. open_same r past event only.none.begins only.none.ends;
  teams = λ r. team_same r past event only.none.joins;
  others = λ join other. member_same past event join (stays join.task)
      (waits_same join.task past event (rw only.waits (flipped join.task only.waiting other)))
      (children_stay join.task past event only.none.creates only.none.completes);
  own = λ join member same is. more join member same is;
}
  where
    flipped : (a b : ℕ) → (a == b) ≡ false → (b == a) ≡ false
    flipped a b other = grind (arith, nat_tests)

    stays : (task : ℕ) → has_left task (event ∷ past) ≡ has_left task past
    stays task = left_same task past event (rw only.leaves refl)

    more : (join : Join) (member : Member) → join.task ≡ only.waiting → member_of past (Some join) ≡ Some member
        → member_of (event ∷ past) (Some join) ≡ Some (waits_once member)
    more join member same is =
        let own : is_just join.task (waiter event.call) ≡ true = rw only.waits (eq-eqb only.waiting join.task (sym same)) in
        let e : record { task = join.task; left = has_left join.task past; waits = waits_of join.task past; children = children_of join.task past } ≡ member =
        cc in
        subst (λ (m : Member). member_of (event ∷ past) (Some join) ≡ Some (waits_once m)) e
        (rw (stays join.task, waits_more join.task past event own, children_stay join.task past event only.none.creates only.none.completes) refl)

-- the task that waits is the one that its thread runs
waiting_runs : (past : List EventRecord) (event : EventRecord) (only : OnlyWaits event.call) (found : Option Current) → first_broken past event ≡ None
    → found ≡ running (joins past) (opened event.thread past) → found ≡ Some (record { task = only.waiting; seat = seat_in only.waiting (joins past) })
waiting_runs past event only found keeps is =
    let all : KeepsAll past event = keeps_all past event keeps in
    runs_with past event.thread only.waiting found is (waiter_runs past event.thread only.waiting event.call all.brackets only.waits)

waiting_seat : (past : List EventRecord) (event : EventRecord) (only : OnlyWaits event.call) (current : Current) → first_broken past event ≡ None
    → Some current ≡ running (joins past) (opened event.thread past) → seat_in only.waiting (joins past) ≡ current.seat
waiting_seat past event only current keeps is =
    let made : Current = record { task = only.waiting; seat = seat_in only.waiting (joins past) } in
    let e : Some current ≡ Some made = waiting_runs past event only (Some current) keeps is in
    let f : made ≡ current = cc in
    ap (λ (c : Current). c.seat) f

-- a thread that runs no task begins no wait
pub waits_nobody : (kept : Kept) (event : EventRecord) → is_some (waiter event.call) ≡ true → LearnsOf None kept kept event
waits_nobody kept event some past runs known unbroken keeps =
    let made : Current = record { task = (only_waits event.call some).waiting; seat = seat_in (only_waits event.call some).waiting (joins past) } in
    let e : None ≡ Some made = waiting_runs past event (only_waits event.call some) None keeps runs in
    absurd (cc)

-- of a task that has no place, or none that is kept, nothing is kept
pub waits_unseated : (kept : Kept) (event : EventRecord) (current : Current) → is_some (waiter event.call) ≡ true → current.seat ≡ None
    → LearnsOf (Some current) kept kept event
waits_unseated kept event current some unseated past runs known unbroken keeps =
    let only : OnlyWaits event.call = only_waits event.call some in
    one_unseated kept only.waiting waits_once past event only.none unbroken (touches_wait past event only)
    (waiting_seat past event only current keeps runs ∙ unseated) known

pub waits_gone : (kept : Kept) (event : EventRecord) (current : Current) (seat : Seat) → is_some (waiter event.call) ≡ true → current.seat ≡ Some seat
    → seat.index < 4294967296
    → get nat_cmp kept.members (seat.region * 4294967296 + seat.index) ≡ None → LearnsOf (Some current) kept kept event
waits_gone kept event current seat some seated below gone past runs known unbroken keeps =
    let only : OnlyWaits event.call = only_waits event.call some in
    one_gone kept only.waiting waits_once past event seat only.none unbroken (touches_wait past event only)
    (waiting_seat past event only current keeps runs ∙ seated) below gone known

-- and one that is kept has one wait more
pub waits_put : (kept : Kept) (members : BTreeMap ℕ Member) (event : EventRecord) (current : Current) (seat : Seat) (member : Member)
    → is_some (waiter event.call) ≡ true → current.seat ≡ Some seat
    → seat.index < 4294967296 → get nat_cmp kept.members (seat.region * 4294967296 + seat.index) ≡ Some member
    → Updates nat_cmp kept.members members (seat.region * 4294967296 + seat.index) (Some (waits_once member))
    → LearnsOf (Some current) kept (record kept { members = members }) event
waits_put kept members event current seat member some seated below there updates past runs known unbroken keeps =
    let only : OnlyWaits event.call = only_waits event.call some in
    one_put kept members only.waiting waits_once past event seat member only.none unbroken (touches_wait past event only)
    (waiting_seat past event only current keeps runs ∙ seated) below there updates known
