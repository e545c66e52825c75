-- The end of an implicit task, of the task that its thread runs.
use Rattle.std.proofs.Common.{◌≡◌, ℕ, ◌+◌, ◌*◌, ◌<◌, ◌==◌, Bool, true, false, cond, List, ◌∷◌, Option, Some, None, refl, sym, ◌∙◌, ap, subst, arith}
use Rattle.std.specs.Prelude.{is_some}
use Rattle.std.specs.Ordering.{nat_cmp}
use Rattle.std.specs.BTreeMap.{BTreeMap, Updates, get}
use Rattle.std.proofs.lemmas.Bool.{eq-eqb}
use Rattle.std.proofs.lemmas.Bool.Decides.{nat_tests}
use Rattle.ompt_calls.specs.declared.call.Call.{Call}
use Rattle.ompt_calls.specs.declared.call.Call.TheVariants.{ImplicitTask}
use Rattle.ompt_calls.specs.declared.event.EventRecord.{EventRecord}
use Rattle.trace_check.specs.declared.kept.Kept.{Kept}
use Rattle.trace_check.specs.declared.things.Current.{Current}
use Rattle.trace_check.specs.declared.things.Member.{Member}
use Rattle.trace_check.specs.declared.things.Seat.{Seat}
use Rattle.trace_check.specs.Before.{Join, has_left, is_just, joins, left_task, opened, waiter, waits_of}
use Rattle.trace_check.specs.Rules.{first_broken}
use Rattle.trace_check.specs.Checking.{LearnsOf, children_of, member_of, running, seat_in}
use Rattle.trace_check.proofs.Kept12.{KeepsAll, keeps_all}
use Rattle.trace_check.proofs.MadeBefore.{left_runs}
use Rattle.trace_check.proofs.MemberParts.{Touches, children_stay, left_now, left_same, member_same, open_same, team_same, waits_same}
use Rattle.trace_check.proofs.OneMember.{NoRegion, one_gone, one_put, one_unseated, runs_with}

-- what it tells beside the end
pub record OnlyLeaves (call : Call) : Type 0 where
  pub leaving : ℕ
  pub leaves : left_task call ≡ Some leaving
  pub waits : waiter call ≡ None
  pub none : NoRegion call

only_leaves : (call : Call) → is_some (left_task call) ≡ true → OnlyLeaves call
only_leaves (ImplicitTask endpoint region task actual index flags) is =
    let ends : (endpoint == 2) ≡ true = by-test (endpoint == 2) is in
    let begins : (endpoint == 1) ≡ false = one_end endpoint ends in
    record {
      leaving = task.identity;
      leaves = rw ends refl;
      waits = refl;
      none = record {
        begins = refl;
        ends = refl;
        joins = rw begins refl;
        creates = refl;
        starts = refl;
        completes = refl;
        region = refl;
        task = rw begins refl;
        held = λ id t before. refl;
      };
    }
  where
    by-test : (b : Bool) → is_some (cond b (Some task.identity) None) ≡ true → b ≡ true
    by-test true is = refl
    by-test false is = absurd (cc)

    one_end : (s : ℕ) → (s == 2) ≡ true → (s == 1) ≡ false
    one_end s two = grind (arith, nat_tests)
only_leaves other is = absurd (cc)

-- it has its end
abbrev pub leaves_now : Member → Member
leaves_now member = record member { left = true }

touches_end : (past : List EventRecord) (event : EventRecord) (only : OnlyLeaves event.call) → Touches only.leaving leaves_now past event
touches_end past event only = record {
  regions = λ r. open_same r past event only.none.begins only.none.ends;
  teams = λ r. team_same r past event only.none.joins;
  others = λ join other. member_same past event join (left_same join.task past event (rw only.leaves (flipped join.task only.leaving other)))
      (stays join.task) (children_stay join.task past event only.none.creates only.none.completes);
  own = λ join member same is. now join member same is;
}
  where
    flipped : (a b : ℕ) → (a == b) ≡ false → (b == a) ≡ false
    flipped a b other = grind (arith, nat_tests)

    stays : (task : ℕ) → waits_of task (event ∷ past) ≡ waits_of task past
    stays task = waits_same task past event (rw only.waits refl)

    now : (join : Join) (member : Member) → join.task ≡ only.leaving → member_of past (Some join) ≡ Some member
        → member_of (event ∷ past) (Some join) ≡ Some (leaves_now member)
    now join member same is =
        let own : is_just join.task (left_task event.call) ≡ true = rw only.leaves (eq-eqb only.leaving join.task (sym same)) in
        let e : record { task = join.task; left = has_left join.task past; waits = waits_of join.task past; children = children_of join.task past } ≡ member =
        cc in
        subst (λ (m : Member). member_of (event ∷ past) (Some join) ≡ Some (leaves_now m)) e
        (rw (left_now join.task past event own, stays join.task, children_stay join.task past event only.none.creates only.none.completes) refl)

-- the task that ends is the one that its thread runs
leaving_runs : (past : List EventRecord) (event : EventRecord) (only : OnlyLeaves event.call) (found : Option Current) → first_broken past event ≡ None
    → found ≡ running (joins past) (opened event.thread past) → found ≡ Some (record { task = only.leaving; seat = seat_in only.leaving (joins past) })
leaving_runs past event only found keeps is =
    let all : KeepsAll past event = keeps_all past event keeps in
    runs_with past event.thread only.leaving found is (left_runs past event.thread only.leaving event.call all.brackets only.leaves)

leaving_seat : (past : List EventRecord) (event : EventRecord) (only : OnlyLeaves event.call) (current : Current) → first_broken past event ≡ None
    → Some current ≡ running (joins past) (opened event.thread past) → seat_in only.leaving (joins past) ≡ current.seat
leaving_seat past event only current keeps is =
    let made : Current = record { task = only.leaving; seat = seat_in only.leaving (joins past) } in
    let e : Some current ≡ Some made = leaving_runs past event only (Some current) keeps is in
    let f : made ≡ current = cc in
    ap (λ (c : Current). c.seat) f

-- a thread that runs no task ends none
pub leaves_nobody : (kept : Kept) (event : EventRecord) → is_some (left_task event.call) ≡ true → LearnsOf None kept kept event
leaves_nobody kept event some past runs known unbroken keeps =
    let made : Current = record { task = (only_leaves event.call some).leaving; seat = seat_in (only_leaves event.call some).leaving (joins past) } in
    let e : None ≡ Some made = leaving_runs past event (only_leaves event.call some) None keeps runs in
    absurd (cc)

-- of a task that has no place, or none that is kept, nothing is kept
pub leaves_unseated : (kept : Kept) (event : EventRecord) (current : Current) → is_some (left_task event.call) ≡ true → current.seat ≡ None
    → LearnsOf (Some current) kept kept event
leaves_unseated kept event current some unseated past runs known unbroken keeps =
    let only : OnlyLeaves event.call = only_leaves event.call some in
    one_unseated kept only.leaving leaves_now past event only.none unbroken (touches_end past event only)
    (leaving_seat past event only current keeps runs ∙ unseated) known

pub leaves_gone : (kept : Kept) (event : EventRecord) (current : Current) (seat : Seat) → is_some (left_task event.call) ≡ true → current.seat ≡ Some seat
    → seat.index < 4294967296
    → get nat_cmp kept.members (seat.region * 4294967296 + seat.index) ≡ None → LearnsOf (Some current) kept kept event
leaves_gone kept event current seat some seated below gone past runs known unbroken keeps =
    let only : OnlyLeaves event.call = only_leaves event.call some in
    one_gone kept only.leaving leaves_now past event seat only.none unbroken (touches_end past event only)
    (leaving_seat past event only current keeps runs ∙ seated) below gone known

-- and one that is kept has its end
pub leaves_put : (kept : Kept) (members : BTreeMap ℕ Member) (event : EventRecord) (current : Current) (seat : Seat) (member : Member)
    → is_some (left_task event.call) ≡ true → current.seat ≡ Some seat
    → seat.index < 4294967296 → get nat_cmp kept.members (seat.region * 4294967296 + seat.index) ≡ Some member
    → Updates nat_cmp kept.members members (seat.region * 4294967296 + seat.index) (Some (leaves_now member))
    → LearnsOf (Some current) kept (record kept { members = members }) event
leaves_put kept members event current seat member some seated below there updates past runs known unbroken keeps =
    let only : OnlyLeaves event.call = only_leaves event.call some in
    one_put kept members only.leaving leaves_now past event seat member only.none unbroken (touches_end past event only)
    (leaving_seat past event only current keeps runs ∙ seated) below there updates known
