-- What is kept of an implicit task, part by part: after an event that doesn't speak of it, and after one that speaks of it alone.
use Rattle.std.proofs.Common.{◌≡◌, ℕ, ◌+◌, ◌*◌, ◌<◌, ◌==◌, Bool, true, false, cond, not, List, [], ◌∷◌, filter, Option, Some, None, refl, sym, ◌∙◌, ap, ap₂, subst, subst₂, arith, zero-add}
use Rattle.std.specs.List.{list_all}
use Rattle.std.specs.Ordering.{nat_cmp}
use Rattle.std.specs.BTreeMap.{BTreeMap, Updates, get}
use Rattle.std.specs.Cmp.{unsigned_tied}
use Rattle.std.proofs.lemmas.Bool.{eqb-true, eq-eqb}
use Rattle.ompt_calls.specs.declared.event.EventRecord.{EventRecord}
use Rattle.trace_check.specs.declared.things.Member.{Member}
use Rattle.trace_check.specs.declared.things.Seat.{Seat}
use Rattle.trace_check.specs.Before.{Join, creation_of, has_left, is_just, is_open_region, join_of, joins, joins_of, left_task, region_begun, region_ended, task_completed, waiter, waits_of}
use Rattle.trace_check.specs.Checking.{KnownMembers, Unbroken, children_of, join_at, member_known, member_of, seat_in}
use Rattle.trace_check.proofs.Joined.{AtSeat, Distinct, at_seat, distinct, found_is, is_other, join_in, seat_is, seat_of}
use Rattle.trace_check.proofs.TeamTests.{sound_team}
use Rattle.trace_check.proofs.MadeBefore.{waits_cons}
use Rattle.trace_check.proofs.Tests.{apart, left, right}

-- ---- regions and joins that an event leaves

pub open_same : (r : ℕ) (past : List EventRecord) (event : EventRecord) → region_begun event.call ≡ None → region_ended event.call ≡ None
    → is_open_region r (event ∷ past) ≡ is_open_region r past
open_same r past event begun ended = rw (begun, ended) refl

pub team_same : (r : ℕ) (past : List EventRecord) (event : EventRecord) → join_of event.call ≡ None → joins_of r (event ∷ past) ≡ joins_of r past
team_same r past event joined = rw joined refl

-- ---- what a task has done

pub left_same : (task : ℕ) (past : List EventRecord) (event : EventRecord) → is_just task (left_task event.call) ≡ false
    → has_left task (event ∷ past) ≡ has_left task past
left_same task past event other = rw other refl

pub left_now : (task : ℕ) (past : List EventRecord) (event : EventRecord) → is_just task (left_task event.call) ≡ true → has_left task (event ∷ past) ≡ true
left_now task past event own = rw own refl

pub waits_same : (task : ℕ) (past : List EventRecord) (event : EventRecord) → is_just task (waiter event.call) ≡ false
    → waits_of task (event ∷ past) ≡ waits_of task past
waits_same task past event other = waits_cons task event past ∙ rw (other, zero-add) refl

pub waits_more : (task : ℕ) (past : List EventRecord) (event : EventRecord) → is_just task (waiter event.call) ≡ true
    → waits_of task (event ∷ past) ≡ waits_of task past + 1
waits_more task past event own = waits_cons task event past ∙ rw own (omega arith)

pub children_stay : (task : ℕ) (past : List EventRecord) (event : EventRecord) → creation_of event.call ≡ None → task_completed event.call ≡ None
    → children_of task (event ∷ past) ≡ children_of task past
children_stay task past event creates completes = rw (creates, completes) refl

-- so it is kept as it was
pub member_same : (past : List EventRecord) (event : EventRecord) (join : Join) → has_left join.task (event ∷ past) ≡ has_left join.task past
    → waits_of join.task (event ∷ past) ≡ waits_of join.task past
    → children_of join.task (event ∷ past) ≡ children_of join.task past → member_of (event ∷ past) (Some join) ≡ member_of past (Some join)
member_same past event join leaves waits children = rw (leaves, waits, children) refl

-- each in an open region, where that and its joins are as before
known_same : (r index : ℕ) (past : List EventRecord) (event : EventRecord) → is_open_region r (event ∷ past) ≡ is_open_region r past
    → joins_of r (event ∷ past) ≡ joins_of r past
    → ((join : Join) → join_at index (joins_of r past) ≡ Some join → member_of (event ∷ past) (Some join) ≡ member_of past (Some join))
    → member_known r index (event ∷ past) ≡ member_known r index past
known_same r index past event opens team same =
    ap₂ (λ (b : Bool) (joined : List Join). cond b (member_of (event ∷ past) (join_at index joined)) None) opens team
    ∙ ap (λ (member : Option Member). cond (is_open_region r past) member None) (by-join (join_at index (joins_of r past)) refl)
  where
    by-join : (join : Option Join) → join_at index (joins_of r past) ≡ join → member_of (event ∷ past) join ≡ member_of past join
    by-join None is = refl
    by-join (Some join) is = same join is

-- ---- an event that speaks of no implicit task

pub members_stay : (members : BTreeMap ℕ Member) (past : List EventRecord) (event : EventRecord) → region_begun event.call ≡ None
    → region_ended event.call ≡ None → join_of event.call ≡ None
    → left_task event.call ≡ None → waiter event.call ≡ None → creation_of event.call ≡ None → task_completed event.call ≡ None
    → KnownMembers members past → KnownMembers members (event ∷ past)
members_stay members past event begun ended joined leaves waits creates completes known r index fits =
    known r index fits ∙ sym (known_same r index past event (open_same r past event begun ended) (team_same r past event joined) (λ join is. same join))
  where
    none : (task : ℕ) (found : Option ℕ) → found ≡ None → is_just task found ≡ false
    none task found is = rw is refl

    same : (join : Join) → member_of (event ∷ past) (Some join) ≡ member_of past (Some join)
    same join = member_same past event join
        (left_same join.task past event (none join.task (left_task event.call) leaves))
        (waits_same join.task past event (none join.task (waiter event.call) waits))
        (children_stay join.task past event creates completes)

-- ---- one that speaks of one task

-- the join at a place is that of its task
no_join : (task : ℕ) (all : List Join) → list_all (is_other task) all ≡ true → join_in task all ≡ None
no_join task [] others = refl
no_join task (join ∷ all) others =
    by-test (join.task == task) (left (not (join.task == task)) _ others) (no_join task all (right (not (join.task == task)) _ others))
  where
    by-test : (b : Bool) → not b ≡ true → join_in task all ≡ None → cond b (Some join) (join_in task all) ≡ None
    by-test true other rest = absurd (cc)
    by-test false other rest = rest

pub record OwnPlace (r place : ℕ) (all : List Join) (join : Join) : Type 0 where
  pub found : join_in join.task all ≡ Some join
  pub region : join.region ≡ r
  pub index : join.index ≡ place

own_place : (r index : ℕ) (all : List Join) (join : Join) → Distinct all → join_at index (filter (λ (other : Join). other.region == r) all) ≡ Some join
    → OwnPlace r index all join
own_place r index [] join sound is = absurd (cc)
own_place r index (first ∷ all) join sound is = by-region (first.region == r) refl is (own_place r index all join sound.1)
  where
    later : OwnPlace r index all join → OwnPlace r index (first ∷ all) join
    later place = record { found = by-test (first.task == join.task) refl; region = place.region; index = place.index }
      where
        none-some : (found : Option Join) → found ≡ None → found ≡ Some join → ⊥
        none-some found none some = cc

        by-test : (b : Bool) → (first.task == join.task) ≡ b → cond b (Some first) (join_in join.task all) ≡ Some join
        by-test true same =
            absurd (none-some (join_in join.task all)
            (no_join join.task all (subst (λ (n : ℕ). list_all (is_other n) all ≡ true) (eqb-true first.task join.task same) sound.0)) place.found)
        by-test false same = place.found

    now : first ≡ join → (first.region == r) ≡ true → (first.index == index) ≡ true → OwnPlace r index (first ∷ all) join
    now same region place = subst (λ (j : Join). OwnPlace r index (first ∷ all) j) same (record {
      found = rw (eq-eqb first.task first.task refl) refl;
      region = eqb-true first.region r region;
      index = eqb-true first.index index place;
    })

    by-index : (b : Bool) → (first.region == r) ≡ true → (first.index == index) ≡ b
        → cond b (Some first) (join_at index (filter (λ (other : Join). other.region == r) all)) ≡ Some join
        → (join_at index (filter (λ (other : Join). other.region == r) all) ≡ Some join → OwnPlace r index all join) → OwnPlace r index (first ∷ all) join
    by-index true region place is rest = let e : first ≡ join = cc in now e region place
    by-index false region place is rest = later (rest is)

    by-region : (b : Bool) → (first.region == r) ≡ b
        → join_at index (cond b (first ∷ filter (λ (other : Join). other.region == r) all) (filter (λ (other : Join). other.region == r) all)) ≡ Some join
        → (join_at index (filter (λ (other : Join). other.region == r) all) ≡ Some join → OwnPlace r index all join) → OwnPlace r index (first ∷ all) join
    by-region true region is rest = by-index (first.index == index) region refl is rest
    by-region false region is rest = later (rest is)

-- what is kept of the task becomes this, and what is kept of others stays
pub record Touches (task : ℕ) (next : Member → Member) (past : List EventRecord) (event : EventRecord) : Type 0 where
  pub regions : (r : ℕ) → is_open_region r (event ∷ past) ≡ is_open_region r past
  pub teams : (r : ℕ) → joins_of r (event ∷ past) ≡ joins_of r past
  pub others : (join : Join) → (join.task == task) ≡ false → member_of (event ∷ past) (Some join) ≡ member_of past (Some join)
  pub own : (join : Join) (member : Member) → join.task ≡ task → member_of past (Some join) ≡ Some member
      → member_of (event ∷ past) (Some join) ≡ Some (next member)

-- a place that isn't the task's
place_same : (task : ℕ) (next : Member → Member) (past : List EventRecord) (event : EventRecord) (r index : ℕ) → Touches task next past event
    → ((join : Join) → join_at index (joins_of r past) ≡ Some join → join.task ≡ task → ⊥) → member_known r index (event ∷ past) ≡ member_known r index past
place_same task next past event r index touches other =
    known_same r index past event (touches.regions r) (touches.teams r) (λ join is. touches.others join (differs join is (join.task == task) refl))
  where
    differs : (join : Join) → join_at index (joins_of r past) ≡ Some join → (b : Bool) → (join.task == task) ≡ b → b ≡ false
    differs join is true same = absurd (other join is (eqb-true join.task task same))
    differs join is false same = refl

-- the place of a task that stands at one
place_seat : (task r index : ℕ) (past : List EventRecord) (join : Join) → Unbroken past → join_at index (joins_of r past) ≡ Some join → join.task ≡ task
    → seat_in task (joins past) ≡ Some (record { region = r; index = index })
place_seat task r index past join unbroken is same =
    let place : OwnPlace r index (joins past) join = own_place r index (joins past) join (distinct past unbroken) is in
    seat_is task (joins past) ∙ ap seat_of (subst (λ (n : ℕ). join_in n (joins past) ≡ Some join) same place.found) ∙ rw (place.region, place.index) refl

-- where the task has no place nothing is kept of it
pub members_unseated : (members : BTreeMap ℕ Member) (task : ℕ) (next : Member → Member) (past : List EventRecord) (event : EventRecord) → Unbroken past
    → Touches task next past event
    → seat_in task (joins past) ≡ None → KnownMembers members past → KnownMembers members (event ∷ past)
members_unseated members task next past event unbroken touches none known r index fits =
    known r index fits ∙ sym (place_same task next past event r index touches
    (λ join is same. nowhere (seat_in task (joins past)) none (place_seat task r index past join unbroken is same)))
  where
    nowhere : (found : Option Seat) → found ≡ None → found ≡ Some (record { region = r; index = index }) → ⊥
    nowhere found none some = cc

-- nor where nothing is kept of its place
pub members_gone : (members : BTreeMap ℕ Member) (task : ℕ) (next : Member → Member) (past : List EventRecord) (event : EventRecord) (seat : Seat)
    → Unbroken past → Touches task next past event
    → seat_in task (joins past) ≡ Some seat → seat.index < 4294967296 → get nat_cmp members (seat.region * 4294967296 + seat.index) ≡ None
    → KnownMembers members past → KnownMembers members (event ∷ past)
members_gone members task next past event seat unbroken touches is below none known r index fits =
    known r index fits ∙ sym (by-open (is_open_region r past) refl)
  where
    seated : (join : Join) → join_at index (joins_of r past) ≡ Some join → join.task ≡ task → seat ≡ record { region = r; index = index }
    seated join found same =
        let e : seat_in task (joins past) ≡ Some (record { region = r; index = index }) = place_seat task r index past join unbroken found same in
        cc

    missing : (join : Join) → is_open_region r past ≡ true → join_at index (joins_of r past) ≡ Some join → join.task ≡ task → ⊥
    missing join is-open found same =
        let e : seat ≡ record { region = r; index = index } = seated join found same in
        let f : get nat_cmp members (r * 4294967296 + index) ≡ None =
        subst (λ (s : Seat). get nat_cmp members (s.region * 4294967296 + s.index) ≡ None) e none in
        let g : get nat_cmp members (r * 4294967296 + index) ≡ member_of past (Some join) = known r index fits ∙ rw (is-open, found) refl in
        absurd (cc)

    by-open : (b : Bool) → is_open_region r past ≡ b → member_known r index (event ∷ past) ≡ member_known r index past
    by-open true is-open = place_same task next past event r index touches (λ join found same. missing join is-open found same)
    by-open false is-open = rw (touches.regions r, is-open) refl

-- and where it is kept, the new value stands at its place
pub members_put : (old new : BTreeMap ℕ Member) (task : ℕ) (next : Member → Member) (past : List EventRecord) (event : EventRecord) (seat : Seat)
    (member : Member) → Unbroken past
    → Touches task next past event → seat_in task (joins past) ≡ Some seat → seat.index < 4294967296
    → get nat_cmp old (seat.region * 4294967296 + seat.index) ≡ Some member
    → Updates nat_cmp old new (seat.region * 4294967296 + seat.index) (Some (next member)) → KnownMembers old past → KnownMembers new (event ∷ past)
members_put old new task next past event seat member unbroken touches is below kept updates known r index fits =
    updates.0 (r * 4294967296 + index)
    ∙ rw (unsigned_tied (seat.region * 4294967296 + seat.index) (r * 4294967296 + index))
    (by-key (seat.region * 4294967296 + seat.index == r * 4294967296 + index) refl)
  where
    -- the keys are one where the places are
    one_region : (s j : ℕ) → j < 4294967296 → (s * 4294967296 + j == r * 4294967296 + index) ≡ true → s ≡ r
    one_region s j less same = let e : s * 4294967296 + j ≡ r * 4294967296 + index = eqb-true _ _ same in omega (arith, e, less, fits)

    one_index : (s j : ℕ) → j < 4294967296 → (s * 4294967296 + j == r * 4294967296 + index) ≡ true → j ≡ index
    one_index s j less same = let e : s * 4294967296 + j ≡ r * 4294967296 + index = eqb-true _ _ same in omega (arith, e, less, fits)

    one_key : (s : Seat) → s ≡ record { region = r; index = index } → (s.region * 4294967296 + s.index == r * 4294967296 + index) ≡ true
    one_key s same = rw same (eq-eqb (r * 4294967296 + index) (r * 4294967296 + index) refl)

    seated : (join : Join) → join_at index (joins_of r past) ≡ Some join → join.task ≡ task → seat ≡ record { region = r; index = index }
    seated join found same =
        let e : seat_in task (joins past) ≡ Some (record { region = r; index = index }) = place_seat task r index past join unbroken found same in
        cc

    -- the task's own join is at its place
    own_join : (found : Option Join) → join_in task (joins past) ≡ found → seat_of found ≡ Some seat
        → (join : Join) × (join_at seat.index (joins_of seat.region past) ≡ Some join) × (join.task ≡ task)
    own_join None here seat-is = absurd (cc)
    own_join (Some join) here seat-is =
        let made : Seat = record { region = join.region; index = join.index } in
        let e : made ≡ seat = cc in
        let at : AtSeat join (joins_of join.region past) = at_seat task (joins past) join here (sound_team join.region past unbroken) in
        (join, subst (λ (s : Seat). join_at s.index (joins_of s.region past) ≡ Some join) e at.there, found_is task (joins past) join here)

    at-place : (s i : ℕ) (b : Bool) (join : Join) → is_open_region s past ≡ b → join_at i (joins_of s past) ≡ Some join → join.task ≡ task
        → member_known s i past ≡ Some member → Some (next member) ≡ member_known s i (event ∷ past)
    at-place s i false join is-open found same kept-so = let e : member_known s i past ≡ None = rw is-open refl in absurd (cc)
    at-place s i true join is-open found same kept-so =
        let e : member_known s i past ≡ member_of past (Some join) = rw (is-open, found) refl in
        rw (touches.regions s, is-open, touches.teams s, found) (sym (touches.own join member same (sym e ∙ kept-so)))

    by-key : (b : Bool) → (seat.region * 4294967296 + seat.index == r * 4294967296 + index) ≡ b
        → cond b (Some (next member)) (get nat_cmp old (r * 4294967296 + index)) ≡ member_known r index (event ∷ past)
    by-key true same =
        let own : (join : Join) × (join_at seat.index (joins_of seat.region past) ≡ Some join) × (join.task ≡ task) =
        own_join (join_in task (joins past)) refl (sym (seat_is task (joins past)) ∙ is) in
        let e : seat.region ≡ r = one_region seat.region seat.index below same in
        let f : seat.index ≡ index = one_index seat.region seat.index below same in
        subst₂ (λ (s i : ℕ). Some (next member) ≡ member_known s i (event ∷ past)) e f
        (at-place seat.region seat.index (is_open_region seat.region past) own.0 refl own.1 own.2 (sym (known seat.region seat.index below) ∙ kept))
    by-key false same =
        known r index fits ∙ sym (place_same task next past event r index touches
        (λ join found own. apart (seat.region * 4294967296 + seat.index == r * 4294967296 + index) (one_key seat (seated join found own)) same))
