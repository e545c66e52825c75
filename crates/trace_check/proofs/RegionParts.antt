-- The open regions and their implicit tasks after an event that joins none.
use Rattle.std.proofs.Common.{◌≡◌, ℕ, ◌+◌, ◌≤◌, ◌==◌, ◌&&◌, ◌||◌, Bool, true, false, cond, List, ◌∷◌, length, filter, Option, Some, None, Equal, Greater, Less, refl, sym, ◌∙◌, ap, arith, zero-add}
use Rattle.std.specs.Prelude.{nat_le, nat_lt}
use Rattle.std.specs.List.{list_any, range_with_len}
use Rattle.std.specs.Ordering.{is_eq, nat_cmp}
use Rattle.std.specs.BTreeMap.{is_at}
use Rattle.std.proofs.lemmas.Bool.Decides.{nat_tests}
use Rattle.std.proofs.lemmas.List.Sums.{sum_by-cons}
use Rattle.ompt_calls.specs.declared.event.EventRecord.{EventRecord}
use Rattle.trace_check.specs.declared.things.Member.{Member}
use Rattle.trace_check.specs.declared.things.Region.{Region}
use Rattle.trace_check.specs.Before.{Join, and_more, has_left, is_just, is_open_region, join_of, joins, joins_of, region_begun, region_ended, waiter, waits_of}
use Rattle.trace_check.specs.Checking.{IsRegion, children_of, join_at, member_known, member_of, team_size}
use Rattle.trace_check.specs.Rules.{have_waited}
use Rattle.trace_check.proofs.RegionCalls.{TellsNoTask}
use Rattle.trace_check.proofs.TeamTests.{all_mono, any_mono}

-- another key isn't at the key of an update
pub beside_key : (key q : ℕ) → (key == q) ≡ false → is_at (nat_cmp key) q ≡ false
beside_key key q other = by-tests (nat_lt key q) (key == q) other
  where
    by-tests : (less same : Bool) → same ≡ false → is_eq (cond less Less (cond same Equal Greater)) ≡ false
    by-tests true same other = refl
    by-tests false true other = absurd (cc)
    by-tests false false other = refl

-- the waits of a task only grow
waits_grow : (task : ℕ) (past : List EventRecord) (event : EventRecord) → waits_of task past ≤ waits_of task (event ∷ past)
waits_grow task past event = more _ _ _ (sum_by-cons (λ (x : EventRecord). cond (is_just task (waiter x.call)) 1 0) event past)
  where
    more : (a b c : ℕ) → a ≡ b + c → c ≤ a
    more a b c is = omega arith

-- so many waits have begun still
pub waited_still : (past : List EventRecord) (event : EventRecord) (r actual waits : ℕ) → have_waited past r actual waits ≡ true
    → have_waited (event ∷ past) r actual waits ≡ true
waited_still past event r actual waits holds =
    all_mono _ _ (λ index is. joined index (join_of event.call)
    (any_mono _ _ (λ join. at-join (join.index == index) (waits_of join.task past) (waits_of join.task (event ∷ past)) (waits_grow join.task past event))
    (joins_of r past) is))
    (range_with_len 0 actual) holds
  where
    at-join : (b : Bool) (before after : ℕ) → before ≤ after → (b && nat_le waits before) ≡ true → (b && nat_le waits after) ≡ true
    at-join true before after more holds = grind (arith, nat_tests)
    at-join false before after more holds = holds

    has_waits : ℕ → Join → Bool
    has_waits index join = (join.index == index) && nat_le waits (waits_of join.task (event ∷ past))

    one_more : (b : Bool) → (b || true) ≡ true
    one_more true = refl
    one_more false = refl

    by-region : (index : ℕ) (join : Join) (b : Bool) → list_any (has_waits index) (joins_of r past) ≡ true
        → list_any (has_waits index) (cond b (join ∷ joins_of r past) (joins_of r past)) ≡ true
    by-region index join true is = rw is (one_more (has_waits index join))
    by-region index join false is = is

    joined : (index : ℕ) (join : Option Join) → list_any (has_waits index) (joins_of r past) ≡ true
        → list_any (has_waits index) (filter (λ (join : Join). join.region == r) (and_more join (joins past))) ≡ true
    joined index None is = is
    joined index (Some join) is = by-region index join (join.region == r) is

-- what begins and ends no region leaves each as it is, and what joins none leaves the team
pub region_stays : (r : ℕ) (past : List EventRecord) (event : EventRecord) → region_begun event.call ≡ None → region_ended event.call ≡ None
    → is_open_region r (event ∷ past) ≡ is_open_region r past
region_stays r past event begins ends = rw (begins, ends) refl

pub team_stays : (r : ℕ) (past : List EventRecord) (event : EventRecord) → join_of event.call ≡ None → joins_of r (event ∷ past) ≡ joins_of r past
team_stays r past event joins = rw joins refl

-- a region that is open still, or not open still, with the same team
pub region_still : (r : ℕ) (past : List EventRecord) (event : EventRecord) (found : Option Region) → is_open_region r (event ∷ past) ≡ is_open_region r past
    → joins_of r (event ∷ past) ≡ joins_of r past → IsRegion r past found → IsRegion r (event ∷ past) found
region_still r past event None still same shut = still ∙ shut
region_still r past event (Some region) still same kept = record {
  is_open = still ∙ kept.is_open;
  actual = kept.actual ∙ ap (λ (team : List Join). team_size team) (sym same);
  had = kept.had ∙ ap (λ (team : List Join). length team) (sym same);
  waited = λ actual is some. waited_still past event r actual region.waited (kept.waited actual is some);
}

-- and its implicit tasks, where the event tells of no task
waits_same : (task : ℕ) (past : List EventRecord) (event : EventRecord) → waiter event.call ≡ None → waits_of task (event ∷ past) ≡ waits_of task past
waits_same task past event none =
    sum_by-cons (λ (x : EventRecord). cond (is_just task (waiter x.call)) 1 0) event past ∙ rw none (zero-add (waits_of task past))

member_stays : (past : List EventRecord) (event : EventRecord) (join : Option Join) → TellsNoTask event.call
    → member_of (event ∷ past) join ≡ member_of past join
member_stays past event None tells = refl
member_stays past event (Some join) tells =
    let left : has_left join.task (event ∷ past) ≡ has_left join.task past = rw tells.leaves refl in
    let waits : waits_of join.task (event ∷ past) ≡ waits_of join.task past = waits_same join.task past event tells.waits in
    let children : children_of join.task (event ∷ past) ≡ children_of join.task past = rw (tells.creates, tells.completes) refl in
    cc

pub member_still : (r index : ℕ) (past : List EventRecord) (event : EventRecord) → is_open_region r (event ∷ past) ≡ is_open_region r past
    → joins_of r (event ∷ past) ≡ joins_of r past → TellsNoTask event.call → member_known r index (event ∷ past) ≡ member_known r index past
member_still r index past event still same tells =
    ap (λ (b : Bool). cond b (member_of (event ∷ past) (join_at index (joins_of r (event ∷ past)))) None) still
    ∙ (ap (λ (team : List Join). cond (is_open_region r past) (member_of (event ∷ past) (join_at index team)) None) same
    ∙ ap (λ (member : Option Member). cond (is_open_region r past) member None) (member_stays past event (join_at index (joins_of r past)) tells))
