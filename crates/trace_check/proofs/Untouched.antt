-- What an event leaves as it is, part by part.
use Rattle.std.proofs.Common.{◌≡◌, ℕ, ◌+◌, ◌≤◌, ◌==◌, ◌&&◌, Bool, true, false, max, List, ◌∷◌, Option, Some, None, refl, sym, ◌∙◌, subst, arith}
use Rattle.std.specs.BTreeMap.{BTreeMap}
use Rattle.std.proofs.lemmas.Bool.{eqb-true}
use Rattle.std.proofs.lemmas.Bool.Decides.{nat_tests}
use Rattle.ompt_calls.specs.declared.event.EventRecord.{EventRecord}
use Rattle.trace_check.specs.declared.things.Created.{Created}
use Rattle.trace_check.specs.declared.things.Member.{Member}
use Rattle.trace_check.specs.declared.things.Region.{Region}
use Rattle.trace_check.specs.Before.{Join, and_more, creation_of, greatest_region, greatest_task, held_after, is_open_region, join_of, joins, left_task, region_begun, region_ended, region_made, task_completed, task_made, task_started, waiter, Creation, creations}
use Rattle.trace_check.specs.Checking.{KnownCreated, KnownHeld, KnownMembers, KnownRegions, children_of, seat_in, created_of, creation_in}
use Rattle.trace_check.specs.Rules.{first_broken, may_join}
use Rattle.trace_check.proofs.Kept12.{KeepsAll, keeps_all}
use Rattle.trace_check.proofs.RegionParts.{region_stays, region_still, team_stays}
use Rattle.trace_check.proofs.MemberParts.{members_stay}

-- the open regions
pub regions_same : (regions : BTreeMap ℕ Region) (past : List EventRecord) (event : EventRecord) → region_begun event.call ≡ None → region_ended event.call ≡ None → join_of event.call ≡ None
    → KnownRegions regions past → KnownRegions regions (event ∷ past)
regions_same regions past event begun ended joined known = λ r. region_still r past event _ (region_stays r past event begun ended) (team_stays r past event joined) (known r)

-- their implicit tasks
pub members_same : (members : BTreeMap ℕ Member) (past : List EventRecord) (event : EventRecord) → region_begun event.call ≡ None → region_ended event.call ≡ None → join_of event.call ≡ None
    → left_task event.call ≡ None → waiter event.call ≡ None → creation_of event.call ≡ None → task_completed event.call ≡ None
    → KnownMembers members past → KnownMembers members (event ∷ past)
members_same members past event begun ended joined has-left waits creates completes known = members_stay members past event begun ended joined has-left waits creates completes known

-- the created tasks
pub created_same : (created : BTreeMap ℕ Created) (past : List EventRecord) (event : EventRecord) → join_of event.call ≡ None → creation_of event.call ≡ None → task_started event.call ≡ None
    → task_completed event.call ≡ None → KnownCreated created past → KnownCreated created (event ∷ past)
created_same created past event joined creates starts completes known = λ task. rw (creates, completes, one (creation_in task (creations past))) (known task)
  where
    one : (creation : Option Creation) → created_of (event ∷ past) creation ≡ created_of past creation
    one None = refl
    one (Some creation) = rw (joined, creates, starts, completes) refl

-- the tasks that the initial one created
pub children_same : (children : ℕ) (past : List EventRecord) (event : EventRecord) → creation_of event.call ≡ None → task_completed event.call ≡ None
    → children ≡ children_of 1 past → children ≡ children_of 1 (event ∷ past)
children_same children past event creates completes known = rw (creates, completes) known

-- the wait identifiers that are held
pub held_same : (held : BTreeMap ℕ ℕ) (past : List EventRecord) (event : EventRecord) → ((id t : ℕ) (before : Option ℕ) → held_after id t event.call before ≡ before)
    → KnownHeld held past → KnownHeld held (event ∷ past)
held_same held past event same known = λ id. known id ∙ sym (same id event.thread _)

-- the greatest region and the greatest task
pub region_same : (greatest : ℕ) (past : List EventRecord) (event : EventRecord) → region_made event.call ≡ 0 → greatest ≡ greatest_region past → greatest ≡ greatest_region (event ∷ past)
region_same greatest past event none known = subst (λ (n : ℕ). greatest ≡ max n (greatest_region past)) (sym none) (let e : greatest ≡ max 0 (greatest_region past) = omega (arith, known) in e)

pub task_same : (greatest : ℕ) (past : List EventRecord) (event : EventRecord) → task_made event.call ≡ 0 → greatest ≡ greatest_task past → greatest ≡ greatest_task (event ∷ past)
task_same greatest past event none known = subst (λ (n : ℕ). greatest ≡ max n (greatest_task past)) (sym none) (let e : greatest ≡ max 0 (greatest_task past) = omega (arith, known) in e)

-- the place of a task that was made before
pub seat_same : (task : ℕ) (past : List EventRecord) (event : EventRecord) → first_broken past event ≡ None → task ≤ greatest_task past
    → seat_in task (joins (event ∷ past)) ≡ seat_in task (joins past)
seat_same task past event keeps made =
    let all : KeepsAll past event = keeps_all past event keeps in
    by-join (join_of event.call) (right _ (may_join past (join_of event.call)) all.tasks)
  where
    left : (a b : Bool) → (a && b) ≡ true → a ≡ true
    left true b both = refl
    left false b both = cc

    right : (a b : Bool) → (a && b) ≡ true → b ≡ true
    right true b both = both
    right false b both = absurd (cc)

    apart : (n : ℕ) → (n == greatest_task past + 1) ≡ true → (n == task) ≡ false
    apart n next = let e : n ≡ greatest_task past + 1 = eqb-true n (greatest_task past + 1) next in grind (arith, nat_tests)

    by-join : (join : Option Join) → may_join past join ≡ true → seat_in task (and_more join (joins past)) ≡ seat_in task (joins past)
    by-join None may = refl
    by-join (Some join) may = rw (apart join.task (left (join.task == greatest_task past + 1) _ (right (is_open_region join.region past) _ may))) refl
