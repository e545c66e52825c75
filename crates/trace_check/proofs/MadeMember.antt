-- An implicit task joins an open region: it is the newest task, has an index that none had, and has done nothing yet.
use Rattle.std.proofs.Common.{◌≡◌, ℕ, suc, ◌+◌, ◌*◌, ◌<◌, ◌≤◌, ◌==◌, ◌&&◌, Bool, true, false, cond, not, max, List, ◌∷◌, length, Option, Some, None, refl, sym, ◌∙◌, ap, subst, subst₂, arith}
use Rattle.std.specs.Prelude.{nat_lt}
use Rattle.std.specs.List.{list_all}
use Rattle.std.specs.Ordering.{nat_cmp}
use Rattle.std.specs.BTreeMap.{BTreeMap, Updates, get}
use Rattle.std.specs.Cmp.{unsigned_tied}
use Rattle.std.proofs.lemmas.Bool.{eqb-true, eq-eqb}
use Rattle.std.proofs.lemmas.Bool.Decides.{nat_tests}
use Rattle.ompt_calls.specs.declared.call.Call.{Call}
use Rattle.ompt_calls.specs.declared.call.Call.TheVariants.{ImplicitTask}
use Rattle.ompt_calls.specs.declared.event.EventRecord.{EventRecord}
use Rattle.trace_check.specs.declared.kept.Kept.{Kept}
use Rattle.trace_check.specs.declared.things.Created.{Created}
use Rattle.trace_check.specs.declared.things.Member.{Member}
use Rattle.trace_check.specs.declared.things.Region.{Region}
use Rattle.trace_check.specs.Before.{Creation, Join, creation_of, creations, greatest_task, has_left, has_started, held_after, is_complete, is_open_region, join_of, joins, joins_of, left_task, region_begun, region_ended, region_made, task_completed, task_made, task_started, waiter, waits_of}
use Rattle.trace_check.specs.Rules.{first_broken, have_waited, may_join}
use Rattle.trace_check.specs.Checking.{IsRegion, KnownCreated, KnownMembers, KnownRegions, Learns, OpenRegion, Unbroken, children_of, created_known, created_of, creation_in, join_at, member_known, member_of, seat_in, team_size}
use Rattle.trace_check.proofs.Kept12.{KeepsAll, keeps_all}
use Rattle.trace_check.proofs.TeamTests.{is_beside}
use Rattle.trace_check.proofs.Creations.{creators_below}
use Rattle.trace_check.proofs.MadeBefore.{children_none, creator_made, left_none, waits_none}
use Rattle.trace_check.proofs.MemberParts.{children_stay, left_same, member_same, open_same, waits_same}
use Rattle.trace_check.proofs.Untouched.{children_same, held_same, region_same}
use Rattle.trace_check.proofs.Tests.{apart, left, right}

-- ---- what the event tells

pub record OnlyJoins (call : Call) (join : Join) : Type 0 where
  pub joins : join_of call ≡ Some join
  pub begins : region_begun call ≡ None
  pub ends : region_ended call ≡ None
  pub leaves : left_task call ≡ None
  pub waits : waiter call ≡ None
  pub creates : creation_of call ≡ None
  pub starts : task_started call ≡ None
  pub completes : task_completed call ≡ None
  pub region : region_made call ≡ 0
  pub task : task_made call ≡ join.task
  pub held : (id t : ℕ) (before : Option ℕ) → held_after id t call before ≡ before

only_joins : (call : Call) (join : Join) → join_of call ≡ Some join → OnlyJoins call join
only_joins (ImplicitTask endpoint region task actual index flags) join is =
    let test : ((endpoint == 1) && not (flags == 1)) ≡ true = by-test ((endpoint == 1) && not (flags == 1)) is in
    let begins : (endpoint == 1) ≡ true = left (endpoint == 1) (not (flags == 1)) test in
    let ends : (endpoint == 2) ≡ false = one_end endpoint begins in
    record {
      joins = is;
      begins = refl;
      ends = refl;
      leaves = rw ends refl;
      waits = refl;
      creates = refl;
      starts = refl;
      completes = refl;
      region = refl;
      task = by-made ((endpoint == 1) && not (flags == 1)) is;
      held = λ id t before. refl;
    }
  where
    by-test : (b : Bool) → cond b (Some (record { region = region.identity; task = task.identity; actual = actual; index = index })) None ≡ Some join → b ≡ true
    by-test true is = refl
    by-test false is = absurd (cc)

    by-made : (b : Bool) → cond b (Some (record { region = region.identity; task = task.identity; actual = actual; index = index })) None ≡ Some join
        → cond b task.identity 0 ≡ join.task
    by-made true is =
        let made : Join = record { region = region.identity; task = task.identity; actual = actual; index = index } in
        let e : made ≡ join = cc in
        ap (λ (j : Join). j.task) e
    by-made false is = absurd (cc)

    one_end : (s : ℕ) → (s == 1) ≡ true → (s == 2) ≡ false
    one_end s one = grind (arith, nat_tests)
only_joins other join is = absurd (cc)

-- what the rule on the begin of implicit tasks says
pub record MayJoin (join : Join) (past : List EventRecord) : Type 0 where
  pub is_open : is_open_region join.region past ≡ true
  pub next : join.task ≡ greatest_task past + 1
  pub below : nat_lt join.index join.actual ≡ true
  pub beside : list_all (is_beside join.index join.actual) (joins_of join.region past) ≡ true

joins_so : (past : List EventRecord) (event : EventRecord) (join : Join) → join_of event.call ≡ Some join → first_broken past event ≡ None
    → MayJoin join past
joins_so past event join is keeps =
    let all : KeepsAll past event = keeps_all past event keeps in
    let may : may_join past (Some join) ≡ true =
    subst (λ (o : Option Join). may_join past o ≡ true) is (right _ (may_join past (join_of event.call)) all.tasks) in
    let h1 = right (is_open_region join.region past) _ may in
    let h2 = right (join.task == greatest_task past + 1) _ h1 in
    record {
      is_open = left (is_open_region join.region past) _ may;
      next = eqb-true join.task (greatest_task past + 1) (left (join.task == greatest_task past + 1) _ h1);
      below = left (nat_lt join.index join.actual) _ h2;
      beside = right (nat_lt join.index join.actual) _ h2;
    }

beyond : (join : Join) (past : List EventRecord) → MayJoin join past → greatest_task past < join.task
beyond join past may = let e : join.task ≡ greatest_task past + 1 = may.next in omega arith

-- ---- regions

-- the joins of a region, with the new one
team_here : (past : List EventRecord) (event : EventRecord) (join : Join) (r : ℕ) → join_of event.call ≡ Some join → (join.region == r) ≡ true
    → joins_of r (event ∷ past) ≡ join ∷ joins_of r past
team_here past event join r is same = rw (is, same) refl

team_other : (past : List EventRecord) (event : EventRecord) (join : Join) (r : ℕ) → join_of event.call ≡ Some join → (join.region == r) ≡ false
    → joins_of r (event ∷ past) ≡ joins_of r past
team_other past event join r is other = rw (is, other) refl

region_other : (past : List EventRecord) (event : EventRecord) (join : Join) (r : ℕ) (found : Option Region) → OnlyJoins event.call join
    → (join.region == r) ≡ false → IsRegion r past found → IsRegion r (event ∷ past) found
region_other past event join r None only other shut = open_same r past event only.begins only.ends ∙ shut
region_other past event join r (Some region) only other kept = record {
  is_open = open_same r past event only.begins only.ends ∙ kept.is_open;
  actual = kept.actual ∙ ap team_size (sym (team_other past event join r only.joins other));
  had = kept.had ∙ ap (λ (team : List Join). length team) (sym (team_other past event join r only.joins other));
  waited = λ actual is some. same actual ∙ kept.waited actual is some;
}
  where
    same : (actual : ℕ) → have_waited (event ∷ past) r actual region.waited ≡ have_waited past r actual region.waited
    same actual = rw (only.joins, other, only.waits) refl

region_here : (past : List EventRecord) (event : EventRecord) (join : Join) (r had : ℕ) (region : Region) → OnlyJoins event.call join → MayJoin join past
    → (join.region == r) ≡ true → OpenRegion r past region
    → had ≡ region.had + 1 → OpenRegion r (event ∷ past) (record { actual = Some join.actual; had = had; waited = 0 })
region_here past event join r had region only may same kept is = record {
  is_open = open_same r past event only.begins only.ends ∙ kept.is_open;
  actual = ap team_size (sym (team_here past event join r only.joins same));
  had = more ∙ ap (λ (team : List Join). length team) (sym (team_here past event join r only.joins same));
  waited = λ actual is some. absurd (none some);
}
  where
    more : had ≡ suc (length (joins_of r past))
    more = let e : region.had ≡ length (joins_of r past) = kept.had in omega (arith, e, is)

    none : 1 ≤ 0 → ⊥
    none some = omega arith

regions_joined : (old new : BTreeMap ℕ Region) (past : List EventRecord) (event : EventRecord) (join : Join) (had : ℕ) (region : Region)
    → OnlyJoins event.call join → MayJoin join past
    → get nat_cmp old join.region ≡ Some region → had ≡ region.had + 1
    → Updates nat_cmp old new join.region (Some (record { actual = Some join.actual; had = had; waited = 0 }))
    → KnownRegions old past → KnownRegions new (event ∷ past)
regions_joined old new past event join had region only may there is updates known r =
    subst (λ (found : Option Region). IsRegion r (event ∷ past) found)
    (sym (updates.0 r ∙ ap (λ (b : Bool). cond b (Some made) (get nat_cmp old r)) (unsigned_tied join.region r)))
    (by-region (join.region == r) refl)
  where
    made : Region
    made = record { actual = Some join.actual; had = had; waited = 0 }

    by-region : (b : Bool) → (join.region == r) ≡ b → IsRegion r (event ∷ past) (cond b (Some made) (get nat_cmp old r))
    by-region true same =
        let e : join.region ≡ r = eqb-true join.region r same in
        let f : get nat_cmp old r ≡ Some region = subst (λ (n : ℕ). get nat_cmp old n ≡ Some region) e there in
        region_here past event join r had region only may same (subst (λ (found : Option Region). IsRegion r past found) f (known r)) is
    by-region false other = region_other past event join r (get nat_cmp old r) only other (known r)

-- ---- implicit tasks

member_here : (past : List EventRecord) (event : EventRecord) (join : Join) → Unbroken past → OnlyJoins event.call join → MayJoin join past
    → Some (record { task = join.task; left = false; waits = 0; children = 0 }) ≡ member_known join.region join.index (event ∷ past)
member_here past event join unbroken only may =
    rw (
      open_same join.region past event only.begins only.ends,
      may.is_open,
      team_here past event join join.region only.joins (eq-eqb join.region join.region refl),
      eq-eqb join.index join.index refl,
      stays-in,
      no-wait,
      no-child,
    ) refl
  where
    stays-in : has_left join.task (event ∷ past) ≡ false
    stays-in = left_same join.task past event (rw only.leaves refl) ∙ left_none join.task past unbroken (beyond join past may)

    no-wait : waits_of join.task (event ∷ past) ≡ 0
    no-wait = waits_same join.task past event (rw only.waits refl) ∙ waits_none join.task past unbroken (beyond join past may)

    no-child : children_of join.task (event ∷ past) ≡ 0
    no-child = children_stay join.task past event only.creates only.completes ∙ children_none join.task past unbroken (beyond join past may)

member_other : (past : List EventRecord) (event : EventRecord) (join : Join) (r index : ℕ) → OnlyJoins event.call join
    → ((join.region == r) && (join.index == index)) ≡ false
    → member_known r index (event ∷ past) ≡ member_known r index past
member_other past event join r index only other =
    rw (open_same r past event only.begins only.ends, same-place (join.region == r) refl other)
    (ap (λ (member : Option Member). cond (is_open_region r past) member None) (same (join_at index (joins_of r past))))
  where
    same-place : (b : Bool) → (join.region == r) ≡ b → (b && (join.index == index)) ≡ false
        → join_at index (joins_of r (event ∷ past)) ≡ join_at index (joins_of r past)
    same-place true here other = rw (team_here past event join r only.joins here, other) refl
    same-place false here other = rw (team_other past event join r only.joins here) refl

    same : (found : Option Join) → member_of (event ∷ past) found ≡ member_of past found
    same None = refl
    same (Some one) = member_same past event one
        (left_same one.task past event (rw only.leaves refl))
        (waits_same one.task past event (rw only.waits refl))
        (children_stay one.task past event only.creates only.completes)

members_joined : (old new : BTreeMap ℕ Member) (past : List EventRecord) (event : EventRecord) (join : Join) → Unbroken past → OnlyJoins event.call join
    → MayJoin join past → join.index < 4294967296
    → Updates nat_cmp old new (join.region * 4294967296 + join.index) (Some (record { task = join.task; left = false; waits = 0; children = 0 }))
    → KnownMembers old past → KnownMembers new (event ∷ past)
members_joined old new past event join unbroken only may below updates known r index fits =
    updates.0 (r * 4294967296 + index)
    ∙ rw (unsigned_tied (join.region * 4294967296 + join.index) (r * 4294967296 + index))
    (by-key (join.region * 4294967296 + join.index == r * 4294967296 + index) refl)
  where
    one_region : (s j : ℕ) → j < 4294967296 → (s * 4294967296 + j == r * 4294967296 + index) ≡ true → s ≡ r
    one_region s j less same = let e : s * 4294967296 + j ≡ r * 4294967296 + index = eqb-true _ _ same in omega (arith, e, less, fits)

    one_index : (s j : ℕ) → j < 4294967296 → (s * 4294967296 + j == r * 4294967296 + index) ≡ true → j ≡ index
    one_index s j less same = let e : s * 4294967296 + j ≡ r * 4294967296 + index = eqb-true _ _ same in omega (arith, e, less, fits)

    one_key : (s j : ℕ) → s ≡ r → j ≡ index → (s * 4294967296 + j == r * 4294967296 + index) ≡ true
    one_key s j region place = rw (region, place) (eq-eqb (r * 4294967296 + index) (r * 4294967296 + index) refl)

    not-here : (a b : Bool) → (join.region == r) ≡ a → (join.index == index) ≡ b → (join.region * 4294967296 + join.index == r * 4294967296 + index) ≡ false
        → (a && b) ≡ false
    not-here true true region place other =
        absurd (apart (join.region * 4294967296 + join.index == r * 4294967296 + index)
        (one_key join.region join.index (eqb-true join.region r region) (eqb-true join.index index place)) other)
    not-here true false region place other = refl
    not-here false b region place other = refl

    by-key : (b : Bool) → (join.region * 4294967296 + join.index == r * 4294967296 + index) ≡ b
        → cond b (Some (record { task = join.task; left = false; waits = 0; children = 0 })) (get nat_cmp old (r * 4294967296 + index))
        ≡ member_known r index (event ∷ past)
    by-key true same =
        subst₂ (λ (s i : ℕ). Some (record { task = join.task; left = false; waits = 0; children = 0 }) ≡ member_known s i (event ∷ past))
        (one_region join.region join.index below same) (one_index join.region join.index below same) (member_here past event join unbroken only may)
    by-key false other =
        known r index fits ∙ sym (member_other past event join r index only (not-here (join.region == r) (join.index == index) refl refl other))

-- ---- created tasks

created_stays : (past : List EventRecord) (event : EventRecord) (join : Join) (task : ℕ) → Unbroken past → OnlyJoins event.call join → MayJoin join past
    → created_known task (event ∷ past) ≡ created_known task past
created_stays past event join task unbroken only may =
    rw (only.completes, only.creates)
    (ap (λ (created : Option Created). cond (is_complete task past) None created) (by-creation (creation_in task (creations past)) refl))
  where
    not_its : (k n g : ℕ) → k ≤ g → n ≡ g + 1 → (n == k) ≡ false
    not_its k n g made next = grind (arith, nat_tests)

    seat : (k : ℕ) → k ≤ greatest_task past → seat_in k (joins (event ∷ past)) ≡ seat_in k (joins past)
    seat k made = rw (only.joins, not_its k join.task (greatest_task past) made may.next) refl

    started : (k : ℕ) → has_started k (event ∷ past) ≡ has_started k past
    started k = rw only.starts refl

    by-creation : (creation : Option Creation) → creation_in task (creations past) ≡ creation → created_of (event ∷ past) creation ≡ created_of past creation
    by-creation None is = refl
    by-creation (Some creation) is =
        rw (
          seat creation.creator (creator_made (greatest_task past) task (creations past) creation (creators_below past unbroken) is),
          started creation.task,
          children_stay creation.task past event only.creates only.completes,
        ) refl

pub created_joined : (created : BTreeMap ℕ Created) (past : List EventRecord) (event : EventRecord) (join : Join) → Unbroken past → OnlyJoins event.call join
    → MayJoin join past
    → KnownCreated created past → KnownCreated created (event ∷ past)
created_joined created past event join unbroken only may known task = known task ∙ sym (created_stays past event join task unbroken only may)

-- ---- all

greatest_joined : (made n g : ℕ) → made ≡ n → n ≡ g + 1 → n ≡ max made g
greatest_joined made n g is next = omega arith

-- where nothing is kept of the region the event breaks a rule
pub joins_nowhere : (kept : Kept) (event : EventRecord) (join : Join) → join_of event.call ≡ Some join → get nat_cmp kept.regions join.region ≡ None
    → Learns kept kept event
joins_nowhere kept event join is gone past known unbroken keeps =
    let may : MayJoin join past = joins_so past event join is keeps in
    let shut : is_open_region join.region past ≡ false = subst (λ (found : Option Region). IsRegion join.region past found) gone (known.regions join.region) in
    absurd (apart (is_open_region join.region past) may.is_open shut)

pub learns_join : (kept : Kept) (regions : BTreeMap ℕ Region) (members : BTreeMap ℕ Member) (event : EventRecord) (join : Join) (had : ℕ) (region : Region)
    → join_of event.call ≡ Some join
    → get nat_cmp kept.regions join.region ≡ Some region → had ≡ region.had + 1 → join.index < 4294967296
    → Updates nat_cmp kept.regions regions join.region (Some (record { actual = Some join.actual; had = had; waited = 0 }))
    → Updates nat_cmp kept.members members (join.region * 4294967296 + join.index) (Some (record { task = join.task; left = false; waits = 0; children = 0 }))
    → Learns kept (record kept { regions = regions; members = members; greatest_task = join.task }) event
learns_join kept regions members event join had region is there more below of-regions of-members past known unbroken keeps =
    let only : OnlyJoins event.call join = only_joins event.call join is in
    let may : MayJoin join past = joins_so past event join is keeps in
    record {
      regions = regions_joined kept.regions regions past event join had region only may there more of-regions known.regions;
      members = members_joined kept.members members past event join unbroken only may below of-members known.members;
      created = created_joined kept.created past event join unbroken only may known.created;
      held = held_same kept.held past event only.held known.held;
      greatest_region = region_same kept.greatest_region past event only.region known.greatest_region;
      greatest_task = greatest_joined (task_made event.call) join.task (greatest_task past) only.task may.next;
      children = children_same kept.children past event only.creates only.completes known.children;
    }
