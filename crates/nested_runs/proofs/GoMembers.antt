-- The members of regions through the Go of an event.
use Rattle.std.proofs.Common.{ℕ, ◌≡◌, ◌≢◌, ◌<◌, ◌≤◌, ◌+◌, ◌==◌, ◌&&◌, ◌||◌, not, Bool, true, false, List, [], ◌∷◌, length, slice_index_or, slice_set, refl, sym, ap, ap₂, ◌∙◌, subst, inl, inr, arith}
use Rattle.std.specs.Prelude.{count_by, nat_le, nat_lt, take}
use Rattle.std.specs.List.{list_all, list_any}
use Rattle.std.proofs.lemmas.Bool.{and_from, cases_eq, cases_order, eq-eqb, le-leb, le-ltb, lt-ltb, ne_eqb, or_left, or_right, true≢false}
use Rattle.std.proofs.lemmas.List.{get_or_past, length-set}
use Rattle.std.proofs.lemmas.List.Elements.{All-cons, All-nil, All-same, All-weaker}
use Rattle.ompt_calls.specs.declared.event.EventRecord.{EventRecord}
use Rattle.task_pool.specs.declared.task.Condition.TheVariants as condition
use Rattle.task_pool.specs.declared.task.Task.{Task as PoolTask}
use Rattle.task_pool.specs.declared.task.TaskKind.TheVariants as kind
use Rattle.task_pool.specs.View.{fresh_task}
use Rattle.team_parts.specs.declared.meeting.TheConstants.{TEAM_LIMIT}
use Rattle.omp_model.specs.declared.event.Event.{Event}
use Rattle.omp_model.specs.declared.event.Event.TheVariants.{InitialTaskBegin, MemberBegin, ParallelBegin, ParallelEnd, TaskBegin, TaskCreate}
use Rattle.omp_model.specs.declared.limits.TheConstants.{IMPLICIT_REGION, INITIAL_TASK}
use Rattle.omp_model.specs.declared.parts.RegionHead.{RegionHead}
use Rattle.omp_model.specs.State.{Region, Run, World, no_region, pooled_at, region_at, task_at}
use Rattle.omp_model.specs.Conditions.{has_started}
use Rattle.omp_model.specs.Gates.{all_left}
use Rattle.omp_model.specs.MadeWorld.{IsTask}
use Rattle.omp_model.specs.Members.{member_index}
use Rattle.omp_model.proofs.Touching.{come_to, head_after, owner_after, regions_after, tasks_after}
use Rattle.trace_check.specs.Before.{Join, has_begun_region, has_ended_region, is_just, joins_of}
use Rattle.nested_runs.proofs.Known.{HasGone, IsJoin, IsMemberTask, TellsRegion, has_left_region, is_some_task, task_of_member}
use Rattle.nested_runs.proofs.Knows.{Goes}
use Rattle.nested_runs.proofs.Readings.{begun_by, ended_by}
use Rattle.nested_runs.proofs.Recorded.{Inside, recorded}
use Rattle.nested_runs.proofs.CarriedMembers.{Carries, IsCarried, gone-carried, join-carried, member-carried, region-carried}
use Rattle.nested_runs.proofs.FirstWorlds.{replicated}
use Rattle.nested_runs.proofs.JoinReadings.{begun-more, ended-more, joins-either, joins-own, joins-same, left-still, new_join}
use Rattle.nested_runs.proofs.ListCounts.{count-set}
use Rattle.nested_runs.proofs.PooledTasks.{Starting, apart, by-case, finished-stays, started-stays}
use Rattle.nested_runs.proofs.RegionHeads.{Joins, fresh-region, head-same, index-stays, kind-stays, new-member, old-member, old-region, region-stays}
use Rattle.nested_runs.proofs.TellTasks.{starts-new}

-- ---- what grows

tasks-grow : (e : Event) (count : ℕ) → count ≤ tasks_after e count
tasks-grow (MemberBegin r k) count = omega arith
tasks-grow (TaskCreate task undeferred codeptr) count = omega arith
tasks-grow e count = omega arith

pub regions-grow : (e : Event) (count : ℕ) → count ≤ regions_after e count
regions-grow (ParallelBegin r requested codeptr) count = omega arith
regions-grow e count = omega arith

-- no region was there past the end
past-head : (W : World) (r : ℕ) → length W.regions ≤ r → (region_at W r).head ≡ no_region.head
past-head W r past = ap (λ (region : Region). region.head) (get_or_past W.regions r no_region past)

module _ (run : Run) (W after : World) (I J : Inside) (past : List EventRecord) (t : ℕ) where
  -- ---- what has started

  starting : (e : Event) → Goes run W after I J past t e → Starting W e
  starting (TaskBegin prior task) goes = (starts-new run W I past t task goes.knows prior goes.comes).unstarted
  starting e goes = tt

  owner-stays : (e : Event) → Goes run W after I J past t e → (k : ℕ) → IsTask W k → has_started (pooled_at W k).condition ≡ true →
      owner_after t e k (task_at W k).thread ≡ (task_at W k).thread
  owner-stays InitialTaskBegin goes k made started =
      by-case (λ (n : ℕ). n ≡ (task_at W k).thread) k INITIAL_TASK _ _
      (λ is. absurd (true≢false (sym started ∙ (ap (λ i. has_started (pooled_at W i).condition) is ∙ ap has_started goes.comes.made)))) refl
  owner-stays (MemberBegin r task) goes k made started =
      by-case (λ (n : ℕ). n ≡ (task_at W k).thread) k task _ _ (λ is. absurd (omega (arith, is, goes.comes.task, made.below))) refl
  owner-stays (TaskBegin prior task) goes k made started =
      by-case (λ (n : ℕ). n ≡ (task_at W k).thread) k task _ _
      (λ is.
      let new = starts-new run W I past t task goes.knows prior goes.comes in
      absurd (true≢false (sym started ∙ (ap (λ i. has_started (pooled_at W i).condition) is ∙ new.unstarted)))) refl
  owner-stays e goes k made started = refl

  pub started-go : (e : Event) → Goes run W after I J past t e → (k : ℕ) → IsTask W k → has_started (pooled_at W k).condition ≡ true → IsCarried W after k
  started-go e goes k made started =
      let other : k ≢ length W.tasks = λ is. omega (arith, is, made.below) in
      record {
        kind = kind-stays run W after I J past t e goes k other;
        region = region-stays run W after I J past t e goes k other;
        thread = goes.touches.world.owner k ∙ owner-stays e goes k made started;
        started = ap (λ (x : PoolTask). has_started x.condition) (goes.touches.world.pooled k) ∙ started-stays W t e goes.comes k other started;
        finished = λ finished.
            ap (λ (x : PoolTask). x.condition) (goes.touches.world.pooled k) ∙ finished-stays W t e goes.comes (starting e goes) k other finished;
      }

  pub carries-go : (e : Event) → Goes run W after I J past t e → Carries W after
  carries-go e goes =
      record {
        tasks = omega (arith, goes.touches.world.tasks, tasks-grow e (length W.tasks));
        started = started-go e goes;
        index = index-stays run W after I J past t e goes;
        size = λ q below. (head-same run W after I J past t e goes q (λ is. omega (arith, is, below))).size;
      }

  -- ---- regions

  members-beside : (e : Event) → Goes run W after I J past t e → (q : ℕ) → 2 ≤ q → q ≢ length W.regions → (Joins e q → ⊥) →
      (head_after W t e q).members ≡ (region_at W q).head.members
  members-beside (ParallelBegin r requested codeptr) goes q forked other beside =
      by-case (λ (head : RegionHead). head.members ≡ (region_at W q).head.members) q r _ _ (λ is. absurd (other (is ∙ goes.comes.1.region))) refl
  members-beside (ParallelEnd r codeptr) goes q forked other beside =
      by-case (λ (head : RegionHead). head.members ≡ (region_at W q).head.members) q r _ _ (λ is. refl) refl
  members-beside InitialTaskBegin goes q forked other beside =
      by-case (λ (head : RegionHead). head.members ≡ (region_at W q).head.members) q IMPLICIT_REGION _ _ (λ is. absurd (omega (arith, is, forked))) refl
  members-beside (MemberBegin r k) goes q forked other beside =
      by-case (λ (head : RegionHead). head.members ≡ (region_at W q).head.members) q r _ _ (λ is. absurd (beside is)) refl
  members-beside e goes q forked other beside = refl

  -- a region that ends has been left by all, and another is as it was
  head-ended : (e : Event) → Goes run W after I J past t e → (q : ℕ) → ((region_at W q).head.ended ≡ true → all_left W q ≡ true) →
      (head_after W t e q).ended ≡ true → all_left W q ≡ true
  head-ended (ParallelBegin r requested codeptr) goes q known =
      by-case (λ (head : RegionHead). head.ended ≡ true → all_left W q ≡ true) q r _ _ (λ is ended. absurd (true≢false (sym ended))) known
  head-ended (ParallelEnd r codeptr) goes q known =
      by-case (λ (head : RegionHead). head.ended ≡ true → all_left W q ≡ true) q r _ _ (λ is ended. ap (all_left W) is ∙ goes.comes.1.left) known
  head-ended InitialTaskBegin goes q known =
      by-case (λ (head : RegionHead). head.ended ≡ true → all_left W q ≡ true) q IMPLICIT_REGION _ _ (λ is. known) known
  head-ended (MemberBegin r k) goes q known =
      by-case (λ (head : RegionHead). head.ended ≡ true → all_left W q ≡ true) q r _ _ (λ is. known) known
  head-ended e goes q known = known

  ended-left : (e : Event) → Goes run W after I J past t e → (q : ℕ) → q < length W.regions → ((region_at W q).head.ended ≡ true → all_left W q ≡ true) →
      (region_at after q).head.ended ≡ true → all_left after q ≡ true
  ended-left e goes q below known ended =
      let same = head-same run W after I J past t e goes q (λ is. omega (arith, is, below)) in
      ap₂ (λ n flags. list_all (λ (flag : Bool). flag) (take n flags)) same.size same.left
      ∙ head-ended e goes q known (subst (λ (head : RegionHead). head.ended ≡ true) (goes.touches.world.head q) ended)

module _ (run : Run) (W after : World) (I J : Inside) (past : List EventRecord) (t position : ℕ) where
  -- who had left has left still
  gone-go : (e : Event) → Goes run W after I J past t e → (r i : ℕ) → 2 ≤ r → r < length W.regions → has_left_region after r i ≡ true →
      HasGone after (recorded position t after e ∷ past) (task_of_member W r i)
  gone-go e goes r i forked below left =
      let same = head-same run W after I J past t e goes r (λ is. omega (arith, is, below)) in
      let known = goes.knows.members.region r forked below in
      let gone = known.gone i (subst (λ flags. slice_index_or flags i false ≡ true) same.left left) in
      gone-carried W after past _ (carries-go run W after I J past t e goes) (task_of_member W r i) (known.implicit i gone.some).made
      (left-still position t after e past (task_of_member W r i)) gone

  -- a region that no member joins
  beside-go : (e : Event) → Goes run W after I J past t e → (r : ℕ) → 2 ≤ r → r < length W.regions → (Joins e r → ⊥) →
      TellsRegion after (recorded position t after e ∷ past) r
  beside-go e goes r forked below beside =
      let other : r ≢ length W.regions = λ is. omega (arith, is, below) in
      let known = goes.knows.members.region r forked below in
      let same = head-same run W after I J past t e goes r other in
      region-carried W after past _ (carries-go run W after I J past t e goes) r (omega (arith, forked)) below known
      (ap (λ (head : RegionHead). head.members) (goes.touches.world.head r) ∙ members-beside run W after I J past t e goes r forked other beside)
      (joins-same position t after e past r beside) (ap (λ flags. length flags) same.left)
      (λ i left. gone-go e goes r i forked below left) (ended-left run W after I J past t e goes r below known.ended)

  -- a region that a member joins
  joined-go : (r k : ℕ) → Goes run W after I J past t (MemberBegin r k) → 2 ≤ r → r < length W.regions →
      TellsRegion after (recorded position t after (MemberBegin r k) ∷ past) r
  joined-go r k goes forked below =
      let e : Event = MemberBegin r k in
      let told : List EventRecord = recorded position t after e ∷ past in
      let here : ℕ = member_index W t r in
      let other : r ≢ length W.regions = λ is. omega (arith, is, below) in
      let known = goes.knows.members.region r forked below in
      let carries = carries-go run W after I J past t e goes in
      let same = head-same run W after I J past t e goes r other in
      let new = new-member run W after I J past t e goes r here (refl, refl) in
      let members : (region_at after r).head.members ≡ slice_set (region_at W r).head.members here k =
      ap (λ (head : RegionHead). head.members) (goes.touches.world.head r) ∙ rw (eq-eqb r r refl) refl in
      let fresh : pooled_at after k ≡ come_to (fresh_task (region_at W r).head.task r kind.Implicit) condition.Started =
      goes.touches.world.pooled k ∙ rw (eq-eqb k k refl) refl in
      let some : 1 ≤ k = omega (arith, goes.comes.task, goes.knows.sound.made.initial.below) in
      let place : member_index after t r ≡ here = carries.index t r (omega (arith, forked)) below in
      let task : task_of_member after r here ≡ k = new.task ∙ sym goes.comes.task in
      let own : IsMemberTask after r here k =
      record {
        made = record { some = some; below = omega (arith, goes.comes.task, goes.touches.world.tasks) };
        kind = ap (λ (x : PoolTask). x.kind) fresh;
        region = ap (λ (x : PoolTask). x.region) fresh;
        index =
            carries.index (task_at after k).thread r (omega (arith, forked)) below
            ∙ ap (λ u. member_index W u r) (goes.touches.world.owner k ∙ rw (eq-eqb k k refl) refl);
        started = ap (λ (x : PoolTask). has_started x.condition) fresh;
      } in
      let old : (i : ℕ) → i ≢ here → task_of_member after r i ≡ task_of_member W r i =
      λ i otherwise. old-member run W after I J past t e goes r i forked other (λ joins. otherwise joins.1) in
      let join : IsJoin after r (new_join after t r k) =
      record {
        actual = refl;
        index = omega (arith, place, new.few, same.size);
        task = ap (task_of_member after r) place ∙ task;
        some = some;
      } in
      record {
        members = ap (λ ms. length ms) members ∙ (length-set _ _ _ ∙ known.members);
        left = ap (λ flags. length flags) same.left ∙ known.left;
        implicit = λ i begun.
            elim (cases_eq i here) [
              | inl is ↦ subst (λ j. IsMemberTask after r j (task_of_member after r j)) (sym is) (subst (IsMemberTask after r here) (sym task) own)
              | inr otherwise ↦
                  subst (IsMemberTask after r i) (sym (old i otherwise))
                  (member-carried W after past told carries r i (task_of_member W r i) (omega (arith, forked)) below
                  (known.implicit i (subst (λ j. 1 ≤ j) (old i otherwise) begun)))
            ];
        joined = All-same (IsJoin after r) _ _ (joins-own position t after r k past)
            (All-cons (IsJoin after r) (new_join after t r k) (joins_of r past) join
            (All-weaker (IsJoin W r) (IsJoin after r)
            (λ before is.
            join-carried W after past told carries r before below
            (elim (cases_eq before.index here) [
              | inl at ↦ absurd (omega (arith, is.some, sym is.task ∙ (ap (task_of_member W r) at ∙ new.none)))
              | inr otherwise ↦ old before.index otherwise ∙ is.task
            ]) is) (joins_of r past) known.joined));
        there = λ i begun.
            ap (λ js. list_any (λ (one : Join). (one.index == i) && (one.task == task_of_member after r i)) js) (joins-own position t after r k past)
            ∙ elim (cases_eq i here) [
              | inl is ↦ or_left ((member_index after t r == i) && (k == task_of_member after r i)) _
                  (and_from _ _ (eq-eqb _ _ (place ∙ sym is)) (eq-eqb _ _ (sym (ap (task_of_member after r) is ∙ task))))
              | inr otherwise ↦ or_right ((member_index after t r == i) && (k == task_of_member after r i)) _
                  (ap (λ n. list_any (λ (one : Join). (one.index == i) && (one.task == n)) (joins_of r past)) (old i otherwise)
                  ∙ known.there i (subst (λ j. 1 ≤ j) (old i otherwise) begun))
            ];
        count = omega (
          arith,
          ap (λ js. length js) (joins-own position t after r k past),
          known.count,
          ap (λ ms. count_by is_some_task ms) members,
          count-set is_some_task (region_at W r).head.members here k 0 new.within (ap is_some_task new.none)
              (ap not (ne_eqb k 0 (λ is. omega (arith, is, some)))),
        );
        beyond = λ i above.
            elim (cases_eq i here) [
              | inl is ↦ absurd (omega (arith, is, above, new.few, same.size))
              | inr otherwise ↦ old i otherwise ∙ known.beyond i (omega (arith, above, same.size))
            ];
        gone = λ i left.
            let gone = gone-go e goes r i forked below left in
            elim (cases_eq i here) [
              | inl is ↦ absurd (omega (arith, gone.some, ap (task_of_member W r) is ∙ new.none))
              | inr otherwise ↦ subst (HasGone after told) (sym (old i otherwise)) gone
            ];
        ended = ended-left run W after I J past t e goes r below known.ended;
      }

  -- a region that is joined was made
  joins-made : (e : Event) → Goes run W after I J past t e → (r : ℕ) → Joins e r → r < length W.regions
  joins-made e goes r joins = (new-member run W after I J past t e goes r (member_index W t r) (joins, refl)).made

  -- a region that was forked just now
  fresh-go : (e : Event) → Goes run W after I J past t e → (r : ℕ) → r ≡ length W.regions → r < length after.regions →
      TellsRegion after (recorded position t after e ∷ past) r
  fresh-go e goes r is below =
      let fresh = fresh-region run W after I J past t e goes r is below in
      let told : List EventRecord = recorded position t after e ∷ past in
      let joins : joins_of r told ≡ [] =
      joins-same position t after e past r (λ joins. omega (arith, is, joins-made e goes r joins)) ∙ goes.knows.members.unjoined r (omega (arith, is)) in
      let unleft : (i : ℕ) → has_left_region after r i ≡ false =
      λ i. ap (λ (head : RegionHead). slice_index_or head.left i false) fresh.head ∙ replicated false TEAM_LIMIT i in
      record {
        members = ap (λ (head : RegionHead). length head.members) fresh.head;
        left = ap (λ (head : RegionHead). length head.left) fresh.head;
        implicit = λ i some. absurd (omega (arith, some, fresh.member i));
        joined = All-same (IsJoin after r) _ _ joins (All-nil (IsJoin after r));
        there = λ i some. absurd (omega (arith, some, fresh.member i));
        count = ap (λ js. length js) joins ∙ sym (ap (λ (head : RegionHead). count_by is_some_task head.members) fresh.head);
        beyond = λ i above. fresh.member i;
        gone = λ i left. absurd (true≢false (sym left ∙ unleft i));
        ended = λ ended. absurd (true≢false (sym ended ∙ ap (λ (head : RegionHead). head.ended) fresh.head));
      }

  old-go : (e : Event) → Goes run W after I J past t e → (r : ℕ) → 2 ≤ r → r < length W.regions → Joins e r →
      TellsRegion after (recorded position t after e ∷ past) r
  old-go (MemberBegin q k) goes r forked below joins =
      subst (TellsRegion after (recorded position t after (MemberBegin q k) ∷ past)) (sym joins)
      (joined-go q k goes (subst (λ n. 2 ≤ n) joins forked) (subst (λ n. n < length W.regions) joins below))
  old-go e goes r forked below joins = absurd joins

  pub region-go : (e : Event) → Goes run W after I J past t e → (r : ℕ) → 2 ≤ r → r < length after.regions →
      TellsRegion after (recorded position t after e ∷ past) r
  region-go e goes r forked made =
      elim (cases_eq r (length W.regions)) [
        | inl is ↦ fresh-go e goes r is made
        | inr other ↦
            let below = old-region run W after I J past t e goes r made other in
            elim (joins-either e r) [ inl joins ↦ old-go e goes r forked below joins | inr beside ↦ beside-go e goes r forked below beside ]
      ]

  pub unjoined-go : (e : Event) → Goes run W after I J past t e → (r : ℕ) → length W.regions ≤ r → joins_of r (recorded position t after e ∷ past) ≡ []
  unjoined-go e goes r past-end =
      joins-same position t after e past r (λ joins. omega (arith, past-end, joins-made e goes r joins)) ∙ goes.knows.members.unjoined r past-end

  -- ---- which regions were begun and have ended

  begun-after : (e : Event) → Goes run W after I J past t e → (r : ℕ) →
      (is_just r (begun_by e) || (nat_le 2 r && nat_lt r (length W.regions))) ≡ (nat_le 2 r && nat_lt r (regions_after e (length W.regions)))
  begun-after (ParallelBegin q requested codeptr) goes r =
      let last : 1 < length W.regions = goes.knows.sound.made.implicit.below in
      elim (cases_order r (length W.regions)) [
        | inl is ↦
            rw (eq-eqb q r (goes.comes.1.region ∙ sym is), le-leb 2 r (omega (arith, is, last)), lt-ltb r (length W.regions + 1) (omega (arith, is))) refl
        | inr apart ↦ elim apart [
          | inl below ↦ rw (
            ne_eqb q r (λ is. omega (arith, is, goes.comes.1.region, below)),
            lt-ltb r (length W.regions) below,
            lt-ltb r (length W.regions + 1) (omega (arith, below)),
          ) refl
          | inr above ↦ rw (
            ne_eqb q r (λ is. omega (arith, is, goes.comes.1.region, above)),
            le-ltb r (length W.regions) (omega (arith, above)),
            le-ltb r (length W.regions + 1) (omega (arith, above)),
          ) refl
        ]
      ]
  begun-after e goes r = refl

  pub begun-go : (e : Event) → Goes run W after I J past t e → (r : ℕ) →
      has_begun_region r (recorded position t after e ∷ past) ≡ (nat_le 2 r && nat_lt r (length after.regions))
  begun-go e goes r =
      begun-more position t after e past r
      ∙ (ap (λ b. is_just r (begun_by e) || b) (goes.knows.members.begun r)
      ∙ (begun-after e goes r ∙ ap (λ n. nat_le 2 r && nat_lt r n) (sym goes.touches.world.regions)))

  ended-after : (e : Event) → Goes run W after I J past t e → (r : ℕ) → (is_just r (ended_by e) || (region_at W r).head.ended) ≡ (head_after W t e r).ended
  ended-after (ParallelBegin q requested codeptr) goes r =
      by-case (λ (head : RegionHead). (region_at W r).head.ended ≡ head.ended) r q _ _
      (λ is. ap (λ (head : RegionHead). head.ended) (past-head W r (omega (arith, is, goes.comes.1.region)))) refl
  ended-after (ParallelEnd q codeptr) goes r =
      elim (cases_eq r q) [
        | inl is ↦ rw (eq-eqb q r (sym is), eq-eqb r q is) refl
        | inr other ↦ rw (ne_eqb q r (λ is. other (sym is)), ne_eqb r q other) refl
      ]
  ended-after InitialTaskBegin goes r =
      by-case (λ (head : RegionHead). (region_at W r).head.ended ≡ head.ended) r IMPLICIT_REGION _ _ (λ is. refl) refl
  ended-after (MemberBegin q k) goes r = by-case (λ (head : RegionHead). (region_at W r).head.ended ≡ head.ended) r q _ _ (λ is. refl) refl
  ended-after e goes r = refl

  pub ended-go : (e : Event) → Goes run W after I J past t e → (r : ℕ) →
      has_ended_region r (recorded position t after e ∷ past) ≡ (region_at after r).head.ended
  ended-go e goes r =
      ended-more position t after e past r
      ∙ (ap (λ b. is_just r (ended_by e) || b) (goes.knows.members.ended r)
      ∙ (ended-after e goes r ∙ ap (λ (head : RegionHead). head.ended) (sym (goes.touches.world.head r))))
