-- The members of regions through the Back of an event, through what is no event, and at the start.
use Rattle.std.proofs.Common.{ℕ, zero, suc, ◌≡◌, ◌<◌, ◌≤◌, ◌==◌, ◌&&◌, ◌⊎◌, Bool, true, false, if◌then◌else◌, List, [], length, slice_index_or, slice_set, refl, sym, ap, ap₂, ◌∙◌, subst, inl, inr, arith}
use Rattle.std.specs.Prelude.{nat_le, nat_lt, take, Option, Some}
use Rattle.std.specs.List.{list_all}
use Rattle.std.proofs.lemmas.Bool.{cases_Bool, cases_eq, le-leb, le-ltb, true≢false}
use Rattle.std.proofs.lemmas.List.{get_or-set_other, length-set}
use Rattle.ompt_calls.specs.declared.event.EventRecord.{EventRecord}
use Rattle.task_pool.specs.declared.task.Condition.TheVariants as condition
use Rattle.task_pool.specs.declared.task.Task.{Task as PoolTask}
use Rattle.task_pool.specs.declared.task.TaskKind.TheVariants as kind
use Rattle.task_pool.specs.Tasks.{task_at as pool_task_at}
use Rattle.task_pool.specs.View.{PoolView}
use Rattle.omp_model.specs.declared.event.Event.{Event}
use Rattle.omp_model.specs.declared.event.Event.TheVariants.{MemberEnd, ParallelBegin, TaskCreate, TaskEnd, ThreadEnd}
use Rattle.omp_model.specs.declared.limits.TheConstants.{IMPLICIT_REGION}
use Rattle.omp_model.specs.declared.parts.RegionHead.{RegionHead}
use Rattle.omp_model.specs.State.{Run, Thread, World, first, first_world, pooled_at, region_at, task_at, thread_at}
use Rattle.omp_model.specs.Conditions.{has_started}
use Rattle.omp_model.specs.Gates.{all_left}
use Rattle.omp_model.specs.MadeWorld.{IsTask}
use Rattle.omp_model.specs.Members.{member_index, region_of}
use Rattle.omp_model.proofs.Touching.{head_back, is_summoned, pooled_back, thread_back}
use Rattle.nested_runs.proofs.Known.{HasGone, IsLeaving, IsSeated, TellsMembers, TellsRegion, has_left_region, task_of_member}
use Rattle.nested_runs.proofs.Knows.{ComesBack, IsWholeRun, Knows, Stays}
use Rattle.nested_runs.proofs.Recorded.{Inside, inside}
use Rattle.nested_runs.proofs.CarriedMembers.{Carries, gone-carried, region-carried, seated-carried, seated-started}
use Rattle.nested_runs.proofs.FirstWorlds.{first-inside, first-threads}
use Rattle.nested_runs.proofs.ListCounts.{all-with-set}
use Rattle.nested_runs.proofs.PooledTasks.{by-case, same-back}
use Rattle.nested_runs.proofs.RegionHeads.{BackHead, back-head}

-- ---- after what leaves the members of all regions

-- who is to leave the region, or to fork one
leaving-carried : (run : Run) (W after : World) (I : Inside) (past : List EventRecord) → Knows run W I past → Carries W after →
    ((q : ℕ) → (region_at after q).head.members ≡ (region_at W q).head.members) → (u : ℕ) (within : Option Event) → I u ≡ within → IsLeaving W past u within →
    IsLeaving after past u within
leaving-carried run W after I past knows carries members u (Some (MemberEnd r k)) inside leaving =
    let named = (knows.sound.events u (MemberEnd r k) inside).occurred.named in (
      gone-carried W after past past carries k named.task (λ left. left) leaving.0,
      (
        leaving.1.0,
        ap (task_of_member after r) (carries.index u r named.region.some named.region.below)
            ∙ (ap (λ ms. slice_index_or ms (member_index W u r) 0) (members r) ∙ leaving.1.1),
      ),
    )
leaving-carried run W after I past knows carries members u (Some (ParallelBegin r requested codeptr)) inside leaving =
    λ i. ap (λ ms. slice_index_or ms i 0) (members r) ∙ leaving i
leaving-carried run W after I past knows carries members u within inside leaving = tt

-- implicit tasks
all-seated : (run : Run) (W after : World) (I : Inside) (past : List EventRecord) → Knows run W I past → Carries W after → length after.tasks ≡ length W.tasks →
    ((q : ℕ) → (region_at after q).head.members ≡ (region_at W q).head.members) → ((k : ℕ) → (pooled_at after k).kind ≡ (pooled_at W k).kind) →
    (k : ℕ) → IsTask after k → (pooled_at after k).kind ≡ kind.Implicit → IsSeated after k
all-seated run W after I past knows carries tasks members kinds k made implicit =
    let before : IsTask W k = record { some = made.some; below = omega (arith, made.below, tasks) } in
    let seated = knows.members.seated k before (sym (kinds k) ∙ implicit) in
    let below : region_of W k < length W.regions = (knows.sound.made.placed k before).below in
    seated-carried W after past past carries k (carries.started k before (seated-started run W I past knows k before seated)) below seated
    (ap (λ ms. slice_index_or ms (member_index W (task_at W k).thread (region_of W k)) 0) (members (region_of W k)))

-- ---- after the Back of an event

-- there is room in a region for the thread
abbrev HasRoom : World → ℕ → ℕ → Type 0
HasRoom W u q = task_of_member W q (member_index W u q) ≡ 0

unlike : {P : Type 0} (W : World) (k task : ℕ) → k ≡ task → (pooled_at W task).condition ≡ condition.Made → has_started (pooled_at W k).condition ≡ true → P
unlike W k task is made started = absurd (true≢false (sym started ∙ (ap (λ i. has_started (pooled_at W i).condition) is ∙ ap has_started made)))

module _ (run : Run) (W after : World) (I J : Inside) (past : List EventRecord) (t : ℕ) where
  started-kept : (e : Event) → ComesBack run W after I J past t e → (k : ℕ) → has_started (pooled_at W k).condition ≡ true →
      has_started (pooled_back W e k).condition ≡ true
  started-kept (TaskCreate task false codeptr) back k started =
      by-case (λ (x : PoolTask). has_started x.condition ≡ true) k task _ _
      (λ is. unlike W k task is (back.knows.sound.events t _ back.within).orderly.task.made started) started
  started-kept (TaskCreate task true codeptr) back k started = started
  started-kept (TaskEnd task) back k started = by-case (λ (x : PoolTask). has_started x.condition ≡ true) k task _ _ (λ is. refl) started
  started-kept e back k started = started

  finished-kept : (e : Event) → ComesBack run W after I J past t e → (k : ℕ) → (pooled_at W k).condition ≡ condition.Finished →
      (pooled_back W e k).condition ≡ condition.Finished
  finished-kept (TaskCreate task false codeptr) back k finished =
      by-case (λ (x : PoolTask). x.condition ≡ condition.Finished) k task _ _
      (λ is. unlike W k task is (back.knows.sound.events t _ back.within).orderly.task.made (ap has_started finished)) finished
  finished-kept (TaskCreate task true codeptr) back k finished = finished
  finished-kept (TaskEnd task) back k finished = by-case (λ (x : PoolTask). x.condition ≡ condition.Finished) k task _ _ (λ is. refl) finished
  finished-kept e back k finished = finished

  region-kept : (e : Event) → ComesBack run W after I J past t e → (k : ℕ) → region_of after k ≡ region_of W k
  region-kept e back k = ap (λ (x : PoolTask). x.region) (back.returns.pooled k) ∙ (same-back W e k).region

  head-kept : (e : Event) → ComesBack run W after I J past t e → (q : ℕ) → BackHead (region_at W q).head (region_at after q).head
  head-kept e back q = back-head W after t e q (back.returns.head q)

  carries-back : (e : Event) → ComesBack run W after I J past t e → Carries W after
  carries-back e back =
      record {
        tasks = omega (arith, back.returns.tasks);
        started = λ k made started.
            record {
              kind = ap (λ (x : PoolTask). x.kind) (back.returns.pooled k) ∙ (same-back W e k).kind;
              region = region-kept e back k;
              thread = back.returns.owner k;
              started = ap (λ (x : PoolTask). has_started x.condition) (back.returns.pooled k) ∙ started-kept e back k started;
              finished = λ finished. ap (λ (x : PoolTask). x.condition) (back.returns.pooled k) ∙ finished-kept e back k finished;
            };
        index = λ u q some below.
            ap (λ r. if r == IMPLICIT_REGION then u else 0)
            (ap (region_of after) (head-kept e back q).task ∙ region-kept e back (region_at W q).head.task);
        size = λ q below. (head-kept e back q).size;
      }

  -- who has left a region now had left it, or is the member whose end was told
  left-cases : (e : Event) → ComesBack run W after I J past t e → (q i : ℕ) → slice_index_or (head_back W t e q).left i false ≡ true →
      (has_left_region W q i ≡ true) ⊎ HasGone W past (task_of_member W q i)
  left-cases (MemberEnd r k) back q i =
      by-case (λ (head : RegionHead). slice_index_or head.left i false ≡ true → (has_left_region W q i ≡ true) ⊎ HasGone W past (task_of_member W q i)) q r
      (record (region_at W q).head { left = slice_set (region_at W q).head.left (member_index W t r) true }) (region_at W q).head
      (λ is left.
      elim (cases_eq i (member_index W t r)) [
        | inl here ↦
            let leaving = subst (IsLeaving W past t) back.within (back.knows.members.leaving t) in
            inr (subst (HasGone W past) (sym (ap₂ (task_of_member W) is here ∙ leaving.1.1)) leaving.0)
        | inr other ↦ inl (sym (get_or-set_other (region_at W q).head.left (member_index W t r) i true false other) ∙ left)
      ])
      (λ left. inl left)
  left-cases e back q i = λ left. inl left

  places-kept : (e : Event) (q : ℕ) → length (head_back W t e q).left ≡ length (region_at W q).head.left
  places-kept (MemberEnd r k) q =
      by-case (λ (head : RegionHead). length head.left ≡ length (region_at W q).head.left) q r _ _ (λ is. length-set _ _ _) refl
  places-kept e q = refl

  all-still : (e : Event) (q : ℕ) → all_left W q ≡ true → list_all (λ (flag : Bool). flag) (take (head_back W t e q).size (head_back W t e q).left) ≡ true
  all-still (MemberEnd r k) q all =
      by-case (λ (head : RegionHead). list_all (λ (flag : Bool). flag) (take head.size head.left) ≡ true) q r _ _
      (λ is. all-with-set (region_at W q).head.left (region_at W q).head.size (member_index W t r) all) all
  all-still e q all = all

  region-back : (e : Event) → ComesBack run W after I J past t e → (r : ℕ) → 2 ≤ r → r < length W.regions → TellsRegion after past r
  region-back e back r forked below =
      let known = back.knows.members.region r forked below in
      let head = head-kept e back r in
      let carries = carries-back e back in
      let gone : (i : ℕ) → HasGone W past (task_of_member W r i) → HasGone after past (task_of_member W r i) =
      λ i gone. gone-carried W after past past carries (task_of_member W r i) (known.implicit i gone.some).made (λ left. left) gone in
      region-carried W after past past carries r (omega (arith, forked)) below known head.members refl
      (ap (λ (x : RegionHead). length x.left) (back.returns.head r) ∙ places-kept e r)
      (λ i left.
      elim (left-cases e back r i (subst (λ (x : RegionHead). slice_index_or x.left i false ≡ true) (back.returns.head r) left)) [
        | inl before ↦ gone i (known.gone i before)
        | inr now ↦ gone i now
      ])
      (λ ended.
      ap (λ (x : RegionHead). list_all (λ (flag : Bool). flag) (take x.size x.left)) (back.returns.head r)
      ∙ all-still e r (known.ended (sym head.ended ∙ ended)))

  room-back : (e : Event) → ComesBack run W after I J past t e → (u : ℕ) → 1 ≤ (thread_back W t e u).invited → HasRoom W u (thread_back W t e u).invited
  room-back ThreadEnd back u =
      by-case (λ (x : Thread). 1 ≤ x.invited → HasRoom W u x.invited) u t _ _ (λ is. back.knows.members.room u) (back.knows.members.room u)
  room-back (ParallelBegin r requested codeptr) back u =
      elim (cases_Bool (is_summoned W t r u)) [
        | inl is ↦ rw is (λ some. (subst (IsLeaving W past t) back.within (back.knows.members.leaving t)) (member_index W u r))
        | inr other ↦ rw other (back.knows.members.room u)
      ]
  room-back (TaskCreate task true codeptr) back u =
      by-case (λ (x : Thread). 1 ≤ x.invited → HasRoom W u x.invited) u t _ _ (λ is. back.knows.members.room u) (back.knows.members.room u)
  room-back (TaskCreate task false codeptr) back u = back.knows.members.room u
  room-back e back u = back.knows.members.room u

  pub back-members : (e : Event) → ComesBack run W after I J past t e → TellsMembers after J past
  back-members e back =
      let known = back.knows.members in
      let carries = carries-back e back in
      let members : (q : ℕ) → (region_at after q).head.members ≡ (region_at W q).head.members = λ q. (head-kept e back q).members in
      record {
        begun = λ r. known.begun r ∙ ap (λ n. nat_le 2 r && nat_lt r n) (sym back.returns.regions);
        ended = λ r. known.ended r ∙ sym (head-kept e back r).ended;
        region = λ r forked below. region-back e back r forked (omega (arith, below, back.returns.regions));
        unjoined = λ r past-end. known.unjoined r (omega (arith, past-end, back.returns.regions));
        seated = all-seated run W after I past back.knows carries back.returns.tasks members
            (λ k. ap (λ (x : PoolTask). x.kind) (back.returns.pooled k) ∙ (same-back W e k).kind);
        room = λ u some.
            let q : ℕ = (thread_at after u).invited in
            let made = ((back.sound.made.threads u).joins some).made in
            ap (task_of_member after q) (carries.index u q some (omega (arith, made.below, back.returns.regions)))
            ∙ (ap (λ ms. slice_index_or ms (member_index W u q) 0) (members q)
            ∙ subst (λ (x : Thread). HasRoom W u x.invited) (sym (back.returns.thread u))
            (room-back e back u (subst (λ (x : Thread). 1 ≤ x.invited) (back.returns.thread u) some)));
        leaving = λ u.
            elim (cases_eq u t) [
              | inl is ↦ subst (IsLeaving after past u) (sym (ap J is ∙ back.enters.own)) tt
              | inr other ↦
                  subst (IsLeaving after past u) (sym (back.enters.others u other))
                  (leaving-carried run W after I past back.knows carries members u (I u) refl (known.leaving u))
            ];
      }

-- ---- after what is no event

pub stay-members : (run : Run) (W after : World) (I J : Inside) (past : List EventRecord) → Stays run W after I J past → TellsMembers after J past
stay-members run W after I J past stays =
    let known = stays.knows.members in
    let pooled : (k : ℕ) → pooled_at after k ≡ pooled_at W k = λ k. ap (λ (pool : PoolView). pool_task_at pool.tasks k) stays.alike.world.pool in
    let region : (k : ℕ) → region_of after k ≡ region_of W k = λ k. ap (λ (x : PoolTask). x.region) (pooled k) in
    let members : (q : ℕ) → (region_at after q).head.members ≡ (region_at W q).head.members = λ q. (stays.alike.world.head q).members in
    let index : (u q : ℕ) → member_index after u q ≡ member_index W u q =
    λ u q.
    ap (λ r. if r == IMPLICIT_REGION then u else 0)
    (ap (region_of after) (stays.alike.world.head q).task ∙ region (region_at W q).head.task) in
    let carries : Carries W after =
    record {
      tasks = omega (arith, stays.alike.world.tasks);
      started = λ k made started.
          record {
            kind = ap (λ (x : PoolTask). x.kind) (pooled k);
            region = region k;
            thread = stays.alike.world.owner k;
            started = ap (λ (x : PoolTask). has_started x.condition) (pooled k) ∙ started;
            finished = λ finished. ap (λ (x : PoolTask). x.condition) (pooled k) ∙ finished;
          };
      index = λ u q some below. index u q;
      size = λ q below. (stays.alike.world.head q).size;
    } in
    record {
      begun = λ r. known.begun r ∙ ap (λ n. nat_le 2 r && nat_lt r n) (sym stays.alike.world.regions);
      ended = λ r. known.ended r ∙ sym (stays.alike.world.head r).ended;
      region = λ r forked below.
          let before : r < length W.regions = omega (arith, below, stays.alike.world.regions) in
          let told = known.region r forked before in
          region-carried W after past past carries r (omega (arith, forked)) before told (members r) refl (ap (λ flags. length flags) (stays.alike.world.head r).left)
          (λ i left.
          let gone = told.gone i (subst (λ flags. slice_index_or flags i false ≡ true) (stays.alike.world.head r).left left) in
          gone-carried W after past past carries (task_of_member W r i) (told.implicit i gone.some).made (λ before. before) gone)
          (λ ended.
          ap₂ (λ n flags. list_all (λ (flag : Bool). flag) (take n flags)) (stays.alike.world.head r).size (stays.alike.world.head r).left
          ∙ told.ended (sym (stays.alike.world.head r).ended ∙ ended));
      unjoined = λ r past-end. known.unjoined r (omega (arith, past-end, stays.alike.world.regions));
      seated = all-seated run W after I past stays.knows carries stays.alike.world.tasks members (λ k. ap (λ (x : PoolTask). x.kind) (pooled k));
      room = λ u some.
          let same = (stays.alike.world.thread u).invited in
          subst (λ q. task_of_member after q (member_index after u q) ≡ 0) (sym same)
          (ap (task_of_member after (thread_at W u).invited) (index u (thread_at W u).invited)
          ∙ (ap (λ ms. slice_index_or ms (member_index W u (thread_at W u).invited) 0) (members (thread_at W u).invited)
          ∙ known.room u (subst (λ n. 1 ≤ n) same some)));
      leaving = λ u.
          subst (IsLeaving after past u) (sym (stays.same u))
          (leaving-carried run W after I past stays.knows carries members u (I u) refl (known.leaving u));
    }

-- ---- at the start

first-begun : (r : ℕ) → false ≡ (nat_le 2 r && nat_lt r 2)
first-begun zero = refl
first-begun (suc zero) = refl
first-begun (suc (suc r)) = rw (le-leb 2 (suc (suc r)) (omega arith), le-ltb (suc (suc r)) 2 (omega arith)) refl

first-ended : (run : Run) (r : ℕ) → false ≡ (region_at (first_world run) r).head.ended
first-ended run zero = refl
first-ended run (suc zero) = refl
first-ended run (suc (suc r)) = refl

first-seated : (run : Run) (k : ℕ) → IsTask (first_world run) k → (pooled_at (first_world run) k).kind ≡ kind.Implicit → ⊥
first-seated run zero made implicit = omega (arith, made.some)
first-seated run (suc zero) made implicit = cc
first-seated run (suc (suc k)) made implicit = omega (arith, made.below)

pub first-members : (run : Run) → IsWholeRun run → TellsMembers (first_world run) (inside (first run)) []
first-members run whole =
    record {
      begun = first-begun;
      ended = first-ended run;
      region = λ r forked below. absurd (omega (arith, forked, below));
      unjoined = λ r past-end. refl;
      seated = λ k made implicit. absurd (first-seated run k made implicit);
      room = λ u some. absurd (first-threads run (λ (x : Thread). 1 ≤ x.invited → ⊥) (λ one. omega (arith, one)) (λ one. omega (arith, one)) u some);
      leaving = λ u. subst (IsLeaving (first_world run) [] u) (sym (first-inside run u)) tt;
    }
