-- What stays of a region's members, and of those that have left it, where what has started stays as it is.
use Rattle.std.proofs.Common.{ℕ, ◌≡◌, ◌<◌, ◌≤◌, ◌==◌, ◌&&◌, true, List, length, slice_index_or, sym, ap, ap₂, ◌∙◌, subst, arith}
use Rattle.std.specs.Prelude.{count_by}
use Rattle.std.specs.List.{list_any}
use Rattle.std.proofs.lemmas.List.Elements.{All-same, All-weaker}
use Rattle.ompt_calls.specs.declared.event.EventRecord.{EventRecord}
use Rattle.task_pool.specs.declared.task.Condition.TheVariants as condition
use Rattle.omp_model.specs.State.{Run, World, pooled_at, region_at, task_at}
use Rattle.omp_model.specs.Conditions.{has_started}
use Rattle.omp_model.specs.Gates.{all_left}
use Rattle.omp_model.specs.MadeWorld.{IsTask}
use Rattle.omp_model.specs.Members.{member_index, region_of}
use Rattle.trace_check.specs.Before.{Join, has_left, joins_of}
use Rattle.nested_runs.proofs.Known.{HasGone, IsJoin, IsMemberTask, IsSeated, TellsRegion, has_left_region, is_some_task, task_of_member}
use Rattle.nested_runs.proofs.Knows.{Knows}
use Rattle.nested_runs.proofs.Recorded.{Inside}

-- ---- what stays

-- what is so still of a task that has started
pub record IsCarried (W after : World) (k : ℕ) : Type 0 where
  pub kind : (pooled_at after k).kind ≡ (pooled_at W k).kind
  pub region : region_of after k ≡ region_of W k
  pub thread : (task_at after k).thread ≡ (task_at W k).thread
  pub started : has_started (pooled_at after k).condition ≡ true
  pub finished : (pooled_at W k).condition ≡ condition.Finished → (pooled_at after k).condition ≡ condition.Finished

-- tasks that have started, and regions with the numbers of their members, are as they were
pub record Carries (W after : World) : Type 0 where
  pub tasks : length W.tasks ≤ length after.tasks
  pub started : (k : ℕ) → IsTask W k → has_started (pooled_at W k).condition ≡ true → IsCarried W after k
  pub index : (u q : ℕ) → 1 ≤ q → q < length W.regions → member_index after u q ≡ member_index W u q
  pub size : (q : ℕ) → q < length W.regions → (region_at after q).head.size ≡ (region_at W q).head.size

module _ (W after : World) (past told : List EventRecord) (carries : Carries W after) where
  pub member-carried : (r i k : ℕ) → 1 ≤ r → r < length W.regions → IsMemberTask W r i k → IsMemberTask after r i k
  member-carried r i k some below member =
      let carried = carries.started k member.made member.started in
      record {
        made = record { some = member.made.some; below = omega (arith, member.made.below, carries.tasks) };
        kind = carried.kind ∙ member.kind;
        region = carried.region ∙ member.region;
        index = carries.index (task_at after k).thread r some below ∙ (ap (λ u. member_index W u r) carried.thread ∙ member.index);
        started = carried.started;
      }

  pub gone-carried : (k : ℕ) → IsTask W k → (has_left k past ≡ true → has_left k told ≡ true) → HasGone W past k → HasGone after told k
  gone-carried k made more gone =
      record {
        some = gone.some;
        left = more gone.left;
        finished = (carries.started k made (ap has_started gone.finished)).finished gone.finished;
      }

  pub join-carried : (r : ℕ) (join : Join) → r < length W.regions → task_of_member after r join.index ≡ join.task → IsJoin W r join → IsJoin after r join
  join-carried r join below task is =
      let size = carries.size r below in
      record { actual = is.actual ∙ sym size; index = omega (arith, is.index, size); task = task; some = is.some }

  -- a region that no member joins
  pub region-carried : (r : ℕ) → 1 ≤ r → r < length W.regions → TellsRegion W past r → (region_at after r).head.members ≡ (region_at W r).head.members →
      joins_of r told ≡ joins_of r past → length (region_at after r).head.left ≡ length (region_at W r).head.left →
      ((i : ℕ) → has_left_region after r i ≡ true → HasGone after told (task_of_member W r i)) →
      ((region_at after r).head.ended ≡ true → all_left after r ≡ true) → TellsRegion after told r
  region-carried r some below known members joins places gone ended =
      let same : (i : ℕ) → task_of_member after r i ≡ task_of_member W r i = λ i. ap (λ ms. slice_index_or ms i 0) members in
      record {
        members = ap (λ ms. length ms) members ∙ known.members;
        left = places ∙ known.left;
        implicit = λ i here.
            subst (IsMemberTask after r i) (sym (same i))
            (member-carried r i (task_of_member W r i) some below (known.implicit i (subst (λ k. 1 ≤ k) (same i) here)));
        joined = All-same (IsJoin after r) _ _ joins
            (All-weaker (IsJoin W r) (IsJoin after r) (λ join is. join-carried r join below (same join.index ∙ is.task) is) (joins_of r past) known.joined);
        there = λ i here.
            ap₂ (λ k js. list_any (λ (join : Join). (join.index == i) && (join.task == k)) js) (same i) joins
            ∙ known.there i (subst (λ k. 1 ≤ k) (same i) here);
        count = ap (λ js. length js) joins ∙ (known.count ∙ sym (ap (λ ms. count_by is_some_task ms) members));
        beyond = λ i above. same i ∙ known.beyond i (omega (arith, above, carries.size r below));
        gone = λ i left. subst (HasGone after told) (sym (same i)) (gone i left);
        ended = ended;
      }

  pub seated-carried : (k : ℕ) → IsCarried W after k → region_of W k < length W.regions → IsSeated W k →
      task_of_member after (region_of W k) (member_index W (task_at W k).thread (region_of W k))
      ≡ task_of_member W (region_of W k) (member_index W (task_at W k).thread (region_of W k)) → IsSeated after k
  seated-carried k carried below seated same =
      record {
        region = subst (λ q. 2 ≤ q) (sym carried.region) seated.region;
        member =
            subst (λ q. task_of_member after q (member_index after (task_at after k).thread q) ≡ k) (sym carried.region)
            (ap (task_of_member after (region_of W k))
            (carries.index (task_at after k).thread (region_of W k) (omega (arith, seated.region)) below
            ∙ ap (λ u. member_index W u (region_of W k)) carried.thread)
            ∙ (same ∙ seated.member));
      }

-- an implicit task has started
pub seated-started : (run : Run) (W : World) (I : Inside) (past : List EventRecord) → Knows run W I past → (k : ℕ) → IsTask W k → IsSeated W k →
    has_started (pooled_at W k).condition ≡ true
seated-started run W I past knows k made seated =
    let below = (knows.sound.made.placed k made).below in
    let some : 1 ≤ task_of_member W (region_of W k) (member_index W (task_at W k).thread (region_of W k)) = subst (λ j. 1 ≤ j) (sym seated.member) made.some in
    let member = (knows.members.region (region_of W k) seated.region below).implicit (member_index W (task_at W k).thread (region_of W k)) some in
    subst (λ j. has_started (pooled_at W j).condition ≡ true) seated.member member.started
