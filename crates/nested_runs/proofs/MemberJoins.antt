-- The join of a member that has begun, and what it tells of its team.
use Rattle.std.proofs.Common.{ℕ, ◌≡◌, ◌<◌, ◌≤◌, ◌==◌, ◌&&◌, not, true, false, List, length, slice_index_or, sym, ap, ◌∙◌, subst, inl, inr, arith}
use Rattle.std.specs.Prelude.{nat_le}
use Rattle.std.specs.List.{list_any}
use Rattle.std.proofs.lemmas.Bool.{and_from, and_parts, cases_Bool, eq-eqb, eqb-true, le-leb, lt-ltb}
use Rattle.std.proofs.lemmas.List.Elements.{filter_passes}
use Rattle.std.proofs.lemmas.List.Folds.{list_any_at}
use Rattle.ompt_calls.specs.declared.event.EventRecord.{EventRecord}
use Rattle.task_pool.specs.declared.task.Condition.{Condition}
use Rattle.task_pool.specs.declared.task.Condition.TheVariants as condition
use Rattle.omp_model.specs.State.{Run, World, pooled_at, region_at}
use Rattle.omp_model.specs.Gates.{all_left}
use Rattle.trace_check.specs.Before.{Join, is_open_region, joins, joins_of, waits_of}
use Rattle.trace_check.specs.Rules.{have_waited}
use Rattle.nested_runs.proofs.Known.{has_left_region, task_of_member}
use Rattle.nested_runs.proofs.Knows.{Knows}
use Rattle.nested_runs.proofs.Recorded.{Inside}
use Rattle.nested_runs.proofs.ListTests.{all-in-range, any-at, flag-at}

-- what is read where there is no join
abbrev pub no_join : Join
no_join = record { region = 0; task = 0; actual = 0; index = 0 }

-- one of these joins is that of the member with this number
pub record HasJoin (W : World) (past : List EventRecord) (r i : ℕ) : Type 0 where
  pub place : ℕ
  pub within : place < length (joins_of r past)
  pub region : (slice_index_or (joins_of r past) place no_join).region ≡ r
  pub index : (slice_index_or (joins_of r past) place no_join).index ≡ i
  pub task : (slice_index_or (joins_of r past) place no_join).task ≡ task_of_member W r i
  pub actual : (slice_index_or (joins_of r past) place no_join).actual ≡ (region_at W r).head.size

-- a task that is under way hasn't finished
unlike : {now : Condition} → now ≡ condition.Started → now ≡ condition.Finished → ⊥
unlike started finished = cc

module _ (run : Run) (W : World) (I : Inside) (past : List EventRecord) (knows : Knows run W I past) (r : ℕ) (forked : 2 ≤ r)
    (made : r < length W.regions) where
  -- a member that has begun has joined
  pub has-join : (i : ℕ) → 1 ≤ task_of_member W r i → HasJoin W past r i
  has-join i some =
      let told = knows.members.region r forked made in
      let found = any-at (λ (join : Join). (join.index == i) && (join.task == task_of_member W r i)) (joins_of r past) no_join (told.there i some) in
      let parts = and_parts ((slice_index_or (joins_of r past) found.0 no_join).index == i) _ found.2 in
      record {
        place = found.0;
        within = found.1;
        region = eqb-true _ _ (filter_passes (λ (join : Join). join.region == r) (joins past) found.0 no_join found.1);
        index = eqb-true _ _ parts.0;
        task = eqb-true _ _ parts.1;
        actual = (told.joined found.0 no_join found.1).actual;
      }

  -- a team's size is within that of the lists of its members
  pub size-fits : (region_at W r).head.size ≤ 16
  size-fits =
      let region = knows.sound.made.regions r (record { some = omega (arith, forked); below = made }) in
      omega (arith, region.fits, knows.sound.threads, knows.sound.whole.few)

  -- where all have left, each has
  pub left-each : all_left W r ≡ true → (i : ℕ) → i < (region_at W r).head.size → has_left_region W r i ≡ true
  left-each all i below =
      flag-at (region_at W r).head.left (region_at W r).head.size i all below (omega (arith, (knows.members.region r forked made).left, size-fits))

  -- a region with a member that is under way isn't over
  pub not-over : (i : ℕ) → i < (region_at W r).head.size → (pooled_at W (task_of_member W r i)).condition ≡ condition.Started →
      (region_at W r).head.ended ≡ false
  not-over i below started =
      elim (cases_Bool (region_at W r).head.ended) [
        | inr still ↦ still
        | inl ended ↦
            let told = knows.members.region r forked made in
            absurd (unlike started (told.gone i (left-each (told.ended ended) i below)).finished)
      ]

  -- a region that isn't over is open by what was told
  pub open-told : (region_at W r).head.ended ≡ false → is_open_region r past ≡ true
  open-told still =
      and_from _ _ (knows.members.begun r ∙ and_from _ _ (le-leb 2 r forked) (lt-ltb r (length W.regions) made))
      (ap not (knows.members.ended r ∙ still))

  -- all have begun so many waits
  pub waited-told : (n : ℕ) → ((j : ℕ) → j < (region_at W r).head.size → (1 ≤ task_of_member W r j) × (n ≤ waits_of (task_of_member W r j) past)) →
      have_waited past r (region_at W r).head.size n ≡ true
  waited-told n each =
      all-in-range (λ index. list_any (λ (join : Join). (join.index == index) && nat_le n (waits_of join.task past)) (joins_of r past)) 0
      (region_at W r).head.size
      (λ j low high.
      let told = each j (omega (arith, high)) in
      let join = has-join j told.0 in
      list_any_at (λ (other : Join). (other.index == j) && nat_le n (waits_of other.task past)) (joins_of r past) join.place no_join join.within
      (and_from _ _ (eq-eqb _ _ join.index) (le-leb n _ (subst (λ k. n ≤ waits_of k past) (sym join.task) told.1))))
