-- Open regions, the tasks that hold them, and that one outermost region is open at most.
use Rattle.std.proofs.Common.{ℕ, ◌≡◌, true, length, sym, ap, ◌∙◌, subst, arith}
use Rattle.omp_model.specs.State.{World, region_at, task_at, thread_at}
use Rattle.omp_model.specs.Members.{is_outermost}
use Rattle.omp_model.specs.MadeWorld.{IsMadeWorld, IsRegion}
use Rattle.nested_runs.proofs.Standing.{stand_at}
use Rattle.nested_runs.proofs.Standing.Stand.{AtFork}
use Rattle.nested_runs.proofs.Known.{HasForked, HoldsRegion, IsOpenRegion, stands_on}
use Rattle.nested_runs.proofs.Chains.{Grown, outermost-grown}

abbrev pub HoldAll : World → Type 0
HoldAll W = (r : ℕ) → IsOpenRegion W r → HoldsRegion W r

abbrev pub ForkAll : World → Type 0
ForkAll W = (k : ℕ) → stand_at W k ≡ AtFork → HasForked W k

abbrev pub OuterAlone : World → Type 0
OuterAlone W = (q r : ℕ) → IsOpenRegion W q → IsOpenRegion W r → is_outermost W q ≡ true → is_outermost W r ≡ true → q ≡ r

-- the task of a region holds it
pub holds-of : (W : World) (r k : ℕ) → (region_at W r).head.task ≡ k → (task_at W k).forked ≡ r → stand_at W k ≡ AtFork →
    stands_on k (thread_at W (task_at W k).thread).stack ≡ true → HoldsRegion W r
holds-of W r k is forked stand stacked =
    record {
      forked = ap (λ j. (task_at W j).forked) is ∙ forked;
      stand = ap (stand_at W) is ∙ stand;
      stacked = ap (λ j. stands_on j (thread_at W (task_at W j).thread).stack) is ∙ stacked;
    }

-- no region begins or ends, and the same tasks stand at the end of the same regions, on stacks still
pub record SameForks (W after : World) : Type 0 where
  pub regions : length after.regions ≡ length W.regions
  pub ended : (q : ℕ) → (region_at after q).head.ended ≡ (region_at W q).head.ended
  pub task : (q : ℕ) → (region_at after q).head.task ≡ (region_at W q).head.task
  pub forked : (k : ℕ) → stand_at W k ≡ AtFork → (task_at after k).forked ≡ (task_at W k).forked
  pub at : (k : ℕ) → stand_at W k ≡ AtFork → stand_at after k ≡ AtFork
  pub was : (k : ℕ) → stand_at after k ≡ AtFork → stand_at W k ≡ AtFork
  pub stacked : (k : ℕ) → stand_at W k ≡ AtFork → stands_on k (thread_at W (task_at W k).thread).stack ≡ true →
      stands_on k (thread_at after (task_at after k).thread).stack ≡ true

module _ (W after : World) (same : SameForks W after) where
  pub open-before : (r : ℕ) → IsOpenRegion after r → IsOpenRegion W r
  open-before r one = record { forked = one.forked; made = rw (← same.regions) one.made; open_still = sym (same.ended r) ∙ one.open_still }

  pub open-after : (r : ℕ) → IsOpenRegion W r → IsOpenRegion after r
  open-after r one = record { forked = one.forked; made = rw same.regions one.made; open_still = same.ended r ∙ one.open_still }

  pub holds-same : HoldAll W → HoldAll after
  holds-same holds r one =
      let before = holds r (open-before r one) in
      let k = (region_at W r).head.task in
      holds-of after r k (same.task r) (same.forked k before.stand ∙ before.forked) (same.at k before.stand) (same.stacked k before.stand before.stacked)

  pub forks-same : ForkAll W → ForkAll after
  forks-same forks k at =
      let stood = same.was k at in
      let before = forks k stood in
      let is = same.forked k stood in
      record {
        region = subst (IsOpenRegion after) (sym is) (open-after (task_at W k).forked before.region);
        task = ap (λ q. (region_at after q).head.task) is ∙ same.task (task_at W k).forked ∙ before.task;
      }

  pub outer-same : IsMadeWorld W → Grown W after → OuterAlone W → OuterAlone after
  outer-same made grown outer q r one other first second =
      let left = open-before q one in
      let right = open-before r other in
      outer q r left right (sym (outermost-grown W after q made grown (region-of left)) ∙ first)
      (sym (outermost-grown W after r made grown (region-of right)) ∙ second)
    where
      region-of : {p : ℕ} → IsOpenRegion W p → IsRegion W p
      region-of one = record { some = omega (arith, one.forked); below = one.made }
