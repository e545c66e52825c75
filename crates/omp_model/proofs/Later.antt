-- What was made stays made: later worlds keep the regions of tasks, and the teams of regions.
use Rattle.std.proofs.Common.{◌≡◌, ℕ, zero, suc, ◌<◌, ◌≤◌, ◌==◌, List, [], ◌∷◌, slice_set, slice_index_or, length, refl, sym, ap, ◌∙◌, subst, arith}
use Rattle.std.proofs.lemmas.List.Elements.{All-weaker}
use Rattle.omp_model.specs.declared.limits.TheConstants.{IMPLICIT_REGION}
use Rattle.omp_model.specs.State.{Region, Thread, World, region_at}
use Rattle.omp_model.specs.Members.{is_outermost, region_of}
use Rattle.omp_model.specs.MadeWorld.{IsTask, IsRegion, IsThread, IsRegionOf, IsTaskOf, MadeThread, MadeRegion, IsMadeWorld}

-- what is so of an element, and of what is written in its place, is so of it after a write
pub at-set : {A : Type 0} (P : A → Type 0) (d : A) (xs : List A) (i k : ℕ) (x : A) → P (slice_index_or xs k d) → (k ≡ i → P x) → P (slice_index_or (slice_set xs i x) k d)
at-set P d [] i k x old new = old
at-set P d (y ∷ ys) zero zero x old new = new refl
at-set P d (y ∷ ys) zero (suc k) x old new = old
at-set P d (y ∷ ys) (suc i) zero x old new = old
at-set P d (y ∷ ys) (suc i) (suc k) x old new = at-set P d ys i k x old (λ same. new (ap suc same))

-- a region has the same encountering task and as many members
pub record SameTeam (region after : Region) : Type 0 where
  pub task : after.head.task ≡ region.head.task
  pub size : after.head.size ≡ region.head.size
  pub members : length after.team.members ≡ length region.team.members

pub same-team : (region : Region) → SameTeam region region
same-team region = record { task = refl; size = refl; members = refl }

-- a world that comes after another
pub record Later (W after : World) : Type 0 where
  pub threads : length after.threads ≡ length W.threads
  pub stages : (t : ℕ) → IsThread W t → IsThread after t
  pub tasks : length W.tasks ≤ length after.tasks
  pub regions : length W.regions ≤ length after.regions
  pub placed : (k : ℕ) → k ≤ length W.pool.tasks → region_of after k ≡ region_of W k
  pub teams : (r : ℕ) → r < length W.regions → SameTeam (region_at W r) (region_at after r)

pub later-same : (W : World) → Later W W
later-same W =
    record { threads = refl; stages = λ t made. made; tasks = omega arith; regions = omega arith; placed = λ k one. refl; teams = λ r one. same-team (region_at W r) }

pub later-then : (W between after : World) → length W.pool.tasks ≤ length between.pool.tasks → Later W between → Later between after → Later W after
later-then W between after more first next =
    record {
      threads = next.threads ∙ first.threads;
      stages = λ t made. next.stages t (first.stages t made);
      tasks = omega (arith, first.tasks, next.tasks);
      regions = omega (arith, first.regions, next.regions);
      placed = λ k one. next.placed k (omega arith) ∙ first.placed k one;
      teams = λ r one.
          let a = first.teams r one in
          let b = next.teams r (omega (arith, first.regions)) in
          record { task = b.task ∙ a.task; size = b.size ∙ a.size; members = b.members ∙ a.members };
    }

-- what was made stays made
module _ (W after : World) (made : IsMadeWorld W) (later : Later W after) where
  pub task-later : (k : ℕ) → IsTask W k → IsTask after k
  task-later k one = record { some = one.some; below = omega (arith, one.below, later.tasks) }

  pub region-later : (r : ℕ) → IsRegion W r → IsRegion after r
  region-later r one = record { some = one.some; below = omega (arith, one.below, later.regions) }

  outermost-later : (r : ℕ) → IsRegion W r → is_outermost after r ≡ is_outermost W r
  outermost-later r one =
      ap (λ task. region_of after task == IMPLICIT_REGION) (later.teams r one.below).task
      ∙ ap (λ region. region == IMPLICIT_REGION) (later.placed (region_at W r).head.task (omega (arith, (made.regions r one).task, made.pooled)))

  pub region-of-later : (t r : ℕ) → IsRegionOf W t r → IsRegionOf after t r
  region-of-later t r one =
      record {
        made = region-later r one.made;
        member = rw (outermost-later r one.made, (later.teams r one.made.below).members) one.member;
      }

  pub task-of-later : (t k : ℕ) → IsTaskOf W t k → IsTaskOf after t k
  task-of-later t k one =
      record {
        made = task-later k one.made;
        within = subst (IsRegionOf after t) (sym (later.placed k (omega (arith, one.made.below, made.pooled)))) (region-of-later t (region_of W k) one.within);
      }

  pub thread-later : (t : ℕ) (thread : Thread) → MadeThread W t thread → MadeThread after t thread
  thread-later t thread one =
      record {
        stacked = All-weaker (IsTaskOf W t) (IsTaskOf after t) (task-of-later t) thread.stack one.stacked;
        joins = λ some. region-of-later t thread.invited (one.joins some);
        forks = one.forks;
        starts = λ some. task-of-later t thread.undeferred (one.starts some);
      }

  pub made-region-later : (r : ℕ) → IsRegion W r → MadeRegion (length after.tasks) (length after.threads) (region_at after r)
  made-region-later r one =
      let before = made.regions r one in
      let same = later.teams r one.below in
      record {
        task = rw same.task (omega (arith, before.task, later.tasks));
        team = rw (same.members, same.size) before.team;
        some = rw same.size before.some;
        fits = rw (same.size, later.threads) before.fits;
      }
