-- What is read of the parts of a world after one of them is written.
use Rattle.std.proofs.Common.{◌≡◌, ℕ, zero, suc, ◌<◌, ◌≤◌, ◌==◌, nat_lt, Bool, true, false, if◌then◌else◌, List, [], ◌∷◌, slice_index_or, length, refl, sym, ◌∙◌, subst, inl, inr, arith}
use Rattle.std.proofs.lemmas.Bool.{cases_lt, le-ltb, lt-ltb}
use Rattle.task_pool.specs.declared.task.Condition.{Condition}
use Rattle.task_pool.specs.Tasks.{task_at as pool_task_at, with_condition}
use Rattle.omp_model.specs.Changes.{with_invitations, with_invitation}
use Rattle.omp_model.specs.MadeWorld.{IsMadeWorld, IsTask, IsThread}
use Rattle.omp_model.specs.Members.{current, current_region, region_of}
use Rattle.omp_model.specs.State.{Region, Thread, World, pooled_at, unmade}
use Rattle.omp_model.proofs.Touching.{come_to}
use Rattle.omp_model.proofs.Conditions.{pooled-other, pooled-same}
use Rattle.omp_model.proofs.MadeEvents.{current-made}
use Rattle.omp_model.proofs.Moves.{thread-within}
use Rattle.omp_model.proofs.Reading.{at-place}

-- of a task in the pool whose condition is changed
pub read-pool : (W : World) (k : ℕ) (now : Condition) (j : ℕ) → IsMadeWorld W → IsTask W k →
    pool_task_at (with_condition W.pool.tasks k now) j ≡ (if j == k then come_to (pooled_at W j) now else pooled_at W j)
read-pool W k now j made one =
    at-place k j (pool_task_at (with_condition W.pool.tasks k now) j) (come_to (pooled_at W j) now) (pooled_at W j)
    (λ is. subst (λ i. pool_task_at (with_condition W.pool.tasks k now) i ≡ come_to (pooled_at W i) now) (sym is)
    (pooled-same W.pool.tasks k now one.some (omega (arith, one.below, made.pooled))))
    (λ other. pooled-other W.pool.tasks k now j other)

-- of a thread where the first ones, so many, are to join a region
pub read-summoned : (r size : ℕ) (threads : List Thread) (u : ℕ) → size ≤ length threads →
    slice_index_or (with_invitations r size threads) u unmade ≡
    (if nat_lt u size then with_invitation r (slice_index_or threads u unmade) else slice_index_or threads u unmade)
unfolding with_invitations
read-summoned r zero threads u fits = rw (le-ltb u 0 (omega arith)) refl
read-summoned r (suc size) [] u fits = absurd (omega arith)
read-summoned r (suc size) (thread ∷ threads) zero fits = rw (lt-ltb 0 (suc size) (omega arith)) refl
read-summoned r (suc size) (thread ∷ threads) (suc u) fits =
    rw (one-less u size) (read-summoned r size threads u (omega arith))
  where
    one-less : (u size : ℕ) → nat_lt (suc u) (suc size) ≡ nat_lt u size
    one-less u size = elim (cases_lt u size) [
      | inl less ↦ lt-ltb (suc u) (suc size) (omega arith) ∙ sym (lt-ltb u size less)
      | inr more ↦ le-ltb (suc u) (suc size) (omega arith) ∙ sym (le-ltb u size more)
    ]

-- of one of two regions
pub either-head : (b : Bool) (one other : Region) → (if b then one else other).head ≡ (if b then one.head else other.head)
either-head true one other = refl
either-head false one other = refl

pub either-team : (b : Bool) (one other : Region) → (if b then one else other).team ≡ (if b then one.team else other.team)
either-team true one other = refl
either-team false one other = refl

-- the places that are written: of a thread that was made, and of the region of the thread's task
pub thread-below : (W : World) (t : ℕ) → IsThread W t → t < length W.threads
thread-below W t there = thread-within W.threads t there

pub region-below : (W : World) (t : ℕ) → IsMadeWorld W → current_region W t < length W.regions
region-below W t made = elim (cases_lt 0 (current W t)) [
  | inl some ↦ (made.placed (current W t) (current-made W t made some).made).below
  | inr none ↦ subst (λ k. region_of W k < length W.regions) (is-zero (current W t) none) (omega (arith, made.implicit.below))
]
  where
    is-zero : (n : ℕ) → n ≤ 0 → 0 ≡ n
    is-zero n none = omega arith
