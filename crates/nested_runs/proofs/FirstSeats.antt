-- At the start no thread has a task, and none is to do anything.
use Rattle.std.proofs.Common.{ℕ, zero, suc, ◌≡◌, ◌-◌, [], replicate, slice_index_or, refl, sym, ap, ◌∙◌, subst, arith}
use Rattle.std.specs.Prelude.{Option, None, option_map}
use Rattle.omp_model.specs.declared.event.Callback.{Callback}
use Rattle.omp_model.specs.State.{Run, Thread, first, first_world, thread_at, unmade}
use Rattle.nested_runs.proofs.Recorded.{event_in, inside}
use Rattle.nested_runs.proofs.Standing.{Stand, stand_at}
use Rattle.nested_runs.proofs.Standing.Stand.{AtFork}
use Rattle.nested_runs.proofs.Touching.{MayTake}
use Rattle.nested_runs.proofs.Known.{AreSeated, IsBusy, IsChain, IsOpenRegion}
use Rattle.nested_runs.proofs.Stands.{stand-main}

at-replicate : {A : Type 0} (count i : ℕ) (x : A) → slice_index_or (replicate count x) i x ≡ x
at-replicate zero i x = refl
at-replicate (suc count) zero x = refl
at-replicate (suc count) (suc i) x = at-replicate count i x

record IsBlank (thread : Thread) : Type 0 where
  stack : thread.stack ≡ []
  invited : thread.invited ≡ 0
  undeferred : thread.undeferred ≡ 0
  taken : thread.taken ≡ None

blank-thread : (run : Run) (t : ℕ) → IsBlank (thread_at (first_world run) t)
blank-thread run zero = record { stack = refl; invited = refl; undeferred = refl; taken = refl }
blank-thread run (suc t) =
    subst IsBlank (sym (at-replicate (run.threads - 1) t unmade)) (record { stack = refl; invited = refl; undeferred = refl; taken = refl })

no-region : (run : Run) (r : ℕ) → IsOpenRegion (first_world run) r → ⊥
no-region run r one = omega (arith, one.forked, one.made)

not-at-fork : (run : Run) (k : ℕ) → stand_at (first_world run) k ≡ AtFork → ⊥
not-at-fork run zero at = cc
not-at-fork run (suc zero) at = let both : Stand.Free ≡ AtFork = sym (stand-main run.program) ∙ at in cc
not-at-fork run (suc (suc k)) at = cc

none-inside : (run : Run) (t : ℕ) → inside (first run) t ≡ None
none-inside run t = ap (option_map event_in) (at-replicate {A = Option Callback} run.threads t None)

pub first-seats : (run : Run) → AreSeated (first_world run) (inside (first run))
first-seats run =
    record {
      initial = refl;
      idle = λ t out. (blank-thread run t).stack;
      chain = λ t. subst (IsChain (first_world run) t) (sym (blank-thread run t).stack) tt;
      holds = λ r one. absurd (no-region run r one);
      forks = λ k at. absurd (not-at-fork run k at);
      outer = λ q r one other first second. absurd (no-region run q one);
      invited = λ t some. absurd (omega (arith, (blank-thread run t).invited));
      detained = λ t some. absurd (omega (arith, (blank-thread run t).undeferred));
      shares = λ t. subst (MayTake (first_world run) t) (sym (blank-thread run t).taken) tt;
      busy = λ t. subst (IsBusy (first_world run) t) (sym (none-inside run t)) tt;
    }
