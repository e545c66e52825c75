-- What threads are to do, where a thread and its current task stay as they are: the region that it is to join, the undeferred task that it is to start,
-- the share of work that it has taken, and what is so inside a callback.
use Rattle.std.proofs.Common.{ℕ, ◌≡◌, ◌≢◌, ◌<◌, ◌≤◌, List, length, slice_index_or, sym, ap, ◌∙◌, subst, inl, inr, arith}
use Rattle.std.specs.Prelude.{Option, Some, None}
use Rattle.omp_model.specs.declared.event.Event.{Event}
use Rattle.omp_model.specs.declared.event.Event.TheVariants.{ParallelBegin, ParallelEnd, TaskCreate, ThreadEnd}
use Rattle.omp_model.specs.declared.event.Share.{Share}
use Rattle.omp_model.specs.State.{Run, World, thread_at}
use Rattle.omp_model.specs.Members.{current, current_region, region_of}
use Rattle.omp_model.specs.MadeWorld.{IsMadeWorld}
use Rattle.omp_model.proofs.MadeEvents.{current-below}
use Rattle.nested_runs.proofs.Recorded.{Inside}
use Rattle.nested_runs.proofs.Shown.{opens_at}
use Rattle.nested_runs.proofs.Standing.{stand_at}
use Rattle.nested_runs.proofs.Standing.Stand.{Free, AtFork}
use Rattle.nested_runs.proofs.Known.{HasNoErrand, IsBusy, IsDetained, IsInvited, IsOpenRegion}
use Rattle.nested_runs.proofs.Touching.{Fits, MayTake}
use Rattle.nested_runs.proofs.Knows.{IsSound}
use Rattle.nested_runs.proofs.Chains.{Grown, outermost-grown}

-- a thread has the same tasks and is to do the same, and the current one stands where it stood
pub record LikeThread (W after : World) (t : ℕ) : Type 0 where
  pub stack : (thread_at after t).stack ≡ (thread_at W t).stack
  pub invited : (thread_at after t).invited ≡ (thread_at W t).invited
  pub undeferred : (thread_at after t).undeferred ≡ (thread_at W t).undeferred
  pub free : stand_at W (current W t) ≡ Free → stand_at after (current W t) ≡ Free
  pub apart : stand_at W (current W t) ≢ AtFork → stand_at after (current W t) ≢ AtFork
  pub opens : opens_at after (current W t) ≡ opens_at W (current W t)

-- a thread that is to do nothing but what its code comes to
pub record IsCalm (W : World) (t : ℕ) : Type 0 where
  pub invited : (thread_at W t).invited ≡ 0
  pub undeferred : (thread_at W t).undeferred ≡ 0
  pub taken : (thread_at W t).taken ≡ None

-- a task that a thread inside its creation names was made
abbrev pub IsBelow : ℕ → Option Event → Type 0
IsBelow count (Some (TaskCreate task undeferred codeptr)) = task < count
IsBelow count other = Unit {0}

pub below-event : (run : Run) (W : World) (I : Inside) → IsSound run W I → (u : ℕ) (event : Option Event) → I u ≡ event → IsBelow (length W.tasks) event
below-event run W I sound u (Some (TaskCreate task undeferred codeptr)) is = (sound.events u (TaskCreate task undeferred codeptr) is).occurred.named.made.below
below-event run W I sound u other is = tt

-- the region that a thread is forking is open still, and no thread was invited to it
abbrev pub StaysForking : World → Option Event → Type 0
StaysForking after (Some (ParallelBegin r requested codeptr)) = IsOpenRegion after r × ((u : ℕ) → (thread_at after u).invited ≢ r)
StaysForking after other = Unit {0}

module _ (W after : World) (made : IsMadeWorld W) (grown : Grown W after) (t : ℕ) (like : LikeThread W after t) where
  pub like-current : current after t ≡ current W t
  like-current = ap (λ (ks : List ℕ). slice_index_or ks 0 0) like.stack

  like-region : current_region after t ≡ current_region W t
  like-region = ap (region_of after) like-current ∙ grown.region (current W t) (current-below W t made)

  like-free : stand_at W (current W t) ≡ Free → stand_at after (current after t) ≡ Free
  like-free is = ap (stand_at after) like-current ∙ like.free is

  pub invited-like : (r : ℕ) → IsInvited W t r → IsOpenRegion after r → (thread_at after t).taken ≡ None → IsInvited after t r
  invited-like r invited open_now taken =
      record {
        region = open_now;
        on = elim invited.on [
          | inl forker ↦ inl (record { some = rw like-current forker.some; task = grown.task r invited.region.made ∙ forker.task ∙ sym like-current })
          | inr idle ↦ inr (record {
            stack = like.stack ∙ idle.stack;
            outermost = outermost-grown W after r made grown
                (record { some = omega (arith, invited.region.forked); below = invited.region.made }) ∙ idle.outermost;
            other = idle.other;
          })
        ];
        undeferred = like.undeferred ∙ invited.undeferred;
        taken = taken;
      }

  pub detained-like : (k : ℕ) → k < length W.tasks → IsDetained W t k → (thread_at after t).taken ≡ None → IsDetained after t k
  detained-like k there detained taken =
      record {
        some = rw like-current detained.some;
        region = grown.region k there ∙ detained.region ∙ sym like-region;
        stand = like-free detained.stand;
        invited = like.invited ∙ detained.invited;
        taken = taken;
      }

  share-like : (share : Option Share) → MayTake W t share → MayTake after t share
  share-like None takes = tt
  share-like (Some share) takes =
      record {
        some = rw like-current takes.some;
        fits = subst (Fits share) (sym (ap (opens_at after) like-current ∙ like.opens)) takes.fits;
        stand = like-free takes.stand;
        invited = like.invited ∙ takes.invited;
        undeferred = like.undeferred ∙ takes.undeferred;
      }

  pub shares-like : (thread_at after t).taken ≡ (thread_at W t).taken → MayTake W t (thread_at W t).taken → MayTake after t (thread_at after t).taken
  shares-like same takes = subst (MayTake after t) (sym same) (share-like (thread_at W t).taken takes)

  errand-like : (thread_at after t).taken ≡ (thread_at W t).taken → HasNoErrand W t → HasNoErrand after t
  errand-like same none =
      record {
        some = rw like-current none.some;
        invited = like.invited ∙ none.invited;
        undeferred = like.undeferred ∙ none.undeferred;
        taken = same ∙ none.taken;
      }

  pub busy-like : (event : Option Event) → (thread_at after t).taken ≡ (thread_at W t).taken → IsBelow (length W.tasks) event → StaysForking after event →
      IsBusy W t event → IsBusy after t event
  busy-like (Some ThreadEnd) same below stays busy = like.stack ∙ busy
  busy-like (Some (ParallelBegin r requested codeptr)) same below stays busy =
      record {
        errand = errand-like same busy.errand;
        region = stays.0;
        task = grown.task r busy.region.made ∙ busy.task ∙ sym like-current;
        uninvited = stays.1;
      }
  busy-like (Some (ParallelEnd r codeptr)) same below stays busy = record { some = rw like-current busy.some; stand = rw like-current (like.apart busy.stand) }
  busy-like (Some (TaskCreate task undeferred codeptr)) same below stays busy =
      record { errand = errand-like same busy.errand; region = grown.region task below ∙ busy.region ∙ sym like-region; stand = like-free busy.stand }
  busy-like other same below stays busy = tt

-- a thread that is calm is to do nothing
module _ (W : World) (t : ℕ) (calm : IsCalm W t) where
  pub calm-invited : 1 ≤ (thread_at W t).invited → IsInvited W t (thread_at W t).invited
  calm-invited some = absurd (omega (arith, calm.invited))

  pub calm-detained : 1 ≤ (thread_at W t).undeferred → IsDetained W t (thread_at W t).undeferred
  calm-detained some = absurd (omega (arith, calm.undeferred))

  pub calm-shares : MayTake W t (thread_at W t).taken
  calm-shares = subst (MayTake W t) (sym calm.taken) tt
