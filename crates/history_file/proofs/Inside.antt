-- Of the threads that are inside a callback, where one of them goes in, stores or comes out.
use Rattle.std.proofs.Common.{◌≡◌, ℕ, ◌<◌, ◌&&◌, Bool, List, Option, Some, None, length, nat_lt, is_some, slice_index_or, slice_set, get_or-set_same, refl, sym, ap₂, subst, inl, inr}
use Rattle.std.proofs.lemmas.Bool.{cases_eq}
use Rattle.std.proofs.lemmas.List.{get_or-set_other}
use Rattle.ompt_calls.specs.declared.snapshot.Target.{Target}
use Rattle.omp_model.specs.declared.event.Callback.{Callback}
use Rattle.omp_model.specs.declared.limits.TheConstants.{STORE_LIMIT}
use Rattle.omp_model.specs.Legal.{is_told, may_put}
use Rattle.omp_model.specs.State.{Run, State}
use Rattle.omp_model.specs.Words.{is_made}
use Rattle.history_file.specs.declared.waiting.Waiting.{Waiting}
use Rattle.history_file.specs.RerunProgress.{IsWaiting}

-- what is known of each thread
abbrev pub AreWaiting : Run → List (Option Waiting) → List (Option Callback) → Type 0
AreWaiting run waiting pending = (t : ℕ) → IsWaiting run (slice_index_or waiting t None) (slice_index_or pending t None)

-- .. of one of them it is something else now
pub one_waiting : (run : Run) (waiting : List (Option Waiting)) (pending : List (Option Callback)) (t : ℕ) (now : Option Waiting) (inside : Option Callback)
    → t < length waiting → t < length pending → IsWaiting run now inside → AreWaiting run waiting pending → AreWaiting run (slice_set waiting t now) (slice_set pending t inside)
one_waiting run waiting pending t now inside below pends is before k =
    elim (cases_eq k t) [
      | inl same ↦
          subst (λ (j : ℕ). IsWaiting run (slice_index_or (slice_set waiting t now) j None) (slice_index_or (slice_set pending t inside) j None)) (sym same)
          (rw (get_or-set_same waiting t now None below, get_or-set_same pending t inside None pends) is)
      | inr other ↦ rw (get_or-set_other waiting t k now None other, get_or-set_other pending t k inside None other) (before k)
    ]

-- the callback that a thread is inside
pub record InsideOf (run : Run) (now : Waiting) (inside : Option Callback) : Type 0 where
  pub callback : Callback
  pub is : inside ≡ Some callback
  pub stores : now.stores ≡ callback.stores
  pub told : is_some now.told ≡ is_told run callback

pub inside_of : (run : Run) (now : Waiting) (inside : Option Callback) → IsWaiting run (Some now) inside → InsideOf run now inside
inside_of run now None is = absurd is
inside_of run now (Some callback) is = record { callback = callback; is = refl; stores = is.0; told = is.1 }

-- a thread that is inside none
pub none_inside : (run : Run) (inside : Option Callback) → IsWaiting run None inside → inside ≡ None
none_inside run None is = refl
none_inside run (Some callback) is = absurd is

-- .. and the other way
pub none_waiting : (run : Run) (now : Option Waiting) → IsWaiting run now None → now ≡ None
none_waiting run None is = refl
none_waiting run (Some waiting) is = absurd is

-- whether a tool may store
pub may_store : (run : Run) (S : State) (place : Target) (now : Waiting) (inside : Option Callback) → IsWaiting run (Some now) inside →
    may_put run S place inside ≡ ((is_some now.told && nat_lt now.stores STORE_LIMIT) && is_made S.world place)
may_store run S place now None is = absurd is
may_store run S place now (Some callback) is = ap₂ (λ (told : Bool) (stores : ℕ). (told && nat_lt stores STORE_LIMIT) && is_made S.world place) (sym is.1) (sym is.0)
