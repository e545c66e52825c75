-- The answer that a thread owes: a registered event of it has occurred, and its tool's callback hasn't returned.
use Rattle.std.specs.Prelude.{ℕ, suc, zero, ◌≡◌, true, List, [], ◌∷◌, ◌++◌, length, Option, Some, None}
use Rattle.ompt_calls.specs.declared.call.Call.{Call}
use Rattle.ompt_calls.specs.declared.snapshot.Snapshot.{Snapshot}
use Rattle.ompt_calls.specs.Number.{is_registered}
use Rattle.omp_model.specs.declared.event.Callback.{Callback}
use Rattle.omp_model.specs.declared.event.Event.{Event}
use Rattle.omp_model.specs.declared.event.Outcome.TheVariants.{Happens}
use Rattle.omp_model.specs.declared.history.Entry.{Entry}
use Rattle.omp_model.specs.State.{Run, pending_at}
use Rattle.omp_model.specs.Calls.{call_of, callback_of}
use Rattle.omp_model.specs.Legal.{after}
use Rattle.omp_model.specs.Snapshots.{snap_of}
use Rattle.omp_model.specs.Storing.{go_at}
use Rattle.omp_model.specs.Turn.{called, turn}
use Rattle.step_book.specs.declared.step.Step.{Step}
use Rattle.step_book.specs.declared.step.Step.TheVariants.{Told}
use Rattle.step_book.specs.BookView.{BookView}

-- none of these entries is of the thread
abbrev pub NotBy : ℕ → List Entry → Type 0
NotBy t [] = Unit {0}
NotBy t (entry ∷ rest) = (entry.thread ≡ t → ⊥) × NotBy t rest

-- The thread owes the answer to the event with this place, call and snapshot: the Go of the event is the thread's last entry, its callback is
-- registered, and the thread is inside it.
pub record Owes (run : Run) (history : List Entry) (t seq : ℕ) (call : Call) (snapshot : Snapshot) : Type 0 where
  pub before : List Entry
  pub since : List Entry
  pub event : Event
  pub history_is : history ≡ before ++ go_at t ∷ since
  pub none_since : NotBy t since
  pub place : seq ≡ length before
  pub happens : (turn run (after run before) t).outcome ≡ Happens event
  pub registered : is_registered run.mask (callback_of event) ≡ true
  pub call_is : call ≡ call_of (turn run (after run before) t).state.world t event
  pub snapshot_is : snapshot ≡ snap_of (turn run (after run before) t).state.world t event
  pub inside : pending_at (after run history) t ≡ Some (called event)

-- the thread owes the answer to the event with this snapshot
pub record OwesAnswer (book : BookView) (t : ℕ) (snapshot : Snapshot) : Type 0 where
  pub seq : ℕ
  pub call : Call
  pub owes : Owes book.run book.history t seq call snapshot

-- the answer that the thread owes after this step of its own
abbrev pub OwesStep : BookView → ℕ → Step → Type 0
OwesStep book t (Told seq call snapshot) = Owes book.run book.history t seq call snapshot
OwesStep book t other = Unit {0}

-- how many threads are inside a callback
abbrev pub count_pending : List (Option Callback) → ℕ
count_pending [] = zero
count_pending (None ∷ rest) = count_pending rest
count_pending (Some callback ∷ rest) = suc (count_pending rest)
