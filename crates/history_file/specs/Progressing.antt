-- How far a rerun has come, and what its steps do. This serves the proofs.
use Rattle.std.specs.Prelude.{ℕ, ◌≡◌, Bool, true, false, List, [], ◌∷◌, ◌++◌, length, Some, None, Option, slice_set}
use Rattle.omp_machine.specs.declared.went.Went.{Went}
use Rattle.omp_machine.specs.declared.went.Went.TheVariants as went
use Rattle.omp_model.specs.declared.history.Entry.{Entry}
use Rattle.omp_model.specs.Legal.{may}
use Rattle.history_file.specs.declared.progress.Progress.{Progress}
use Rattle.history_file.specs.declared.verdict.HeardCall.{HeardCall}
use Rattle.history_file.specs.declared.waiting.Waiting.{Waiting}
use Rattle.history_file.specs.RerunProgress.{HasCome}

-- these are the entries so far
pub record IsAt (done : List Entry) (progress : Progress) : Type 0 where
  pub come : HasCome progress.machine.run done progress.machine.state progress.waiting progress.calls.items
  pub seq_is : progress.seq ≡ length done

-- this entry was taken
pub record Takes (old : Progress) (entry : Entry) (new : Progress) : Type 0 where
  pub run_is : new.machine.run ≡ old.machine.run
  pub at : (done : List Entry) → IsAt done old → IsAt (done ++ entry ∷ []) new

-- .. or it may not stand next, and nothing has changed
abbrev pub Steps : Progress → Entry → Progress → Bool → Type 0
Steps old entry new true = Takes old entry new
Steps old entry new false = (new ≡ old) × (may old.machine.run old.machine.state entry.thread entry.what ≡ false)

-- what is known of a thread whose turn came to this, at this place
abbrev pub waiting_after : List (Option Waiting) → ℕ → ℕ → Went → List (Option Waiting)
waiting_after waiting thread seq went.Quiet = waiting
waiting_after waiting thread seq (went.Told call snapshot) = slice_set waiting thread (Some (record { stores = 0; told = Some seq }))
waiting_after waiting thread seq went.Untold = slice_set waiting thread (Some (record { stores = 0; told = None }))
waiting_after waiting thread seq (went.Trapped number) = waiting
waiting_after waiting thread seq (went.Limit number) = waiting

-- the calls of the events that were told, with that of this turn
abbrev pub calls_after : List HeardCall → ℕ → ℕ → Went → List HeardCall
calls_after calls thread seq (went.Told call snapshot) = calls ++ record { seq = seq; thread = thread; call = call } ∷ []
calls_after calls thread seq other = calls

-- not each of these entries may stand: so many were taken, and the next may not
pub record Stops (history : List Entry) (progress : Progress) : Type 0 where
  pub done : List Entry
  pub entry : Entry
  pub rest : List Entry
  pub whole : history ≡ done ++ entry ∷ rest
  pub at : IsAt done progress
  pub refused : may progress.machine.run progress.machine.state entry.thread entry.what ≡ false

abbrev pub Goes : List Entry → Progress → Bool → Type 0
Goes history progress true = IsAt history progress
Goes history progress false = Stops history progress
