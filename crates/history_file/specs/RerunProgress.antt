-- What a rerun has come to after some entries, however the history goes on. This serves the proofs.
use Rattle.std.specs.Prelude.{ℕ, ◌≡◌, ◌<◌, ◌≤◌, ◌==◌, ◌||◌, not, Bool, false, ⊤, List, [], ◌∷◌, ◌++◌, length, map, filter, Option, Some, None, is_some, slice_index_or}
use Rattle.omp_model.specs.declared.cause.Cause.{Cause}
use Rattle.omp_model.specs.declared.event.Callback.{Callback}
use Rattle.omp_model.specs.declared.history.Entry.{Entry}
use Rattle.omp_model.specs.declared.history.What.{What}
use Rattle.omp_model.specs.Cause.{cause_in}
use Rattle.omp_model.specs.Heard.{has_back, heard, heard_from}
use Rattle.omp_model.specs.Legal.{AllowsFrom, Legal, after, is_told}
use Rattle.omp_model.specs.State.{Run, State, pending_at}
use Rattle.run_trace.specs.TraceOf.{detail_of, status_of}
use Rattle.history_file.specs.declared.file.HistoryFile.{HistoryFile}
use Rattle.history_file.specs.declared.verdict.HeardCall.{HeardCall}
use Rattle.history_file.specs.declared.waiting.Waiting.{Waiting}
use Rattle.history_file.specs.Verdicts.{heard_call}

-- what happened on this thread
abbrev pub entry_of : ℕ → What → Entry
entry_of thread what = record { thread = thread; what = what }

-- the place of the event that is told, where the thread waits for the Back of one
abbrev pub told_of : Option Waiting → Option ℕ
told_of None = None
told_of (Some waiting) = waiting.told

abbrev pub is_place : Option ℕ → ℕ → Bool
is_place None seq = false
is_place (Some place) seq = place == seq

-- the call's thread waits for the Back of the call's event
abbrev pub waits : List (Option Waiting) → HeardCall → Bool
waits waiting call = is_place (told_of (slice_index_or waiting call.thread None)) call.seq

-- the call is heard, where these entries follow: its Back has come, or stands among them
abbrev pub is_kept : List (Option Waiting) → List Entry → HeardCall → Bool
is_kept waiting rest call = not (waits waiting call) || has_back call.thread rest

-- what is known of the callback that a thread is inside
abbrev pub IsWaiting : Run → Option Waiting → Option Callback → Type 0
IsWaiting run None None = ⊤
IsWaiting run (Some waiting) (Some callback) = (waiting.stores ≡ callback.stores) × (is_some waiting.told ≡ is_told run callback)
IsWaiting run None (Some callback) = ⊥
IsWaiting run (Some waiting) None = ⊥

-- each event of these calls stands before this place
abbrev pub AreBefore : ℕ → List HeardCall → Type 0
AreBefore place [] = ⊤
AreBefore place (call ∷ calls) = (call.seq < place) × AreBefore place calls

-- After these entries the run is in this state, each thread waits so, and these are the calls of the events that were told.
pub record HasCome (run : Run) (done : List Entry) (S : State) (waiting : List (Option Waiting)) (calls : List HeardCall) : Type 0 where
  pub room : run.threads ≤ length waiting
  pub legal : (rest : List Entry) → AllowsFrom run S rest → Legal run (done ++ rest)
  pub back : (rest : List Entry) → Legal run (done ++ rest) → AllowsFrom run S rest
  pub reached : after run done ≡ S
  pub inside : (t : ℕ) → IsWaiting run (slice_index_or waiting t None) (pending_at S t)
  pub hears : (rest : List Entry) → map heard_call (heard run (done ++ rest)) ≡ filter (is_kept waiting rest) calls ++ map heard_call (heard_from run S (length done) rest)
  pub early : AreBefore (length done) calls

-- the run has ended in this state, and as the file says
pub record EndsAs (run : Run) (S : State) (file : HistoryFile) : Type 0 where
  pub cause : Cause
  pub ends : cause_in run S ≡ Some cause
  pub status_is : file.status ≡ status_of cause
  pub detail_is : file.detail ≡ detail_of cause
