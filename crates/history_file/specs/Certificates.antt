-- When a file is a certificate: its history is a legal one of the program, and ends as the file says.
use Rattle.std.specs.Prelude.{ℕ, ◌≡◌, ◌≤◌, List, length, take, Some}
use Rattle.c_syntax.specs.language.Numbered.{TreeView}
use Rattle.omp_model.specs.declared.cause.Cause.{Cause}
use Rattle.omp_model.specs.declared.history.Entry.{Entry}
use Rattle.omp_model.specs.Cause.{cause_of}
use Rattle.omp_model.specs.Legal.{Legal}
use Rattle.omp_model.specs.State.{Run}
use Rattle.run_trace.specs.TraceOf.{detail_of, status_of}
use Rattle.history_file.specs.declared.file.HistoryFile.{HistoryFile}

-- the run that a file is of, where this is the program of its text
abbrev pub run_of_file : TreeView → HistoryFile → Run
run_of_file program file = record { program = program; mask = file.mask; threads = file.threads; steps = file.steps }

pub record IsCertificate (run : Run) (file : HistoryFile) : Type 0 where
  pub cause : Cause
  pub legal : Legal run file.history
  pub ends : cause_of run file.history ≡ Some cause
  pub status_is : file.status ≡ status_of cause
  pub detail_is : file.detail ≡ detail_of cause

-- the greatest number of first entries that are legal together
pub record IsLegalFront (run : Run) (history : List Entry) (place : ℕ) : Type 0 where
  pub short : place ≤ length history
  pub legal : Legal run (take place history)
  pub greatest : (other : ℕ) → other ≤ length history → Legal run (take other history) → other ≤ place

-- the file of a run with this text and history, that ended in this cause
abbrev pub file_of : List ℕ → Run → Cause → List Entry → HistoryFile
file_of text run cause history = record {
  threads = run.threads;
  mask = run.mask;
  steps = run.steps;
  text = text;
  history = history;
  status = status_of cause;
  detail = detail_of cause;
}
