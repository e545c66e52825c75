-- Which history files there are, and what each of them is written as.
use Rattle.std.specs.Prelude.{ℕ, ◌≡◌, ◌<◌, ◌≤◌, ◌^◌, ⊤, List, length, All}
use Rattle.ompt_calls.specs.declared.snapshot.Target.{Target}
use Rattle.ompt_calls.specs.declared.snapshot.Target.TheVariants as target
use Rattle.omp_model.specs.declared.history.Entry.{Entry}
use Rattle.omp_model.specs.declared.history.What.{What}
use Rattle.omp_model.specs.declared.history.What.TheVariants.{Back, Go, Put}
use Rattle.tool_api.specs.Registering.{AreAlways}
use Rattle.trace_format.specs.Validity.{IsDetail}
use Rattle.history_file.specs.declared.file.HistoryFile.{HistoryFile}
use Rattle.history_file.specs.declared.file.TheConstants.{ENTRY_LIMIT, STEP_LIMIT, TEXT_LIMIT, THREAD_LIMIT}
use Rattle.history_file.specs.Fields.{fields_of, spelling}

-- identities count from 1
abbrev pub IsTarget : ℕ → Target → Type 0
IsTarget threads (target.Thread thread) = thread < threads
IsTarget threads (target.Parallel region) = (1 ≤ region) × (region < 2 ^ 32)
IsTarget threads (target.Task task) = (1 ≤ task) × (task < 2 ^ 32)

abbrev pub IsWhat : ℕ → What → Type 0
IsWhat threads Go = ⊤
IsWhat threads (Put place word) = IsTarget threads place × (word < 2 ^ 64)
IsWhat threads Back = ⊤

-- an entry of a file with so many threads
abbrev pub IsEntry : ℕ → Entry → Type 0
IsEntry threads entry = (entry.thread < threads) × IsWhat threads entry.what

pub record IsHistoryFile (file : HistoryFile) : Type 0 where
  pub some : 1 ≤ file.threads
  pub few : file.threads ≤ THREAD_LIMIT
  pub long : file.mask < 2 ^ 64
  pub always : AreAlways file.mask
  pub steps : 1 ≤ file.steps
  pub bounded : file.steps ≤ STEP_LIMIT
  pub text : length file.text ≤ TEXT_LIMIT
  pub entries : All (IsEntry file.threads) file.history
  pub few_entries : length file.history ≤ ENTRY_LIMIT
  pub end : IsDetail file.status file.detail

-- the file is written as these bytes
pub record WritesHistory (file : HistoryFile) (bytes : List ℕ) : Type 0 where
  pub is_file : IsHistoryFile file
  pub bytes_are : bytes ≡ spelling (fields_of file)
