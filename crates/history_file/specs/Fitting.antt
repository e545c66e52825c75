-- What has to be so of a file for its fields to be numbers of their widths, and what its types know.
use Rattle.std.specs.Prelude.{◌<◌, ◌^◌, ⊤, All}
use Rattle.ompt_calls.specs.declared.snapshot.Target.{Target}
use Rattle.ompt_calls.specs.declared.snapshot.Target.TheVariants as target
use Rattle.omp_model.specs.declared.history.Entry.{Entry}
use Rattle.omp_model.specs.declared.history.What.{What}
use Rattle.omp_model.specs.declared.history.What.TheVariants.{Back, Go, Put}
use Rattle.history_file.specs.declared.file.HistoryFile.{HistoryFile}
use Rattle.history_file.specs.declared.file.TheConstants.{THREAD_LIMIT}

-- the word of a thread is that of one that a run can have
abbrev pub HasThreadOf : Target → Type 0
HasThreadOf (target.Thread thread) = thread < THREAD_LIMIT
HasThreadOf (target.Parallel region) = ⊤
HasThreadOf (target.Task task) = ⊤

abbrev pub HasThreadIn : What → Type 0
HasThreadIn Go = ⊤
HasThreadIn (Put place word) = HasThreadOf place
HasThreadIn Back = ⊤

-- a store into the word of a thread names one that a run can have
abbrev pub HasThread : Entry → Type 0
HasThread entry = HasThreadIn entry.what

abbrev pub FitsTarget : Target → Type 0
FitsTarget (target.Thread thread) = thread < 2 ^ 32
FitsTarget (target.Parallel region) = region < 2 ^ 32
FitsTarget (target.Task task) = task < 2 ^ 32

abbrev pub FitsWhat : What → Type 0
FitsWhat Go = ⊤
FitsWhat (Put place word) = FitsTarget place × (word < 2 ^ 64)
FitsWhat Back = ⊤

abbrev pub FitsEntry : Entry → Type 0
FitsEntry entry = FitsWhat entry.what

pub record FitsFile (file : HistoryFile) : Type 0 where
  pub mask : file.mask < 2 ^ 64
  pub entries : All FitsEntry file.history
