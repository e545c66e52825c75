-- What the inquiries of a tool answer, and the words that its stores go to.
use Rattle.std.specs.Prelude.{ℕ, ◌-◌, ◌++◌, List, [], ◌∷◌, Option, Some, None, slice_get, option_map}
use Rattle.ompt_calls.specs.declared.snapshot.Target.{Target}
use Rattle.ompt_calls.specs.declared.snapshot.Target.TheVariants as target
use Rattle.ompt_calls.specs.declared.snapshot.TaskLevel.{TaskLevel}
use Rattle.ompt_calls.specs.declared.snapshot.RegionLevel.{RegionLevel}
use Rattle.ompt_calls.specs.declared.snapshot.Snapshot.{Snapshot}
use Rattle.ompt_calls.specs.declared.reply.WordAt.{WordAt}
use Rattle.ompt_calls.specs.declared.reply.WordAt.TheVariants as at
use Rattle.ompt_calls.specs.declared.reply.Store.{Store}
use Rattle.ompt_calls.specs.declared.reply.Reply.{Reply}

-- a store that takes effect: the word, and what is stored in it
pub record Stored : Type 0 where
  pub target : Target
  pub word : ℕ

-- the levels count from 0, the innermost
abbrev pub task_info : Snapshot → ℕ → Option TaskLevel
task_info snapshot level = slice_get snapshot.tasks level

abbrev pub parallel_info : Snapshot → ℕ → Option RegionLevel
parallel_info snapshot level = slice_get snapshot.regions level

-- the word at a place, if there is one there. The identity of a thread's word is its number and one
abbrev pub target_of : Snapshot → WordAt → Option Target
target_of snapshot at.Thread = Some (target.Thread (snapshot.thread.identity - 1))
target_of snapshot (at.Parallel level) = option_map (λ (found : RegionLevel). target.Parallel found.word.identity) (parallel_info snapshot level)
target_of snapshot (at.Task level) = option_map (λ (found : TaskLevel). target.Task found.word.identity) (task_info snapshot level)
target_of snapshot at.Fresh = snapshot.fresh

-- a store at a place that isn't there takes no effect
abbrev pub stored : ℕ → Option Target → List Stored
stored word None = []
stored word (Some found) = record { target = found; word = word } ∷ []

abbrev pub stored_of : Snapshot → Option Store → List Stored
stored_of snapshot None = []
stored_of snapshot (Some store) = stored store.word (target_of snapshot store.place)

-- the stores of a reply that take effect, in their order
abbrev pub stores_of : Reply → Snapshot → List Stored
stores_of reply snapshot = stored_of snapshot reply.first ++ stored_of snapshot reply.second ++ stored_of snapshot reply.third
