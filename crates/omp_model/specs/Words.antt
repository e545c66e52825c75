-- The data words of a tool: one for each thread, region and task. OpenMP 5.2 has them as `ompt_data_t` (19.4.4.4).
use Rattle.std.specs.Prelude.{ℕ, ◌+◌, ◌&&◌, Bool, true, false, nat_lt, length}
use Rattle.ompt_calls.specs.declared.call.Word.{Word}
use Rattle.ompt_calls.specs.declared.snapshot.Target.{Target}
use Rattle.ompt_calls.specs.declared.snapshot.Target.TheVariants as target
use Rattle.omp_model.specs.declared.parts.ThreadStage.{ThreadStage}
use Rattle.omp_model.specs.declared.parts.ThreadStage.TheVariants as stage
use Rattle.omp_model.specs.State.{World, thread_at, task_at, region_at, with_thread, with_task}
use Rattle.omp_model.specs.Changes.{with_head}

-- a word into which nothing was stored
abbrev pub fresh_word : ℕ → Word
fresh_word identity = record { identity = identity; value = 0 }

-- the word of no region and no task
abbrev pub null_word : Word
null_word = fresh_word 0

-- the words of a thread, a region and a task, with what was last stored into them
abbrev pub thread_word : World → ℕ → Word
thread_word W t = record { identity = t + 1; value = (thread_at W t).word }

abbrev pub region_word : World → ℕ → Word
region_word W r = record { identity = r; value = (region_at W r).head.word }

abbrev pub task_word : World → ℕ → Word
task_word W k = record { identity = k; value = (task_at W k).word }

-- a thread that was made
abbrev pub is_made_thread : ThreadStage → Bool
is_made_thread stage.Unmade = false
is_made_thread stage.Made = true
is_made_thread stage.Begun = true
is_made_thread stage.Ended = true

-- the identity is one of so many, of which 0 stands for none
abbrev pub is_made_identity : ℕ → ℕ → Bool
is_made_identity identity count = nat_lt 0 identity && nat_lt identity count

-- the thread, region or task whose word this is was made
abbrev pub is_made : World → Target → Bool
is_made W (target.Thread t) = is_made_thread (thread_at W t).stage
is_made W (target.Parallel r) = is_made_identity r (length W.regions)
is_made W (target.Task k) = is_made_identity k (length W.tasks)

-- this is stored into the word
abbrev pub stored : World → Target → ℕ → World
stored W (target.Thread t) value = with_thread W t (record (thread_at W t) { word = value })
stored W (target.Parallel r) value = with_head W r (record (region_at W r).head { word = value })
stored W (target.Task k) value = with_task W k (record (task_at W k) { word = value })
