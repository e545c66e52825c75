-- The word that a history has put last into a thread, region or task.
use Rattle.std.specs.Prelude.{ℕ, Bool, false, ◌==◌, if◌then◌else◌, List, [], ◌∷◌, Option, Some, None, unwrap_or}
use Rattle.ompt_calls.specs.declared.snapshot.Target.{Target}
use Rattle.ompt_calls.specs.declared.snapshot.Target.TheVariants as target
use Rattle.omp_model.specs.declared.history.Entry.{Entry}
use Rattle.omp_model.specs.declared.history.What.{What}
use Rattle.omp_model.specs.declared.history.What.TheVariants.{Back, Go, Put}
use Rattle.omp_model.specs.Serial.{or_else}
use Rattle.omp_model.specs.State.{World}
use Rattle.omp_model.specs.Words.{region_word, task_word, thread_word}

-- both are the same thread, region or task
abbrev pub is_same_target : Target → Target → Bool
is_same_target (target.Thread t) (target.Thread u) = t == u
is_same_target (target.Parallel r) (target.Parallel q) = r == q
is_same_target (target.Task k) (target.Task j) = k == j
is_same_target one other = false

-- what an entry puts into this word, if it does
abbrev pub put_in : Target → What → Option ℕ
put_in target Go = None
put_in target (Put place word) = if is_same_target target place then Some word else None
put_in target Back = None

-- what is put into it last, if something is: what a later entry puts there goes before
abbrev pub last_put : Target → List Entry → Option ℕ
last_put target [] = None
last_put target (entry ∷ rest) = or_else (last_put target rest) (put_in target entry.what)

-- the last word that was put there, or 0
abbrev pub last_stored : Target → List Entry → ℕ
last_stored target history = unwrap_or (last_put target history) 0

-- the word of a thread, region or task, as a tool is told it
abbrev pub word_of : World → Target → ℕ
word_of W (target.Thread t) = (thread_word W t).value
word_of W (target.Parallel r) = (region_word W r).value
word_of W (target.Task k) = (task_word W k).value
