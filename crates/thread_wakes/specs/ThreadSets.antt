-- A set of threads of a run, as a number: the bits that are 1 stand at the numbers of its threads.
use Rattle.std.specs.Prelude.{◌≡◌, ◌≢◌, ℕ, Bool, true, ◌||◌, ◌==◌}
use Rattle.std.specs.Int.{bit_at}

-- whether the set has the thread
abbrev pub has_thread : ℕ → ℕ → Bool
has_thread set t = bit_at set t == 1

-- the thread is in one set or the other
abbrev pub IsInEither : ℕ → ℕ → ℕ → Type 0
IsInEither one other t = (has_thread one t || has_thread other t) ≡ true

-- each thread that was in the first set is in one of the others, but for this thread
abbrev pub KeepsOthers : ℕ → ℕ → ℕ → ℕ → Type 0
KeepsOthers thread before one other = (t : ℕ) → t ≢ thread → has_thread before t ≡ true → IsInEither one other t
