-- The run of a program with these settings, what a run came to, and what it gave.
use Rattle.std.specs.Prelude.{ℕ, ◌≡◌, ◌≢◌, ◌<◌, Bool, true, false, List, [], length, slice_index_or, Some}
use Rattle.omp_model.specs.declared.cause.Cause.TheVariants as causes
use Rattle.c_syntax.specs.language.Numbered.{TreeView}
use Rattle.team_run.specs.Names.{Record, AreAlways, Cause, Entry, Legal, Serial, cause_of, after, heard_of, serial, Run}
use Rattle.team_run.specs.{declared.ran.Ran.Ran, Serving.AreSame, Serving.RunsParts, Serving.called_for, Standing.HearsOwn, Standing.HearsSilent, Unheard.AreUnheard}

-- the run of this program with this mask, so many threads and so many silent steps
abbrev pub run_of_program : TreeView → ℕ → ℕ → ℕ → Run
run_of_program program mask threads steps = record { program = program; mask = mask; threads = threads; steps = steps }

-- what ran where this was answered: the mask is the answer's
abbrev pub run_of : {P : Type 0} → TreeView → ℕ → ℕ → Ran P → Run
run_of program threads steps ran = run_of_program program ran.mask threads steps

-- A run, serially or by threads, that ended in this cause with this history: a legal one that ends in its cause, unless that is Memory, and of
-- which nothing is heard on a thread that the run doesn't have. A serial run's is in the serial order, and where nothing is stored and memory
-- wasn't wanting it is the one that there is. Where memory was wanting it has an entry
pub record RunsTo (run : Run) (is_serial : Bool) (cause : Cause) (history : List Entry) : Type 0 where
  pub legal : Legal run history
  pub ends : cause ≢ causes.Memory → cause_of run history ≡ Some cause
  pub own : HearsOwn run history
  pub in_order : is_serial ≡ true → Serial run history
  pub whole : is_serial ≡ true → cause ≢ causes.Memory → HearsSilent run history → history ≡ serial run
  pub begun : cause ≡ causes.Memory → history ≢ []

-- What such a run has come to between the start and the end of its first part: what the program printed, and what each part was called for.
-- Beside what its thread heard that is at most one call, in which it found no memory. Then the run ended for want of memory.
pub record HaveServed {P : Type 0} (stands_for : P → Record → Type 0) (Same : P → P → Type 0) (is_serial : Bool) (run : Run) (cause : Cause)
    (history : List Entry) (text : List ℕ) (parts others : List P) : Type 0 where
  pub to : RunsTo run is_serial cause history
  pub text_is : text ≡ (after run history).world.store.text
  pub as_many : length others ≡ length parts
  pub unheard : ℕ → Bool
  pub are_unheard : AreUnheard is_serial run cause history unheard
  pub all_heard : cause ≢ causes.Memory → (k : ℕ) → k < run.threads → unheard k ≡ false
  pub each : (k : ℕ) (d : P) (h : Record) → k < length parts → stands_for (slice_index_or parts k d) h →
      stands_for (slice_index_or others k d) (called_for (heard_of run history k) (unheard k) h)
  pub same : AreSame Same parts others

-- What was answered of this run, serially or by threads, with these parts: a legal history with its cause, what the program printed,
-- what each part was called for, and that nothing else is heard. The callbacks that were registered are called always.
pub record IsRan {P : Type 0} (stands_for : P → Record → Type 0) (Same : P → P → Type 0) (is_serial : Bool) (run : Run)
    (before : List P) (ran : Ran P) : Type 0 where
  pub to : RunsTo run is_serial ran.cause ran.history
  pub parts : RunsParts stands_for is_serial run ran.cause ran.history before ran.parts.items
  pub same : AreSame Same before ran.parts.items
  pub always : AreAlways ran.mask
  pub text : ran.text.items ≡ (after run ran.history).world.store.text

-- the same of this program, with so many threads and silent steps, with the mask of the answer
abbrev pub IsRanOf : {P : Type 0} → (P → Record → Type 0) → (P → P → Type 0) → Bool → TreeView → ℕ → ℕ → List P → Ran P → Type 0
IsRanOf stands_for Same is_serial program threads steps before ran =
    IsRan stands_for Same is_serial (run_of program threads steps ran) before ran
