-- All that the events so far tell of the machine's state, and how it is kept.
use Rattle.std.specs.Prelude.{ℕ, ◌≡◌, ◌≤◌, length, List, Some, None}
use Rattle.omp_codes.specs.declared.callbacks.TheConstants.{PROFILE_MASK}
use Rattle.ompt_calls.specs.declared.event.EventRecord.{EventRecord}
use Rattle.c_brackets.specs.Returns.{HasReturnsOutside}
use Rattle.omp_model.specs.declared.event.Event.{Event}
use Rattle.omp_model.specs.State.{Run, World, thread_at}
use Rattle.omp_model.specs.Conditions.{AreOrderly, EventOrderly}
use Rattle.omp_model.specs.MadeWorld.{HasOccurred, IsMadeWorld}
use Rattle.omp_model.proofs.Touching.{Returns}
use Rattle.trace_check.specs.Checking.{Unbroken}
use Rattle.nested_runs.proofs.Recorded.{Enters, Inside, Same}
use Rattle.nested_runs.proofs.Coming.{Comes}
use Rattle.nested_runs.proofs.Touching.{Alike, AreCodes, Touches}
use Rattle.nested_runs.proofs.Known.{AreSeated, TellsBarriers, TellsBrackets, TellsFirst, TellsLasts, TellsLocks, TellsMembers, TellsNumbers, TellsTasks, TellsThreads}

-- a run of 1 to 16 threads with the callbacks of the profile registered, of a program in which no return stands in a construct
pub record IsWholeRun (run : Run) : Type 0 where
  pub some : 1 ≤ run.threads
  pub few : run.threads ≤ 16
  pub whole : run.mask ≡ PROFILE_MASK
  pub returns : HasReturnsOutside run.program

-- the event that a thread is inside names what was made, and its tasks are orderly
pub record IsSoundEvent (W : World) (t : ℕ) (event : Event) : Type 0 where
  pub occurred : HasOccurred W t event
  pub orderly : EventOrderly W t event

-- what is so of each state of a run
pub record IsSound (run : Run) (W : World) (I : Inside) : Type 0 where
  pub whole : IsWholeRun run
  pub threads : length W.threads ≡ run.threads
  pub made : IsMadeWorld W
  pub orderly : AreOrderly W
  pub events : (t : ℕ) (event : Event) → I t ≡ Some event → IsSoundEvent W t event

pub record Knows (run : Run) (W : World) (I : Inside) (past : List EventRecord) : Type 0 where
  pub sound : IsSound run W I
  pub codes : AreCodes W
  pub threads : TellsThreads W I past
  pub brackets : TellsBrackets W I past
  pub numbers : TellsNumbers W past
  pub seats : AreSeated W I
  pub members : TellsMembers W I past
  pub first : TellsFirst W I past
  pub locks : TellsLocks W past
  pub tasks : TellsTasks W I past
  pub barriers : TellsBarriers W I past
  pub lasts : TellsLasts W I

-- a thread has come to an event, outside all callbacks, and this is the world after its Go
pub record Goes (run : Run) (W after : World) (I J : Inside) (past : List EventRecord) (t : ℕ) (event : Event) : Type 0 where
  pub knows : Knows run W I past
  pub unbroken : Unbroken past
  pub outside : I t ≡ None
  pub comes : Comes W t event
  pub touches : Touches W after t event
  pub enters : Enters I J t (Some event)
  pub sound : IsSound run after J

-- the callback of a thread's event has returned
pub record ComesBack (run : Run) (W after : World) (I J : Inside) (past : List EventRecord) (t : ℕ) (event : Event) : Type 0 where
  pub knows : Knows run W I past
  pub unbroken : Unbroken past
  pub within : I t ≡ Some event
  pub returns : Returns W after t event
  pub enters : Enters I J t None
  pub sound : IsSound run after J

-- what is no event has made one world of another
pub record Stays (run : Run) (W after : World) (I J : Inside) (past : List EventRecord) : Type 0 where
  pub knows : Knows run W I past
  pub unbroken : Unbroken past
  pub alike : Alike W after
  -- a thread that is inside a callback takes no share of work
  pub taken : (u : ℕ) (event : Event) → I u ≡ Some event → (thread_at after u).taken ≡ (thread_at W u).taken
  pub same : Same I J
  pub sound : IsSound run after J
