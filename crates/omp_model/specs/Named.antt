-- What a tool can inquire names what was made, as its calls do.
use Rattle.std.specs.Prelude.{All, Option, Some, None}
use Rattle.ompt_calls.specs.declared.snapshot.RegionLevel.{RegionLevel}
use Rattle.ompt_calls.specs.declared.snapshot.Snapshot.{Snapshot}
use Rattle.ompt_calls.specs.declared.snapshot.Target.{Target}
use Rattle.ompt_calls.specs.declared.snapshot.Target.TheVariants as target
use Rattle.ompt_calls.specs.declared.snapshot.TaskLevel.{TaskLevel}
use Rattle.omp_model.specs.State.{World}
pub use Rattle.omp_model.specs.Calls.{AreTaskWords, AreWords, IsMade, IsMadeCall, IsRegionWord, IsTaskWord, IsThreadWord}

-- a level of tasks: the task and its region were made
pub record IsMadeLevel (W : World) (level : TaskLevel) : Type 0 where
  pub task : IsMade W (target.Task level.word.identity)
  pub region : IsMade W (target.Parallel level.region.identity)

abbrev pub IsMadeRegionLevel : World → RegionLevel → Type 0
IsMadeRegionLevel W level = IsMade W (target.Parallel level.word.identity)

-- what the event has made, if it has made something
abbrev pub IsMadeFresh : World → Option Target → Type 0
IsMadeFresh W None = Unit {0}
IsMadeFresh W (Some place) = IsMade W place

-- the words of a snapshot. No level is of no task or region
pub record IsMadeSnapshot (W : World) (snapshot : Snapshot) : Type 0 where
  pub thread : IsThreadWord W snapshot.thread
  pub tasks : All (IsMadeLevel W) snapshot.tasks
  pub regions : All (IsMadeRegionLevel W) snapshot.regions
  pub fresh : IsMadeFresh W snapshot.fresh
