-- What an event opens or ends.
use Rattle.std.specs.Prelude.{◌≡◌, Bool, true, false, IsTrue, not, List, ◌∷◌}
use Rattle.std.specs.List.{list_any}
use Rattle.c_model.specs.declared.point.Point.{Point}
use Rattle.c_model.specs.declared.point.Point.TheVariants.{MaskedBegin, MaskedEnd, ParallelBegin, ParallelEnd, Sync as SyncPoint, WorkBegin, WorkEnd}
use Rattle.c_model.specs.declared.point.SyncKind.{SyncKind}
use Rattle.c_model.specs.declared.point.SyncStage.{SyncStage}
use Rattle.c_model.specs.declared.point.SyncStage.TheVariants as stage
use Rattle.c_model.specs.declared.point.Work.{Work}
use Rattle.c_model.specs.declared.point.Work.TheVariants as work
use Rattle.c_model.specs.declared.point.WorkKind.TheVariants as work_kind
use Rattle.c_model.specs.Task.{Item}
use Rattle.c_model.specs.Task.Item.{Forked}
use Rattle.c_brackets.specs.Opened.{Open, is_fork}
use Rattle.c_brackets.specs.Opened.Open.{Forks, Works, Masks, Syncs, Awaits}

pub data Effect : Type 0 where
  Opens : Open → Effect
  Closes : Open → Effect
  Leaves : Effect

-- the part of a worksharing construct that begins. Of a `single` it is told whether the task executes it
abbrev pub work_open : Work → Bool → Open
work_open (work.Loop start count step schedule) executes = Works work_kind.Loop count
work_open (work.Sections count) executes = Works work_kind.Sections count
work_open work.Single true = Works work_kind.SingleExecutor 1
work_open work.Single false = Works work_kind.SingleOther 1

abbrev pub effect_at : SyncKind → SyncStage → Effect
effect_at kind stage.RegionBegin = Opens (Syncs kind)
effect_at kind stage.WaitBegin = Opens (Awaits kind)
effect_at kind stage.WaitEnd = Closes (Awaits kind)
effect_at kind stage.RegionEnd = Closes (Syncs kind)

abbrev pub effect_of : Point → Bool → Effect
effect_of (ParallelBegin codeptr requested) executes = Opens Forks
effect_of (ParallelEnd codeptr) executes = Closes Forks
effect_of (WorkBegin codeptr begun) executes = Opens (work_open begun executes)
effect_of (WorkEnd codeptr kind count) executes = Closes (Works kind count)
effect_of (MaskedBegin codeptr) executes = Opens Masks
effect_of (MaskedEnd codeptr) executes = Closes Masks
effect_of (SyncPoint codeptr kind stage) executes = effect_at kind stage
effect_of other executes = Leaves

-- an effect leads from what was open to what is open: what is opened is the newest then, and what is ended was
abbrev pub LeadsTo : Effect → (before behind : List Open) → Type 0
LeadsTo (Opens one) before behind = behind ≡ one ∷ before
LeadsTo (Closes one) before behind = before ≡ one ∷ behind
LeadsTo Leaves before behind = behind ≡ before

-- no region is forked; one is where its end stands next, and then it is the newest of what is open, and no other is
abbrev pub HasNoFork : List Open → Type 0
HasNoFork opened = IsTrue (not (list_any is_fork opened))

pub record IsNewestFork (opened : List Open) : Type 0 where
  pub older : List Open
  pub are : opened ≡ Forks ∷ older
  pub alone : HasNoFork older

unfoldable pub ForksNext : List Item → List Open → Type 0
ForksNext (Forked construct ∷ items) opened = IsNewestFork opened
ForksNext items opened = HasNoFork opened
