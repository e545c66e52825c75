-- The laws of what codes have open, as they are used here: they are those of `c_brackets`.
use Rattle.std.proofs.Common.{ℕ, ℤ, ◌≡◌, ◌≢◌, Bool, List, [], ◌∷◌, refl}
use Rattle.c_syntax.specs.language.Numbered.{TreeView}
use Rattle.c_syntax.specs.language.Tree.{Tree}
use Rattle.c_check.specs.Checked.{Checked}
use Rattle.c_model.specs.declared.point.Point.{Point}
use Rattle.c_model.specs.declared.point.Point.TheVariants as point
use Rattle.c_model.specs.declared.point.SyncKind.{SyncKind}
use Rattle.c_model.specs.declared.point.SyncStage.{SyncStage}
use Rattle.c_model.specs.declared.point.SyncStage.TheVariants as stage
use Rattle.c_model.specs.declared.question.Answer.{Answer}
use Rattle.c_model.specs.declared.view.View.{View}
use Rattle.c_model.specs.Begin.{explicit_task, main_task, member_task}
use Rattle.c_model.specs.Formed.{IsProgramFormed}
use Rattle.c_model.specs.AfterEvents.{after_answer, after_event}
use Rattle.c_model.specs.Step.{settled_task, silent}
use Rattle.c_model.specs.Task.{Item, Moment, Task as Code}
use Rattle.c_model.specs.Task.Item.{Forked, Sync}
use Rattle.c_model.specs.Task.Outcome.{Ends, Occurs, StepsTo}
use Rattle.c_brackets.specs.Effects.{ForksNext, HasNoFork, IsNewestFork, LeadsTo, effect_of}
use Rattle.c_brackets.specs.Opened.{Open, open_task}
use Rattle.c_brackets.specs.Orderly.{IsOrderly}
use Rattle.c_brackets.specs.Returns.{HasReturnsOutside}
use Rattle.c_brackets.proofs.Forking.{forks_next}
use Rattle.c_brackets.proofs.ReturnPrograms.{returns_outside}
use Rattle.c_brackets.proofs.TurningTasks.{answer_is_orderly, answer_same, ended_none, event_is_orderly, event_leads, explicit_is_orderly, explicit_none, main_is_orderly, main_none, member_is_orderly, member_none, settled_is_orderly, settled_same, step_is_orderly, step_same}
use Rattle.omp_model.specs.State.{World, task_at}
use Rattle.nested_runs.proofs.Shown.{opens_at}
use Rattle.nested_runs.proofs.Standing.{stand_among, stand_at, stand_within}
use Rattle.nested_runs.proofs.Standing.Stand.{AtFork}
use Rattle.nested_runs.proofs.Touching.{AreCodes}

pub returns-outside : (program : TreeView) → Checked program → IsProgramFormed program → HasReturnsOutside program
returns-outside program checked formed = returns_outside program checked formed

module _ (program : TreeView) (returns : HasReturnsOutside program) where
  pub main-orderly : IsOrderly (main_task program)
  main-orderly = main_is_orderly program returns

  pub step-orderly : (view : View) (now next : Moment) → IsOrderly now.task → silent program view now ≡ StepsTo next → IsOrderly next.task
  step-orderly view now next orderly is = step_is_orderly program view now next returns orderly is

  pub event-orderly : (view : View) (what : Point) (executes : Bool) (now : Moment) (tree : Tree) → IsOrderly now.task
      → silent program view now ≡ Occurs what tree
      → IsOrderly (after_event view what executes now.task)
  event-orderly view what executes now tree orderly is = event_is_orderly program view what executes now tree returns orderly is

  pub explicit-orderly : (view : View) (now : Moment) (codeptr : ℕ) (undeferred : Bool) (tree : Tree) → IsOrderly now.task
      → silent program view now ≡ Occurs (point.TaskCreate codeptr undeferred) tree → IsOrderly (explicit_task program view now).task
  explicit-orderly view now codeptr undeferred tree orderly is = explicit_is_orderly program view now codeptr undeferred tree returns orderly is

  pub step-open : (view : View) (now next : Moment) → IsOrderly now.task → silent program view now ≡ StepsTo next → open_task next.task ≡ open_task now.task
  step-open view now next orderly is = step_same program view now next returns orderly is

  pub event-open : (view : View) (what : Point) (executes : Bool) (now : Moment) (tree : Tree) → IsOrderly now.task
      → silent program view now ≡ Occurs what tree
      → LeadsTo (effect_of what executes) (open_task now.task) (open_task (after_event view what executes now.task))
  event-open view what executes now tree orderly is = event_leads program view what executes now tree returns orderly is

  pub ended-open : (view : View) (now : Moment) (number : ℤ) → IsOrderly now.task → silent program view now ≡ Ends number → open_task now.task ≡ []
  ended-open view now number orderly is = ended_none program view now number returns orderly is

pub answer-orderly : (view : View) (given : Answer) (now : Moment) → IsOrderly now.task → IsOrderly (after_answer view given now).task
answer-orderly view given now orderly = answer_is_orderly view given now orderly

pub member-orderly : (code : Code) → IsOrderly code → IsOrderly (member_task code)
member-orderly code orderly = member_is_orderly code orderly

pub settled-orderly : (view : View) (code : Code) → IsOrderly code → IsOrderly (settled_task view code)
settled-orderly view code orderly = settled_is_orderly view code orderly

pub main-open : (program : TreeView) → open_task (main_task program) ≡ []
main-open program = main_none program

pub answer-open : (view : View) (given : Answer) (now : Moment) → IsOrderly now.task → open_task (after_answer view given now).task ≡ open_task now.task
answer-open view given now orderly = answer_same view given now orderly

pub member-open : (code : Code) → IsOrderly code → open_task (member_task code) ≡ []
member-open code orderly = member_none code orderly

pub explicit-open : (program : TreeView) (view : View) (now : Moment) → open_task (explicit_task program view now).task ≡ []
explicit-open program view now = explicit_none program view now

pub settled-open : (view : View) (code : Code) → IsOrderly code → open_task (settled_task view code) ≡ open_task code
settled-open view code orderly = settled_same view code orderly

pub forks-next : (code : Code) → IsOrderly code → ForksNext code.todo (open_task code)
forks-next code orderly = forks_next code orderly

-- of the codes of a world's tasks
apart-none : (items : List Item) (opened : List Open) → ForksNext items opened → stand_among items ≢ AtFork → HasNoFork opened
unfolding ForksNext
apart-none [] opened next apart = next
apart-none (Forked construct ∷ items) opened next apart = absurd (apart refl)
apart-none (item ∷ items) opened next apart = next

stand-within-apart : (kind : SyncKind) (at : SyncStage) → stand_within kind at ≢ AtFork
stand-within-apart kind stage.RegionBegin = λ is. cc
stand-within-apart kind stage.WaitBegin = λ is. cc
stand-within-apart kind stage.WaitEnd = λ is. cc
stand-within-apart kind stage.RegionEnd = λ is. cc

at-newest : (items : List Item) (opened : List Open) → ForksNext items opened → stand_among items ≡ AtFork → IsNewestFork opened
unfolding ForksNext
at-newest [] opened next at = absurd (cc)
at-newest (Forked construct ∷ items) opened next at = next
at-newest (Sync tree kind stage ∷ items) opened next at = absurd (stand-within-apart kind stage at)
at-newest (item ∷ items) opened next at = absurd (cc)

pub no-fork : (W : World) (k : ℕ) → AreCodes W → stand_at W k ≢ AtFork → HasNoFork (opens_at W k)
no-fork W k codes apart = apart-none (task_at W k).code.todo (opens_at W k) (forks-next (task_at W k).code (codes.orderly k)) apart

pub newest-fork : (W : World) (k : ℕ) → AreCodes W → stand_at W k ≡ AtFork → IsNewestFork (opens_at W k)
newest-fork W k codes at = at-newest (task_at W k).code.todo (opens_at W k) (forks-next (task_at W k).code (codes.orderly k)) at
