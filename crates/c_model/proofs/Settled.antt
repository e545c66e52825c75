-- What a task goes past counts for nothing, and a task for which nothing is left has ended.
use Rattle.std.specs.Prelude.{◌≡◌, if◌then◌else◌, Bool, true, false, List, [], ◌∷◌, pos, unwrap_or, refl}
use Rattle.std.proofs.Common.{ap, ◌∙◌}
use Rattle.c_syntax.specs.language.Numbered.{TreeView}
use Rattle.c_model.specs.declared.view.View.{View}
use Rattle.c_model.specs.declared.point.Point.{Point}
use Rattle.c_model.specs.declared.question.Answer.{Answer}
use Rattle.c_model.specs.Begin.{created_construct, explicit_task, explicit_task_of}
use Rattle.c_model.specs.AfterEvents.{after_answer, after_event, settled_after_answer, settled_after_event}
use Rattle.c_model.specs.Task.{Item, Moment, Task}
use Rattle.c_model.specs.Task.Outcome.{Ends}
use Rattle.c_model.specs.Step.{skips_masked, items_from_next, settled_moment, settled_task, silent, step_at}

-- leaving out once is leaving out twice
next-by : (view : View) (item : Item) (items : List Item) (passed : Bool) → skips_masked item view ≡ passed → items_from_next view (items_from_next view items) ≡ items_from_next view items →
    items_from_next view (if passed then items_from_next view items else item ∷ items) ≡ (if passed then items_from_next view items else item ∷ items)
unfolding items_from_next
next-by view item items true is same = same
next-by view item items false is same = ap (λ passed. if passed then items_from_next view items else item ∷ items) is

pub next_once : (view : View) (items : List Item) → items_from_next view (items_from_next view items) ≡ items_from_next view items
unfolding items_from_next
next_once view [] = refl
next_once view (item ∷ items) = next-by view item items (skips_masked item view) refl (next_once view items)

-- what stands in the task as next isn't looked at but for what was found there
same-step : (items : List Item) (program : TreeView) (view : View) (now : Moment) → step_at items program view (settled_moment view now) ≡ step_at items program view now
same-step [] program view now = refl
same-step (item ∷ items) program view now = refl

pub settled_silent : (program : TreeView) (view : View) (now : Moment) → silent program view (settled_moment view now) ≡ silent program view now
unfolding silent
settled_silent program view now = ap (λ (items : List Item). step_at items program view (settled_moment view now)) (next_once view now.task.todo) ∙ same-step (items_from_next view now.task.todo) program view now

once-task : (view : View) (task : Task) → settled_task view (settled_task view task) ≡ settled_task view task
once-task view task = ap (λ (items : List Item). record task { todo = items }) (next_once view task.todo)

pub settled_event : (view : View) (point : Point) (executes : Bool) (task : Task) → after_event view point executes (settled_task view task) ≡ after_event view point executes task
settled_event view point executes task = ap (λ (task : Task). settled_after_event point executes task) (once-task view task)

pub settled_answer : (view : View) (given : Answer) (now : Moment) → after_answer view given (settled_moment view now) ≡ after_answer view given now
settled_answer view given now = ap (λ (task : Task). settled_after_answer given (record now { task = task })) (once-task view now.task)

pub settled_creation : (program : TreeView) (view : View) (now : Moment) → explicit_task program view (settled_moment view now) ≡ explicit_task program view now
settled_creation program view now = ap (λ (items : List Item). explicit_task_of program (created_construct items) now) (next_once view now.task.todo)

pub ended_silent : (program : TreeView) (view : View) (now : Moment) → now.task.todo ≡ [] → silent program view now ≡ Ends (unwrap_or now.task.returned (pos 0))
unfolding silent items_from_next
ended_silent program view now empty = ap (λ (items : List Item). step_at (items_from_next view items) program view now) empty

pub ruleset settled_cases = (settled_silent, settled_answer, settled_event, settled_creation)
