-- A task without code: none is kept at its identity, or one whose code has ended.
use Rattle.std.proofs.Common.{◌≡◌, ℕ, ◌≤◌, List, length, slice_set, slice_index_or, take, None, pos, refl, sym, ap, ◌∙◌, subst}
use Rattle.std.proofs.lemmas.List.{get_or_past, set-get_or}
use Rattle.c_syntax.specs.language.Numbered.{TreeView}
use Rattle.c_model.specs.declared.point.Point.{Point}
use Rattle.c_model.specs.declared.question.Answer.{Answer}
use Rattle.c_model.specs.declared.view.View.{View}
use Rattle.c_model.specs.Answers.{AnswersFirst}
use Rattle.c_model.specs.Begin.{blank_task}
use Rattle.c_model.specs.Step.{items_from_next, settled_moment, silent}
use Rattle.c_model.specs.Task.{Store, Task as Code}
use Rattle.c_model.specs.Task.Outcome.{Ends}
use Rattle.c_steps.specs.ControlView.{ControlView, task_at}
use Rattle.c_steps.specs.Items.{calls_at, todo_at}
use Rattle.c_steps.specs.OfProgram.{IsBlank}
use Rattle.c_steps.specs.Passing.{IsEventOfNext}
use Rattle.omp_model.specs.State.{Task as Seen}
use Rattle.omp_board.specs.declared.task.Task.{Task}
use Rattle.omp_board.specs.Keeping.{control_at, kept_nothing}
use Rattle.omp_board.specs.declared.tasks.TaskRoom.{TaskRoom}
use Rattle.omp_board.specs.Tasks.{TasksView, code_in, code_of, moment_in}
use Rattle.omp_board.proofs.Seen.{code_at, seen, task_found}

-- a blank control says of it what it is asked
module _ (program : TreeView) (held : ControlView) (blank : IsBlank held) (code : Code) (none : code ≡ blank_task) where
  pub no_todo : (task_at program held).todo ≡ code.todo
  unfolding todo_at
  no_todo = ap (todo_at program) blank.no_frames ∙ sym (ap (λ (code : Code). code.todo) none)

  pub no_calls : (task_at program held).calls ≡ code.calls
  unfolding calls_at
  no_calls = ap (calls_at program (take held.base held.names)) blank.no_frames ∙ sym (ap (λ (code : Code). code.calls) none)

-- it has ended, asks nothing, and comes to no event
module _ (view : TasksView) (k : ℕ) (none : code_in view k ≡ blank_task) where
  pub unanswered : (given : Answer) → AnswersFirst (code_in view k).todo given → ⊥
  unfolding AnswersFirst
  unanswered given asked = subst (λ (code : Code). AnswersFirst code.todo given) none asked

  pub uneventful : (point : Point) (node : ℕ) → IsEventOfNext view.program point node (code_in view k).todo → ⊥
  unfolding IsEventOfNext
  uneventful point node event = subst (λ (code : Code). IsEventOfNext view.program point node code.todo) none event

  pub ends : (sight : View) → Ends (pos 0) ≡ silent view.program sight (moment_in view k)
  unfolding silent items_from_next
  ends sight = sym (ap (λ (code : Code). silent view.program sight (record { task = code; store = view.store })) none)

  pub settled : (sight : View) → moment_in view k ≡ settled_moment sight (moment_in view k)
  unfolding items_from_next
  settled sight = subst (λ (code : Code). record { task = code; store = view.store } ≡ settled_moment sight (record { task = code; store = view.store })) (sym none) refl

module _ (program : TreeView) (tasks : List Task) (store : Store) (room : TaskRoom) (view : TasksView) (is : seen program tasks store room ≡ view) (k : ℕ) where
  pub none_past : length tasks ≤ k → code_in view k ≡ blank_task
  none_past past =
      sym (code_at program tasks store room view is k) ∙ ap (λ (task : Task). code_of program task.control) (get_or_past tasks k kept_nothing past)

  pub none_at : None ≡ control_at tasks k → code_in view k ≡ blank_task
  none_at none = sym (code_at program tasks store room view is k) ∙ ap (code_of program) (sym none)

  module _ (kept : Task) (found : kept ≡ slice_index_or tasks k kept_nothing) (without : kept.control ≡ None) where
    pub none_kept : code_in view k ≡ blank_task
    none_kept = sym (ap (λ (task : Seen). task.code) (task_found program tasks store room view is k kept found)) ∙ ap (code_of program) without

    -- nothing was written
    pub same_view : seen program (slice_set tasks k kept) store room ≡ view
    same_view = ap (λ (now : List Task). seen program now store room) (ap (slice_set tasks k) found ∙ set-get_or tasks k kept_nothing) ∙ is
