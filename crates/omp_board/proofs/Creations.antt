-- Where a step has come to the creation of an explicit task, the task can be made.
use Rattle.std.proofs.Common.{◌≡◌, ℕ, Bool, slice_get, sym, subst}
use Rattle.c_syntax.specs.language.Numbered.{TreeView, tree_at}
use Rattle.c_model.specs.declared.point.Point.TheVariants.{TaskCreate}
use Rattle.c_model.specs.declared.view.View.{View}
use Rattle.c_model.specs.Step.{settled_moment, silent}
use Rattle.c_model.specs.Task.{Moment}
use Rattle.c_steps.specs.Beginning.{IsCreation}
use Rattle.c_steps.specs.ControlView.{outcome_at}
use Rattle.c_steps.specs.declared.next.Next.TheVariants as next
use Rattle.omp_board.specs.Tasks.{HasCells, cells_around}
use Rattle.c_steps.proofs.Creating.{IsCreating, creating_next}

-- `old` is what the step began from, and `now` what it has left
module _ (program : TreeView) (view : View) (old now : Moment) (still : now ≡ settled_moment view old) where
  module _ (codeptr : ℕ) (undeferred : Bool) (node : ℕ) (outcome : outcome_at program (next.Event (TaskCreate codeptr undeferred) node) now ≡ silent program view old) where
    creating-now : IsCreating program (cells_around now) now.task.todo
    creating-now =
        subst (λ (now : Moment). IsCreating program (cells_around now) now.task.todo) (sym still)
        (creating_next program view old codeptr undeferred (tree_at program.trees node) (sym outcome))

    pub creation_stands : IsCreation (slice_get now.task.todo 0)
    creation_stands = creating-now.creation

    pub creation_fits : HasCells program now
    creation_fits = creating-now.room
