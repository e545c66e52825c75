use Rattle.std.proofs.Common.{List, ◌++◌, ◌∷◌, [], ap, refl, ◌∙◌}
use Rattle.omp_board.specs.declared.task.Task.{Task}
use Rattle.omp_board.proofs.tasks.first_list.Goals as goal

pub returns : goal.returns
returns c =
    record {
      main = c.in_ok-main.main;
      made = c.in_ok-main.ensures.made;
      stands = c.in_ok-main.ensures.task;
      tasks_are =
          c.in_ok-push-2.ensures.items
          ∙ ap (λ (tasks : List Task). tasks ++ c.task_with-2.result ∷ []) (c.in_ok-push.ensures.items ∙ ap (λ (tasks : List Task). tasks ++ c.task_with.result ∷ []) c.new-list.ensures.items)
          ∙ rw (c.task_with.ensures, c.task_with-2.ensures) refl;
    }
