-- Room changes nothing of a task's code.
use Rattle.std.proofs.Common.{◌≡◌, ℕ, List, slice_set, slice_index_or, Some, Result, Ok, Err, OnOk, OnErr, sym, ap, ◌∙◌}
use Rattle.std.proofs.Math.Seq.{map-set_same}
use Rattle.c_syntax.specs.language.Numbered.{TreeView}
use Rattle.c_steps.specs.ControlView.{ControlView, task_at}
use Rattle.c_steps.specs.Moves.{roomy}
use Rattle.omp_board.specs.declared.task.Task.{Task}
use Rattle.omp_board.specs.Keeping.{seen_task, seen_tasks}
use Rattle.omp_board.specs.Tasks.{code_of}

module _ (program : TreeView) (old new : ControlView) where
  same_code : {A E : Type 0} (result : Result A E) → OnOk result (new ≡ roomy old) → OnErr result (new ≡ old) → task_at program new ≡ task_at program old
  same_code (Ok it) room memory = ap (task_at program) room
  same_code (Err it) room memory = ap (task_at program) memory

  pub same_tasks : {A E : Type 0} (result : Result A E) → OnOk result (new ≡ roomy old) → OnErr result (new ≡ old) → (tasks : List Task) (k : ℕ) (d : Task) → (slice_index_or tasks k d).control ≡ Some old → seen_tasks program (slice_set tasks k (record (slice_index_or tasks k d) { control = Some new })) ≡ seen_tasks program tasks
  same_tasks result room memory tasks k d is =
      let kept = slice_index_or tasks k d in
      let code : task_at program new ≡ code_of program kept.control = same_code result room memory ∙ sym (ap (code_of program) is) in
      map-set_same (seen_task program) tasks k (record kept { control = Some new }) d (λ i. record (seen_task program kept) { code = code i })
