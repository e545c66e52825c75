-- What a control stands for where items stand in place of the one that stood next.
use Rattle.std.proofs.Common.{◌≡◌, ℕ, ◌+◌, ◌<◌, nat_lt, true, List, [], ◌∷◌, ◌++◌, take, ℤ, refl, sym, ap, ◌∙◌, arith}
use Rattle.std.proofs.lemmas.List.{append_assoc}
use Rattle.c_syntax.specs.language.Numbered.{TreeView, tree_at}
use Rattle.c_model.specs.declared.point.Target.{Target}
use Rattle.c_model.specs.declared.point.Target.TheVariants as target
use Rattle.c_model.specs.declared.point.WorkKind.{WorkKind}
use Rattle.c_model.specs.Calls.{value_items}
use Rattle.c_model.specs.Constructs.{iterations_from}
use Rattle.c_model.specs.Copies.{combines, combining_all, listed_variables}
use Rattle.c_model.specs.Task.{Item as SeenItem, SharedLoop}
use Rattle.c_model.specs.Task.Item.{EndWork, Iterations}
use Rattle.c_steps.specs.declared.item.Item.{Item}
use Rattle.c_steps.specs.declared.listed.ListedPlace.{ListedPlace}
use Rattle.c_steps.specs.ControlView.{ControlView, task_at}
use Rattle.c_steps.specs.Items.{begun, calls_at, item_at, todo_at, with_file}
use Rattle.c_steps.specs.ListedNames.{listed_from}
use Rattle.c_steps.specs.Moves.{delivered, ending, stepping, then_item}
use Rattle.c_steps.specs.Passing.{replaced}
use Rattle.c_steps.specs.Ready.{IsStepping}

-- the task with other calls is the same where the calls are
with_calls : (program : TreeView) (old : ControlView) (items : List SeenItem) → IsStepping program old →
    record (replaced program items old) { calls = calls_at program (take old.base old.names) (begun old.frames) } ≡ replaced program items old
with_calls program old items ready =
    ap (λ others. record (replaced program items old) { calls = others }) (ready.calls (take old.base old.names))

module _ (program : TreeView) (old : ControlView) (ready : IsStepping program old) where
  pub step_then : (it : Item) → task_at program (then_item it (stepping old)) ≡ replaced program (item_at program it ∷ []) old
  unfolding todo_at calls_at
  step_then it = with_calls program old (item_at program it ∷ []) ready

  pub step_then_two : (it other : Item) → task_at program (then_item it (then_item other (stepping old))) ≡ replaced program (item_at program it ∷ item_at program other ∷ []) old
  unfolding todo_at calls_at
  step_then_two it other = with_calls program old (item_at program it ∷ item_at program other ∷ []) ready

  pub step_delivers : (to : Target) (number : ℤ) → task_at program (delivered to number (stepping old)) ≡ replaced program (value_items to number) old
  unfolding todo_at calls_at
  step_delivers target.Nowhere number = with_calls program old [] ready
  step_delivers (target.Cell cell) number = with_calls program old [] ready
  step_delivers target.Return number = with_calls program old (value_items target.Return number) ready

  pub step_ends : (from : ListedPlace) (node : ℕ) (kind : WorkKind) (count names : ℕ) → listed_from (tree_at program.trees node) from ≡ listed_variables (tree_at program.trees node) →
      task_at program (ending from node kind count names (stepping old))
      ≡ replaced program (combines (tree_at program.trees node) (with_file program names) ++ EndWork (tree_at program.trees node) kind count (with_file program names) ∷ []) old
  unfolding todo_at calls_at
  step_ends from node kind count names first =
      let last : SeenItem = EndWork (tree_at program.trees node) kind count (with_file program names) in
      let behind = todo_at program (begun old.frames) in
      let shown = combines (tree_at program.trees node) (with_file program names) in
      ap (λ listed. record (task_at program old) { todo = combining_all (with_file program names) listed ++ last ∷ behind; calls = calls_at program (take old.base old.names) (begun old.frames) }) first
      ∙ ap (λ todo. record (task_at program old) { todo = todo; calls = calls_at program (take old.base old.names) (begun old.frames) }) (sym (append_assoc shown (last ∷ []) behind))
      ∙ with_calls program old (shown ++ last ∷ []) ready

-- a chunk with an iteration
pub chunk_begins : (loop : SharedLoop) (at more : ℕ) → 0 < more → iterations_from loop at (at + more) ≡ Iterations loop at (at + more)
chunk_begins loop at more some =
    let is : nat_lt at (at + more) ≡ true = grind arith in
    rw is refl

pub ruleset replaced_cases = (step_then, step_ends, chunk_begins)
