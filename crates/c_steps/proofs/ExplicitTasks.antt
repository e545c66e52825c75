-- Where the code of an explicit task begins.
use Rattle.std.proofs.Common.{◌≡◌, ℕ, ◌+◌, ◌≤◌, List, [], ◌∷◌, length, drop, slice_get, Option, Some, refl, sym, ap, ◌∙◌, subst, append_assoc, arith, rules}
use Rattle.std.proofs.lemmas.List.{length-append}
use Rattle.std.proofs.lemmas.List.Elements.{All-cons, All-nil}
use Rattle.c_syntax.specs.language.Tree.{Tree}
use Rattle.c_syntax.specs.language.Numbered.{TreeView, tree_at}
use Rattle.c_check.specs.Seen.{task_copies}
use Rattle.c_model.specs.declared.limits.TheConstants.{CELL_LIMIT}
use Rattle.c_model.specs.declared.view.View.{View}
use Rattle.c_model.specs.Begin.{created_construct, explicit_task_of, new_task}
use Rattle.c_model.specs.Cells.{Bound}
use Rattle.c_model.specs.Clauses.{construct_statement}
use Rattle.c_model.specs.Copies.{listed_variables, with_task_cells}
use Rattle.c_model.specs.Step.{items_from_next}
use Rattle.c_model.specs.Task.{Item as SeenItem, Moment, Store, Task}
use Rattle.c_model.specs.Task.{Item as seen}
use Rattle.c_model.specs.Width.{IsWithin, inner_names, most_names}
use Rattle.c_model.proofs.WidthTasks.{explicit_is_within}
use Rattle.c_model.proofs.WidthTrees.{split}
use Rattle.c_steps.specs.Beginning.{IsCreation, created_of}
use Rattle.c_steps.specs.declared.frame.Frame.TheVariants as frame
use Rattle.c_steps.specs.declared.item.Item.TheVariants as item
use Rattle.c_steps.specs.ControlView.{ControlView, bound_in, env_at, moment_at, task_at}
use Rattle.c_steps.specs.Items.{calls_at, file_names, todo_at}
use Rattle.c_steps.specs.OfProgram.{IsMadeFor}
use Rattle.c_steps.specs.Moves.{beginning, then_item}
use Rattle.c_steps.specs.Nodes.{IsPart, part_at}
use Rattle.c_steps.specs.OwnCells.{made_task, with_made, with_made_cells}
use Rattle.c_steps.specs.Ready.{IsFrame}
use Rattle.c_steps.proofs.Giving.{nothing_past, same_task}
use Rattle.c_steps.proofs.OwnNames.{listed_within}
use Rattle.c_steps.proofs.TaskNames.{task_appends}

pub none_created : (program : TreeView) (view : View) (held : ControlView) (first : Option SeenItem) → view.index ≡ 0 → IsCreation (slice_get (todo_at program held.frames) 0) → slice_get (items_from_next view (todo_at program held.frames)) 0 ≡ first → (IsCreation first → ⊥) → ⊥
none_created program view held first index has is none =
    none (subst IsCreation (sym (ap (λ (items : List SeenItem). slice_get items 0) (nothing_past view (todo_at program held.frames) index)) ∙ is) has)

created_in : (items : List SeenItem) (construct : Tree) → created_of (slice_get items 0) ≡ Some construct → created_construct items ≡ construct
created_in (seen.Start own ∷ items) construct is = let same : own ≡ construct = search rules in same
created_in [] construct is = absurd (search rules)
created_in (it ∷ items) construct is = absurd (search rules)

created_names : (program : TreeView) (items : List SeenItem) (names : ℕ) (construct : Tree) → created_of (slice_get items 0) ≡ Some construct → names + inner_names program construct ≤ most_names program items names
unfolding most_names
created_names program (seen.Start own ∷ items) names construct is = let same : own ≡ construct = search rules in rw (← same) (omega arith)
created_names program [] names construct is = absurd (search rules)
created_names program (it ∷ items) names construct is = absurd (search rules)

module _ (program : TreeView) (view : View) (held into : ControlView) (node : ℕ) (first : view.index ≡ 0) (is : created_of (slice_get (items_from_next view (todo_at program held.frames)) 0) ≡ Some (tree_at program.trees node)) where
  abbrev tree : Tree
  tree = tree_at program.trees node

  stands_first : created_of (slice_get (todo_at program held.frames) 0) ≡ Some tree
  stands_first = sym (ap (λ (items : List SeenItem). created_of (slice_get items 0)) (nothing_past view (todo_at program held.frames) first)) ∙ is

  pub created_here : created_construct (todo_at program held.frames) ≡ tree
  created_here = created_in (todo_at program held.frames) tree stands_first

  pub names_fit : IsMadeFor program held → IsMadeFor program into → length (drop held.base held.names) + (length (listed_variables tree) + length (task_copies program tree)) ≤ into.room
  unfolding file_names
  names_fit made room =
      let most = created_names program (task_at program held).todo (length (env_at program held)) tree stands_first in
      let names = length-append (file_names program) (drop held.base held.names) in
      omega (arith, most, made.is_within.now, names, room.fits, split program tree, listed_within tree)

  module _ (before : Store) where
    pub cells_fit : length (with_task_cells program (bound_in program held before) (created_construct (todo_at program held.frames))).cells ≤ CELL_LIMIT → length (made_task program (bound_in program held before) before.cells tree).cells ≤ CELL_LIMIT
    cells_fit room =
        subst (λ (bound : Bound). length bound.cells ≤ CELL_LIMIT) (ap (λ construct. with_task_cells program (bound_in program held before) construct) created_here ∙ task_appends program (bound_in program held before) tree) room

    module _ (part : Option ℕ) (statement : part_at program.trees part ≡ construct_statement tree) (new : ControlView) (after : Store)
        (control : new ≡ then_item (item.Start part) (with_made (made_task program (bound_in program held before) before.cells tree) (beginning (drop held.base held.names) into)))
        (cells : after ≡ with_made_cells (made_task program (bound_in program held before) before.cells tree) before) where
      pub task_stands : moment_at program new after ≡ explicit_task_of program (created_construct (todo_at program held.frames)) (moment_at program held before)
      unfolding todo_at calls_at
      task_stands =
          let made = made_task program (bound_in program held before) before.cells tree in
          let moment : Bound → Moment = λ bound. record { task = new_task (seen.Start (construct_statement tree) ∷ []) bound.env; store = record before { cells = bound.cells } } in
          rw (control, cells, statement) refl
          ∙ ap (λ env. record { task = new_task (seen.Start (construct_statement tree) ∷ []) env; store = record before { cells = made.cells } }) (sym (append_assoc (file_names program) (drop held.base held.names) made.env))
          ∙ ap moment (sym (task_appends program (bound_in program held before) tree))
          ∙ ap (λ construct. explicit_task_of program construct (moment_at program held before)) (sym created_here)

      pub task_made : IsPart program.trees part → IsMadeFor program held → IsMadeFor program into → IsMadeFor program new
      task_made there made room = record {
        are_frames = rw control (All-cons (IsFrame program) (frame.One (item.Start part)) [] there (All-nil (IsFrame program)));
        brings = ap (λ (held : ControlView). held.step_names) control ∙ room.brings;
        fits = let same : new.room ≡ into.room = ap (λ (held : ControlView). held.room) control in let fits = room.fits in omega (arith, same, fits);
        is_within =
            subst (λ (now : Moment). IsWithin program now.task)
            (ap (λ (task : Task). explicit_task_of program (created_construct task.todo) (moment_at program held before)) (same_task view (task_at program held) first) ∙ sym task_stands)
            (explicit_is_within program view (moment_at program held before) made.is_within);
      }
