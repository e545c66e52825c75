-- What a control stands for behind an event.
use Rattle.std.proofs.Common.{◌≡◌, ℕ, ◌≤◌, Bool, List, [], ◌∷◌, ◌++◌, length, take, drop, Option, Some, None, refl, sym, subst, ap, ◌∙◌, append_assoc}
use Rattle.std.proofs.lemmas.List.{drop-append-le, take-append-le}
use Rattle.c_syntax.specs.language.Tree.{Tree}
use Rattle.c_syntax.specs.language.Numbered.{TreeView, tree_at}
use Rattle.c_model.specs.declared.entry.Entry.{Entry}
use Rattle.c_model.specs.declared.point.MutexKind.{MutexKind}
use Rattle.c_model.specs.declared.point.MutexKind.TheVariants as mutex
use Rattle.c_model.specs.declared.point.Point.{Point}
use Rattle.c_model.specs.declared.point.Point.TheVariants.{LockDestroy, LockInit, MaskedBegin, MaskedEnd, MutexAcquire, MutexAcquired, MutexReleased, ParallelBegin, ParallelEnd, Sync as SyncPoint, TaskCreate, WorkBegin, WorkEnd}
use Rattle.c_model.specs.declared.point.Target.{Target}
use Rattle.c_model.specs.declared.point.WorkKind.{WorkKind}
use Rattle.c_model.specs.Clauses.{construct_statement}
use Rattle.c_model.specs.Copies.{makes_cells}
use Rattle.c_model.specs.declared.view.View.{View}
use Rattle.c_model.specs.AfterEvents.{barrier_items, items_after, mutex_items, names_after, next_stage, passed_at, settled_after_event, work_items}
use Rattle.c_model.specs.Occurring.{IsOfItem, IsOfNext}
use Rattle.c_model.specs.Step.{settled_task}
use Rattle.c_model.specs.Width.{IsWithin}
use Rattle.c_model.proofs.WidthGoing.{event_is_within}
use Rattle.c_model.specs.Task.{Item as SeenItem, Task}
use Rattle.c_model.specs.Task.{Item as seen}
use Rattle.c_steps.specs.declared.item.Item.{Item}
use Rattle.c_steps.specs.declared.item.Item.TheVariants as item
use Rattle.c_steps.specs.ControlView.{ControlView, env_at, task_at}
use Rattle.c_steps.specs.Items.{begun, calls_at, file_names, item_at, items_if, todo_at, with_file}
use Rattle.c_steps.specs.Moves.{asking, bound, cut, passing, then_if, then_item}
use Rattle.c_steps.specs.Nodes.{part_at}
use Rattle.c_steps.specs.Passing.{IsEventOf, IsEventOfNext, IsPassed, names_behind_asking, names_behind_work, replaced, stages_at}
use Rattle.c_steps.specs.Ready.{IsFront, IsPassing}
use Rattle.c_steps.proofs.Frames.{cut_names, take_shorter}
use Rattle.c_steps.proofs.Giving.{found_stands, none_stands, same_task, settled_same}

module _ (program : TreeView) (old : ControlView) (ready : IsPassing program old) where
  -- the task with other calls is the same where the calls are
  with_calls : (items : List SeenItem) → record (replaced program items old) { calls = calls_at program (take old.base old.names) (begun old.frames) } ≡ replaced program items old
  with_calls items = ap (λ others. record (replaced program items old) { calls = others }) (ready.calls (take old.base old.names))

  pub pass_then_if : (it : Option Item) → task_at program (then_if it (passing old)) ≡ replaced program (items_if program it) old
  unfolding todo_at calls_at
  pass_then_if None = with_calls []
  pass_then_if (Some it) = with_calls (item_at program it ∷ [])

  pub pass_then_two : (it other : Item) → task_at program (then_item it (then_item other (passing old))) ≡ replaced program (item_at program it ∷ item_at program other ∷ []) old
  unfolding todo_at calls_at
  pass_then_two it other = with_calls (item_at program it ∷ item_at program other ∷ [])

  work_at : (cells first : Option Item) (last : Item) → task_at program (then_if cells (then_if first (then_item last (passing old)))) ≡ replaced program (items_if program cells ++ stages_at program (first, last)) old
  unfolding todo_at calls_at
  work_at None None last = with_calls (item_at program last ∷ [])
  work_at None (Some first) last = with_calls (item_at program first ∷ item_at program last ∷ [])
  work_at (Some cells) None last = with_calls (item_at program cells ∷ item_at program last ∷ [])
  work_at (Some cells) (Some first) last = with_calls (item_at program cells ∷ item_at program first ∷ item_at program last ∷ [])

  pub pass_work : (cells first : Option Item) (last : Item) (own shares : List SeenItem) → items_if program cells ≡ own → stages_at program (first, last) ≡ shares →
      task_at program (then_if cells (then_if first (then_item last (passing old)))) ≡ replaced program (own ++ shares) old
  pass_work cells first last own shares is so = rw (← is, ← so) (work_at cells first last)

  -- the names of the function that was called last go down to so many
  pub pass_cut : (names : ℕ) (it : Option Item) → task_at program (then_if it (cut names (passing old))) ≡ record (replaced program (items_if program it) old) { env = take (with_file program names) (env_at program old) }
  unfolding todo_at calls_at
  pass_cut names None = rw (take_shorter old.base names old.names, cut_names old.base names (file_names program) old.names) (ap (λ (task : Task). record task { env = take (with_file program names) (env_at program old) }) (with_calls []))
  pass_cut names (Some it) = rw (take_shorter old.base names old.names, cut_names old.base names (file_names program) old.names) (ap (λ (task : Task). record task { env = take (with_file program names) (env_at program old) }) (with_calls (item_at program it ∷ [])))

  module _ (part : Option ℕ) (node id : ℕ) (to : Target) where
    pub pass_asks : (kind : MutexKind) → part_at program.trees part ≡ construct_statement (tree_at program.trees node) → task_at program (asking kind node part id to (passing old)) ≡ replaced program (mutex_items kind (tree_at program.trees node) id to) old
    unfolding todo_at calls_at
    pass_asks mutex.Lock is = with_calls (seen.Acquire (tree_at program.trees node) mutex.Lock id ∷ [])
    pass_asks mutex.TestLock is = with_calls (seen.TestLock (tree_at program.trees node) id to ∷ [])
    pass_asks mutex.Critical is = rw is (with_calls (mutex_items mutex.Critical (tree_at program.trees node) id to))

    -- a name more is in scope
    module _ (entry : Entry) (within : old.base ≤ length old.names) where
      with_entry : (items : List SeenItem) → record (replaced program items old) { env = file_names program ++ drop old.base (old.names ++ entry ∷ []); calls = calls_at program (take old.base (old.names ++ entry ∷ [])) (begun old.frames) }
          ≡ record (replaced program items old) { env = env_at program old ++ entry ∷ [] }
      with_entry items =
          rw (drop-append-le old.base old.names (entry ∷ []) within, take-append-le old.base old.names (entry ∷ []) within)
          (ap (λ env. record (replaced program items old) { env = env; calls = calls_at program (take old.base old.names) (begun old.frames) }) (sym (append_assoc (file_names program) (drop old.base old.names) (entry ∷ [])))
          ∙ ap (λ (task : Task). record task { env = env_at program old ++ entry ∷ [] }) (with_calls items))

      pub pass_asks_with : (kind : MutexKind) → part_at program.trees part ≡ construct_statement (tree_at program.trees node) →
          task_at program (asking kind node part id to (bound entry (passing old))) ≡ record (replaced program (mutex_items kind (tree_at program.trees node) id to) old) { env = env_at program old ++ entry ∷ [] }
      unfolding todo_at calls_at
      pass_asks_with mutex.Lock is = with_entry (seen.Acquire (tree_at program.trees node) mutex.Lock id ∷ [])
      pass_asks_with mutex.TestLock is = with_entry (seen.TestLock (tree_at program.trees node) id to ∷ [])
      pass_asks_with mutex.Critical is = rw is (with_entry (mutex_items mutex.Critical (tree_at program.trees node) id to))

-- the items behind an event at a node
abbrev pub after_at : Point → Bool → ℕ → Tree → List SeenItem
after_at (ParallelBegin codeptr requested) executes names tree = seen.Forked tree ∷ []
after_at (WorkBegin codeptr work) executes names tree = makes_cells tree ++ work_items work tree names executes
after_at (WorkEnd codeptr kind count) executes names tree = barrier_items tree
after_at (MaskedBegin codeptr) executes names tree = seen.Start (construct_statement tree) ∷ seen.EndMasked tree ∷ []
after_at (SyncPoint codeptr kind stage) executes names tree = next_stage tree kind stage
after_at (MutexAcquire codeptr id kind to) executes names tree = mutex_items kind tree id to
after_at other executes names tree = []

pub same_items : (program : TreeView) (point : Point) (executes : Bool) (names node : ℕ) (it : SeenItem) → IsEventOf program point node it → after_at point executes names (tree_at program.trees node) ≡ items_after point executes names it
unfolding IsOfItem
same_items program (ParallelBegin codeptr requested) executes names node (seen.Start tree) is = ap (after_at (ParallelBegin codeptr requested) executes names) is.is_node
same_items program (ParallelEnd codeptr) executes names node it is = refl
same_items program (TaskCreate codeptr undeferred) executes names node it is = refl
same_items program (WorkBegin codeptr work) executes names node (seen.Start tree) is = ap (after_at (WorkBegin codeptr work) executes names) is.is_node
same_items program (WorkBegin codeptr work) executes names node (seen.Inside tree) is = ap (after_at (WorkBegin codeptr work) executes names) is.is_node
same_items program (WorkEnd codeptr kind count) executes names node (seen.EndWork tree ended whole stay) is = ap (after_at (WorkEnd codeptr kind count) executes names) is.is_node
same_items program (MaskedBegin codeptr) executes names node (seen.Start tree) is = ap (after_at (MaskedBegin codeptr) executes names) is.is_node
same_items program (MaskedEnd codeptr) executes names node it is = refl
same_items program (SyncPoint codeptr kind stage) executes names node (seen.Start tree) is = ap (after_at (SyncPoint codeptr kind stage) executes names) is.is_node
same_items program (SyncPoint codeptr kind stage) executes names node (seen.Sync tree other at) is = ap (after_at (SyncPoint codeptr kind stage) executes names) is.is_node
same_items program (MutexAcquire codeptr id kind to) executes names node (seen.Start tree) is = ap (after_at (MutexAcquire codeptr id kind to) executes names) is.is_node
same_items program (MutexAcquire codeptr id kind to) executes names node (seen.Initialise tree entry) is = ap (after_at (MutexAcquire codeptr id kind to) executes names) is.is_node
same_items program (MutexAcquired codeptr id kind) executes names node it is = refl
same_items program (MutexReleased codeptr id kind) executes names node it is = refl
same_items program (LockInit codeptr id) executes names node it is = refl
same_items program (LockDestroy codeptr id) executes names node it is = refl
same_items program point executes names node it is = absurd is.of_item

-- the names
pub same_names_of_work : (program : TreeView) (codeptr : ℕ) (kind : WorkKind) (count : ℕ) (it : Item) (env : List Entry) → names_behind_work program it env ≡ names_after (WorkEnd codeptr kind count) (item_at program it) env
same_names_of_work program codeptr kind count (item.Start part) env = refl
same_names_of_work program codeptr kind count (item.Declare node) env = refl
same_names_of_work program codeptr kind count (item.Leave names) env = refl
same_names_of_work program codeptr kind count (item.Test node names) env = refl
same_names_of_work program codeptr kind count (item.Third node names) env = refl
same_names_of_work program codeptr kind count (item.Initialise node entry) env = refl
same_names_of_work program codeptr kind count (item.Return number) env = refl
same_names_of_work program codeptr kind count item.FallOff env = refl
same_names_of_work program codeptr kind count (item.Forked node) env = refl
same_names_of_work program codeptr kind count (item.Inside node) env = refl
same_names_of_work program codeptr kind count (item.MakeCells node) env = refl
same_names_of_work program codeptr kind count (item.NextChunk shared) env = refl
same_names_of_work program codeptr kind count (item.Iterations shared at upto) env = refl
same_names_of_work program codeptr kind count (item.NextSection node names) env = refl
same_names_of_work program codeptr kind count (item.Combine operator name names) env = refl
same_names_of_work program codeptr kind count (item.EndWork node ended whole names) env = refl
same_names_of_work program codeptr kind count (item.EndMasked node) env = refl
same_names_of_work program codeptr kind count (item.Sync node of stage) env = refl
same_names_of_work program codeptr kind count (item.Acquire node of which) env = refl
same_names_of_work program codeptr kind count (item.Release node which) env = refl
same_names_of_work program codeptr kind count (item.TestLock node which target) env = refl
same_names_of_work program codeptr kind count (item.Tested target) env = refl

pub same_names_of_asking : (program : TreeView) (codeptr id : ℕ) (kind : MutexKind) (to : Target) (it : Item) (env : List Entry) → names_behind_asking it env ≡ names_after (MutexAcquire codeptr id kind to) (item_at program it) env
same_names_of_asking program codeptr id kind to (item.Start part) env = refl
same_names_of_asking program codeptr id kind to (item.Declare node) env = refl
same_names_of_asking program codeptr id kind to (item.Leave names) env = refl
same_names_of_asking program codeptr id kind to (item.Test node names) env = refl
same_names_of_asking program codeptr id kind to (item.Third node names) env = refl
same_names_of_asking program codeptr id kind to (item.Initialise node entry) env = refl
same_names_of_asking program codeptr id kind to (item.Return number) env = refl
same_names_of_asking program codeptr id kind to item.FallOff env = refl
same_names_of_asking program codeptr id kind to (item.Forked node) env = refl
same_names_of_asking program codeptr id kind to (item.Inside node) env = refl
same_names_of_asking program codeptr id kind to (item.MakeCells node) env = refl
same_names_of_asking program codeptr id kind to (item.NextChunk shared) env = refl
same_names_of_asking program codeptr id kind to (item.Iterations shared at upto) env = refl
same_names_of_asking program codeptr id kind to (item.NextSection node names) env = refl
same_names_of_asking program codeptr id kind to (item.Combine operator name names) env = refl
same_names_of_asking program codeptr id kind to (item.EndWork node ended whole names) env = refl
same_names_of_asking program codeptr id kind to (item.EndMasked node) env = refl
same_names_of_asking program codeptr id kind to (item.Sync node of stage) env = refl
same_names_of_asking program codeptr id kind to (item.Acquire node of which) env = refl
same_names_of_asking program codeptr id kind to (item.Release node which) env = refl
same_names_of_asking program codeptr id kind to (item.TestLock node which target) env = refl
same_names_of_asking program codeptr id kind to (item.Tested target) env = refl

-- what stands next is what the event is of
next_event : (program : TreeView) (point : Point) (node : ℕ) (items : List SeenItem) → IsEventOfNext program point node items → IsOfNext point items
unfolding IsEventOfNext IsOfNext
next_event program point node [] is = is
next_event program point node (it ∷ items) is = is.of_item

module _ (program : TreeView) (view : View) (old settled : ControlView) (first : view.index ≡ 0) (so : task_at program settled ≡ settled_task view (task_at program old)) (point : Point) (node : ℕ) (event : IsEventOfNext program point node (todo_at program old.frames)) where
  pub event_none : todo_at program settled.frames ≡ [] → ⊥
  unfolding IsEventOfNext
  event_none none = subst (IsEventOfNext program point node) (none_stands program view old settled first so none) event

  pub event_found : (found : Item) → IsFront program settled.frames found → IsEventOf program point node (item_at program found)
  unfolding IsEventOfNext
  event_found found front = subst (IsEventOfNext program point node) (found_stands program view old settled first so found front) event

  module _ (executes : Bool) (found : Item) (new : ControlView) (front : IsFront program settled.frames found) (task : task_at program new ≡ record (replaced program (items_after point executes (length (env_at program settled)) (item_at program found)) settled) { env = names_after point (item_at program found) (env_at program settled) }) where
    pub went_past : task_at program new ≡ settled_after_event point executes (task_at program old)
    went_past =
        task
        ∙ ap (λ items. passed_at items point executes (task_at program settled)) (sym front.todo)
        ∙ ap (λ (task : Task). passed_at task.todo point executes task) (settled_same program view old settled first so)

    pub past_within : IsWithin program (task_at program old) → IsWithin program (task_at program new)
    past_within is =
        let same = same_task view (task_at program old) first in
        let next : IsOfNext point (settled_task view (task_at program old)).todo = subst (IsOfNext point) (sym (ap (λ (task : Task). task.todo) same)) (next_event program point node (todo_at program old.frames) event) in
        subst (IsWithin program) (ap (λ (task : Task). settled_after_event point executes task) same ∙ sym went_past) (event_is_within program view point executes (task_at program old) is next)

-- what is put in place of the item is what the event says
past_at : (program : TreeView) (point : Point) (executes : Bool) (node : ℕ) (it : SeenItem) (old new : ControlView) (env : List Entry) → IsEventOf program point node it →
    IsPassed program old new (after_at point executes (length (env_at program old)) (tree_at program.trees node)) env → env ≡ names_after point it (env_at program old) →
    IsPassed program old new (items_after point executes (length (env_at program old)) it) (names_after point it (env_at program old))
past_at program point executes node it old new env is passed names =
    subst (λ (items : List SeenItem). IsPassed program old new items (names_after point it (env_at program old))) (same_items program point executes (length (env_at program old)) node it is)
    (subst (IsPassed program old new (after_at point executes (length (env_at program old)) (tree_at program.trees node))) names passed)

pub past_task : (program : TreeView) (point shape : Point) (executes : Bool) (node : ℕ) (it : SeenItem) (old new : ControlView) (env : List Entry) → point ≡ shape → IsEventOf program point node it →
    IsPassed program old new (after_at shape executes (length (env_at program old)) (tree_at program.trees node)) env → env ≡ names_after shape it (env_at program old) →
    IsPassed program old new (items_after point executes (length (env_at program old)) it) (names_after point it (env_at program old))
past_task program point shape executes node it old new env same is passed names =
    subst (λ (at : Point). IsPassed program old new (items_after at executes (length (env_at program old)) it) (names_after at it (env_at program old))) (sym same)
    (past_at program shape executes node it old new env (subst (λ (at : Point). IsEventOf program at node it) same is) passed names)
