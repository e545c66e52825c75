-- The cells that a task uses were made: where it begins, and behind each step, answer and event.
use Rattle.std.specs.Prelude.{ℕ, ◌≤◌, ◌≡◌, if◌then◌else◌, Bool, true, false, List, [], ◌∷◌, ◌++◌, length, Option, Some, None, pos, ℤ, refl}
use Rattle.std.specs.List.{All}
use Rattle.std.proofs.Common.{arith, subst, sym}
use Rattle.std.proofs.lemmas.List.Elements.{All-cons, All-nil}
use Rattle.c_syntax.specs.declared.node.Directive.TheVariants as directive
use Rattle.c_syntax.specs.declared.node.NodeKind.{NodeKind}
use Rattle.c_syntax.specs.declared.node.NodeKind.TheVariants as node
use Rattle.c_syntax.specs.language.Tree.{Tree, kind_of}
use Rattle.c_syntax.specs.language.Numbered.{TreeView}
use Rattle.c_model.specs.declared.point.Point.{Point}
use Rattle.c_model.specs.declared.point.Point.TheVariants.{TaskCreate}
use Rattle.c_model.specs.declared.point.SyncKind.TheVariants as sync
use Rattle.c_model.specs.declared.point.SyncStage.TheVariants as stage
use Rattle.c_model.specs.declared.point.Target.{Target}
use Rattle.c_model.specs.declared.point.Target.TheVariants.{Nowhere}
use Rattle.c_model.specs.declared.point.WorkKind.TheVariants as work_kind
use Rattle.c_model.specs.declared.question.Answer.{Answer}
use Rattle.c_model.specs.declared.question.Answer.TheVariants as answer
use Rattle.c_model.specs.declared.view.View.{View}
use Rattle.c_model.specs.Begin.{created_construct, explicit_task, first_store, forked_construct, main_task, member_statement, member_task}
use Rattle.c_model.specs.Calls.{file_bound}
use Rattle.c_model.specs.Clauses.{construct_statement, sections_of}
use Rattle.c_model.specs.Copies.{combines, makes_cells}
use Rattle.c_model.specs.AfterEvents.{after_answer, after_event, answered_at, cells_answered, cells_of_test, items_answered, items_of_chunk, items_of_section, items_of_test, passed_at}
use Rattle.c_model.specs.UsedCells.{AreCopiesInScope, AreItemsMade, IsCallMade, IsItemMade, IsMade, IsTaskMade}
use Rattle.c_model.specs.Parts.{flat_declarations}
use Rattle.c_model.specs.Program.{file_variables}
use Rattle.c_model.specs.Step.{skips_masked, items_from_next, settled_moment, settled_task, silent, step_at}
use Rattle.c_model.specs.Task.{Item, Moment, Outcome, SharedLoop, Task}
use Rattle.c_model.specs.Task.Item.{Start, NextChunk, NextSection, EndWork, Sync, TestLock}
use Rattle.c_model.specs.Task.Outcome.{StepsTo, Occurs}
use Rattle.c_model.specs.Scoped.{IsCallScoped, IsScoped, IsWellScoped, Scoped, names_of}
use Rattle.c_model.proofs.MadeCells.{IsBoundMade, declarators_made, env_more, items_append, task_cells_made, value_items_made, value_length}
use Rattle.c_model.proofs.MadeSteps.{KeepsMade, LeavesMade, StaysMade, chosen_made, combines_made, made_item, makes_made}
use Rattle.c_model.proofs.ScopeTasks.{created_knows, here_at, settled_is_scoped}

-- what a task goes past uses no cell
settled-made : (count : ℕ) (view : View) (items : List Item) → AreItemsMade count items → AreItemsMade count (items_from_next view items)
unfolding AreItemsMade items_from_next
settled-made count view [] are = tt
settled-made count view (item ∷ items) are = chosen (skips_masked item view) (settled-made count view items are.1)
  where
    chosen : (passed : Bool) → AreItemsMade count (items_from_next view items) → AreItemsMade count (if passed then items_from_next view items else item ∷ items)
    chosen true rest = rest
    chosen false rest = are

pub settled_is_made : (program : TreeView) (view : View) (count : ℕ) (task : Task) → IsTaskMade program count task → IsTaskMade program count (settled_task view task)
settled_is_made program view count task is = record { file = is.file; env = is.env; todo = settled-made count view task.todo is.todo; calls = is.calls }

-- steps and events
kept-made : (program : TreeView) (view : View) (now : Moment) (item : Item) (items : List Item) (outcome : Outcome) → IsWellScoped program → Scoped program (item ∷ items) (names_of now.task.env) → All (IsCallScoped program) now.task.calls
    → AreItemsMade (length now.store.cells) (item ∷ items) → IsTaskMade program (length now.store.cells) now.task → step_at (item ∷ items) program view now ≡ outcome → KeepsMade (here_at program view now items) item outcome
unfolding Scoped AreItemsMade
kept-made program view now item items outcome well scoped calls are is comes =
    subst (λ (outcome : Outcome). KeepsMade (here_at program view now items) item outcome) comes
    (made_item item (here_at program view now items) (record {
      scoped = record { program = well; now = scoped; calls = calls };
      task = record { file = is.file; env = is.env; todo = are.1; calls = is.calls };
      its = are.0;
    }))

step-made : (program : TreeView) (view : View) (now next : Moment) (items : List Item) → IsWellScoped program → Scoped program items (names_of now.task.env) → All (IsCallScoped program) now.task.calls
    → AreItemsMade (length now.store.cells) items → IsTaskMade program (length now.store.cells) now.task → step_at items program view now ≡ StepsTo next → (IsTaskMade program (length next.store.cells) next.task) × (length now.store.cells ≤ length next.store.cells)
unfolding KeepsMade
step-made program view now next [] well scoped calls are is comes = absurd (cc)
step-made program view now next (item ∷ items) well scoped calls are is comes =
    let stays : StaysMade (here_at program view now items) next = kept-made program view now item items (StepsTo next) well scoped calls are is comes in (stays.task, stays.grows)

pub step_is_made : (program : TreeView) (view : View) (now next : Moment) → IsWellScoped program → IsScoped program now.task → IsTaskMade program (length now.store.cells) now.task → silent program view now ≡ StepsTo next
    → (IsTaskMade program (length next.store.cells) next.task) × (length now.store.cells ≤ length next.store.cells)
unfolding silent
step_is_made program view now next well scoped is comes =
    let settled : IsScoped program (settled_task view now.task) = settled_is_scoped program view now.task scoped in
    step-made program view now next (settled_task view now.task).todo well settled.now settled.calls (settled-made (length now.store.cells) view now.task.todo is.todo) is comes

event-made : (program : TreeView) (view : View) (point : Point) (executes : Bool) (now : Moment) (tree : Tree) (items : List Item) → IsWellScoped program → Scoped program items (names_of now.task.env) → All (IsCallScoped program) now.task.calls
    → AreItemsMade (length now.store.cells) items → IsTaskMade program (length now.store.cells) now.task → step_at items program view now ≡ Occurs point tree → IsTaskMade program (length now.store.cells) (passed_at items point executes (settled_task view now.task))
unfolding KeepsMade AreItemsMade
event-made program view point executes now tree [] well scoped calls are is comes = absurd (cc)
event-made program view point executes now tree (item ∷ items) well scoped calls are is comes =
    let leaves : LeavesMade (here_at program view now items) item point = kept-made program view now item items (Occurs point tree) well scoped calls are is comes in
    record { file = is.file; env = leaves.env; todo = items_append (length now.store.cells) _ items (leaves.items executes) are.1; calls = is.calls }

pub event_is_made : (program : TreeView) (view : View) (point : Point) (executes : Bool) (now : Moment) (tree : Tree) → IsWellScoped program → IsScoped program now.task → IsTaskMade program (length now.store.cells) now.task → silent program view now ≡ Occurs point tree
    → IsTaskMade program (length now.store.cells) (after_event view point executes now.task)
unfolding silent
event_is_made program view point executes now tree well scoped is comes =
    let settled : IsScoped program (settled_task view now.task) = settled_is_scoped program view now.task scoped in
    event-made program view point executes now tree (settled_task view now.task).todo well settled.now settled.calls (settled-made (length now.store.cells) view now.task.todo is.todo) is comes

-- answers
chunk-made : (count : ℕ) (loop : SharedLoop) (chunk : Option (ℕ × ℕ)) → AreItemsMade count (items_of_chunk loop chunk)
unfolding AreItemsMade
chunk-made count loop (Some chunk) = (chosen_made count _ loop _ _, tt)
chunk-made count loop None = items_append count (combines loop.construct loop.names) (EndWork loop.construct work_kind.Loop loop.count loop.names ∷ []) (combines_made count loop.construct loop.names) (tt, tt)

section-made : (count : ℕ) (construct : Tree) (names : ℕ) (section : Option ℕ) → AreItemsMade count (items_of_section construct names section)
unfolding AreItemsMade
section-made count construct names (Some section) = (tt, (tt, tt))
section-made count construct names None = items_append count (combines construct names) (EndWork construct work_kind.Sections (length (sections_of construct)) names ∷ []) (combines_made count construct names) (tt, tt)

test-made : (count : ℕ) (call : Tree) (id : ℕ) (to : Target) (free : Bool) → IsItemMade count (TestLock call id to) → AreItemsMade count (items_of_test call id to free)
unfolding AreItemsMade
test-made count call id to true is = (tt, (is, tt))
test-made count call id to false is = value_items_made count to (pos 0)

answered-made : (count : ℕ) (given : Answer) (item : Item) → IsItemMade count item → AreItemsMade count (items_answered given item)
unfolding AreItemsMade
answered-made count (answer.Chunk chunk) (NextChunk loop) is = chunk-made count loop chunk
answered-made count (answer.Section section) (NextSection construct names) is = section-made count construct names section
answered-made count (answer.Free free) (TestLock call id to) is = test-made count call id to free is
answered-made count given item is = (is, tt)

test-cells : (to : Target) (free : Bool) (cells : List ℤ) → length (cells_of_test to free cells) ≡ length cells
test-cells to true cells = refl
test-cells to false cells = value_length to (pos 0) cells

answered-cells : (given : Answer) (item : Item) (cells : List ℤ) → length (cells_answered given item cells) ≡ length cells
answered-cells (answer.Free free) (TestLock call id to) cells = test-cells to free cells
answered-cells given item cells = refl

answer-made : (program : TreeView) (given : Answer) (items : List Item) (now : Moment) → AreItemsMade (length now.store.cells) items → IsTaskMade program (length now.store.cells) now.task
    → (IsTaskMade program (length (answered_at items given now).store.cells) (answered_at items given now).task) × (length (answered_at items given now).store.cells ≡ length now.store.cells)
unfolding AreItemsMade
answer-made program given [] now are is = (is, refl)
answer-made program given (item ∷ items) now are is =
    let same = answered-cells given item now.store.cells in (
      subst (λ (count : ℕ). IsTaskMade program count (record now.task { todo = items_answered given item ++ items })) (sym same)
          (record { file = is.file; env = is.env; todo = items_append (length now.store.cells) (items_answered given item) items (answered-made (length now.store.cells) given item are.0) are.1; calls = is.calls }),
      same,
    )

pub answer_is_made : (program : TreeView) (view : View) (given : Answer) (now : Moment) → IsTaskMade program (length now.store.cells) now.task
    → (IsTaskMade program (length (after_answer view given now).store.cells) (after_answer view given now).task) × (length (after_answer view given now).store.cells ≡ length now.store.cells)
answer_is_made program view given now is =
    answer-made program given (settled_task view now.task).todo (settled_moment view now) (settled-made (length now.store.cells) view now.task.todo is.todo) (settled_is_made program view (length now.store.cells) now.task is)

-- main
pub main_is_made : (program : TreeView) → IsWellScoped program → IsTaskMade program (length (first_store program).cells) (main_task program)
unfolding AreItemsMade
main_is_made program well =
    let count = length (file_bound program).cells in
    let file : IsBoundMade 0 (file_bound program) = declarators_made program 0 (flat_declarations (file_variables program)) (record { env = []; cells = [] }) well.variables (record { env = All-nil (IsMade 0); grows = omega arith }) in
    record {
      file = file.env;
      env = file.env;
      todo = (tt, (tt, tt));
      calls = All-cons (IsCallMade count) (record { todo = []; env = (file_bound program).env; to = Nowhere }) [] (record { env = file.env; todo = tt; to = tt }) (All-nil (IsCallMade count));
    }

-- a member of a team
member-made : (count : ℕ) (kind : NodeKind) (construct : Tree) (names : ℕ) → AreItemsMade count (member_statement kind construct names)
unfolding AreItemsMade
member-made count (node.Construct directive.ParallelFor) construct names = (tt, tt)
member-made count (node.Construct directive.ParallelSections) construct names = (tt, tt)
member-made count other construct names = items_append count (makes_cells construct) (Start (construct_statement construct) ∷ combines construct names) (makes_made count construct) (tt, combines_made count construct names)

pub member_is_made : (program : TreeView) (count : ℕ) (task : Task) → IsTaskMade program count task → IsTaskMade program count (member_task task)
unfolding AreItemsMade
member_is_made program count task is =
    record {
      file = is.file;
      env = is.env;
      todo = items_append count (member_statement (kind_of (forked_construct task.todo)) (forked_construct task.todo) (length task.env)) (Sync (forked_construct task.todo) sync.Parallel stage.RegionBegin ∷ [])
          (member-made count (kind_of (forked_construct task.todo)) (forked_construct task.todo) (length task.env)) (tt, tt);
      calls = All-nil (IsCallMade count);
    }

-- an explicit task
pub explicit_is_made : (program : TreeView) (view : View) (now : Moment) (codeptr : ℕ) (undeferred : Bool) (tree : Tree) → IsWellScoped program → IsScoped program now.task → IsTaskMade program (length now.store.cells) now.task
    → silent program view now ≡ Occurs (TaskCreate codeptr undeferred) tree → AreCopiesInScope program (settled_task view now.task)
    → (IsTaskMade program (length (explicit_task program view now).store.cells) (explicit_task program view now).task) × (length now.store.cells ≤ length (explicit_task program view now).store.cells)
unfolding AreItemsMade
explicit_is_made program view now codeptr undeferred tree well scoped is comes copies =
    let construct = created_construct (settled_task view now.task).todo in
    let opens = (created_knows program view now codeptr undeferred tree well scoped comes).0 in
    let made = task_cells_made program (record { env = now.task.env; cells = now.store.cells }) construct is.env opens.listed copies in
    (record { file = env_more (length now.store.cells) _ made.grows (file_bound program).env is.file; env = made.env; todo = (tt, tt); calls = All-nil (IsCallMade _) }, made.grows)
