-- No answer and no event leads beyond the width.
use Rattle.std.specs.Prelude.{ℕ, ◌+◌, ◌≤◌, ◌≡◌, max, min, if◌then◌else◌, Bool, true, false, List, [], ◌∷◌, ◌++◌, length, Option, Some, None, pos, refl}
use Rattle.std.proofs.Common.{arith, ◌∙◌}
use Rattle.std.proofs.lemmas.List.{append_assoc, length-take}
use Rattle.c_syntax.specs.declared.node.NodeKind.{NodeKind}
use Rattle.c_syntax.specs.declared.node.NodeKind.TheVariants as node
use Rattle.c_syntax.specs.language.Tree.{Tree, children_of, kind_of}
use Rattle.c_syntax.specs.language.Numbered.{TreeView}
use Rattle.c_model.specs.declared.entry.Entry.{Entry}
use Rattle.c_model.specs.declared.point.MutexKind.{MutexKind}
use Rattle.c_model.specs.declared.point.MutexKind.TheVariants as mutex
use Rattle.c_model.specs.declared.point.Point.{Point}
use Rattle.c_model.specs.declared.point.Point.TheVariants.{LockDestroy, LockInit, MaskedBegin, MaskedEnd, MutexAcquire, MutexAcquired, MutexReleased, ParallelBegin, ParallelEnd, Sync as SyncPoint, TaskCreate, WorkBegin, WorkEnd}
use Rattle.c_model.specs.declared.point.SyncKind.{SyncKind}
use Rattle.c_model.specs.declared.point.SyncStage.{SyncStage}
use Rattle.c_model.specs.declared.point.SyncStage.TheVariants as stage
use Rattle.c_model.specs.declared.point.Target.{Target}
use Rattle.c_model.specs.declared.point.Work.{Work}
use Rattle.c_model.specs.declared.point.Work.TheVariants as work
use Rattle.c_model.specs.declared.point.WorkKind.TheVariants as work_kind
use Rattle.c_model.specs.declared.question.Answer.{Answer}
use Rattle.c_model.specs.declared.question.Answer.TheVariants as answer
use Rattle.c_model.specs.declared.view.View.{View}
use Rattle.c_model.specs.Clauses.{Copying, Listed, has_nowait, sections_of}
use Rattle.c_model.specs.Clauses.Copying.{Private, First, Reduced}
use Rattle.c_model.specs.Copies.{combines, combining_all, combining_of, has_own_cells, listed_variables, makes_cells}
use Rattle.c_check.specs.Loops.{child_at}
use Rattle.c_model.specs.AfterEvents.{after_answer, after_event, answered_at, barrier_items, call_in, items_after, items_answered, items_of_chunk, items_of_section, items_of_test, mutex_items, names_after, next_stage, passed_at, single_items, work_items}
use Rattle.c_model.specs.Occurring.{IsOfItem, IsOfNext, IsOfTest}
use Rattle.c_model.specs.Step.{settled_moment, settled_task}
use Rattle.c_model.specs.Task.{Item, Moment, SharedLoop, Task}
use Rattle.c_model.specs.Task.Item.{Start, Initialise, Forked, Inside, MakeCells, NextChunk, NextSection, EndWork, EndMasked, Sync, Acquire, Release, TestLock}
use Rattle.c_model.specs.Width.{IsWithin, inner_names, most_inside, most_names, own_names, width}
use Rattle.c_model.proofs.WidthBlocks.{iteration_names, value_names}
use Rattle.c_model.proofs.WidthCells.{one_more}
use Rattle.c_model.proofs.WidthNames.{grows}
use Rattle.c_model.proofs.WidthSettled.{settled_is_within}
use Rattle.c_model.proofs.WidthTrees.{child_below, of_body, of_section, of_statement, split, within}

-- what a construct combines brings no name
combining-one : (program : TreeView) (around : ℕ) (one : Listed) (copying : Copying) (rest items : List Item) (names : ℕ) → most_names program ((combining_of around one copying ++ rest) ++ items) names ≡ most_names program (rest ++ items) names
unfolding most_names
combining-one program around one Private rest items names = refl
combining-one program around one First rest items names = refl
combining-one program around one (Reduced operator) rest items names = refl

combining-all : (program : TreeView) (around : ℕ) (listed : List Listed) (items : List Item) (names : ℕ) → most_names program (combining_all around listed ++ items) names ≡ most_names program items names
unfolding combining_all
combining-all program around [] items names = refl
combining-all program around (one ∷ rest) items names =
    combining-one program around one one.copying (combining_all around rest) items names ∙ combining-all program around rest items names

pub combining_names : (program : TreeView) (construct : Tree) (around : ℕ) (items : List Item) (names : ℕ) → most_names program (combines construct around ++ items) names ≡ most_names program items names
combining_names program construct around items names = combining-all program around (listed_variables construct) items names

-- behind the last chunk or section it combines, and its work ends
ending-names : (program : TreeView) (construct : Tree) (around : ℕ) (last : Item) (items : List Item) (names : ℕ) → most_names program ((combines construct around ++ last ∷ []) ++ items) names ≡ most_names program (last ∷ items) names
ending-names program construct around last items names =
    rw (append_assoc (combines construct around) (last ∷ []) items) (combining_names program construct around (last ∷ items) names)

-- answers
chunk-names : (program : TreeView) (loop : SharedLoop) (chunk : Option (ℕ × ℕ)) (items : List Item) (names : ℕ) → most_names program (items_of_chunk loop chunk ++ items) names ≤ most_names program (NextChunk loop ∷ items) names
unfolding most_names
chunk-names program loop (Some chunk) items names = omega (arith, iteration_names program loop chunk.0 (chunk.0 + chunk.1) items names)
chunk-names program loop None items names =
    omega (arith, ending-names program loop.construct loop.names (EndWork loop.construct work_kind.Loop loop.count loop.names) items names)

section-names : (program : TreeView) (construct : Tree) (stay : ℕ) (section : Option ℕ) (items : List Item) (names : ℕ) → most_names program (items_of_section construct stay section ++ items) names ≤ most_names program (NextSection construct stay ∷ items) names
unfolding most_names
section-names program construct stay (Some section) items names = omega (arith, of_section program construct section)
section-names program construct stay None items names =
    omega (arith, ending-names program construct stay (EndWork construct work_kind.Sections (length (sections_of construct)) stay) items names)

test-names : (program : TreeView) (call : Tree) (id : ℕ) (to : Target) (free : Bool) (items : List Item) (names : ℕ) → most_names program (items_of_test call id to free ++ items) names ≤ most_names program (TestLock call id to ∷ items) names
unfolding most_names
test-names program call id to true items names = omega arith
test-names program call id to false items names = omega (arith, value_names program to (pos 0) items names)

answered-names : (program : TreeView) (given : Answer) (item : Item) (items : List Item) (names : ℕ) → most_names program (items_answered given item ++ items) names ≤ most_names program (item ∷ items) names
answered-names program (answer.Chunk chunk) (NextChunk loop) items names = chunk-names program loop chunk items names
answered-names program (answer.Section section) (NextSection construct stay) items names = section-names program construct stay section items names
answered-names program (answer.Free free) (TestLock call id to) items names = test-names program call id to free items names
answered-names program given item items names = omega arith

answered-within : (program : TreeView) (given : Answer) (items : List Item) (now : Moment) → most_names program items (length now.task.env) ≤ width program → IsWithin program now.task → IsWithin program (answered_at items given now).task
answered-within program given [] now enough is = is
answered-within program given (item ∷ items) now enough is =
    record { now = omega (arith, enough, answered-names program given item items (length now.task.env)); calls = is.calls }

pub answer_is_within : (program : TreeView) (view : View) (given : Answer) (now : Moment) → IsWithin program now.task → IsWithin program (after_answer view given now).task
answer_is_within program view given now is =
    let settled : IsWithin program (settled_task view now.task) = settled_is_within program view now.task is in
    answered-within program given (settled_task view now.task).todo (settled_moment view now) settled.now settled

-- the tree at which an event stands
call-below : (program : TreeView) (kind : NodeKind) (tree : Tree) → inner_names program (call_in kind tree) ≤ inner_names program tree
call-below program node.SetCall tree = child_below program tree 1
call-below program node.Called tree = child_below program tree 0
call-below program node.Return tree = child_below program tree 0
call-below program other tree = omega arith

-- a construct's own cells
made-names : (program : TreeView) (has : Bool) (construct : Tree) (behind items : List Item) (names : ℕ) → most_names program (((if has then MakeCells construct ∷ [] else []) ++ behind) ++ items) names ≤ most_names program (behind ++ items) (names + own_names program (kind_of construct) construct)
unfolding most_names
made-names program true construct behind items names = omega arith
made-names program false construct behind items names =
    grows program (behind ++ items) names (names + own_names program (kind_of construct) construct) (omega arith)

pub making_names : (program : TreeView) (construct : Tree) (behind items : List Item) (names : ℕ) → most_names program ((makes_cells construct ++ behind) ++ items) names ≤ most_names program (behind ++ items) (names + own_names program (kind_of construct) construct)
making_names program construct behind items names = made-names program (has_own_cells construct) construct behind items names

single-names : (program : TreeView) (construct : Tree) (executes : Bool) (items : List Item) (names more : ℕ) → names ≤ more → most_names program (single_items construct names executes ++ items) more ≤ max (more + most_inside program (children_of construct)) (most_names program items names)
unfolding most_names
single-names program construct true items names more fewer =
    omega (arith, of_statement program construct, grows program items (min names more) names (omega arith))
single-names program construct false items names more fewer = omega (arith, grows program items (min names more) names (omega arith))

worked-names : (program : TreeView) (kind : Work) (construct : Tree) (executes : Bool) (items : List Item) (names more : ℕ) → names ≤ more → most_names program (work_items kind construct names executes ++ items) more ≤ max (more + most_inside program (children_of construct)) (most_names program items names)
unfolding most_names
worked-names program (work.Loop start count step schedule) construct executes items names more fewer =
    omega (arith, of_body program construct, grows program items (min names more) names (omega arith))
worked-names program (work.Sections count) construct executes items names more fewer =
    omega (arith, grows program items (min names more) names (omega arith))
worked-names program work.Single construct executes items names more fewer = single-names program construct executes items names more fewer

work-names : (program : TreeView) (kind : Work) (construct : Tree) (executes : Bool) (items : List Item) (names : ℕ) → most_names program ((makes_cells construct ++ work_items kind construct names executes) ++ items) names ≤ max (names + inner_names program construct) (most_names program items names)
work-names program kind construct executes items names =
    omega (
      arith,
      split program construct,
      making_names program construct (work_items kind construct names executes) items names,
      worked-names program kind construct executes items names (names + own_names program (kind_of construct) construct) (omega arith),
    )

barrier-names : (program : TreeView) (nowait : Bool) (construct : Tree) (items : List Item) (names : ℕ) → nowait ≡ has_nowait construct → most_names program (barrier_items construct ++ items) names ≡ most_names program items names
unfolding most_names
barrier-names program true construct items names is = rw (← is) refl
barrier-names program false construct items names is = rw (← is) refl

stage-names : (program : TreeView) (tree : Tree) (kind : SyncKind) (at : SyncStage) (items : List Item) (names : ℕ) → most_names program (next_stage tree kind at ++ items) names ≡ most_names program items names
unfolding most_names
stage-names program tree kind stage.RegionBegin items names = refl
stage-names program tree kind stage.WaitBegin items names = refl
stage-names program tree kind stage.WaitEnd items names = refl
stage-names program tree kind stage.RegionEnd items names = refl

mutex-names : (program : TreeView) (kind : MutexKind) (tree : Tree) (id : ℕ) (to : Target) (items : List Item) (names : ℕ) → most_names program (mutex_items kind tree id to ++ items) names ≤ max (names + inner_names program tree) (most_names program items names)
unfolding most_names
mutex-names program mutex.Lock tree id to items names = omega arith
mutex-names program mutex.TestLock tree id to items names = omega arith
mutex-names program mutex.Critical tree id to items names = omega (arith, of_statement program tree, within program tree)

tested-names : (program : TreeView) (kind : MutexKind) (tree : Tree) (id : ℕ) (to : Target) (items : List Item) (names : ℕ) → IsOfTest kind → most_names program (mutex_items kind tree id to ++ items) names ≡ most_names program items names
unfolding most_names IsOfTest
tested-names program mutex.TestLock tree id to items names is = refl
tested-names program mutex.Lock tree id to items names is = absurd is
tested-names program mutex.Critical tree id to items names is = absurd is

-- what stands in place of the item of which an event is
passed-names : (program : TreeView) (point : Point) (executes : Bool) (env : List Entry) (item : Item) (items : List Item) → IsOfItem point item → most_names program (items_after point executes (length env) item ++ items) (length (names_after point item env)) ≤ most_names program (item ∷ items) (length env)
unfolding most_names IsOfItem
passed-names program (ParallelBegin codeptr requested) executes env (Start tree) items is = omega (arith, call-below program (kind_of tree) tree)
passed-names program (ParallelEnd codeptr) executes env (Forked construct) items is = omega arith
passed-names program (TaskCreate codeptr undeferred) executes env (Start tree) items is = omega arith
passed-names program (WorkBegin codeptr kind) executes env (Start tree) items is =
    omega (arith, call-below program (kind_of tree) tree, work-names program kind (call_in (kind_of tree) tree) executes items (length env))
passed-names program (WorkBegin codeptr kind) executes env (Inside construct) items is = work-names program kind construct executes items (length env)
passed-names program (WorkEnd codeptr kind count) executes env (EndWork construct ended whole stay) items is =
    rw (length-take stay env) (omega (arith, barrier-names program (has_nowait construct) construct items (min stay (length env)) refl))
passed-names program (MaskedBegin codeptr) executes env (Start tree) items is =
    omega (arith, call-below program (kind_of tree) tree, of_statement program (call_in (kind_of tree) tree), within program (call_in (kind_of tree) tree))
passed-names program (MaskedEnd codeptr) executes env (EndMasked construct) items is = omega arith
passed-names program (SyncPoint codeptr kind at) executes env (Start tree) items is =
    omega (arith, stage-names program (call_in (kind_of tree) tree) kind at items (length env))
passed-names program (SyncPoint codeptr kind at) executes env (Sync tree other earlier) items is =
    omega (arith, stage-names program tree kind at items (length env))
passed-names program (MutexAcquire codeptr id kind to) executes env (Start tree) items is =
    omega (arith, call-below program (kind_of tree) tree, mutex-names program kind (call_in (kind_of tree) tree) id to items (length env))
passed-names program (MutexAcquire codeptr id kind to) executes env (Initialise tree entry) items is =
    rw (one_more env entry) (omega (arith, tested-names program kind (child_at tree 0) id to items (length env + 1) is))
passed-names program (MutexAcquired codeptr id kind) executes env (Acquire tree other which) items is = omega arith
passed-names program (MutexReleased codeptr id kind) executes env (Start tree) items is = omega arith
passed-names program (MutexReleased codeptr id kind) executes env (Release tree which) items is = omega arith
passed-names program (LockInit codeptr id) executes env (Start tree) items is = omega arith
passed-names program (LockDestroy codeptr id) executes env (Start tree) items is = omega arith
passed-names program point executes env item items is = absurd is

passed-within : (program : TreeView) (point : Point) (executes : Bool) (items : List Item) (task : Task) → IsOfNext point items → most_names program items (length task.env) ≤ width program → IsWithin program task → IsWithin program (passed_at items point executes task)
unfolding IsOfNext
passed-within program point executes [] task next enough is = is
passed-within program point executes (item ∷ items) task next enough is =
    record { now = omega (arith, enough, passed-names program point executes task.env item items next); calls = is.calls }

pub event_is_within : (program : TreeView) (view : View) (point : Point) (executes : Bool) (task : Task) → IsWithin program task → IsOfNext point (settled_task view task).todo → IsWithin program (after_event view point executes task)
event_is_within program view point executes task is next =
    let settled : IsWithin program (settled_task view task) = settled_is_within program view task is in
    passed-within program point executes (settled_task view task).todo (settled_task view task) next settled.now settled
