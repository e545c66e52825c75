-- What stands next in a task's code stands where its slots are in scope: where the task begins, and behind each step, answer and event.
use Rattle.std.specs.Prelude.{ℕ, ◌+◌, ◌≡◌, ◌==◌, ◌&&◌, not, if◌then◌else◌, Bool, true, false, List, [], ◌∷◌, ◌++◌, length, Option, Some, None, pos}
use Rattle.std.specs.List.{All, Contains}
use Rattle.std.proofs.Common.{append_assoc, subst, sym}
use Rattle.std.proofs.lemmas.List.Elements.{All-cons, All-nil}
use Rattle.c_syntax.specs.declared.node.Directive.TheVariants as directive
use Rattle.c_syntax.specs.declared.node.NodeKind.TheVariants as node
use Rattle.c_syntax.specs.language.Tree.{kind_of, nothing, Tree}
use Rattle.c_syntax.specs.language.Tree.Tree.{Node}
use Rattle.c_syntax.specs.language.Numbered.{TreeView}
use Rattle.c_check.specs.Seen.{task_copies}
use Rattle.c_check.specs.Statements.{statement_of}
use Rattle.c_model.specs.declared.point.Point.{Point}
use Rattle.c_model.specs.declared.point.Point.TheVariants.{TaskCreate}
use Rattle.c_model.specs.declared.point.SyncKind.TheVariants as sync
use Rattle.c_model.specs.declared.point.SyncStage.TheVariants as stage
use Rattle.c_model.specs.declared.point.Target.{Target}
use Rattle.c_model.specs.declared.point.Target.TheVariants.{Nowhere}
use Rattle.c_model.specs.declared.point.WorkKind.TheVariants as work_kind
use Rattle.c_model.specs.declared.question.Answer.{Answer}
use Rattle.c_model.specs.declared.question.Answer.TheVariants as answer
use Rattle.c_model.specs.declared.view.View.{View}
use Rattle.c_model.specs.Begin.{created_construct, explicit_task, forked_construct, main_task, member_items, member_task}
use Rattle.c_model.specs.Calls.{file_bound}
use Rattle.c_model.specs.Clauses.{construct_statement, sections_of}
use Rattle.c_model.specs.Copies.{combines, makes_cells}
use Rattle.c_model.specs.AfterEvents.{after_answer, after_event, answered_at, items_answered, items_of_chunk, items_of_section, items_of_test, passed_at}
use Rattle.c_model.specs.Step.{is_masked, skips_masked, items_from_next, settled_moment, settled_task, silent, step_at}
use Rattle.c_model.specs.Task.{StepStart, Item, Moment, Outcome, SharedLoop, Task}
use Rattle.c_model.specs.Task.Item.{Start, Forked, NextChunk, NextSection, EndWork, Sync, TestLock}
use Rattle.c_model.specs.Task.Outcome.{StepsTo, Occurs}
use Rattle.c_model.specs.UsedCells.{AreCopiesInScope, slots_of}
use Rattle.c_slots.specs.Slotted.{IsCallSlotted, IsConstructPlaced, IsPlaced, IsSlotted, IsWellSlotted, Slotted}
use Rattle.c_slots.proofs.Parts.{copies_placed}
use Rattle.c_slots.proofs.Standing.{nothing_placed, part_left, placed_wider}
use Rattle.c_slots.specs.OwnPlaces.{HasOwnPlaces}
use Rattle.c_slots.proofs.EntrySlots.{part_task}
use Rattle.c_slots.proofs.Blocks.{combines_slotted, iterations_slotted, making_slotted, value_slotted}
use Rattle.c_slots.proofs.Outcomes.{Keeps, LeadsOn}
use Rattle.c_slots.proofs.Steps.{keeps_item}

-- what a task goes past brings no slot
settled-start : (program : TreeView) (passed : Bool) (tree : Tree) (items settled : List Item) (slots : List ℕ)
    → (Slotted program items slots → Slotted program settled slots) → Slotted program (Start tree ∷ items) slots
    → Slotted program (if passed then settled else Start tree ∷ items) slots
unfolding Slotted
settled-start program true tree items settled slots each now = each now.1
settled-start program false tree items settled slots each now = now

settled-by : (program : TreeView) (view : View) (item : Item) (items settled : List Item) (slots : List ℕ)
    → (Slotted program items slots → Slotted program settled slots) → Slotted program (item ∷ items) slots
    → Slotted program (if skips_masked item view then settled else item ∷ items) slots
settled-by program view (Start tree) items settled slots each now =
    settled-start program (is_masked (kind_of tree) && not (view.index == 0)) tree items settled slots each now
settled-by program view other items settled slots each now = now

settled-items : (program : TreeView) (view : View) (items : List Item) (slots : List ℕ) → Slotted program items slots
    → Slotted program (items_from_next view items) slots
unfolding items_from_next
settled-items program view [] slots now = now
settled-items program view (item ∷ items) slots now =
    settled-by program view item items (items_from_next view items) slots (settled-items program view items slots) now

pub settled_is_slotted : (program : TreeView) (view : View) (task : Task) → IsSlotted program task → IsSlotted program (settled_task view task)
settled_is_slotted program view task is = record { now = settled-items program view task.todo (slots_of task.env) is.now; calls = is.calls }

-- steps and events
abbrev pub here_at : TreeView → View → Moment → List Item → StepStart
here_at program view now items = record { program = program; view = view; task = record now.task { todo = items }; store = now.store }

kept : (program : TreeView) (view : View) (now : Moment) (item : Item) (items : List Item) (outcome : Outcome) → IsWellSlotted program
    → Slotted program (item ∷ items) (slots_of now.task.env) → All (IsCallSlotted program) now.task.calls → step_at (item ∷ items) program view now ≡ outcome
    → Keeps (here_at program view now items) item outcome
unfolding Slotted
kept program view now item items outcome well scoped calls comes =
    subst (λ (outcome : Outcome). Keeps (here_at program view now items) item outcome) comes
    (keeps_item item (here_at program view now items) (record { program = well; now = scoped; calls = calls }))

step-slotted : (program : TreeView) (view : View) (now next : Moment) (items : List Item) → IsWellSlotted program
    → Slotted program items (slots_of now.task.env) → All (IsCallSlotted program) now.task.calls → step_at items program view now ≡ StepsTo next
    → IsSlotted program next.task
unfolding Keeps
step-slotted program view now next [] well scoped calls comes = absurd (cc)
step-slotted program view now next (item ∷ items) well scoped calls comes = kept program view now item items (StepsTo next) well scoped calls comes

pub step_is_slotted : (program : TreeView) (view : View) (now next : Moment) → IsWellSlotted program → IsSlotted program now.task
    → silent program view now ≡ StepsTo next → IsSlotted program next.task
unfolding silent
step_is_slotted program view now next well is comes =
    let settled : IsSlotted program (settled_task view now.task) = settled_is_slotted program view now.task is in
    step-slotted program view now next (settled_task view now.task).todo well settled.now settled.calls comes

event-slotted : (program : TreeView) (view : View) (point : Point) (executes : Bool) (now : Moment) (tree : Tree) (items : List Item) → IsWellSlotted program
    → Slotted program items (slots_of now.task.env) → All (IsCallSlotted program) now.task.calls → step_at items program view now ≡ Occurs point tree
    → IsSlotted program (passed_at items point executes (settled_task view now.task))
unfolding Keeps
event-slotted program view point executes now tree [] well scoped calls comes = absurd (cc)
event-slotted program view point executes now tree (item ∷ items) well scoped calls comes =
    let leads : LeadsOn (here_at program view now items) item point = kept program view now item items (Occurs point tree) well scoped calls comes in
    record { now = leads.leads executes; calls = calls }

pub event_is_slotted : (program : TreeView) (view : View) (point : Point) (executes : Bool) (now : Moment) (tree : Tree) → IsWellSlotted program
    → IsSlotted program now.task → silent program view now ≡ Occurs point tree → IsSlotted program (after_event view point executes now.task)
unfolding silent
event_is_slotted program view point executes now tree well is comes =
    let settled : IsSlotted program (settled_task view now.task) = settled_is_slotted program view now.task is in
    event-slotted program view point executes now tree (settled_task view now.task).todo well settled.now settled.calls comes

-- answers
chunk-slotted : (program : TreeView) (loop : SharedLoop) (chunk : Option (ℕ × ℕ)) (items : List Item) (slots : List ℕ)
    → Slotted program (NextChunk loop ∷ items) slots → Slotted program (items_of_chunk loop chunk ++ items) slots
unfolding Slotted
chunk-slotted program loop (Some chunk) items slots now = iterations_slotted program loop chunk.0 (chunk.0 + chunk.1) items slots now.0 now.1
chunk-slotted program loop None items slots now =
    let last = EndWork loop.construct work_kind.Loop loop.count loop.names in
    subst (λ (items : List Item). Slotted program items slots) (sym (append_assoc (combines loop.construct loop.names) (last ∷ []) items))
    (combines_slotted program loop.construct loop.names (last ∷ items) slots now.1)

section-slotted : (program : TreeView) (construct : Tree) (stay : ℕ) (section : Option ℕ) (items : List Item) (slots : List ℕ)
    → Slotted program (NextSection construct stay ∷ items) slots → Slotted program (items_of_section construct stay section ++ items) slots
unfolding Slotted
section-slotted program construct stay (Some section) items slots now = (now.0 section, now)
section-slotted program construct stay None items slots now =
    let last = EndWork construct work_kind.Sections (length (sections_of construct)) stay in
    subst (λ (items : List Item). Slotted program items slots) (sym (append_assoc (combines construct stay) (last ∷ []) items))
    (combines_slotted program construct stay (last ∷ items) slots now.1)

test-slotted : (program : TreeView) (call : Tree) (id : ℕ) (to : Target) (free : Bool) (items : List Item) (slots : List ℕ)
    → Slotted program (TestLock call id to ∷ items) slots → Slotted program (items_of_test call id to free ++ items) slots
unfolding Slotted
test-slotted program call id to true items slots now = now
test-slotted program call id to false items slots now = value_slotted program to (pos 0) items slots now

answered-slotted : (program : TreeView) (given : Answer) (item : Item) (items : List Item) (slots : List ℕ) → Slotted program (item ∷ items) slots
    → Slotted program (items_answered given item ++ items) slots
answered-slotted program (answer.Chunk chunk) (NextChunk loop) items slots now = chunk-slotted program loop chunk items slots now
answered-slotted program (answer.Section section) (NextSection construct stay) items slots now =
    section-slotted program construct stay section items slots now
answered-slotted program (answer.Free free) (TestLock call id to) items slots now = test-slotted program call id to free items slots now
answered-slotted program given item items slots now = now

answer-slotted : (program : TreeView) (given : Answer) (items : List Item) (now : Moment) → Slotted program items (slots_of now.task.env)
    → IsSlotted program now.task → IsSlotted program (answered_at items given now).task
answer-slotted program given [] now scoped is = is
answer-slotted program given (item ∷ items) now scoped is =
    record { now = answered-slotted program given item items (slots_of now.task.env) scoped; calls = is.calls }

pub answer_is_slotted : (program : TreeView) (view : View) (given : Answer) (now : Moment) → IsSlotted program now.task
    → IsSlotted program (after_answer view given now).task
answer_is_slotted program view given now is =
    let settled : IsSlotted program (settled_task view now.task) = settled_is_slotted program view now.task is in
    answer-slotted program given (settled_task view now.task).todo (settled_moment view now) settled.now settled

-- main
pub main_is_slotted : (program : TreeView) → IsWellSlotted program → IsSlotted program (main_task program)
unfolding Slotted
main_is_slotted program well =
    record {
      now = (well.main, tt);
      calls = All-cons (IsCallSlotted program) (record { todo = []; env = (file_bound program).env; to = Nowhere }) [] tt
          (All-nil (IsCallSlotted program));
    }

-- a member of a team
nothing-forked : (program : TreeView) (slots : List ℕ) → IsConstructPlaced program slots nothing
unfolding statement_of
nothing-forked program slots = (nothing_placed program slots, nothing_placed program slots)

forked-placed : (program : TreeView) (items : List Item) (slots : List ℕ) → Slotted program items slots
    → IsConstructPlaced program slots (forked_construct items)
unfolding Slotted
forked-placed program [] slots now = nothing-forked program slots
forked-placed program (Forked construct ∷ items) slots now = now.0
forked-placed program (item ∷ items) slots now = nothing-forked program slots

plain-slotted : (program : TreeView) (construct : Tree) (slots : List ℕ) (count : ℕ) → IsConstructPlaced program slots construct
    → Slotted program
    ((makes_cells construct ++ Start (construct_statement construct) ∷ combines construct count) ++ Sync construct sync.Parallel stage.RegionBegin ∷ []) slots
unfolding Slotted
plain-slotted program construct slots count is =
    let last = Sync construct sync.Parallel stage.RegionBegin ∷ [] in
    subst (λ (items : List Item). Slotted program items slots)
    (sym (append_assoc (makes_cells construct) (Start (construct_statement construct) ∷ combines construct count) last))
    (making_slotted program construct ((Start (construct_statement construct) ∷ combines construct count) ++ last) slots
    (λ own known. (
      placed_wider program slots (slots ++ own) (construct_statement construct) (part_left slots own) is.1,
      combines_slotted program construct count last
          (slots ++ own) tt,
    )))

member-slotted : (program : TreeView) (construct : Tree) (slots : List ℕ) (count : ℕ) → IsConstructPlaced program slots construct
    → Slotted program (member_items construct count) slots
unfolding Slotted
member-slotted program (Node (node.Construct directive.ParallelFor) spot name number text children) slots count is = (is.0, tt)
member-slotted program (Node (node.Construct directive.ParallelSections) spot name number text children) slots count is = (is.0, tt)
member-slotted program (Node kind spot name number text children) slots count is =
    plain-slotted program (Node kind spot name number text children) slots count is

pub member_is_slotted : (program : TreeView) (task : Task) → IsSlotted program task → IsSlotted program (member_task task)
member_is_slotted program task is =
    record {
      now = member-slotted program (forked_construct task.todo) (slots_of task.env) (length task.env)
          (forked-placed program task.todo (slots_of task.env) is.now);
      calls = All-nil (IsCallSlotted program);
    }

-- an explicit task
created-at : (program : TreeView) (view : View) (now : Moment) (codeptr : ℕ) (undeferred : Bool) (tree : Tree) (items : List Item) → IsWellSlotted program
    → Slotted program items (slots_of now.task.env) → All (IsCallSlotted program) now.task.calls
    → step_at items program view now ≡ Occurs (TaskCreate codeptr undeferred) tree
    → IsPlaced program (slots_of now.task.env) (construct_statement (created_construct items))
unfolding Keeps
created-at program view now codeptr undeferred tree [] well slotted calls comes = absurd (cc)
created-at program view now codeptr undeferred tree (item ∷ items) well slotted calls comes =
    let leads : LeadsOn (here_at program view now items) item (TaskCreate codeptr undeferred) =
    kept program view now item items (Occurs (TaskCreate codeptr undeferred) tree) well slotted calls comes
    in
    leads.creates

created-placed : (program : TreeView) (view : View) (now : Moment) (codeptr : ℕ) (undeferred : Bool) (tree : Tree) → IsWellSlotted program
    → IsSlotted program now.task → silent program view now ≡ Occurs (TaskCreate codeptr undeferred) tree
    → IsPlaced program (slots_of now.task.env) (construct_statement (created_construct (settled_task view now.task).todo))
unfolding silent
created-placed program view now codeptr undeferred tree well is comes =
    let settled : IsSlotted program (settled_task view now.task) = settled_is_slotted program view now.task is in
    created-at program view now codeptr undeferred tree (settled_task view now.task).todo well settled.now settled.calls comes

pub explicit_is_slotted : (program : TreeView) (view : View) (now : Moment) (codeptr : ℕ) (undeferred : Bool) (tree : Tree) → IsWellSlotted program
    → IsSlotted program now.task → silent program view now ≡ Occurs (TaskCreate codeptr undeferred) tree
    → IsSlotted program (explicit_task program view now).task
unfolding Slotted
explicit_is_slotted program view now codeptr undeferred tree well is comes =
    let construct = created_construct (settled_task view now.task).todo in
    let stands = created-placed program view now codeptr undeferred tree well is comes in
    record {
      now = (
        placed_wider program (slots_of now.task.env) _ (construct_statement construct)
            (part_task program (record { env = now.task.env; cells = now.store.cells }) construct) stands,
        tt,
      );
      calls = All-nil (IsCallSlotted program);
    }

-- what it copies by rule is in scope
created-copies : (program : TreeView) (items : List Item) (slots : List ℕ) → HasOwnPlaces program → Slotted program items slots
    → All (λ (slot : ℕ). Contains slots slot) (task_copies program (created_construct items))
unfolding Slotted
created-copies program [] slots places now = All-nil (λ (slot : ℕ). Contains slots slot)
created-copies program (Start construct ∷ items) slots places now = copies_placed program places slots construct now.0
created-copies program (item ∷ items) slots places now = All-nil (λ (slot : ℕ). Contains slots slot)

pub copies_in_scope : (program : TreeView) (task : Task) → IsWellSlotted program → IsSlotted program task → AreCopiesInScope program task
copies_in_scope program task well is = created-copies program task.todo (slots_of task.env) well.places is.now
