-- A task uses only names that are in scope: where it begins, and behind each step, answer and event.
use Rattle.std.specs.Prelude.{ℕ, ◌+◌, ◌≡◌, ◌==◌, ◌&&◌, not, if◌then◌else◌, Bool, true, false, List, [], ◌∷◌, ◌++◌, length, Option, Some, None, pos}
use Rattle.std.specs.List.{All}
use Rattle.std.proofs.Common.{append_assoc, subst, sym}
use Rattle.std.proofs.lemmas.List.Elements.{All-cons, All-nil}
use Rattle.c_syntax.specs.declared.node.Directive.TheVariants as directive
use Rattle.c_syntax.specs.declared.node.NodeKind.TheVariants as node
use Rattle.c_syntax.specs.language.Tree.{Tree, children_of, kind_of, nothing}
use Rattle.c_syntax.specs.language.Tree.Tree.{Node}
use Rattle.c_syntax.specs.language.Numbered.{TreeView}
use Rattle.c_model.specs.declared.point.Point.{Point}
use Rattle.c_model.specs.declared.point.Point.TheVariants.{TaskCreate}
use Rattle.c_model.specs.declared.point.SyncKind.TheVariants as sync
use Rattle.c_model.specs.declared.point.SyncStage.TheVariants as stage
use Rattle.c_model.specs.declared.point.Target.{Target}
use Rattle.c_model.specs.declared.point.Target.TheVariants.{Nowhere}
use Rattle.c_model.specs.declared.point.WorkKind.TheVariants as work_kind
use Rattle.c_model.specs.declared.question.Answer.{Answer}
use Rattle.c_model.specs.declared.question.Answer.TheVariants as answer
use Rattle.c_model.specs.declared.view.View.{View}
use Rattle.c_model.specs.Begin.{created_construct, explicit_task, forked_construct, main_task, member_items, member_task}
use Rattle.c_model.specs.Calls.{file_bound}
use Rattle.c_model.specs.Clauses.{clauses_among, construct_statement, expression_among, listed_among, sections_of}
use Rattle.c_model.specs.Copies.{combines, makes_cells}
use Rattle.c_model.specs.AfterEvents.{after_answer, after_event, answered_at, items_answered, items_of_chunk, items_of_section, items_of_test, passed_at}
use Rattle.c_model.specs.Parts.{trees_in}
use Rattle.c_model.specs.Step.{is_masked, skips_masked, items_from_next, settled_moment, settled_task, silent, step_at}
use Rattle.c_model.specs.Task.{StepStart, Item, Moment, Outcome, SharedLoop, Task}
use Rattle.c_model.specs.Task.Item.{Start, Forked, NextChunk, NextSection, EndWork, Sync, TestLock}
use Rattle.c_model.specs.Task.Outcome.{StepsTo, Occurs}
use Rattle.c_model.specs.Scoped.{IsCallScoped, IsOpenable, IsScoped, IsWellScoped, Knows, KnowsConstruct, KnowsStatements, Scoped, Sees, names_of, with_made, with_shared}
use Rattle.c_model.proofs.ScopeTrees.{knows_more, knows_statement, statements_more}
use Rattle.c_model.proofs.ScopeNames.{names_length, part_task}
use Rattle.c_model.proofs.ScopeBlocks.{combines_scoped, iterations_scoped, made_copies, making_scoped, part_made, value_scoped}
use Rattle.c_model.proofs.ScopeComing.{Keeps, LeadsOn}
use Rattle.c_model.proofs.ScopeSteps.{keeps_item}

-- what a task goes past uses no name
settled-start : (program : TreeView) (passed : Bool) (tree : Tree) (items settled : List Item) (names : List ℕ) → (Scoped program items names → Scoped program settled names) → Scoped program (Start tree ∷ items) names → Scoped program (if passed then settled else Start tree ∷ items) names
unfolding Scoped
settled-start program true tree items settled names each now = each now.1
settled-start program false tree items settled names each now = now

settled-by : (program : TreeView) (view : View) (item : Item) (items settled : List Item) (names : List ℕ) → (Scoped program items names → Scoped program settled names) → Scoped program (item ∷ items) names → Scoped program (if skips_masked item view then settled else item ∷ items) names
settled-by program view (Start tree) items settled names each now = settled-start program (is_masked (kind_of tree) && not (view.index == 0)) tree items settled names each now
settled-by program view other items settled names each now = now

settled-items : (program : TreeView) (view : View) (items : List Item) (names : List ℕ) → Scoped program items names → Scoped program (items_from_next view items) names
unfolding items_from_next
settled-items program view [] names now = now
settled-items program view (item ∷ items) names now = settled-by program view item items (items_from_next view items) names (settled-items program view items names) now

pub settled_is_scoped : (program : TreeView) (view : View) (task : Task) → IsScoped program task → IsScoped program (settled_task view task)
settled_is_scoped program view task is = record { now = settled-items program view task.todo (names_of task.env) is.now; calls = is.calls }

-- steps and events
abbrev pub here_at : TreeView → View → Moment → List Item → StepStart
here_at program view now items = record { program = program; view = view; task = record now.task { todo = items }; store = now.store }

kept : (program : TreeView) (view : View) (now : Moment) (item : Item) (items : List Item) (outcome : Outcome) → IsWellScoped program → Scoped program (item ∷ items) (names_of now.task.env) → All (IsCallScoped program) now.task.calls → step_at (item ∷ items) program view now ≡ outcome → Keeps (here_at program view now items) item outcome
unfolding Scoped
kept program view now item items outcome well scoped calls comes =
    subst (λ (outcome : Outcome). Keeps (here_at program view now items) item outcome) comes (keeps_item item (here_at program view now items) (record { program = well; now = scoped; calls = calls }))

step-scoped : (program : TreeView) (view : View) (now next : Moment) (items : List Item) → IsWellScoped program → Scoped program items (names_of now.task.env) → All (IsCallScoped program) now.task.calls → step_at items program view now ≡ StepsTo next → IsScoped program next.task
unfolding Keeps
step-scoped program view now next [] well scoped calls comes = absurd (cc)
step-scoped program view now next (item ∷ items) well scoped calls comes = kept program view now item items (StepsTo next) well scoped calls comes

pub step_is_scoped : (program : TreeView) (view : View) (now next : Moment) → IsWellScoped program → IsScoped program now.task → silent program view now ≡ StepsTo next → IsScoped program next.task
unfolding silent
step_is_scoped program view now next well is comes =
    let settled : IsScoped program (settled_task view now.task) = settled_is_scoped program view now.task is in
    step-scoped program view now next (settled_task view now.task).todo well settled.now settled.calls comes

event-scoped : (program : TreeView) (view : View) (point : Point) (executes : Bool) (now : Moment) (tree : Tree) (items : List Item) → IsWellScoped program → Scoped program items (names_of now.task.env) → All (IsCallScoped program) now.task.calls → step_at items program view now ≡ Occurs point tree → IsScoped program (passed_at items point executes (settled_task view now.task))
unfolding Keeps
event-scoped program view point executes now tree [] well scoped calls comes = absurd (cc)
event-scoped program view point executes now tree (item ∷ items) well scoped calls comes =
    let leads : LeadsOn (here_at program view now items) item point = kept program view now item items (Occurs point tree) well scoped calls comes in
    record { now = leads.leads executes; calls = calls }

pub event_is_scoped : (program : TreeView) (view : View) (point : Point) (executes : Bool) (now : Moment) (tree : Tree) → IsWellScoped program → IsScoped program now.task → silent program view now ≡ Occurs point tree → IsScoped program (after_event view point executes now.task)
unfolding silent
event_is_scoped program view point executes now tree well is comes =
    let settled : IsScoped program (settled_task view now.task) = settled_is_scoped program view now.task is in
    event-scoped program view point executes now tree (settled_task view now.task).todo well settled.now settled.calls comes

-- answers
chunk-scoped : (program : TreeView) (loop : SharedLoop) (chunk : Option (ℕ × ℕ)) (items : List Item) (names : List ℕ) → Scoped program (NextChunk loop ∷ items) names → Scoped program (items_of_chunk loop chunk ++ items) names
unfolding Scoped
chunk-scoped program loop (Some chunk) items names now = iterations_scoped program loop chunk.0 (chunk.0 + chunk.1) items names now.0 now.1
chunk-scoped program loop None items names now =
    let last = EndWork loop.construct work_kind.Loop loop.count loop.names in
    subst (λ (items : List Item). Scoped program items names) (sym (append_assoc (combines loop.construct loop.names) (last ∷ []) items))
    (combines_scoped program loop.construct loop.names (last ∷ items) names now.0.copies now.1)

section-scoped : (program : TreeView) (construct : Tree) (stay : ℕ) (section : Option ℕ) (items : List Item) (names : List ℕ) → Scoped program (NextSection construct stay ∷ items) names → Scoped program (items_of_section construct stay section ++ items) names
unfolding Scoped
section-scoped program construct stay (Some section) items names now = (now.0.sections section, now)
section-scoped program construct stay None items names now =
    let last = EndWork construct work_kind.Sections (length (sections_of construct)) stay in
    subst (λ (items : List Item). Scoped program items names) (sym (append_assoc (combines construct stay) (last ∷ []) items))
    (combines_scoped program construct stay (last ∷ items) names now.0.copies now.1)

test-scoped : (program : TreeView) (call : Tree) (id : ℕ) (to : Target) (free : Bool) (items : List Item) (names : List ℕ) → Scoped program (TestLock call id to ∷ items) names → Scoped program (items_of_test call id to free ++ items) names
unfolding Scoped
test-scoped program call id to true items names now = now
test-scoped program call id to false items names now = value_scoped program to (pos 0) items names now

answered-scoped : (program : TreeView) (given : Answer) (item : Item) (items : List Item) (names : List ℕ) → Scoped program (item ∷ items) names → Scoped program (items_answered given item ++ items) names
answered-scoped program (answer.Chunk chunk) (NextChunk loop) items names now = chunk-scoped program loop chunk items names now
answered-scoped program (answer.Section section) (NextSection construct stay) items names now = section-scoped program construct stay section items names now
answered-scoped program (answer.Free free) (TestLock call id to) items names now = test-scoped program call id to free items names now
answered-scoped program given item items names now = now

answer-scoped : (program : TreeView) (given : Answer) (items : List Item) (now : Moment) → Scoped program items (names_of now.task.env) → IsScoped program now.task → IsScoped program (answered_at items given now).task
answer-scoped program given [] now scoped is = is
answer-scoped program given (item ∷ items) now scoped is = record { now = answered-scoped program given item items (names_of now.task.env) scoped; calls = is.calls }

pub answer_is_scoped : (program : TreeView) (view : View) (given : Answer) (now : Moment) → IsScoped program now.task → IsScoped program (after_answer view given now).task
answer_is_scoped program view given now is =
    let settled : IsScoped program (settled_task view now.task) = settled_is_scoped program view now.task is in
    answer-scoped program given (settled_task view now.task).todo (settled_moment view now) settled.now settled

-- main
pub main_is_scoped : (program : TreeView) → IsWellScoped program → IsScoped program (main_task program)
unfolding Scoped
main_is_scoped program well =
    record { now = (well.main, tt); calls = All-cons (IsCallScoped program) (record { todo = []; env = (file_bound program).env; to = Nowhere }) [] tt (All-nil (IsCallScoped program)) }

-- a member of a team
openable-nothing : (program : TreeView) (names : List ℕ) → KnowsConstruct program names nothing
unfolding clauses_among listed_among expression_among trees_in Sees KnowsStatements
openable-nothing program names = (record { listed = All-nil _; threads = tt; condition = tt; start = tt; end = tt; shared = λ never. absurd (cc); variable = tt }, tt)

forked-knows : (program : TreeView) (items : List Item) (names : List ℕ) → Scoped program items names → KnowsConstruct program names (forked_construct items)
unfolding Scoped
forked-knows program [] names now = openable-nothing program names
forked-knows program (Forked construct ∷ items) names now = now.0
forked-knows program (item ∷ items) names now = openable-nothing program names

plain-scoped : (program : TreeView) (construct : Tree) (names : List ℕ) (count : ℕ) → length names ≡ count → KnowsConstruct program names construct → Scoped program ((makes_cells construct ++ Start (construct_statement construct) ∷ combines construct count) ++ Sync construct sync.Parallel stage.RegionBegin ∷ []) names
unfolding Scoped
plain-scoped program construct names count is knows =
    let last = Sync construct sync.Parallel stage.RegionBegin ∷ [] in
    subst (λ (items : List Item). Scoped program items names) (sym (append_assoc (makes_cells construct) (Start (construct_statement construct) ∷ combines construct count) last))
    (making_scoped program construct ((Start (construct_statement construct) ∷ combines construct count) ++ last) names knows.0 (
      knows_statement program (with_made names construct) construct (statements_more program (with_shared names construct) (with_made names construct) (part_made construct names) (children_of construct) knows.1),
      combines_scoped program construct count last (with_made names construct) (made_copies construct names count is knows.0) tt,
    ))

member-scoped : (program : TreeView) (construct : Tree) (names : List ℕ) (count : ℕ) → length names ≡ count → KnowsConstruct program names construct → Scoped program (member_items construct count) names
unfolding Scoped
member-scoped program (Node (node.Construct directive.ParallelFor) spot name number text children) names count is knows = (knows, tt)
member-scoped program (Node (node.Construct directive.ParallelSections) spot name number text children) names count is knows = (knows, tt)
member-scoped program (Node kind spot name number text children) names count is knows = plain-scoped program (Node kind spot name number text children) names count is knows

pub member_is_scoped : (program : TreeView) (task : Task) → IsScoped program task → IsScoped program (member_task task)
member_is_scoped program task is =
    record {
      now = member-scoped program (forked_construct task.todo) (names_of task.env) (length task.env) (names_length task.env) (forked-knows program task.todo (names_of task.env) is.now);
      calls = All-nil (IsCallScoped program);
    }

-- an explicit task
abbrev Created : TreeView → View → Moment → List Item → Type 0
Created program view now items = IsOpenable (names_of now.task.env) (created_construct items) × Knows program (names_of now.task.env) (construct_statement (created_construct items))

created-at : (program : TreeView) (view : View) (now : Moment) (codeptr : ℕ) (undeferred : Bool) (tree : Tree) (items : List Item) → IsWellScoped program → Scoped program items (names_of now.task.env) → All (IsCallScoped program) now.task.calls
    → step_at items program view now ≡ Occurs (TaskCreate codeptr undeferred) tree → Created program view now items
unfolding Keeps
created-at program view now codeptr undeferred tree [] well scoped calls comes = absurd (cc)
created-at program view now codeptr undeferred tree (item ∷ items) well scoped calls comes =
    let leads : LeadsOn (here_at program view now items) item (TaskCreate codeptr undeferred) = kept program view now item items (Occurs (TaskCreate codeptr undeferred) tree) well scoped calls comes in
    leads.creates

pub created_knows : (program : TreeView) (view : View) (now : Moment) (codeptr : ℕ) (undeferred : Bool) (tree : Tree) → IsWellScoped program → IsScoped program now.task → silent program view now ≡ Occurs (TaskCreate codeptr undeferred) tree
    → IsOpenable (names_of now.task.env) (created_construct (settled_task view now.task).todo) × Knows program (names_of now.task.env) (construct_statement (created_construct (settled_task view now.task).todo))
unfolding silent
created_knows program view now codeptr undeferred tree well is comes =
    let settled : IsScoped program (settled_task view now.task) = settled_is_scoped program view now.task is in
    created-at program view now codeptr undeferred tree (settled_task view now.task).todo well settled.now settled.calls comes

pub explicit_is_scoped : (program : TreeView) (view : View) (now : Moment) (codeptr : ℕ) (undeferred : Bool) (tree : Tree) → IsWellScoped program → IsScoped program now.task → silent program view now ≡ Occurs (TaskCreate codeptr undeferred) tree → IsScoped program (explicit_task program view now).task
unfolding Scoped
explicit_is_scoped program view now codeptr undeferred tree well is comes =
    let construct = created_construct (settled_task view now.task).todo in
    let knows = created_knows program view now codeptr undeferred tree well is comes in
    record {
      now = (knows_more program (names_of now.task.env) _ (part_task program (record { env = now.task.env; cells = now.store.cells }) construct) (construct_statement construct) knows.1, tt);
      calls = All-nil (IsCallScoped program);
    }
