-- Behind each silent step, and behind each event that a step comes to, what stands next uses only names that are in scope.
use Rattle.std.specs.Prelude.{ℕ, ◌+◌, ◌≡◌, if◌then◌else◌, Bool, true, false, List, [], ◌∷◌, ◌++◌, length, take, unwrap_or, Result, Ok, ℤ, pos, refl}
use Rattle.std.specs.List.{Contains}
use Rattle.std.proofs.Common.{ap, sym, ◌∙◌, append-nil, append_assoc, subst}
use Rattle.std.proofs.lemmas.List.{take_at, take-map}
use Rattle.std.proofs.lemmas.List.Elements.{Contains-push}
use Rattle.c_syntax.specs.declared.node.Directive.TheVariants as directive
use Rattle.c_syntax.specs.declared.node.LockCall.{LockCall}
use Rattle.c_syntax.specs.declared.node.LockCall.TheVariants as lock
use Rattle.c_syntax.specs.declared.node.NodeKind.{NodeKind}
use Rattle.c_syntax.specs.declared.node.NodeKind.TheVariants as node
use Rattle.c_syntax.specs.declared.node.Setting.{Setting}
use Rattle.c_syntax.specs.declared.node.Standalone.{Standalone}
use Rattle.c_syntax.specs.declared.node.Standalone.TheVariants as standalone
use Rattle.c_syntax.specs.language.Tree.{Tree, Children, at_place, children_of, kind_of, name_of, nothing}
use Rattle.c_syntax.specs.language.Tree.Tree.{Node}
use Rattle.c_syntax.specs.language.Tree.Children.{Over, Child, Absent}
use Rattle.c_syntax.specs.language.Numbered.{TreeView}
use Rattle.c_check.specs.Loops.{child_at}
use Rattle.c_check.specs.Seen.{slot_of_name}
use Rattle.c_model.specs.declared.entry.Entry.{Entry}
use Rattle.c_model.specs.declared.point.Point.TheVariants.{WorkBegin}
use Rattle.c_model.specs.declared.point.SyncKind.{SyncKind}
use Rattle.c_model.specs.declared.point.SyncKind.TheVariants as sync
use Rattle.c_model.specs.declared.point.SyncStage.{SyncStage}
use Rattle.c_model.specs.declared.point.SyncStage.TheVariants as stage
use Rattle.c_model.specs.declared.point.Target.TheVariants as target
use Rattle.c_model.specs.declared.point.Work.{Work}
use Rattle.c_model.specs.declared.point.Work.TheVariants as work
use Rattle.c_model.specs.Parts.{flat_declarations, has_child, parts}
use Rattle.c_model.specs.Cells.{cell_at, entry_of}
use Rattle.c_model.specs.Value.{all_values, cell_of, is_zero}
use Rattle.c_model.specs.Calls.{begin_lock_call}
use Rattle.c_model.specs.Clauses.{condition_of, construct_statement, has_nowait, requested_threads}
use Rattle.c_model.specs.StepOutcomes.{bound_of, goes_on, goes_on_with, scope_of, value_here}
use Rattle.c_model.specs.Constructs.{begin_loop, begin_sections, begin_critical, begin_masked, begin_parallel, begin_single, begin_task, iterations_from, reduction_result, value_or}
use Rattle.c_model.specs.Copies.{is_loop, makes_cells, with_own_cells}
use Rattle.c_model.specs.AfterEvents.{next_stage, tree_at_event, work_items}
use Rattle.c_model.specs.Loops.{iteration_value, loop_of}
use Rattle.c_model.specs.Statements.{assigns, begin_block, begin_for, begin_local_set, begin_set_to_call, begin_set_to_value, branch_taken, declares, makes_first_step, makes_step, new_number, setting_of, test_for, test_value}
use Rattle.c_model.specs.Step.{begin_inside, begin_standalone, begin_statement, step_of}
use Rattle.c_model.specs.Task.{StepStart, Item, items_of_parts}
use Rattle.c_model.specs.Task.Item.{Start, Declare, Leave, Test, Third, Initialise, Return, FallOff, Forked, Inside, MakeCells, NextChunk, Iterations, NextSection, Combine, EndWork, EndMasked, Sync, Acquire, Release, TestLock, Tested}
use Rattle.c_model.specs.Scoped.{IsOpenable, Knows, KnowsConstruct, KnowsEach, KnowsInOrder, KnowsLoop, Scoped, behind_first_part, first_names, names_by_first, names_of, part_names, with_made, with_shared}
use Rattle.c_model.proofs.ScopeTrees.{knows_at, knows_behind_first, knows_body, knows_section, knows_statement, statements_more}
use Rattle.c_model.proofs.ScopeNames.{names_length, names_push, own_names_made}
use Rattle.c_model.proofs.ScopeBlocks.{block_scoped, iterations_scoped, leave_scoped, made_copies, made_take, making_scoped, part_made}
use Rattle.c_model.proofs.ScopeComing.{IsRoomFor, Keeps, LeadsOn, keeps_binds, keeps_bound, keeps_choice, keeps_event, keeps_limit, keeps_on, keeps_result, keeps_sets, keeps_unless, keeps_with}
use Rattle.c_model.proofs.ScopeCalls.{keeps_return, keeps_returns, keeps_right, keeps_tested}

-- declarators
module _ (here : StepStart) (item : Item) (room : IsRoomFor here item) where
  keeps-set-to-value : (named expression : Tree) (items : List Item) → Scoped here.program (items ++ here.task.todo) (names_of here.task.env ++ name_of named ∷ []) → Keeps here item (begin_set_to_value here named expression items)
  keeps-set-to-value named expression items now =
      keeps_result here item (value_here here expression) _ (λ number. keeps_bound here item (name_of named) (slot_of_name here.program named) (number ∷ []) items now room)

  keeps-set-to-call : (tree : Tree) → Knows here.program (names_of here.task.env) (child_at tree 0) → Scoped here.program here.task.todo (names_of here.task.env ++ name_of tree ∷ []) → Keeps here item (begin_set_to_call here tree)
  unfolding Scoped
  keeps-set-to-call tree knows now = keeps_unless here item _ _ _ (record { now = (knows, now); calls = room.calls })

  keeps-local : (kind : NodeKind) (tree : Tree) → Knows here.program (names_of here.task.env) (child_at tree 0) → Scoped here.program here.task.todo (names_of here.task.env ++ name_of tree ∷ []) → Keeps here item (begin_local_set kind here tree)
  keeps-local node.Call tree knows now = keeps-set-to-call tree knows now
  keeps-local node.TestLock tree knows now = keeps-set-to-call tree knows now
  keeps-local other tree knows now = keeps-set-to-value tree (child_at tree 0) [] now

  keeps-declares : (tree : Tree) → Knows here.program (names_of here.task.env) tree → Scoped here.program here.task.todo (names_of here.task.env ++ name_of tree ∷ []) → Keeps here item (declares (kind_of tree) here tree)
  unfolding Knows
  keeps-declares (Node node.LocalSet spot name number text children) knows now =
      let tree = Node node.LocalSet spot name number text children in
      keeps-local (kind_of (child_at tree 0)) tree (knows_at here.program (names_of here.task.env) children 0 knows.1) now
  keeps-declares (Node kind spot name number text children) knows now = keeps_bound here item _ _ _ [] now room

  -- assignments
  keeps-assigns : (which : Setting) (place : Tree) (right : Result ℤ ℕ) (items : List Item) → Scoped here.program (items ++ here.task.todo) (names_of here.task.env) → Keeps here item (assigns here which place right items)
  keeps-assigns which place right items now =
      keeps_result here item (cell_of (scope_of here) place) _ (λ cell.
      keeps_result here item (new_number which (cell_at here.store.cells cell) right) _ (λ number. keeps_sets here item cell number items now room))

  keeps-makes : (kind : NodeKind) (tree : Tree) (items : List Item) → Scoped here.program (items ++ here.task.todo) (names_of here.task.env) → Keeps here item (makes_step kind here tree items)
  keeps-makes (node.Assign which) tree items now = keeps-assigns which (child_at tree 0) (value_here here (child_at tree 1)) items now
  keeps-makes (node.Bump which side) tree items now = keeps-assigns (setting_of which) (child_at tree 0) (Ok (pos 1)) items now
  keeps-makes other tree items now = keeps_on here item items now room

  keeps-init : (has : Bool) (tree : Tree) (items : List Item) → Scoped here.program (items ++ here.task.todo) (names_of here.task.env ++ (if has then name_of (child_at tree 0) ∷ [] else []))
      → Keeps here item (if has then begin_set_to_value here (child_at tree 0) (child_at tree 1) items else goes_on here items)
  keeps-init true tree items now = keeps-set-to-value (child_at tree 0) (child_at tree 1) items now
  keeps-init false tree items now = keeps_on here item items (subst (λ (names : List ℕ). Scoped here.program (items ++ here.task.todo) names) (append-nil (names_of here.task.env)) now) room

  keeps-first : (kind : NodeKind) (tree : Tree) (items : List Item) → Scoped here.program (items ++ here.task.todo) (names_of here.task.env ++ names_by_first kind tree) → Keeps here item (makes_first_step kind here tree items)
  keeps-first node.Init tree items now = keeps-init (has_child tree 0) tree items now
  keeps-first other tree items now =
      keeps-makes other tree items (subst (λ (names : List ℕ). Scoped here.program (items ++ here.task.todo) names) (append-nil (names_of here.task.env)) now)

-- statements
branch-scoped : (program : TreeView) (names : List ℕ) (zero has : Bool) (tree : Tree) (items : List Item) → KnowsEach program names (children_of tree) → Scoped program items names
    → Scoped program ((if zero then (if has then Start (child_at tree 2) ∷ [] else []) else Start (child_at tree 1) ∷ []) ++ items) names
unfolding Scoped
branch-scoped program names true true tree items knows now = (knows_at program names (children_of tree) 2 knows, now)
branch-scoped program names true false tree items knows now = now
branch-scoped program names false has tree items knows now = (knows_at program names (children_of tree) 1 knows, now)

again-scoped : (program : TreeView) (names : List ℕ) (over : Bool) (body tree : Tree) (items : List Item) → Knows program names body → Knows program names tree → Scoped program items names
    → Scoped program ((if over then [] else Start body ∷ Start tree ∷ []) ++ items) names
unfolding Scoped
again-scoped program names true body tree items knows also now = now
again-scoped program names false body tree items knows also now = (knows, (also, now))

loop-behind : (program : TreeView) (names : List ℕ) (children : Children) → KnowsLoop program names children → KnowsEach program (names ++ first_names (unwrap_or (at_place children 0) nothing)) (behind_first_part children)
unfolding KnowsLoop
loop-behind program names Over knows = tt
loop-behind program names (Absent rest) knows = subst (λ (names : List ℕ). KnowsEach program names rest) (sym (append-nil names)) knows
loop-behind program names (Child first rest) knows = knows.1

-- the work of a construct begins
begun : (here : StepStart) (item : Item) (construct : Tree) (codeptr : ℕ) (kind : Work) → tree_at_event item ≡ construct → IsOpenable (names_of here.task.env) construct
    → ((executes : Bool) → Scoped here.program (work_items kind construct (length here.task.env) executes ++ here.task.todo) (with_made (names_of here.task.env) construct)) → LeadsOn here item (WorkBegin codeptr kind)
begun here item construct codeptr kind is opens each =
    record {
      leads = λ executes.
          subst (λ (tree : Tree). Scoped here.program ((makes_cells tree ++ work_items kind tree (length here.task.env) executes) ++ here.task.todo) (names_of here.task.env)) (sym is)
          (subst (λ (items : List Item). Scoped here.program items (names_of here.task.env)) (sym (append_assoc (makes_cells construct) (work_items kind construct (length here.task.env) executes) here.task.todo))
          (making_scoped here.program construct (work_items kind construct (length here.task.env) executes ++ here.task.todo) (names_of here.task.env) opens (each executes)));
      creates = tt;
    }

around-made : (here : StepStart) (construct : Tree) → Scoped here.program here.task.todo (names_of here.task.env) → Scoped here.program here.task.todo (take (length here.task.env) (with_made (names_of here.task.env) construct))
around-made here construct now =
    subst (λ (names : List ℕ). Scoped here.program here.task.todo names)
    (sym (ap (λ (around : ℕ). take around (with_made (names_of here.task.env) construct)) (sym (names_length here.task.env)) ∙ made_take construct (names_of here.task.env))) now

shared-in : (shares : Bool) (names : List ℕ) (name : ℕ) → shares ≡ true → Contains (if shares then names ++ name ∷ [] else names) name
shared-in true names name is = Contains-push names name
shared-in false names name is = cc

keeps-loop : (here : StepStart) (item : Item) (construct : Tree) → tree_at_event item ≡ construct → is_loop construct ≡ true → KnowsConstruct here.program (names_of here.task.env) construct → Scoped here.program here.task.todo (names_of here.task.env) → Keeps here item (begin_loop here construct)
unfolding Scoped
keeps-loop here item construct is shares knows now =
    let variable = shared-in (is_loop construct) _ (name_of (loop_of construct).variable) shares in
    keeps_result here item (value_here here (loop_of construct).start) _ (λ start.
    keeps_result here item (value_here here (loop_of construct).end) _ (λ end.
    keeps_event here item _ construct (begun here item construct _ _ is knows.0 (λ executes. (
      record {
        variable = variable;
        body = knows_body here.program (with_shared (names_of here.task.env) construct) (with_made (names_of here.task.env) construct) construct (part_made construct (names_of here.task.env)) knows.1 variable;
        copies = made_copies construct (names_of here.task.env) (length here.task.env) (names_length here.task.env) knows.0;
      },
      around-made here construct now,
    )))))

keeps-sections : (here : StepStart) (item : Item) (construct : Tree) → tree_at_event item ≡ construct → KnowsConstruct here.program (names_of here.task.env) construct → Scoped here.program here.task.todo (names_of here.task.env) → Keeps here item (begin_sections construct)
unfolding Scoped
keeps-sections here item construct is knows now =
    keeps_event here item _ construct (begun here item construct _ _ is knows.0 (λ executes. (
      record {
        sections = knows_section here.program (with_made (names_of here.task.env) construct) construct
            (statements_more here.program (with_shared (names_of here.task.env) construct) (with_made (names_of here.task.env) construct) (part_made construct (names_of here.task.env)) (children_of construct) knows.1);
        copies = made_copies construct (names_of here.task.env) (length here.task.env) (names_length here.task.env) knows.0;
      },
      around-made here construct now,
    )))

single-scoped : (here : StepStart) (construct : Tree) (executes : Bool) → KnowsConstruct here.program (names_of here.task.env) construct → Scoped here.program here.task.todo (names_of here.task.env)
    → Scoped here.program (work_items work.Single construct (length here.task.env) executes ++ here.task.todo) (with_made (names_of here.task.env) construct)
unfolding Scoped
single-scoped here construct true knows now = (
  knows_statement here.program (with_made (names_of here.task.env) construct) construct
      (statements_more here.program (with_shared (names_of here.task.env) construct) (with_made (names_of here.task.env) construct) (part_made construct (names_of here.task.env)) (children_of construct) knows.1),
  around-made here construct now,
)
single-scoped here construct false knows now = around-made here construct now

-- constructs
module _ (here : StepStart) (construct : Tree) (is : tree_at_event (Start construct) ≡ construct) (now : Scoped here.program here.task.todo (names_of here.task.env)) where
  keeps-parallel : KnowsConstruct here.program (names_of here.task.env) construct → Keeps here (Start construct) (begin_parallel here construct)
  unfolding Scoped
  keeps-parallel knows =
      keeps_result here (Start construct) (value_or (pos here.view.max) here (requested_threads construct)) _ (λ number.
      keeps_event here (Start construct) _ construct (record {
        leads = λ executes. subst (λ (tree : Tree). Scoped here.program (Forked tree ∷ here.task.todo) (names_of here.task.env)) (sym is) (knows, now);
        creates = tt;
      }))

  keeps-masked : Knows here.program (names_of here.task.env) (construct_statement construct) → Keeps here (Start construct) (begin_masked construct)
  unfolding Scoped
  keeps-masked knows =
      keeps_event here (Start construct) _ construct (record {
        leads = λ executes. subst (λ (tree : Tree). Scoped here.program (Start (construct_statement tree) ∷ EndMasked tree ∷ here.task.todo) (names_of here.task.env)) (sym is) (knows, now);
        creates = tt;
      })

  keeps-critical : Knows here.program (names_of here.task.env) (construct_statement construct) → Keeps here (Start construct) (begin_critical here construct)
  unfolding Scoped
  keeps-critical knows =
      keeps_event here (Start construct) _ construct (record {
        leads = λ executes. subst (λ (tree : Tree). Knows here.program (names_of here.task.env) (construct_statement tree) × Scoped here.program here.task.todo (names_of here.task.env)) (sym is) (knows, now);
        creates = tt;
      })

  keeps-task : IsOpenable (names_of here.task.env) construct → Knows here.program (names_of here.task.env) (construct_statement construct) → Keeps here (Start construct) (begin_task here construct)
  keeps-task opens knows =
      keeps_result here (Start construct) (value_or (pos 1) here (condition_of construct)) _ (λ number.
      keeps_choice here (Start construct) _ _ _ (keeps_limit here (Start construct) _)
      (keeps_event here (Start construct) _ construct (record { leads = λ executes. now; creates = (opens, knows) })))

  keeps-single : KnowsConstruct here.program (names_of here.task.env) construct → Keeps here (Start construct) (begin_single construct)
  keeps-single knows =
      keeps_event here (Start construct) _ construct (begun here (Start construct) construct _ _ is knows.0 (λ executes. single-scoped here construct executes knows now))

stage-scoped : (program : TreeView) (tree : Tree) (kind : SyncKind) (at : SyncStage) (items : List Item) (names : List ℕ) → Scoped program items names → Scoped program (next_stage tree kind at ++ items) names
unfolding Scoped
stage-scoped program tree kind stage.RegionBegin items names now = now
stage-scoped program tree kind stage.WaitBegin items names now = now
stage-scoped program tree kind stage.WaitEnd items names now = now
stage-scoped program tree kind stage.RegionEnd items names now = now

keeps-standalone : (which : Standalone) (here : StepStart) (tree : Tree) → Scoped here.program here.task.todo (names_of here.task.env) → Keeps here (Start tree) (begin_standalone which tree)
unfolding Scoped
keeps-standalone standalone.Barrier here tree now = keeps_event here (Start tree) _ tree (record { leads = λ executes. now; creates = tt })
keeps-standalone standalone.Taskwait here tree now = keeps_event here (Start tree) _ tree (record { leads = λ executes. now; creates = tt })

keeps-lock : (which : LockCall) (here : StepStart) (tree : Tree) → Scoped here.program here.task.todo (names_of here.task.env) → Keeps here (Start tree) (begin_lock_call which here tree)
unfolding Scoped
keeps-lock lock.Init here tree now = keeps_event here (Start tree) _ tree (record { leads = λ executes. now; creates = tt })
keeps-lock lock.Destroy here tree now = keeps_event here (Start tree) _ tree (record { leads = λ executes. now; creates = tt })
keeps-lock lock.Set here tree now = keeps_event here (Start tree) _ tree (record { leads = λ executes. now; creates = tt })
keeps-lock lock.Unset here tree now = keeps_event here (Start tree) _ tree (record { leads = λ executes. now; creates = tt })

-- a statement begins
keeps-block : (here : StepStart) (tree : Tree) → IsRoomFor here (Start tree) → KnowsInOrder here.program part_names (names_of here.task.env) (children_of tree) → Keeps here (Start tree) (begin_block here tree)
keeps-block here tree room knows =
    let names : List ℕ = names_of here.task.env in
    keeps_on here (Start tree) (items_of_parts (flat_declarations (parts tree)) ++ Leave (length here.task.env) ∷ [])
    (subst (λ (items : List Item). Scoped here.program items names) (sym (append_assoc (items_of_parts (flat_declarations (parts tree))) (Leave (length here.task.env) ∷ []) here.task.todo))
    (block_scoped here.program (children_of tree) (Leave (length here.task.env) ∷ here.task.todo) names knows
    (leave_scoped here.program here.task.todo names (length here.task.env) (names_length here.task.env) room.now.1)))
    room

keeps-for : (here : StepStart) (tree : Tree) → IsRoomFor here (Start tree) → KnowsLoop here.program (names_of here.task.env) (children_of tree) → Keeps here (Start tree) (begin_for here tree)
unfolding Scoped
keeps-for here tree room knows =
    keeps-first here (Start tree) room (kind_of (child_at tree 0)) (child_at tree 0) (Test tree (length here.task.env) ∷ []) (
      loop-behind here.program (names_of here.task.env) (children_of tree) knows,
      subst (λ (names : List ℕ). Scoped here.program here.task.todo names) (sym (take_at (names_of here.task.env) (first_names (child_at tree 0)) (length here.task.env) (names_length here.task.env))) room.now.1,
    )

keeps-statement : (here : StepStart) (tree : Tree) → IsRoomFor here (Start tree) → Keeps here (Start tree) (begin_statement (kind_of tree) here tree)
unfolding Knows
keeps-statement here (Node node.Block spot name number text children) room = keeps-block here (Node node.Block spot name number text children) room room.now.0
keeps-statement here (Node node.If spot name number text children) room =
    let tree = Node node.If spot name number text children in
    keeps_result here (Start tree) (value_here here (child_at tree 0)) _ (λ value.
    keeps_on here (Start tree) (branch_taken tree value) (branch-scoped here.program (names_of here.task.env) (is_zero value) (has_child tree 2) tree here.task.todo room.now.0.1 room.now.1) room)
keeps-statement here (Node node.While spot name number text children) room =
    let tree = Node node.While spot name number text children in
    keeps_result here (Start tree) (value_here here (child_at tree 0)) _ (λ value.
    keeps_on here (Start tree) (if is_zero value then [] else Start (child_at tree 1) ∷ Start tree ∷ [])
    (again-scoped here.program (names_of here.task.env) (is_zero value) (child_at tree 1) tree here.task.todo (knows_at here.program (names_of here.task.env) children 1 room.now.0.1) room.now.0 room.now.1) room)
keeps-statement here (Node node.For spot name number text children) room = keeps-for here (Node node.For spot name number text children) room room.now.0
keeps-statement here (Node node.Return spot name number text children) room =
    let tree = Node node.Return spot name number text children in
    keeps_return here (Start tree) room (kind_of (child_at tree 0)) (child_at tree 0) room.now.1 (λ codeptr id. room.now.1)
keeps-statement here (Node node.SetCall spot name number text children) room =
    let tree = Node node.SetCall spot name number text children in
    keeps_result here (Start tree) (cell_of (scope_of here) (child_at tree 0)) _ (λ cell.
    keeps_right here (Start tree) room (kind_of (child_at tree 1)) (child_at tree 1) here.task.env (target.Cell cell) room.now.1 (λ codeptr id. room.now.1))
keeps-statement here (Node node.Step spot name number text children) room =
    let tree = Node node.Step spot name number text children in
    keeps-makes here (Start tree) room (kind_of (child_at tree 0)) (child_at tree 0) [] room.now.1
keeps-statement here (Node node.Called spot name number text children) room =
    let tree = Node node.Called spot name number text children in
    keeps_right here (Start tree) room (kind_of (child_at tree 0)) (child_at tree 0) here.task.env target.Nowhere room.now.1 (λ codeptr id. room.now.1)
keeps-statement here (Node node.Print spot name number text children) room =
    let tree = Node node.Print spot name number text children in
    keeps_result here (Start tree) (all_values (scope_of here) (parts tree)) _ (λ numbers. keeps_unless here (Start tree) _ _ _ (record { now = room.now.1; calls = room.calls }))
keeps-statement here (Node (node.LockCall which) spot name number text children) room = keeps-lock which here (Node (node.LockCall which) spot name number text children) room.now.1
keeps-statement here (Node (node.Standalone which) spot name number text children) room = keeps-standalone which here (Node (node.Standalone which) spot name number text children) room.now.1
keeps-statement here (Node (node.Construct directive.Parallel) spot name number text children) room = keeps-parallel here (Node (node.Construct directive.Parallel) spot name number text children) refl room.now.1 room.now.0
keeps-statement here (Node (node.Construct directive.ParallelFor) spot name number text children) room = keeps-parallel here (Node (node.Construct directive.ParallelFor) spot name number text children) refl room.now.1 room.now.0
keeps-statement here (Node (node.Construct directive.ParallelSections) spot name number text children) room = keeps-parallel here (Node (node.Construct directive.ParallelSections) spot name number text children) refl room.now.1 room.now.0
keeps-statement here (Node (node.Construct directive.For) spot name number text children) room =
    let tree = Node (node.Construct directive.For) spot name number text children in keeps-loop here (Start tree) tree refl refl room.now.0 room.now.1
keeps-statement here (Node (node.Construct directive.Sections) spot name number text children) room =
    let tree = Node (node.Construct directive.Sections) spot name number text children in keeps-sections here (Start tree) tree refl room.now.0 room.now.1
keeps-statement here (Node (node.Construct directive.Single) spot name number text children) room = keeps-single here (Node (node.Construct directive.Single) spot name number text children) refl room.now.1 room.now.0
keeps-statement here (Node (node.Construct directive.Masked) spot name number text children) room =
    let tree = Node (node.Construct directive.Masked) spot name number text children in
    keeps-masked here tree refl room.now.1 (knows_statement here.program (names_of here.task.env) tree room.now.0.1)
keeps-statement here (Node (node.Construct directive.Master) spot name number text children) room =
    let tree = Node (node.Construct directive.Master) spot name number text children in
    keeps-masked here tree refl room.now.1 (knows_statement here.program (names_of here.task.env) tree room.now.0.1)
keeps-statement here (Node (node.Construct directive.Critical) spot name number text children) room =
    let tree = Node (node.Construct directive.Critical) spot name number text children in
    keeps-critical here tree refl room.now.1 (knows_statement here.program (names_of here.task.env) tree room.now.0.1)
keeps-statement here (Node (node.Construct directive.Task) spot name number text children) room =
    let tree = Node (node.Construct directive.Task) spot name number text children in
    keeps-task here tree refl room.now.1 room.now.0.0 (knows_statement here.program (names_of here.task.env) tree room.now.0.1)
keeps-statement here (Node kind spot name number text children) room = keeps_on here (Start (Node kind spot name number text children)) [] room.now.1 room

-- the parts of a plain loop
keeps-test : (here : StepStart) (tree : Tree) (stay : ℕ) → IsRoomFor here (Test tree stay) → Keeps here (Test tree stay) (test_for here tree stay)
unfolding Scoped
keeps-test here tree stay room =
    keeps_result here (Test tree stay) (test_value here tree) _ (λ number.
    keeps_choice here (Test tree stay) (is_zero number) (goes_on_with here stay []) (goes_on here (Start (child_at tree 3) ∷ Third tree stay ∷ []))
    (keeps_with here (Test tree stay) stay room.now.1 room)
    (keeps_on here (Test tree stay) (Start (child_at tree 3) ∷ Third tree stay ∷ []) (knows_behind_first here.program (names_of here.task.env) (children_of tree) 2 room.now.0, room.now) room))

keeps-inside : (here : StepStart) (construct : Tree) → IsRoomFor here (Inside construct) → Keeps here (Inside construct) (begin_inside (kind_of construct) here construct)
keeps-inside here (Node (node.Construct directive.ParallelFor) spot name number text children) room =
    let tree = Node (node.Construct directive.ParallelFor) spot name number text children in keeps-loop here (Inside tree) tree refl refl room.now.0 room.now.1
keeps-inside here (Node (node.Construct directive.ParallelSections) spot name number text children) room =
    let tree = Node (node.Construct directive.ParallelSections) spot name number text children in keeps-sections here (Inside tree) tree refl room.now.0 room.now.1
keeps-inside here (Node kind spot name number text children) room = keeps_on here (Inside (Node kind spot name number text children)) [] room.now.1 room

barrier-scoped : (program : TreeView) (nowait : Bool) (construct : Tree) (items : List Item) (names : List ℕ) → Scoped program items names → Scoped program ((if nowait then [] else Sync construct sync.Worksharing stage.RegionBegin ∷ []) ++ items) names
unfolding Scoped
barrier-scoped program true construct items names now = now
barrier-scoped program false construct items names now = now

pub keeps_item : (item : Item) (here : StepStart) → IsRoomFor here item → Keeps here item (step_of item here)
unfolding Keeps Scoped
keeps_item (Start tree) here room = keeps-statement here tree room
keeps_item (Declare tree) here room = keeps-declares here (Declare tree) room tree room.now.0 room.now.1
keeps_item (Leave names) here room = keeps_with here (Leave names) names room.now room
keeps_item (Test tree names) here room = keeps-test here tree names room
keeps_item (Third tree names) here room =
    keeps-makes here (Third tree names) room (kind_of (child_at tree 2)) (child_at tree 2) (Test tree names ∷ []) room.now
keeps_item (Initialise tree entry) here room =
    let now = subst (λ (names : List ℕ). Scoped here.program here.task.todo names) (sym (names_push here.task.env entry)) room.now.1 in
    keeps_right here (Initialise tree entry) room (kind_of (child_at tree 0)) (child_at tree 0) (here.task.env ++ entry ∷ []) (target.Cell entry.first) now (λ codeptr id. now)
keeps_item (Return number) here room = keeps_returns here (Return number) room here.task.calls number room.calls
keeps_item FallOff here room = keeps_returns here FallOff room here.task.calls (pos 0) room.calls
keeps_item (Forked construct) here room = record { leads = λ executes. room.now.1; creates = tt }
keeps_item (Inside construct) here room = keeps-inside here construct room
keeps_item (MakeCells construct) here room =
    keeps_binds here (MakeCells construct) (with_own_cells here.program (bound_of here) construct) []
    (subst (λ (names : List ℕ). Scoped here.program here.task.todo names) (sym (own_names_made here.program (bound_of here) construct room.now.0.listed)) room.now.1) room
keeps_item (NextChunk loop) here room = tt
keeps_item (Iterations loop at upto) here room =
    keeps_sets here (Iterations loop at upto) (entry_of here.task.env (name_of (loop_of loop.construct).variable)).first (iteration_value loop.start loop.step at)
    (Start (loop_of loop.construct).body ∷ iterations_from loop (at + 1) upto ∷ [])
    (room.now.0.body, iterations_scoped here.program loop (at + 1) upto here.task.todo (names_of here.task.env) room.now.0 room.now.1) room
keeps_item (NextSection construct names) here room = tt
keeps_item (Combine operator name names) here room =
    keeps_result here (Combine operator name names) (reduction_result operator _ _) _ (λ number. keeps_sets here (Combine operator name names) (entry_of (take names here.task.env) name).first number [] room.now.2 room)
keeps_item (EndWork construct kind count names) here room =
    record {
      leads = λ executes. barrier-scoped here.program (has_nowait construct) construct here.task.todo (names_of (take names here.task.env))
          (subst (λ (known : List ℕ). Scoped here.program here.task.todo known) (take-map (λ (entry : Entry). entry.name) names here.task.env) room.now);
      creates = tt;
    }
keeps_item (EndMasked construct) here room = record { leads = λ executes. room.now; creates = tt }
keeps_item (Sync tree kind at) here room =
    record { leads = λ executes. stage-scoped here.program tree kind at here.task.todo (names_of here.task.env) room.now; creates = tt }
keeps_item (Acquire tree kind id) here room = record { leads = λ executes. room.now; creates = tt }
keeps_item (Release tree id) here room = record { leads = λ executes. room.now; creates = tt }
keeps_item (TestLock call id to) here room = tt
keeps_item (Tested to) here room = keeps_tested here (Tested to) room to room.now
