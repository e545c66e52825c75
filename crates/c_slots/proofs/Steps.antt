-- Behind each silent step, and behind each event that a step comes to, what stands next stands where the slots in scope are.
use Rattle.std.specs.Prelude.{ℕ, ◌+◌, ◌≡◌, if◌then◌else◌, Bool, true, false, List, [], ◌∷◌, ◌++◌, length, slice_index_or, take, Result, Ok, ℤ, pos, refl}
use Rattle.std.proofs.Common.{sym, append-nil, append_assoc, subst}
use Rattle.std.proofs.lemmas.List.{take_at, take-map}
use Rattle.c_tokens.specs.declared.token.Spot.{Spot}
use Rattle.c_syntax.specs.declared.node.Directive.{Directive}
use Rattle.c_syntax.specs.declared.node.Directive.TheVariants as directive
use Rattle.c_syntax.specs.declared.node.LockCall.{LockCall}
use Rattle.c_syntax.specs.declared.node.LockCall.TheVariants as lock
use Rattle.c_syntax.specs.declared.node.NodeKind.{NodeKind}
use Rattle.c_syntax.specs.declared.node.NodeKind.TheVariants as node
use Rattle.c_syntax.specs.declared.node.Setting.{Setting}
use Rattle.c_syntax.specs.declared.node.Standalone.{Standalone}
use Rattle.c_syntax.specs.declared.node.Standalone.TheVariants as standalone
use Rattle.c_syntax.specs.language.Tree.{Children, kind_of, name_of, nothing, Tree}
use Rattle.c_syntax.specs.language.Tree.Tree.{Node}
use Rattle.c_syntax.specs.language.Numbered.{TreeView}
use Rattle.c_check.specs.Loops.{child_at}
use Rattle.c_check.specs.Seen.{slot_of_name}
use Rattle.c_model.specs.declared.entry.Entry.{Entry}
use Rattle.c_model.specs.declared.point.Point.TheVariants.{WorkBegin}
use Rattle.c_model.specs.declared.point.SyncKind.{SyncKind}
use Rattle.c_model.specs.declared.point.SyncKind.TheVariants as sync
use Rattle.c_model.specs.declared.point.SyncStage.{SyncStage}
use Rattle.c_model.specs.declared.point.SyncStage.TheVariants as stage
use Rattle.c_model.specs.declared.point.Target.TheVariants as target
use Rattle.c_model.specs.declared.point.Work.{Work}
use Rattle.c_model.specs.declared.point.Work.TheVariants as work
use Rattle.c_model.specs.Parts.{flat_declarations, has_child, parts}
use Rattle.c_model.specs.Cells.{cell_at, entry_of}
use Rattle.c_model.specs.Value.{all_values, cell_of, is_zero}
use Rattle.c_model.specs.Calls.{begin_lock_call}
use Rattle.c_model.specs.Clauses.{condition_of, construct_statement, has_nowait, requested_threads, sections_of}
use Rattle.c_model.specs.Formed.{IsFormed}
use Rattle.c_model.specs.StepOutcomes.{bound_of, goes_on, goes_on_with, scope_of, value_here}
use Rattle.c_model.specs.Constructs.{begin_loop, begin_sections, begin_critical, begin_masked, begin_parallel, begin_single, begin_task, iterations_from}
use Rattle.c_model.specs.Constructs.{reduction_result, value_or}
use Rattle.c_model.specs.Copies.{makes_cells, with_own_cells}
use Rattle.c_model.specs.AfterEvents.{next_stage, tree_at_event, work_items}
use Rattle.c_model.specs.Loops.{iteration_value, loop_of}
use Rattle.c_model.specs.Statements.{assigns, begin_block, begin_for, begin_local_set, begin_set_to_call, begin_set_to_value, branch_taken, declares}
use Rattle.c_model.specs.Statements.{makes_first_step, makes_step, new_number, setting_of, test_for, test_value}
use Rattle.c_model.specs.Step.{begin_construct, begin_inside, begin_standalone, begin_statement, step_of}
use Rattle.c_model.specs.Task.{StepStart, Item, items_of_parts}
use Rattle.c_model.specs.Task.Item.{Start, Declare, Leave, Test, Third, Initialise, Return, FallOff, Forked, Inside, MakeCells, NextChunk, Iterations}
use Rattle.c_model.specs.Task.Item.{NextSection, Combine, EndWork, EndMasked, Sync, Acquire, Release, TestLock, Tested}
use Rattle.c_model.specs.UsedCells.{slots_of}
use Rattle.c_slots.specs.Slotted.{HasLoopSlot, IsConstructPlaced, IsPlaced, Slotted}
use Rattle.c_slots.proofs.Parts.{body_placed, for_placed, first_slots, if_placed, sections_placed, slots_by_first, statement_placed, while_placed}
use Rattle.c_slots.proofs.Standing.{part_left, placed_wider}
use Rattle.c_slots.proofs.EntrySlots.{own_slots, slots_length, slots_push}
use Rattle.c_slots.proofs.Blocks.{block_slotted, iterations_slotted, leave_slotted, making_slotted}
use Rattle.c_slots.proofs.Outcomes.{IsRoomFor, Keeps, LeadsOn, keeps_binds, keeps_bound, keeps_choice, keeps_event, keeps_limit, keeps_on, keeps_result}
use Rattle.c_slots.proofs.Outcomes.{keeps_sets, keeps_unless, keeps_with}
use Rattle.c_slots.proofs.Calls.{keeps_return, keeps_returns, keeps_right, keeps_tested}

-- declarators
module _ (here : StepStart) (item : Item) (room : IsRoomFor here item) where
  keeps-set-to-value : (named expression : Tree) (items : List Item)
      → Slotted here.program (items ++ here.task.todo) (slots_of here.task.env ++ slot_of_name here.program named ∷ [])
      → Keeps here item (begin_set_to_value here named expression items)
  keeps-set-to-value named expression items now =
      keeps_result here item (value_here here expression) _
      (λ number. keeps_bound here item (name_of named) (slot_of_name here.program named) (number ∷ []) items now room)

  keeps-set-to-call : (tree : Tree) → Slotted here.program here.task.todo (slots_of here.task.env ++ slot_of_name here.program tree ∷ [])
      → Keeps here item (begin_set_to_call here tree)
  unfolding Slotted
  keeps-set-to-call tree now = keeps_unless here item _ _ _ (record { now = now; calls = room.calls })

  keeps-local : (kind : NodeKind) (tree : Tree) → Slotted here.program here.task.todo (slots_of here.task.env ++ slot_of_name here.program tree ∷ [])
      → Keeps here item (begin_local_set kind here tree)
  keeps-local node.Call tree now = keeps-set-to-call tree now
  keeps-local node.TestLock tree now = keeps-set-to-call tree now
  keeps-local other tree now = keeps-set-to-value tree (child_at tree 0) [] now

  keeps-declares : (tree : Tree) → Slotted here.program here.task.todo (slots_of here.task.env ++ slot_of_name here.program tree ∷ [])
      → Keeps here item (declares (kind_of tree) here tree)
  keeps-declares (Node node.LocalSet spot name number text children) now =
      let tree = Node node.LocalSet spot name number text children in keeps-local (kind_of (child_at tree 0)) tree now
  keeps-declares (Node kind spot name number text children) now = keeps_bound here item _ _ _ [] now room

  -- assignments
  keeps-assigns : (which : Setting) (place : Tree) (right : Result ℤ ℕ) (items : List Item)
      → Slotted here.program (items ++ here.task.todo) (slots_of here.task.env) → Keeps here item (assigns here which place right items)
  keeps-assigns which place right items now =
      keeps_result here item (cell_of (scope_of here) place) _ (λ cell.
      keeps_result here item (new_number which (cell_at here.store.cells cell) right) _ (λ number. keeps_sets here item cell number items now room))

  keeps-makes : (kind : NodeKind) (tree : Tree) (items : List Item) → Slotted here.program (items ++ here.task.todo) (slots_of here.task.env)
      → Keeps here item (makes_step kind here tree items)
  keeps-makes (node.Assign which) tree items now = keeps-assigns which (child_at tree 0) (value_here here (child_at tree 1)) items now
  keeps-makes (node.Bump which side) tree items now = keeps-assigns (setting_of which) (child_at tree 0) (Ok (pos 1)) items now
  keeps-makes other tree items now = keeps_on here item items now room

  keeps-init : (has : Bool) (tree : Tree) (items : List Item)
      → Slotted here.program (items ++ here.task.todo) (slots_of here.task.env ++ (if has then slot_of_name here.program (child_at tree 0) ∷ [] else []))
      → Keeps here item (if has then begin_set_to_value here (child_at tree 0) (child_at tree 1) items else goes_on here items)
  keeps-init true tree items now = keeps-set-to-value (child_at tree 0) (child_at tree 1) items now
  keeps-init false tree items now =
      keeps_on here item items (subst (λ (slots : List ℕ). Slotted here.program (items ++ here.task.todo) slots)
      (append-nil (slots_of here.task.env)) now) room

  keeps-first : (kind : NodeKind) (tree : Tree) (items : List Item)
      → Slotted here.program (items ++ here.task.todo) (slots_of here.task.env ++ slots_by_first here.program kind tree)
      → Keeps here item (makes_first_step kind here tree items)
  keeps-first node.Init tree items now = keeps-init (has_child tree 0) tree items now
  keeps-first other tree items now =
      keeps-makes other tree items (subst (λ (slots : List ℕ). Slotted here.program (items ++ here.task.todo) slots)
      (append-nil (slots_of here.task.env)) now)

-- statements
branch-slotted : (program : TreeView) (slots : List ℕ) (zero has : Bool) (tree : Tree) (items : List Item)
    → ((place : ℕ) → IsPlaced program slots (child_at tree place)) → Slotted program items slots
    → Slotted program ((if zero then (if has then Start (child_at tree 2) ∷ [] else []) else Start (child_at tree 1) ∷ []) ++ items) slots
unfolding Slotted
branch-slotted program slots true true tree items each now = (each 2, now)
branch-slotted program slots true false tree items each now = now
branch-slotted program slots false has tree items each now = (each 1, now)

again-slotted : (program : TreeView) (slots : List ℕ) (over : Bool) (body tree : Tree) (items : List Item) → IsPlaced program slots body
    → IsPlaced program slots tree → Slotted program items slots
    → Slotted program ((if over then [] else Start body ∷ Start tree ∷ []) ++ items) slots
unfolding Slotted
again-slotted program slots true body tree items is also now = now
again-slotted program slots false body tree items is also now = (is, (also, now))

-- the work of a construct begins
begun : (here : StepStart) (item : Item) (construct : Tree) (codeptr : ℕ) (kind : Work) → tree_at_event item ≡ construct
    → ((executes : Bool) (own : List ℕ) → HasLoopSlot here.program own construct
    → Slotted here.program (work_items kind construct (length here.task.env) executes ++ here.task.todo) (slots_of here.task.env ++ own))
    → LeadsOn here item (WorkBegin codeptr kind)
begun here item construct codeptr kind is each =
    record {
      leads = λ executes.
          subst (λ (tree : Tree). Slotted here.program ((makes_cells tree ++ work_items kind tree (length here.task.env) executes) ++ here.task.todo)
          (slots_of here.task.env)) (sym is)
          (subst (λ (items : List Item). Slotted here.program items (slots_of here.task.env))
          (sym (append_assoc (makes_cells construct) (work_items kind construct (length here.task.env) executes) here.task.todo))
          (making_slotted here.program construct (work_items kind construct (length here.task.env) executes ++ here.task.todo) (slots_of here.task.env)
          (each executes)));
      creates = tt;
    }

around-own : (here : StepStart) (own : List ℕ) → Slotted here.program here.task.todo (slots_of here.task.env)
    → Slotted here.program here.task.todo (take (length here.task.env) (slots_of here.task.env ++ own))
around-own here own now =
    subst (λ (slots : List ℕ). Slotted here.program here.task.todo slots)
    (sym (take_at (slots_of here.task.env) own (length here.task.env) (slots_length here.task.env))) now

keeps-loop : (here : StepStart) (item : Item) (construct : Tree) → tree_at_event item ≡ construct
    → ((own : List ℕ) → HasLoopSlot here.program own construct → IsPlaced here.program (slots_of here.task.env ++ own) (loop_of construct).body)
    → Slotted here.program here.task.todo (slots_of here.task.env) → Keeps here item (begin_loop here construct)
unfolding Slotted
keeps-loop here item construct is body now =
    keeps_result here item (value_here here (loop_of construct).start) _ (λ start.
    keeps_result here item (value_here here (loop_of construct).end) _ (λ end.
    keeps_event here item _ construct (begun here item construct _ _ is (λ executes own known. (body own known, around-own here own now)))))

keeps-sections : (here : StepStart) (item : Item) (construct : Tree) → tree_at_event item ≡ construct
    → ((section : ℕ) → IsPlaced here.program (slots_of here.task.env) (slice_index_or (sections_of construct) section nothing))
    → Slotted here.program here.task.todo (slots_of here.task.env) → Keeps here item (begin_sections construct)
unfolding Slotted
keeps-sections here item construct is sections now =
    keeps_event here item _ construct (begun here item construct _ _ is (λ executes own known. (
      (λ section. placed_wider here.program (slots_of here.task.env) (slots_of here.task.env ++ own) _ (part_left (slots_of here.task.env) own)
          (sections section)),
      around-own here own now,
    )))

single-slotted : (here : StepStart) (construct : Tree) (executes : Bool) (own : List ℕ)
    → IsPlaced here.program (slots_of here.task.env) (construct_statement construct) → Slotted here.program here.task.todo (slots_of here.task.env)
    → Slotted here.program (work_items work.Single construct (length here.task.env) executes ++ here.task.todo) (slots_of here.task.env ++ own)
unfolding Slotted
single-slotted here construct true own is now = (
  placed_wider here.program (slots_of here.task.env) (slots_of here.task.env ++ own) (construct_statement construct)
      (part_left (slots_of here.task.env) own) is,
  around-own here own now,
)
single-slotted here construct false own is now = around-own here own now

-- constructs
module _ (here : StepStart) (construct : Tree) (is : tree_at_event (Start construct) ≡ construct)
    (now : Slotted here.program here.task.todo (slots_of here.task.env)) where
  keeps-parallel : IsConstructPlaced here.program (slots_of here.task.env) construct → Keeps here (Start construct) (begin_parallel here construct)
  unfolding Slotted
  keeps-parallel stands =
      keeps_result here (Start construct) (value_or (pos here.view.max) here (requested_threads construct)) _ (λ number.
      keeps_event here (Start construct) _ construct (record {
        leads = λ executes. subst (λ (tree : Tree). Slotted here.program (Forked tree ∷ here.task.todo) (slots_of here.task.env)) (sym is) (stands, now);
        creates = tt;
      }))

  keeps-masked : IsPlaced here.program (slots_of here.task.env) (construct_statement construct) → Keeps here (Start construct) (begin_masked construct)
  unfolding Slotted
  keeps-masked stands =
      keeps_event here (Start construct) _ construct (record {
        leads = λ executes. subst (λ (tree : Tree). Slotted here.program (Start (construct_statement tree) ∷ EndMasked tree ∷ here.task.todo)
            (slots_of here.task.env)) (sym is) (stands, now);
        creates = tt;
      })

  keeps-critical : IsPlaced here.program (slots_of here.task.env) (construct_statement construct)
      → Keeps here (Start construct) (begin_critical here construct)
  unfolding Slotted
  keeps-critical stands =
      keeps_event here (Start construct) _ construct (record {
        leads = λ executes. subst (λ (tree : Tree). IsPlaced here.program (slots_of here.task.env)
            (construct_statement tree) × Slotted here.program here.task.todo (slots_of here.task.env)) (sym is) (stands, now);
        creates = tt;
      })

  keeps-task : IsPlaced here.program (slots_of here.task.env) (construct_statement construct) → Keeps here (Start construct) (begin_task here construct)
  keeps-task stands =
      keeps_result here (Start construct) (value_or (pos 1) here (condition_of construct)) _ (λ number.
      keeps_choice here (Start construct) _ _ _ (keeps_limit here (Start construct) _)
      (keeps_event here (Start construct) _ construct (record { leads = λ executes. now; creates = stands })))

  keeps-single : IsPlaced here.program (slots_of here.task.env) (construct_statement construct) → Keeps here (Start construct) (begin_single construct)
  keeps-single stands =
      keeps_event here (Start construct) _ construct
      (begun here (Start construct) construct _ _ is (λ executes own known. single-slotted here construct executes own stands now))

stage-slotted : (program : TreeView) (tree : Tree) (kind : SyncKind) (at : SyncStage) (items : List Item) (slots : List ℕ) → Slotted program items slots
    → Slotted program (next_stage tree kind at ++ items) slots
unfolding Slotted
stage-slotted program tree kind stage.RegionBegin items slots now = now
stage-slotted program tree kind stage.WaitBegin items slots now = now
stage-slotted program tree kind stage.WaitEnd items slots now = now
stage-slotted program tree kind stage.RegionEnd items slots now = now

keeps-standalone : (which : Standalone) (here : StepStart) (tree : Tree) → Slotted here.program here.task.todo (slots_of here.task.env)
    → Keeps here (Start tree) (begin_standalone which tree)
unfolding Slotted
keeps-standalone standalone.Barrier here tree now = keeps_event here (Start tree) _ tree (record { leads = λ executes. now; creates = tt })
keeps-standalone standalone.Taskwait here tree now = keeps_event here (Start tree) _ tree (record { leads = λ executes. now; creates = tt })

keeps-lock : (which : LockCall) (here : StepStart) (tree : Tree) → Slotted here.program here.task.todo (slots_of here.task.env)
    → Keeps here (Start tree) (begin_lock_call which here tree)
unfolding Slotted
keeps-lock lock.Init here tree now = keeps_event here (Start tree) _ tree (record { leads = λ executes. now; creates = tt })
keeps-lock lock.Destroy here tree now = keeps_event here (Start tree) _ tree (record { leads = λ executes. now; creates = tt })
keeps-lock lock.Set here tree now = keeps_event here (Start tree) _ tree (record { leads = λ executes. now; creates = tt })
keeps-lock lock.Unset here tree now = keeps_event here (Start tree) _ tree (record { leads = λ executes. now; creates = tt })

-- a statement begins
keeps-block : (here : StepStart) (spot : Spot) (name number : ℕ) (text : List ℕ) (children : Children)
    → IsRoomFor here (Start (Node node.Block spot name number text children))
    → Keeps here (Start (Node node.Block spot name number text children)) (begin_block here (Node node.Block spot name number text children))
unfolding IsFormed
keeps-block here spot name number text children room =
    let slots : List ℕ = slots_of here.task.env in
    let tree = Node node.Block spot name number text children in
    keeps_on here (Start tree) (items_of_parts (flat_declarations (parts tree)) ++ Leave (length here.task.env) ∷ [])
    (subst (λ (items : List Item). Slotted here.program items slots)
    (sym (append_assoc (items_of_parts (flat_declarations (parts tree))) (Leave (length here.task.env) ∷ []) here.task.todo))
    (block_slotted here.program room.program.places children
    (Leave (length here.task.env) ∷ here.task.todo) slots room.now.0.formed.0 room.now.0.formed.1 room.now.0.stands
    (leave_slotted here.program here.task.todo slots (length here.task.env) (slots_length here.task.env) room.now.1)))
    room

keeps-for : (here : StepStart) (spot : Spot) (name number : ℕ) (text : List ℕ) (children : Children)
    → IsRoomFor here (Start (Node node.For spot name number text children))
    → Keeps here (Start (Node node.For spot name number text children)) (begin_for here (Node node.For spot name number text children))
unfolding Slotted
keeps-for here spot name number text children room =
    let tree = Node node.For spot name number text children in
    keeps-first here (Start tree) room (kind_of (child_at tree 0)) (child_at tree 0) (Test tree (length here.task.env) ∷ []) (
      for_placed here.program room.program.places (slots_of here.task.env) spot name number text children room.now.0,
      subst (λ (slots : List ℕ). Slotted here.program here.task.todo slots)
          (sym (take_at (slots_of here.task.env) (first_slots here.program (child_at tree 0)) (length here.task.env) (slots_length here.task.env))) room.now.1,
    )

keeps-construct : (which : Directive) (here : StepStart) (spot : Spot) (name number : ℕ) (text : List ℕ) (children : Children)
    → IsRoomFor here (Start (Node (node.Construct which) spot name number text children))
    → Keeps here (Start (Node (node.Construct which) spot name number text children))
    (begin_construct which here (Node (node.Construct which) spot name number text children))
keeps-construct directive.Parallel here spot name number text children room =
    keeps-parallel here (Node (node.Construct directive.Parallel) spot name number text children) refl room.now.1
    (room.now.0, statement_placed here.program (slots_of here.task.env) directive.Parallel spot name number text children room.now.0)
keeps-construct directive.ParallelFor here spot name number text children room =
    keeps-parallel here (Node (node.Construct directive.ParallelFor) spot name number text children) refl room.now.1
    (room.now.0, statement_placed here.program (slots_of here.task.env) directive.ParallelFor spot name number text children room.now.0)
keeps-construct directive.ParallelSections here spot name number text children room =
    keeps-parallel here (Node (node.Construct directive.ParallelSections) spot name number text children) refl room.now.1
    (room.now.0, statement_placed here.program (slots_of here.task.env) directive.ParallelSections spot name number text children room.now.0)
keeps-construct directive.For here spot name number text children room =
    let tree = Node (node.Construct directive.For) spot name number text children in
    keeps-loop here (Start tree) tree refl
    (λ own known. body_placed here.program
    (slots_of here.task.env) directive.For spot name number text children room.now.0 room.program.places own known) room.now.1
keeps-construct directive.Sections here spot name number text children room =
    let tree = Node (node.Construct directive.Sections) spot name number text children in
    keeps-sections here (Start tree) tree refl
    (sections_placed here.program (slots_of here.task.env) directive.Sections spot name number text children room.now.0) room.now.1
keeps-construct directive.Single here spot name number text children room =
    keeps-single here (Node (node.Construct directive.Single) spot name number text children) refl room.now.1
    (statement_placed here.program (slots_of here.task.env) directive.Single spot name number text children room.now.0)
keeps-construct directive.Masked here spot name number text children room =
    keeps-masked here (Node (node.Construct directive.Masked) spot name number text children) refl room.now.1
    (statement_placed here.program (slots_of here.task.env) directive.Masked spot name number text children room.now.0)
keeps-construct directive.Master here spot name number text children room =
    keeps-masked here (Node (node.Construct directive.Master) spot name number text children) refl room.now.1
    (statement_placed here.program (slots_of here.task.env) directive.Master spot name number text children room.now.0)
keeps-construct directive.Critical here spot name number text children room =
    keeps-critical here (Node (node.Construct directive.Critical) spot name number text children) refl room.now.1
    (statement_placed here.program (slots_of here.task.env) directive.Critical spot name number text children room.now.0)
keeps-construct directive.Task here spot name number text children room =
    keeps-task here (Node (node.Construct directive.Task) spot name number text children) refl room.now.1
    (statement_placed here.program (slots_of here.task.env) directive.Task spot name number text children room.now.0)

keeps-statement : (here : StepStart) (tree : Tree) → IsRoomFor here (Start tree) → Keeps here (Start tree) (begin_statement (kind_of tree) here tree)
keeps-statement here (Node node.Block spot name number text children) room = keeps-block here spot name number text children room
keeps-statement here (Node node.If spot name number text children) room =
    let tree = Node node.If spot name number text children in
    keeps_result here (Start tree) (value_here here (child_at tree 0)) _ (λ value.
    keeps_on here (Start tree) (branch_taken tree value)
    (branch-slotted here.program (slots_of here.task.env) (is_zero value) (has_child tree 2) tree here.task.todo
    (λ place. if_placed here.program (slots_of here.task.env) spot name number text children place room.now.0) room.now.1) room)
keeps-statement here (Node node.While spot name number text children) room =
    let tree = Node node.While spot name number text children in
    keeps_result here (Start tree) (value_here here (child_at tree 0)) _ (λ value.
    keeps_on here (Start tree) (if is_zero value then [] else Start (child_at tree 1) ∷ Start tree ∷ [])
    (again-slotted here.program (slots_of here.task.env) (is_zero value) (child_at tree 1) tree here.task.todo
    (while_placed here.program (slots_of here.task.env) spot name number text children 1 room.now.0) room.now.0 room.now.1) room)
keeps-statement here (Node node.For spot name number text children) room = keeps-for here spot name number text children room
keeps-statement here (Node node.Return spot name number text children) room =
    let tree = Node node.Return spot name number text children in
    keeps_return here (Start tree) room (kind_of (child_at tree 0)) (child_at tree 0) room.now.1 (λ codeptr id. room.now.1)
keeps-statement here (Node node.SetCall spot name number text children) room =
    let tree = Node node.SetCall spot name number text children in
    keeps_result here (Start tree) (cell_of (scope_of here) (child_at tree 0)) _ (λ cell.
    keeps_right here (Start tree) room (kind_of (child_at tree 1)) (child_at tree 1) here.task.env (target.Cell cell) room.now.1 (λ codeptr id. room.now.1))
keeps-statement here (Node node.Step spot name number text children) room =
    let tree = Node node.Step spot name number text children in
    keeps-makes here (Start tree) room (kind_of (child_at tree 0)) (child_at tree 0) [] room.now.1
keeps-statement here (Node node.Called spot name number text children) room =
    let tree = Node node.Called spot name number text children in
    keeps_right here (Start tree) room (kind_of (child_at tree 0)) (child_at tree 0) here.task.env target.Nowhere room.now.1 (λ codeptr id. room.now.1)
keeps-statement here (Node node.Print spot name number text children) room =
    let tree = Node node.Print spot name number text children in
    keeps_result here (Start tree) (all_values (scope_of here) (parts tree)) _
    (λ numbers. keeps_unless here (Start tree) _ _ _ (record { now = room.now.1; calls = room.calls }))
keeps-statement here (Node (node.LockCall which) spot name number text children) room =
    keeps-lock which here (Node (node.LockCall which) spot name number text children) room.now.1
keeps-statement here (Node (node.Standalone which) spot name number text children) room =
    keeps-standalone which here (Node (node.Standalone which) spot name number text children) room.now.1
keeps-statement here (Node (node.Construct which) spot name number text children) room = keeps-construct which here spot name number text children room
keeps-statement here (Node kind spot name number text children) room = keeps_on here (Start (Node kind spot name number text children)) [] room.now.1 room

-- the parts of a plain loop
keeps-test : (here : StepStart) (tree : Tree) (stay : ℕ) → IsRoomFor here (Test tree stay) → Keeps here (Test tree stay) (test_for here tree stay)
unfolding Slotted
keeps-test here tree stay room =
    keeps_result here (Test tree stay) (test_value here tree) _ (λ number.
    keeps_choice here (Test tree stay) (is_zero number) (goes_on_with here stay []) (goes_on here (Start (child_at tree 3) ∷ Third tree stay ∷ []))
    (keeps_with here (Test tree stay) stay room.now.1 room)
    (keeps_on here (Test tree stay) (Start (child_at tree 3) ∷ Third tree stay ∷ []) (room.now.0, room.now) room))

keeps-inside : (here : StepStart) (construct : Tree) → IsRoomFor here (Inside construct)
    → Keeps here (Inside construct) (begin_inside (kind_of construct) here construct)
keeps-inside here (Node (node.Construct directive.ParallelFor) spot name number text children) room =
    let tree = Node (node.Construct directive.ParallelFor) spot name number text children in
    keeps-loop here (Inside tree) tree refl
    (λ own known. body_placed here.program
    (slots_of here.task.env) directive.ParallelFor spot name number text children room.now.0 room.program.places own known) room.now.1
keeps-inside here (Node (node.Construct directive.ParallelSections) spot name number text children) room =
    let tree = Node (node.Construct directive.ParallelSections) spot name number text children in
    keeps-sections here (Inside tree) tree refl
    (sections_placed here.program (slots_of here.task.env) directive.ParallelSections spot name number text children room.now.0) room.now.1
keeps-inside here (Node kind spot name number text children) room = keeps_on here (Inside (Node kind spot name number text children)) [] room.now.1 room

barrier-slotted : (program : TreeView) (nowait : Bool) (construct : Tree) (items : List Item) (slots : List ℕ) → Slotted program items slots
    → Slotted program ((if nowait then [] else Sync construct sync.Worksharing stage.RegionBegin ∷ []) ++ items) slots
unfolding Slotted
barrier-slotted program true construct items slots now = now
barrier-slotted program false construct items slots now = now

pub keeps_item : (item : Item) (here : StepStart) → IsRoomFor here item → Keeps here item (step_of item here)
unfolding Keeps Slotted
keeps_item (Start tree) here room = keeps-statement here tree room
keeps_item (Declare tree) here room = keeps-declares here (Declare tree) room tree room.now
keeps_item (Leave names) here room = keeps_with here (Leave names) names room.now room
keeps_item (Test tree names) here room = keeps-test here tree names room
keeps_item (Third tree names) here room =
    keeps-makes here (Third tree names) room (kind_of (child_at tree 2)) (child_at tree 2) (Test tree names ∷ []) room.now
keeps_item (Initialise tree entry) here room =
    let now = subst (λ (slots : List ℕ). Slotted here.program here.task.todo slots) (sym (slots_push here.task.env entry)) room.now in
    keeps_right here (Initialise tree entry) room (kind_of (child_at tree 0)) (child_at tree 0) (here.task.env ++ entry ∷ []) (target.Cell entry.first) now
    (λ codeptr id. now)
keeps_item (Return number) here room = keeps_returns here (Return number) room here.task.calls number room.calls
keeps_item FallOff here room = keeps_returns here FallOff room here.task.calls (pos 0) room.calls
keeps_item (Forked construct) here room = record { leads = λ executes. room.now.1; creates = tt }
keeps_item (Inside construct) here room = keeps-inside here construct room
keeps_item (MakeCells construct) here room =
    keeps_binds here (MakeCells construct) (with_own_cells here.program (bound_of here) construct) []
    (own_slots here.program (λ (slots : List ℕ). Slotted here.program here.task.todo slots) (bound_of here) construct room.now) room
keeps_item (NextChunk loop) here room = tt
keeps_item (Iterations loop at upto) here room =
    keeps_sets here (Iterations loop at upto) (entry_of here.task.env (name_of (loop_of loop.construct).variable)).first
    (iteration_value loop.start loop.step at)
    (Start (loop_of loop.construct).body ∷ iterations_from loop (at + 1) upto ∷ [])
    (room.now.0, iterations_slotted here.program loop (at + 1) upto here.task.todo (slots_of here.task.env) room.now.0 room.now.1) room
keeps_item (NextSection construct names) here room = tt
keeps_item (Combine operator name names) here room =
    keeps_result here (Combine operator name names) (reduction_result operator _ _) _
    (λ number. keeps_sets here (Combine operator name names) (entry_of (take names here.task.env) name).first number [] room.now room)
keeps_item (EndWork construct kind count names) here room =
    record {
      leads = λ executes. barrier-slotted here.program (has_nowait construct) construct here.task.todo (slots_of (take names here.task.env))
          (subst (λ (known : List ℕ). Slotted here.program here.task.todo known) (take-map (λ (entry : Entry). entry.slot) names here.task.env) room.now);
      creates = tt;
    }
keeps_item (EndMasked construct) here room = record { leads = λ executes. room.now; creates = tt }
keeps_item (Sync tree kind at) here room =
    record { leads = λ executes. stage-slotted here.program tree kind at here.task.todo (slots_of here.task.env) room.now; creates = tt }
keeps_item (Acquire tree kind id) here room = record { leads = λ executes. room.now; creates = tt }
keeps_item (Release tree id) here room = record { leads = λ executes. room.now; creates = tt }
keeps_item (TestLock call id to) here room = tt
keeps_item (Tested to) here room = keeps_tested here (Tested to) room to room.now
