-- Each silent step leaves what is open and the code in order, and each event that a step comes to opens or ends the newest.
use Rattle.std.specs.Prelude.{ℕ, ◌+◌, ◌≡◌, if◌then◌else◌, Bool, true, false, IsTrue, List, [], ◌∷◌, ◌++◌, length, None, Result, Ok, ℤ, pos, refl}
use Rattle.std.proofs.Common.{ap, sym, ◌∙◌, append_assoc, subst}
use Rattle.c_syntax.specs.declared.node.Directive.{Directive}
use Rattle.c_syntax.specs.declared.node.Directive.TheVariants as directive
use Rattle.c_syntax.specs.declared.node.LockCall.{LockCall}
use Rattle.c_syntax.specs.declared.node.LockCall.TheVariants as lock
use Rattle.c_syntax.specs.declared.node.NodeKind.{NodeKind}
use Rattle.c_syntax.specs.declared.node.NodeKind.TheVariants as node
use Rattle.c_syntax.specs.declared.node.Setting.{Setting}
use Rattle.c_syntax.specs.declared.node.Standalone.{Standalone}
use Rattle.c_syntax.specs.declared.node.Standalone.TheVariants as standalone
use Rattle.c_syntax.specs.language.Tree.{Tree, children_of, kind_of, name_of}
use Rattle.c_syntax.specs.language.Tree.Tree.{Node}
use Rattle.c_check.specs.Loops.{child_at}
use Rattle.c_check.specs.Seen.{critical_number, slot_of_name}
use Rattle.c_model.specs.declared.point.Point.TheVariants.{WorkBegin}
use Rattle.c_model.specs.declared.point.SyncKind.{SyncKind}
use Rattle.c_model.specs.declared.point.SyncKind.TheVariants as sync
use Rattle.c_model.specs.declared.point.SyncStage.{SyncStage}
use Rattle.c_model.specs.declared.point.SyncStage.TheVariants as stage
use Rattle.c_model.specs.declared.point.Target.TheVariants as target
use Rattle.c_model.specs.declared.point.Work.{Work}
use Rattle.c_model.specs.declared.point.Work.TheVariants as work
use Rattle.c_model.specs.declared.point.WorkKind.TheVariants as work_kind
use Rattle.c_model.specs.Parts.{flat_declarations, has_child, parts}
use Rattle.c_model.specs.Cells.{cell_at, entry_of, with_cells, with_declarator}
use Rattle.c_model.specs.Value.{all_values, cell_of, is_zero}
use Rattle.c_model.specs.Calls.{begin_lock_call}
use Rattle.c_model.specs.Clauses.{condition_of, construct_statement, has_nowait, requested_threads}
use Rattle.c_model.specs.StepOutcomes.{bound_of, goes_on, goes_on_with, scope_of, value_here}
use Rattle.c_model.specs.Constructs.{begin_critical, begin_iteration, begin_loop, begin_masked, begin_parallel, begin_sections, begin_single, begin_task, iterations_from, reduction_result, value_or}
use Rattle.c_model.specs.Copies.{makes_cells, with_own_cells}
use Rattle.c_model.specs.AfterEvents.{next_stage, tree_at_event, work_items}
use Rattle.c_model.specs.Loops.{loop_of}
use Rattle.c_model.specs.Statements.{assigns, begin_block, begin_for, begin_local_set, begin_set_to_call, begin_set_to_value, branch_taken, declares, makes_first_step, makes_step, new_number, setting_of, test_for, test_value}
use Rattle.c_model.specs.Step.{begin_construct, begin_inside, begin_standalone, begin_statement, step_of}
use Rattle.c_model.specs.Task.{StepStart, Item, SharedLoop, items_of_parts}
use Rattle.c_model.specs.Task.Item.{Start, Declare, Leave, Test, Third, Initialise, Return, FallOff, Forked, Inside, MakeCells, NextChunk, Iterations, NextSection, Combine, EndWork, EndMasked, Sync, Acquire, Release, TestLock, Tested}
use Rattle.c_brackets.specs.Effects.{LeadsTo, effect_at, work_open}
use Rattle.c_brackets.specs.Links.{link_behind, link_item, link_next}
use Rattle.c_brackets.specs.Opened.{Open, open_calls, open_item, open_items}
use Rattle.c_brackets.specs.Opened.Open.{Works}
use Rattle.c_brackets.specs.Orderly.{AreBehind, AreInOrder, HasNoReturn, falls_off, is_fall_off}
use Rattle.c_brackets.specs.Returns.{ReturnOutsideEach, ReturnsOutside, has_return, has_return_among}
use Rattle.c_brackets.proofs.Adding.{block_added, iterations_added, making_added, start_kept}
use Rattle.c_brackets.proofs.OpenLists.{IsAdded, in_order, never, none_added, none_next}
use Rattle.c_brackets.proofs.ReturnTrees.{IsFree, body_free, proper_at, return_at, statement_free}
use Rattle.c_brackets.proofs.Turning.{IsRoom, LeadsOn, Turns, moves, plain_same, turns_binds, turns_choice, turns_event, turns_limit, turns_on, turns_result, turns_sets, turns_step, turns_unless, turns_with}
use Rattle.c_brackets.proofs.TurningCalls.{turns_return, turns_returns, turns_right, turns_tested}

-- one item without a return comes to stand before what remains
one-added : (tree : Tree) (items : List Item) → ReturnsOutside tree → (IsTrue (has_return tree) → open_items items ≡ []) → AreBehind items
    → IsAdded (Start tree ∷ items) items
unfolding AreBehind open_items falls_off
one-added tree items proper returns behind = record { behind = (refl, (proper, returns), behind); same = refl; falls = λ is. is }

-- declarators and assignments
module _ (here : StepStart) (item : Item) (room : IsRoom here item) (plain : open_item item ≡ []) (apart : is_fall_off item ≡ false) where
  remains : IsAdded here.task.todo here.task.todo
  remains = none_added here.task.todo room.behind

  turns-set-to-value : (named expression : Tree) (items : List Item) → IsAdded (items ++ here.task.todo) here.task.todo
      → Turns here item (begin_set_to_value here named expression items)
  turns-set-to-value named expression items added =
      turns_result here item (value_here here expression) _ (λ number. turns_binds here item room plain apart (with_cells (bound_of here) (name_of named) (slot_of_name here.program named) (number ∷ [])) items added)

  turns-set-to-call : (tree : Tree) → Turns here item (begin_set_to_call here tree)
  unfolding AreBehind open_items falls_off
  turns-set-to-call tree =
      turns_unless here item _ _ _ (moves here item room plain apart (Initialise tree _ ∷ here.task.todo) here.task.env _
      (record { behind = (refl, (tt, λ is. never is), room.behind); same = refl; falls = λ is. is }))

  turns-local : (kind : NodeKind) (tree : Tree) → Turns here item (begin_local_set kind here tree)
  turns-local node.Call tree = turns-set-to-call tree
  turns-local node.TestLock tree = turns-set-to-call tree
  turns-local other tree = turns-set-to-value tree (child_at tree 0) [] remains

  turns-declares : (kind : NodeKind) (tree : Tree) → Turns here item (declares kind here tree)
  turns-declares node.LocalSet tree = turns-local (kind_of (child_at tree 0)) tree
  turns-declares other tree = turns_binds here item room plain apart (with_declarator here.program (bound_of here) tree) [] remains

  turns-assigns : (which : Setting) (place : Tree) (right : Result ℤ ℕ) (items : List Item) → IsAdded (items ++ here.task.todo) here.task.todo
      → Turns here item (assigns here which place right items)
  turns-assigns which place right items added =
      turns_result here item (cell_of (scope_of here) place) _ (λ cell.
      turns_result here item (new_number which (cell_at here.store.cells cell) right) _ (λ number. turns_sets here item room plain apart cell number items added))

  turns-makes : (kind : NodeKind) (tree : Tree) (items : List Item) → IsAdded (items ++ here.task.todo) here.task.todo
      → Turns here item (makes_step kind here tree items)
  turns-makes (node.Assign which) tree items added = turns-assigns which (child_at tree 0) (value_here here (child_at tree 1)) items added
  turns-makes (node.Bump which side) tree items added = turns-assigns (setting_of which) (child_at tree 0) (Ok (pos 1)) items added
  turns-makes other tree items added = turns_on here item room plain apart items added

  turns-first : (kind : NodeKind) (tree : Tree) (items : List Item) → IsAdded (items ++ here.task.todo) here.task.todo
      → Turns here item (makes_first_step kind here tree items)
  turns-first node.Init tree items added =
      turns_choice here item (has_child tree 0) _ _ (turns-set-to-value (child_at tree 0) (child_at tree 1) items added) (turns_on here item room plain apart items added)
  turns-first other tree items added = turns-makes other tree items added

-- statements
branch-added : (zero has : Bool) (tree : Tree) (items : List Item) → ReturnOutsideEach (children_of tree)
    → (IsTrue (has_return_among (children_of tree)) → open_items items ≡ []) → AreBehind items
    → IsAdded ((if zero then (if has then Start (child_at tree 2) ∷ [] else []) else Start (child_at tree 1) ∷ []) ++ items) items
branch-added true true tree items proper returns behind =
    one-added (child_at tree 2) items (proper_at (children_of tree) 2 proper) (λ is. returns (return_at (children_of tree) 2 is)) behind
branch-added true false tree items proper returns behind = none_added items behind
branch-added false has tree items proper returns behind =
    one-added (child_at tree 1) items (proper_at (children_of tree) 1 proper) (λ is. returns (return_at (children_of tree) 1 is)) behind

again-added : (over : Bool) (body tree : Tree) (items : List Item) → ReturnsOutside body → (IsTrue (has_return body) → open_items items ≡ [])
    → IsAdded (Start tree ∷ items) items
    → IsAdded ((if over then [] else Start body ∷ Start tree ∷ []) ++ items) items
unfolding AreBehind open_items falls_off
again-added true body tree items proper returns again = record { behind = again.behind.2; same = refl; falls = λ is. is }
again-added false body tree items proper returns again = record { behind = (refl, (proper, returns), again.behind); same = refl; falls = λ is. is }

-- the work of a construct begins
record IsBegun (here : StepStart) (construct : Tree) (kind : Work) (executes : Bool) : Type 0 where
  behind : AreBehind (work_items kind construct (length here.task.env) executes ++ here.task.todo)
  same : open_items (work_items kind construct (length here.task.env) executes ++ here.task.todo) ≡ work_open kind executes ∷ open_items here.task.todo

begun : (here : StepStart) (item : Item) (construct : Tree) (codeptr : ℕ) (kind : Work) → IsRoom here item → open_item item ≡ [] → is_fall_off item ≡ false
    → link_item item ≡ None → tree_at_event item ≡ construct
    → ((executes : Bool) → IsBegun here construct kind executes) → LeadsOn here item (WorkBegin codeptr kind)
begun here item construct codeptr kind room plain apart linkless is each =
    let work = λ (executes : Bool). work_items kind construct (length here.task.env) executes ++ here.task.todo in
    let added = λ (executes : Bool). making_added construct (work executes) (work executes) (none_added (work executes) (each executes).behind) in
    let at = λ (executes : Bool). sym (append_assoc (makes_cells construct) (work_items kind construct (length here.task.env) executes) here.task.todo)
    ∙ ap (λ (tree : Tree). (makes_cells tree ++ work_items kind tree (length here.task.env) executes) ++ here.task.todo) (sym is) in
    record {
      apart = apart;
      effect = λ executes. sym (ap open_items (at executes)) ∙ (added executes).same ∙ (each executes).same
          ∙ ap (λ (opened : List Open). work_open kind executes ∷ opened) (sym (plain_same item here.task.todo plain));
      order = λ executes. subst (λ (items : List Item). AreInOrder items) (at executes) (in_order (makes_cells construct ++ work executes) (added executes).behind);
      follows = linkless;
      makes = λ executes. sym (ap link_next (at executes)) ∙ none_next (makes_cells construct ++ work executes) (added executes).behind;
      creates = tt;
    }

turns-loop : (here : StepStart) (item : Item) (construct : Tree) → IsRoom here item → open_item item ≡ [] → is_fall_off item ≡ false → link_item item ≡ None
    → tree_at_event item ≡ construct → HasNoReturn construct → Turns here item (begin_loop here construct)
unfolding AreBehind open_items
turns-loop here item construct room plain apart linkless is free =
    turns_result here item (value_here here (loop_of construct).start) _ (λ start.
    turns_result here item (value_here here (loop_of construct).end) _ (λ end.
    turns_event here item _ construct (begun here item construct _ _ room plain apart linkless is (λ executes. record { behind = (refl, (free, λ is. never is), room.behind); same = refl }))))

turns-sections : (here : StepStart) (item : Item) (construct : Tree) → IsRoom here item → open_item item ≡ [] → is_fall_off item ≡ false → link_item item ≡ None
    → tree_at_event item ≡ construct → HasNoReturn construct → Turns here item (begin_sections construct)
unfolding AreBehind open_items
turns-sections here item construct room plain apart linkless is free =
    turns_event here item _ construct (begun here item construct _ _ room plain apart linkless is (λ executes. record { behind = (refl, (free, λ is. never is), room.behind); same = refl }))

single-begun : (here : StepStart) (construct : Tree) (executes : Bool) → AreBehind here.task.todo → HasNoReturn construct
    → IsBegun here construct work.Single executes
unfolding AreBehind open_items
single-begun here construct true behind free =
    record { behind = (refl, start_kept (construct_statement construct) (EndWork construct work_kind.SingleExecutor 1 (length here.task.env) ∷ here.task.todo) (statement_free construct free), (refl, (tt, λ is. never is), behind)); same = refl }
single-begun here construct false behind free = record { behind = (refl, (tt, λ is. never is), behind); same = refl }

-- constructs
module _ (here : StepStart) (construct : Tree) (room : IsRoom here (Start construct)) (is : tree_at_event (Start construct) ≡ construct) (free : HasNoReturn construct) where
  turns-parallel : Turns here (Start construct) (begin_parallel here construct)
  unfolding AreInOrder open_items
  turns-parallel =
      turns_result here (Start construct) (value_or (pos here.view.max) here (requested_threads construct)) _ (λ number.
      turns_event here (Start construct) _ construct (record {
        apart = refl;
        effect = λ executes. refl;
        order = λ executes. ((subst (λ (tree : Tree). HasNoReturn tree) (sym is) free, λ is. never is), room.behind);
        follows = refl;
        makes = λ executes. refl;
        creates = tt;
      }))

  turns-masked : Turns here (Start construct) (begin_masked construct)
  unfolding AreInOrder AreBehind open_items
  turns-masked =
      turns_event here (Start construct) _ construct (record {
        apart = refl;
        effect = λ executes. refl;
        order = λ executes. (
          start_kept (construct_statement (tree_at_event (Start construct))) (EndMasked (tree_at_event (Start construct)) ∷ here.task.todo)
              (subst (λ (tree : Tree). IsFree (construct_statement tree)) (sym is) (statement_free construct free)),
          (refl, (tt, λ is. never is), room.behind),
        );
        follows = refl;
        makes = λ executes. refl;
        creates = tt;
      })

  turns-critical : Turns here (Start construct) (begin_critical here construct)
  unfolding AreInOrder AreBehind open_items
  turns-critical =
      turns_event here (Start construct) _ construct (record {
        apart = refl;
        effect = λ executes. refl;
        order = λ executes. (
          (tt, λ is. never is),
          (
            refl,
            start_kept (construct_statement (tree_at_event (Start construct))) (Release (tree_at_event (Start construct)) (critical_number here.program construct) ∷ here.task.todo)
                (subst (λ (tree : Tree). IsFree (construct_statement tree)) (sym is) (statement_free construct free)),
            (refl, (tt, λ is. never is), room.behind),
          ),
        );
        follows = refl;
        makes = λ executes. refl;
        creates = tt;
      })

  turns-task : Turns here (Start construct) (begin_task here construct)
  unfolding open_items
  turns-task =
      turns_result here (Start construct) (value_or (pos 1) here (condition_of construct)) _ (λ number.
      turns_choice here (Start construct) _ _ _ (turns_limit here (Start construct) _)
      (turns_event here (Start construct) _ construct (record {
        apart = refl;
        effect = λ executes. refl;
        order = λ executes. in_order here.task.todo room.behind;
        follows = refl;
        makes = λ executes. none_next here.task.todo room.behind;
        creates = statement_free construct free;
      })))

  turns-single : Turns here (Start construct) (begin_single construct)
  turns-single =
      turns_event here (Start construct) _ construct (begun here (Start construct) construct _ _ room refl refl refl is (λ executes. single-begun here construct executes room.behind free))

stage-leads : (tree at : Tree) (kind : SyncKind) (stage : SyncStage) (items : List Item) → AreBehind items
    → LeadsTo (effect_at kind stage) (open_items (Sync tree kind stage ∷ items)) (open_items (next_stage at kind stage ++ items)) × AreInOrder (next_stage at kind stage ++ items) × (link_next (next_stage at kind stage ++ items) ≡ link_behind kind stage)
unfolding AreInOrder open_items
stage-leads tree at kind stage.RegionBegin items behind = (refl, ((tt, λ is. never is), behind), refl)
stage-leads tree at kind stage.WaitBegin items behind = (refl, ((tt, λ is. never is), behind), refl)
stage-leads tree at kind stage.WaitEnd items behind = (refl, ((tt, λ is. never is), behind), refl)
stage-leads tree at kind stage.RegionEnd items behind = (refl, in_order items behind, none_next items behind)

turns-standalone : (which : Standalone) (here : StepStart) (tree : Tree) → AreBehind here.task.todo → Turns here (Start tree) (begin_standalone which tree)
unfolding AreInOrder open_items
turns-standalone standalone.Barrier here tree behind =
    turns_event here (Start tree) _ tree (record { apart = refl; effect = λ executes. refl; order = λ executes. ((tt, λ is. never is), behind); follows = refl; makes = λ executes. refl; creates = tt })
turns-standalone standalone.Taskwait here tree behind =
    turns_event here (Start tree) _ tree (record { apart = refl; effect = λ executes. refl; order = λ executes. ((tt, λ is. never is), behind); follows = refl; makes = λ executes. refl; creates = tt })

turns-lock : (which : LockCall) (here : StepStart) (tree : Tree) → AreBehind here.task.todo → Turns here (Start tree) (begin_lock_call which here tree)
unfolding AreInOrder open_items
turns-lock lock.Init here tree behind =
    turns_event here (Start tree) _ tree (record { apart = refl; effect = λ executes. refl; order = λ executes. in_order here.task.todo behind; follows = refl; makes = λ executes. none_next here.task.todo behind; creates = tt })
turns-lock lock.Destroy here tree behind =
    turns_event here (Start tree) _ tree (record { apart = refl; effect = λ executes. refl; order = λ executes. in_order here.task.todo behind; follows = refl; makes = λ executes. none_next here.task.todo behind; creates = tt })
turns-lock lock.Set here tree behind =
    turns_event here (Start tree) _ tree (record { apart = refl; effect = λ executes. refl; order = λ executes. ((tt, λ is. never is), behind); follows = refl; makes = λ executes. refl; creates = tt })
turns-lock lock.Unset here tree behind =
    turns_event here (Start tree) _ tree (record { apart = refl; effect = λ executes. refl; order = λ executes. in_order here.task.todo behind; follows = refl; makes = λ executes. none_next here.task.todo behind; creates = tt })

-- a statement begins
turns-block : (here : StepStart) (tree : Tree) → IsRoom here (Start tree) → ReturnOutsideEach (children_of tree)
    → (IsTrue (has_return_among (children_of tree)) → open_items here.task.todo ≡ []) → Turns here (Start tree) (begin_block here tree)
unfolding AreBehind open_items falls_off
turns-block here tree room proper returns =
    turns_on here (Start tree) room refl refl (items_of_parts (flat_declarations (parts tree)) ++ Leave (length here.task.env) ∷ [])
    (subst (λ (items : List Item). IsAdded items here.task.todo) (sym (append_assoc (items_of_parts (flat_declarations (parts tree))) (Leave (length here.task.env) ∷ []) here.task.todo))
    (block_added (children_of tree) (Leave (length here.task.env) ∷ here.task.todo) here.task.todo proper returns
    (record { behind = (refl, (tt, λ is. never is), room.behind); same = refl; falls = λ is. is })))

turns-for : (here : StepStart) (tree : Tree) → IsRoom here (Start tree) → ReturnOutsideEach (children_of tree)
    → (IsTrue (has_return_among (children_of tree)) → open_items here.task.todo ≡ []) → Turns here (Start tree) (begin_for here tree)
unfolding AreBehind open_items falls_off
turns-for here tree room proper returns =
    turns-first here (Start tree) room refl refl (kind_of (child_at tree 0)) (child_at tree 0) (Test tree (length here.task.env) ∷ [])
    (record {
      behind = (refl, (proper_at (children_of tree) 3 proper, λ is. returns (return_at (children_of tree) 3 is)), room.behind);
      same = refl;
      falls = λ is. is;
    })

turns-construct : (which : Directive) (here : StepStart) (construct : Tree) → IsRoom here (Start construct) → tree_at_event (Start construct) ≡ construct
    → HasNoReturn construct → Turns here (Start construct) (begin_construct which here construct)
turns-construct directive.Parallel here construct room is free = turns-parallel here construct room is free
turns-construct directive.For here construct room is free = turns-loop here (Start construct) construct room refl refl refl is free
turns-construct directive.Sections here construct room is free = turns-sections here (Start construct) construct room refl refl refl is free
turns-construct directive.Single here construct room is free = turns-single here construct room is free
turns-construct directive.ParallelFor here construct room is free = turns-parallel here construct room is free
turns-construct directive.ParallelSections here construct room is free = turns-parallel here construct room is free
turns-construct directive.Masked here construct room is free = turns-masked here construct room is free
turns-construct directive.Master here construct room is free = turns-masked here construct room is free
turns-construct directive.Critical here construct room is free = turns-critical here construct room is free
turns-construct directive.Task here construct room is free = turns-task here construct room is free

turns-statement : (here : StepStart) (tree : Tree) → IsRoom here (Start tree) → Turns here (Start tree) (begin_statement (kind_of tree) here tree)
unfolding ReturnsOutside has_return
turns-statement here (Node node.Block spot name number text children) room =
    turns-block here (Node node.Block spot name number text children) room room.now.0 room.now.1
turns-statement here (Node node.If spot name number text children) room =
    let tree = Node node.If spot name number text children in
    turns_result here (Start tree) (value_here here (child_at tree 0)) _ (λ value.
    turns_on here (Start tree) room refl refl (branch_taken tree value) (branch-added (is_zero value) (has_child tree 2) tree here.task.todo room.now.0 room.now.1 room.behind))
turns-statement here (Node node.While spot name number text children) room =
    let tree = Node node.While spot name number text children in
    turns_result here (Start tree) (value_here here (child_at tree 0)) _ (λ value.
    turns_on here (Start tree) room refl refl (if is_zero value then [] else Start (child_at tree 1) ∷ Start tree ∷ [])
    (again-added (is_zero value) (child_at tree 1) tree here.task.todo (proper_at children 1 room.now.0) (λ is. room.now.1 (return_at children 1 is))
    (one-added tree here.task.todo room.now.0 room.now.1 room.behind)))
turns-statement here (Node node.For spot name number text children) room =
    turns-for here (Node node.For spot name number text children) room room.now.0 room.now.1
turns-statement here (Node node.Return spot name number text children) room =
    let tree = Node node.Return spot name number text children in
    turns_return here (Start tree) room refl refl refl (kind_of (child_at tree 0)) (child_at tree 0) (room.now.1 refl)
turns-statement here (Node node.SetCall spot name number text children) room =
    let tree = Node node.SetCall spot name number text children in
    turns_result here (Start tree) (cell_of (scope_of here) (child_at tree 0)) _ (λ cell.
    turns_right here (Start tree) room refl refl refl (kind_of (child_at tree 1)) (child_at tree 1) here.task.env (target.Cell cell) (λ is. never is))
turns-statement here (Node node.Step spot name number text children) room =
    let tree = Node node.Step spot name number text children in
    turns-makes here (Start tree) room refl refl (kind_of (child_at tree 0)) (child_at tree 0) [] (none_added here.task.todo room.behind)
turns-statement here (Node node.Called spot name number text children) room =
    let tree = Node node.Called spot name number text children in
    turns_right here (Start tree) room refl refl refl (kind_of (child_at tree 0)) (child_at tree 0) here.task.env target.Nowhere (λ is. never is)
turns-statement here (Node node.Print spot name number text children) room =
    let tree = Node node.Print spot name number text children in
    turns_result here (Start tree) (all_values (scope_of here) (parts tree)) _ (λ numbers.
    turns_unless here (Start tree) _ _ _ (moves here (Start tree) room refl refl here.task.todo here.task.env _ (none_added here.task.todo room.behind)))
turns-statement here (Node (node.LockCall which) spot name number text children) room =
    turns-lock which here (Node (node.LockCall which) spot name number text children) room.behind
turns-statement here (Node (node.Standalone which) spot name number text children) room =
    turns-standalone which here (Node (node.Standalone which) spot name number text children) room.behind
turns-statement here (Node (node.Construct which) spot name number text children) room =
    turns-construct which here (Node (node.Construct which) spot name number text children) room refl room.now.0
turns-statement here (Node kind spot name number text children) room =
    turns_on here (Start (Node kind spot name number text children)) room refl refl [] (none_added here.task.todo room.behind)

-- the parts of a plain loop
turns-test : (here : StepStart) (tree : Tree) (stay : ℕ) → IsRoom here (Test tree stay) → Turns here (Test tree stay) (test_for here tree stay)
unfolding AreBehind open_items falls_off
turns-test here tree stay room =
    turns_result here (Test tree stay) (test_value here tree) _ (λ number.
    turns_choice here (Test tree stay) (is_zero number) (goes_on_with here stay []) (goes_on here (Start (child_at tree 3) ∷ Third tree stay ∷ []))
    (turns_with here (Test tree stay) room refl refl stay [] (none_added here.task.todo room.behind))
    (turns_on here (Test tree stay) room refl refl (Start (child_at tree 3) ∷ Third tree stay ∷ [])
    (record { behind = (refl, room.now, (refl, room.now, room.behind)); same = refl; falls = λ is. is })))

turns-third : (here : StepStart) (tree : Tree) (stay : ℕ) → IsRoom here (Third tree stay)
    → Turns here (Third tree stay) (makes_step (kind_of (child_at tree 2)) here (child_at tree 2) (Test tree stay ∷ []))
unfolding AreBehind open_items falls_off
turns-third here tree stay room =
    turns-makes here (Third tree stay) room refl refl (kind_of (child_at tree 2)) (child_at tree 2) (Test tree stay ∷ [])
    (record { behind = (refl, room.now, room.behind); same = refl; falls = λ is. is })

turns-inside : (here : StepStart) (construct : Tree) → IsRoom here (Inside construct)
    → Turns here (Inside construct) (begin_inside (kind_of construct) here construct)
turns-inside here (Node (node.Construct directive.ParallelFor) spot name number text children) room =
    let tree = Node (node.Construct directive.ParallelFor) spot name number text children in turns-loop here (Inside tree) tree room refl refl refl refl room.now.0
turns-inside here (Node (node.Construct directive.ParallelSections) spot name number text children) room =
    let tree = Node (node.Construct directive.ParallelSections) spot name number text children in turns-sections here (Inside tree) tree room refl refl refl refl room.now.0
turns-inside here (Node kind spot name number text children) room =
    turns_on here (Inside (Node kind spot name number text children)) room refl refl [] (none_added here.task.todo room.behind)

-- an iteration
turns-iteration : (here : StepStart) (loop : SharedLoop) (at upto : ℕ) → IsRoom here (Iterations loop at upto)
    → Turns here (Iterations loop at upto) (begin_iteration here loop at upto)
unfolding AreInOrder AreBehind open_items falls_off
turns-iteration here loop at upto room =
    let more = iterations_added loop (at + 1) upto here.task.todo room.now.0 room.behind in
    turns_step here (Iterations loop at upto) _ (record {
      is = record {
        now = (start_kept (loop_of loop.construct).body (iterations_from loop (at + 1) upto ∷ here.task.todo) (body_free loop.construct room.now.0), more.behind);
        framed = λ has. more.falls (room.framed has);
        calls = room.calls;
      };
      behind = (refl, start_kept (loop_of loop.construct).body (iterations_from loop (at + 1) upto ∷ here.task.todo) (body_free loop.construct room.now.0), more.behind);
      same = ap (λ (opened : List Open). opened ++ open_calls here.task.calls) more.same;
    })

barrier-leads : (nowait : Bool) (construct : Tree) (items : List Item) → AreBehind items
    → (open_items ((if nowait then [] else Sync construct sync.Worksharing stage.RegionBegin ∷ []) ++ items) ≡ open_items items)
    × AreInOrder ((if nowait then [] else Sync construct sync.Worksharing stage.RegionBegin ∷ []) ++ items)
    × (link_next ((if nowait then [] else Sync construct sync.Worksharing stage.RegionBegin ∷ []) ++ items) ≡ None)
unfolding AreInOrder open_items
barrier-leads true construct items behind = (refl, in_order items behind, none_next items behind)
barrier-leads false construct items behind = (refl, ((tt, λ is. never is), behind), refl)

pub turns_item : (item : Item) (here : StepStart) → IsRoom here item → Turns here item (step_of item here)
unfolding Turns open_items
turns_item (Start tree) here room = turns-statement here tree room
turns_item (Declare tree) here room = turns-declares here (Declare tree) room refl refl (kind_of tree) tree
turns_item (Leave names) here room = turns_with here (Leave names) room refl refl names [] (none_added here.task.todo room.behind)
turns_item (Test tree names) here room = turns-test here tree names room
turns_item (Third tree names) here room = turns-third here tree names room
turns_item (Initialise tree entry) here room =
    turns_right here (Initialise tree entry) room refl refl refl (kind_of (child_at tree 0)) (child_at tree 0) (here.task.env ++ entry ∷ []) (target.Cell entry.first) (λ is. never is)
turns_item (Return number) here room = turns_returns here (Return number) room refl here.task.calls number refl (room.now.1 refl) room.calls
turns_item FallOff here room = turns_returns here FallOff room refl here.task.calls (pos 0) refl (room.now.1 refl) room.calls
turns_item (Forked construct) here room =
    record { apart = refl; effect = λ executes. refl; order = λ executes. in_order here.task.todo room.behind; follows = refl; makes = λ executes. none_next here.task.todo room.behind; creates = tt }
turns_item (Inside construct) here room = turns-inside here construct room
turns_item (MakeCells construct) here room =
    turns_binds here (MakeCells construct) room refl refl (with_own_cells here.program (bound_of here) construct) [] (none_added here.task.todo room.behind)
turns_item (NextChunk loop) here room = tt
turns_item (Iterations loop at upto) here room = turns-iteration here loop at upto room
turns_item (NextSection construct names) here room = tt
turns_item (Combine operator name names) here room =
    turns_result here (Combine operator name names) (reduction_result operator _ _) _ (λ number.
    turns_sets here (Combine operator name names) room refl refl (entry_of _ name).first number [] (none_added here.task.todo room.behind))
turns_item (EndWork construct kind count names) here room =
    let leads = barrier-leads (has_nowait construct) construct here.task.todo room.behind in
    record {
      apart = refl;
      effect = λ executes. ap (λ (opened : List Open). Works kind count ∷ opened) (sym leads.0);
      order = λ executes. leads.1;
      follows = refl;
      makes = λ executes. leads.2;
      creates = tt;
    }
turns_item (EndMasked construct) here room =
    record { apart = refl; effect = λ executes. refl; order = λ executes. in_order here.task.todo room.behind; follows = refl; makes = λ executes. none_next here.task.todo room.behind; creates = tt }
turns_item (Sync tree kind at) here room =
    let leads = stage-leads tree tree kind at here.task.todo room.behind in
    record { apart = refl; effect = λ executes. leads.0; order = λ executes. leads.1; follows = refl; makes = λ executes. leads.2; creates = tt }
turns_item (Acquire tree kind id) here room =
    record { apart = refl; effect = λ executes. refl; order = λ executes. in_order here.task.todo room.behind; follows = refl; makes = λ executes. none_next here.task.todo room.behind; creates = tt }
turns_item (Release tree id) here room =
    record { apart = refl; effect = λ executes. refl; order = λ executes. in_order here.task.todo room.behind; follows = refl; makes = λ executes. none_next here.task.todo room.behind; creates = tt }
turns_item (TestLock call id to) here room = tt
turns_item (Tested to) here room = turns_tested here (Tested to) room refl refl refl to room.now.1
