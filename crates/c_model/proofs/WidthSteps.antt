-- No silent step leads beyond the width.
use Rattle.std.specs.Prelude.{ℕ, ◌+◌, ◌≤◌, ◌≡◌, min, if◌then◌else◌, Bool, true, false, List, [], ◌∷◌, ◌++◌, length, Result, Ok, ℤ, pos, refl}
use Rattle.std.specs.List.{All}
use Rattle.std.proofs.Common.{arith, subst}
use Rattle.std.proofs.lemmas.List.{append_assoc}
use Rattle.c_syntax.specs.declared.node.Directive.TheVariants as directive
use Rattle.c_syntax.specs.declared.node.ReductionOp.{ReductionOp}
use Rattle.c_syntax.specs.declared.node.Setting.{Setting}
use Rattle.c_syntax.specs.declared.node.NodeKind.{NodeKind}
use Rattle.c_syntax.specs.declared.node.NodeKind.TheVariants as node
use Rattle.c_syntax.specs.language.Tree.{Tree, kind_of, name_of}
use Rattle.c_syntax.specs.language.Numbered.{TreeView}
use Rattle.c_check.specs.Loops.{child_at}
use Rattle.c_check.specs.Seen.{slot_of_name}
use Rattle.c_model.specs.declared.entry.Entry.{Entry}
use Rattle.c_model.specs.declared.point.Target.TheVariants as target
use Rattle.c_model.specs.declared.view.View.{View}
use Rattle.c_model.specs.Parts.{flat_declarations, has_child, parts}
use Rattle.c_model.specs.Cells.{cell_at}
use Rattle.c_model.specs.Value.{all_values, cell_of, is_zero}
use Rattle.c_model.specs.StepOutcomes.{bound_of, goes_on, goes_on_with, scope_of, value_here}
use Rattle.c_model.specs.Calls.{begin_initialise, begin_lock_call, begin_set_call}
use Rattle.c_model.specs.Copies.{with_own_cells}
use Rattle.c_model.specs.Constructs.{begin_iteration, begin_loop, begin_sections, combine, iterations_from, make_cells, reduction_result}
use Rattle.c_model.specs.Loops.{loop_of}
use Rattle.c_model.specs.Statements.{assigns, begin_block, begin_for, begin_if, begin_local_set, begin_print, begin_set_to_call, begin_set_to_value, begin_while, branch_taken, declares, makes_first_step, makes_step, new_number, setting_of, test_for, test_value, third_for}
use Rattle.c_model.specs.Task.{StepStart, Item, Moment, SharedLoop, items_of_parts}
use Rattle.c_model.specs.Task.Item.{Start, Declare, Leave, Test, Third, Initialise, Return, FallOff, Forked, Inside, MakeCells, NextChunk, Iterations, NextSection, Combine, EndWork, EndMasked, Sync, Acquire, Release, TestLock, Tested}
use Rattle.c_model.specs.Task.Outcome.{StepsTo}
use Rattle.c_model.specs.Step.{begin_construct, begin_inside, begin_standalone, begin_statement, items_from_next, settled_task, silent, step_at, step_of}
use Rattle.c_model.specs.Width.{IsCallWithin, IsWithin, most_names, own_names, width}
use Rattle.c_model.proofs.Standing.{fits-construct, fits-inside, fits-lock, fits-standalone}
use Rattle.c_model.proofs.WidthNames.{grows}
use Rattle.c_model.proofs.WidthSettled.{settled_is_within}
use Rattle.c_model.proofs.WidthTrees.{child_below, of_child, of_flat, of_parts, split_at, within}
use Rattle.c_model.proofs.WidthCells.{one_more, with_own_names}
use Rattle.c_model.proofs.WidthBlocks.{block_names, branch_names, iteration_names}
use Rattle.c_model.proofs.WidthCalls.{stays-return, stays-returns, stays-right, stays-tested}
use Rattle.c_model.proofs.WidthComing.{AreCallsWithin, IsEnough, IsRoomFor, StaysWithin, stays-binds, stays-bound, stays-choice, stays-event, stays-on, stays-result, stays-sets, stays-unless, stays-with}

-- declarators
stays-set-to-call : (here : StepStart) (tree : Tree) → IsEnough here [] (length here.task.env + 1) → AreCallsWithin here → StaysWithin here.program (begin_set_to_call here tree)
unfolding most_names
stays-set-to-call here tree enough calls = stays-unless here.program _ _ _ (record { now = enough; calls = calls })

stays-set-to-value : (here : StepStart) (named expression : Tree) (items : List Item) → IsEnough here items (length here.task.env + 1) → AreCallsWithin here → StaysWithin here.program (begin_set_to_value here named expression items)
stays-set-to-value here named expression items enough calls =
    stays-result here.program (value_here here expression) _ (λ number.
    stays-bound here (name_of named) (slot_of_name here.program named) (number ∷ []) items enough calls)

stays-local : (kind : NodeKind) (here : StepStart) (tree : Tree) → IsEnough here [] (length here.task.env + 1) → AreCallsWithin here → StaysWithin here.program (begin_local_set kind here tree)
stays-local node.Call here tree enough calls = stays-set-to-call here tree enough calls
stays-local node.TestLock here tree enough calls = stays-set-to-call here tree enough calls
stays-local other here tree enough calls = stays-set-to-value here tree (child_at tree 0) [] enough calls

stays-declares : (kind : NodeKind) (here : StepStart) (tree : Tree) → IsEnough here [] (length here.task.env + 1) → AreCallsWithin here → StaysWithin here.program (declares kind here tree)
stays-declares node.LocalSet here tree enough calls = stays-local (kind_of (child_at tree 0)) here tree enough calls
stays-declares other here tree enough calls = stays-bound here _ _ _ [] enough calls

-- assignments
stays-assigns : (here : StepStart) (which : Setting) (place : Tree) (right : Result ℤ ℕ) (items : List Item) → IsEnough here items (length here.task.env) → AreCallsWithin here → StaysWithin here.program (assigns here which place right items)
stays-assigns here which place right items enough calls =
    stays-result here.program (cell_of (scope_of here) place) _ (λ cell.
    stays-result here.program (new_number which (cell_at here.store.cells cell) right) _ (λ number. stays-sets here cell number items enough calls))

stays-makes : (kind : NodeKind) (here : StepStart) (tree : Tree) (items : List Item) → IsEnough here items (length here.task.env) → AreCallsWithin here → StaysWithin here.program (makes_step kind here tree items)
stays-makes (node.Assign which) here tree items enough calls = stays-assigns here which (child_at tree 0) (value_here here (child_at tree 1)) items enough calls
stays-makes (node.Bump which side) here tree items enough calls = stays-assigns here (setting_of which) (child_at tree 0) (Ok (pos 1)) items enough calls
stays-makes other here tree items enough calls = stays-on here items enough calls

-- what is enough for one name more is enough for those in scope
fewer-enough : (here : StepStart) (items : List Item) → IsEnough here items (length here.task.env + 1) → IsEnough here items (length here.task.env)
fewer-enough here items enough =
    omega (arith, enough, grows here.program (items ++ here.task.todo) (length here.task.env) (length here.task.env + 1) (omega arith))

stays-init : (has : Bool) (here : StepStart) (tree : Tree) (items : List Item) → IsEnough here items (length here.task.env + 1) → AreCallsWithin here → StaysWithin here.program (if has then begin_set_to_value here (child_at tree 0) (child_at tree 1) items else goes_on here items)
stays-init true here tree items enough calls = stays-set-to-value here (child_at tree 0) (child_at tree 1) items enough calls
stays-init false here tree items enough calls = stays-on here items (fewer-enough here items enough) calls

stays-first : (kind : NodeKind) (here : StepStart) (tree : Tree) (items : List Item) → IsEnough here items (length here.task.env + 1) → AreCallsWithin here → StaysWithin here.program (makes_first_step kind here tree items)
stays-first node.Init here tree items enough calls = stays-init (has_child tree 0) here tree items enough calls
stays-first other here tree items enough calls = stays-makes other here tree items (fewer-enough here items enough) calls

-- statements
rest-enough : (here : StepStart) (tree : Tree) → IsRoomFor here (Start tree) → IsEnough here [] (length here.task.env)
rest-enough here tree room = omega (arith, room.enough)

block-enough : (here : StepStart) (tree : Tree) → kind_of tree ≡ node.Block → IsRoomFor here (Start tree) → most_names here.program ((items_of_parts (flat_declarations (parts tree)) ++ Leave (length here.task.env) ∷ []) ++ here.task.todo) (length here.task.env) ≤ width here.program
block-enough here tree is room =
    rw (append_assoc (items_of_parts (flat_declarations (parts tree))) (Leave (length here.task.env) ∷ []) here.task.todo)
    (omega (
      arith,
      room.enough,
      split_at here.program tree node.Block is,
      block_names here.program (flat_declarations (parts tree)) here.task.todo (length here.task.env) (length here.task.env) (omega arith),
      of_flat here.program (parts tree),
      of_parts here.program tree,
    ))

while-enough : (here : StepStart) (tree : Tree) → IsRoomFor here (Start tree) → (over : Bool) → IsEnough here (if over then [] else Start (child_at tree 1) ∷ Start tree ∷ []) (length here.task.env)
unfolding most_names
while-enough here tree room true = omega (arith, room.enough)
while-enough here tree room false = omega (arith, room.enough, child_below here.program tree 1)

for-enough : (here : StepStart) (tree : Tree) → kind_of tree ≡ node.For → IsRoomFor here (Start tree) → IsEnough here (Test tree (length here.task.env) ∷ []) (length here.task.env + 1)
unfolding most_names
for-enough here tree is room =
    omega (
      arith,
      room.enough,
      split_at here.program tree node.For is,
      grows here.program here.task.todo (min (length here.task.env) (length here.task.env + 1)) (length here.task.env) (omega arith),
    )

test-enough : (here : StepStart) (tree : Tree) (names : ℕ) → IsRoomFor here (Test tree names) → IsEnough here (Start (child_at tree 3) ∷ Third tree names ∷ []) (length here.task.env)
unfolding most_names
test-enough here tree names room = omega (arith, room.enough, of_child here.program tree 3)

third-enough : (here : StepStart) (tree : Tree) (names : ℕ) → IsRoomFor here (Third tree names) → IsEnough here (Test tree names ∷ []) (length here.task.env)
unfolding most_names
third-enough here tree names room = room.enough

iteration-enough : (here : StepStart) (loop : SharedLoop) (at upto : ℕ) → IsRoomFor here (Iterations loop at upto) → IsEnough here (Start (loop_of loop.construct).body ∷ iterations_from loop (at + 1) upto ∷ []) (length here.task.env)
unfolding most_names
iteration-enough here loop at upto room =
    omega (arith, room.enough, iteration_names here.program loop (at + 1) upto here.task.todo (length here.task.env))

stays-block : (here : StepStart) (tree : Tree) → kind_of tree ≡ node.Block → IsRoomFor here (Start tree) → StaysWithin here.program (begin_block here tree)
stays-block here tree is room =
    stays-on here (items_of_parts (flat_declarations (parts tree)) ++ Leave (length here.task.env) ∷ []) (block-enough here tree is room) room.calls

stays-if : (here : StepStart) (tree : Tree) → IsRoomFor here (Start tree) → StaysWithin here.program (begin_if here tree)
stays-if here tree room =
    stays-result here.program (value_here here (child_at tree 0)) _ (λ number.
    stays-on here (branch_taken tree number)
    (omega (arith, room.enough, within here.program tree, branch_names here.program (is_zero number) (has_child tree 2) tree here.task.todo (length here.task.env)))
    room.calls)

-- a loop's body stands next, and then what comes behind it, or nothing
stays-while : (here : StepStart) (tree : Tree) → IsRoomFor here (Start tree) → StaysWithin here.program (begin_while here tree)
stays-while here tree room =
    stays-result here.program (value_here here (child_at tree 0)) _ (λ number.
    stays-on here (if is_zero number then [] else Start (child_at tree 1) ∷ Start tree ∷ []) (while-enough here tree room (is_zero number)) room.calls)

stays-for : (here : StepStart) (tree : Tree) → kind_of tree ≡ node.For → IsRoomFor here (Start tree) → StaysWithin here.program (begin_for here tree)
stays-for here tree is room =
    stays-first (kind_of (child_at tree 0)) here (child_at tree 0) (Test tree (length here.task.env) ∷ []) (for-enough here tree is room) room.calls

stays-print : (here : StepStart) (tree : Tree) → IsRoomFor here (Start tree) → StaysWithin here.program (begin_print here tree)
stays-print here tree room =
    stays-result here.program (all_values (scope_of here) (parts tree)) _ (λ numbers.
    stays-unless here.program _ _ _ (record { now = rest-enough here tree room; calls = room.calls }))

stays-set-call : (here : StepStart) (tree : Tree) → IsRoomFor here (Start tree) → StaysWithin here.program (begin_set_call here tree)
stays-set-call here tree room =
    stays-result here.program (cell_of (scope_of here) (child_at tree 0)) _ (λ cell.
    stays-right (kind_of (child_at tree 1)) here (child_at tree 1) here.task.env (target.Cell cell) (rest-enough here tree room) room.calls)

stays-statement : (kind : NodeKind) (here : StepStart) (tree : Tree) → kind_of tree ≡ kind → IsRoomFor here (Start tree) → StaysWithin here.program (begin_statement kind here tree)
stays-statement node.Block here tree is room = stays-block here tree is room
stays-statement node.If here tree is room = stays-if here tree room
stays-statement node.While here tree is room = stays-while here tree room
stays-statement node.For here tree is room = stays-for here tree is room
stays-statement node.Return here tree is room = stays-return (kind_of (child_at tree 0)) here (child_at tree 0) (rest-enough here tree room) room.calls
stays-statement node.SetCall here tree is room = stays-set-call here tree room
stays-statement node.Step here tree is room = stays-makes (kind_of (child_at tree 0)) here (child_at tree 0) [] (rest-enough here tree room) room.calls
stays-statement node.Called here tree is room = stays-right (kind_of (child_at tree 0)) here (child_at tree 0) here.task.env target.Nowhere (rest-enough here tree room) room.calls
stays-statement node.Print here tree is room = stays-print here tree room
stays-statement (node.LockCall which) here tree is room = stays-event here.program (begin_lock_call which here tree) (fits-lock which here tree)
stays-statement (node.Standalone which) here tree is room = stays-event here.program (begin_standalone which tree) (fits-standalone which tree)
stays-statement (node.Construct which) here tree is room = stays-event here.program (begin_construct which here tree) (fits-construct which here tree)
stays-statement other here tree is room = stays-on here [] (rest-enough here tree room) room.calls

-- the parts of a plain loop
stays-test : (here : StepStart) (tree : Tree) (names : ℕ) → IsRoomFor here (Test tree names) → StaysWithin here.program (test_for here tree names)
stays-test here tree names room =
    stays-result here.program (test_value here tree) _ (λ number.
    stays-choice here.program (is_zero number) (goes_on_with here names []) (goes_on here (Start (child_at tree 3) ∷ Third tree names ∷ []))
    (stays-with here names [] (omega (arith, room.enough)) room.calls)
    (stays-on here (Start (child_at tree 3) ∷ Third tree names ∷ []) (test-enough here tree names room) room.calls))

stays-third : (here : StepStart) (tree : Tree) (names : ℕ) → IsRoomFor here (Third tree names) → StaysWithin here.program (third_for here tree names)
stays-third here tree names room =
    stays-makes (kind_of (child_at tree 2)) here (child_at tree 2) (Test tree names ∷ []) (third-enough here tree names room) room.calls

-- constructs
stays-cells : (here : StepStart) (construct : Tree) → IsRoomFor here (MakeCells construct) → StaysWithin here.program (make_cells here construct)
stays-cells here construct room =
    stays-binds here (with_own_cells here.program (bound_of here) construct) []
    (omega (arith, room.enough, grows here.program here.task.todo (length (with_own_cells here.program (bound_of here) construct).env) (length here.task.env + own_names here.program (kind_of construct) construct) (with_own_names here.program (bound_of here) construct)))
    room.calls

stays-iteration : (here : StepStart) (loop : SharedLoop) (at upto : ℕ) → IsRoomFor here (Iterations loop at upto) → StaysWithin here.program (begin_iteration here loop at upto)
stays-iteration here loop at upto room =
    stays-sets here _ _ (Start (loop_of loop.construct).body ∷ iterations_from loop (at + 1) upto ∷ []) (iteration-enough here loop at upto room) room.calls

stays-combine : (here : StepStart) (operator : ReductionOp) (name names : ℕ) → IsRoomFor here (Combine operator name names) → StaysWithin here.program (combine here operator name names)
stays-combine here operator name names room =
    stays-result here.program (reduction_result operator _ _) _ (λ number. stays-sets here _ number [] room.enough room.calls)

stays-inside : (kind : NodeKind) (here : StepStart) (construct : Tree) → IsRoomFor here (Inside construct) → StaysWithin here.program (begin_inside kind here construct)
stays-inside (node.Construct directive.ParallelFor) here construct room =
    stays-event here.program (begin_loop here construct) (fits-inside (node.Construct directive.ParallelFor) here construct)
stays-inside (node.Construct directive.ParallelSections) here construct room =
    stays-event here.program (begin_sections construct) (fits-inside (node.Construct directive.ParallelSections) here construct)
stays-inside other here construct room = stays-on here [] (omega (arith, room.enough)) room.calls

stays-initialise : (here : StepStart) (tree : Tree) (entry : Entry) → IsRoomFor here (Initialise tree entry) → StaysWithin here.program (begin_initialise here tree entry)
stays-initialise here tree entry room =
    stays-right (kind_of (child_at tree 0)) here (child_at tree 0) (here.task.env ++ entry ∷ []) (target.Cell entry.first) (rw (one_more here.task.env entry) room.enough) room.calls

stays-item : (item : Item) (here : StepStart) → IsRoomFor here item → StaysWithin here.program (step_of item here)
unfolding StaysWithin
stays-item (Start tree) here room = stays-statement (kind_of tree) here tree refl room
stays-item (Declare tree) here room = stays-declares (kind_of tree) here tree room.enough room.calls
stays-item (Leave names) here room = stays-with here names [] (omega (arith, room.enough)) room.calls
stays-item (Test tree names) here room = stays-test here tree names room
stays-item (Third tree names) here room = stays-third here tree names room
stays-item (Initialise tree entry) here room = stays-initialise here tree entry room
stays-item (Return number) here room = stays-returns here.task.calls here number room.enough room.calls room.calls
stays-item FallOff here room = stays-returns here.task.calls here (pos 0) room.enough room.calls room.calls
stays-item (Forked construct) here room = tt
stays-item (Inside construct) here room = stays-inside (kind_of construct) here construct room
stays-item (MakeCells construct) here room = stays-cells here construct room
stays-item (NextChunk loop) here room = tt
stays-item (Iterations loop at upto) here room = stays-iteration here loop at upto room
stays-item (NextSection construct names) here room = tt
stays-item (Combine operator name names) here room = stays-combine here operator name names room
stays-item (EndWork construct kind count names) here room = tt
stays-item (EndMasked construct) here room = tt
stays-item (Sync tree kind stage) here room = tt
stays-item (Acquire tree kind id) here room = tt
stays-item (Release tree id) here room = tt
stays-item (TestLock call id to) here room = tt
stays-item (Tested to) here room = stays-tested here to room.enough room.calls

-- the task as a whole
stays-next : (items : List Item) (program : TreeView) (view : View) (now : Moment) → most_names program items (length now.task.env) ≤ width program → All (IsCallWithin program) now.task.calls → StaysWithin program (step_at items program view now)
unfolding StaysWithin most_names
stays-next [] program view now enough calls = tt
stays-next (item ∷ items) program view now enough calls =
    stays-item item (record { program = program; view = view; task = record now.task { todo = items }; store = now.store })
    (record { enough = enough; calls = calls })

pub step_is_within : (program : TreeView) (view : View) (now next : Moment) → IsWithin program now.task → silent program view now ≡ StepsTo next → IsWithin program next.task
unfolding silent StaysWithin
step_is_within program view now next is steps =
    let settled : IsWithin program (settled_task view now.task) = settled_is_within program view now.task is in
    subst (StaysWithin program) steps (stays-next (items_from_next view now.task.todo) program view now settled.now settled.calls)
