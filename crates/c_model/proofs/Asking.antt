-- What is asked, the item that stands next asks.
use Rattle.std.specs.Prelude.{ℕ, ◌≡◌, if◌then◌else◌, Bool, true, false, List, [], ◌∷◌, ◌++◌, length, Result, Ok, Err, refl, ℤ, pos}
use Rattle.std.proofs.Common.{subst}
use Rattle.c_syntax.specs.declared.node.Directive.{Directive}
use Rattle.c_syntax.specs.declared.node.Directive.TheVariants as directive
use Rattle.c_syntax.specs.declared.node.LockCall.{LockCall}
use Rattle.c_syntax.specs.declared.node.LockCall.TheVariants as lock
use Rattle.c_syntax.specs.declared.node.Standalone.{Standalone}
use Rattle.c_syntax.specs.declared.node.Standalone.TheVariants as standalone
use Rattle.c_syntax.specs.declared.node.NodeKind.{NodeKind}
use Rattle.c_syntax.specs.declared.node.NodeKind.TheVariants as node
use Rattle.c_syntax.specs.language.Tree.{Tree, kind_of}
use Rattle.c_syntax.specs.language.Numbered.{TreeView}
use Rattle.c_check.specs.Loops.{child_at}
use Rattle.c_model.specs.declared.entry.Entry.{Entry}
use Rattle.c_model.specs.declared.question.Answer.{Answer}
use Rattle.c_model.specs.declared.question.Ask.{Ask}
use Rattle.c_model.specs.declared.question.Ask.TheVariants as ask
use Rattle.c_model.specs.declared.point.Point.{Point}
use Rattle.c_model.specs.declared.point.Target.{Target}
use Rattle.c_model.specs.declared.point.Target.TheVariants as target
use Rattle.c_model.specs.declared.view.View.{View}
use Rattle.c_model.specs.Answers.{AnswersFirst, AnswersItem, IsChunkAnswer, IsLockAnswer, IsSectionAnswer}
use Rattle.c_model.specs.Cells.{Bound}
use Rattle.c_model.specs.Clauses.{sections_of}
use Rattle.c_model.specs.StepOutcomes.{binds, with_result}
use Rattle.c_model.specs.Calls.{begin_call, begin_right, begin_lock_call, begin_return_of, enters, returns_to}
use Rattle.c_model.specs.Statements.{begin_local_set, declares, makes_first_step, makes_step}
use Rattle.c_model.specs.Task.{StepStart, Item, Moment, OpenCall, Outcome, SharedLoop}
use Rattle.c_model.specs.Task.Item.{Start, Declare, Leave, Test, Third, Initialise, Return, FallOff, Forked, Inside, MakeCells, NextChunk, Iterations, NextSection, Combine, EndWork, EndMasked, Sync, Acquire, Release, TestLock, Tested}
use Rattle.c_model.specs.Task.Outcome.{StepsTo, Asks, Occurs, Ends, Traps, Limits}
use Rattle.c_model.specs.Step.{begin_construct, begin_inside, begin_standalone, begin_statement, items_from_next, settled_task, silent, step_at, step_of}
use Rattle.c_model.specs.Occurring.{IsAskOf, IsAskOfNext}

-- nothing is asked
unfoldable AsksNothing : Outcome → Type 0
AsksNothing (Asks ask tree) = ⊥
AsksNothing other = Unit {0}

no-step : (next : Moment) → AsksNothing (StepsTo next)
unfolding AsksNothing
no-step next = tt

no-event : (point : Point) (tree : Tree) → AsksNothing (Occurs point tree)
unfolding AsksNothing
no-event point tree = tt

no-end : (number : ℤ) → AsksNothing (Ends number)
unfolding AsksNothing
no-end number = tt

no-limit : (limit : ℕ) → AsksNothing (Limits limit)
unfolding AsksNothing
no-limit limit = tt

no-result : {A : Type 0} (result : Result A ℕ) (next : A → Outcome) → ((a : A) → AsksNothing (next a)) → AsksNothing (with_result result next)
unfolding AsksNothing
no-result (Ok a) next each = each a
no-result (Err trap) next each = tt

no-either : (choice : Bool) (one other : Outcome) → AsksNothing one → AsksNothing other → AsksNothing (if choice then one else other)
no-either true one other first second = first
no-either false one other first second = second

no-returns : (calls : List OpenCall) (here : StepStart) (number : ℤ) → AsksNothing (returns_to calls here number)
no-returns [] here number = no-step _
no-returns (call ∷ calls) here number = no-step _

no-binds : (here : StepStart) (bound : Bound) (items : List Item) → AsksNothing (binds here bound items)
no-binds here bound items = search (no-either, no-limit, no-step)

no-enters : (here : StepStart) (function : Tree) (call : OpenCall) (bound : Bound) → AsksNothing (enters here function call bound)
no-enters here function call bound = search (no-either, no-limit, no-step)

no-call : (here : StepStart) (call : Tree) (env : List Entry) (to : Target) → AsksNothing (begin_call here call env to)
no-call here call env to = search (no-result, no-enters)

no-right : (kind : NodeKind) (here : StepStart) (call : Tree) (env : List Entry) (to : Target) → AsksNothing (begin_right kind here call env to)
no-right node.TestLock here call env to = no-event _ _
no-right other here call env to = no-call here call env to

ruleset no-question = (no-step, no-event, no-end, no-limit, no-result, no-either, no-binds, no-call, no-right, no-returns)

no-step-of : (kind : NodeKind) (here : StepStart) (tree : Tree) (items : List Item) → AsksNothing (makes_step kind here tree items)
no-step-of (node.Assign which) here tree items = search no-question
no-step-of (node.Bump which side) here tree items = search no-question
no-step-of other here tree items = no-step _

no-first-step : (kind : NodeKind) (here : StepStart) (tree : Tree) (items : List Item) → AsksNothing (makes_first_step kind here tree items)
no-first-step node.Init here tree items = search no-question
no-first-step other here tree items = no-step-of other here tree items

no-return : (kind : NodeKind) (here : StepStart) (tree : Tree) → AsksNothing (begin_return_of kind here tree)
no-return node.Call here tree = no-call here tree here.task.env target.Return
no-return node.TestLock here tree = no-event _ _
no-return other here tree = search no-question

no-lock : (which : LockCall) (here : StepStart) (tree : Tree) → AsksNothing (begin_lock_call which here tree)
no-lock lock.Init here tree = no-event _ _
no-lock lock.Destroy here tree = no-event _ _
no-lock lock.Set here tree = no-event _ _
no-lock lock.Unset here tree = no-event _ _

no-local : (kind : NodeKind) (here : StepStart) (tree : Tree) → AsksNothing (begin_local_set kind here tree)
no-local node.Call here tree = search no-question
no-local node.TestLock here tree = search no-question
no-local other here tree = search no-question

no-declares : (kind : NodeKind) (here : StepStart) (tree : Tree) → AsksNothing (declares kind here tree)
no-declares node.LocalSet here tree = no-local (kind_of (child_at tree 0)) here tree
no-declares other here tree = search no-question

no-standalone : (which : Standalone) (tree : Tree) → AsksNothing (begin_standalone which tree)
no-standalone standalone.Barrier tree = no-event _ _
no-standalone standalone.Taskwait tree = no-event _ _

no-construct : (which : Directive) (here : StepStart) (tree : Tree) → AsksNothing (begin_construct which here tree)
no-construct directive.Parallel here tree = search no-question
no-construct directive.For here tree = search no-question
no-construct directive.Sections here tree = no-event _ _
no-construct directive.Single here tree = no-event _ _
no-construct directive.ParallelFor here tree = search no-question
no-construct directive.ParallelSections here tree = search no-question
no-construct directive.Masked here tree = no-event _ _
no-construct directive.Master here tree = no-event _ _
no-construct directive.Critical here tree = no-event _ _
no-construct directive.Task here tree = search no-question

no-inside : (kind : NodeKind) (here : StepStart) (tree : Tree) → AsksNothing (begin_inside kind here tree)
no-inside (node.Construct directive.ParallelFor) here tree = search no-question
no-inside (node.Construct directive.ParallelSections) here tree = no-event _ _
no-inside other here tree = no-step _

no-statement : (kind : NodeKind) (here : StepStart) (tree : Tree) → AsksNothing (begin_statement kind here tree)
no-statement node.If here tree = search no-question
no-statement node.While here tree = search no-question
no-statement node.For here tree = no-first-step (kind_of (child_at tree 0)) here (child_at tree 0) (Test tree (length here.task.env) ∷ [])
no-statement node.Return here tree = no-return (kind_of (child_at tree 0)) here (child_at tree 0)
no-statement node.SetCall here tree = search no-question
no-statement node.Step here tree = no-step-of (kind_of (child_at tree 0)) here (child_at tree 0) []
no-statement node.Called here tree = no-right (kind_of (child_at tree 0)) here (child_at tree 0) here.task.env target.Nowhere
no-statement node.Print here tree = search no-question
no-statement (node.LockCall which) here tree = no-lock which here tree
no-statement (node.Standalone which) here tree = no-standalone which tree
no-statement (node.Construct which) here tree = no-construct which here tree
no-statement other here tree = no-step _

-- where something is asked, the first of these items asks
unfoldable IsAskedBy : List Item → Outcome → Type 0
IsAskedBy items (Asks ask tree) = IsAskOfNext ask tree items
IsAskedBy items other = Unit {0}

of-nothing : (items : List Item) (outcome : Outcome) → AsksNothing outcome → IsAskedBy items outcome
unfolding AsksNothing IsAskedBy
of-nothing items (StepsTo next) none = tt
of-nothing items (Asks ask tree) none = absurd none
of-nothing items (Occurs point tree) none = tt
of-nothing items (Ends number) none = tt
of-nothing items (Traps trap) none = tt
of-nothing items (Limits limit) none = tt

asked-by : (item : Item) (here : StepStart) (items : List Item) → IsAskedBy (item ∷ items) (step_of item here)
unfolding IsAskedBy IsAskOfNext IsAskOf
asked-by (NextChunk loop) here items = refl
asked-by (NextSection construct names) here items = refl
asked-by (TestLock call id to) here items = (refl, refl)
asked-by (Start tree) here items = of-nothing (Start tree ∷ items) _ (no-statement (kind_of tree) here tree)
asked-by (Declare tree) here items = of-nothing (Declare tree ∷ items) _ (no-declares (kind_of tree) here tree)
asked-by (Leave names) here items = tt
asked-by (Test tree names) here items = of-nothing (Test tree names ∷ items) (step_of (Test tree names) here) (search no-question)
asked-by (Third tree names) here items = of-nothing (Third tree names ∷ items) _ (no-step-of (kind_of (child_at tree 2)) here (child_at tree 2) (Test tree names ∷ []))
asked-by (Initialise tree entry) here items =
    of-nothing (Initialise tree entry ∷ items) _ (no-right (kind_of (child_at tree 0)) here (child_at tree 0) (here.task.env ++ entry ∷ []) (target.Cell entry.first))
asked-by (Return number) here items = of-nothing (Return number ∷ items) _ (no-returns here.task.calls here number)
asked-by FallOff here items = of-nothing (FallOff ∷ items) _ (no-returns here.task.calls here (pos 0))
asked-by (Forked construct) here items = tt
asked-by (Inside construct) here items = of-nothing (Inside construct ∷ items) _ (no-inside (kind_of construct) here construct)
asked-by (MakeCells construct) here items = of-nothing (MakeCells construct ∷ items) (step_of (MakeCells construct) here) (search no-question)
asked-by (Iterations loop at upto) here items = tt
asked-by (Combine operator name names) here items = of-nothing (Combine operator name names ∷ items) (step_of (Combine operator name names) here) (search no-question)
asked-by (EndWork construct kind count names) here items = tt
asked-by (EndMasked construct) here items = tt
asked-by (Sync tree kind stage) here items = tt
asked-by (Acquire tree kind id) here items = tt
asked-by (Release tree id) here items = tt
asked-by (Tested to) here items = tt

asked-first : (items : List Item) (program : TreeView) (view : View) (now : Moment) → IsAskedBy items (step_at items program view now)
unfolding IsAskedBy
asked-first [] program view now = tt
asked-first (item ∷ items) program view now =
    asked-by item (record { program = program; view = view; task = record now.task { todo = items }; store = now.store }) items

-- what an item's step asks, this item asks
pub question_is_of_item : (item : Item) (here : StepStart) (ask : Ask) (tree : Tree) → step_of item here ≡ Asks ask tree → IsAskOf ask tree item
unfolding IsAskedBy IsAskOfNext
question_is_of_item item here ask tree is = subst (IsAskedBy (item ∷ [])) is (asked-by item here [])

pub question_is_of_next : (program : TreeView) (view : View) (now : Moment) (ask : Ask) (tree : Tree) → silent program view now ≡ Asks ask tree → IsAskOfNext ask tree (settled_task view now.task).todo
unfolding silent IsAskedBy
question_is_of_next program view now ask tree is =
    subst (IsAskedBy (items_from_next view now.task.todo)) is (asked-first (items_from_next view now.task.todo) program view now)

-- an answer that fits a question answers the item that asks it
section-answers : (item : Item) (tree : Tree) (given : Answer) → IsAskOf ask.Section tree item → IsSectionAnswer (length (sections_of tree)) given → AnswersItem item given
unfolding IsAskOf AnswersItem
section-answers (NextSection construct names) tree given is fits = subst (λ tree. IsSectionAnswer (length (sections_of tree)) given) is fits
section-answers other tree given is fits = absurd is

free-answers : (item : Item) (id : ℕ) (tree : Tree) (given : Answer) → IsAskOf (ask.LockFree id) tree item → IsLockAnswer given → AnswersItem item given
unfolding IsAskOf AnswersItem
free-answers (TestLock call wait_id to) id tree given is fits = fits
free-answers other id tree given is fits = absurd is

pub section_answers_first : (items : List Item) (tree : Tree) (given : Answer) → IsAskOfNext ask.Section tree items → IsSectionAnswer (length (sections_of tree)) given → AnswersFirst items given
unfolding IsAskOfNext AnswersFirst
section_answers_first [] tree given is fits = absurd is
section_answers_first (item ∷ items) tree given is fits = section-answers item tree given is fits

pub free_answers_first : (items : List Item) (id : ℕ) (tree : Tree) (given : Answer) → IsAskOfNext (ask.LockFree id) tree items → IsLockAnswer given → AnswersFirst items given
unfolding IsAskOfNext AnswersFirst
free_answers_first [] id tree given is fits = absurd is
free_answers_first (item ∷ items) id tree given is fits = free-answers item id tree given is fits

-- what fits the loop that asks for its next chunk
pub chunk_answers_first : (items : List Item) (tree : Tree) (given : Answer) → IsAskOfNext ask.Chunk tree items → ((loop : SharedLoop) (behind : List Item) → items ≡ NextChunk loop ∷ behind → IsChunkAnswer loop.count given) → AnswersFirst items given
unfolding IsAskOfNext IsAskOf AnswersFirst AnswersItem
chunk_answers_first [] tree given is fits = absurd is
chunk_answers_first (NextChunk loop ∷ items) tree given is fits = fits loop items refl
chunk_answers_first (other ∷ items) tree given is fits = absurd is
