-- A task's code stands in order and has open what its events began: where it begins, and behind each step, answer and event.
use Rattle.std.specs.Prelude.{ℕ, ◌+◌, ◌≡◌, ◌⊎◌, ◌==◌, ◌&&◌, not, if◌then◌else◌, Bool, true, false, IsTrue, List, [], ◌∷◌, ◌++◌, length, slice_index_or, Option, Some, None, ℤ, pos, refl}
use Rattle.std.proofs.Common.{ap, inl, inr, sym, ◌∙◌, append_assoc, subst}
use Rattle.c_syntax.specs.declared.node.Directive.TheVariants as directive
use Rattle.c_syntax.specs.declared.node.NodeKind.TheVariants as node
use Rattle.c_syntax.specs.language.Tree.{kind_of, nothing, Tree}
use Rattle.c_syntax.specs.language.Tree.Tree.{Node}
use Rattle.c_syntax.specs.language.Numbered.{TreeView}
use Rattle.c_model.specs.declared.point.Point.{Point}
use Rattle.c_model.specs.declared.point.Point.TheVariants.{TaskCreate}
use Rattle.c_model.specs.declared.point.SyncKind.TheVariants as sync
use Rattle.c_model.specs.declared.point.SyncStage.TheVariants as stage
use Rattle.c_model.specs.declared.point.Target.{Target}
use Rattle.c_model.specs.declared.point.WorkKind.TheVariants as work_kind
use Rattle.c_model.specs.declared.question.Answer.{Answer}
use Rattle.c_model.specs.declared.question.Answer.TheVariants as answer
use Rattle.c_model.specs.declared.view.View.{View}
use Rattle.c_model.specs.Begin.{created_construct, explicit_task, forked_construct, main_task, member_items, member_task}
use Rattle.c_model.specs.Calls.{value_items}
use Rattle.c_model.specs.Clauses.{construct_statement, sections_of}
use Rattle.c_model.specs.Constructs.{iterations_from}
use Rattle.c_model.specs.Copies.{combines, makes_cells}
use Rattle.c_model.specs.AfterEvents.{after_answer, after_event, answered_at, items_answered, items_of_chunk, items_of_section, items_of_test, passed_at}
use Rattle.c_model.specs.Step.{is_masked, skips_masked, items_from_next, settled_moment, settled_task, silent, step_at}
use Rattle.c_model.specs.Task.{StepStart, Item, Moment, OpenCall, Outcome, SharedLoop, Task}
use Rattle.c_model.specs.Task.Item.{Start, Forked, NextChunk, NextSection, EndWork, Sync, TestLock}
use Rattle.c_model.specs.Task.Outcome.{StepsTo, Occurs, Ends}
use Rattle.c_brackets.specs.Effects.{Effect, LeadsTo, effect_of}
use Rattle.c_brackets.specs.Effects.Effect.{Opens, Closes, Leaves}
use Rattle.c_brackets.specs.Links.{link_next}
use Rattle.c_brackets.specs.Opened.{Open, open_calls, open_items, open_task}
use Rattle.c_brackets.specs.Orderly.{AreBehind, AreCallsKept, AreInOrder, HasNoReturn, IsFramed, IsOrderly, falls_off}
use Rattle.c_brackets.specs.Returns.{HasReturnsOutside, has_return_among}
use Rattle.c_brackets.proofs.Adding.{combines_added, iterations_added, making_added, start_kept, value_added}
use Rattle.c_brackets.proofs.OpenLists.{IsAdded, falls_behind, falls_more, in_order, never, none_added, none_next}
use Rattle.c_brackets.proofs.ReturnTrees.{IsFree, section_free, statement_free}
use Rattle.c_brackets.proofs.Turning.{LeadsOn, StepsOn, Turns}
use Rattle.c_brackets.proofs.TurningSteps.{turns_item}

-- what stands in place of items, in order as they were, with the same open
pub record GoesOn (full items : List Item) : Type 0 where
  pub order : AreInOrder items → AreInOrder full
  pub same : AreInOrder items → open_items full ≡ open_items items
  pub falls : IsTrue (falls_off items) → IsTrue (falls_off full)
  pub next : AreInOrder items → (link_next full ≡ link_next items) ⊎ (link_next full ≡ None)

goes-same : (items : List Item) → GoesOn items items
goes-same items = record { order = λ are. are; same = λ are. refl; falls = λ is. is; next = λ are. inl refl }

-- what a task goes past has nothing open
passed-next : (items settled : List Item) → AreBehind items → (link_next settled ≡ link_next items) ⊎ (link_next settled ≡ None) → link_next settled ≡ None
passed-next items settled behind either = elim either [ inl same ↦ same ∙ none_next items behind | inr none ↦ none ]

settled-start : (passed : Bool) (tree : Tree) (items settled : List Item) → GoesOn settled items
    → GoesOn (if passed then settled else Start tree ∷ items) (Start tree ∷ items)
unfolding AreInOrder open_items falls_off
settled-start true tree items settled goes =
    record { order = λ are. goes.order (in_order items are.1); same = λ are. goes.same (in_order items are.1); falls = goes.falls; next = λ are. inr (passed-next items settled are.1 (goes.next (in_order items are.1))) }
settled-start false tree items settled goes = goes-same (Start tree ∷ items)

settled-by : (view : View) (item : Item) (items settled : List Item) → GoesOn settled items
    → GoesOn (if skips_masked item view then settled else item ∷ items) (item ∷ items)
settled-by view (Start tree) items settled goes = settled-start (is_masked (kind_of tree) && not (view.index == 0)) tree items settled goes
settled-by view other items settled goes = goes-same (other ∷ items)

settled-items : (view : View) (items : List Item) → GoesOn (items_from_next view items) items
unfolding items_from_next
settled-items view [] = goes-same []
settled-items view (item ∷ items) = settled-by view item items (items_from_next view items) (settled-items view items)

pub settled_is_orderly : (view : View) (task : Task) → IsOrderly task → IsOrderly (settled_task view task)
settled_is_orderly view task is =
    let goes = settled-items view task.todo in record { now = goes.order is.now; framed = λ has. goes.falls (is.framed has); calls = is.calls }

pub settled_same : (view : View) (task : Task) → IsOrderly task → open_task (settled_task view task) ≡ open_task task
settled_same view task is = ap (λ (opened : List Open). opened ++ open_calls task.calls) ((settled-items view task.todo).same is.now)

-- steps and events
abbrev pub here_at : TreeView → View → Moment → List Item → StepStart
here_at program view now items = record { program = program; view = view; task = record now.task { todo = items }; store = now.store }

pub turned : (program : TreeView) (view : View) (now : Moment) (item : Item) (items : List Item) (outcome : Outcome) → HasReturnsOutside program
    → AreInOrder (item ∷ items) → IsFramed (item ∷ items) now.task.calls → AreCallsKept now.task.calls
    → step_at (item ∷ items) program view now ≡ outcome → Turns (here_at program view now items) item outcome
unfolding AreInOrder
turned program view now item items outcome outside are framed calls comes =
    subst (λ (outcome : Outcome). Turns (here_at program view now items) item outcome) comes
    (turns_item item (here_at program view now items) (record { program = outside; now = are.0; behind = are.1; framed = framed; calls = calls }))

-- a silent step leaves what is open
record IsSame (opened : List Open) (next : Task) : Type 0 where
  is : IsOrderly next
  same : open_task next ≡ opened

step-same : (program : TreeView) (view : View) (now next : Moment) (items : List Item) → HasReturnsOutside program → AreInOrder items
    → IsFramed items now.task.calls → AreCallsKept now.task.calls → step_at items program view now ≡ StepsTo next
    → IsSame (open_items items ++ open_calls now.task.calls) next.task
unfolding Turns
step-same program view now next [] outside are framed calls comes = absurd (cc)
step-same program view now next (item ∷ items) outside are framed calls comes =
    let on : StepsOn (here_at program view now items) item next = turned program view now item items (StepsTo next) outside are framed calls comes in
    record { is = on.is; same = on.same }

step-of : (program : TreeView) (view : View) (now next : Moment) → HasReturnsOutside program → IsOrderly now.task → silent program view now ≡ StepsTo next
    → IsSame (open_task (settled_task view now.task)) next.task
unfolding silent
step-of program view now next outside is comes =
    let settled : IsOrderly (settled_task view now.task) = settled_is_orderly view now.task is in
    step-same program view now next (settled_task view now.task).todo outside settled.now settled.framed settled.calls comes

pub step_is_orderly : (program : TreeView) (view : View) (now next : Moment) → HasReturnsOutside program → IsOrderly now.task
    → silent program view now ≡ StepsTo next → IsOrderly next.task
step_is_orderly program view now next outside is comes = (step-of program view now next outside is comes).is

pub step_same : (program : TreeView) (view : View) (now next : Moment) → HasReturnsOutside program → IsOrderly now.task
    → silent program view now ≡ StepsTo next → open_task next.task ≡ open_task now.task
step_same program view now next outside is comes = (step-of program view now next outside is comes).same ∙ settled_same view now.task is

-- an event opens or ends the newest
leads-more : (what : Effect) (before behind more : List Open) → LeadsTo what before behind → LeadsTo what (before ++ more) (behind ++ more)
leads-more (Opens one) before behind more leads = ap (λ (opened : List Open). opened ++ more) leads
leads-more (Closes one) before behind more leads = ap (λ (opened : List Open). opened ++ more) leads
leads-more Leaves before behind more leads = ap (λ (opened : List Open). opened ++ more) leads

record IsLed (what : Effect) (opened : List Open) (next : Task) : Type 0 where
  is : IsOrderly next
  leads : LeadsTo what opened (open_task next)

event-leads : (program : TreeView) (view : View) (point : Point) (executes : Bool) (now : Moment) (tree : Tree) (items : List Item)
    → HasReturnsOutside program → AreInOrder items → IsFramed items now.task.calls → AreCallsKept now.task.calls
    → step_at items program view now ≡ Occurs point tree
    → IsLed (effect_of point executes) (open_items items ++ open_calls now.task.calls) (passed_at items point executes (settled_task view now.task))
unfolding Turns
event-leads program view point executes now tree [] outside are framed calls comes = absurd (cc)
event-leads program view point executes now tree (item ∷ items) outside are framed calls comes =
    let leads : LeadsOn (here_at program view now items) item point = turned program view now item items (Occurs point tree) outside are framed calls comes in
    record {
      is = record { now = leads.order executes; framed = λ has. falls_more _ items (falls_behind item items leads.apart (framed has)); calls = calls };
      leads = leads-more (effect_of point executes) (open_items (item ∷ items)) _ (open_calls now.task.calls) (leads.effect executes);
    }

event-of : (program : TreeView) (view : View) (point : Point) (executes : Bool) (now : Moment) (tree : Tree) → HasReturnsOutside program → IsOrderly now.task
    → silent program view now ≡ Occurs point tree
    → IsLed (effect_of point executes) (open_task (settled_task view now.task)) (after_event view point executes now.task)
unfolding silent
event-of program view point executes now tree outside is comes =
    let settled : IsOrderly (settled_task view now.task) = settled_is_orderly view now.task is in
    event-leads program view point executes now tree (settled_task view now.task).todo outside settled.now settled.framed settled.calls comes

pub event_is_orderly : (program : TreeView) (view : View) (point : Point) (executes : Bool) (now : Moment) (tree : Tree) → HasReturnsOutside program
    → IsOrderly now.task → silent program view now ≡ Occurs point tree
    → IsOrderly (after_event view point executes now.task)
event_is_orderly program view point executes now tree outside is comes = (event-of program view point executes now tree outside is comes).is

pub event_leads : (program : TreeView) (view : View) (point : Point) (executes : Bool) (now : Moment) (tree : Tree) → HasReturnsOutside program
    → IsOrderly now.task → silent program view now ≡ Occurs point tree
    → LeadsTo (effect_of point executes) (open_task now.task) (open_task (after_event view point executes now.task))
event_leads program view point executes now tree outside is comes =
    subst (λ (opened : List Open). LeadsTo (effect_of point executes) opened (open_task (after_event view point executes now.task))) (settled_same view now.task is)
    (event-of program view point executes now tree outside is comes).leads

-- answers
chunk-goes : (loop : SharedLoop) (chunk : Option (ℕ × ℕ)) (items : List Item) → AreInOrder (NextChunk loop ∷ items)
    → GoesOn (items_of_chunk loop chunk ++ items) (NextChunk loop ∷ items)
unfolding AreInOrder AreBehind open_items falls_off
chunk-goes loop (Some chunk) items are =
    let more = iterations_added loop chunk.0 (chunk.0 + chunk.1) items are.0.0 are.1 in
    record { order = λ are. in_order (iterations_from loop chunk.0 (chunk.0 + chunk.1) ∷ items) more.behind; same = λ are. more.same; falls = more.falls; next = λ are. inr (none_next (iterations_from loop chunk.0 (chunk.0 + chunk.1) ∷ items) more.behind) }
chunk-goes loop None items are =
    let last = EndWork loop.construct work_kind.Loop loop.count loop.names in
    let added = combines_added loop.construct loop.names (last ∷ items) (last ∷ items) (none_added (last ∷ items) (refl, (tt, λ is. never is), are.1)) in
    subst (λ (full : List Item). GoesOn full (NextChunk loop ∷ items)) (sym (append_assoc (combines loop.construct loop.names) (last ∷ []) items))
    (record { order = λ are. in_order (combines loop.construct loop.names ++ last ∷ items) added.behind; same = λ are. added.same; falls = added.falls; next = λ are. inr (none_next (combines loop.construct loop.names ++ last ∷ items) added.behind) })

section-goes : (construct : Tree) (names : ℕ) (section : Option ℕ) (items : List Item) → AreInOrder (NextSection construct names ∷ items)
    → GoesOn (items_of_section construct names section ++ items) (NextSection construct names ∷ items)
unfolding AreInOrder AreBehind open_items falls_off
section-goes construct names (Some section) items are =
    record { order = λ more. (start_kept (slice_index_or (sections_of construct) section nothing) (NextSection construct names ∷ items) (section_free construct are.0.0 section), (refl, are.0, are.1)); same = λ are. refl; falls = λ is. is; next = λ are. inr refl }
section-goes construct names None items are =
    let last = EndWork construct work_kind.Sections (length (sections_of construct)) names in
    let added = combines_added construct names (last ∷ items) (last ∷ items) (none_added (last ∷ items) (refl, (tt, λ is. never is), are.1)) in
    subst (λ (full : List Item). GoesOn full (NextSection construct names ∷ items)) (sym (append_assoc (combines construct names) (last ∷ []) items))
    (record { order = λ are. in_order (combines construct names ++ last ∷ items) added.behind; same = λ are. added.same; falls = added.falls; next = λ are. inr (none_next (combines construct names ++ last ∷ items) added.behind) })

test-goes : (call : Tree) (id : ℕ) (to : Target) (free : Bool) (items : List Item) → AreInOrder (TestLock call id to ∷ items)
    → GoesOn (items_of_test call id to free ++ items) (TestLock call id to ∷ items)
unfolding AreInOrder AreBehind open_items falls_off
test-goes call id to true items are =
    record { order = λ more. ((tt, λ is. never is), (refl, (tt, are.0.1), are.1)); same = λ are. refl; falls = λ is. is; next = λ are. inl refl }
test-goes call id to false items are =
    let added = value_added to (pos 0) items are.1 are.0.1 in record { order = λ are. in_order (value_items to (pos 0) ++ items) added.behind; same = λ are. added.same; falls = added.falls; next = λ are. inr (none_next (value_items to (pos 0) ++ items) added.behind) }

pub answered_goes : (given : Answer) (item : Item) (items : List Item) → AreInOrder (item ∷ items) → GoesOn (items_answered given item ++ items) (item ∷ items)
answered_goes (answer.Chunk chunk) (NextChunk loop) items are = chunk-goes loop chunk items are
answered_goes (answer.Section section) (NextSection construct names) items are = section-goes construct names section items are
answered_goes (answer.Free free) (TestLock call id to) items are = test-goes call id to free items are
answered_goes given item items are = goes-same (item ∷ items)

answer-same : (given : Answer) (items : List Item) (now : Moment) → AreInOrder items → IsFramed items now.task.calls → IsOrderly now.task
    → open_items items ≡ open_items now.task.todo
    → IsSame (open_task now.task) (answered_at items given now).task
answer-same given [] now are framed is same = record { is = is; same = refl }
answer-same given (item ∷ items) now are framed is same =
    let goes = answered_goes given item items are in
    record {
      is = record { now = goes.order are; framed = λ has. goes.falls (framed has); calls = is.calls };
      same = ap (λ (opened : List Open). opened ++ open_calls now.task.calls) (goes.same are ∙ same);
    }

answer-of : (view : View) (given : Answer) (now : Moment) → IsOrderly now.task
    → IsSame (open_task (settled_task view now.task)) (after_answer view given now).task
answer-of view given now is =
    let settled : IsOrderly (settled_task view now.task) = settled_is_orderly view now.task is in
    answer-same given (settled_task view now.task).todo (settled_moment view now) settled.now settled.framed settled refl

pub answer_is_orderly : (view : View) (given : Answer) (now : Moment) → IsOrderly now.task → IsOrderly (after_answer view given now).task
answer_is_orderly view given now is = (answer-of view given now is).is

pub answer_same : (view : View) (given : Answer) (now : Moment) → IsOrderly now.task → open_task (after_answer view given now).task ≡ open_task now.task
answer_same view given now is = (answer-of view given now is).same ∙ settled_same view now.task is

-- the end
no-calls : (calls : List OpenCall) → IsFramed [] calls → open_calls calls ≡ []
unfolding open_calls falls_off
no-calls [] framed = refl
no-calls (call ∷ calls) framed = never (framed refl)

ended-at : (program : TreeView) (view : View) (now : Moment) (number : ℤ) (items : List Item) → HasReturnsOutside program → AreInOrder items
    → IsFramed items now.task.calls → AreCallsKept now.task.calls → step_at items program view now ≡ Ends number
    → open_items items ++ open_calls now.task.calls ≡ []
unfolding Turns open_items
ended-at program view now number [] outside are framed calls comes = no-calls now.task.calls framed
ended-at program view now number (item ∷ items) outside are framed calls comes =
    absurd (turned program view now item items (Ends number) outside are framed calls comes)

pub ended_none : (program : TreeView) (view : View) (now : Moment) (number : ℤ) → HasReturnsOutside program → IsOrderly now.task
    → silent program view now ≡ Ends number → open_task now.task ≡ []
unfolding silent
ended_none program view now number outside is comes =
    let settled : IsOrderly (settled_task view now.task) = settled_is_orderly view now.task is in
    sym (settled_same view now.task is) ∙ ended-at program view now number (settled_task view now.task).todo outside settled.now settled.framed settled.calls comes

-- main
pub main_is_orderly : (program : TreeView) → HasReturnsOutside program → IsOrderly (main_task program)
unfolding AreInOrder AreBehind AreCallsKept open_items falls_off
main_is_orderly program outside =
    record {
      now = ((outside program.main, λ is. refl), (refl, (tt, λ is. refl), tt));
      framed = λ has. refl;
      calls = (record { behind = tt; returned = λ is. refl; framed = λ has. never has }, tt);
    }

pub main_none : (program : TreeView) → open_task (main_task program) ≡ []
unfolding open_items open_calls
main_none program = refl

-- a member of a team
nothing-free : HasNoReturn nothing
unfolding has_return_among
nothing-free is = never is

forked-free : (items : List Item) → AreInOrder items → HasNoReturn (forked_construct items)
unfolding AreInOrder
forked-free [] are = nothing-free
forked-free (Forked construct ∷ items) are = are.0.0
forked-free (item ∷ items) are = nothing-free

plain-added : (construct : Tree) (count : ℕ) → HasNoReturn construct
    → IsAdded ((makes_cells construct ++ Start (construct_statement construct) ∷ combines construct count) ++ Sync construct sync.Parallel stage.RegionBegin ∷ []) (Sync construct sync.Parallel stage.RegionBegin ∷ [])
unfolding AreBehind open_items falls_off
plain-added construct count free =
    let last = Sync construct sync.Parallel stage.RegionBegin ∷ [] in
    let combined = combines_added construct count last last (none_added last (refl, (tt, λ is. never is), tt)) in
    subst (λ (items : List Item). IsAdded items last) (sym (append_assoc (makes_cells construct) (Start (construct_statement construct) ∷ combines construct count) last))
    (making_added construct ((Start (construct_statement construct) ∷ combines construct count) ++ last) last (record {
      behind = (refl, start_kept (construct_statement construct) (combines construct count ++ last) (statement_free construct free), combined.behind);
      same = combined.same;
      falls = combined.falls;
    }))

record IsFresh (items : List Item) : Type 0 where
  order : AreInOrder items
  none : open_items items ≡ []

plain-fresh : (construct : Tree) (count : ℕ) → HasNoReturn construct
    → IsFresh ((makes_cells construct ++ Start (construct_statement construct) ∷ combines construct count) ++ Sync construct sync.Parallel stage.RegionBegin ∷ [])
unfolding open_items
plain-fresh construct count free = let added = plain-added construct count free in
    record { order = in_order ((makes_cells construct ++ Start (construct_statement construct) ∷ combines construct count) ++ Sync construct sync.Parallel stage.RegionBegin ∷ []) added.behind; none = added.same }

member-fresh : (construct : Tree) (count : ℕ) → HasNoReturn construct → IsFresh (member_items construct count)
unfolding AreInOrder AreBehind open_items
member-fresh (Node (node.Construct directive.ParallelFor) spot name number text children) count free =
    record { order = ((free, λ is. never is), (refl, (tt, λ is. never is), tt)); none = refl }
member-fresh (Node (node.Construct directive.ParallelSections) spot name number text children) count free =
    record { order = ((free, λ is. never is), (refl, (tt, λ is. never is), tt)); none = refl }
member-fresh (Node kind spot name number text children) count free = plain-fresh (Node kind spot name number text children) count free

pub member_is_orderly : (task : Task) → IsOrderly task → IsOrderly (member_task task)
unfolding AreCallsKept
member_is_orderly task is =
    record { now = (member-fresh (forked_construct task.todo) (length task.env) (forked-free task.todo is.now)).order; framed = λ has. never has; calls = tt }

pub member_none : (task : Task) → IsOrderly task → open_task (member_task task) ≡ []
unfolding open_calls
member_none task is =
    ap (λ (opened : List Open). opened ++ []) (member-fresh (forked_construct task.todo) (length task.env) (forked-free task.todo is.now)).none

-- an explicit task
created-free : (program : TreeView) (view : View) (now : Moment) (codeptr : ℕ) (undeferred : Bool) (tree : Tree) (items : List Item)
    → HasReturnsOutside program → AreInOrder items → IsFramed items now.task.calls → AreCallsKept now.task.calls
    → step_at items program view now ≡ Occurs (TaskCreate codeptr undeferred) tree → IsFree (construct_statement (created_construct items))
unfolding Turns
created-free program view now codeptr undeferred tree [] outside are framed calls comes = absurd (cc)
created-free program view now codeptr undeferred tree (item ∷ items) outside are framed calls comes =
    let leads : LeadsOn (here_at program view now items) item (TaskCreate codeptr undeferred) = turned program view now item items (Occurs (TaskCreate codeptr undeferred) tree) outside are framed calls comes in
    leads.creates

pub explicit_is_orderly : (program : TreeView) (view : View) (now : Moment) (codeptr : ℕ) (undeferred : Bool) (tree : Tree) → HasReturnsOutside program
    → IsOrderly now.task
    → silent program view now ≡ Occurs (TaskCreate codeptr undeferred) tree → IsOrderly (explicit_task program view now).task
unfolding silent AreInOrder AreBehind AreCallsKept
explicit_is_orderly program view now codeptr undeferred tree outside is comes =
    let settled : IsOrderly (settled_task view now.task) = settled_is_orderly view now.task is in
    let free = created-free program view now codeptr undeferred tree (settled_task view now.task).todo outside settled.now settled.framed settled.calls comes in
    record { now = (start_kept (construct_statement (created_construct (settled_task view now.task).todo)) [] free, tt); framed = λ has. never has; calls = tt }

pub explicit_none : (program : TreeView) (view : View) (now : Moment) → open_task (explicit_task program view now).task ≡ []
unfolding open_items open_calls
explicit_none program view now = refl
