-- What stands next stands behind the event that leads to it.
use Rattle.std.specs.Prelude.{ℕ, ◌≡◌, ◌⊎◌, ◌==◌, ◌&&◌, not, if◌then◌else◌, Bool, true, false, List, [], ◌∷◌, ◌++◌, length, None, refl}
use Rattle.std.proofs.Common.{ap, append_assoc, sym, ◌∙◌, inl, inr}
use Rattle.c_syntax.specs.declared.node.Directive.TheVariants as directive
use Rattle.c_syntax.specs.declared.node.NodeKind.TheVariants as node
use Rattle.c_syntax.specs.language.Tree.{Tree, kind_of}
use Rattle.c_syntax.specs.language.Tree.Tree.{Node}
use Rattle.c_syntax.specs.language.Numbered.{TreeView}
use Rattle.c_model.specs.declared.point.Point.{Point}
use Rattle.c_model.specs.declared.question.Answer.{Answer}
use Rattle.c_model.specs.declared.point.SyncKind.TheVariants as sync
use Rattle.c_model.specs.declared.point.SyncStage.TheVariants as stage
use Rattle.c_model.specs.declared.view.View.{View}
use Rattle.c_model.specs.Begin.{explicit_task, forked_construct, main_task, member_items, member_task}
use Rattle.c_model.specs.Clauses.{construct_statement}
use Rattle.c_model.specs.Copies.{combines, has_own_cells, makes_cells}
use Rattle.c_model.specs.AfterEvents.{after_answer, after_event, answered_at, passed_at}
use Rattle.c_model.specs.Step.{is_masked, skips_masked, items_from_next, settled_moment, settled_task, silent, step_at}
use Rattle.c_model.specs.Task.{Item, Moment, Task}
use Rattle.c_model.specs.Task.Item.{Start, MakeCells, Sync}
use Rattle.c_model.specs.Task.Outcome.{StepsTo, Occurs}
use Rattle.c_brackets.specs.Links.{link_item, link_made, link_next, link_of}
use Rattle.c_brackets.specs.Orderly.{AreCallsKept, AreInOrder, IsFramed, IsOrderly}
use Rattle.c_brackets.specs.Returns.{HasReturnsOutside}
use Rattle.c_brackets.proofs.OpenLists.{in_order, none_next}
use Rattle.c_brackets.proofs.Turning.{LeadsOn, StepsOn, Turns}
use Rattle.c_brackets.proofs.TurningTasks.{answered_goes, here_at, settled_is_orderly, turned}

-- what a task goes past stands behind no event, and neither does what is next then
settled-start : (passed : Bool) (tree : Tree) (items settled : List Item) → link_next settled ≡ None
    → link_next (if passed then settled else Start tree ∷ items) ≡ None
settled-start true tree items settled none = none
settled-start false tree items settled none = refl

settled-by : (view : View) (item : Item) (items settled : List Item) → link_next settled ≡ None
    → link_next (if skips_masked item view then settled else item ∷ items) ≡ link_item item
settled-by view (Start tree) items settled none = settled-start (is_masked (kind_of tree) && not (view.index == 0)) tree items settled none
settled-by view other items settled none = refl

settled-next : (view : View) (items : List Item) → AreInOrder items → link_next (items_from_next view items) ≡ link_next items
unfolding items_from_next AreInOrder
settled-next view [] are = refl
settled-next view (item ∷ items) are =
    settled-by view item items (items_from_next view items) (settled-next view items (in_order items are.1) ∙ none_next items are.1)

pub settled_next : (view : View) (task : Task) → IsOrderly task → link_next (settled_task view task).todo ≡ link_next task.todo
settled_next view task is = settled-next view task.todo is.now

-- steps and events
step-next : (program : TreeView) (view : View) (now next : Moment) (items : List Item) → HasReturnsOutside program → AreInOrder items
    → IsFramed items now.task.calls → AreCallsKept now.task.calls → step_at items program view now ≡ StepsTo next
    → link_next next.task.todo ≡ None
unfolding Turns
step-next program view now next [] outside are framed calls comes = absurd (cc)
step-next program view now next (item ∷ items) outside are framed calls comes =
    let on : StepsOn (here_at program view now items) item next = turned program view now item items (StepsTo next) outside are framed calls comes in
    none_next next.task.todo on.behind

pub step_next : (program : TreeView) (view : View) (now next : Moment) → HasReturnsOutside program → IsOrderly now.task
    → silent program view now ≡ StepsTo next → link_next next.task.todo ≡ None
unfolding silent
step_next program view now next outside is comes =
    let settled : IsOrderly (settled_task view now.task) = settled_is_orderly view now.task is in
    step-next program view now next (settled_task view now.task).todo outside settled.now settled.framed settled.calls comes

record IsLinked (items after : List Item) (point : Point) : Type 0 where
  follows : link_next items ≡ link_of point
  makes : link_next after ≡ link_made point

event-next : (program : TreeView) (view : View) (point : Point) (executes : Bool) (now : Moment) (tree : Tree) (items : List Item) → HasReturnsOutside program
    → AreInOrder items → IsFramed items now.task.calls → AreCallsKept now.task.calls
    → step_at items program view now ≡ Occurs point tree → IsLinked items (passed_at items point executes (settled_task view now.task)).todo point
unfolding Turns
event-next program view point executes now tree [] outside are framed calls comes = absurd (cc)
event-next program view point executes now tree (item ∷ items) outside are framed calls comes =
    let leads : LeadsOn (here_at program view now items) item point = turned program view now item items (Occurs point tree) outside are framed calls comes in
    record { follows = leads.follows; makes = leads.makes executes }

event-of : (program : TreeView) (view : View) (point : Point) (executes : Bool) (now : Moment) (tree : Tree) → HasReturnsOutside program → IsOrderly now.task
    → silent program view now ≡ Occurs point tree
    → IsLinked (settled_task view now.task).todo (after_event view point executes now.task).todo point
unfolding silent
event-of program view point executes now tree outside is comes =
    let settled : IsOrderly (settled_task view now.task) = settled_is_orderly view now.task is in
    event-next program view point executes now tree (settled_task view now.task).todo outside settled.now settled.framed settled.calls comes

pub event_follows : (program : TreeView) (view : View) (point : Point) (now : Moment) (tree : Tree) → HasReturnsOutside program → IsOrderly now.task
    → silent program view now ≡ Occurs point tree → link_next now.task.todo ≡ link_of point
event_follows program view point now tree outside is comes =
    sym (settled_next view now.task is) ∙ (event-of program view point false now tree outside is comes).follows

pub event_makes : (program : TreeView) (view : View) (point : Point) (executes : Bool) (now : Moment) (tree : Tree) → HasReturnsOutside program
    → IsOrderly now.task → silent program view now ≡ Occurs point tree
    → link_next (after_event view point executes now.task).todo ≡ link_made point
event_makes program view point executes now tree outside is comes = (event-of program view point executes now tree outside is comes).makes

-- answers
answer-at : (given : Answer) (items : List Item) (now : Moment) → AreInOrder items → link_next items ≡ link_next now.task.todo
    → (link_next (answered_at items given now).task.todo ≡ link_next now.task.todo) ⊎ (link_next (answered_at items given now).task.todo ≡ None)
answer-at given [] now are same = inl refl
answer-at given (item ∷ items) now are same = elim ((answered_goes given item items are).next are) [ inl kept ↦ inl (kept ∙ same) | inr none ↦ inr none ]

answer-of : (view : View) (given : Answer) (now : Moment) → IsOrderly now.task
    → (link_next (after_answer view given now).task.todo ≡ link_next (settled_task view now.task).todo) ⊎ (link_next (after_answer view given now).task.todo ≡ None)
answer-of view given now is = answer-at given (settled_task view now.task).todo (settled_moment view now) (settled_is_orderly view now.task is).now refl

pub answer_next : (view : View) (given : Answer) (now : Moment) → IsOrderly now.task
    → (link_next (after_answer view given now).task.todo ≡ link_next now.task.todo) ⊎ (link_next (after_answer view given now).task.todo ≡ None)
answer_next view given now is = elim (answer-of view given now is) [ inl kept ↦ inl (kept ∙ settled_next view now.task is) | inr none ↦ inr none ]

-- where code begins
pub main_next : (program : TreeView) → link_next (main_task program).todo ≡ None
main_next program = refl

made-next : (has : Bool) (construct : Tree) (tree : Tree) (items : List Item)
    → link_next ((if has then MakeCells construct ∷ [] else []) ++ Start tree ∷ items) ≡ None
made-next true construct tree items = refl
made-next false construct tree items = refl

member-next : (construct : Tree) (count : ℕ) → link_next (member_items construct count) ≡ None
member-next (Node (node.Construct directive.ParallelFor) spot name number text children) count = refl
member-next (Node (node.Construct directive.ParallelSections) spot name number text children) count = refl
member-next (Node kind spot name number text children) count =
    let construct = Node kind spot name number text children in
    ap link_next (append_assoc (makes_cells construct) (Start (construct_statement construct) ∷ combines construct count) (Sync construct sync.Parallel stage.RegionBegin ∷ []))
    ∙ made-next (has_own_cells construct) construct (construct_statement construct) (combines construct count ++ Sync construct sync.Parallel stage.RegionBegin ∷ [])

pub member_next : (task : Task) → link_next (member_task task).todo ≡ None
member_next task = member-next (forked_construct task.todo) (length task.env)

pub explicit_next : (program : TreeView) (view : View) (now : Moment) → link_next (explicit_task program view now).task.todo ≡ None
explicit_next program view now = refl
