-- What a step comes to, in the words of the forms: a silent step leaves what is open, an event opens or ends the newest, and the code stays in order.
use Rattle.std.specs.Prelude.{ℕ, ◌≡◌, if◌then◌else◌, Bool, true, false, List, [], ◌∷◌, ◌++◌, length, take, Result, Ok, Err, ℤ}
use Rattle.std.proofs.Common.{ap, sym, ◌∙◌}
use Rattle.c_syntax.specs.language.Tree.{Tree}
use Rattle.c_model.specs.declared.entry.Entry.{Entry}
use Rattle.c_model.specs.declared.point.Point.{Point}
use Rattle.c_model.specs.declared.point.Point.TheVariants.{TaskCreate}
use Rattle.c_model.specs.Begin.{created_construct}
use Rattle.c_model.specs.Cells.{Bound}
use Rattle.c_model.specs.Clauses.{construct_statement}
use Rattle.c_model.specs.StepOutcomes.{binds, goes_on, goes_on_with, sets, with_result}
use Rattle.c_model.specs.AfterEvents.{items_after}
use Rattle.c_model.specs.Task.{StepStart, Item, Moment, Outcome, Store}
use Rattle.c_model.specs.Task.Outcome.{StepsTo, Occurs, Ends, Limits}
use Rattle.c_brackets.specs.Effects.{LeadsTo, effect_of}
use Rattle.c_brackets.specs.Links.{link_item, link_made, link_next, link_of}
use Rattle.c_brackets.specs.Opened.{Open, open_calls, open_item, open_items, open_task}
use Rattle.c_brackets.specs.Orderly.{AreBehind, AreCallsKept, AreInOrder, IsFramed, IsKept, IsOrderly, is_fall_off}
use Rattle.c_brackets.specs.Returns.{HasReturnsOutside}
use Rattle.c_brackets.proofs.OpenLists.{IsAdded, falls_behind, in_order}
use Rattle.c_brackets.proofs.ReturnTrees.{IsFree}

-- an item stands before what remains, and all is in order
pub record IsRoom (here : StepStart) (item : Item) : Type 0 where
  pub program : HasReturnsOutside here.program
  pub now : IsKept item here.task.todo
  pub behind : AreBehind here.task.todo
  pub framed : IsFramed (item ∷ here.task.todo) here.task.calls
  pub calls : AreCallsKept here.task.calls

-- a silent step of the item
pub record StepsOn (here : StepStart) (item : Item) (next : Moment) : Type 0 where
  pub is : IsOrderly next.task
  pub behind : AreBehind next.task.todo
  pub same : open_task next.task ≡ open_items (item ∷ here.task.todo) ++ open_calls here.task.calls

-- the statement of a task that is created has no return
abbrev pub CreatesFree : Point → List Item → Type 0
CreatesFree (TaskCreate codeptr undeferred) items = IsFree (construct_statement (created_construct items))
CreatesFree point items = Unit {0}

-- an event of the item
pub record LeadsOn (here : StepStart) (item : Item) (point : Point) : Type 0 where
  pub apart : is_fall_off item ≡ false
  pub effect : (executes : Bool)
      → LeadsTo (effect_of point executes) (open_items (item ∷ here.task.todo)) (open_items (items_after point executes (length here.task.env) item ++ here.task.todo))
  pub order : (executes : Bool) → AreInOrder (items_after point executes (length here.task.env) item ++ here.task.todo)
  pub follows : link_item item ≡ link_of point
  pub makes : (executes : Bool) → link_next (items_after point executes (length here.task.env) item ++ here.task.todo) ≡ link_made point
  pub creates : CreatesFree point (item ∷ here.task.todo)

unfoldable pub Turns : StepStart → Item → Outcome → Type 0
Turns here item (StepsTo next) = StepsOn here item next
Turns here item (Occurs point tree) = LeadsOn here item point
Turns here item (Ends number) = ⊥
Turns here item other = Unit {0}

-- outcomes
pub turns_choice : (here : StepStart) (item : Item) (choice : Bool) (one other : Outcome) → Turns here item one → Turns here item other
    → Turns here item (if choice then one else other)
turns_choice here item true one other first second = first
turns_choice here item false one other first second = second

pub turns_limit : (here : StepStart) (item : Item) (limit : ℕ) → Turns here item (Limits limit)
unfolding Turns
turns_limit here item limit = tt

pub turns_step : (here : StepStart) (item : Item) (next : Moment) → StepsOn here item next → Turns here item (StepsTo next)
unfolding Turns
turns_step here item next is = is

pub turns_unless : (here : StepStart) (item : Item) (choice : Bool) (limit : ℕ) (next : Moment) → StepsOn here item next
    → Turns here item (if choice then Limits limit else StepsTo next)
turns_unless here item choice limit next is =
    turns_choice here item choice (Limits limit) (StepsTo next) (turns_limit here item limit) (turns_step here item next is)

pub turns_event : (here : StepStart) (item : Item) (point : Point) (tree : Tree) → LeadsOn here item point → Turns here item (Occurs point tree)
unfolding Turns
turns_event here item point tree is = is

pub turns_result : {A : Type 0} (here : StepStart) (item : Item) (result : Result A ℕ) (next : A → Outcome) → ((a : A) → Turns here item (next a))
    → Turns here item (with_result result next)
unfolding Turns
turns_result here item (Ok a) next each = each a
turns_result here item (Err trap) next each = tt

-- Of an item that has nothing open itself.
pub plain_same : (item : Item) (items : List Item) → open_item item ≡ [] → open_items (item ∷ items) ≡ open_items items
unfolding open_items
plain_same item items plain = ap (λ (opened : List Open). opened ++ open_items items) plain

module _ (here : StepStart) (item : Item) (room : IsRoom here item) (plain : open_item item ≡ []) (apart : is_fall_off item ≡ false) where
  pub framed_behind : IsFramed here.task.todo here.task.calls
  framed_behind has = falls_behind item here.task.todo apart (room.framed has)

  pub moves : (todo : List Item) (env : List Entry) (store : Store) → IsAdded todo here.task.todo
      → StepsOn here item (record { task = record here.task { todo = todo; env = env }; store = store })
  moves todo env store added =
      record {
        is = record { now = in_order todo added.behind; framed = λ has. added.falls (framed_behind has); calls = room.calls };
        behind = added.behind;
        same = ap (λ (opened : List Open). opened ++ open_calls here.task.calls) (added.same ∙ sym (plain_same item here.task.todo plain));
      }

  -- the words of the forms
  pub turns_on : (items : List Item) → IsAdded (items ++ here.task.todo) here.task.todo → Turns here item (goes_on here items)
  turns_on items added = turns_step here item _ (moves (items ++ here.task.todo) here.task.env here.store added)

  pub turns_with : (names : ℕ) (items : List Item) → IsAdded (items ++ here.task.todo) here.task.todo → Turns here item (goes_on_with here names items)
  turns_with names items added = turns_step here item _ (moves (items ++ here.task.todo) (take names here.task.env) here.store added)

  pub turns_sets : (cell : ℕ) (number : ℤ) (items : List Item) → IsAdded (items ++ here.task.todo) here.task.todo
      → Turns here item (sets here cell number items)
  turns_sets cell number items added = turns_step here item _ (moves (items ++ here.task.todo) here.task.env _ added)

  pub turns_binds : (bound : Bound) (items : List Item) → IsAdded (items ++ here.task.todo) here.task.todo → Turns here item (binds here bound items)
  turns_binds bound items added = turns_unless here item _ _ _ (moves (items ++ here.task.todo) bound.env _ added)
