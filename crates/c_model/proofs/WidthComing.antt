-- What a step comes to, within the width, in the words of the forms.
use Rattle.std.specs.Prelude.{ℕ, ◌+◌, ◌≤◌, min, if◌then◌else◌, Bool, true, false, List, ◌++◌, length, Result, Ok, Err, ℤ}
use Rattle.std.specs.List.{All}
use Rattle.std.proofs.lemmas.List.{length-take}
use Rattle.c_syntax.specs.language.Numbered.{TreeView}
use Rattle.c_model.specs.Cells.{Bound, with_cells}
use Rattle.c_model.specs.StepOutcomes.{binds, bound_of, goes_on, goes_on_with, sets, with_result}
use Rattle.c_model.specs.Task.{StepStart, Item, Moment, Outcome}
use Rattle.c_model.specs.Task.Outcome.{StepsTo, Asks, Occurs, Ends, Traps, Limits}
use Rattle.c_model.proofs.Fitting.{Fits}
use Rattle.c_model.specs.Width.{IsCallWithin, IsWithin, most_behind, most_names, width}
use Rattle.c_model.proofs.WidthCells.{one_more}

-- a step that is made leads to a task within the width
unfoldable pub StaysWithin : TreeView → Outcome → Type 0
StaysWithin program (StepsTo next) = IsWithin program next.task
StaysWithin program other = Unit {0}

-- with these items before what remains, and so many names, a task is within the width
abbrev pub IsEnough : StepStart → List Item → ℕ → Type 0
IsEnough here items names = most_names here.program (items ++ here.task.todo) names ≤ width here.program

abbrev pub AreCallsWithin : StepStart → Type 0
AreCallsWithin here = All (IsCallWithin here.program) here.task.calls

-- the task is within the width where this item stands before what remains
pub record IsRoomFor (here : StepStart) (item : Item) : Type 0 where
  pub enough : most_behind here.program (length here.task.env) item (most_names here.program here.task.todo) ≤ width here.program
  pub calls : AreCallsWithin here

-- outcomes
pub stays-unless : (program : TreeView) (choice : Bool) (limit : ℕ) (next : Moment) → IsWithin program next.task → StaysWithin program (if choice then Limits limit else StepsTo next)
unfolding StaysWithin
stays-unless program true limit next is = tt
stays-unless program false limit next is = is

pub stays-step : (program : TreeView) (next : Moment) → IsWithin program next.task → StaysWithin program (StepsTo next)
unfolding StaysWithin
stays-step program next is = is

pub stays-limit : (program : TreeView) (limit : ℕ) → StaysWithin program (Limits limit)
unfolding StaysWithin
stays-limit program limit = tt

pub stays-choice : (program : TreeView) (choice : Bool) (one other : Outcome) → StaysWithin program one → StaysWithin program other → StaysWithin program (if choice then one else other)
stays-choice program true one other first second = first
stays-choice program false one other first second = second

pub stays-result : {A : Type 0} (program : TreeView) (result : Result A ℕ) (next : A → Outcome) → ((a : A) → StaysWithin program (next a)) → StaysWithin program (with_result result next)
unfolding StaysWithin
stays-result program (Ok a) next each = each a
stays-result program (Err trap) next each = tt

-- an event isn't a step
pub stays-event : (program : TreeView) (outcome : Outcome) → Fits outcome true → StaysWithin program outcome
unfolding StaysWithin Fits
stays-event program (StepsTo next) fits = absurd fits
stays-event program (Asks ask tree) fits = tt
stays-event program (Occurs point tree) fits = tt
stays-event program (Ends number) fits = tt
stays-event program (Traps trap) fits = tt
stays-event program (Limits limit) fits = tt

-- the words of the forms
pub stays-on : (here : StepStart) (items : List Item) → IsEnough here items (length here.task.env) → AreCallsWithin here → StaysWithin here.program (goes_on here items)
unfolding StaysWithin
stays-on here items enough calls = record { now = enough; calls = calls }

pub stays-with : (here : StepStart) (names : ℕ) (items : List Item) → IsEnough here items (min names (length here.task.env)) → AreCallsWithin here → StaysWithin here.program (goes_on_with here names items)
unfolding StaysWithin
stays-with here names items enough calls = record { now = rw (length-take names here.task.env) enough; calls = calls }

pub stays-sets : (here : StepStart) (cell : ℕ) (number : ℤ) (items : List Item) → IsEnough here items (length here.task.env) → AreCallsWithin here → StaysWithin here.program (sets here cell number items)
unfolding StaysWithin
stays-sets here cell number items enough calls = record { now = enough; calls = calls }

pub stays-binds : (here : StepStart) (bound : Bound) (items : List Item) → IsEnough here items (length bound.env) → AreCallsWithin here → StaysWithin here.program (binds here bound items)
stays-binds here bound items enough calls = stays-unless here.program _ _ _ (record { now = enough; calls = calls })

-- a name comes into scope
pub stays-bound : (here : StepStart) (name slot : ℕ) (numbers : List ℤ) (items : List Item) → IsEnough here items (length here.task.env + 1) → AreCallsWithin here → StaysWithin here.program (binds here (with_cells (bound_of here) name slot numbers) items)
stays-bound here name slot numbers items enough calls =
    stays-binds here (with_cells (bound_of here) name slot numbers) items (rw (one_more here.task.env _) enough) calls
