-- What a step comes to, in the words of the forms: what stands behind it uses only names that are in scope.
use Rattle.std.specs.Prelude.{ℕ, if◌then◌else◌, Bool, true, false, List, [], ◌∷◌, ◌++◌, length, take, Result, Ok, Err, ℤ}
use Rattle.std.specs.List.{All}
use Rattle.std.proofs.Common.{subst, sym}
use Rattle.std.proofs.lemmas.List.{take-map}
use Rattle.c_syntax.specs.language.Tree.{Tree}
use Rattle.c_syntax.specs.language.Numbered.{TreeView}
use Rattle.c_model.specs.declared.entry.Entry.{Entry}
use Rattle.c_model.specs.declared.point.Point.{Point}
use Rattle.c_model.specs.declared.point.Point.TheVariants.{TaskCreate}
use Rattle.c_model.specs.Begin.{created_construct}
use Rattle.c_model.specs.Cells.{Bound, with_cells}
use Rattle.c_model.specs.Clauses.{construct_statement}
use Rattle.c_model.specs.StepOutcomes.{binds, bound_of, goes_on, goes_on_with, sets, with_result}
use Rattle.c_model.specs.AfterEvents.{items_after, names_after}
use Rattle.c_model.specs.Task.{StepStart, Item, Moment, Outcome}
use Rattle.c_model.specs.Task.Outcome.{StepsTo, Occurs, Limits}
use Rattle.c_model.specs.Scoped.{IsCallScoped, IsOpenable, IsScoped, IsWellScoped, Knows, Scoped, ScopedBehind, names_of}
use Rattle.c_model.proofs.ScopeNames.{names_push}

-- the construct of a task that is created lists names in scope, and has a statement that uses only such
abbrev pub CreatesScoped : TreeView → List ℕ → Point → List Item → Type 0
CreatesScoped program names (TaskCreate codeptr undeferred) items = IsOpenable names (created_construct items) × Knows program names (construct_statement (created_construct items))
CreatesScoped program names point items = Unit {0}

-- what comes of an event of an item that stands before what remains
pub record LeadsOn (here : StepStart) (item : Item) (point : Point) : Type 0 where
  pub leads : (executes : Bool) → Scoped here.program (items_after point executes (length here.task.env) item ++ here.task.todo) (names_of (names_after point item here.task.env))
  pub creates : CreatesScoped here.program (names_of here.task.env) point (item ∷ here.task.todo)

unfoldable pub Keeps : StepStart → Item → Outcome → Type 0
Keeps here item (StepsTo next) = IsScoped here.program next.task
Keeps here item (Occurs point tree) = LeadsOn here item point
Keeps here item other = Unit {0}

-- an item stands before what remains, and uses only names in scope
pub record IsRoomFor (here : StepStart) (item : Item) : Type 0 where
  pub program : IsWellScoped here.program
  pub now : ScopedBehind here.program (names_of here.task.env) item (Scoped here.program here.task.todo)
  pub calls : All (IsCallScoped here.program) here.task.calls

-- outcomes
pub keeps_choice : (here : StepStart) (item : Item) (choice : Bool) (one other : Outcome) → Keeps here item one → Keeps here item other → Keeps here item (if choice then one else other)
keeps_choice here item true one other first second = first
keeps_choice here item false one other first second = second

pub keeps_limit : (here : StepStart) (item : Item) (limit : ℕ) → Keeps here item (Limits limit)
unfolding Keeps
keeps_limit here item limit = tt

pub keeps_step : (here : StepStart) (item : Item) (next : Moment) → IsScoped here.program next.task → Keeps here item (StepsTo next)
unfolding Keeps
keeps_step here item next is = is

pub keeps_unless : (here : StepStart) (item : Item) (choice : Bool) (limit : ℕ) (next : Moment) → IsScoped here.program next.task → Keeps here item (if choice then Limits limit else StepsTo next)
keeps_unless here item choice limit next is = keeps_choice here item choice (Limits limit) (StepsTo next) (keeps_limit here item limit) (keeps_step here item next is)

pub keeps_event : (here : StepStart) (item : Item) (point : Point) (tree : Tree) → LeadsOn here item point → Keeps here item (Occurs point tree)
unfolding Keeps
keeps_event here item point tree is = is

pub keeps_result : {A : Type 0} (here : StepStart) (item : Item) (result : Result A ℕ) (next : A → Outcome) → ((a : A) → Keeps here item (next a)) → Keeps here item (with_result result next)
unfolding Keeps
keeps_result here item (Ok a) next each = each a
keeps_result here item (Err trap) next each = tt

-- the words of the forms
pub keeps_on : (here : StepStart) (item : Item) (items : List Item) → Scoped here.program (items ++ here.task.todo) (names_of here.task.env) → IsRoomFor here item → Keeps here item (goes_on here items)
unfolding Keeps
keeps_on here item items now room = record { now = now; calls = room.calls }

pub keeps_with : (here : StepStart) (item : Item) (names : ℕ) → Scoped here.program here.task.todo (take names (names_of here.task.env)) → IsRoomFor here item → Keeps here item (goes_on_with here names [])
unfolding Keeps
keeps_with here item names now room =
    record { now = subst (λ (known : List ℕ). Scoped here.program here.task.todo known) (take-map (λ (entry : Entry). entry.name) names here.task.env) now; calls = room.calls }

pub keeps_sets : (here : StepStart) (item : Item) (cell : ℕ) (number : ℤ) (items : List Item) → Scoped here.program (items ++ here.task.todo) (names_of here.task.env) → IsRoomFor here item → Keeps here item (sets here cell number items)
unfolding Keeps
keeps_sets here item cell number items now room = record { now = now; calls = room.calls }

pub keeps_binds : (here : StepStart) (item : Item) (bound : Bound) (items : List Item) → Scoped here.program (items ++ here.task.todo) (names_of bound.env) → IsRoomFor here item → Keeps here item (binds here bound items)
keeps_binds here item bound items now room = keeps_unless here item _ _ _ (record { now = now; calls = room.calls })

-- a name comes into scope
pub keeps_bound : (here : StepStart) (item : Item) (name slot : ℕ) (numbers : List ℤ) (items : List Item) → Scoped here.program (items ++ here.task.todo) (names_of here.task.env ++ name ∷ []) → IsRoomFor here item → Keeps here item (binds here (with_cells (bound_of here) name slot numbers) items)
keeps_bound here item name slot numbers items now room =
    keeps_binds here item (with_cells (bound_of here) name slot numbers) items
    (subst (λ (known : List ℕ). Scoped here.program (items ++ here.task.todo) known) (sym (names_push here.task.env _)) now) room
