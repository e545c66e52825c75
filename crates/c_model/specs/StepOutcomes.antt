-- What a step comes to, in the words of the forms of statements: it goes on, makes names and cells, sets a cell; or its expressions trap.
use Rattle.std.specs.Prelude.{ℕ, if◌then◌else◌, List, ◌++◌, slice_set, Result, Ok, Err, ℤ, take}
use Rattle.c_syntax.specs.language.Tree.{Tree}
use Rattle.c_model.specs.declared.limits.TheConstants.{CELLS}
use Rattle.c_model.specs.Cells.{Bound, has_too_many}
use Rattle.c_model.specs.Value.{Scope, value}
use Rattle.c_model.specs.Task.{StepStart, Item, Outcome}
use Rattle.c_model.specs.Task.Outcome.{StepsTo, Traps, Limits}

abbrev pub scope_of : StepStart → Scope
scope_of here = record { env = here.task.env; cells = here.store.cells; view = here.view }

abbrev pub bound_of : StepStart → Bound
bound_of here = record { env = here.task.env; cells = here.store.cells }

abbrev pub value_here : StepStart → Tree → Result ℤ ℕ
value_here here expression = value (scope_of here) expression

-- with what was evaluated; a trap counts
abbrev pub with_result : {A : Type 0} → Result A ℕ → (A → Outcome) → Outcome
with_result (Ok result) next = next result
with_result (Err trap) next = Traps trap

-- these items stand next, before what remains
abbrev pub goes_on : StepStart → List Item → Outcome
goes_on here items = StepsTo (record { task = record here.task { todo = items ++ here.task.todo }; store = here.store })

-- .. and so many names stay in scope
abbrev pub goes_on_with : StepStart → ℕ → List Item → Outcome
goes_on_with here names items =
    StepsTo (record { task = record here.task { todo = items ++ here.task.todo; env = take names here.task.env }; store = here.store })

-- .. and a cell holds a number
abbrev pub sets : StepStart → ℕ → ℤ → List Item → Outcome
sets here cell number items =
    StepsTo (record {
      task = record here.task { todo = items ++ here.task.todo };
      store = record here.store { cells = slice_set here.store.cells cell number };
    })

-- .. and there are new names and cells, if there is room for them
abbrev pub binds : StepStart → Bound → List Item → Outcome
binds here bound items =
    if has_too_many bound.cells then Limits CELLS
    else StepsTo (record {
      task = record here.task { todo = items ++ here.task.todo; env = bound.env };
      store = record here.store { cells = bound.cells };
    })
