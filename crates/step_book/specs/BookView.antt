-- What a book is seen as: its run, the history so far, and whether the run was ended for want of memory.
use Rattle.std.specs.Prelude.{Bool, List, ◌++◌, refl}
use Rattle.std.specs.Coded.{Coded, code_by, coded×, coded_bool, coded_list}
use Rattle.omp_machine.specs.State.{run_code}
use Rattle.omp_model.specs.contracts.history.Entry as entry
use Rattle.omp_model.specs.declared.history.Entry.{Entry}
use Rattle.omp_model.specs.State.{Run, State}
use Rattle.omp_model.specs.Legal.{after}

pub record BookView : Type 0 where
  pub run : Run
  pub history : List Entry
  pub ended : Bool

abbrev pub book_view_code : Coded BookView
book_view_code =
    code_by (Run × (List Entry × Bool)) (coded× run_code (coded× (coded_list entry.the_row.coded) coded_bool))
    (λ book. (book.run, (book.history, book.ended)))
    (λ p. record { run = p.0; history = p.1.0; ended = p.1.1 })
    (λ _. refl)

-- the state to which the history leads
abbrev pub state_of : BookView → State
state_of book = after book.run book.history

-- the book in which these entries are put last
abbrev pub with_entries : BookView → List Entry → BookView
with_entries book entries = record book { history = book.history ++ entries }
