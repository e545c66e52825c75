-- What the threads that share a book know of it, and what their calls add.
use Rattle.std.specs.Prelude.{◌≡◌, ℕ, ◌<◌, Bool, false, List, [], ◌∷◌, ◌++◌, None, get_or, refl}
use Rattle.std.specs.Coded.{Coded, code_by, coded×}
use Rattle.std.specs.List.{list_any}
use Rattle.atomic_table.specs.Seated.{TableId, table_id_coded}
use Rattle.atomic_table.specs.Table.{Me}
use Rattle.omp_machine.specs.State.{run_code}
use Rattle.omp_model.specs.declared.history.Entry.{Entry}
use Rattle.omp_model.specs.State.{Run}
use Rattle.omp_model.specs.Legal.{Legal}
use Rattle.step_book.specs.declared.hold.Hold.{Hold}
use Rattle.step_book.specs.declared.step.Step.{Step}
use Rattle.step_book.specs.declared.view.SeatView.{SeatView}
use Rattle.step_book.specs.declared.view.SeatView.TheVariants.{Spent, OfPass, OfBook}
use Rattle.step_book.specs.Owing.{NotBy}
use Rattle.step_book.specs.BookView.{BookView}
use Rattle.step_book.specs.Rule.{AllBelow, IsBeginning, NoneBy, entries_of}
use Rattle.step_book.specs.Steps.{hold_by, view_in}
use Rattle.step_book.specs.Visit.{is_end, visit}

-- the holds that the book's seat, and that a pass's, knows
abbrev pub holds_in : SeatView → List Hold
holds_in Spent = []
holds_in (OfPass thread seen) = []
holds_in (OfBook holds made held) = holds

abbrev pub seen_in : SeatView → List Hold
seen_in Spent = []
seen_in (OfPass thread seen) = seen
seen_in (OfBook holds made held) = []

-- a pass: its thread, the holds that it has seen, whether it has ended the run for want of memory, and whether its last visit told it that the run is over
pub record PassView : Type 0 where
  pub thread : ℕ
  pub seen : List Hold
  pub ended : Bool
  pub told_over : Bool

-- these entries are of the thread
abbrev pub AllBy : ℕ → List Entry → Type 0
AllBy t [] = Unit {0}
AllBy t (entry ∷ rest) = (entry.thread ≡ t) × AllBy t rest

-- the entries of each hold are of its own thread
abbrev pub AreOwn : List Hold → Type 0
AreOwn [] = Unit {0}
AreOwn (hold ∷ rest) = AllBy hold.thread hold.entries × AreOwn rest

-- the book of this run after these holds
abbrev pub book_after : Run → List Hold → Bool → BookView
book_after run holds ended = record { run = run; history = entries_of holds; ended = ended }

-- A hold of the pass's thread with these entries was made, and is the last that the pass has seen. Between it and what the pass had seen stand other
-- threads' holds.
pub record IsHold (before after : PassView) (between : List Hold) (entries : List Entry) : Type 0 where
  pub others : NoneBy before.thread between
  pub not_by : NotBy before.thread (entries_of between)
  pub seen : after.seen ≡ (before.seen ++ between) ++ hold_by before.thread entries ∷ []
  pub thread : after.thread ≡ before.thread

pub record AddsHold (before after : PassView) (entries : List Entry) : Type 0 where
  pub between : List Hold
  pub is_hold : IsHold before after between entries

-- A visit of the pass's thread: what it is told, and the entries of the hold, are those of a visit to the book as it stood then, after the holds that
-- the pass has now seen but its own. Whether some pass had ended the run for want of memory isn't known.
pub record VisitsAfterOthers (run : Run) (before : PassView) (step : Step) (after : PassView) : Type 0 where
  pub between : List Hold
  pub ended : Bool
  pub step_is : step ≡ (visit (book_after run (before.seen ++ between) ended) before.thread).step
  pub is_hold : IsHold before after between (visit (book_after run (before.seen ++ between) ended) before.thread).added

-- the pass keeps whether this step, its last one, told it that the run is over, where it hasn't ended it itself
abbrev pub KeepsStep : PassView → Step → Type 0
KeepsStep pass step = pass.ended ≡ false → pass.told_over ≡ is_end step

-- The answer of the pass's thread was put last, in a hold of its own, and of the pass as it stood then this is so.
pub record AnswersThen (before : PassView) (entries : List Entry) (Next : PassView → Type 0) : Type 0 where
  pub answered : PassView
  pub grows : AddsHold before answered entries
  pub ended : answered.ended ≡ before.ended
  pub next : Next answered

-- what is so of each pass of a book of this name: its thread is one of the run's, its badge is of the book's table and has seen a legal history
pub record IsPassOf (table at : TableId) (run : Run) (views : List SeatView) (thread : ℕ) : Type 0 where
  pub table_is : at ≡ table
  pub badge : views ≡ OfPass thread (seen_in (view_in views)) ∷ []
  pub below : thread < run.threads
  pub legal : Legal run (entries_of (seen_in (view_in views)))

-- what is so of each locked book of this name: its history is the entries of the holds that its seat knows, each of its own thread
pub record IsLockedBook (table at : TableId) (run : Run) (me : Me (Unit {0}) SeatView) (book : BookView) : Type 0 where
  pub table_is : at ≡ table
  pub run_is : book.run ≡ run
  pub seat : me ≡ (OfBook (holds_in me.0) run.threads None, [])
  pub history : book.history ≡ entries_of (holds_in me.0)
  pub own : AreOwn (holds_in me.0)

-- a book and its table before they have a name
pub record BlankView : Type 0 where
  pub table : TableId
  pub run : Run

abbrev pub blank_code : Coded BlankView
blank_code =
    code_by (TableId × Run) (coded× table_id_coded run_code) (λ blank. (blank.table, blank.run))
    (λ p. record { table = p.0; run = p.1 })
    (λ _. refl)

pub record IsBlank (table at : TableId) (me : Me (Unit {0}) SeatView) (book : BookView) : Type 0 where
  pub table_is : at ≡ table
  pub word : 0 < table.words
  pub seat : me ≡ (OfBook [] 0 None, [])
  pub history : book.history ≡ []

-- a pass that has seen nothing
abbrev pub fresh_pass : ℕ → PassView
fresh_pass thread = record { thread = thread; seen = []; ended = false; told_over = false }

-- a pass has ended the run for want of memory
abbrev pub any_ended : List PassView → Bool
any_ended passes = list_any (λ (pass : PassView). pass.ended) passes

-- A book that was closed with the passes of all its threads: its history is the entries of one list of holds. Each pass has seen a beginning of it,
-- beyond which no hold is of the pass's thread, and one pass has seen all.
pub record IsClosed (run : Run) (passes : List PassView) (history : List Entry) : Type 0 where
  pub all : List Hold
  pub entries : history ≡ entries_of all
  pub legal : Legal run history
  pub own : AreOwn all
  pub below : AllBelow run.threads all
  pub begins : (k : ℕ) (d : PassView) → k < run.threads → IsBeginning k (get_or passes k d).seen all
  pub longest : (k : ℕ) × (k < run.threads) × ((d : PassView) → (get_or passes k d).seen ≡ all)
