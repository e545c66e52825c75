-- The rule of the table of one word: the word is the number of entries of one list of holds, of which each pass has
-- seen a beginning, beyond which no hold is of the pass's thread. No two passes are of one thread, and all threads have
-- numbers below the number of passes made. Any seat's view may be spent.
use Rattle.std.specs.Prelude.{◌≡◌, ℕ, ◌<◌, ◌≢◌, List, [], ◌∷◌, ◌++◌, length, flat_map, All, Option, Some, None}
use lib.ListN.{get_elem?}
use mathlib.Core.Option.{some}
use Rattle.atomic_table.specs.Table.{State}
use Rattle.omp_model.specs.declared.history.Entry.{Entry}
use Rattle.step_book.specs.declared.hold.Hold.{Hold}
use Rattle.step_book.specs.declared.view.TakenPass.{TakenPass}
use Rattle.step_book.specs.declared.view.SeatView.{SeatView}
use Rattle.step_book.specs.declared.view.SeatView.TheVariants.{Spent, OfPass, OfBook}

-- the entries of these holds, in order
abbrev pub entries_of : List Hold → List Entry
entries_of holds = flat_map (λ (hold : Hold). hold.entries) holds

-- none of the holds is of this thread
abbrev pub NoneBy : ℕ → List Hold → Type 0
NoneBy thread holds = All (λ (hold : Hold). hold.thread ≢ thread) holds

-- the threads of the holds have numbers below this
abbrev pub AllBelow : ℕ → List Hold → Type 0
AllBelow made holds = All (λ (hold : Hold). hold.thread < made) holds

-- all holds begin with those that this thread's pass has seen, and no hold beyond is of this thread
pub record IsBeginning (thread : ℕ) (seen all : List Hold) : Type 0 where
  pub rest : List Hold
  pub whole : all ≡ seen ++ rest
  pub others : NoneBy thread rest

-- what the pass of a thread may know, where these are all holds and so many passes were made
pub record IsPass (all : List Hold) (made thread : ℕ) (seen : List Hold) : Type 0 where
  pub below : thread < made
  pub begins : IsBeginning thread seen all

-- the pass that the book has taken in, if any, knows what it may know
abbrev pub MayHold : List Hold → ℕ → Option TakenPass → Type 0
MayHold all made None = Unit {0}
MayHold all made (Some held) = IsPass all made held.thread held.seen

-- what the seat with this number may know. The first seat is the book's, and no other one
abbrev pub MayKnow : List Hold → ℕ → ℕ → SeatView → Type 0
MayKnow all made seat Spent = Unit {0}
MayKnow all made seat (OfPass thread seen) = IsPass all made thread seen
MayKnow all made seat (OfBook holds count held) = (seat ≡ 0) × (holds ≡ all) × (count ≡ made) × MayHold all made held

-- the number of the thread whose pass was taken in, if any
abbrev pub thread_of_held : Option TakenPass → Option ℕ
thread_of_held None = None
thread_of_held (Some held) = Some held.thread

-- the number of the thread whose pass the seat is or has taken in, if any
abbrev pub thread_in : SeatView → Option ℕ
thread_in Spent = None
thread_in (OfPass thread seen) = Some thread
thread_in (OfBook holds count held) = thread_of_held held

-- the seat with this number knows this
abbrev pub SeatKnows : List SeatView → ℕ → SeatView → Type 0
SeatKnows views seat view = get_elem? views seat ≡ some view

-- each seat knows what it may know, and no two seats have passes of one thread
pub record IsSeated (all : List Hold) (made : ℕ) (views : List SeatView) : Type 0 where
  pub fits : (seat : ℕ) (view : SeatView) → SeatKnows views seat view → MayKnow all made seat view
  pub distinct : (one two : ℕ) (v w : SeatView) (thread : ℕ)
      → SeatKnows views one v → thread_in v ≡ Some thread → SeatKnows views two w → thread_in w ≡ Some thread → one ≡ two

-- the rule, where these are all holds and so many passes were made
pub record IsOneHistory (words : List ℕ) (views : List SeatView) (all : List Hold) (made : ℕ) : Type 0 where
  pub count : words ≡ length (entries_of all) ∷ []
  pub seated : IsSeated all made views
  pub below : AllBelow made all

-- a state of the table, which has no slots
abbrev pub TableState : Type 0
TableState = State (Unit {0}) SeatView

-- the rule: there is such a list of all holds, and such a number of passes made
abbrev pub HasOneHistory : TableState → Type 0
HasOneHistory table = (all : List Hold) × (made : ℕ) × IsOneHistory table.words table.views all made
