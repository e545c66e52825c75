-- What each kind of step makes of the views, and what it tells.
use Rattle.std.specs.Prelude.{◌≡◌, ℕ, ◌+◌, ◌^◌, ◌<◌, List, [], ◌∷◌, ◌++◌, length, Option, Some, None}
use Rattle.omp_model.specs.declared.history.Entry.{Entry}
use Rattle.step_book.specs.declared.hold.Hold.{Hold}
use Rattle.step_book.specs.declared.view.TakenPass.{TakenPass}
use Rattle.step_book.specs.declared.view.SeatView.{SeatView}
use Rattle.step_book.specs.declared.view.SeatView.TheVariants.{Spent, OfPass, OfBook}
use Rattle.step_book.specs.Rule.{entries_of, IsBeginning, AllBelow}

-- what the book knows when the table is made: no hold, no pass made and none taken in
abbrev pub first_view : SeatView
first_view = OfBook [] 0 None

-- what a seat knows once one more pass was made
abbrev pub one_more_pass : SeatView → SeatView
one_more_pass Spent = Spent
one_more_pass (OfPass thread seen) = OfPass thread seen
one_more_pass (OfBook holds made held) = OfBook holds (made + 1) held

-- what that pass knows: it is of the next thread, and has seen nothing
abbrev pub next_pass : SeatView → SeatView
next_pass Spent = Spent
next_pass (OfPass thread seen) = Spent
next_pass (OfBook holds made held) = OfPass made []

-- a pass that was taken in
abbrev pub pass_of : ℕ → List Hold → TakenPass
pass_of thread seen = record { thread = thread; seen = seen }

-- what the book knows once it has taken in what this seat knows: a pass, in place of any other
abbrev pub with_pass_from : List Hold → ℕ → Option TakenPass → SeatView → SeatView
with_pass_from holds made held Spent = OfBook holds made held
with_pass_from holds made held (OfPass thread seen) = OfBook holds made (Some (pass_of thread seen))
with_pass_from holds made held (OfBook all count other) = OfBook holds made held

-- what a seat knows once it has taken in what another knows
abbrev pub with_pass : SeatView → SeatView → SeatView
with_pass Spent pass = Spent
with_pass (OfPass thread seen) pass = OfPass thread seen
with_pass (OfBook holds made held) pass = with_pass_from holds made held pass

-- the pass that was taken in, if any, has seen a beginning of all holds, beyond which no hold is of its thread
abbrev pub BeginsHeld : List Hold → Option TakenPass → Type 0
BeginsHeld holds None = Unit {0}
BeginsHeld holds (Some held) = IsBeginning held.thread held.seen holds

-- what a look tells the book: the threads of all holds have numbers below that of the passes made, and the list of all
-- holds begins with what the pass has seen that was taken in
abbrev pub LookTells : SeatView → Type 0
LookTells Spent = Unit {0}
LookTells (OfPass thread seen) = Unit {0}
LookTells (OfBook holds made held) = AllBelow made holds × BeginsHeld holds held

-- a hold of this thread, which added these entries
abbrev pub hold_by : ℕ → List Entry → Hold
hold_by thread entries = record { thread = thread; entries = entries }

-- what the book knows once a hold with these entries was put last, of the thread whose pass it has taken in, if any:
-- the pass has seen all
abbrev pub with_hold_from : List Hold → ℕ → Option TakenPass → List Entry → SeatView
with_hold_from holds made None entries = OfBook holds made None
with_hold_from holds made (Some held) entries =
    let all = holds ++ hold_by held.thread entries ∷ [] in OfBook all made (Some (pass_of held.thread all))

-- what a seat knows once such a hold was put last
abbrev pub with_hold : SeatView → List Entry → SeatView
with_hold Spent entries = Spent
with_hold (OfPass thread seen) entries = OfPass thread seen
with_hold (OfBook holds made held) entries = with_hold_from holds made held entries

-- a pass was taken in, and the word can count so many entries more
abbrev pub HasRoomFrom : List Hold → Option TakenPass → ℕ → Type 0
HasRoomFrom holds None count = ⊥
HasRoomFrom holds (Some held) count = length (entries_of holds) + count < 2 ^ 64

-- the seat is the book's, has taken in a pass, and can count so many entries more
abbrev pub HasRoom : SeatView → ℕ → Type 0
HasRoom Spent count = ⊥
HasRoom (OfPass thread seen) count = ⊥
HasRoom (OfBook holds made held) count = HasRoomFrom holds held count

-- what a seat knows once it has given its pass back
abbrev pub without_pass : SeatView → SeatView
without_pass Spent = Spent
without_pass (OfPass thread seen) = OfPass thread seen
without_pass (OfBook holds made held) = OfBook holds made None

-- what the pass knows that was taken in, if any
abbrev pub held_pass_from : Option TakenPass → SeatView
held_pass_from None = Spent
held_pass_from (Some held) = OfPass held.thread held.seen

-- what the pass knows that the seat gives back
abbrev pub held_pass : SeatView → SeatView
held_pass Spent = Spent
held_pass (OfPass thread seen) = Spent
held_pass (OfBook holds made held) = held_pass_from held

-- what the seat knows that a badge is: the only view that it has
abbrev pub view_in : List SeatView → SeatView
view_in [] = Spent
view_in (view ∷ others) = view

-- a badge is a seat where it has one view
abbrev pub IsBadge : List SeatView → Type 0
IsBadge views = views ≡ view_in views ∷ []
