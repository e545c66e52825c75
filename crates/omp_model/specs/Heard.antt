-- What is heard of a history: each registered event whose Back stands there.
use Rattle.std.specs.Prelude.{ℕ, ◌+◌, Bool, true, false, ◌&&◌, ◌||◌, ◌==◌, if◌then◌else◌, List, [], ◌∷◌, ◌++◌, filter}
use Rattle.ompt_calls.specs.Item.{Item}
use Rattle.ompt_calls.specs.Number.{is_registered}
use Rattle.ompt_calls.specs.Snapshot.{Stored}
use Rattle.omp_model.specs.declared.history.What.{What}
use Rattle.omp_model.specs.declared.history.What.TheVariants.{Go, Put, Back}
use Rattle.omp_model.specs.declared.history.Entry.{Entry}
use Rattle.omp_model.specs.State.{Run, State, World, first}
use Rattle.omp_model.specs.Calls.{call_of, callback_of}
use Rattle.omp_model.specs.Snapshots.{snap_of}
use Rattle.omp_model.specs.declared.event.Event.{Event}
use Rattle.omp_model.specs.declared.event.Outcome.{Outcome}
use Rattle.omp_model.specs.declared.event.Outcome.TheVariants.{Happens}
use Rattle.omp_model.specs.Turn.{turn}
use Rattle.omp_model.specs.Legal.{entered}

abbrev pub is_back : What → Bool
is_back Go = false
is_back (Put target word) = false
is_back Back = true

-- a Back of the thread stands among these entries
abbrev pub has_back : ℕ → List Entry → Bool
has_back t [] = false
has_back t (entry ∷ rest) = (is_back entry.what && entry.thread == t) || has_back t rest

-- the stores of an entry of the thread, and of those after it, up to the Back
abbrev pub stores_at : What → List Stored → List Stored
stores_at Go more = more
stores_at (Put target word) more = record { target = target; word = word } ∷ more
stores_at Back more = []

-- the stores of the thread among these entries, up to its Back
abbrev pub stores_in : ℕ → List Entry → List Stored
stores_in t [] = []
stores_in t (entry ∷ rest) = if entry.thread == t then stores_at entry.what (stores_in t rest) else stores_in t rest

-- the event is heard where its callback is registered and its Back comes
abbrev pub heard_event : Run → ℕ → ℕ → World → Event → List Entry → List Item
heard_event run position t W event rest =
    if is_registered run.mask (callback_of event) && has_back t rest
    then record { seq = position; thread = t; call = call_of W t event; snapshot = snap_of W t event; stores = stores_in t rest } ∷ []
    else []

abbrev pub heard_outcome : Run → ℕ → ℕ → State → Outcome → List Entry → List Item
heard_outcome run position t after (Happens event) rest = heard_event run position t after.world event rest
heard_outcome run position t after other rest = []

-- what is heard of one entry, which these follow
abbrev pub heard_at : Run → State → ℕ → ℕ → What → List Entry → List Item
heard_at run S position t Go rest = heard_outcome run position t (turn run S t).state (turn run S t).outcome rest
heard_at run S position t (Put target word) rest = []
heard_at run S position t Back rest = []

-- what is heard of these entries on all threads, in order, from this state and position on
abbrev pub heard_from : Run → State → ℕ → List Entry → List Item
heard_from run S position [] = []
heard_from run S position (entry ∷ rest) =
    heard_at run S position entry.thread entry.what rest ++ heard_from run (entered run S entry) (position + 1) rest

-- what is heard of a history on all threads, in order
abbrev pub heard : Run → List Entry → List Item
heard run history = heard_from run (first run) 0 history

-- what is heard of a history on one thread
abbrev pub heard_of : Run → List Entry → ℕ → List Item
heard_of run history t = filter (λ (item : Item). item.thread == t) (heard run history)
