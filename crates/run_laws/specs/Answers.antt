-- A serial history in which the tools answer each event as they are said to.
use Rattle.std.specs.Prelude.{ℕ, ◌≡◌, List, [], ◌∷◌, ◌++◌, true, if◌then◌else◌}
use Rattle.ompt_calls.specs.Number.{is_registered}
use Rattle.ompt_calls.specs.Snapshot.{Stored, stores_of}
use Rattle.ompt_calls.specs.declared.reply.Reply.{Reply}
use Rattle.omp_model.specs.declared.event.Event.{Event}
use Rattle.omp_model.specs.declared.event.Outcome.{Outcome}
use Rattle.omp_model.specs.declared.event.Outcome.TheVariants.{Happens}
use Rattle.omp_model.specs.declared.history.Entry.{Entry}
use Rattle.omp_model.specs.Calls.{callback_of}
use Rattle.omp_model.specs.Heard.{stores_in}
use Rattle.omp_model.specs.Legal.{Legal, after}
use Rattle.omp_model.specs.Serial.{WholeSerial}
use Rattle.omp_model.specs.Snapshots.{snap_of}
use Rattle.omp_model.specs.State.{Run, World}
use Rattle.omp_model.specs.Storing.{MayStore, go_at}
use Rattle.omp_model.specs.Turn.{enabled, turn}

-- what is stored during the callback of an event, by the history before the event's turn and by its thread
abbrev pub Answering : Type 0
Answering = List Entry → ℕ → List Stored

-- each answer to an event may stand in turn: at most three stores, each of what was made, and none where no tool is told of the event
abbrev pub MayAnswer : Run → Answering → Type 0
MayAnswer run answer =
    (front : List Entry) (t : ℕ) (event : Event) → Legal run front → enabled (after run front) t ≡ true →
    (turn run (after run front) t).outcome ≡ Happens event → MayStore run (turn run (after run front) t).state t (answer front t)

-- wherever an event occurs in the history, the answer is what is stored during its callback
abbrev pub Answers : Run → Answering → List Entry → Type 0
Answers run answer history =
    (front rest : List Entry) (t : ℕ) (event : Event) → history ≡ front ++ go_at t ∷ rest → (turn run (after run front) t).outcome ≡ Happens event →
    stores_in t rest ≡ answer front t

-- a serial history to the end in which each event is answered so
pub record AnsweredRun (run : Run) (answer : Answering) : Type 0 where
  pub history : List Entry
  pub whole : WholeSerial run history
  pub answers : Answers run answer history

-- what the tool of an event replies, where it is told of it
abbrev pub Replying : Type 0
Replying = List Entry → ℕ → Reply

abbrev pub stores_of_reply : Run → World → ℕ → Reply → Outcome → List Stored
stores_of_reply run W t reply (Happens event) = if is_registered run.mask (callback_of event) then stores_of reply (snap_of W t event) else []
stores_of_reply run W t reply other = []

-- the stores of these replies, in the world right after the event's turn; of an event of which no tool is told there are none
abbrev pub stores_told : Run → Replying → Answering
stores_told run reply front t =
    let one = turn run (after run front) t in stores_of_reply run one.state.world t (reply front t) one.outcome
