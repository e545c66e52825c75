-- What is heard of a history stands at rising places below the limit of traces, and each record is of an event that has just occurred.
use Rattle.std.proofs.Common.{ℕ, zero, suc, ◌≡◌, ◌≤◌, ◌<◌, ◌+◌, Bool, true, false, ◌&&◌, IsTrue, is_none, if◌then◌else◌, List, [], ◌∷◌, ◌++◌, length, map, slice_index_or, refl, sym, ap, ◌∙◌, subst, arith}
use Rattle.std.specs.List.{All}
use Rattle.std.proofs.lemmas.Bool.{and_parts}
use Rattle.std.proofs.lemmas.List.{map-append}
use Rattle.std.proofs.lemmas.List.Elements.{All-append, All-cons, All-nil}
use Rattle.ompt_calls.specs.Item.{Item}
use Rattle.ompt_calls.specs.declared.event.EventRecord.{EventRecord}
use Rattle.ompt_calls.specs.Number.{is_registered}
use Rattle.omp_model.specs.declared.event.Event.{Event}
use Rattle.omp_model.specs.declared.event.Outcome.{Outcome}
use Rattle.omp_model.specs.declared.event.Outcome.TheVariants.{Happens}
use Rattle.omp_model.specs.declared.history.What.{What}
use Rattle.omp_model.specs.declared.history.What.TheVariants.{Go}
use Rattle.omp_model.specs.declared.history.Entry.{Entry}
use Rattle.omp_model.specs.State.{Run, State, Thread, World, first, pending_at, unmade}
use Rattle.omp_model.specs.Calls.{call_of, callback_of}
use Rattle.omp_model.specs.Gates.{arrival}
use Rattle.omp_model.specs.Heard.{has_back, heard_at, heard_event, heard_from, heard_outcome, stores_in}
use Rattle.omp_model.specs.Legal.{AllowsFrom, Legal, after, after_from, entered, may}
use Rattle.omp_model.specs.MadeWorld.{IsThread}
use Rattle.omp_model.specs.Records.{record_of, records_of}
use Rattle.omp_model.specs.Snapshots.{snap_of}
use Rattle.omp_model.specs.Turn.{enabled, goes_on, turn}
use Rattle.omp_model.specs.Words.{is_made_thread}
use Rattle.omp_model.proofs.Arriving.{thread-goes}
use Rattle.omp_model.proofs.MadeRuns.{made-after}
use Rattle.trace_format.specs.declared.trace.TheConstants.{SEQ_LIMIT}
use Rattle.run_trace.proofs.Counted.{few-entries}

-- the record of an event that has just occurred on the thread after some legal history, at this place
pub record IsOccurred (run : Run) (event : EventRecord) : Type 0 where
  pub before : List Entry
  pub legal : Legal run before
  pub happened : Event
  pub happens : (turn run (after run before) event.thread).outcome ≡ Happens happened
  pub registered : is_registered run.mask (callback_of happened) ≡ true
  pub thread : event.thread < run.threads
  pub state : event.state ≡ (snap_of (turn run (after run before) event.thread).state.world event.thread happened).state
  pub call : event.call ≡ call_of (turn run (after run before) event.thread).state.world event.thread happened

-- places that rise from this one on, and stay below the limit
abbrev pub AreBelow : ℕ → ℕ → List EventRecord → Type 0
AreBelow limit least [] = Unit {0}
AreBelow limit least (event ∷ rest) = (least ≤ event.seq) × (event.seq < limit) × AreBelow limit (event.seq + 1) rest

-- Places.

-- what rises from a place on rises from any earlier one
from-earlier : (limit least from : ℕ) (events : List EventRecord) → least ≤ from → AreBelow limit from events → AreBelow limit least events
from-earlier limit least from [] early below = tt
from-earlier limit least from (event ∷ rest) early below = (omega (arith, below.0), below.1, below.2)

-- what is heard at a place stands there, and what comes after it beyond it
below-event : (run : Run) (limit position t : ℕ) (W : World) (event : Event) (rest : List Entry) (more : List EventRecord) → position < limit → AreBelow limit (position + 1) more → AreBelow limit position (map record_of (heard_event run position t W event rest) ++ more)
below-event run limit position t W event rest more here below = place (is_registered run.mask (callback_of event) && has_back t rest)
  where
    one : List Item
    one = record { seq = position; thread = t; call = call_of W t event; snapshot = snap_of W t event; stores = stores_in t rest } ∷ []

    place : (b : Bool) → AreBelow limit position (map record_of (if b then one else []) ++ more)
    place true = (omega arith, here, below)
    place false = from-earlier limit position (position + 1) more (omega arith) below

below-outcome : (run : Run) (limit position t : ℕ) (S : State) (came : Outcome) (rest : List Entry) (more : List EventRecord) → position < limit → AreBelow limit (position + 1) more → AreBelow limit position (map record_of (heard_outcome run position t S came rest) ++ more)
below-outcome run limit position t S (Happens event) rest more here below = below-event run limit position t S.world event rest more here below
below-outcome run limit position t S other rest more here below = from-earlier limit position (position + 1) more (omega arith) below

below-at : (run : Run) (S : State) (limit position t : ℕ) (what : What) (rest : List Entry) (more : List EventRecord) → position < limit → AreBelow limit (position + 1) more → AreBelow limit position (map record_of (heard_at run S position t what rest) ++ more)
below-at run S limit position t Go rest more here below = below-outcome run limit position t (turn run S t).state (turn run S t).outcome rest more here below
below-at run S limit position t other rest more here below = from-earlier limit position (position + 1) more (omega arith) below

below-from : (run : Run) (S : State) (limit position : ℕ) (history : List Entry) → position + length history ≤ limit → AreBelow limit position (map record_of (heard_from run S position history))
below-from run S limit position [] fits = tt
below-from run S limit position (entry ∷ rest) fits =
    let after = heard_from run (entered run S entry) (position + 1) rest in
    subst (AreBelow limit position) (sym (map-append record_of (heard_at run S position entry.thread entry.what rest) after))
    (below-at run S limit position entry.thread entry.what rest (map record_of after) (omega arith) (below-from run (entered run S entry) limit (position + 1) rest (omega arith)))

pub places-below : (run : Run) (history : List Entry) → 1 ≤ run.threads → Legal run history → AreBelow SEQ_LIMIT 0 (records_of run history)
places-below run history some legal = let few = few-entries run history legal in below-from run (first run) SEQ_LIMIT 0 history (omega arith)

-- Occurrences.

-- after these entries and those
after-append : (run : Run) (S : State) (history more : List Entry) → after_from run S (history ++ more) ≡ after_from run (after_from run S history) more
after-append run S [] more = refl
after-append run S (entry ∷ rest) more = after-append run (entered run S entry) rest more

allows-append : (run : Run) (S : State) (history more : List Entry) → AllowsFrom run S history → AllowsFrom run (after_from run S history) more → AllowsFrom run S (history ++ more)
allows-append run S [] more allows next = next
allows-append run S (entry ∷ rest) more allows next = (allows.0, allows-append run (entered run S entry) rest more allows.1 next)

-- a thread that goes on is one of the run's
goes-on : (S : State) (t : ℕ) → enabled S t ≡ true → goes_on (arrival S.world t) ≡ true
unfolding enabled
goes-on S t goes = (and_parts (is_none (pending_at S t) && is_none S.halt) (goes_on (arrival S.world t)) goes).1

made-below : (W : World) (t : ℕ) → IsThread W t → t < length W.threads
made-below W t made = below W.threads t made
  where
    below : (threads : List Thread) (t : ℕ) → is_made_thread (slice_index_or threads t unmade).stage ≡ true → t < length threads
    below [] t made = cc
    below (thread ∷ threads) zero made = omega arith
    below (thread ∷ threads) (suc t) made = let less = below threads t made in omega arith

enabled-below : (run : Run) (before : List Entry) (t : ℕ) → 1 ≤ run.threads → enabled (after run before) t ≡ true → t < run.threads
enabled-below run before t some goes =
    let S = after run before in
    let below = made-below S.world t (thread-goes S.world t (goes-on S t goes)) in
    let count = (made-after run before some).threads in
    omega arith

module _ (run : Run) (some : 1 ≤ run.threads) where
  -- what is heard at an entry that is allowed
  occurred-event : (before : List Entry) (position t : ℕ) (event : Event) (rest : List Entry) → Legal run before → enabled (after run before) t ≡ true → (turn run (after run before) t).outcome ≡ Happens event →
      All (IsOccurred run) (map record_of (heard_event run position t (turn run (after run before) t).state.world event rest))
  occurred-event before position t event rest legal goes happens = occurred (is_registered run.mask (callback_of event)) (has_back t rest) refl
    where
      W : World
      W = (turn run (after run before) t).state.world

      one : List Item
      one = record { seq = position; thread = t; call = call_of W t event; snapshot = snap_of W t event; stores = stores_in t rest } ∷ []

      occurred : (b c : Bool) → is_registered run.mask (callback_of event) ≡ b → All (IsOccurred run) (map record_of (if b && c then one else []))
      occurred false c is = All-nil (IsOccurred run)
      occurred true false is = All-nil (IsOccurred run)
      occurred true true is =
          All-cons (IsOccurred run) _ [] (record {
            before = before;
            legal = legal;
            happened = event;
            happens = happens;
            registered = is;
            thread = enabled-below run before t some goes;
            state = refl;
            call = refl;
          }) (All-nil (IsOccurred run))

  occurred-outcome : (before : List Entry) (position t : ℕ) (came : Outcome) (rest : List Entry) → Legal run before → enabled (after run before) t ≡ true → (turn run (after run before) t).outcome ≡ came →
      All (IsOccurred run) (map record_of (heard_outcome run position t (turn run (after run before) t).state came rest))
  occurred-outcome before position t (Happens event) rest legal goes is = occurred-event before position t event rest legal goes is
  occurred-outcome before position t other rest legal goes is = All-nil (IsOccurred run)

  occurred-at : (before : List Entry) (position t : ℕ) (what : What) (rest : List Entry) → Legal run before → may run (after run before) t what ≡ true → All (IsOccurred run) (map record_of (heard_at run (after run before) position t what rest))
  occurred-at before position t Go rest legal goes = occurred-outcome before position t (turn run (after run before) t).outcome rest legal goes refl
  occurred-at before position t other rest legal goes = All-nil (IsOccurred run)

  occurred-from : (before : List Entry) (S : State) (position : ℕ) (history : List Entry) → after run before ≡ S → Legal run before → AllowsFrom run S history → All (IsOccurred run) (map record_of (heard_from run S position history))
  occurred-from before S position [] is legal allows = All-nil (IsOccurred run)
  occurred-from before S position (entry ∷ rest) is legal allows =
      let next = heard_from run (entered run S entry) (position + 1) rest in
      let here = heard_at run S position entry.thread entry.what rest in
      let legal_next : Legal run (before ++ entry ∷ []) = allows-append run (first run) before (entry ∷ []) legal (subst (λ state. AllowsFrom run state (entry ∷ [])) (sym is) (allows.0, tt)) in
      let reached : after run (before ++ entry ∷ []) ≡ entered run S entry = after-append run (first run) before (entry ∷ []) ∙ ap (λ state. entered run state entry) is in
      let now : All (IsOccurred run) (map record_of here) = subst (λ state. IsTrue (may run state entry.thread entry.what) → All (IsOccurred run) (map record_of (heard_at run state position entry.thread entry.what rest))) is (occurred-at before position entry.thread entry.what rest legal) allows.0 in
      subst (All (IsOccurred run)) (sym (map-append record_of here next))
      (All-append (IsOccurred run) (map record_of here) (map record_of next) now (occurred-from (before ++ entry ∷ []) (entered run S entry) (position + 1) rest reached legal_next allows.1))

pub all-occurred : (run : Run) (history : List Entry) → 1 ≤ run.threads → Legal run history → All (IsOccurred run) (records_of run history)
all-occurred run history some legal = occurred-from run some [] (first run) 0 history refl tt legal

-- so many records lie below the limit at most
count-below : (limit least : ℕ) (events : List EventRecord) → least ≤ limit → AreBelow limit least events → least + length events ≤ limit
count-below limit least [] low below = omega (arith, low)
count-below limit least (event ∷ rest) low below =
    let more = count-below limit (event.seq + 1) rest (omega (arith, below.1)) below.2 in
    omega (arith, below.0, more)

pub few-records : (run : Run) (history : List Entry) → 1 ≤ run.threads → Legal run history → length (records_of run history) ≤ SEQ_LIMIT
few-records run history some legal =
    let few = count-below SEQ_LIMIT 0 (records_of run history) (omega arith) (places-below run history some legal) in omega (arith, few)
