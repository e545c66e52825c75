-- What other threads' entries leave as it was, and whose entries a call adds.
use Rattle.std.proofs.Common.{◌≡◌, ◌≢◌, ℕ, Bool, true, false, if◌then◌else◌, List, [], ◌∷◌, ◌++◌, ◌+◌, length, Option, Some, None, slice_index_or, refl, sym, ap, ◌∙◌, append_assoc}
use Rattle.std.proofs.lemmas.List.{get_or-set_other}
use Rattle.std.proofs.lemmas.List.Elements.{All-head, All-tail}
use Rattle.ompt_calls.specs.declared.call.Call.{Call}
use Rattle.ompt_calls.specs.declared.snapshot.Snapshot.{Snapshot}
use Rattle.ompt_calls.specs.declared.snapshot.Target.{Target}
use Rattle.ompt_calls.specs.Number.{is_registered}
use Rattle.ompt_calls.specs.Snapshot.{Stored}
use Rattle.omp_model.specs.declared.cause.Cause.{Cause}
use Rattle.omp_model.specs.declared.event.Callback.{Callback}
use Rattle.omp_model.specs.declared.event.Outcome.{Outcome}
use Rattle.omp_model.specs.declared.event.Outcome.TheVariants as outcome
use Rattle.omp_model.specs.declared.history.Entry.{Entry}
use Rattle.omp_model.specs.declared.history.What.{What}
use Rattle.omp_model.specs.declared.history.What.TheVariants.{Go, Put, Back}
use Rattle.omp_model.specs.State.{Run, State, World, first, pending_at}
use Rattle.omp_model.specs.Calls.{call_of, callback_of}
use Rattle.omp_model.specs.Cause.{cause_of}
use Rattle.omp_model.specs.Legal.{after, after_from, back_from, does, entered, put_from}
use Rattle.omp_model.specs.Snapshots.{snap_of}
use Rattle.omp_model.specs.Storing.{back_at, event_reply, go_at}
use Rattle.omp_model.specs.Turn.{called, enabled, turn}
use Rattle.omp_model.proofs.Turns.{Leaves, leaves-turn}
use Rattle.step_book.specs.declared.hold.Hold.{Hold}
use Rattle.step_book.specs.declared.step.Step.TheVariants.{Told, Quiet}
use Rattle.step_book.specs.Owing.{NotBy, Owes}
use Rattle.step_book.specs.BookView.{BookView, state_of}
use Rattle.step_book.specs.Rule.{NoneBy, entries_of}
use Rattle.step_book.specs.Sharing.{AllBy, AreOwn}
use Rattle.step_book.specs.Visit.{Visit, turn_visit, visit, visit_by, visit_of_outcome}
use Rattle.step_book.proofs.Histories.{after-append}

-- The callback that a thread is inside.

turn-others : (S later : State) (u t : ℕ) (o : Outcome) → Leaves S u later o → u ≢ t → pending_at later t ≡ pending_at S t
turn-others S later u t outcome.Idle leaves other = ap (λ pending. slice_index_or pending t None) leaves.2
turn-others S later u t outcome.Quiet leaves other = ap (λ pending. slice_index_or pending t None) leaves.2
turn-others S later u t (outcome.Happens event) leaves other =
    ap (λ pending. slice_index_or pending t None) leaves.2 ∙ get_or-set_other S.pending u t (Some (called event)) None (λ same. other (sym same))
turn-others S later u t (outcome.Halts halt) leaves other = ap (λ pending. slice_index_or pending t None) leaves.2

put-others : (S : State) (u t : ℕ) (place : Target) (word : ℕ) (callback : Option Callback) → u ≢ t → pending_at (put_from S u place word callback) t ≡ pending_at S t
put-others S u t place word None other = refl
put-others S u t place word (Some callback) other =
    get_or-set_other S.pending u t (Some (record callback { stores = callback.stores + 1 })) None (λ same. other (sym same))

back-others : (S : State) (u t : ℕ) (callback : Option Callback) → u ≢ t → pending_at (back_from S u callback) t ≡ pending_at S t
back-others S u t None other = refl
back-others S u t (Some callback) other = get_or-set_other S.pending u t None None (λ same. other (sym same))

does-others : (run : Run) (S : State) (u t : ℕ) (what : What) → u ≢ t → pending_at (does run S u what) t ≡ pending_at S t
does-others run S u t Go other = turn-others S (turn run S u).state u t (turn run S u).outcome (leaves-turn run S u) other
does-others run S u t (Put place word) other = put-others S u t place word (pending_at S u) other
does-others run S u t Back other = back-others S u t (pending_at S u) other

pub entries-others : (run : Run) (S : State) (t : ℕ) (entries : List Entry) → NotBy t entries → pending_at (after_from run S entries) t ≡ pending_at S t
entries-others run S t [] none = refl
entries-others run S t (entry ∷ rest) none =
    entries-others run (entered run S entry) t rest none.1 ∙ does-others run S entry.thread t entry.what none.0

pub not_by-append : (t : ℕ) (xs ys : List Entry) → NotBy t xs → NotBy t ys → NotBy t (xs ++ ys)
not_by-append t [] ys first next = next
not_by-append t (entry ∷ xs) ys first next = (first.0, not_by-append t xs ys first.1 next)

-- an answer that is owed is owed still, whatever entries of others follow
pub owes-still : (run : Run) (history more : List Entry) (t seq : ℕ) (call : Call) (snapshot : Snapshot) → Owes run history t seq call snapshot → NotBy t more → Owes run (history ++ more) t seq call snapshot
owes-still run history more t seq call snapshot owes none =
    record {
      before = owes.before;
      since = owes.since ++ more;
      event = owes.event;
      history_is = ap (λ history. history ++ more) owes.history_is ∙ append_assoc owes.before (go_at t ∷ owes.since) more;
      none_since = not_by-append t owes.since more owes.none_since none;
      place = owes.place;
      happens = owes.happens;
      registered = owes.registered;
      call_is = owes.call_is;
      snapshot_is = owes.snapshot_is;
      inside = ap (λ (S : State). pending_at S t) (after-append run (first run) history more) ∙ entries-others run (after run history) t more none ∙ owes.inside;
    }

-- Whose entries a call adds.

event-own : (mask seq t : ℕ) (b : Bool) (one other : Visit) → AllBy t one.added → AllBy t other.added → AllBy t (if◌then◌else◌ {A = Visit} b one other).added
event-own mask seq t true one other first second = first
event-own mask seq t false one other first second = second

outcome-own : (mask seq t : ℕ) (W : World) (o : Outcome) → AllBy t (visit_of_outcome mask seq t W o).added
outcome-own mask seq t W outcome.Idle = (refl, tt)
outcome-own mask seq t W outcome.Quiet = (refl, tt)
outcome-own mask seq t W (outcome.Happens event) =
    event-own mask seq t (is_registered mask (callback_of event)) (record { step = Told seq (call_of W t event) (snap_of W t event); added = go_at t ∷ [] }) (record { step = Quiet; added = go_at t ∷ back_at t ∷ [] }) (refl, tt) (refl, (refl, tt))
outcome-own mask seq t W (outcome.Halts halt) = (refl, tt)

by-own : (book : BookView) (t : ℕ) (cause : Option Cause) → AllBy t (visit_by book t cause).added
by-own book t (Some cause) = tt
by-own book t None =
    event-own 0 0 t (enabled (state_of book) t) (turn_visit book t) _ (outcome-own book.run.mask (length book.history) t (turn book.run (state_of book) t).state.world (turn book.run (state_of book) t).outcome) tt

pub visit-own : (book : BookView) (t : ℕ) → AllBy t (visit book t).added
visit-own book t = event-own 0 0 t book.ended _ (visit_by book t (cause_of book.run book.history)) tt (by-own book t (cause_of book.run book.history))

pub reply-own : (t : ℕ) (stores : List Stored) → AllBy t (event_reply t stores)
reply-own t [] = (refl, tt)
reply-own t (store ∷ rest) = (refl, reply-own t rest)

-- Holds.

pub own-append : (xs ys : List Hold) → AreOwn xs → AreOwn ys → AreOwn (xs ++ ys)
own-append [] ys first next = next
own-append (hold ∷ xs) ys first next = (first.0, own-append xs ys first.1 next)

pub own-back : (xs ys : List Hold) → AreOwn (xs ++ ys) → AreOwn ys
own-back [] ys own = own
own-back (hold ∷ xs) ys own = own-back xs ys own.1

others-entries : (u t : ℕ) (entries : List Entry) → u ≢ t → AllBy u entries → NotBy t entries
others-entries u t [] other own = tt
others-entries u t (entry ∷ rest) other own = (λ same. other (sym own.0 ∙ same), others-entries u t rest other own.1)

-- holds of others have no entry of the thread
pub holds-others : (t : ℕ) (holds : List Hold) → AreOwn holds → NoneBy t holds → NotBy t (entries_of holds)
holds-others t [] own none = tt
holds-others t (hold ∷ rest) own none =
    not_by-append t hold.entries (entries_of rest) (others-entries hold.thread t hold.entries (All-head (λ (hold : Hold). hold.thread ≢ t) hold rest none) own.0) (holds-others t rest own.1 (All-tail (λ (hold : Hold). hold.thread ≢ t) hold rest none))

-- the entries of more holds
pub entries-append : (xs ys : List Hold) → entries_of (xs ++ ys) ≡ entries_of xs ++ entries_of ys
entries-append [] ys = refl
entries-append (hold ∷ xs) ys = ap (λ more. hold.entries ++ more) (entries-append xs ys) ∙ sym (append_assoc hold.entries (entries_of xs) (entries_of ys))
