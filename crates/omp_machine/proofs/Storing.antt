-- The stores of a tool during a callback: where one may stand, and what the next one may do.
use Rattle.std.proofs.Common.{◌≡◌, ℕ, ◌+◌, ◌<◌, ◌≤◌, ◌∙◌, true, List, Option, Some, None, IsTrue, IsSome, length, slice_index_or, slice_set, get_or-set_same, lt-ltb, refl, sym, ap, subst, inl, inr, arith}
use Rattle.std.proofs.lemmas.Bool.{cases_eq, cases_lt, true≢false}
use Rattle.std.proofs.lemmas.List.{get_or-set_other, get_or_past, length-set}
use Rattle.ompt_calls.specs.declared.call.Call.{Call}
use Rattle.ompt_calls.specs.declared.snapshot.Snapshot.{Snapshot}
use Rattle.ompt_calls.specs.declared.snapshot.Target.{Target}
use Rattle.ompt_calls.specs.declared.snapshot.Target.TheVariants as target
use Rattle.ompt_calls.specs.Number.{is_registered}
use Rattle.omp_model.specs.declared.history.What.TheVariants.{Put}
use Rattle.omp_model.specs.declared.limits.TheConstants.{STORE_LIMIT}
use Rattle.omp_model.specs.declared.event.Callback.{Callback}
use Rattle.omp_model.specs.declared.event.Event.{Event}
use Rattle.omp_model.specs.State.{World, Run, State, Thread, pending_at, thread_at, unmade}
use Rattle.omp_model.specs.Words.{is_made, is_made_identity, is_made_thread, stored}
use Rattle.omp_model.specs.Calls.{callback_of}
use Rattle.omp_model.specs.Turn.{turn, called}
use Rattle.omp_model.specs.Legal.{may, put, put_from}
use Rattle.omp_model.proofs.Turns.{turn-pending}
use Rattle.omp_machine.specs.declared.went.Went.TheVariants.{Told}
use Rattle.omp_machine.specs.MachineView.{MachineView, went_of}
use Rattle.omp_machine.proofs.Telling.{told-by}

-- the thread is inside a callback of this event, which is registered and whose tool has stored so many words
pub record Inside (run : Run) (S : State) (t : ℕ) (event : Event) (stores : ℕ) : Type 0 where
  pub pending : pending_at S t ≡ Some (record { event = event; stores = stores })
  pub registered : is_registered run.mask (callback_of event) ≡ true

-- a place that was set, and is one
set-some : (pending : List (Option Callback)) (t : ℕ) (callback : Callback) → IsSome (slice_index_or (slice_set pending t (Some callback)) t None) → slice_index_or (slice_set pending t (Some callback)) t None ≡ Some callback
set-some pending t callback some = elim (cases_lt t (length pending)) [
  | inl below ↦ rw get_or-set_same refl
  | inr past ↦
      let longer : length (slice_set pending t (Some callback)) ≤ t = omega (arith, length-set pending t (Some callback)) in
      let none = get_or_past (slice_set pending t (Some callback)) t None longer in
      absurd (true≢false (sym (rw none at some)))
]

-- what was told is inside its callback, before its tool has stored anything
pub record ToldInside (run : Run) (S : State) (t : ℕ) : Type 0 where
  pub event : Event
  pub inside : Inside run (turn run S t).state t event 0

pub told-inside : (run : Run) (S : State) (t : ℕ) (call : Call) (snapshot : Snapshot) → went_of run S t ≡ Told call snapshot → IsSome (pending_at (turn run S t).state t) → ToldInside run S t
told-inside run S t call snapshot is waits =
    let told = told-by run (turn run S t).state t (turn run S t).outcome call snapshot is in
    let pending = turn-pending run S t told.event told.happens in
    let some = subst (λ all. IsSome (slice_index_or all t None)) pending waits in
    record {
      event = told.event;
      inside = record {
        pending = ap (λ all. slice_index_or all t None) pending ∙ set-some S.pending t (called told.event) some;
        registered = told.registered;
      };
    }

-- a store of a word that is there may stand next, while there were fewer than three
pub inside-may : (run : Run) (S : State) (t : ℕ) (event : Event) (stores : ℕ) (place : Target) (word : ℕ) → Inside run S t event stores → stores < STORE_LIMIT → is_made S.world place ≡ true → IsTrue (may run S t (Put place word))
inside-may run S t event stores place word inside few made =
    rw (inside.pending, inside.registered, lt-ltb stores STORE_LIMIT few, made) refl

-- a place with something in it is one
some-below : (pending : List (Option Callback)) (t : ℕ) (callback : Callback) → slice_index_or pending t None ≡ Some callback → t < length pending
some-below pending t callback some = elim (cases_lt t (length pending)) [
  | inl below ↦ below
  | inr past ↦ let none = get_or_past pending t None past in cc
]

-- after a store the thread is inside the same callback
pub inside-put : (run : Run) (S : State) (t : ℕ) (event : Event) (stores : ℕ) (place : Target) (word : ℕ) → Inside run S t event stores → Inside run (put S t place word) t event (stores + 1)
inside-put run S t event stores place word inside =
    let callback : Callback = record { event = event; stores = stores } in
    let after : Callback = record { event = event; stores = stores + 1 } in
    let stored_so : put S t place word ≡ put_from S t place word (Some callback) = ap (put_from S t place word) inside.pending in
    subst (λ (next : State). Inside run next t event (stores + 1)) (sym stored_so) (record {
      pending = get_or-set_same S.pending t (Some after) None (some-below S.pending t callback inside.pending);
      registered = inside.registered;
    })

-- a thread in whose place another stands, which has come as far
same-stage : (threads : List Thread) (t u : ℕ) (new : Thread) → new.stage ≡ (slice_index_or threads t unmade).stage → (slice_index_or (slice_set threads t new) u unmade).stage ≡ (slice_index_or threads u unmade).stage
same-stage threads t u new same = elim (cases_eq u t) [
  | inl here ↦ elim (cases_lt t (length threads)) [
    | inl below ↦
        subst (λ place. (slice_index_or (slice_set threads t new) place unmade).stage ≡ (slice_index_or threads place unmade).stage) (sym here)
        (ap (λ (thread : Thread). thread.stage) (get_or-set_same threads t new unmade below) ∙ same)
    | inr past ↦
        let longer : length (slice_set threads t new) ≤ t = omega (arith, length-set threads t new) in
        let before = get_or_past threads t unmade past in
        let after = get_or_past (slice_set threads t new) t unmade longer in
        subst (λ place. (slice_index_or (slice_set threads t new) place unmade).stage ≡ (slice_index_or threads place unmade).stage) (sym here)
        (ap (λ (thread : Thread). thread.stage) (after ∙ sym before))
  ]
  | inr other ↦ ap (λ (thread : Thread). thread.stage) (get_or-set_other threads t u new unmade other)
]

-- a store makes no thread, region or task
made-stored : (W : World) (place other : Target) (word : ℕ) → is_made (stored W place word) other ≡ is_made W other
made-stored W (target.Thread t) (target.Thread u) word =
    ap is_made_thread (same-stage W.threads t u (record (thread_at W t) { word = word }) refl)
made-stored W (target.Thread t) (target.Parallel r) word = refl
made-stored W (target.Thread t) (target.Task k) word = refl
made-stored W (target.Parallel r) (target.Thread u) word = refl
made-stored W (target.Parallel r) (target.Parallel q) word = ap (is_made_identity q) (length-set W.regions r _)
made-stored W (target.Parallel r) (target.Task k) word = refl
made-stored W (target.Task k) (target.Thread u) word = refl
made-stored W (target.Task k) (target.Parallel r) word = refl
made-stored W (target.Task k) (target.Task j) word = ap (is_made_identity j) (length-set W.tasks k _)

made-from : (S : State) (t : ℕ) (place other : Target) (word : ℕ) (callback : Option Callback) → is_made (put_from S t place word callback).world other ≡ is_made S.world other
made-from S t place other word None = refl
made-from S t place other word (Some callback) = made-stored S.world place other word

pub made-put : (S : State) (t : ℕ) (place other : Target) (word : ℕ) → is_made (put S t place word).world other ≡ is_made S.world other
made-put S t place other word = made-from S t place other word (pending_at S t)

-- where a turn's answer is that an event was told, a store of a word that is there may stand next
pub told-may : (before after : MachineView) (t : ℕ) (call : Call) (snapshot : Snapshot) (place : Target) (word : ℕ) → after ≡ record before { state = (turn before.run before.state t).state } → went_of before.run before.state t ≡ Told call snapshot → IsSome (pending_at after.state t) → is_made after.state.world place ≡ true → IsTrue (may after.run after.state t (Put place word))
told-may before after t call snapshot place word turned is waits made =
    let next : MachineView = record before { state = (turn before.run before.state t).state } in
    let waiting : IsSome (pending_at next.state t) = subst (λ (m : MachineView). IsSome (pending_at m.state t)) turned waits in
    let there : is_made next.state.world place ≡ true = subst (λ (m : MachineView). is_made m.state.world place ≡ true) turned made in
    let told = told-inside before.run before.state t call snapshot is waiting in
    subst (λ (m : MachineView). IsTrue (may m.run m.state t (Put place word))) (sym turned) (inside-may before.run next.state t told.event 0 place word told.inside (omega arith) there)
