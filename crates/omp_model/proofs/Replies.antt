-- The stores of a tool's reply may stand in turn.
use Rattle.std.proofs.Common.{◌≡◌, ℕ, ◌+◌, ◌<◌, ◌≤◌, true, IsTrue, List, [], ◌∷◌, ◌++◌, length, refl, sym, subst, lt-ltb, arith}
use Rattle.std.specs.Prelude.{All, Option, Some, None}
use Rattle.std.proofs.lemmas.Bool.{and_from}
use Rattle.std.proofs.lemmas.List.{get_or-set_same, length-append, length-set}
use Rattle.std.proofs.lemmas.List.Elements.{All-append, All-cons, All-head, All-nil, All-tail, All-weaker}
use Rattle.ompt_calls.specs.Number.{is_registered}
use Rattle.ompt_calls.specs.Snapshot.{Stored, stored_of, stores_of, target_of}
use Rattle.ompt_calls.specs.Snapshot.{stored as stored_at}
use Rattle.ompt_calls.specs.declared.reply.Reply.{Reply}
use Rattle.ompt_calls.specs.declared.reply.Store.{Store}
use Rattle.ompt_calls.specs.declared.reply.WordAt.{WordAt}
use Rattle.ompt_calls.specs.declared.snapshot.Snapshot.{Snapshot}
use Rattle.ompt_calls.specs.declared.snapshot.Target.{Target}
use Rattle.ompt_calls.specs.declared.snapshot.Target.TheVariants as target
use Rattle.omp_model.specs.declared.history.Entry.{Entry}
use Rattle.omp_model.specs.declared.limits.TheConstants.{STORE_LIMIT}
use Rattle.omp_model.specs.declared.event.Callback.{Callback}
use Rattle.omp_model.specs.declared.event.Event.{Event}
use Rattle.omp_model.specs.declared.event.Outcome.TheVariants.{Happens}
use Rattle.omp_model.specs.State.{Run, State, World, pending_at, thread_at, unmade}
use Rattle.omp_model.specs.Calls.{callback_of}
use Rattle.omp_model.specs.Legal.{after, is_told, may_put, put, put_from}
use Rattle.omp_model.specs.MadeWorld.{IsThread}
use Rattle.omp_model.specs.Named.{IsMade}
use Rattle.omp_model.specs.Snapshots.{snap_of}
use Rattle.omp_model.specs.Storing.{MayStore}
use Rattle.omp_model.specs.Turn.{called, turn}
use Rattle.omp_model.specs.Words.{is_made_thread, stored}
use Rattle.omp_model.proofs.Later.{at-set}
use Rattle.omp_model.proofs.MadeRuns.{made-after}
use Rattle.omp_model.proofs.Moves.{thread-within}
use Rattle.omp_model.proofs.Named.{heard-place, just}
use Rattle.omp_model.proofs.Turns.{Leaves, leaves-turn}

-- what was made still is after a store
made-put : (W : World) (place other : Target) (word : ℕ) → IsMade W other → IsMade (stored W place word) other
made-put W (target.Thread t) (target.Thread u) word made =
    at-set (λ x. is_made_thread x.stage ≡ true) unmade W.threads t u (record (thread_at W t) { word = word }) made (λ is. subst (IsThread W) is made)
made-put W (target.Parallel r) (target.Parallel q) word made = simp length-set made
made-put W (target.Task k) (target.Task j) word made = simp length-set made
made-put W place other word made = made

-- the callback that a thread is inside is this one
record Inside (S : State) (t : ℕ) (callback : Callback) : Type 0 where
  pending : pending_at S t ≡ Some callback
  within : t < length S.pending

with_store : Callback → Callback
with_store callback = record callback { stores = callback.stores + 1 }

inside-put : (S : State) (t : ℕ) (place : Target) (word : ℕ) (callback : Callback) → Inside S t callback → Inside (put S t place word) t (with_store callback)
unfolding with_store
inside-put S t place word callback inside =
    let after : Inside (put_from S t place word (Some callback)) t (with_store callback) = record {
      pending = get_or-set_same S.pending t (Some (with_store callback)) None inside.within;
      within = simp length-set inside.within;
    } in
    subst (λ o. Inside (put_from S t place word o) t (with_store callback)) (sym inside.pending) after

abbrev IsMadeStore : World → Stored → Type 0
IsMadeStore W store = IsMade W store.target

abbrev AreMade : World → List Stored → Type 0
AreMade W stores = All (IsMadeStore W) stores

put-made : (S : State) (t : ℕ) (place : Target) (word : ℕ) (callback : Option Callback) (other : Target) → IsMade S.world other → IsMade (put_from S t place word callback).world other
put-made S t place word None other made = made
put-made S t place word (Some callback) other made = made-put S.world place other word made

-- a tool that hears of the event may store what was made, as long as there are no more than three stores
stores-may : (run : Run) (S : State) (t : ℕ) (callback : Callback) (stores : List Stored) → Inside S t callback → is_told run callback ≡ true → callback.stores + length stores ≤ STORE_LIMIT → AreMade S.world stores → MayStore run S t stores
unfolding with_store
stores-may run S t callback [] inside told room all = tt
stores-may run S t callback (store ∷ rest) inside told room all =
    let first = All-head (IsMadeStore S.world) store rest all in
    let more = All-tail (IsMadeStore S.world) store rest all in
    let after = put S t store.target store.word in
    let may : IsTrue (may_put run S store.target (Some callback)) = and_from _ _ (and_from _ _ told (lt-ltb callback.stores STORE_LIMIT (omega arith))) first in (
      subst (λ o. IsTrue (may_put run S store.target o)) (sym inside.pending) may,
      stores-may run after t (with_store callback) rest (inside-put S t store.target store.word callback inside) told (omega arith)
          (All-weaker (IsMadeStore S.world) (IsMadeStore after.world) (λ x so. put-made S t store.target store.word (pending_at S t) x.target so) rest more),
    )

-- a reply has at most three stores, and all are into the words of the snapshot
record FewStores (W : World) (most : ℕ) (stores : List Stored) : Type 0 where
  few : length stores ≤ most
  made : AreMade W stores

few-none : (W : World) → FewStores W 1 []
few-none W = record { few = omega arith; made = All-nil (IsMadeStore W) }

store-at : (W : World) (word : ℕ) (found : Option Target) → ((place : Target) → found ≡ Some place → IsMade W place) → FewStores W 1 (stored_at word found)
store-at W word None made = few-none W
store-at W word (Some place) made = record { few = omega arith; made = All-cons (IsMadeStore W) (record { target = place; word = word }) [] (made place refl) (All-nil (IsMadeStore W)) }

store-of : (W : World) (snapshot : Snapshot) (store : Option Store) → ((place : WordAt) (found : Target) → target_of snapshot place ≡ Some found → IsMade W found) → FewStores W 1 (stored_of snapshot store)
store-of W snapshot None made = few-none W
store-of W snapshot (Some store) made = store-at W store.word (target_of snapshot store.place) (made store.place)

reply-stores : (W : World) (snapshot : Snapshot) (reply : Reply) → ((place : WordAt) (found : Target) → target_of snapshot place ≡ Some found → IsMade W found) → FewStores W 3 (stores_of reply snapshot)
reply-stores W snapshot reply made =
    let a = store-of W snapshot reply.first made in
    let b = store-of W snapshot reply.second made in
    let c = store-of W snapshot reply.third made in
    record {
      few = simp length-append (omega (arith, a.few, b.few, c.few));
      made = All-append (IsMadeStore W) (stored_of snapshot reply.first ++ stored_of snapshot reply.second) (stored_of snapshot reply.third) (All-append (IsMadeStore W) (stored_of snapshot reply.first) (stored_of snapshot reply.second) a.made b.made) c.made;
    }

module _ (run : Run) (history : List Entry) (t : ℕ) (e : Event) (there : 1 ≤ run.threads) (happens : (turn run (after run history) t).outcome ≡ Happens e) where
  inside : Inside (turn run (after run history) t).state t (called e)
  inside =
      let S = after run history in
      let next = (turn run S t).state in
      let all = made-after run history there in
      let go = just run history t e there happens in
      let leaves : Leaves S t next (Happens e) = subst (Leaves S t next) happens (leaves-turn run S t) in
      let within : t < length S.pending = omega (arith, thread-within next.world.threads t go.occurred.thread, go.whole.later.threads, all.threads, all.places) in
      record { pending = rw leaves.2 (get_or-set_same S.pending t (Some (called e)) None within); within = rw leaves.2 (simp length-set within) }

  pub may-store : (reply : Reply) → is_registered run.mask (callback_of e) ≡ true → MayStore run (turn run (after run history) t).state t (stores_of reply (snap_of (turn run (after run history) t).state.world t e))
  may-store reply told =
      let next = (turn run (after run history) t).state in
      let stores = reply-stores next.world (snap_of next.world t e) reply (heard-place run history t e there happens) in
      stores-may run next t (called e) (stores_of reply (snap_of next.world t e)) inside told (omega (arith, stores.few)) stores.made
