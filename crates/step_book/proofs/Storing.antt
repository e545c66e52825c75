-- The stores of the answer that a thread owes: each may stand next, whatever other threads have done since the event.
use Rattle.std.proofs.Common.{◌≡◌, ℕ, ◌+◌, ◌≤◌, ◌&&◌, true, nat_lt, List, [], ◌∷◌, ◌++◌, length, length-append, Option, Some, None, IsSome, refl, sym, ap, subst, ◌∙◌, append_assoc, arith}
use Rattle.std.proofs.lemmas.Bool.{and_parts}
use Rattle.std.proofs.lemmas.List.{map-append}
use Rattle.ompt_calls.specs.declared.call.Call.{Call}
use Rattle.ompt_calls.specs.declared.reply.Reply.{Reply}
use Rattle.ompt_calls.specs.declared.reply.Store.{Store}
use Rattle.ompt_calls.specs.declared.snapshot.Snapshot.{Snapshot}
use Rattle.ompt_calls.specs.declared.snapshot.Target.{Target}
use Rattle.ompt_calls.specs.Snapshot.{Stored, stored, stored_of, stores_of, target_of}
use Rattle.omp_model.specs.declared.event.Callback.{Callback}
use Rattle.omp_model.specs.declared.event.Event.{Event}
use Rattle.omp_model.specs.declared.history.Entry.{Entry}
use Rattle.omp_model.specs.declared.limits.TheConstants.{STORE_LIMIT}
use Rattle.omp_model.specs.State.{Run, State, World, first, pending_at}
use Rattle.omp_model.specs.Legal.{after, after_from, is_told, may_put, put}
use Rattle.omp_model.specs.MadeWorld.{IsMadeState}
use Rattle.omp_model.specs.Storing.{MayStore, back_at, event_reply, go_at, put_all, put_at, puts_at}
use Rattle.omp_model.specs.Turn.{turn}
use Rattle.omp_model.specs.Words.{is_made}
use Rattle.omp_model.proofs.MadeRuns.{made-after}
use Rattle.omp_model.proofs.Replies.{may-store}
use Rattle.omp_machine.proofs.Storing.{Inside, inside-may, inside-put, made-put}
use Rattle.step_book.specs.Owing.{Owes}
use Rattle.step_book.proofs.Histories.{StaysMade, after-append, entries-stay}

-- at most three stores of a reply take effect
stored-few : (word : ℕ) (found : Option Target) → length (stored word found) ≤ 1
stored-few word None = omega arith
stored-few word (Some found) = omega arith

stored_of-few : (snapshot : Snapshot) (store : Option Store) → length (stored_of snapshot store) ≤ 1
stored_of-few snapshot None = omega arith
stored_of-few snapshot (Some store) = stored-few store.word (target_of snapshot store.place)

pub stores-few : (reply : Reply) (snapshot : Snapshot) → length (stores_of reply snapshot) ≤ 3
stores-few reply snapshot =
    let one = stored_of snapshot reply.first in
    let two = stored_of snapshot reply.second in
    let three = stored_of snapshot reply.third in
    omega (arith, length-append (one ++ two) three, length-append one two, stored_of-few snapshot reply.first, stored_of-few snapshot reply.second, stored_of-few snapshot reply.third)

-- the words that these stores go to were made
abbrev AreMade : World → List Stored → Type 0
AreMade W [] = Unit {0}
AreMade W (store ∷ rest) = (is_made W store.target ≡ true) × AreMade W rest

made-there : (W later : World) (stores : List Stored) → StaysMade W later → AreMade W stores → AreMade later stores
made-there W later [] stays made = tt
made-there W later (store ∷ rest) stays made = (stays store.target made.0, made-there W later rest stays made.1)

-- a store that may stand next goes to what was made
put-made : (run : Run) (S : State) (place : Target) (callback : Option Callback) → may_put run S place callback ≡ true → is_made S.world place ≡ true
put-made run S place None may = cc
put-made run S place (Some callback) may =
    (and_parts (is_told run callback && nat_lt callback.stores STORE_LIMIT) (is_made S.world place) may).1

stores-made : (run : Run) (S : State) (t : ℕ) (stores : List Stored) → MayStore run S t stores → AreMade S.world stores
stores-made run S t [] may = tt
stores-made run S t (store ∷ rest) may =
    let next = put S t store.target store.word in (
      put-made run S store.target (pending_at S t) may.0,
      made-there next.world S.world rest (λ place made. sym (made-put S t store.target place store.word) ∙ made) (stores-made run next t rest may.1),
    )

-- stores may stand next where they are few and go to what was made
made-may : (run : Run) (S : State) (t : ℕ) (event : Event) (done : ℕ) (stores : List Stored) → Inside run S t event done → done + length stores ≤ STORE_LIMIT → AreMade S.world stores → MayStore run S t stores
made-may run S t event done [] inside few made = tt
made-may run S t event done (store ∷ rest) inside few made =
    let next = put S t store.target store.word in (
      inside-may run S t event done store.target store.word inside (omega (arith, few)) made.0,
      made-may run next t event (done + 1) rest (inside-put run S t event done store.target store.word inside) (omega (arith, few)) (made-there S.world next.world rest (λ place there. made-put S t store.target place store.word ∙ there) made.1),
    )

-- some stores of more
pub may-front : (run : Run) (S : State) (t : ℕ) (xs ys : List Stored) → MayStore run S t (xs ++ ys) → MayStore run S t xs
may-front run S t [] ys may = tt
may-front run S t (store ∷ xs) ys may = (may.0, may-front run (put S t store.target store.word) t xs ys may.1)

pub may-back : (run : Run) (S : State) (t : ℕ) (xs ys : List Stored) → MayStore run S t (xs ++ ys) → MayStore run (put_all S t xs) t ys
may-back run S t [] ys may = may
may-back run S t (store ∷ xs) ys may = may-back run (put S t store.target store.word) t xs ys may.1

pub put_all-append : (S : State) (t : ℕ) (xs ys : List Stored) → put_all S t (xs ++ ys) ≡ put_all (put_all S t xs) t ys
put_all-append S t [] ys = refl
put_all-append S t (store ∷ xs) ys = put_all-append (put S t store.target store.word) t xs ys

-- the state after the stores of a reply
pub reply-state : (S : State) (t : ℕ) (xs ys zs : List Stored) → put_all (put_all (put_all S t xs) t ys) t zs ≡ put_all S t (xs ++ ys ++ zs)
reply-state S t xs ys zs =
    ap (λ between. put_all between t zs) (sym (put_all-append S t xs ys)) ∙ sym (put_all-append S t (xs ++ ys) zs)

-- and the entries after them and the return
pub reply-history : (H : List Entry) (t : ℕ) (xs ys zs : List Stored) → H ++ puts_at t xs ++ puts_at t ys ++ puts_at t zs ++ back_at t ∷ [] ≡ H ++ event_reply t (xs ++ ys ++ zs)
reply-history H t xs ys zs =
    ap (λ more. more ++ puts_at t zs ++ back_at t ∷ []) (append_assoc H (puts_at t xs) (puts_at t ys) ∙ ap (λ more. H ++ more) (sym (map-append (put_at t) xs ys)))
    ∙ ap (λ more. more ++ back_at t ∷ []) (append_assoc H (puts_at t (xs ++ ys)) (puts_at t zs) ∙ ap (λ more. H ++ more) (sym (map-append (put_at t) (xs ++ ys) zs)))
    ∙ append_assoc H (puts_at t (xs ++ ys ++ zs)) (back_at t ∷ [])

-- each of the three stores may stand next after those before it, and after them all the thread is inside its callback
pub record MayEach (run : Run) (S : State) (t : ℕ) (xs ys zs : List Stored) : Type 0 where
  pub first : MayStore run S t xs
  pub second : MayStore run (put_all S t xs) t ys
  pub third : MayStore run (put_all (put_all S t xs) t ys) t zs
  pub inside : IsSome (pending_at (put_all (put_all (put_all S t xs) t ys) t zs) t)

pub may-each : (run : Run) (S : State) (t : ℕ) (xs ys zs : List Stored) → MayStore run S t (xs ++ ys ++ zs) → IsSome (pending_at (put_all S t (xs ++ ys ++ zs)) t) → MayEach run S t xs ys zs
may-each run S t xs ys zs may inside =
    let both = may-front run S t (xs ++ ys) zs may in
    record {
      first = may-front run S t xs ys both;
      second = may-back run S t xs ys both;
      third = subst (λ (S : State). MayStore run S t zs) (put_all-append S t xs ys) (may-back run S t (xs ++ ys) zs may);
      inside = subst (λ (S : State). IsSome (pending_at S t)) (sym (reply-state S t xs ys zs)) inside;
    }

-- the thread is still inside the callback after stores
pub inside-all : (run : Run) (S : State) (t : ℕ) (event : Event) (done : ℕ) (stores : List Stored) → Inside run S t event done → IsSome (pending_at (put_all S t stores) t)
inside-all run S t event done [] inside = rw inside.pending refl
inside-all run S t event done (store ∷ rest) inside =
    inside-all run (put S t store.target store.word) t event (done + 1) rest (inside-put run S t event done store.target store.word inside)

module _ (run : Run) (history : List Entry) (t seq : ℕ) (call : Call) (snapshot : Snapshot) (some : 1 ≤ run.threads) (owes : Owes run history t seq call snapshot) where
  -- the state right after the Go, and the one after the entries since
  abbrev at_go : State
  at_go = (turn run (after run owes.before) t).state

  since-go : after run history ≡ after_from run at_go owes.since
  since-go = ap (after run) owes.history_is ∙ after-append run (first run) owes.before (go_at t ∷ owes.since)

  go-made : IsMadeState run at_go
  go-made =
      subst (IsMadeState run) (after-append run (first run) owes.before (go_at t ∷ [])) (made-after run (owes.before ++ go_at t ∷ []) some)

  -- the thread is inside the event's callback, and its tool has stored nothing
  pub inside-owed : Inside run (after run history) t owes.event 0
  inside-owed = record { pending = owes.inside; registered = owes.registered }

  -- the stores of any answer may stand next
  pub may-answer : (reply : Reply) → MayStore run (after run history) t (stores_of reply snapshot)
  may-answer reply =
      let stores = stores_of reply snapshot in
      let at : MayStore run at_go t stores = subst (λ (snapshot : Snapshot). MayStore run at_go t (stores_of reply snapshot)) (sym owes.snapshot_is) (may-store run owes.before t owes.event some owes.happens reply owes.registered) in
      let made : AreMade (after run history).world stores = made-there at_go.world (after run history).world stores (rw since-go (entries-stay run at_go owes.since go-made)) (stores-made run at_go t stores at) in
      made-may run (after run history) t owes.event 0 stores inside-owed (omega (arith, stores-few reply snapshot)) made

  -- and the thread is inside its callback after them
  pub inside-answer : (reply : Reply) → IsSome (pending_at (put_all (after run history) t (stores_of reply snapshot)) t)
  inside-answer reply = inside-all run (after run history) t owes.event 0 (stores_of reply snapshot) inside-owed

  -- all that an answer needs, in the state to which the history leads
  pub may-answer-at : (S : State) (reply : Reply) → after run history ≡ S → MayEach run S t (stored_of snapshot reply.first) (stored_of snapshot reply.second) (stored_of snapshot reply.third)
  may-answer-at S reply reached =
      subst (λ (S : State). MayEach run S t (stored_of snapshot reply.first) (stored_of snapshot reply.second) (stored_of snapshot reply.third)) reached (may-each run (after run history) t (stored_of snapshot reply.first) (stored_of snapshot reply.second) (stored_of snapshot reply.third) (may-answer reply) (inside-answer reply))

  pub stores-at : (S : State) (reply : Reply) → after run history ≡ S → MayStore run S t (stores_of reply snapshot)
  stores-at S reply reached =
      subst (λ (S : State). MayStore run S t (stores_of reply snapshot)) reached (may-answer reply)

  pub inside-at : (S : State) (reply : Reply) → after run history ≡ S → IsSome (pending_at (put_all S t (stores_of reply snapshot)) t)
  inside-at S reply reached =
      subst (λ (S : State). IsSome (pending_at (put_all S t (stores_of reply snapshot)) t)) reached (inside-answer reply)
