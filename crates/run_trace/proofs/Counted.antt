-- A legal history has at most five entries for each of its turns: the turn itself, at most three stores, and a callback's return. There are no more
-- turns than their limit, so no more entries than a trace has places.
use Rattle.std.proofs.Common.{ℕ, zero, suc, ◌≡◌, ◌≤◌, ◌<◌, ◌+◌, ◌-◌, ◌*◌, List, [], ◌∷◌, length, is_some, slice_index_or, slice_set, replicate, true, ◌&&◌, nat_lt, refl, subst, arith}
use Rattle.std.specs.Prelude.{Option, Some, None}
use Rattle.std.proofs.lemmas.Bool.{and_parts, ltb-true}
use Rattle.ompt_calls.specs.declared.snapshot.Target.{Target}
use Rattle.omp_model.specs.declared.limits.TheConstants.{STORE_LIMIT, TURN_LIMIT}
use Rattle.omp_model.specs.declared.event.Callback.{Callback}
use Rattle.omp_model.specs.declared.event.Outcome.{Outcome}
use Rattle.omp_model.specs.declared.event.Outcome.TheVariants.{Idle, Quiet, Happens, Halts}
use Rattle.omp_model.specs.declared.history.What.{What}
use Rattle.omp_model.specs.declared.history.What.TheVariants.{Go, Put, Back}
use Rattle.omp_model.specs.declared.history.Entry.{Entry}
use Rattle.omp_model.specs.State.{Run, State, first, pending_at}
use Rattle.omp_model.specs.Turn.{called, enabled, turn}
use Rattle.omp_model.specs.Words.{is_made}
use Rattle.omp_model.specs.Legal.{AllowsFrom, Legal, after, after_from, back_from, does, entered, is_told, may, may_put, put_from}
use Rattle.omp_model.proofs.Turns.{Leaves, leaves-turn, turn-below, turn-goes, turns-rise}
use Rattle.trace_format.specs.declared.trace.TheConstants.{SEQ_LIMIT}

-- the entries that may still come of a callback: its stores, up to the limit, and its return
abbrev owed : Option Callback → ℕ
owed None = 0
owed (Some callback) = 1 + (STORE_LIMIT - callback.stores)

abbrev all_owed : List (Option Callback) → ℕ
all_owed [] = 0
all_owed (callback ∷ rest) = owed callback + all_owed rest

owed-none : (count : ℕ) → all_owed (replicate count None) ≡ 0
owed-none zero = refl
owed-none (suc count) = let more = owed-none count in omega arith

owed-set : (pending : List (Option Callback)) (t : ℕ) (callback : Option Callback) → all_owed (slice_set pending t callback) + owed (slice_index_or pending t None) ≤ all_owed pending + owed callback
owed-set [] t callback = omega arith
owed-set (first ∷ rest) zero callback = omega arith
owed-set (first ∷ rest) (suc t) callback = let more = owed-set rest t callback in omega arith

-- After so many entries: the entries and those that may still come are five for each turn, and the turns are within their limit.
record Counts (S : State) (count : ℕ) : Type 0 where
  entries : count + all_owed S.pending ≤ 5 * S.turns
  turns : S.turns ≤ TURN_LIMIT
  below : S.halt ≡ None → S.turns < TURN_LIMIT

-- a turn
counts-turned : (S after : State) (t count : ℕ) (came : Outcome) → pending_at S t ≡ None → count + all_owed S.pending ≤ 5 * S.turns → after.turns ≡ S.turns + 1 → Leaves S t after came → (count + 1) + all_owed after.pending ≤ 5 * after.turns
counts-turned S after t count Idle outside fits rises leaves = rw (leaves.2, rises) (omega arith)
counts-turned S after t count Quiet outside fits rises leaves = rw (leaves.2, rises) (omega arith)
counts-turned S after t count (Halts halt) outside fits rises leaves = rw (leaves.2, rises) (omega arith)
counts-turned S after t count (Happens event) outside fits rises leaves =
    let more = owed-set S.pending t (Some (called event)) in
    rw (leaves.2, rises) (omega arith)

counts-go : (run : Run) (S : State) (t count : ℕ) → enabled S t ≡ true → Counts S count → Counts (turn run S t).state (count + 1)
counts-go run S t count goes so =
    let at = turn-goes S t goes in
    let rises = turns-rise run S t goes in
    let before = so.below at.halt in
    record {
      entries = counts-turned S (turn run S t).state t count (turn run S t).outcome at.outside so.entries rises (leaves-turn run S t);
      turns = omega arith;
      below = λ on. turn-below run S t goes on;
    }

-- a store
counts-put : (run : Run) (S : State) (t count : ℕ) (target : Target) (word : ℕ) (callback : Option Callback) → pending_at S t ≡ callback → may_put run S target callback ≡ true → Counts S count → Counts (put_from S t target word callback) (count + 1)
counts-put run S t count target word None is may so = cc
counts-put run S t count target word (Some callback) is may so =
    let parts = and_parts (is_told run callback && nat_lt callback.stores STORE_LIMIT) (is_made S.world target) may in
    let few = ltb-true callback.stores STORE_LIMIT (and_parts (is_told run callback) (nat_lt callback.stores STORE_LIMIT) parts.0).1 in
    let next : Option Callback = Some (record callback { stores = callback.stores + 1 }) in
    let more = subst (λ old. all_owed (slice_set S.pending t next) + owed old ≤ all_owed S.pending + owed next) is (owed-set S.pending t next) in
    let entries = so.entries in
    record { entries = omega arith; turns = so.turns; below = so.below }

-- a return
counts-back : (S : State) (t count : ℕ) (callback : Option Callback) → pending_at S t ≡ callback → is_some callback ≡ true → Counts S count → Counts (back_from S t callback) (count + 1)
counts-back S t count None is inside so = cc
counts-back S t count (Some callback) is inside so =
    let more = subst (λ old. all_owed (slice_set S.pending t None) + owed old ≤ all_owed S.pending + 0) is (owed-set S.pending t None) in
    let entries = so.entries in
    record { entries = omega arith; turns = so.turns; below = so.below }

counts-entry : (run : Run) (S : State) (t count : ℕ) (what : What) → may run S t what ≡ true → Counts S count → Counts (does run S t what) (count + 1)
counts-entry run S t count Go may so = counts-go run S t count may so
counts-entry run S t count (Put target word) may so = counts-put run S t count target word (pending_at S t) refl may so
counts-entry run S t count Back may so = counts-back S t count (pending_at S t) refl may so

counts-from : (run : Run) (S : State) (count : ℕ) (history : List Entry) → Counts S count → AllowsFrom run S history → Counts (after_from run S history) (count + length history)
counts-from run S count [] so allows = subst (Counts S) (omega arith) so
counts-from run S count (entry ∷ rest) so allows =
    subst (Counts (after_from run (entered run S entry) rest)) (omega arith)
    (counts-from run (entered run S entry) (count + 1) rest (counts-entry run S entry.thread count entry.what allows.0 so) allows.1)

counts-first : (run : Run) → Counts (first run) 0
counts-first run = let none = owed-none run.threads in record { entries = omega arith; turns = omega arith; below = λ on. omega arith }

-- a legal history has at most as many entries as a trace has places
pub few-entries : (run : Run) (history : List Entry) → Legal run history → length history ≤ SEQ_LIMIT
few-entries run history legal =
    let so = counts-from run (first run) 0 history (counts-first run) legal in
    let entries = so.entries in
    let turns = so.turns in
    omega arith
