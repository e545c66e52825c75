-- The induction over the entries of a history: after each of them all is known that the events so far tell, and no event breaks a rule.
use Rattle.std.proofs.Common.{ℕ, zero, suc, ◌≡◌, ◌+◌, ◌==◌, ◌&&◌, ◌||◌, true, IsTrue, List, [], ◌∷◌, ◌++◌, map, reverse, slice_index_or, refl, sym, ap, ◌∙◌, subst, inl, inr, append_assoc, append-nil}
use Rattle.std.specs.Prelude.{Some, Option, None, is_none, is_some, option_map}
use Rattle.std.specs.List.{list_all}
use Rattle.std.proofs.lemmas.Bool.{and_parts, cases_eq, eq-eqb, ne_eqb, true≢false}
use Rattle.std.proofs.lemmas.List.{get_or-set_other, map-append, reverse-append}
use Rattle.c_model.specs.declared.point.SyncStage.{SyncStage}
use Rattle.c_model.specs.declared.point.SyncStage.TheVariants as stage
use Rattle.omp_codes.specs.declared.callbacks.TheConstants.{PROFILE_MASK}
use Rattle.ompt_calls.specs.Item.{Item}
use Rattle.ompt_calls.specs.declared.event.EventRecord.{EventRecord}
use Rattle.ompt_calls.specs.declared.snapshot.Target.{Target}
use Rattle.omp_model.specs.declared.event.Callback.{Callback}
use Rattle.omp_model.specs.declared.event.Event.{Event}
use Rattle.omp_model.specs.declared.event.Event.TheVariants.{Dispatch, InitialTaskBegin, InitialTaskEnd, LockDestroy, LockInit, Masked, MemberBegin, MemberEnd, MutexAcquire, MutexAcquired, MutexReleased, ParallelBegin, ParallelEnd, Sync, TaskBegin, TaskCreate, TaskEnd, ThreadBegin, ThreadEnd, Work}
use Rattle.omp_model.specs.declared.event.Outcome.{Outcome}
use Rattle.omp_model.specs.declared.event.Outcome.TheVariants as outcome
use Rattle.omp_model.specs.declared.history.Entry.{Entry}
use Rattle.omp_model.specs.declared.history.What.{What}
use Rattle.omp_model.specs.declared.history.What.TheVariants.{Go, Put, Back}
use Rattle.omp_model.specs.State.{Run, State, first, pending_at}
use Rattle.omp_model.specs.Calls.{callback_of, sync_callback}
use Rattle.omp_model.specs.Cause.{none_pending}
use Rattle.omp_model.specs.Conditions.{IsOrderly}
use Rattle.omp_model.specs.Heard.{has_back, heard_at, heard_from, heard_outcome, is_back}
use Rattle.omp_model.specs.Legal.{AllowsFrom, Legal, after, after_from, back_from, does, entered, may, put_from}
use Rattle.omp_model.specs.MadeWorld.{IsMadeState}
use Rattle.omp_model.specs.Records.{record_of, records_of}
use Rattle.omp_model.specs.Turn.{called, turn}
use Rattle.omp_model.proofs.Later.{at-set}
use Rattle.omp_model.proofs.MadeRuns.{made-after}
use Rattle.omp_model.proofs.OrderlyRuns.{orderly-after}
use Rattle.omp_model.proofs.Turns.{Leaves, leaves-turn, turn-goes}
use Rattle.ompt_calls.specs.Number.{is_registered}
use Rattle.trace_check.specs.Checking.{Unbroken}
use Rattle.nested_runs.proofs.Recorded.{event_in, inside}
use Rattle.nested_runs.proofs.Knows.{Goes, IsWholeRun, Knows, Stays}
use Rattle.nested_runs.proofs.Keeping.{keeps-go, knows-back, knows-first, knows-go, knows-stays}
use Rattle.nested_runs.proofs.Turned.{Happened, Led, back-leads, put-leads, turn-leads}

-- all is known, and no rule is broken
pub record Stands (run : Run) (S : State) (past : List EventRecord) : Type 0 where
  pub knows : Knows run S.world (inside S) past
  pub unbroken : Unbroken past

-- a callback of the profile is registered
sync-registered : (at : SyncStage) → is_registered PROFILE_MASK (sync_callback at) ≡ true
sync-registered stage.RegionBegin = refl
sync-registered stage.WaitBegin = refl
sync-registered stage.WaitEnd = refl
sync-registered stage.RegionEnd = refl

profile-registered : (e : Event) → is_registered PROFILE_MASK (callback_of e) ≡ true
profile-registered ThreadBegin = refl
profile-registered ThreadEnd = refl
profile-registered InitialTaskBegin = refl
profile-registered InitialTaskEnd = refl
profile-registered (ParallelBegin r requested codeptr) = refl
profile-registered (ParallelEnd r codeptr) = refl
profile-registered (MemberBegin r k) = refl
profile-registered (MemberEnd r k) = refl
profile-registered (TaskCreate task undeferred codeptr) = refl
profile-registered (TaskBegin prior task) = refl
profile-registered (TaskEnd task) = refl
profile-registered (Work at which count codeptr) = refl
profile-registered (Dispatch share) = refl
profile-registered (Masked at codeptr) = refl
profile-registered (Sync which at codeptr) = sync-registered at
profile-registered (MutexAcquire which wait_id codeptr) = refl
profile-registered (MutexAcquired which wait_id codeptr) = refl
profile-registered (MutexReleased which wait_id codeptr) = refl
profile-registered (LockInit wait_id codeptr) = refl
profile-registered (LockDestroy wait_id codeptr) = refl

pub registered : (run : Run) (e : Event) → IsWholeRun run → is_registered run.mask (callback_of e) ≡ true
registered run e whole = rw whole.whole (profile-registered e)

-- A thread that is inside a callback comes back.

-- one callback among them
record IsWithin (callback : Option Callback) : Type 0 where
  one : Callback
  is : callback ≡ Some one

each-none : (pending : List (Option Callback)) (t : ℕ) → list_all (λ (callback : Option Callback). is_none callback) pending ≡ true →
    IsWithin (slice_index_or pending t None) → ⊥
each-none [] t all within = let is = within.is in cc
each-none (callback ∷ pending) zero all within =
    let first = (and_parts (is_none callback) (list_all (λ (other : Option Callback). is_none other) pending) all).0 in
    true≢false (sym first ∙ ap (λ (o : Option Callback). is_none o) within.is)
each-none (callback ∷ pending) (suc t) all within =
    each-none pending t (and_parts (is_none callback) (list_all (λ (other : Option Callback). is_none other) pending) all).1 within

-- another thread's turn leaves it within, and it has no turn itself
within-turn : (S next : State) (u t : ℕ) (came : Outcome) → Leaves S u next came → (t ≡ u → ⊥) → IsWithin (pending_at S t) → IsWithin (pending_at next t)
within-turn S next u t (outcome.Happens e) leaves other within = rw leaves.2 (rw (get_or-set_other S.pending u t (Some (called e)) None other) within)
within-turn S next u t outcome.Idle leaves other within = rw leaves.2 within
within-turn S next u t outcome.Quiet leaves other within = rw leaves.2 within
within-turn S next u t (outcome.Halts halt) leaves other within = rw leaves.2 within

within-put : (S : State) (u t : ℕ) (place : Target) (word : ℕ) (callback : Option Callback) → IsWithin (pending_at S t) →
    IsWithin (pending_at (put_from S u place word callback) t)
within-put S u t place word None within = within
within-put S u t place word (Some callback) within =
    let now : Callback = record callback { stores = callback.stores + 1 } in
    at-set IsWithin None S.pending u t (Some now) within (λ is. record { one = now; is = refl })

within-back : (S : State) (u t : ℕ) (callback : Option Callback) → (t ≡ u → ⊥) → IsWithin (pending_at S t) → IsWithin (pending_at (back_from S u callback) t)
within-back S u t None other within = within
within-back S u t (Some callback) other within = rw (get_or-set_other S.pending u t None None other) within

module _ (run : Run) (S : State) (u t : ℕ) (rest : List Entry) where
  back-found : (what : What) → IsTrue (may run S u what) → IsWithin (pending_at S t) → (IsWithin (pending_at (does run S u what) t) → has_back t rest ≡ true) →
      ((is_back what && u == t) || has_back t rest) ≡ true
  back-found Go goes within more =
      let outside = (turn-goes S u goes).outside in
      more (within-turn S (turn run S u).state u t (turn run S u).outcome (leaves-turn run S u)
      (λ same. none-within (subst (λ v. IsWithin (pending_at S v)) same within) outside) within)
    where
      none-within : {callback : Option Callback} → IsWithin callback → callback ≡ None → ⊥
      none-within within none = let is = within.is in cc
  back-found (Put place word) goes within more = more (within-put S u t place word (pending_at S u) within)
  back-found Back goes within more = elim (cases_eq t u) [
    | inl same ↦ rw (eq-eqb u t (sym same)) refl
    | inr other ↦ rw (ne_eqb u t (λ same. other (sym same))) (more (within-back S u t (pending_at S u) other within))
  ]

within-comes : (run : Run) (S : State) (rest : List Entry) (t : ℕ) → AllowsFrom run S rest → IsWithin (pending_at S t) →
    none_pending (after_from run S rest) ≡ true → has_back t rest ≡ true
within-comes run S [] t allows within none = absurd (each-none S.pending t none within)
within-comes run S (entry ∷ rest) t allows within none =
    back-found run S entry.thread t rest entry.what allows.0 within (λ now. within-comes run (entered run S entry) rest t allows.1 now none)

pub comes-back : (run : Run) (S : State) (rest : List Entry) (t : ℕ) (callback : Callback) → AllowsFrom run S rest → pending_at S t ≡ Some callback →
    none_pending (after_from run S rest) ≡ true → has_back t rest ≡ true
comes-back run S rest t callback allows within none = within-comes run S rest t allows (record { one = callback; is = within }) none

-- What stands before an entry stands after it.

inside-within : (callback : Option Callback) (e : Event) → option_map event_in callback ≡ Some e → IsWithin callback
inside-within None e is = cc
inside-within (Some callback) e is = record { one = callback; is = refl }

module _ (run : Run) (S : State) (position : ℕ) (rest : List Entry) (past : List EventRecord) (stands : Stands run S past) where
  abbrev told : List Item → List EventRecord
  told items = reverse (map record_of items) ++ past

  stands-stays : (next : State) → Stays run S.world next.world (inside S) (inside next) past → Stands run next past
  stands-stays next stays = record { knows = knows-stays run S.world next.world (inside S) (inside next) past stays; unbroken = stands.unbroken }

  stands-go : (next : State) (t : ℕ) (e : Event) → IsWholeRun run → (IsWithin (pending_at next t) → has_back t rest ≡ true) → Happened run S next past t e →
      Stands run next (told (heard_outcome run position t next (outcome.Happens e) rest))
  stands-go next t e whole back happened =
      let W = happened.before in
      let goes : Goes run W next.world (inside S) (inside next) past t e =
      happened.goes (knows-stays run S.world W (inside S) (inside S) past happened.stays) in
      rw (registered run e whole, back (inside-within (pending_at next t) e goes.enters.own))
      (record {
        knows = knows-go run W next.world (inside S) (inside next) past t position e goes;
        unbroken = (keeps-go run W next.world (inside S) (inside next) past t position e goes, stands.unbroken);
      })

  stands-turn : (next : State) (t : ℕ) (came : Outcome) → IsWholeRun run → (IsWithin (pending_at next t) → has_back t rest ≡ true) →
      Led run S next past t came →
      Stands run next (told (heard_outcome run position t next came rest))
  stands-turn next t (outcome.Happens e) whole back led = stands-go next t e whole back led
  stands-turn next t outcome.Idle whole back led = stands-stays next led
  stands-turn next t outcome.Quiet whole back led = stands-stays next led
  stands-turn next t (outcome.Halts halt) whole back led = stands-stays next led

  some-within : (callback : Option Callback) → IsTrue (is_some callback) → IsWithin callback
  some-within None some = absurd (true≢false (sym some))
  some-within (Some callback) some = record { one = callback; is = refl }

  stands-entry : (t : ℕ) (what : What) → IsWholeRun run → IsMadeState run (does run S t what) → IsOrderly (does run S t what) → IsTrue (may run S t what) →
      (IsWithin (pending_at (does run S t what) t) → has_back t rest ≡ true) → Stands run (does run S t what) (told (heard_at run S position t what rest))
  stands-entry t Go whole made orderly goes back =
      stands-turn (turn run S t).state t (turn run S t).outcome whole back (turn-leads run S past stands.knows stands.unbroken t made orderly goes)
  stands-entry t (Put place word) whole made orderly goes back =
      stands-stays (does run S t (Put place word)) (put-leads run S past stands.knows stands.unbroken t place word made orderly)
  stands-entry t Back whole made orderly goes back =
      let within = some-within (pending_at S t) goes in
      let next = does run S t Back in
      record {
        knows = knows-back run S.world next.world (inside S) (inside next) past t within.one.event
            (back-leads run S past stands.knows stands.unbroken t within.one made orderly within.is);
        unbroken = stands.unbroken;
      }

-- Histories.

after-append : (run : Run) (before : List Entry) (S : State) (entry : Entry) →
    after_from run S (before ++ entry ∷ []) ≡ entered run (after_from run S before) entry
after-append run [] S entry = refl
after-append run (first ∷ before) S entry = after-append run before (entered run S first) entry

-- what is told of an entry comes before what is told of the others
told-then : (items more : List Item) (past : List EventRecord) →
    reverse (map record_of (items ++ more)) ++ past ≡ reverse (map record_of more) ++ (reverse (map record_of items) ++ past)
told-then items more past =
    ap (λ (records : List EventRecord). reverse records ++ past) (map-append record_of items more)
    ∙ ap (λ (records : List EventRecord). records ++ past) (reverse-append (map record_of items) (map record_of more))
    ∙ append_assoc (reverse (map record_of more)) (reverse (map record_of items)) past

stands-by : (run : Run) (before : List Entry) (S : State) (position : ℕ) (rest : List Entry) (past : List EventRecord) → IsWholeRun run → after run before ≡ S →
    AllowsFrom run S rest → none_pending (after_from run S rest) ≡ true → Stands run S past →
    Stands run (after_from run S rest) (reverse (map record_of (heard_from run S position rest)) ++ past)
stands-by run before S position [] past whole is allows none stands = stands
stands-by run before S position (entry ∷ rest) past whole is allows none stands =
    let next = entered run S entry in
    let items = heard_at run S position entry.thread entry.what rest in
    let same : after run (before ++ entry ∷ []) ≡ next = after-append run before (first run) entry ∙ ap (λ x. entered run x entry) is in
    let now : Stands run next (reverse (map record_of items) ++ past) =
    stands-entry run S position rest past stands entry.thread entry.what whole (subst (IsMadeState run) same (made-after run (before ++ entry ∷ []) whole.some))
    (subst IsOrderly same (orderly-after run (before ++ entry ∷ []) whole.some)) allows.0
    (λ within. within-comes run next rest entry.thread allows.1 within none) in
    rw (told-then items (heard_from run next (position + 1) rest) past)
    (stands-by run (before ++ entry ∷ []) next (position + 1) rest (reverse (map record_of items) ++ past) whole same allows.1 none now)

pub stands-from : (run : Run) (before : List Entry) (S : State) (position : ℕ) (rest : List Entry) (past : List EventRecord) → IsWholeRun run →
    after run before ≡ S → Legal run before →
    AllowsFrom run S rest → none_pending (after_from run S rest) ≡ true → Stands run S past →
    Stands run (after_from run S rest) (reverse (map record_of (heard_from run S position rest)) ++ past)
stands-from run before S position rest past whole is legal allows none stands = stands-by run before S position rest past whole is allows none stands

pub stands : (run : Run) (history : List Entry) → IsWholeRun run → Legal run history → none_pending (after run history) ≡ true →
    Stands run (after run history) (reverse (records_of run history))
stands run history whole legal none =
    subst (Stands run (after run history)) (append-nil (reverse (records_of run history)))
    (stands-by run [] (first run) 0 history [] whole refl legal none (record { knows = knows-first run whole; unbroken = tt }))
