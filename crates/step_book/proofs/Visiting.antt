-- A book after a visit, and after an answer.
use Rattle.std.proofs.Common.{◌≡◌, ℕ, ℤ, zero, suc, ◌+◌, ◌*◌, ◌<◌, ◌≤◌, max, Bool, true, false, not, ◌&&◌, if◌then◌else◌, List, [], ◌∷◌, ◌++◌, length, length-append, Option, Some, None, IsSome, is_none, is_some, slice_index_or, get_or-set_same, refl, sym, ap, subst, ◌∙◌, inl, inr, arith}
use Rattle.std.proofs.lemmas.Bool.{true≢false, cases_eq}
use Rattle.std.proofs.lemmas.List.{length-map}
use Rattle.ompt_calls.specs.declared.call.Call.{Call}
use Rattle.ompt_calls.specs.declared.snapshot.Snapshot.{Snapshot}
use Rattle.ompt_calls.specs.declared.snapshot.Target.{Target}
use Rattle.ompt_calls.specs.Snapshot.{Stored}
use Rattle.omp_model.specs.declared.cause.Cause.{Cause}
use Rattle.omp_model.specs.declared.cause.Cause.TheVariants as cause
use Rattle.omp_model.specs.declared.event.Callback.{Callback}
use Rattle.omp_model.specs.declared.event.Event.{Event}
use Rattle.omp_model.specs.declared.event.Halt.{Halt}
use Rattle.omp_model.specs.declared.event.Outcome.{Outcome}
use Rattle.omp_model.specs.declared.event.Outcome.TheVariants as outcome
use Rattle.omp_model.specs.declared.history.Entry.{Entry}
use Rattle.omp_model.specs.declared.limits.TheConstants.{TURN_LIMIT}
use Rattle.omp_model.specs.State.{Run, State, first, pending_at}
use Rattle.omp_model.specs.Cause.{cause_by_halt, cause_in, cause_of, cause_of_whole, is_stuck, whole_value}
use Rattle.omp_model.specs.Legal.{after, after_from, back, back_from, put, put_from}
use Rattle.omp_model.specs.Serial.{enabled_among, inside_after}
use Rattle.omp_model.specs.Storing.{MayStore, back_at, event_reply, go_at, put_all, put_at, puts_at}
use Rattle.omp_model.specs.Turn.{called, enabled, turn}
use Rattle.omp_model.proofs.Recording.{put_all-halt, put_all-turns, reply-after, reply-legal}
use Rattle.omp_model.proofs.MadeRuns.{made-after}
use Rattle.omp_model.proofs.Turns.{Leaves, back-halt, back-turns, leaves-turn, turn-below, turn-goes, turn-pending, turns-rise}
use Rattle.kept_room.specs.Roomy.{RoomyList}
use Rattle.omp_machine.specs.declared.went.Went.TheVariants as went
use Rattle.omp_machine.specs.MachineView.{went_of}
use Rattle.step_book.specs.declared.step.Step.TheVariants.{Told, Ended}
use Rattle.step_book.specs.Owing.{Owes, OwesAnswer, count_pending}
use Rattle.step_book.specs.BookView.{BookView, state_of}
use Rattle.step_book.specs.Sound.{IsBook}
use Rattle.step_book.specs.Visit.{Visit, idle_by, idle_step, is_turn, turn_visit, visit, visit_by, without_entry}
use Rattle.step_book.proofs.Counting.{count-in, count-none, count-out, count-same}
use Rattle.step_book.proofs.Histories.{after-append, legal-append}
use Rattle.step_book.proofs.Telling.{HasTold, told-step, turn-went}

-- A visit that is a turn, and one that isn't.

by-turn : (book : BookView) (t : ℕ) (cause : Option Cause) → (is_none cause && enabled (state_of book) t) ≡ true → visit_by book t cause ≡ turn_visit book t
by-turn book t (Some cause) is = cc
by-turn book t None is = rw is refl

pub visit-turn : (book : BookView) (t : ℕ) → is_turn book t ≡ true → visit book t ≡ turn_visit book t
visit-turn book t is =
    elim book.ended as (λ b. (not b && is_none (cause_of book.run book.history) && enabled (state_of book) t) ≡ true → (if◌then◌else◌ {A = Visit} b (without_entry (Ended cause.Memory)) (visit_by book t (cause_of book.run book.history))) ≡ turn_visit book t) [
      | true ↦ λ is. cc
      | false ↦ λ is. by-turn book t (cause_of book.run book.history) is
    ] is

by-idle : (book : BookView) (t : ℕ) (cause : Option Cause) → (is_none cause && enabled (state_of book) t) ≡ false → visit_by book t cause ≡ without_entry (idle_by cause)
by-idle book t (Some cause) is = refl
by-idle book t None is = rw is refl

pub visit-idle : (book : BookView) (t : ℕ) → is_turn book t ≡ false → visit book t ≡ without_entry (idle_step book)
visit-idle book t is =
    elim book.ended as (λ b. (not b && is_none (cause_of book.run book.history) && enabled (state_of book) t) ≡ false → (if◌then◌else◌ {A = Visit} b (without_entry (Ended cause.Memory)) (visit_by book t (cause_of book.run book.history))) ≡ without_entry (if b then Ended cause.Memory else idle_by (cause_of book.run book.history))) [
      | true ↦ λ is. refl
      | false ↦ λ is. by-idle book t (cause_of book.run book.history) is
    ] is

-- An enabled thread's run has no cause, unless it is whole.

and-false : (b : Bool) → (b && false) ≡ false
and-false true = refl
and-false false = refl

-- an enabled thread is found
found-enabled : (S : State) (t from count : ℕ) → from ≤ t → t < from + count → enabled S t ≡ true → enabled_among S from count ≡ None → ⊥
unfolding enabled_among
found-enabled S t from zero low high on none = omega arith
found-enabled S t from (suc count) low high on none =
    elim (cases_eq from t) [
      | inl here ↦ now (enabled S from) (rw here on) none
      | inr other ↦ found-enabled S t (from + 1) count (omega (arith, low, other)) (omega (arith, high)) on (not-here (enabled S from) none)
    ]
  where
    now : (b : Bool) → b ≡ true → (if◌then◌else◌ {A = Option ℕ} b (Some from) (enabled_among S (from + 1) count)) ≡ None → ⊥
    now true is none = cc
    now false is none = absurd (true≢false (sym is))

    not-here : (b : Bool) → (if◌then◌else◌ {A = Option ℕ} b (Some from) (enabled_among S (from + 1) count)) ≡ None → enabled_among S (from + 1) count ≡ None
    not-here true is = cc
    not-here false is = is

none-none : {A : Type 0} (o : Option A) → (o ≡ None → ⊥) → is_none o ≡ false
none-none None some = absurd (some refl)
none-none (Some x) some = refl

-- where a thread is enabled, the run isn't stuck
not-stuck : (run : Run) (S : State) (t : ℕ) → t < run.threads → enabled S t ≡ true → is_stuck run S ≡ false
not-stuck run S t below on =
    let found : is_none (enabled_among S 0 run.threads) ≡ false = none-none (enabled_among S 0 run.threads) (found-enabled S t 0 run.threads (omega arith) (omega (arith, below)) on) in
    rw found refl

not-deadlock : (b : Bool) → b ≡ false → (if◌then◌else◌ {A = Option Cause} b (Some cause.Deadlock) None) ≡ None
not-deadlock true is = absurd (true≢false is)
not-deadlock false is = refl

-- so it has no cause, unless it is whole
pub open-cause : (run : Run) (S : State) (t : ℕ) → t < run.threads → enabled S t ≡ true → whole_value S.world ≡ None → cause_in run S ≡ None
open-cause run S t below on unfinished =
    ap (cause_by_halt run S) (turn-goes S t on).halt ∙ ap (cause_of_whole run S) unfinished ∙ not-deadlock (is_stuck run S) (not-stuck run S t below on)

-- so a visit to a run that isn't whole, nor ended for want of memory, is a turn exactly where the thread is enabled
pub turn-open : (book : BookView) (t : ℕ) → book.ended ≡ false → whole_value (state_of book).world ≡ None → t < book.run.threads → is_turn book t ≡ enabled (state_of book) t
turn-open book t open_still unfinished below = by-enabled (enabled (state_of book) t) refl
  where
    by-enabled : (b : Bool) → enabled (state_of book) t ≡ b → (not book.ended && is_none (cause_of book.run book.history) && b) ≡ b
    by-enabled true on = rw (open_still, open-cause book.run (state_of book) t below on unfinished) refl
    by-enabled false off = and-false (not book.ended && is_none (cause_of book.run book.history))

-- where it is whole, it has a cause
pub whole-cause : (run : Run) (S : State) (value : ℤ) → whole_value S.world ≡ Some value → is_none (cause_in run S) ≡ false
whole-cause run S value whole = by-halt S.halt
  where
    by-halt : (halt : Option Halt) → is_none (cause_by_halt run S halt) ≡ false
    by-halt (Some halt) = refl
    by-halt None = rw whole refl

-- Room that is made leaves the entries as they are.

pub reserved-list : (before after : RoomyList Entry) (room : ℕ) → after ≡ record before { free = max before.free room } → after.list ≡ before.list
reserved-list before after room is = ap (λ (entries : RoomyList Entry). entries.list) is

pub reserved-free : (before after : RoomyList Entry) (room : ℕ) → after ≡ record before { free = max before.free room } → room ≤ after.free
reserved-free before after room is = omega (arith, ap (λ (entries : RoomyList Entry). entries.free) is)

-- What is so of every book stays so.

-- at first
pub book-first : (run : Run) (entries : RoomyList Entry) → 1 ≤ run.threads → entries.list ≡ [] → IsBook run (first run) entries 0
book-first run entries some none =
    record {
      some = some;
      legal = rw none tt;
      reached = rw none refl;
      running = λ on. omega arith;
      short = omega (arith, ap length none);
      pending = omega (arith, count-none run.threads);
      room = omega arith;
    }

-- at most one more thread is inside a callback after a turn, and no other where no event occurred
turn-count : (S after : State) (t : ℕ) (o : Outcome) → Leaves S t after o → count_pending after.pending ≤ count_pending S.pending + 1
turn-count S after t outcome.Idle leaves = omega (arith, ap count_pending leaves.2)
turn-count S after t outcome.Quiet leaves = omega (arith, ap count_pending leaves.2)
turn-count S after t (outcome.Happens event) leaves = omega (arith, ap count_pending leaves.2, count-in S.pending t (called event))
turn-count S after t (outcome.Halts halt) leaves = omega (arith, ap count_pending leaves.2)

alone-count : (S after : State) (t : ℕ) (o : Outcome) → Leaves S t after o → inside_after o t ≡ None → count_pending after.pending ≤ count_pending S.pending
alone-count S after t outcome.Idle leaves none = omega (arith, ap count_pending leaves.2)
alone-count S after t outcome.Quiet leaves none = omega (arith, ap count_pending leaves.2)
alone-count S after t (outcome.Happens event) leaves none = cc
alone-count S after t (outcome.Halts halt) leaves none = omega (arith, ap count_pending leaves.2)

module _ (run : Run) (S : State) (E : RoomyList Entry) (owing : ℕ) (book : IsBook run S E owing) (t : ℕ) where
  module _ (on : enabled S t ≡ true) (later : RoomyList Entry) (entries : later.list ≡ E.list ++ go_at t ∷ []) where
    turned : (more : ℕ) → count_pending (turn run S t).state.pending ≤ more → more ≤ owing + 1 → 4 * more ≤ later.free → IsBook run (turn run S t).state later more
    turned more pending few room =
        record {
          some = book.some;
          legal = rw entries (legal-append run (first run) E.list (go_at t ∷ []) book.legal (rw book.reached (on, tt)));
          reached = rw entries (after-append run (first run) E.list (go_at t ∷ []) ∙ ap (λ (S : State). (turn run S t).state) book.reached);
          running = turn-below run S t on;
          short = omega (arith, book.short, few, turns-rise run S t on, ap length entries, length-append E.list (go_at t ∷ []));
          pending = pending;
          room = room;
        }

    -- after a turn, whose event may be told
    pub book-turned : 4 * (owing + 1) ≤ later.free → IsBook run (turn run S t).state later (owing + 1)
    book-turned room =
        turned (owing + 1) (omega (arith, book.pending, turn-count S (turn run S t).state t (turn run S t).outcome (leaves-turn run S t))) (omega arith) room

    -- after a turn without an event
    pub book-alone : inside_after (turn run S t).outcome t ≡ None → 4 * owing ≤ later.free → IsBook run (turn run S t).state later owing
    book-alone none room =
        turned owing (omega (arith, book.pending, alone-count S (turn run S t).state t (turn run S t).outcome (leaves-turn run S t) none)) (omega arith) room

-- a store changes not how many threads are inside a callback
put_from-count : (S : State) (t : ℕ) (place : Target) (word : ℕ) (callback : Option Callback) → pending_at S t ≡ callback → count_pending (put_from S t place word callback).pending ≡ count_pending S.pending
put_from-count S t place word None is = refl
put_from-count S t place word (Some callback) is = count-same S.pending t callback (record callback { stores = callback.stores + 1 }) is

put_all-count : (S : State) (t : ℕ) (stores : List Stored) → count_pending (put_all S t stores).pending ≡ count_pending S.pending
put_all-count S t [] = refl
put_all-count S t (store ∷ rest) =
    put_all-count (put S t store.target store.word) t rest ∙ put_from-count S t store.target store.word (pending_at S t) refl

-- and a return leaves one fewer
back_from-count : (S : State) (t : ℕ) (callback : Option Callback) → pending_at S t ≡ callback → IsSome callback → count_pending (back_from S t callback).pending + 1 ≡ count_pending S.pending
back_from-count S t None is some = absurd (true≢false (sym some))
back_from-count S t (Some callback) is some = count-out S.pending t callback is

-- after the stores and the return of a callback, where they may stand next
pub book-returned :
    (run : Run) (S : State) (E : RoomyList Entry) (owing : ℕ) → IsBook run S E owing → (t : ℕ) (stores : List Stored) → length stores ≤ 3 → MayStore run S t stores → IsSome (pending_at (put_all S t stores) t)
    → (later : RoomyList Entry) → later.list ≡ E.list ++ event_reply t stores → (fewer_owing : ℕ) → owing ≡ fewer_owing + 1 → 4 * fewer_owing ≤ later.free → IsBook run (back (put_all S t stores) t) later fewer_owing
book-returned run S E owing book t stores few may inside later entries fewer_owing one room =
    let between = put_all S t stores in
    let fewer : count_pending (back between t).pending + 1 ≡ count_pending S.pending = back_from-count between t (pending_at between t) refl inside ∙ put_all-count S t stores in
    record {
      some = book.some;
      legal = rw entries (legal-append run (first run) E.list (event_reply t stores) book.legal (rw book.reached (reply-legal run S t stores [] may inside tt)));
      reached = rw entries (after-append run (first run) E.list (event_reply t stores) ∙ ap (λ (S : State). after_from run S (event_reply t stores)) book.reached ∙ reply-after run S t stores []);
      running = λ on. rw (back-turns between t, put_all-turns S t stores) (book.running (sym (put_all-halt S t stores) ∙ sym (back-halt between t) ∙ on));
      short = omega (arith, book.short, book.pending, fewer, one, few, back-turns between t, put_all-turns S t stores, ap length entries, length-append E.list (event_reply t stores), length-append (puts_at t stores) (back_at t ∷ []), length-map stores (put_at t));
      pending = omega (arith, book.pending, fewer, one);
      room = room;
    }

-- What is known of a book's parts, where it is seen as these pages.
module _ (run : Run) (S : State) (E : RoomyList Entry) (owing : ℕ) (ended : Bool) (book : BookView) (view : record { run = run; history = E.list; ended = ended } ≡ book) (so : IsBook run S E owing) where
  pub same-run : book.run ≡ run
  same-run = ap (λ (book : BookView). book.run) (sym view)

  pub same-history : book.history ≡ E.list
  same-history = ap (λ (book : BookView). book.history) (sym view)

  pub same-state : state_of book ≡ S
  same-state = subst (λ (book : BookView). state_of book ≡ S) view so.reached

  pub enabled-here : (t : ℕ) → enabled (state_of book) t ≡ true → enabled S t ≡ true
  enabled-here t on = subst (λ (S : State). enabled S t ≡ true) same-state on

  -- an answer that is owed, said of the parts
  pub owes-here : (t : ℕ) (snapshot : Snapshot) → OwesAnswer book t snapshot → OwesAnswer (record { run = run; history = E.list; ended = ended }) t snapshot
  owes-here t snapshot owes = subst (λ (book : BookView). OwesAnswer book t snapshot) (sym view) owes

none-of : {A : Type 0} (o : Option A) → is_some o ≡ false → o ≡ None
none-of None none = refl
none-of (Some x) none = absurd (true≢false none)

-- the visit to a book that may go on is a turn exactly where the thread is enabled
pub turn-here : (run : Run) (S : State) (E : RoomyList Entry) (owing : ℕ) (ended : Bool) (book : BookView) → record { run = run; history = E.list; ended = ended } ≡ book → IsBook run S E owing → (t : ℕ) → ended ≡ false → is_some (whole_value S.world) ≡ false → t < book.run.threads → enabled S t ≡ is_turn book t
turn-here run S E owing ended book view so t undone unfinished below =
    let parts : BookView = record { run = run; history = E.list; ended = ended } in
    let within : t < run.threads = subst (λ (book : BookView). t < book.run.threads) (sym view) below in
    let whole : whole_value (state_of parts).world ≡ None = ap (λ (S : State). whole_value S.world) so.reached ∙ none-of (whole_value S.world) unfinished in
    subst (λ (book : BookView). enabled S t ≡ is_turn book t) view (sym (turn-open parts t undone whole within ∙ ap (λ (S : State). enabled S t) so.reached))

-- a thread that owes an answer is counted
pub owing-some : (run : Run) (S : State) (E : RoomyList Entry) (owing : ℕ) (ended : Bool) (t : ℕ) (snapshot : Snapshot) → IsBook run S E owing → OwesAnswer (record { run = run; history = E.list; ended = ended }) t snapshot → 1 ≤ owing
owing-some run S E owing ended t snapshot so owes =
    let inside : pending_at S t ≡ Some (called owes.owes.event) = ap (λ (S : State). pending_at S t) (sym so.reached) ∙ owes.owes.inside in
    omega (arith, so.pending, count-out S.pending t (called owes.owes.event) inside)

-- how long a history may get
pub short-history : (run : Run) (S : State) (E : RoomyList Entry) (owing t : ℕ) → IsBook run S E owing → enabled S t ≡ true → length E.list + 4 * owing < 5 * TURN_LIMIT
short-history run S E owing t so on = let turns : S.turns < TURN_LIMIT = so.running (turn-goes S t on).halt in omega (arith, so.short)

-- A thread whose event has just been told owes its answer.

-- it is inside the callback
pub inside-told : (run : Run) (history : List Entry) (t : ℕ) (event : Event) → 1 ≤ run.threads → t < run.threads → (turn run (after run history) t).outcome ≡ outcome.Happens event → pending_at (turn run (after run history) t).state t ≡ Some (called event)
inside-told run history t event some below happens =
    let S = after run history in
    let places : length S.pending ≡ run.threads = (made-after run history some).places in
    ap (λ pending. slice_index_or pending t None) (turn-pending run S t event happens) ∙ get_or-set_same S.pending t (Some (called event)) None (omega (arith, places, below))

pub owes-told :
    (book : BookView) (t seq : ℕ) (call : Call) (snapshot : Snapshot) → 1 ≤ book.run.threads → t < book.run.threads → (told : HasTold book t seq call snapshot)
    → Owes book.run (book.history ++ (turn_visit book t).added) t seq call snapshot
owes-told book t seq call snapshot some below told =
    let run = book.run in
    let reached : after run (book.history ++ go_at t ∷ []) ≡ (turn run (after run book.history) t).state = after-append run (first run) book.history (go_at t ∷ []) in
    subst (λ added. Owes run (book.history ++ added) t seq call snapshot) (sym told.added_is) (record {
      before = book.history;
      since = [];
      event = told.is_told.event;
      history_is = refl;
      none_since = tt;
      place = told.place;
      happens = told.is_told.happens;
      registered = told.is_told.registered;
      call_is = sym told.is_told.call_is;
      snapshot_is = sym told.is_told.snapshot_is;
      inside = ap (λ (S : State). pending_at S t) reached ∙ inside-told run book.history t told.is_told.event some below told.is_told.happens;
    })

-- said of a book's parts
pub owes-turned :
    (run : Run) (S : State) (E : RoomyList Entry) (owing : ℕ) (ended : Bool) → IsBook run S E owing → (t seq : ℕ) (call : Call) (snapshot : Snapshot) → t < run.threads → went.Told call snapshot ≡ went_of run S t → seq ≡ length E.list
    → (later : List Entry) → later ≡ E.list ++ go_at t ∷ [] → Owes run later t seq call snapshot
owes-turned run S E owing ended so t seq call snapshot below said place later is =
    let parts : BookView = record { run = run; history = E.list; ended = ended } in
    let visit_is = turn-went parts S t (went.Told call snapshot) so.reached said in
    let told : HasTold parts t seq call snapshot = told-step parts t seq call snapshot (ap (λ (visit : Visit). visit.step) visit_is ∙ ap (λ seq. Told seq call snapshot) (sym place)) in
    let owes = owes-told parts t seq call snapshot so.some below told in
    subst (λ history. Owes run history t seq call snapshot) (ap (λ added. E.list ++ added) told.added_is ∙ sym is) owes
