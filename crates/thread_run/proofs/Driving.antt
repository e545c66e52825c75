-- What a driver's part was called for, after each call of its pass.
use Rattle.std.proofs.Common.{◌≡◌, ℕ, ◌+◌, ◌<◌, Bool, true, false, if◌then◌else◌, List, [], ◌∷◌, ◌++◌, length, Option, Some, None, Result, Ok, Err, IfOk, OnErr, slice_index_or, slice_set, get_or-set_same, refl, sym, ap, subst, ◌∙◌, append_assoc, append-nil, inl, inr, arith}
use Rattle.std.{specs.Result.IsOk, proofs.lemmas.Bool.true≢false, proofs.lemmas.Bool.false_from_ne_true, proofs.lemmas.Bool.cases_lt, proofs.lemmas.List.get_or_past, proofs.lemmas.List.length-set, proofs.lemmas.List.length-replicate}
use Rattle.omp_model.specs.declared.cause.Cause.TheVariants as causes
use Rattle.omp_model.specs.declared.event.Outcome.TheVariants as outcome
use Rattle.omp_model.{specs.Cause.cause_of, specs.Legal.AllowsFrom, specs.Storing.back_at, specs.Storing.puts_at, proofs.Turns.leaves-turn, proofs.Turns.turn-goes}
use Rattle.step_book.specs.Visit.{Visit, idle_by, is_turn, turn_visit, visit}
use Rattle.step_book.{specs.declared.hold.Hold.Hold, specs.declared.step.Step.TheVariants.Quiet, specs.declared.step.Step.TheVariants.NotYet, specs.declared.step.Step.TheVariants.Ended, specs.Sharing.AnswersThen, specs.Sharing.VisitsAfterOthers, specs.Sharing.IsHold, specs.Steps.hold_by, proofs.Histories.after-append, proofs.Others.entries-append, proofs.Others.entries-others, proofs.Others.not_by-append}
use Rattle.step_book.{proofs.Others.owes-still, proofs.Telling.ended-step, proofs.Telling.not_yet-step, proofs.Telling.quiet-step, proofs.Telling.told-step, proofs.Visiting.visit-idle, proofs.Visiting.visit-turn}
use Rattle.team_run.specs.Names.{Call, Reply, Snapshot, item_of, is_registered, stores_of, Record, one_unheard, told, Cause, Callback, Event, Entry, Run, State, first, pending_at, callback_of, heard_of, Legal, after, after_from, back, back_from, entered, inside_after, event_reply, go_at, turn, Step, Told, NotBy, Owes, BookView, state_of, entries_of, AddsHold, PassView, book_after}
use Rattle.team_run.{specs.Serving.called_for, specs.Serving.served, specs.Unheard.LeftAt, proofs.Visiting.same-pending}
use Rattle.thread_run.proofs.Hearing.{answered, back-others, heard-split, heard_on, item_with, more-without}
use Rattle.thread_run.specs.Driving.{HasCome, HasStep, IsDriven, IsInside}

-- Entries that leave a thread as it was.

-- after these entries the thread has heard what it had heard, and is inside no callback
pub record IsCalm (run : Run) (history added : List Entry) (t : ℕ) : Type 0 where
  pub same : heard_of run (history ++ added) t ≡ heard_of run history t
  pub outside : pending_at (after run (history ++ added)) t ≡ None

calm-none : (run : Run) (history : List Entry) (t : ℕ) → pending_at (after run history) t ≡ None → IsCalm run history [] t
calm-none run history t outside =
    record { same = ap (λ history. heard_of run history t) (append-nil history); outside = ap (λ history. pending_at (after run history) t) (append-nil history) ∙ outside }

-- a Go without an event
calm-alone : (run : Run) (history : List Entry) (t : ℕ) → pending_at (after run history) t ≡ None → inside_after (turn run (after run history) t).outcome t ≡ None → IsCalm run history (go_at t ∷ []) t
calm-alone run history t outside none =
    let S = after run history in record {
      same = more-without run (first run) 0 t history (go_at t ∷ []) refl;
      outside =
          ap (λ (S : State). pending_at S t) (after-append run (first run) history (go_at t ∷ []))
          ∙ ap (λ pending. slice_index_or pending t None) (same-pending S (turn run S t).state t (turn run S t).outcome (leaves-turn run S t) none) ∙ outside;
    }

-- a thread that has returned from its callback is inside none
pub back-outside : (S : State) (t : ℕ) → pending_at (back S t) t ≡ None
back-outside S t = by (pending_at S t) refl
  where
    by : (callback : Option Callback) → pending_at S t ≡ callback → pending_at (back_from S t callback) t ≡ None
    by None is = is
    by (Some callback) is = elim (cases_lt t (length S.pending)) [
      | inl within ↦ get_or-set_same S.pending t None None within
      | inr past ↦ get_or_past (slice_set S.pending t None) t None (omega (arith, past, length-set S.pending t None))
    ]

within : (run : Run) (t : ℕ) → t < run.threads → t < length (first run).pending
within run t below = let none : Option Callback = None in omega (arith, below, length-replicate run.threads none)

-- an event that isn't told, with its Back
calm-untold : (run : Run) (history : List Entry) (t : ℕ) (event : Event) → t < run.threads → pending_at (after run history) t ≡ None → (turn run (after run history) t).outcome ≡ outcome.Happens event → is_registered run.mask (callback_of event) ≡ false → IsCalm run history (go_at t ∷ back_at t ∷ []) t
calm-untold run history t event below outside happens unregistered =
    let S = after run history in
    let silent : heard_on run S (0 + length history) (go_at t ∷ back_at t ∷ []) t ≡ [] = rw (happens, unregistered) refl in record {
      same = heard-split run (first run) 0 t history (go_at t ∷ back_at t ∷ []) (within run t below) outside ∙ ap (λ more. heard_of run history t ++ more) silent ∙ append-nil (heard_of run history t);
      outside = ap (λ (S : State). pending_at S t) (after-append run (first run) history (go_at t ∷ back_at t ∷ [])) ∙ back-outside (turn run S t).state t;
    }

-- what a visit adds that comes to this step: the thread has heard no more, and is inside no callback where no event is told
abbrev Adds : Run → List Entry → List Entry → ℕ → Step → Type 0
Adds run history added t (Told seq call snapshot) = heard_of run (history ++ added) t ≡ heard_of run history t
Adds run history added t other = IsCalm run history added t

turn-adds : (book : BookView) (t : ℕ) → t < book.run.threads → pending_at (state_of book) t ≡ None → (step : Step)
    → (turn_visit book t).step ≡ step → Adds book.run book.history (turn_visit book t).added t step
turn-adds book t below outside (Told seq call snapshot) is =
    rw (told-step book t seq call snapshot is).added_is (more-without book.run (first book.run) 0 t book.history (go_at t ∷ []) refl)
turn-adds book t below outside Quiet is = elim (quiet-step book t is) [
  | inl alone ↦ rw alone.added_is (calm-alone book.run book.history t outside alone.none)
  | inr untold ↦ rw untold.added_is (calm-untold book.run book.history t untold.is_untold.event below outside untold.is_untold.happens untold.is_untold.unregistered)
]
turn-adds book t below outside NotYet is = absurd (not_yet-step book t is)
turn-adds book t below outside (Ended cause) is =
    let alone = ended-step book t cause is in rw alone.added_is (calm-alone book.run book.history t outside alone.none)

idle-adds : (book : BookView) (t : ℕ) → pending_at (state_of book) t ≡ None → (ended : Bool) (cause : Option Cause)
    → Adds book.run book.history [] t (if◌then◌else◌ {A = Step} ended (Ended causes.Memory) (idle_by cause))
idle-adds book t outside true cause = calm-none book.run book.history t outside
idle-adds book t outside false (Some cause) = calm-none book.run book.history t outside
idle-adds book t outside false None = calm-none book.run book.history t outside

visit-adds : (book : BookView) (t : ℕ) → t < book.run.threads → pending_at (state_of book) t ≡ None
    → Adds book.run book.history (visit book t).added t (visit book t).step
visit-adds book t below outside =
    let adds = λ (v : Visit). Adds book.run book.history v.added t v.step in
    elim (is_turn book t) as (λ b. is_turn book t ≡ b → Adds book.run book.history (visit book t).added t (visit book t).step) [
      | true ↦ λ is. subst adds (sym (visit-turn book t is)) (turn-adds book t below outside (turn_visit book t).step refl)
      | false ↦ λ is. subst adds (sym (visit-idle book t is)) (idle-adds book t outside book.ended (cause_of book.run book.history))
    ] refl

-- the history that the pass has seen after a hold
pub hold-entries : (before later : PassView) (between : List Hold) (entries : List Entry) → IsHold before later between entries → entries_of later.seen ≡ (entries_of before.seen ++ entries_of between) ++ entries
hold-entries before later between entries hold =
    ap entries_of hold.seen ∙ entries-append (before.seen ++ between) (hold_by before.thread entries ∷ [])
    ∙ ap (λ front. front ++ (entries ++ [])) (entries-append before.seen between) ∙ ap (λ more. (entries_of before.seen ++ entries_of between) ++ more) (append-nil entries)

-- How others' entries leave a thread.

pub left-others : (run : Run) (history more : List Entry) (t : ℕ) (unheard : Bool) → NotBy t more → LeftAt run history t unheard → LeftAt run (history ++ more) t unheard
left-others run history more t true none left =
    record { seq = left.seq; call = left.call; snapshot = left.snapshot; owes = owes-still run history more t left.seq left.call left.snapshot left.owes none }
left-others run history more t false none left =
    ap (λ (S : State). pending_at S t) (after-append run (first run) history more) ∙ entries-others run (after run history) t more none
    ∙ left

pub heard-others : (run : Run) (history more : List Entry) (t : ℕ) → NotBy t more → heard_of run (history ++ more) t ≡ heard_of run history t
heard-others run history more t none = more-without run (first run) 0 t history more (back-others t more none)

-- what is allowed behind a part of a legal history
legal-behind : (run : Run) (S : State) (xs ys : List Entry) → AllowsFrom run S (xs ++ ys) → AllowsFrom run (after_from run S xs) ys
legal-behind run S [] ys legal = legal
legal-behind run S (entry ∷ xs) ys legal = legal-behind run (entered run S entry) xs ys legal.1

module _ {P : Type 0} (stands_for : P → Record → Type 0) (Same : P → P → Type 0) (run : Run) (whose : P) where
  abbrev Driven : PassView → P → Type 0
  Driven pass part = IsDriven stands_for Same run whose pass part

  abbrev Inside : PassView → P → Type 0
  Inside pass part = IsInside stands_for Same run whose pass part

  -- a hold without an entry
  driven-later : (pass later : PassView) (part : P) (unheard : Bool) → AddsHold pass later [] → (unheard ≡ true → later.ended ≡ true)
      → LeftAt run (entries_of pass.seen) pass.thread unheard → ((h : Record) → stands_for whose h
      → stands_for part (called_for (heard_of run (entries_of pass.seen) pass.thread) unheard h)) → Same whose part → Driven later part
  driven-later pass later part unheard grows over left hears same =
      let more = entries_of grows.between in
      let seen : entries_of later.seen ≡ entries_of pass.seen ++ more =
      hold-entries pass later grows.between [] grows.is_hold ∙ append-nil _ in record {
        unheard = unheard;
        left = rw (seen, grows.is_hold.thread) (left-others run (entries_of pass.seen) more pass.thread unheard grows.is_hold.not_by left);
        over = over;
        hears = λ h stands. rw (seen, grows.is_hold.thread, heard-others run (entries_of pass.seen) more pass.thread grows.is_hold.not_by)
            (hears h stands);
        same_is = same;
      }

  driven-grown : (pass later : PassView) (part : P) → AddsHold pass later [] → (pass.ended ≡ true → later.ended ≡ true) → Driven pass part
      → Driven later part
  driven-grown pass later part grows ended driven =
      driven-later pass later part driven.unheard grows (λ unheard. ended (driven.over unheard)) driven.left driven.hears driven.same_is

  -- a pass that hasn't ended the run is inside no callback
  open-of : (pass : PassView) (part : P) → pass.ended ≡ false → Driven pass part
      → (pending_at (after run (entries_of pass.seen)) pass.thread ≡ None) × Inside pass part
  open-of pass part ended driven =
      let heard : driven.unheard ≡ false = false_from_ne_true driven.unheard (λ is. true≢false (sym (driven.over is) ∙ ended)) in
      (rw heard at driven.left, record { hears = rw heard at driven.hears; same_is = driven.same_is })

  pub driven-open : (pass : PassView) (part : P) → pending_at (after run (entries_of pass.seen)) pass.thread ≡ None → Inside pass part → Driven pass part
  driven-open pass part outside inside =
      record { unheard = false; left = outside; over = λ same. absurd (true≢false (sym same)); hears = inside.hears; same_is = inside.same_is }

  -- its callback was answered
  pub driven-answered :
      (pass later : PassView) (part next : P) (seq : ℕ) (call : Call) (snapshot : Snapshot) (reply : Reply) → Legal run (entries_of pass.seen) → pass.thread < run.threads → Owes run (entries_of pass.seen) pass.thread seq call snapshot
      → AddsHold pass later (event_reply pass.thread (stores_of reply snapshot)) → ((h : Record) → stands_for part h → stands_for next (told h (item_of seq pass.thread call snapshot reply))) → ((first second third : P) → Same first second → Same second third → Same first third) → Same part next → Inside pass part → Driven later next
  driven-answered pass later part next seq call snapshot reply legal below owed grows tells onward kept inside =
      let t = pass.thread in
      let stores = stores_of reply snapshot in
      let between = entries_of grows.between in
      let since = owed.since ++ between in
      let none_since = not_by-append t owed.since between owed.none_since grows.is_hold.not_by in
      let S = after run owed.before in
      let behind = go_at t ∷ (since ++ event_reply t stores) in
      let seen : entries_of later.seen ≡ owed.before ++ behind =
      hold-entries pass later grows.between (event_reply t stores) grows.is_hold ∙ ap (λ front. (front ++ between) ++ event_reply t stores) owed.history_is
      ∙ ap (λ front. front ++ event_reply t stores) (append_assoc owed.before (go_at t ∷ owed.since) between) ∙ append_assoc owed.before (go_at t ∷ since) (event_reply t stores) in
      let outside : pending_at S t ≡ None = (turn-goes S t (legal-behind run (first run) owed.before (go_at t ∷ owed.since) (subst (AllowsFrom run (first run)) owed.history_is legal)).0).outside in
      let item = item_of seq t call snapshot reply in
      let place : 0 + length owed.before ≡ seq = omega (arith, owed.place) in
      let is : item_with (0 + length owed.before) t (turn run S t).state.world owed.event stores ≡ item =
      rw (place, owed.call_is, owed.snapshot_is) refl in
      let told_now = answered run S (0 + length owed.before) t owed.event since stores owed.happens owed.registered none_since in
      let heard : heard_of run (entries_of later.seen) later.thread ≡ heard_of run owed.before t ++ item ∷ [] =
      rw (seen, grows.is_hold.thread) (heard-split run (first run) 0 t owed.before behind (within run t below) outside
      ∙ ap (λ more. heard_of run owed.before t ++ more) (told_now ∙ ap (λ item. item ∷ []) is)) in
      let before : heard_of run (entries_of pass.seen) t ≡ heard_of run owed.before t =
      ap (λ history. heard_of run history t) owed.history_is
      ∙ more-without run (first run) 0 t owed.before (go_at t ∷ owed.since) (back-others t owed.since owed.none_since) in
      let front = entries_of pass.seen ++ between in
      let put = after_from run (after run front) (puts_at t stores) in
      let left : pending_at (after run (entries_of later.seen)) later.thread ≡ None =
      rw (hold-entries pass later grows.between (event_reply t stores) grows.is_hold, grows.is_hold.thread)
      (ap (λ (S : State). pending_at S t) (after-append run (first run) front (event_reply t stores)
      ∙ after-append run (after run front) (puts_at t stores) (back_at t ∷ [])) ∙ back-outside put t) in
      driven-open later next left (record {
        hears = λ h stands.
            rw (heard, ← append_assoc) (tells (served h (heard_of run owed.before t)) (rw before at (inside.hears h stands)));
        same_is = onward whose part next inside.same_is kept;
      })

  -- its part found no memory
  pub driven-unheard : (pass later : PassView) (part next : P) (seq : ℕ) (call : Call) (snapshot : Snapshot)
      → Owes run (entries_of pass.seen) pass.thread seq call snapshot → AddsHold pass later [] → later.ended ≡ true
      → ((h : Record) → stands_for part h → stands_for next (one_unheard h)) → ((first second third : P) → Same first second → Same second third → Same first third) → Same part next → Inside pass part → Driven later next
  driven-unheard pass later part next seq call snapshot owes grows ended none onward kept inside =
      driven-later pass later next true grows (λ same. ended) (record { seq = seq; call = call; snapshot = snapshot; owes = owes })
      (λ h stands. none _ (inside.hears h stands)) (onward whose part next inside.same_is kept)

  -- a visit of a pass that hasn't ended the run
  step-gone : (pass later : PassView) (part : P) (step : Step) → pass.thread < run.threads → pass.ended ≡ false → later.ended ≡ pass.ended
      → VisitsAfterOthers run pass step later → Driven pass part → HasStep stands_for Same run whose later part step
  step-gone pass later part step below ended same goes driven =
      let t = pass.thread in
      let book = book_after run (pass.seen ++ goes.between) goes.ended in
      let added = (visit book t).added in
      let before = open-of pass part ended driven in
      let whole : book.history ≡ entries_of pass.seen ++ entries_of goes.between = entries-append pass.seen goes.between in
      let outside : pending_at (after run book.history) t ≡ None =
      rw whole (left-others run (entries_of pass.seen) (entries_of goes.between) t false goes.is_hold.not_by before.0) in
      let heard : heard_of run book.history t ≡ heard_of run (entries_of pass.seen) t =
      rw whole (heard-others run (entries_of pass.seen) (entries_of goes.between) t goes.is_hold.not_by) in
      let seen : entries_of later.seen ≡ book.history ++ added =
      hold-entries pass later goes.between added goes.is_hold ∙ ap (λ front. front ++ added) (sym whole) in
      let inside : heard_of run (book.history ++ added) t ≡ heard_of run book.history t → Inside later part = λ more. record {
        hears = λ h stands. rw (seen, goes.is_hold.thread, more, heard) (before.1.hears h stands);
        same_is = before.1.same_is;
      } in
      elim step as (λ step. Adds run book.history added t step → HasStep stands_for Same run whose later part step) [
        | Told seq call snapshot ↦ λ more. (same ∙ ended, inside more)
        | other ↦ λ calm. driven-open later part (rw (seen, goes.is_hold.thread) calm.outside) (inside calm.same)
      ] (rw (← goes.step_is) at (visit-adds book t below outside))

  -- a visit, and then no memory
  driven-ended : (pass later last : PassView) (part : P) → AddsHold pass later [] → later.ended ≡ pass.ended → AddsHold later last [] → last.ended ≡ true → Driven pass part → Driven last part
  driven-ended pass later last part one same two ended driven =
      driven-grown later last part two (λ over. ended) (driven-grown pass later part one (λ over. same ∙ over) driven)

  -- a visit of a pass
  pub come-gone : {E : Type 0} (pass later : PassView) (part : P) (result : Result Step E) → pass.thread < run.threads
      → (pass.ended ≡ true → (later ≡ pass) × IsOk result × IfOk result (λ step. step ≡ Ended causes.Memory)) → (pass.ended ≡ false → IfOk result (λ step. VisitsAfterOthers run pass step later))
      → OnErr result (AddsHold pass later []) → later.ended ≡ pass.ended → Driven pass part → HasCome stands_for Same run whose later part result
  come-gone pass later part (Ok step) below over goes memory same driven = by pass.ended refl
    where
      by : (ended : Bool) → pass.ended ≡ ended → HasStep stands_for Same run whose later part step
      by true ended = rw ((over ended).2, (over ended).0) driven
      by false ended = step-gone pass later part step below ended same (goes ended) driven
  come-gone pass later part (Err e) below over goes memory same driven = λ last grows ended. driven-ended pass later last part memory same grows ended driven

  -- its callback was answered, and then it visited again
  pub come-answered :
      {E : Type 0} (pass later : PassView) (part next : P) (seq : ℕ) (call : Call) (snapshot : Snapshot) (reply : Reply) (result : Result Step E) → Legal run (entries_of pass.seen) → pass.thread < run.threads → pass.ended ≡ false
      → Owes run (entries_of pass.seen) pass.thread seq call snapshot
      → IfOk result (λ step. AnswersThen pass (event_reply pass.thread (stores_of reply snapshot)) (λ answered. VisitsAfterOthers run answered step later))
      → OnErr result (AnswersThen pass (event_reply pass.thread (stores_of reply snapshot)) (λ answered. AddsHold answered later [])) → later.ended ≡ pass.ended
      → ((h : Record) → stands_for part h → stands_for next (told h (item_of seq pass.thread call snapshot reply))) → ((first second third : P) → Same first second → Same second third → Same first third) → Same part next → Inside pass part → HasCome stands_for Same run whose later next result
  come-answered pass later part next seq call snapshot reply (Ok step) legal below open_now owes goes memory same tells onward kept inside =
      let driven = driven-answered pass goes.answered part next seq call snapshot reply legal below owes goes.grows tells onward kept inside in
      step-gone goes.answered later next step (rw goes.grows.is_hold.thread below) (goes.ended ∙ open_now) (same ∙ sym goes.ended) goes.next driven
  come-answered pass later part next seq call snapshot reply (Err e) legal below open_now owes goes memory same tells onward kept inside =
      let driven = driven-answered pass memory.answered part next seq call snapshot reply legal below owes memory.grows tells onward kept inside in
      λ last grows ended. driven-ended memory.answered later last next memory.next (same ∙ sym memory.ended) grows ended driven
