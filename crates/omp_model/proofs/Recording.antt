-- What a serial run has come to, however its history goes on: the invariant of a loop that appends each turn's entries.
use Rattle.std.specs.Prelude.{◌≡◌, ℕ, zero, suc, ◌+◌, ◌-◌, ◌<◌, ◌≤◌, Bool, true, false, ◌&&◌, if◌then◌else◌, List, [], ◌∷◌, ◌++◌, length, map, Option, Some, None, IsSome, refl}
use Rattle.std.proofs.Common.{filter, cond, ◌==◌, sym, ap, ◌∙◌, subst, subst₂, ◌⊎◌, inl, inr, append_assoc, append-nil, length-append, eq-eqb, arith}
use Rattle.std.proofs.lemmas.Bool.{cases_eq, cases_lt}
use Rattle.std.proofs.lemmas.List.{length-map}
use Rattle.ompt_calls.specs.declared.snapshot.Target.{Target}
use Rattle.ompt_calls.specs.Item.{Item}
use Rattle.ompt_calls.specs.Number.{is_registered}
use Rattle.ompt_calls.specs.Snapshot.{Stored}
use Rattle.omp_model.specs.declared.limits.TheConstants.{TURN_LIMIT}
use Rattle.omp_model.specs.declared.history.Entry.{Entry}
use Rattle.ompt_calls.specs.declared.event.EventRecord.{EventRecord}
use Rattle.omp_model.specs.declared.event.Callback.{Callback}
use Rattle.omp_model.specs.declared.event.Event.{Event}
use Rattle.omp_model.specs.State.{Run, State, World, first, pending_at}
use Rattle.omp_model.specs.Calls.{call_of, callback_of}
use Rattle.omp_model.specs.Snapshots.{snap_of}
use Rattle.omp_model.specs.declared.event.Outcome.{Outcome}
use Rattle.omp_model.specs.declared.event.Outcome.TheVariants.{Idle, Quiet, Happens, Halts}
use Rattle.omp_model.specs.Turn.{turn, enabled}
use Rattle.omp_model.specs.Legal.{put_from, put, back, after_from, after, AllowsFrom}
use Rattle.omp_model.specs.Heard.{has_back, stores_in, heard_event, heard_outcome, heard_from, heard}
use Rattle.omp_model.specs.Serial.{enabled_among, or_else, first_enabled, Visit, start, go_of, onward_from, inside_after, Leads, StoresNothing, Serial, WholeSerial}
use Rattle.omp_model.specs.Storing.{put_all, MayStore, put_at, puts_at, go_at, back_at, event_reply}
use Rattle.omp_model.specs.Records.{record_of}
use Rattle.omp_model.specs.Running.{HasRun}
use Rattle.omp_model.proofs.Turns.{turns-rise, turn-below, back-turns, back-halt}

-- the thread that is found is enabled
among-enabled : (run : Run) (S : State) (from count t : ℕ) → enabled_among S from count ≡ Some t → enabled S t ≡ true
unfolding enabled_among
among-enabled run S from zero t is = cc
among-enabled run S from (suc count) t is =
    elim (enabled S from) as (λ b. enabled S from ≡ b → (if b then Some from else enabled_among S (from + 1) count) ≡ Some t → enabled S t ≡ true) [ true ↦ λ here found. let same : from ≡ t = cc in subst (λ u. enabled S u ≡ true) same here | false ↦ λ here found. among-enabled run S (from + 1) count t found ] refl is

-- the thread that is found is one of those
among-below : (run : Run) (S : State) (from count t : ℕ) → enabled_among S from count ≡ Some t → t < from + count
unfolding enabled_among
among-below run S from zero t is = cc
among-below run S from (suc count) t is =
    elim (enabled S from) as (λ b. (if b then Some from else enabled_among S (from + 1) count) ≡ Some t → t < from + suc count) [ true ↦ λ found. let same : from ≡ t = cc in omega arith | false ↦ λ found. let below = among-below run S (from + 1) count t found in omega arith ] is

-- where none is found, each of those isn't enabled
among-none : (run : Run) (S : State) (from count t : ℕ) → enabled_among S from count ≡ None → from ≤ t → t < from + count → enabled S t ≡ false
unfolding enabled_among
among-none run S from zero t is low high = absurd (omega arith)
among-none run S from (suc count) t is low high =
    elim (enabled S from) as (λ b. enabled S from ≡ b → (if b then Some from else enabled_among S (from + 1) count) ≡ None → enabled S t ≡ false) [ true ↦ λ here found. cc | false ↦ λ here found. elim (cases_eq from t) [ inl same ↦ subst (λ u. enabled S u ≡ false) same here | inr other ↦ among-none run S (from + 1) count t found (omega arith) (omega arith) ] ] refl is

-- where each of those isn't enabled, none is found
none-among : (run : Run) (S : State) (from count : ℕ) → ((t : ℕ) → from ≤ t → t < from + count → enabled S t ≡ false) → enabled_among S from count ≡ None
unfolding enabled_among
none-among run S from zero none = refl
none-among run S from (suc count) none =
    rw (none from (omega arith) (omega arith)) (none-among run S (from + 1) count (λ t low high. none t (omega arith) (omega arith)))

-- a thread found in either part
or_else-some : (o other : Option ℕ) (t : ℕ) → or_else o other ≡ Some t → (o ≡ Some t) ⊎ (other ≡ Some t)
or_else-some None other t is = inr is
or_else-some (Some u) other t is = inl is

-- no thread found in either part
or_else-none : (o other : Option ℕ) → or_else o other ≡ None → (o ≡ None) × (other ≡ None)
or_else-none None other is = (refl, is)
or_else-none (Some u) other is = cc

-- the thread whose turn it is is enabled
pub first_enabled-enabled : (run : Run) (S : State) (next t : ℕ) → first_enabled run S next ≡ Some t → enabled S t ≡ true
first_enabled-enabled run S next t is = elim (or_else-some (enabled_among S next (run.threads - next)) (enabled_among S 0 next) t is) [ inl found ↦ among-enabled run S next (run.threads - next) t found | inr found ↦ among-enabled run S 0 next t found ]

-- the thread whose turn it is is one of the run's
pub first_enabled-below : (run : Run) (S : State) (next t : ℕ) → next ≤ run.threads → first_enabled run S next ≡ Some t → t < run.threads
first_enabled-below run S next t low is = elim (or_else-some (enabled_among S next (run.threads - next)) (enabled_among S 0 next) t is) [ inl found ↦ let below = among-below run S next (run.threads - next) t found in omega arith | inr found ↦ let below = among-below run S 0 next t found in omega arith ]

-- where it is no thread's turn, none is enabled
pub first_enabled-none : (run : Run) (S : State) (next : ℕ) → next ≤ run.threads → first_enabled run S next ≡ None → enabled_among S 0 run.threads ≡ None
first_enabled-none run S next low is =
    let parts = or_else-none (enabled_among S next (run.threads - next)) (enabled_among S 0 next) is in
    none-among run S 0 run.threads (λ t bottom high. elim (cases_lt t next) [ inl before ↦ among-none run S 0 next t parts.1 (omega arith) (omega arith) | inr from ↦ among-none run S next (run.threads - next) t parts.0 from (omega arith) ])

-- before the first entry
pub HasRun-start : (run : Run) → HasRun run [] (start run)
HasRun-start run =
    record { legal = λ rest allows. allows; reached = λ rest. refl; in_turn = λ rest last leads. leads; heard_on = λ rest. refl; short = omega arith; running = λ on. omega arith; outside = refl }

-- a history of which this is known is legal and serial
pub HasRun-serial : {run : Run} {H : List Entry} {v : Visit} → HasRun run H v → Serial run H
HasRun-serial {run} {H} {v} has =
    record {
      legal = subst (λ K. AllowsFrom run (first run) K) (append-nil H) (has.legal [] tt);
      last = v;
      in_turn = subst (λ K. Leads run (start run) K v) (append-nil H) (has.in_turn [] v refl);
    }

-- the state after it
pub HasRun-after : {run : Run} {H : List Entry} {v : Visit} → HasRun run H v → after run H ≡ v.state
HasRun-after {run} {H} {v} has = subst (λ K. after_from run (first run) K ≡ v.state) (append-nil H) (has.reached [])

-- it is a whole one where it is no thread's turn
pub HasRun-whole : {run : Run} {H : List Entry} {v : Visit} → HasRun run H v → first_enabled run v.state v.next ≡ None → WholeSerial run H
HasRun-whole {run} {H} {v} has none =
    record {
      legal = (HasRun-serial has).legal;
      last = v;
      in_turn = subst (λ K. Leads run (start run) K v) (append-nil H) (has.in_turn [] v refl);
      ended = ap (onward_from run v) has.outside ∙ ap go_of none;
    }

-- nothing is heard of a turn with no event
unheard : (run : Run) (position t : ℕ) (S : State) (o : Outcome) (rest : List Entry) → inside_after o t ≡ None → heard_outcome run position t S o rest ≡ []
unheard run position t S Idle rest is = refl
unheard run position t S Quiet rest is = refl
unheard run position t S (Happens e) rest is = cc
unheard run position t S (Halts h) rest is = refl

-- a store keeps the count of turns and what halted the run
put_from-keeps : (S : State) (t : ℕ) (target : Target) (word : ℕ) (callback : Option Callback) → ((put_from S t target word callback).turns ≡ S.turns) × ((put_from S t target word callback).halt ≡ S.halt)
put_from-keeps S t target word None = (refl, refl)
put_from-keeps S t target word (Some callback) = (refl, refl)

-- and so do all the stores of a callback
pub put_all-turns : (S : State) (t : ℕ) (stores : List Stored) → (put_all S t stores).turns ≡ S.turns
put_all-turns S t [] = refl
put_all-turns S t (store ∷ rest) = put_all-turns (put S t store.target store.word) t rest ∙ (put_from-keeps S t store.target store.word (pending_at S t)).0

pub put_all-halt : (S : State) (t : ℕ) (stores : List Stored) → (put_all S t stores).halt ≡ S.halt
put_all-halt S t [] = refl
put_all-halt S t (store ∷ rest) = put_all-halt (put S t store.target store.word) t rest ∙ (put_from-keeps S t store.target store.word (pending_at S t)).1

-- the entries of the stores of a callback and of its return, and those after it
abbrev pub reply_at : ℕ → List Stored → List Entry → List Entry
reply_at t stores rest = puts_at t stores ++ back_at t ∷ rest

-- they are allowed in turn
pub reply-legal : (run : Run) (S : State) (t : ℕ) (stores : List Stored) (rest : List Entry) → MayStore run S t stores → IsSome (pending_at (put_all S t stores) t) → AllowsFrom run (back (put_all S t stores) t) rest → AllowsFrom run S (reply_at t stores rest)
reply-legal run S t [] rest may inside allows = (inside, allows)
reply-legal run S t (store ∷ stores) rest may inside allows = (may.0, reply-legal run (put S t store.target store.word) t stores rest may.1 inside allows)

-- they lead to the state after the return
pub reply-after : (run : Run) (S : State) (t : ℕ) (stores : List Stored) (rest : List Entry) → after_from run S (reply_at t stores rest) ≡ after_from run (back (put_all S t stores) t) rest
reply-after run S t [] rest = refl
reply-after run S t (store ∷ stores) rest = reply-after run (put S t store.target store.word) t stores rest

-- they are in turn
reply-leads : (run : Run) (S : State) (t next : ℕ) (stores : List Stored) (rest : List Entry) (last : Visit) → Leads run (record { state = back (put_all S t stores) t; next = next; inside = None }) rest last → Leads run (record { state = S; next = next; inside = Some t }) (reply_at t stores rest) last
reply-leads run S t next [] rest last leads = (refl, leads)
reply-leads run S t next (store ∷ stores) rest last leads = (refl, reply-leads run (put S t store.target store.word) t next stores rest last leads)

-- nothing begins to be heard in them
reply-heard : (run : Run) (S : State) (position t : ℕ) (stores : List Stored) (rest : List Entry) → heard_from run S position (reply_at t stores rest) ≡ heard_from run (back (put_all S t stores) t) (position + length stores + 1) rest
reply-heard run S position t [] rest = ap (λ p. heard_from run (back S t) p rest) (omega arith)
reply-heard run S position t (store ∷ stores) rest =
    reply-heard run (put S t store.target store.word) (position + 1) t stores rest ∙ ap (λ p. heard_from run (back (put_all (put S t store.target store.word) t stores) t) p rest) (omega arith)

-- the return stands among them
reply-back : (t : ℕ) (stores : List Stored) (rest : List Entry) → has_back t (reply_at t stores rest) ≡ true
reply-back t [] rest = rw (eq-eqb t t refl) refl
reply-back t (store ∷ stores) rest = reply-back t stores rest

-- and the stores are theirs
reply-stores : (t : ℕ) (stores : List Stored) (rest : List Entry) → stores_in t (reply_at t stores rest) ≡ stores
reply-stores t [] rest = rw (eq-eqb t t refl) refl
reply-stores t (store ∷ stores) rest = rw (eq-eqb t t refl) (ap (λ more. store ∷ more) (reply-stores t stores rest))

-- what is heard of an event with these stores, whatever comes after its return
abbrev pub said_of : Run → ℕ → ℕ → World → Event → List Stored → List Item
said_of run position t W event stores =
    if is_registered run.mask (callback_of event)
    then record { seq = position; thread = t; call = call_of W t event; snapshot = snap_of W t event; stores = stores } ∷ []
    else []

heard-said : (run : Run) (position t : ℕ) (W : World) (event : Event) (stores : List Stored) (rest : List Entry) → heard_event run position t W event (reply_at t stores rest) ≡ said_of run position t W event stores
heard-said run position t W event stores rest = rw (reply-back t stores rest, reply-stores t stores rest) (said (is_registered run.mask (callback_of event)))
  where
    one : List Item
    one = record { seq = position; thread = t; call = call_of W t event; snapshot = snap_of W t event; stores = stores } ∷ []

    said : (b : Bool) → (if b && true then one else []) ≡ (if b then one else [])
    said true = refl
    said false = refl

-- the entries of a turn with an event, with what its tool stores
abbrev pub event_at : ℕ → List Stored → List Entry
event_at t stores = go_at t ∷ event_reply t stores

-- with more entries after them
event-then : (t : ℕ) (stores : List Stored) (rest : List Entry) → event_at t stores ++ rest ≡ go_at t ∷ reply_at t stores rest
event-then t stores rest = ap (λ more. go_at t ∷ more) (append_assoc (puts_at t stores) (back_at t ∷ []) rest)

-- what is heard of them, and after them
event-heard : (run : Run) (S : State) (position t : ℕ) (e : Event) (stores : List Stored) (rest : List Entry) → (turn run S t).outcome ≡ Happens e
    → heard_from run S position (go_at t ∷ reply_at t stores rest) ≡ said_of run position t (turn run S t).state.world e stores ++ heard_from run (back (put_all (turn run S t).state t stores) t) (position + 1 + length stores + 1) rest
event-heard run S position t e stores rest happens =
    let between : State = (turn run S t).state in
    ap (λ o. heard_outcome run position t between o (reply_at t stores rest) ++ heard_from run between (position + 1) (reply_at t stores rest)) happens
    ∙ ap (λ said. said ++ heard_from run between (position + 1) (reply_at t stores rest)) (heard-said run position t between.world e stores rest)
    ∙ ap (λ more. said_of run position t between.world e stores ++ more) (reply-heard run between (position + 1) t stores rest)

-- what is heard grows by this
pub heard-event :
    {run : Run} {H : List Entry} {v : Visit} (t : ℕ) (e : Event) (stores : List Stored) → HasRun run H v → (turn run v.state t).outcome ≡ Happens e
    → heard run (H ++ event_at t stores) ≡ heard run H ++ said_of run (length H) t (turn run v.state t).state.world e stores
heard-event {run} {H} {v} t e stores has happens =
    has.heard_on (event_at t stores)
    ∙ ap (λ more. heard run H ++ more) (event-heard run v.state (length H) t e stores [] happens ∙ append-nil (said_of run (length H) t (turn run v.state t).state.world e stores))

-- and not at all by a turn with no event
pub heard-alone : {run : Run} {H : List Entry} {v : Visit} (t : ℕ) → HasRun run H v → inside_after (turn run v.state t).outcome t ≡ None → heard run (H ++ go_at t ∷ []) ≡ heard run H
heard-alone {run} {H} {v} t has alone =
    has.heard_on (go_at t ∷ []) ∙ ap (λ items. heard run H ++ (items ++ [])) (unheard run (length H) t (turn run v.state t).state (turn run v.state t).outcome [] alone) ∙ append-nil (heard run H)

-- the history grows by a turn with no event
pub HasRun-alone :
    {run : Run} {H : List Entry} {v : Visit} (t : ℕ) → HasRun run H v → first_enabled run v.state v.next ≡ Some t → inside_after (turn run v.state t).outcome t ≡ None
    → HasRun run (H ++ go_at t ∷ []) (record { state = (turn run v.state t).state; next = t + 1; inside = None })
HasRun-alone {run} {H} {v} t has is alone =
    let goes = first_enabled-enabled run v.state v.next t is in
    let reach : Visit = record { state = (turn run v.state t).state; next = t + 1; inside = None } in
    let along = λ (rest : List Entry). sym (append_assoc H (go_at t ∷ []) rest) in
    record {
      legal = λ rest allows. subst (λ K. AllowsFrom run (first run) K) (along rest) (has.legal (go_at t ∷ rest) (goes, allows));
      reached = λ rest. subst (λ K. after_from run (first run) K ≡ after_from run reach.state rest) (along rest) (has.reached (go_at t ∷ rest));
      in_turn = λ rest last leads.
          subst (λ K. Leads run (start run) K last) (along rest)
          (has.in_turn (go_at t ∷ rest) last (
            ap (onward_from run v) has.outside ∙ ap go_of is,
            subst (λ i. Leads run (record { state = (turn run v.state t).state; next = t + 1; inside = i }) rest last) (sym alone) leads,
          ));
      heard_on = λ rest.
          subst (λ K. heard run K ≡ heard run (H ++ go_at t ∷ []) ++ heard_from run reach.state (length (H ++ go_at t ∷ [])) rest) (along rest)
          (has.heard_on (go_at t ∷ rest)
          ∙ ap (λ items. heard run H ++ (items ++ heard_from run reach.state (length H + 1) rest)) (unheard run (length H) t reach.state (turn run v.state t).outcome rest alone)
          ∙ subst₂ (λ before p. heard run H ++ heard_from run reach.state (length H + 1) rest ≡ before ++ heard_from run reach.state p rest) (sym (heard-alone t has alone)) (sym (length-append H (go_at t ∷ []))) refl);
      short = let long = length-append H (go_at t ∷ []) in let rise = turns-rise run v.state t goes in let shorter = has.short in omega arith;
      running = λ on. turn-below run v.state t goes on;
      outside = refl;
    }

-- the history grows by a turn with an event, what its tool stores, and its callback's return
pub HasRun-event :
    {run : Run} {H : List Entry} {v : Visit} (t : ℕ) (e : Event) (stores : List Stored) → HasRun run H v → first_enabled run v.state v.next ≡ Some t → (turn run v.state t).outcome ≡ Happens e
    → length stores ≤ 3 → MayStore run (turn run v.state t).state t stores → IsSome (pending_at (put_all (turn run v.state t).state t stores) t)
    → HasRun run (H ++ event_at t stores) (record { state = back (put_all (turn run v.state t).state t stores) t; next = t + 1; inside = None })
HasRun-event {run} {H} {v} t e stores has is happens few may inside =
    let goes = first_enabled-enabled run v.state v.next t is in
    let between : State = (turn run v.state t).state in
    let stored : State = put_all between t stores in
    let reach : Visit = record { state = back stored t; next = t + 1; inside = None } in
    let said : List Item = said_of run (length H) t between.world e stores in
    let along = λ (rest : List Entry). ap (λ more. H ++ more) (sym (event-then t stores rest)) ∙ sym (append_assoc H (event_at t stores) rest) in
    let long : length (H ++ event_at t stores) ≡ length H + 1 + length stores + 1 =
    omega (arith, length-append H (event_at t stores), length-append (puts_at t stores) (back_at t ∷ []), length-map stores (put_at t)) in
    record {
      legal = λ rest allows. subst (λ K. AllowsFrom run (first run) K) (along rest) (has.legal (go_at t ∷ reply_at t stores rest) (goes, reply-legal run between t stores rest may inside allows));
      reached = λ rest. subst (λ K. after_from run (first run) K ≡ after_from run reach.state rest) (along rest) (has.reached (go_at t ∷ reply_at t stores rest) ∙ reply-after run between t stores rest);
      in_turn = λ rest last leads.
          subst (λ K. Leads run (start run) K last) (along rest)
          (has.in_turn (go_at t ∷ reply_at t stores rest) last
          (ap (onward_from run v) has.outside ∙ ap go_of is, subst (λ i. Leads run (record { state = between; next = t + 1; inside = i }) (reply_at t stores rest) last) (sym (ap (λ o. inside_after o t) happens)) (reply-leads run between t (t + 1) stores rest last leads)));
      heard_on = λ rest.
          subst (λ K. heard run K ≡ heard run (H ++ event_at t stores) ++ heard_from run reach.state (length (H ++ event_at t stores)) rest) (along rest)
          (has.heard_on (go_at t ∷ reply_at t stores rest)
          ∙ ap (λ more. heard run H ++ more) (event-heard run v.state (length H) t e stores rest happens)
          ∙ sym (append_assoc (heard run H) said (heard_from run reach.state (length H + 1 + length stores + 1) rest))
          ∙ subst₂ (λ before p. (heard run H ++ said) ++ heard_from run reach.state (length H + 1 + length stores + 1) rest ≡ before ++ heard_from run reach.state p rest) (sym (heard-event t e stores has happens)) (sym long) refl);
      short = let rise = turns-rise run v.state t goes in let kept = put_all-turns between t stores in let same = back-turns stored t in let shorter = has.short in omega arith;
      running = λ on.
          let below = turn-below run v.state t goes (sym (put_all-halt between t stores) ∙ sym (back-halt stored t) ∙ on) in
          subst (λ n. n < TURN_LIMIT) (sym (back-turns stored t ∙ put_all-turns between t stores)) below;
      outside = refl;
    }

-- the records of one thread are what is heard on it
pub records-by_thread : (items : List Item) (t : ℕ) → filter (λ (event : EventRecord). event.thread == t) (map record_of items) ≡ map record_of (filter (λ (item : Item). item.thread == t) items)
records-by_thread [] t = refl
records-by_thread (item ∷ items) t =
    elim (item.thread == t) as (λ b. cond b (record_of item ∷ filter (λ (event : EventRecord). event.thread == t) (map record_of items)) (filter (λ (event : EventRecord). event.thread == t) (map record_of items)) ≡ map record_of (cond b (item ∷ filter (λ (item : Item). item.thread == t) items) (filter (λ (item : Item). item.thread == t) items))) [ true ↦ ap (λ others. record_of item ∷ others) (records-by_thread items t) | false ↦ records-by_thread items t ]

-- a history in which nothing is stored, with more such entries
pub StoresNothing-append : (H K : List Entry) → StoresNothing H → StoresNothing K → StoresNothing (H ++ K)
StoresNothing-append [] K none silent = silent
StoresNothing-append (entry ∷ H) K none silent = (none.0, StoresNothing-append H K none.1 silent)

-- nothing is heard of an event whose callback hasn't returned
unreturned : (run : Run) (position t : ℕ) (W : World) (event : Event) → heard_event run position t W event [] ≡ []
unreturned run position t W event = none (is_registered run.mask (callback_of event))
  where
    one : List Item
    one = record { seq = position; thread = t; call = call_of W t event; snapshot = snap_of W t event; stores = [] } ∷ []

    none : (b : Bool) → (if b && false then one else []) ≡ []
    none true = refl
    none false = refl

pub heard-pending : {run : Run} {H : List Entry} {v : Visit} (t : ℕ) (e : Event) → HasRun run H v → (turn run v.state t).outcome ≡ Happens e → heard run (H ++ go_at t ∷ []) ≡ heard run H
heard-pending {run} {H} {v} t e has happens =
    let between : State = (turn run v.state t).state in
    has.heard_on (go_at t ∷ [])
    ∙ ap (λ o. heard run H ++ (heard_outcome run (length H) t between o [] ++ [])) happens
    ∙ ap (λ items. heard run H ++ (items ++ [])) (unreturned run (length H) t between.world e) ∙ append-nil (heard run H)

-- a history at whose end a thread is inside a callback is serial too
pub HasRun-pending : {run : Run} {H : List Entry} {v : Visit} (t : ℕ) (e : Event) → HasRun run H v → first_enabled run v.state v.next ≡ Some t → (turn run v.state t).outcome ≡ Happens e → Serial run (H ++ go_at t ∷ [])
HasRun-pending {run} {H} {v} t e has is happens =
    record {
      legal = has.legal (go_at t ∷ []) (first_enabled-enabled run v.state v.next t is, tt);
      last = record { state = (turn run v.state t).state; next = t + 1; inside = inside_after (turn run v.state t).outcome t };
      in_turn = has.in_turn (go_at t ∷ []) _ (ap (onward_from run v) has.outside ∙ ap go_of is, refl);
    }
