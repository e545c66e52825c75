-- What the tools store after each event fixes one serial history to the end.
use Rattle.std.proofs.Common.{ℕ, zero, suc, ◌≡◌, ◌≤◌, ◌<◌, ◌+◌, ◌++◌, true, List, [], ◌∷◌, Option, Some, None, length, refl, sym, ap, ap₂, ◌∙◌, subst, append_assoc, append-nil, eq-eqb, arith}
use Rattle.std.specs.Prelude.{IsSome, is_some, slice_index_or}
use Rattle.std.proofs.lemmas.List.{get_or-set_same}
use Rattle.ompt_calls.specs.declared.snapshot.Target.{Target}
use Rattle.ompt_calls.specs.Snapshot.{Stored}
use Rattle.omp_model.specs.declared.event.Callback.{Callback}
use Rattle.omp_model.specs.declared.event.Event.{Event}
use Rattle.omp_model.specs.declared.event.Outcome.{Outcome}
use Rattle.omp_model.specs.declared.event.Outcome.TheVariants.{Idle, Quiet, Happens, Halts}
use Rattle.omp_model.specs.declared.history.Entry.{Entry}
use Rattle.omp_model.specs.declared.history.What.{What}
use Rattle.omp_model.specs.declared.history.What.TheVariants.{Back, Go, Put}
use Rattle.omp_model.specs.declared.limits.TheConstants.{TURN_LIMIT}
use Rattle.omp_model.specs.Heard.{stores_at, stores_in}
use Rattle.omp_model.specs.Legal.{AllowsFrom, Legal, after, after_from, back, entered, may, put, put_from}
use Rattle.omp_model.specs.Serial.{Follows, Leads, Visit, WholeSerial, first_enabled, go_of, inside_after, moved, onward, onward_from, start}
use Rattle.omp_model.specs.State.{Run, State, first, pending_at}
use Rattle.omp_model.specs.Storing.{MayStore, back_at, go_at, put_all, put_at}
use Rattle.omp_model.specs.Turn.{called, enabled, turn}
use Rattle.omp_model.proofs.Later.{at-set}
use Rattle.omp_model.proofs.MadeRuns.{made-after}
use Rattle.omp_model.proofs.Recording.{first_enabled-below, first_enabled-enabled, put_all-halt, put_all-turns, reply-legal, reply_at}
use Rattle.omp_model.proofs.Turns.{back-halt, back-turns, turn-below, turn-goes, turn-not_idle, turn-pending, turns-rise}
use Rattle.run_laws.specs.Answers.{AnsweredRun, Answering, Answers, MayAnswer}
use Rattle.run_laws.proofs.Serial.{entry_of, moved-state, never-both, none-follows, thread_in}

-- where an event occurs, this is stored among the entries that follow
abbrev AnswersOutcome : List Stored → ℕ → Outcome → List Entry → Type 0
AnswersOutcome stores t (Happens event) rest = stores_in t rest ≡ stores
AnswersOutcome stores t other rest = Unit {0}

-- two lists of stores that begin alike
same-first : (target place : Target) (word value : ℕ) (rest others : List Stored) → record { target = target; word = word } ∷ rest ≡ record { target = place; word = value } ∷ others →
    (target ≡ place) × (word ≡ value)
same-first target place word value rest others same =
    let first : record { target = target; word = word } ≡ record { target = place; word = value } = ap (first-of (record { target = target; word = word })) same in
    (ap (λ (store : Stored). store.target) first, ap (λ (store : Stored). store.word) first)
  where
    first-of : Stored → List Stored → Stored
    first-of other [] = other
    first-of other (store ∷ rest) = store

module _ (run : Run) (answer : Answering) where
  abbrev AnswersAt : State → List Entry → ℕ → What → List Entry → Type 0
  AnswersAt S front t Go rest = AnswersOutcome (answer front t) t (turn run S t).outcome rest
  AnswersAt S front t (Put target word) rest = Unit {0}
  AnswersAt S front t Back rest = Unit {0}

  -- each event among these entries, which stand behind others, is answered
  abbrev pub AnswersFrom : State → List Entry → List Entry → Type 0
  AnswersFrom S front [] = Unit {0}
  AnswersFrom S front (entry ∷ rest) = AnswersAt S front entry.thread entry.what rest × AnswersFrom (entered run S entry) (front ++ entry ∷ []) rest

  -- The two ways to say it.

  at-event : (stores : List Stored) (t : ℕ) (came : Outcome) (event : Event) (rest : List Entry) → came ≡ Happens event → AnswersOutcome stores t came rest → stores_in t rest ≡ stores
  at-event stores t Idle event rest is so = cc
  at-event stores t Quiet event rest is so = cc
  at-event stores t (Happens other) event rest is so = so
  at-event stores t (Halts halt) event rest is so = cc

  event-at : (stores : List Stored) (t : ℕ) (came : Outcome) (rest : List Entry) → ((event : Event) → came ≡ Happens event → stores_in t rest ≡ stores) → AnswersOutcome stores t came rest
  event-at stores t Idle rest so = tt
  event-at stores t Quiet rest so = tt
  event-at stores t (Happens event) rest so = so event refl
  event-at stores t (Halts halt) rest so = tt

  -- from the front on, at an event after these entries
  answered-behind : (S : State) (before front rest : List Entry) (t : ℕ) (event : Event) → AnswersFrom S before (front ++ go_at t ∷ rest) →
      (turn run (after_from run S front) t).outcome ≡ Happens event → stores_in t rest ≡ answer (before ++ front) t
  answered-behind S before [] rest t event so is =
      at-event (answer before t) t (turn run S t).outcome event rest is so.0 ∙ ap (λ (front : List Entry). answer front t) (sym (append-nil before))
  answered-behind S before (entry ∷ front) rest t event so is =
      answered-behind (entered run S entry) (before ++ entry ∷ []) front rest t event so.1 is
      ∙ ap (λ (front : List Entry). answer front t) (append_assoc before (entry ∷ []) front)

  pub answers-each : (history : List Entry) → AnswersFrom (first run) [] history → Answers run answer history
  answers-each history so front rest t event is happens =
      answered-behind (first run) [] front rest t event (subst (λ (history : List Entry). AnswersFrom (first run) [] history) is so) happens

  after-one : (S : State) (front : List Entry) (entry : Entry) → after_from run S (front ++ entry ∷ []) ≡ entered run (after_from run S front) entry
  after-one S [] entry = refl
  after-one S (one ∷ front) entry = after-one (entered run S one) front entry

  each-at : (history front rest : List Entry) (S : State) (t : ℕ) (what : What) → Answers run answer history → history ≡ front ++ entry_of t what ∷ rest → after run front ≡ S →
      AnswersAt S front t what rest
  each-at history front rest S t Go so is reached =
      event-at (answer front t) t (turn run S t).outcome rest
      (λ event happens. so front rest t event is (ap (λ (S : State). (turn run S t).outcome) reached ∙ happens))
  each-at history front rest S t (Put target word) so is reached = tt
  each-at history front rest S t Back so is reached = tt

  each-from : (history front rest : List Entry) (S : State) → Answers run answer history → history ≡ front ++ rest → after run front ≡ S → AnswersFrom S front rest
  each-from history front [] S so is reached = tt
  each-from history front (entry ∷ rest) S so is reached = (
    each-at history front rest S entry.thread entry.what so is reached,
    each-from history (front ++ entry ∷ []) rest (entered run S entry) so (is ∙ sym (append_assoc front (entry ∷ []) rest))
        (after-one (first run) front entry ∙ ap (λ (S : State). entered run S entry) reached),
  )

  pub from-each : (history : List Entry) → Answers run answer history → AnswersFrom (first run) [] history
  from-each history so = each-from history [] history (first run) so refl refl

  -- One history at most.

  -- inside a callback the same is stored in both from here on
  abbrev StoreAlike : Option ℕ → List Entry → List Entry → Type 0
  StoreAlike inside history other = (t : ℕ) → inside ≡ Some t → stores_in t history ≡ stores_in t other

  alike-outcome : (stores : List Stored) (t : ℕ) (came : Outcome) (rest others : List Entry) → AnswersOutcome stores t came rest → AnswersOutcome stores t came others →
      StoreAlike (inside_after came t) rest others
  alike-outcome stores t Idle rest others one other u is = cc
  alike-outcome stores t Quiet rest others one other u is = cc
  alike-outcome stores t (Happens event) rest others one other u is =
      let same : t ≡ u = cc in
      subst (λ (u : ℕ). stores_in u rest ≡ stores_in u others) same (one ∙ sym other)
  alike-outcome stores t (Halts halt) rest others one other u is = cc

  -- the stores of a thread that this entry of it begins
  own-entry : (t : ℕ) (what : What) (rest : List Entry) → stores_in t (entry_of t what ∷ rest) ≡ stores_at what (stores_in t rest)
  own-entry t what rest = rw (eq-eqb t t refl) refl

  -- the stores of two histories whose first entries are of this thread
  alike-own : (t s : ℕ) (what then_ : What) (rest others : List Entry) → t ≡ s → stores_in t (entry_of t what ∷ rest) ≡ stores_in t (entry_of s then_ ∷ others) →
      stores_at what (stores_in t rest) ≡ stores_at then_ (stores_in t others)
  alike-own t s what then_ rest others same alike =
      sym (own-entry t what rest) ∙ alike ∙ ap (λ (s : ℕ). stores_in t (entry_of s then_ ∷ others)) (sym same) ∙ own-entry t then_ others

  -- inside a callback of a thread only a store or the return of it may stand next
  inside-follows : (v : Visit) (t s : ℕ) (what : What) → v.inside ≡ Some t → Follows run v s what → t ≡ s
  inside-follows v t s Go inside is =
      let wrong : Some (back_at t) ≡ Some (go_at s) = ap (onward_from run v) (sym inside) ∙ is in absurd (never-both s t (sym wrong))
  inside-follows v t s (Put target word) inside is = let same : Some t ≡ Some s = sym inside ∙ is in cc
  inside-follows v t s Back inside is = let same : Some (back_at t) ≡ Some (back_at s) = ap (onward_from run v) (sym inside) ∙ is in ap thread_in same

  -- the same entry stands first
  same-entry : (v : Visit) (t s : ℕ) (what then_ : What) (rest others : List Entry) → Follows run v t what → Follows run v s then_ →
      StoreAlike v.inside (entry_of t what ∷ rest) (entry_of s then_ ∷ others) → entry_of t what ≡ entry_of s then_
  same-entry v t s Go Go rest others one other alike = let same : Some (go_at t) ≡ Some (go_at s) = sym one ∙ other in cc
  same-entry v t s Go Back rest others one other alike = absurd (never-both t s (sym one ∙ other))
  same-entry v t s Back Go rest others one other alike = absurd (never-both s t (sym other ∙ one))
  same-entry v t s Back Back rest others one other alike = let same : Some (back_at t) ≡ Some (back_at s) = sym one ∙ other in cc
  same-entry v t s Go (Put place value) rest others one other alike =
      let wrong : Some (go_at t) ≡ Some (back_at s) = sym one ∙ ap (onward_from run v) other in absurd (never-both t s wrong)
  same-entry v t s (Put target word) Go rest others one other alike =
      let wrong : Some (go_at s) ≡ Some (back_at t) = sym other ∙ ap (onward_from run v) one in absurd (never-both s t wrong)
  same-entry v t s (Put target word) (Put place value) rest others one other alike =
      let same = inside-follows v t s (Put place value) one other in
      let stores = alike-own t s (Put target word) (Put place value) rest others same (alike t one) in
      let first : (target ≡ place) × (word ≡ value) = same-first target place word value (stores_in t rest) (stores_in t others) stores in
      ap₂ (λ (s : ℕ) (what : What). entry_of s what) same (ap₂ Put first.0 first.1)
  same-entry v t s (Put target word) Back rest others one other alike =
      let same = inside-follows v t s Back one other in
      let stores = alike-own t s (Put target word) Back rest others same (alike t one) in cc
  same-entry v t s Back (Put place value) rest others one other alike =
      let same = inside-follows v s t Back other one in
      let stores = alike-own t s Back (Put place value) rest others (sym same) (alike t (other ∙ ap Some same)) in cc

  -- and behind it the same is stored
  alike-next : (v : Visit) (front : List Entry) (t : ℕ) (what : What) (rest others : List Entry) → Follows run v t what →
      StoreAlike v.inside (entry_of t what ∷ rest) (entry_of t what ∷ others) → AnswersAt v.state front t what rest → AnswersAt v.state front t what others →
      StoreAlike (moved run v (entry_of t what)).inside rest others
  alike-next v front t Go rest others one alike here there =
      alike-outcome (answer front t) t (turn run v.state t).outcome rest others here there
  alike-next v front t (Put target word) rest others one alike here there = λ u is.
      let same : t ≡ u = let both : Some t ≡ Some u = sym one ∙ is in cc in
      let stores = alike-own t t (Put target word) (Put target word) rest others refl (alike t one) in
      subst (λ (u : ℕ). stores_in u rest ≡ stores_in u others) same cc
  alike-next v front t Back rest others one alike here there = λ u is. cc

  answers-moved : (v : Visit) (front rest : List Entry) (entry : Entry) → AnswersFrom (entered run v.state entry) front rest → AnswersFrom (moved run v entry).state front rest
  answers-moved v front rest entry so = subst (λ (S : State). AnswersFrom S front rest) (moved-state run v entry.thread entry.what) so

  one-from : (v last end : Visit) (front history other : List Entry) → Leads run v history last → Leads run v other end → onward run last ≡ None → onward run end ≡ None →
      AnswersFrom v.state front history → AnswersFrom v.state front other → StoreAlike v.inside history other → history ≡ other
  one-from v last end front [] [] leads more ended none here there alike = refl
  one-from v last end front [] (entry ∷ rest) leads more ended none here there alike = absurd (none-follows run v entry.thread entry.what (ap (onward run) leads ∙ ended) more.0)
  one-from v last end front (entry ∷ rest) [] leads more ended none here there alike = absurd (none-follows run v entry.thread entry.what (ap (onward run) more ∙ none) leads.0)
  one-from v last end front (entry ∷ rest) (another ∷ others) leads more ended none here there alike =
      let same = same-entry v entry.thread another.thread entry.what another.what rest others leads.0 more.0 alike in
      let leads_too = subst (λ (one : Entry). Leads run v (one ∷ others) end) (sym same) more in
      let answers_too = subst (λ (one : Entry). AnswersFrom v.state front (one ∷ others)) (sym same) there in
      let alike_too = subst (λ (one : Entry). StoreAlike v.inside (entry ∷ rest) (one ∷ others)) (sym same) alike in
      let then_ = one-from (moved run v entry) last end (front ++ entry ∷ []) rest others leads.1 leads_too.1 ended none (answers-moved v (front ++ entry ∷ []) rest entry here.1) (answers-moved v (front ++ entry ∷ []) others entry answers_too.1)
      (alike-next v front entry.thread entry.what rest others leads.0 alike_too here.0 answers_too.0) in
      ap₂ (λ (one : Entry) (more : List Entry). one ∷ more) same then_

  pub one-answered : (history other : List Entry) → WholeSerial run history → WholeSerial run other → Answers run answer history → Answers run answer other → history ≡ other
  one-answered history other one more here there =
      one-from (start run) one.last more.last [] history other one.in_turn more.in_turn one.ended more.ended (from-each history here) (from-each other there) (λ t inside. cc)

  -- One history at least.

  -- the state that a legal history has come to
  record Known (S : State) (front : List Entry) : Type 0 where
    legal : Legal run front
    reached : after run front ≡ S

  allows-one : (S : State) (front : List Entry) (entry : Entry) → AllowsFrom run S front → may run (after_from run S front) entry.thread entry.what ≡ true → AllowsFrom run S (front ++ entry ∷ [])
  allows-one S [] entry allows goes = (goes, tt)
  allows-one S (one ∷ front) entry allows goes = (allows.0, allows-one (entered run S one) front entry allows.1 goes)

  known-then : (S : State) (front : List Entry) (entry : Entry) → Known S front → may run S entry.thread entry.what ≡ true → Known (entered run S entry) (front ++ entry ∷ [])
  known-then S front entry known goes =
      record {
        legal = allows-one (first run) front entry known.legal (ap (λ (S : State). may run S entry.thread entry.what) known.reached ∙ goes);
        reached = after-one (first run) front entry ∙ ap (λ (S : State). entered run S entry) known.reached;
      }

  -- a history with the entries of a callback behind it
  abbrev grown : ℕ → List Entry → List Stored → List Entry
  grown t front [] = front ++ back_at t ∷ []
  grown t front (store ∷ stores) = grown t (front ++ put_at t store ∷ []) stores

  -- a thread inside a callback still is after a store
  inside-put : (S : State) (t : ℕ) (target : Target) (word : ℕ) (inside : Option Callback) → IsSome (pending_at S t) → IsSome (pending_at (put_from S t target word inside) t)
  inside-put S t target word None some = some
  inside-put S t target word (Some callback) some = at-set (λ (callback : Option Callback). IsSome callback) None S.pending t t (Some (record callback { stores = callback.stores + 1 })) some (λ is. refl)

  inside-all : (S : State) (t : ℕ) (stores : List Stored) → IsSome (pending_at S t) → IsSome (pending_at (put_all S t stores) t)
  inside-all S t [] some = some
  inside-all S t (store ∷ stores) some = inside-all (put S t store.target store.word) t stores (inside-put S t store.target store.word (pending_at S t) some)

  known-reply : (S : State) (t : ℕ) (front : List Entry) (stores : List Stored) → Known S front → MayStore run S t stores → IsSome (pending_at S t) → Known (back (put_all S t stores) t) (grown t front stores)
  known-reply S t front [] known may_store some = known-then S front (back_at t) known some
  known-reply S t front (store ∷ stores) known may_store some =
      known-reply (put S t store.target store.word) t (front ++ put_at t store ∷ []) stores (known-then S front (put_at t store) known may_store.0) may_store.1
      (inside-put S t store.target store.word (pending_at S t) some)

  -- the entries of a callback are in turn, are what the answer stores, and answer no other event
  leads-reply : (S : State) (t next : ℕ) (stores : List Stored) (rest : List Entry) (last : Visit) → Leads run (record { state = back (put_all S t stores) t; next = next; inside = None }) rest last →
      Leads run (record { state = S; next = next; inside = Some t }) (reply_at t stores rest) last
  leads-reply S t next [] rest last leads = (refl, leads)
  leads-reply S t next (store ∷ stores) rest last leads = (refl, leads-reply (put S t store.target store.word) t next stores rest last leads)

  stores-reply : (t : ℕ) (stores : List Stored) (rest : List Entry) → stores_in t (reply_at t stores rest) ≡ stores
  stores-reply t [] rest = rw (eq-eqb t t refl) refl
  stores-reply t (store ∷ stores) rest = rw (eq-eqb t t refl) (ap (λ (more : List Stored). store ∷ more) (stores-reply t stores rest))

  answers-reply : (S : State) (t : ℕ) (front : List Entry) (stores : List Stored) (rest : List Entry) → AnswersFrom (back (put_all S t stores) t) (grown t front stores) rest → AnswersFrom S front (reply_at t stores rest)
  answers-reply S t front [] rest so = (tt, so)
  answers-reply S t front (store ∷ stores) rest so = (tt, answers-reply (put S t store.target store.word) t (front ++ put_at t store ∷ []) stores rest so)

  -- a visit between two turns, with the history up to it; so many turns may come yet
  record Between (v : Visit) (front : List Entry) (left : ℕ) : Type 0 where
    known : Known v.state front
    outside : v.inside ≡ None
    below : v.next ≤ run.threads
    room : TURN_LIMIT ≤ v.state.turns + left
    ready : v.state.halt ≡ None → v.state.turns < TURN_LIMIT

  -- a history to the end from there
  record Onward (v : Visit) (front : List Entry) : Type 0 where
    history : List Entry
    last : Visit
    legal : AllowsFrom run v.state history
    in_turn : Leads run v history last
    ended : onward run last ≡ None
    answers : AnswersFrom v.state front history

  over : (v : Visit) (front : List Entry) → v.inside ≡ None → first_enabled run v.state v.next ≡ None → Onward v front
  over v front outside none =
      record { history = []; last = v; legal = tt; in_turn = refl; ended = ap (onward_from run v) outside ∙ ap go_of none; answers = tt }

  without-event : (stores : List Stored) (t : ℕ) (came : Outcome) (rest : List Entry) → inside_after came t ≡ None → AnswersOutcome stores t came rest
  without-event stores t Idle rest none = tt
  without-event stores t Quiet rest none = tt
  without-event stores t (Happens event) rest none = cc
  without-event stores t (Halts halt) rest none = tt

  module _ (there : 1 ≤ run.threads) (may_answer : MayAnswer run answer) where
    -- the turn of this thread comes next
    module _ (v : Visit) (front : List Entry) (left t : ℕ) (at : Between v front (suc left)) (is : first_enabled run v.state v.next ≡ Some t)
        (more : (w : Visit) (behind : List Entry) → Between w behind left → Onward w behind) where
      goes : enabled v.state t ≡ true
      goes = first_enabled-enabled run v.state v.next t is

      abbrev turned : State
      turned = (turn run v.state t).state

      known-go : Known turned (front ++ go_at t ∷ [])
      known-go = known-then v.state front (go_at t) at.known goes

      stands : onward run v ≡ Some (go_at t)
      stands = ap (onward_from run v) at.outside ∙ ap go_of is

      within : t < run.threads
      within = first_enabled-below run v.state v.next t at.below is

      -- a turn with no event
      alone : inside_after (turn run v.state t).outcome t ≡ None → Onward v front
      alone none =
          let w = moved run v (go_at t) in
          let rise = turns-rise run v.state t goes in
          let o = more w (front ++ go_at t ∷ []) (record {
            known = known-go;
            outside = none;
            below = omega (arith, within);
            room = omega (arith, rise, at.room);
            ready = λ on. turn-below run v.state t goes on;
          }) in
          record {
            history = go_at t ∷ o.history;
            last = o.last;
            legal = (goes, o.legal);
            in_turn = (stands, o.in_turn);
            ended = o.ended;
            answers = (without-event (answer front t) t (turn run v.state t).outcome o.history none, o.answers);
          }

      -- a turn with this event
      module _ (e : Event) (happens : (turn run v.state t).outcome ≡ Happens e) where
        abbrev stores : List Stored
        stores = answer front t

        may_store : MayStore run turned t stores
        may_store =
            let reached = at.known.reached in
            subst (λ (S : State). MayStore run (turn run S t).state t stores) reached
            (may_answer front t e at.known.legal (ap (λ (S : State). enabled S t) reached ∙ goes) (ap (λ (S : State). (turn run S t).outcome) reached ∙ happens))

        inside : IsSome (pending_at turned t)
        inside =
            let places = subst (λ (S : State). length S.pending ≡ run.threads) at.known.reached (made-after run front there).places in
            ap is_some (ap (λ (pending : List (Option Callback)). slice_index_or pending t None) (turn-pending run v.state t e happens)
            ∙ get_or-set_same v.state.pending t (Some (called e)) None (omega (arith, within, places)))

        abbrev returned : Visit
        returned = record { state = back (put_all turned t stores) t; next = t + 1; inside = None }

        between : Between returned (grown t (front ++ go_at t ∷ []) stores) left
        between =
            let kept = back-turns (put_all turned t stores) t ∙ put_all-turns turned t stores in
            let halt = back-halt (put_all turned t stores) t ∙ put_all-halt turned t stores in
            let rise = turns-rise run v.state t goes in
            record {
              known = known-reply turned t (front ++ go_at t ∷ []) stores known-go may_store inside;
              outside = refl;
              below = omega (arith, within);
              room = omega (arith, kept, rise, at.room);
              ready = λ on. omega (arith, kept, turn-below run v.state t goes (sym halt ∙ on));
            }

        told : Onward v front
        told =
            let o = more returned (grown t (front ++ go_at t ∷ []) stores) between in
            record {
              history = go_at t ∷ reply_at t stores o.history;
              last = o.last;
              legal = (goes, reply-legal run turned t stores o.history may_store (inside-all turned t stores inside) o.legal);
              in_turn = (
                stands,
                subst (λ (inside : Option ℕ). Leads run (record { state = turned; next = t + 1; inside = inside }) (reply_at t stores o.history) o.last)
                    (sym (ap (λ (came : Outcome). inside_after came t) happens)) (leads-reply turned t (t + 1) stores o.history o.last o.in_turn),
              );
              ended = o.ended;
              answers = (
                subst (λ (came : Outcome). AnswersOutcome stores t came (reply_at t stores o.history)) (sym happens) (stores-reply t stores o.history),
                answers-reply turned t (front ++ go_at t ∷ []) stores o.history o.answers,
              );
            }

      by-outcome : (came : Outcome) → (turn run v.state t).outcome ≡ came → Onward v front
      by-outcome Idle came = absurd (turn-not_idle run v.state t goes came)
      by-outcome Quiet came = alone (ap (λ (came : Outcome). inside_after came t) came)
      by-outcome (Happens e) came = told e came
      by-outcome (Halts halt) came = alone (ap (λ (came : Outcome). inside_after came t) came)

    -- where no turn may come any more, none does
    no-more : (v : Visit) (front : List Entry) (t : ℕ) → Between v front 0 → first_enabled run v.state v.next ≡ Some t → ⊥
    no-more v front t at is =
        let below = at.ready (turn-goes v.state t (first_enabled-enabled run v.state v.next t is)).halt in
        omega (arith, at.room)

    onward-from : (left : ℕ) (v : Visit) (front : List Entry) → Between v front left → Onward v front
    onward-from zero v front at = elim (first_enabled run v.state v.next) as (λ found. first_enabled run v.state v.next ≡ found → Onward v front)
        [ None ↦ λ none. over v front at.outside none | Some t ↦ λ is. absurd (no-more v front t at is) ] refl
    onward-from (suc left) v front at = elim (first_enabled run v.state v.next) as (λ found. first_enabled run v.state v.next ≡ found → Onward v front)
        [ None ↦ λ none. over v front at.outside none | Some t ↦ λ is. by-outcome v front left t at is (onward-from left) (turn run v.state t).outcome refl ] refl

    pub some-answered : AnsweredRun run answer
    some-answered =
        let o = onward-from TURN_LIMIT (start run) [] (record { known = record { legal = tt; reached = refl }; outside = refl; below = omega arith; room = omega arith; ready = λ on. omega arith }) in
        record {
          history = o.history;
          whole = record { legal = o.legal; last = o.last; in_turn = o.in_turn; ended = o.ended };
          answers = answers-each o.history o.answers;
        }
