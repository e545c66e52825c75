-- A serial run after one more visit, and at its end.
use Rattle.std.proofs.Common.{◌≡◌, ◌≢◌, ℕ, ℤ, zero, suc, ◌+◌, ◌<◌, ◌≤◌, Bool, true, List, [], ◌∷◌, ◌++◌, length, replicate, slice_set, slice_index_or, Option, Some, None, IsSome, is_none, refl, sym, ap, subst, ◌∙◌, arith, append-nil, append_assoc, Result, Ok, Err, OnOk, OnErr}
use Rattle.std.{specs.List.list_all, proofs.lemmas.Bool.true≢false, proofs.lemmas.Bool.and_from, proofs.lemmas.Bool.and_parts, proofs.lemmas.List.set-set}
use Rattle.omp_model.specs.declared.cause.Cause.TheVariants as cause
use Rattle.omp_model.proofs.Turns.{Leaves, leaves-turn, turn-pending, turns-rise, back-turns}
use Rattle.omp_model.proofs.Recording.{HasRun-start, HasRun-after, HasRun-alone, HasRun-event, HasRun-serial, HasRun-whole, HasRun-pending, heard-alone, heard-event, heard-pending, event_at, first_enabled-below, first_enabled-enabled, first_enabled-none, put_all-turns, StoresNothing-append}
use Rattle.omp_model.{specs.declared.event.Outcome.TheVariants.Happens, specs.declared.event.Halt.Halt, specs.Cause.whole_value, specs.Cause.is_stuck, specs.Cause.cause_of_whole, specs.Cause.cause_by_halt, specs.Storing.put_all, specs.Storing.MayStore, specs.Legal.put}
use Rattle.omp_model.{specs.Running.HasRun, specs.Serial.enabled_among, proofs.SerialLaws.serial-whole, proofs.Replies.may-store}
use Rattle.omp_machine.proofs.Telling.{IsTold, IsUntold}
use Rattle.step_book.proofs.{Storing.inside-all, Storing.stores-few, Visiting.inside-told}
use Rattle.team_run.specs.Names.{Call, Snapshot, Stored, item_of, stores_of, Entry, Callback, Cause, Event, Outcome, Run, State, pending_at, call_of, snap_of, turn, called, after, put_from, back_from, back, heard, first_enabled, inside_after, StoresNothing, go_at, event_reply, none_pending, cause_of, Record}
use Rattle.team_run.specs.Serving.{AreSame, Serves, ServesTo, OnlyUnheard, Answers}
use Rattle.team_run.specs.Standing.{AreSilent, HearsOwn, HearsSilent, StandsAt, StopsAt}
use Rattle.team_run.proofs.Serving.{serves-told, serves-unheard, served-nil, told-silent, own-told, own-unheard, heard_of-same}
use Rattle.team_run.specs.{Program.HaveServed, Unheard.IsUnheard, Unheard.is_of}

abbrev pub all_none : List (Option Callback) → Bool
all_none pending = list_all (λ (callback : Option Callback). is_none callback) pending

-- nobody is inside a callback at first
all_none-replicate : (n : ℕ) → all_none (replicate n None) ≡ true
all_none-replicate zero = refl
all_none-replicate (suc n) = all_none-replicate n

-- nor where one has come out
all_none-set : (pending : List (Option Callback)) (t : ℕ) → all_none pending ≡ true → all_none (slice_set pending t None) ≡ true
all_none-set [] t all = refl
all_none-set (x ∷ xs) zero all = (and_parts (is_none x) (all_none xs) all).1
all_none-set (x ∷ xs) (suc t) all = let both = and_parts (is_none x) (all_none xs) all in and_from (is_none x) _ both.0 (all_none-set xs t both.1)

-- a store changes no other thread's callback
put-others : (S : State) (t : ℕ) (store : Stored) (callback : Option Callback) → slice_set (put_from S t store.target store.word callback).pending t None ≡ slice_set S.pending t None
put-others S t store None = refl
put-others S t store (Some callback) = set-set S.pending t _ None

put_all-others : (S : State) (t : ℕ) (stores : List Stored) → slice_set (put_all S t stores).pending t None ≡ slice_set S.pending t None
put_all-others S t [] = refl
put_all-others S t (store ∷ rest) = put_all-others (put S t store.target store.word) t rest ∙ put-others S t store (pending_at S t)

back-pending : (S : State) (t : ℕ) (callback : Option Callback) → IsSome callback → (back_from S t callback).pending ≡ slice_set S.pending t None
back-pending S t None some = absurd (true≢false (sym some))
back-pending S t (Some callback) some = refl

-- nobody is inside a callback where one has gone in, stored and come out
nobody-back : (run : Run) (S : State) (t : ℕ) (event : Event) (stores : List Stored) → none_pending S ≡ true → (turn run S t).outcome ≡ Happens event → IsSome (pending_at (put_all (turn run S t).state t stores) t) → none_pending (back (put_all (turn run S t).state t stores) t) ≡ true
nobody-back run S t event stores nobody happens waits =
    let between : State = (turn run S t).state in
    let same : (back (put_all between t stores) t).pending ≡ slice_set S.pending t None =
    back-pending (put_all between t stores) t (pending_at (put_all between t stores) t) waits ∙ put_all-others between t stores ∙ ap (λ pending. slice_set pending t None) (turn-pending run S t event happens) ∙ set-set S.pending t (Some (called event)) None in
    ap all_none same ∙ all_none-set S.pending t nobody

-- a turn with no event leaves the callbacks alone
pub same-pending : (S after : State) (t : ℕ) (o : Outcome) → Leaves S t after o → inside_after o t ≡ None → after.pending ≡ S.pending
same-pending S after t (Happens event) leaves none = cc
same-pending S after t o leaves none = leaves.2

-- before the first entry
pub stands-start : (run : Run) → 1 ≤ run.threads → run.threads ≤ 16 → StandsAt run 0 []
stands-start run some few = record {
  some = some;
  few = few;
  within = omega arith;
  nobody = all_none-replicate run.threads;
  has_run = HasRun-start run;
  own = λ k past. refl;
  silent = λ silent. tt;
}

-- a run may stop where it stands
pub stops-here : (run : Run) (from : ℕ) (H : List Entry) → StandsAt run from H → StopsAt run H
stops-here run from H stands = record { serial = HasRun-serial stands.has_run; own = stands.own }

-- where no thread can go on and nobody is inside a callback, the run has ended
caused-by : (run : Run) (S : State) (halt : Option Halt) (value : Option ℤ) → S.halt ≡ halt → whole_value S.world ≡ value
    → enabled_among S 0 run.threads ≡ None → none_pending S ≡ true → cause_by_halt run S halt ≡ None → ⊥
caused-by run S (Some halt) value halted whole none nobody no_cause = cc
caused-by run S None (Some value) halted whole none nobody no_cause =
    let found : cause_of_whole run S (Some value) ≡ None = rw whole at no_cause in cc
caused-by run S None None halted whole none nobody no_cause =
    let stuck : is_stuck run S ≡ true =
    and_from _ _ (and_from _ _ (and_from _ _ (ap is_none none) nobody) (ap is_none halted)) (ap is_none whole) in
    let deadlock : cause_of_whole run S None ≡ Some cause.Deadlock = rw stuck in
    let found : cause_of_whole run S None ≡ None = rw whole at no_cause in cc

pub caused : (run : Run) (from : ℕ) (H : List Entry) → StandsAt run from H → first_enabled run (after run H) from ≡ None → cause_of run H ≡ None → ⊥
caused run from H stands over no_cause =
    let S = after run H in
    caused-by run S S.halt (whole_value S.world) refl refl (first_enabled-none run S from stands.within over) stands.nobody no_cause

-- where nobody is inside a callback, each thread is in none
pub all_none-at : (pending : List (Option Callback)) (t : ℕ) → all_none pending ≡ true → slice_index_or pending t None ≡ None
all_none-at [] t all = refl
all_none-at (None ∷ xs) zero all = refl
all_none-at (Some callback ∷ xs) zero all = absurd (true≢false (sym all))
all_none-at (x ∷ xs) (suc t) all = all_none-at xs t (and_parts (is_none x) (all_none xs) all).1

-- so each call was heard where a run stands
pub unheard-none : (run : Run) (from : ℕ) (H : List Entry) (unheard : Option ℕ) → StandsAt run from H → IsUnheard run H unheard → unheard ≡ None
unheard-none run from H None stands is = refl
unheard-none run from H (Some t) stands is =
    let none : pending_at (after run H) t ≡ None = all_none-at (after run H).pending t stands.nobody in
    cc

module _ (run : Run) (from : ℕ) (H K : List Entry) (stands : StandsAt run from K) {P : Type 0} (stands_for : P → Record → Type 0) (parts others : List P) where
  -- a run that stands has served all that was called
  pub serves-to : Serves stands_for run parts H None others K → ServesTo stands_for run parts H others K
  serves-to serves = record { unheard = None; is_unheard = stands.nobody; serves = serves }

  pub serves-all : ServesTo stands_for run parts H others K → Serves stands_for run parts H None others K
  serves-all served = subst (λ unheard. Serves stands_for run parts H unheard others K)
      (unheard-none run from K served.unheard stands served.is_unheard) served.serves

-- after a turn, with the calls and the return of its event
pub record Visited {P : Type 0} (stands_for : P → Record → Type 0) (run : Run) (H : List Entry) (t : ℕ) (parts others : List P) (longer : List Entry) : Type 0 where
  pub serves : Serves stands_for run parts H None others longer
  pub stands : StandsAt run (t + 1) longer
  pub turns : (after run longer).turns ≡ (after run H).turns + 1

module _ (run : Run) (from : ℕ) (H : List Entry) (t : ℕ) (stands : StandsAt run from H) (turns : first_enabled run (after run H) from ≡ Some t) where
  abbrev now : State
  now = after run H

  abbrev between : State
  between = (turn run now t).state

  below : t + 1 ≤ run.threads
  below = let under = first_enabled-below run now from t stands.within turns in omega arith

  rises : between.turns ≡ now.turns + 1
  rises = turns-rise run now t (first_enabled-enabled run now from t turns)

  -- the thread is inside its callback
  inside-event : (e : Event) → (turn run now t).outcome ≡ Happens e → pending_at between t ≡ Some (called e)
  inside-event e happens = inside-told run H t e stands.some (omega (arith, below)) happens

  -- where the thread stops inside its callback
  pub stops-inside : (e : Event) → (turn run now t).outcome ≡ Happens e → StopsAt run (H ++ go_at t ∷ [])
  stops-inside e happens = record {
    serial = HasRun-pending t e stands.has_run turns happens;
    own = own-unheard run H (H ++ go_at t ∷ []) (heard-pending t e stands.has_run happens) stands.own;
  }

  module _ {P : Type 0} (stands_for : P → Record → Type 0) (parts others : List P) where
    -- where the run has come to this state
    visited-at : (next : State) (longer : List Entry) → HasRun run longer (record { state = next; next = t + 1; inside = None }) → none_pending next ≡ true
        → HearsOwn run longer → (HearsSilent run longer → StoresNothing longer) → Serves stands_for run parts H None others longer
        → next.turns ≡ now.turns + 1 → Visited stands_for run H t parts others longer
    visited-at next longer has nobody own silent serves turned =
        let there : after run longer ≡ next = HasRun-after has in record {
          serves = serves;
          stands = record {
            some = stands.some;
            few = stands.few;
            within = below;
            nobody = ap none_pending there ∙ nobody;
            has_run = subst (λ (S : State). HasRun run longer (record { state = S; next = t + 1; inside = None })) (sym there) has;
            own = own;
            silent = silent;
          };
          turns = ap (λ (S : State). S.turns) there ∙ turned;
        }

    -- after an event, with these stores
    visited-event : (e : Event) → (turn run now t).outcome ≡ Happens e → (stores : List Stored) → length stores ≤ 3 → MayStore run between t stores → IsSome (pending_at (put_all between t stores) t)
        → HearsOwn run (H ++ event_at t stores) → (HearsSilent run (H ++ event_at t stores) → HearsSilent run H × (stores ≡ [])) → Serves stands_for run parts H None others (H ++ event_at t stores)
        → Visited stands_for run H t parts others (H ++ event_at t stores)
    visited-event e happens stores few may waits own quiet serves =
        visited-at (back (put_all between t stores) t) (H ++ event_at t stores) (HasRun-event t e stores stands.has_run turns happens few may waits)
        (nobody-back run now t e stores stands.nobody happens waits) own
        (λ silent. StoresNothing-append H (event_at t stores) (stands.silent (quiet silent).0) (subst (λ (stores : List Stored). StoresNothing (event_at t stores)) (sym (quiet silent).1) (refl, (refl, tt))))
        serves (back-turns (put_all between t stores) t ∙ put_all-turns between t stores ∙ rises)

  -- what was silent is so where nothing more is heard
  silent-same : (K : List Entry) → heard run K ≡ heard run H → HearsSilent run K → HearsSilent run H
  silent-same K same silent = λ k under. subst AreSilent (heard_of-same run H K k same) (silent k under)

  module _ {P : Type 0} (stands_for : P → Record → Type 0) (parts : List P) where
    -- the parts are as they were where nothing more is heard
    serves-same : (K : List Entry) → heard run K ≡ heard run H → Serves stands_for run parts H None parts K
    serves-same K same = serves-unheard stands_for run parts parts H K None same (record { as_many = refl; each = λ k below d h stands. stands })

    -- after a turn with no event
    pub visited-alone : inside_after (turn run now t).outcome t ≡ None → Visited stands_for run H t parts parts (H ++ go_at t ∷ [])
    visited-alone none =
        let longer = H ++ go_at t ∷ [] in
        let same : heard run longer ≡ heard run H = heard-alone t stands.has_run none in
        visited-at stands_for parts parts between longer (HasRun-alone t stands.has_run turns none)
        (ap all_none (same-pending now between t (turn run now t).outcome (leaves-turn run now t) none) ∙ stands.nobody) (own-unheard run H longer same stands.own)
        (λ silent. StoresNothing-append H (go_at t ∷ []) (stands.silent (silent-same longer same silent)) (refl, tt)) (serves-same longer same) rises

    -- after an event whose callback isn't registered
    pub visited-untold : IsUntold run (turn run now t).outcome → Visited stands_for run H t parts parts (H ++ event_at t [])
    visited-untold unsaid =
        let longer = H ++ event_at t [] in
        let same : heard run longer ≡ heard run H =
        heard-event t unsaid.event [] stands.has_run unsaid.happens ∙ ap (λ said. heard run H ++ said) (rw unsaid.unregistered refl) ∙ append-nil (heard run H) in
        visited-event stands_for parts parts unsaid.event unsaid.happens [] (omega arith) tt (rw (inside-event unsaid.event unsaid.happens) refl) (own-unheard run H longer same stands.own)
        (λ silent. (silent-same longer same silent, refl)) (serves-same longer same)

  -- Where an event was told.
  module _ (call : Call) (snapshot : Snapshot) (said : IsTold run between t (turn run now t).outcome call snapshot) {P : Type 0} (stands_for : P → Record → Type 0) (parts others : List P) where
    abbrev e : Event
    e = said.event

    -- after the answer of the thread's part
    pub visited-said : (seq : ℕ) → seq ≡ length H → (longer : List Entry)
        → Answers stands_for seq t call snapshot parts (H ++ go_at t ∷ []) others longer
        → Visited stands_for run H t parts others longer
    visited-said seq seq_is longer said_so =
        let answers = rw (seq_is, ← said.call_is, ← said.snapshot_is) at said_so in
        let stores : List Stored = stores_of answers.reply (snap_of between.world t e) in
        let item = item_of (length H) t (call_of between.world t e) (snap_of between.world t e) answers.reply in
        let whole = H ++ event_at t stores in
        let history : longer ≡ whole = answers.history_is ∙ append_assoc H (go_at t ∷ []) (event_reply t stores) in
        let more : heard run whole ≡ heard run H ++ item ∷ [] =
        heard-event t e stores stands.has_run said.happens ∙ ap (λ said. heard run H ++ said) (rw said.registered refl) in
        let under : t < run.threads = omega (arith, below) in
        let waits = inside-all run between t e 0 stores (record { pending = inside-event e said.happens; registered = said.registered }) in
        subst (λ K. Visited stands_for run H t parts others K) (sym history)
        (visited-event stands_for parts others e said.happens stores (stores-few answers.reply (snap_of between.world t e))
        (may-store run H t e stands.some said.happens answers.reply said.registered) waits
        (own-told run H whole t item refl under more stands.own)
        (told-silent run H whole t item refl more under)
        (serves-told stands_for run parts others H whole t item refl more answers.as_many answers.each))

    -- where the part found no memory, nothing more was heard, and the history ends inside the callback
    pub serves-said : OnlyUnheard stands_for (Some t) parts others → ServesTo stands_for run parts H others (H ++ go_at t ∷ [])
    serves-said kept = record {
      unheard = Some t;
      is_unheard = record {
        before = H;
        last = refl;
        callback = called e;
        inside = ap (λ (S : State). pending_at S t) (stands.has_run.reached (go_at t ∷ [])) ∙ inside-event e said.happens;
        registered = said.registered;
      };
      serves = serves-unheard stands_for run parts others H (H ++ go_at t ∷ []) (Some t) (heard-pending t e stands.has_run said.happens) kept;
    }

-- what a run that has stopped has come to
pub have-served : {P : Type 0} (stands_for : P → Record → Type 0) (Same : P → P → Type 0) (run : Run) (next : ℕ)
    (reason : Cause) (H : List Entry) (text : List ℕ) (parts others : List P)
    → ServesTo stands_for run parts [] others H → AreSame Same parts others → StopsAt run H → (reason ≢ cause.Memory → StandsAt run next H)
    → (reason ≢ cause.Memory → first_enabled run (after run H) next ≡ None)
    → (reason ≢ cause.Memory → cause_of run H ≡ Some reason) → (reason ≡ cause.Memory → H ≢ []) → text ≡ (after run H).world.store.text
    → HaveServed stands_for Same true run reason H text parts others
have-served {P} stands_for Same run next reason H text parts others serves same stops stands over caused begun printed =
    let heard : reason ≢ cause.Memory → serves.unheard ≡ None =
    λ found. unheard-none run next H serves.unheard (stands found) serves.is_unheard in record {
      to = record {
        legal = stops.serial.legal;
        ends = caused;
        own = stops.own;
        in_order = λ is. stops.serial;
        whole =
            λ is found silent. sym (serial-whole run H (HasRun-whole (stands found).has_run (over found)) ((stands found).silent silent));
        begun = begun;
      };
      text_is = printed;
      as_many = serves.serves.as_many;
      unheard = is_of serves.unheard;
      are_unheard = record { one = serves.unheard; is_unheard = serves.is_unheard; all_heard = heard; unheard_is = λ k. refl };
      all_heard = λ found k below. ap (λ (unheard : Option ℕ). is_of unheard k) (heard found);
      each = λ k d h below stood. serves.serves.each k d h below
          (subst (λ (h : Record). stands_for (slice_index_or parts k d) h) (sym (served-nil h)) stood);
      same = same;
    }

-- what follows from either answer
pub from_either : {X E : Type 0} (r : Result X E) {A B C : Type 0} → OnOk r A → OnErr r B → (A → C) → (B → C) → C
from_either (Ok x) ok err f g = f ok
from_either (Err e) ok err f g = g err
