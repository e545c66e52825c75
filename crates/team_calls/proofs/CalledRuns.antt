-- After each legal history the calls that were made on each team are in order, and the team is what they leave.
use Rattle.std.proofs.lemmas.Bool.{ltb-true, true≢false}
use Rattle.work_laws.proofs.Walks.{starting}
use Rattle.std.proofs.lemmas.List.{append_assoc}
use Rattle.team_calls.proofs.CalledTurns.{turn-came, Came}
use Rattle.c_model.specs.Step.{silent}
use Rattle.omp_model.proofs.OrderlyRuns.{orderly-after}
use Rattle.work_laws.specs.Told.{nothing_told}
use Rattle.omp_model.proofs.MadeRuns.{made-after}
use Rattle.team_words.proofs.Barriers.{length-made, together-made}
use Rattle.team_words.proofs.Longest.{is-counted}
use Rattle.team_words.specs.Team.{has_arrived, has_met, has_passed, met_at, met_by}
use Rattle.omp_model.specs.Changes.{with_masked_skipped}
use Rattle.work_laws.proofs.Events.{goes, outside-callbacks}
use Rattle.omp_model.specs.Members.{current_index, moment_of, view_of}
use Rattle.team_calls.proofs.CalledGos.{called-go}
use Rattle.team_calls.proofs.CalledBacks.{called-back}
use Rattle.team_calls.proofs.CalledWaits.{WaitsAs, ends-as, waits-as, words_end}
use Rattle.nested_runs.proofs.Turned.{Led, back-leads, put-leads, turn-leads}
use Rattle.c_model.specs.declared.point.SyncKind.{SyncKind}
use Rattle.c_model.specs.declared.point.SyncStage.TheVariants as stage
use Rattle.omp_model.specs.declared.event.Event.TheVariants as event
use Rattle.omp_model.specs.Gates.{arrival, is_barrier}
use Rattle.guard_laws.proofs.Masks.{all_told, legal-told, told-after, told-does, told-turn, told-walk, whole-told}
use Rattle.guard_laws.proofs.KnownStates.{after-one, known-after, some-within}
use Rattle.omp_model.specs.declared.history.What.{What}
use Rattle.omp_model.specs.declared.event.Outcome.{Outcome as TurnOutcome}
use Rattle.omp_model.specs.Turn.{Turn, Walk, enabled, turn, stepped}
use Rattle.work_laws.proofs.Shares.{Tellings}
use Rattle.ompt_calls.specs.declared.snapshot.Target.{Target}
use Rattle.omp_model.specs.declared.limits.TheConstants.{STEPS_OF_A_TURN, TURN_LIMIT}
use Rattle.omp_model.specs.State.{Run, State, World, first_world, pending_at, pooled_at, region_at, first}
use Rattle.team_calls.proofs.CalledSteps.{OnCalls}
use Rattle.omp_model.proofs.Turns.{Leaves, leaves-turn, turn-goes}
use Rattle.nested_runs.proofs.Knows.{IsWholeRun, Stays}
use Rattle.work_laws.proofs.Runs.{IsTold, first-told, stored-team, told-entry, more}
use Rattle.c_model.specs.Formed.{IsProgramFormed}
use Rattle.omp_model.specs.Conditions.{IsOrderly, has_started}
use Rattle.omp_model.specs.MadeWorld.{IsMadeState, IsTask}
use Rattle.team_words.specs.Counted.{IsCounted}
use Rattle.nested_runs.proofs.Recorded.{Inside, event_in, inside}
use Rattle.omp_model.specs.Silent.{Goes, Silence, Stops, silent_step}
use Rattle.team_calls.proofs.Follows.{Follows, are-made, keeps}
use Rattle.omp_model.specs.declared.history.Entry.{Entry}
use Rattle.omp_model.specs.declared.event.Arrival.TheVariants.{CodeEvent, RuntimeEvent, Steps, Waits}
use Rattle.c_check.specs.Checked.{Checked}
use Rattle.omp_model.specs.declared.event.Callback.{Callback}
use Rattle.omp_model.specs.declared.history.What.TheVariants.{Back, Go, Put}
use Rattle.omp_model.specs.declared.event.Arrival.{Arrival}
use Rattle.team_words.specs.Calls.{AreMade, TeamCall}
use Rattle.omp_model.specs.Legal.{AllowsFrom, Legal, after, after_from, does, entered, may, put_from}
use Rattle.team_calls.proofs.Called.{AllCalls, called-same, called-stays, Called}
use Rattle.std.proofs.Common.{ℕ, zero, suc, ◌≡◌, ◌≤◌, ◌<◌, ◌++◌, true, false, length, List, [], ◌∷◌, if◌then◌else◌, ◌+◌, refl, sym, ap, ap₂, ◌∙◌, subst, subst₂, arith, append-nil, append_assoc}
use Rattle.std.specs.Prelude.{Option, Some, None, option_map, nat_le, slice_index_or}
use Rattle.omp_model.specs.declared.event.Outcome.TheVariants as outcome
use Rattle.team_calls.specs.Called.{calls_of, calls_of_callback, calls_of_entries, calls_of_entry, calls_of_turn, size_of, team_of, calls_by, calls_of_outcome, calls_of_step, calls_of_steps, if_in, calls_on, calls_at}

-- ---- an entry

module _ (run : Run) (S : State) (told : Tellings) (so : IsTold run S told) (calls : AllCalls) (called : Called S.world (inside S) calls) where
  -- a turn
  module _ (t : ℕ) (enters : enabled S t ≡ true) (made : IsMadeState run (turn run S t).state) (orderly : IsOrderly (turn run S t).state) where
    abbrev next : State
    next = (turn run S t).state

    outside : inside S t ≡ None
    outside = ap (option_map event_in) (turn-goes S t enters).outside

    start : OnCalls run S so.met t told outside S.world calls
    start = record { on = starting run S so.met t told (so.idle t) so.tells; called = called }

    -- the same threads are inside callbacks
    same-inside : (now : AllCalls) → next.pending ≡ S.pending → Called next.world (inside S) now → Called next.world (inside next) now
    same-inside now pending held =
        subst (λ (I : Inside). Called next.world I now) (λ i u. option_map event_in (slice_index_or (sym pending i) u None)) held

    came-by : (now : AllCalls) (came : TurnOutcome) → Leaves S t next came → Came run S so.met t told outside calls start next.world now came →
        Called next.world (inside next) now
    came-by now (outcome.Happens e) leaves went =
        let there = outside-callbacks S t enters in
        let to = goes run S next so.met t e went.before went.so.on.reached went.go made orderly there outside leaves.2 in
        called-same next.world (inside next) (λ q. went.base q ++ calls_at run went.before t q e) now went.same
        (called-go run went.before next.world (inside S) (inside next) so.met.known.past t went.base went.so.called e to went.go)
    came-by now outcome.Idle leaves held = same-inside now leaves.2 held
    came-by now outcome.Quiet leaves held = same-inside now leaves.2 held
    came-by now (outcome.Halts halt) leaves held = same-inside now leaves.2 held

    turn-called : Called next.world (inside next) (λ q. calls q ++ calls_of_turn run S t q)
    turn-called =
        came-by (λ q. calls q ++ calls_of_turn run S t q) (turn run S t).outcome (leaves-turn run S t)
        (turn-came run S so.met t told outside calls start)

  -- what is no event
  stays-called : (next : State) → Stays run S.world next.world (inside S) (inside next) so.met.known.past →
      ((q : ℕ) → (region_at next.world q).team ≡ (region_at S.world q).team) → Called next.world (inside next) calls
  stays-called next stays teams =
      subst (λ (I : Inside). Called next.world I calls) (λ i u. sym (stays.same u) i)
      (called-stays S.world next.world (inside S) stays.alike calls teams called)

  put-team : (callback : Option Callback) (t : ℕ) (place : Target) (word q : ℕ) →
      (region_at (put_from S t place word callback).world q).team ≡ (region_at S.world q).team
  put-team None t place word q = refl
  put-team (Some callback) t place word q = stored-team S.world place word q

  entry-called : (t : ℕ) (what : What) → IsMadeState run (does run S t what) → IsOrderly (does run S t what) → may run S t what ≡ true →
      Called (does run S t what).world (inside (does run S t what)) (λ q. calls q ++ calls_of_entry run S t q what)
  entry-called t Go made orderly enters = turn-called t enters made orderly
  entry-called t (Put place word) made orderly enters =
      let next = does run S t (Put place word) in
      called-same next.world (inside next) calls (λ q. calls q ++ []) (λ q. append-nil (calls q))
      (stays-called next (put-leads run S so.met.known.past so.met.known.stands.knows so.met.known.stands.unbroken t place word made orderly)
      (put-team (pending_at S t) t place word))
  entry-called t Back made orderly enters =
      let within = some-within run S so.met.known (pending_at S t) enters in
      let next = does run S t Back in
      let back = back-leads run S so.met.known.past so.met.known.stands.knows so.met.known.stands.unbroken t within.one made orderly within.is in
      called-same next.world (inside next) (λ q. calls q ++ calls_of_callback S.world t q (Some within.one))
      (λ q. calls q ++ calls_of_callback S.world t q (pending_at S t))
      (λ q. ap (λ (callback : Option Callback). calls q ++ calls_of_callback S.world t q callback) within.is)
      (called-back run S.world next.world (inside S) (inside next) so.met.known.past t calls called within.one.event back)

-- ---- a history

called-from : (run : Run) (before : List Entry) (S : State) (rest : List Entry) (told : Tellings) (calls : AllCalls) → IsWholeRun run → after run before ≡ S →
    AllowsFrom run S rest → IsTold run S told → Called S.world (inside S) calls →
    Called (after_from run S rest).world (inside (after_from run S rest)) (λ r. calls r ++ calls_of_entries run S r rest)
called-from run before S [] told calls whole is allows so called =
    called-same S.world (inside S) calls (λ r. calls r ++ []) (λ r. append-nil (calls r)) called
called-from run before S (entry ∷ rest) told calls whole is allows so called =
    let next = entered run S entry in
    let same : after run (before ++ entry ∷ []) ≡ next = after-one run (first run) before entry ∙ ap (λ (S : State). entered run S entry) is in
    let made : IsMadeState run next = subst (IsMadeState run) same (made-after run (before ++ entry ∷ []) whole.some) in
    let orderly : IsOrderly next = subst IsOrderly same (orderly-after run (before ++ entry ∷ []) whole.some) in
    let last = after_from run next rest in
    called-same last.world (inside last)
    (λ r. (calls r ++ calls_of_entry run S entry.thread r entry.what) ++ calls_of_entries run next r rest)
    (λ r. calls r ++ (calls_of_entry run S entry.thread r entry.what ++ calls_of_entries run next r rest))
    (λ r. sym (append_assoc (calls r) (calls_of_entry run S entry.thread r entry.what) (calls_of_entries run next r rest)))
    (called-from run (before ++ entry ∷ []) next rest (more run S entry.thread entry.what told)
    (λ r. calls r ++ calls_of_entry run S entry.thread r entry.what) whole same allows.1
    (told-entry run S told so entry.thread entry.what made orderly allows.0)
    (entry-called run S told so calls called entry.thread entry.what made orderly allows.0))

-- at the start

first-follows : (run : Run) (r : ℕ) → Follows (region_at (first_world run) r).team []
first-follows run zero = record { few = omega arith; made = refl; time = refl; agree = refl; view_is = refl }
first-follows run (suc zero) = record { few = omega arith; made = refl; time = refl; agree = refl; view_is = refl }
first-follows run (suc (suc r)) = record { few = omega arith; made = refl; time = refl; agree = refl; view_is = refl }

first-fresh : (run : Run) (k : ℕ) → IsTask (first_world run) k → has_started (pooled_at (first_world run) k).condition ≡ false
first-fresh run zero made = absurd (omega (arith, made.some))
first-fresh run (suc zero) made = refl
first-fresh run (suc (suc k)) made = absurd (omega (arith, made.below))

first-called : (run : Run) → Called (first_world run) (inside (first run)) (λ r. [])
first-called run =
    record {
      none = λ r beyond. refl;
      follows = first-follows run;
      places = λ k made started plain. absurd (true≢false (sym started ∙ first-fresh run k made));
      early = λ not. refl;
    }

called-after : (run : Run) (history : List Entry) → IsWholeRun run → Legal run history →
    Called (after run history).world (inside (after run history)) (λ r. calls_of run history r)
called-after run history whole legal =
    called-from run [] (first run) history (λ r n. nothing_told) (λ r. []) whole refl legal (first-told run whole) (first-called run)

-- ---- whichever callbacks are registered

silent-told : (run : Run) (W : World) (t : ℕ) → silent_step (all_told run) W t ≡ silent_step run W t
unfolding silent_step
silent-told run W t = refl

by-told : (some : List TeamCall) (silence : Silence) (one other : World → List TeamCall) → ((W : World) → one W ≡ other W) →
    calls_by some silence one ≡ calls_by some silence other
by-told some (Goes after) one other same = ap (λ (more : List TeamCall). some ++ more) (same after)
by-told some (Stops halt) one other same = refl

on-told : (run : Run) (S : State) (t r : ℕ) (came : Arrival) (one other : World → List TeamCall) → ((W : World) → one W ≡ other W) →
    calls_on (all_told run) S t r came one ≡ calls_on run S t r came other
on-told run S t r Waits one other same = refl
on-told run S t r CodeEvent one other same = refl
on-told run S t r (RuntimeEvent event) one other same = refl
on-told run S t r Steps one other same =
    let some = if_in S.world t r (calls_of_step (current_index S.world t) (silent run.program (view_of S.world t) (moment_of S.world t))) in
    ap (λ (silence : Silence). if nat_le run.steps S.steps then [] else calls_by some silence one) (silent-told run S.world t)
    ∙ ap (λ (calls : List TeamCall). if nat_le run.steps S.steps then [] else calls) (by-told some (silent_step run S.world t) one other same)

module _ (run : Run) where
  steps-told : (left : ℕ) (S : State) (t r : ℕ) → calls_of_steps (all_told run) left S t r ≡ calls_of_steps run left S t r
  unfolding calls_of_steps
  steps-told zero S t r = refl
  steps-told (suc left) S t r =
      on-told run S t r (arrival S.world t) (λ after. calls_of_steps (all_told run) left (stepped S after) t r)
      (λ after. calls_of_steps run left (stepped S after) t r) (λ after. steps-told left (stepped S after) t r)

  turn-told : (S : State) (t r : ℕ) → calls_of_turn (all_told run) S t r ≡ calls_of_turn run S t r
  turn-told S t r =
      ap (λ (calls : List TeamCall). if nat_le TURN_LIMIT (S.turns + 1) then [] else calls)
      (ap₂ (λ (some more : List TeamCall). some ++ more) (steps-told STEPS_OF_A_TURN S t r)
      (ap₂ (λ (W : World) (came : TurnOutcome). calls_of_outcome run (with_masked_skipped W t) t r came)
      (ap (λ (w : Walk). w.state.world) (told-walk run STEPS_OF_A_TURN 0 S t)) (ap (λ (one : Turn). one.outcome) (told-turn run S t))))

  entry-told : (S : State) (t r : ℕ) (what : What) → calls_of_entry (all_told run) S t r what ≡ calls_of_entry run S t r what
  entry-told S t r Go = turn-told S t r
  entry-told S t r (Put place word) = refl
  entry-told S t r Back = refl

  entries-told : (S : State) (r : ℕ) (history : List Entry) → calls_of_entries (all_told run) S r history ≡ calls_of_entries run S r history
  entries-told S r [] = refl
  entries-told S r (entry ∷ rest) =
      ap₂ (λ (some more : List TeamCall). some ++ more) (entry-told S entry.thread r entry.what)
      (ap (λ (S : State). calls_of_entries (all_told run) S r rest) (told-does run S entry.thread entry.what) ∙ entries-told (entered run S entry) r rest)

pub waits-run : (run : Run) (history : List Entry) → 1 ≤ run.threads → run.threads ≤ 16 → Checked run.program → IsProgramFormed run.program →
    Legal run history → WaitsAs (after run history).world (λ r. calls_of run history r)
waits-run run history some few checked formed legal =
    let whole = whole-told run some few checked formed in
    let told = legal-told run whole history legal in
    let S = after (all_told run) history in
    let known = known-after (all_told run) history whole told in
    subst₂ (λ (S : State) (calls : AllCalls). WaitsAs S.world calls) (told-after run history) (λ i r. entries-told run (first run) r history i)
    (waits-as (all_told run) S.world (inside S) known.past (λ r. calls_of (all_told run) history r)
    (called-after (all_told run) history whole told) known.stands.knows)

-- the turn of a thread whose wait ends
pub ends-run : (run : Run) (history : List Entry) → 1 ≤ run.threads → run.threads ≤ 16 → Checked run.program → IsProgramFormed run.program →
    Legal run history → (t codeptr : ℕ) (which : SyncKind) → enabled (after run history) t ≡ true →
    (turn run (after run history) t).outcome ≡ outcome.Happens (event.Sync which stage.WaitEnd codeptr) → is_barrier which ≡ true →
    words_end (after run history).world (λ r. calls_of run history r) t ≡ true
ends-run run history some few checked formed legal t codeptr which enters happens barrier =
    let all = all_told run in
    let whole = whole-told run some few checked formed in
    let told = legal-told run whole history legal in
    let S = after all history in
    let next = (turn all S t).state in
    let known = known-after all history whole told in
    let entry : Entry = record { thread = t; what = Go } in
    let same : after all (history ++ entry ∷ []) ≡ next = after-one all (first all) history entry in
    let enters-all : enabled S t ≡ true = ap (λ (S : State). enabled S t) (told-after run history) ∙ enters in
    let happens-all : (turn all S t).outcome ≡ outcome.Happens (event.Sync which stage.WaitEnd codeptr) =
    ap (λ (T : Turn). T.outcome) (told-turn run S t) ∙ ap (λ (S : State). (turn run S t).outcome) (told-after run history) ∙ happens in
    let happened = subst (Led all S next known.past t) happens-all
    (turn-leads all S known.past known.stands.knows known.stands.unbroken t (subst (IsMadeState all) same (made-after all (history ++ entry ∷ []) whole.some))
    (subst IsOrderly same (orderly-after all (history ++ entry ∷ []) whole.some)) enters-all) in
    subst₂ (λ (S : State) (calls : AllCalls). words_end S.world calls t ≡ true) (told-after run history) (λ i r. entries-told run (first run) r history i)
    (ends-as all S next known.past (λ r. calls_of all history r) (called-after all history whole told) known.stands.knows t codeptr which barrier happened)

module _ (run : Run) (history : List Entry) (r : ℕ) (some : 1 ≤ run.threads) (few : run.threads ≤ 16) (checked : Checked run.program)
    (formed : IsProgramFormed run.program) (legal : Legal run history) where
  pub follows-run : Follows (region_at (after run history).world r).team (calls_of run history r)
  follows-run =
      let whole = whole-told run some few checked formed in
      subst₂ (λ (S : State) (calls : List TeamCall). Follows (region_at S.world r).team calls) (told-after run history) (entries-told run (first run) r history)
      ((called-after (all_told run) history whole (legal-told run whole history legal)).follows r)

  pub made-run : AreMade (size_of run history r) (calls_of run history r)
  made-run = are-made (region_at (after run history).world r).team (calls_of run history r) follows-run

  -- two members have met the same with each number that both have
  pub same-run : (number one other : ℕ) → has_met number (met_by (team_of run history r) one) ≡ true → has_met number (met_by (team_of run history r) other) ≡ true →
      (met_at number (met_by (team_of run history r) one)).what ≡ (met_at number (met_by (team_of run history r) other)).what
  same-run number one other first second =
      let team = team_of run history r in
      let each = (keeps (region_at (after run history).world r).team (calls_of run history r) follows-run).each in
      sym (each one number (ltb-true number (length (met_by team one)) first)).same ∙ (each other number (ltb-true number (length (met_by team other)) second)).same

  pub counted-run : IsCounted (team_of run history r) (region_at (after run history).world r).team
  counted-run = is-counted (team_of run history r) (region_at (after run history).world r).team
      (keeps (region_at (after run history).world r).team (calls_of run history r) follows-run)

  pub arrived-run : (number member other : ℕ) → other < size_of run history r → has_passed number (met_by (team_of run history r) member) ≡ true →
      has_arrived number (met_by (team_of run history r) other) ≡ true
  arrived-run number member other within passed =
      together-made (size_of run history r) (calls_of run history r) follows-run.time number member passed other
      (omega (arith, within, length-made (size_of run history r) (calls_of run history r)))
