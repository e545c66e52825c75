-- What an entry of a history leads to: an event goes, after what is none; its callback comes back; or what is no event stays.
use Rattle.std.proofs.Common.{ℕ, zero, suc, ◌≡◌, ◌≢◌, ◌<◌, ◌+◌, ◌⊎◌, ◌&&◌, true, List, [], ◌∷◌, slice_set, slice_index_or, length, refl, sym, ap, ◌∙◌, subst, inl, inr, arith}
use Rattle.std.specs.Prelude.{Some, None, Option, is_none, option_map}
use Rattle.std.proofs.lemmas.Bool.{and_parts}
use Rattle.std.proofs.lemmas.List.{get_or-set_other, get_or-set_same, length-set}
use Rattle.ompt_calls.specs.declared.event.EventRecord.{EventRecord}
use Rattle.ompt_calls.specs.declared.snapshot.Target.{Target}
use Rattle.omp_model.specs.declared.event.Arrival.TheVariants.{Steps}
use Rattle.omp_model.specs.declared.event.Callback.{Callback}
use Rattle.omp_model.specs.declared.event.Event.{Event}
use Rattle.omp_model.specs.declared.event.Outcome.{Outcome}
use Rattle.omp_model.specs.declared.event.Outcome.TheVariants as outcome
use Rattle.omp_model.specs.State.{Run, State, World, pending_at, thread_at}
use Rattle.omp_model.proofs.Alike.{QuietWorld}
use Rattle.omp_model.specs.Changes.{with_masked_skipped}
use Rattle.omp_model.specs.Conditions.{IsOrderly}
use Rattle.omp_model.specs.Gates.{arrival}
use Rattle.omp_model.specs.Legal.{back, back_from, put, put_from}
use Rattle.omp_model.specs.MadeWorld.{IsMadeState, IsThread}
use Rattle.omp_model.specs.Silent.{Silence, Goes as StepsOn, Stops, silent_step}
use Rattle.omp_model.specs.Turn.{called, enabled, goes_on, turn}
use Rattle.omp_model.proofs.AlikeWorlds.{later-alike, made-alike, quiet-step, still-alike, taken-stored}
use Rattle.omp_model.proofs.Arriving.{thread-goes}
use Rattle.omp_model.proofs.Conditions.{event-still, orderly-still}
use Rattle.omp_model.proofs.MadeEvents.{occurred-later}
use Rattle.omp_model.proofs.Reading.{read-same}
use Rattle.omp_model.proofs.Turning.{AfterSilence, GoFrom, GoOf, Turned, of-turn}
use Rattle.omp_model.proofs.Turns.{Leaves, leaves-turn, turn-goes}
use Rattle.omp_model.proofs.Backs.{returns}
use Rattle.omp_model.proofs.Rewrites.{thread-below}
use Rattle.trace_check.specs.Checking.{Unbroken}
use Rattle.nested_runs.proofs.Recorded.{Enters, Inside, event_in, inside}
use Rattle.nested_runs.proofs.Knows.{ComesBack, Goes, IsSound, Knows, Stays}
use Rattle.nested_runs.proofs.Touching.{Alike}
use Rattle.nested_runs.proofs.AlikeSteps.{alike-past, alike-same, alike-step, alike-stored, alike-then}
use Rattle.nested_runs.proofs.BackCodes.{sound-state}
use Rattle.nested_runs.proofs.Comings.{comes}
use Rattle.nested_runs.proofs.Gos.{touches}

-- Worlds that are alike are as sound.

pub sound-alike : (run : Run) (W after : World) (I : Inside) → IsSound run W I → Alike W after → IsSound run after I
sound-alike run W after I sound alike =
    let later = later-alike W after alike.world in
    let still = still-alike W after alike.world in
    record {
      whole = sound.whole;
      threads = alike.world.threads ∙ sound.threads;
      made = (made-alike W after alike.world sound.made).world;
      orderly = orderly-still W after still sound.orderly;
      events = λ t event is.
          let one = sound.events t event is in
          record { occurred = occurred-later W after t event sound.made later one.occurred; orderly = event-still W after still t event one.orderly };
    }

-- A turn.

-- what silent steps of a thread keep of the world before them
pub record Reaches (W : World) (t : ℕ) (after : World) : Type 0 where
  pub alike : Alike W after
  pub taken : (u : ℕ) → u ≢ t → (thread_at after u).taken ≡ (thread_at W u).taken

-- the world before the Go, after silent steps
pub record Happened (run : Run) (S next : State) (past : List EventRecord) (t : ℕ) (e : Event) : Type 0 where
  pub before : World
  pub stays : Stays run S.world before (inside S) (inside S) past
  pub go : GoOf run before t e next.world
  pub goes : Knows run before (inside S) past → Goes run before next.world (inside S) (inside next) past t e

abbrev pub Led : Run → State → State → List EventRecord → ℕ → Outcome → Type 0
Led run S next past t (outcome.Happens e) = Happened run S next past t e
Led run S next past t other = Stays run S.world next.world (inside S) (inside next) past

none-at : (places : List (Option Callback)) (t : ℕ) → slice_index_or (slice_set places t None) t None ≡ None
none-at [] t = refl
none-at (place ∷ places) zero = refl
none-at (place ∷ places) (suc t) = none-at places t

-- the thread is inside this callback now, or inside none
entered-at : (S next : State) (t : ℕ) (callback : Option Callback) → (callback ≡ None) ⊎ (t < length S.pending) →
    next.pending ≡ slice_set S.pending t callback →
    Enters (inside S) (inside next) t (option_map event_in callback)
entered-at S next t callback within pending =
    record {
      own = ap (option_map event_in) (ap (λ (places : List (Option Callback)). slice_index_or places t None) pending ∙ at-it within);
      others = λ u other. ap (option_map event_in) (ap (λ (places : List (Option Callback)). slice_index_or places u None) pending
          ∙ get_or-set_other S.pending t u callback None other);
    }
  where
    at-it : (callback ≡ None) ⊎ (t < length S.pending) → slice_index_or (slice_set S.pending t callback) t None ≡ callback
    at-it (inl none) = subst (λ x. slice_index_or (slice_set S.pending t x) t None ≡ x) (sym none) (none-at S.pending t)
    at-it (inr below) = get_or-set_same S.pending t callback None below

-- a thread that is enabled was made
enabled-thread : (S : State) (t : ℕ) → enabled S t ≡ true → IsThread S.world t
unfolding enabled
enabled-thread S t goes = thread-goes S.world t (and_parts (is_none (pending_at S t) && is_none S.halt) (goes_on (arrival S.world t)) goes).1

module _ (run : Run) (S : State) (past : List EventRecord) (knows : Knows run S.world (inside S) past) (unbroken : Unbroken past) where
  pub reaches-past : (t : ℕ) (W : World) → Reaches S.world t W → Reaches S.world t (with_masked_skipped W t)
  reaches-past t W so = record { alike = alike-then S.world W (with_masked_skipped W t) so.alike (alike-past W t so.alike.codes); taken = so.taken }

  reaches-then : (t : ℕ) (W : World) (silence : Silence) → Reaches S.world t W → AfterSilence (Alike W) silence →
      AfterSilence (QuietWorld t W) silence → AfterSilence (Reaches S.world t) silence
  reaches-then t W (StepsOn after) so alike quiet =
      record { alike = alike-then S.world W after so.alike alike; taken = λ u other. quiet.others u other ∙ so.taken u other }
  reaches-then t W (Stops halt) so alike quiet = tt

  pub reaches-step : (t : ℕ) (W : World) → arrival W t ≡ Steps → Reaches S.world t W → AfterSilence (Reaches S.world t) (silent_step run W t)
  reaches-step t W steps so =
      let sound = sound-alike run S.world W (inside S) knows.sound so.alike in
      reaches-then t W (silent_step run W t) so (alike-step run W t sound.whole.returns so.alike.codes sound.made sound.orderly steps) (quiet-step run t W)

  -- a thread outside all callbacks has made silent steps
  stays-reached : (t : ℕ) (W : World) → inside S t ≡ None → Reaches S.world t W → Stays run S.world W (inside S) (inside S) past
  stays-reached t W outside so =
      record {
        knows = knows;
        unbroken = unbroken;
        alike = so.alike;
        taken = λ u event is. so.taken u (λ same. none-some event (sym outside ∙ ap (inside S) (sym same) ∙ is));
        same = λ u. refl;
        sound = sound-alike run S.world W (inside S) knows.sound so.alike;
      }
    where
      none-some : (event : Event) → None ≡ Some event → ⊥
      none-some event is = cc

  went : (t : ℕ) (next : State) (e : Event) → IsMadeState run next → IsOrderly next → IsThread S.world t → inside S t ≡ None →
      next.pending ≡ slice_set S.pending t (Some (called e)) →
      GoFrom run (Reaches S.world t) t e next.world → Happened run S next past t e
  went t next e made orderly there outside pending from =
      let W = from.before in
      let whole = knows.sound.whole in
      let within : t < length S.pending =
      omega (arith, thread-below S.world t there, knows.sound.threads, made.places, ap length pending, length-set S.pending t (Some (called e))) in
      record {
        before = W;
        stays = stays-reached t W outside from.holds;
        go = from.go;
        goes = λ now.
            let comes-to = comes run W next.world t e whole.returns now.codes now.sound.made now.sound.orderly from.go in
            record {
              knows = now;
              unbroken = unbroken;
              outside = outside;
              comes = comes-to;
              touches = touches run W next.world t e whole.returns now.codes now.sound.made now.sound.orderly from.go comes-to;
              enters = entered-at S next t (Some (called e)) (inr within) pending;
              sound = sound-state run next whole made orderly;
            };
      }

  -- no event has occurred
  stayed : (t : ℕ) (next : State) → IsMadeState run next → IsOrderly next → inside S t ≡ None → next.pending ≡ S.pending → Reaches S.world t next.world →
      Stays run S.world next.world (inside S) (inside next) past
  stayed t next made orderly outside pending so =
      let stays = stays-reached t next.world outside so in
      record {
        knows = knows;
        unbroken = unbroken;
        alike = so.alike;
        taken = stays.taken;
        same = λ u. ap (option_map event_in) (ap (λ (places : List (Option Callback)). slice_index_or places u None) pending);
        sound = sound-state run next knows.sound.whole made orderly;
      }

  turn-led : (t : ℕ) (next : State) (came : Outcome) → IsMadeState run next → IsOrderly next → IsThread S.world t → inside S t ≡ None → Leaves S t next came →
      Turned run (Reaches S.world t) t next.world came → Led run S next past t came
  turn-led t next (outcome.Happens e) made orderly there outside leaves from = went t next e made orderly there outside leaves.2 from
  turn-led t next outcome.Idle made orderly there outside leaves so = stayed t next made orderly outside leaves.2 so
  turn-led t next outcome.Quiet made orderly there outside leaves so = stayed t next made orderly outside leaves.2 so
  turn-led t next (outcome.Halts halt) made orderly there outside leaves so = stayed t next made orderly outside leaves.2 so

  pub turn-leads : (t : ℕ) → IsMadeState run (turn run S t).state → IsOrderly (turn run S t).state → enabled S t ≡ true →
      Led run S (turn run S t).state past t (turn run S t).outcome
  turn-leads t made orderly goes =
      let next = (turn run S t).state in
      let outside : inside S t ≡ None = ap (option_map event_in) (turn-goes S t goes).outside in
      let first : Reaches S.world t S.world = record { alike = alike-same S.world knows.codes; taken = λ u other. refl } in
      turn-led t next (turn run S t).outcome made orderly (enabled-thread S t goes) outside (leaves-turn run S t)
      (of-turn run t (Reaches S.world t) (reaches-past t) (reaches-step t) S first)

  -- a callback has returned
  returned : (t : ℕ) (callback : Option Callback) (one : Callback) → callback ≡ Some one → pending_at S t ≡ callback → IsMadeState run (back_from S t callback)
      → IsOrderly (back_from S t callback) →
      ComesBack run S.world (back_from S t callback).world (inside S) (inside (back_from S t callback)) past t one.event
  returned t None one is at made orderly = cc
  returned t (Some callback) one is at made orderly =
      let e = callback.event in
      let next = back_from S t (Some callback) in
      let within : inside S t ≡ Some e = ap (option_map event_in) at in
      let sound = knows.sound.events t e within in
      let same : callback ≡ one = cc in
      let back : ComesBack run S.world next.world (inside S) (inside next) past t e = record {
        knows = knows;
        unbroken = unbroken;
        within = within;
        returns = returns S.world t e knows.sound.made knows.sound.orderly sound.occurred sound.orderly;
        enters = entered-at S next t None (inl refl) refl;
        sound = sound-state run next knows.sound.whole made orderly;
      } in
      subst (λ (x : Callback). ComesBack run S.world next.world (inside S) (inside next) past t x.event) same back

  pub back-leads : (t : ℕ) (callback : Callback) → IsMadeState run (back S t) → IsOrderly (back S t) → pending_at S t ≡ Some callback →
      ComesBack run S.world (back S t).world (inside S) (inside (back S t)) past t callback.event
  back-leads t callback made orderly within = returned t (pending_at S t) callback within refl made orderly

  -- a tool has stored a word
  kept : (t : ℕ) (place : Target) (word : ℕ) (callback : Option Callback) → pending_at S t ≡ callback → IsMadeState run (put_from S t place word callback) →
      IsOrderly (put_from S t place word callback) → Stays run S.world (put_from S t place word callback).world (inside S)
      (inside (put_from S t place word callback)) past
  kept t place word None at made orderly =
      record {
        knows = knows;
        unbroken = unbroken;
        alike = alike-same S.world knows.codes;
        taken = λ u event is. refl;
        same = λ u. refl;
        sound = sound-state run S knows.sound.whole made orderly;
      }
  kept t place word (Some callback) at made orderly =
      let now : Callback = record callback { stores = callback.stores + 1 } in
      record {
        knows = knows;
        unbroken = unbroken;
        alike = alike-stored S.world place word knows.codes;
        taken = λ u event is. taken-stored S.world place word u;
        same = λ u. read-same (option_map event_in) None S.pending t u (Some now) (ap (option_map event_in) (sym at));
        sound = sound-state run (put_from S t place word (Some callback)) knows.sound.whole made orderly;
      }

  pub put-leads : (t : ℕ) (place : Target) (word : ℕ) → IsMadeState run (put S t place word) → IsOrderly (put S t place word) →
      Stays run S.world (put S t place word).world (inside S) (inside (put S t place word)) past
  put-leads t place word made orderly = kept t place word (pending_at S t) refl made orderly
