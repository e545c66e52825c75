-- A turn of a thread: what is so of the world, with the share of work that the thread has taken, up to the event.
use Rattle.std.proofs.Common.{ℕ, ◌≡◌, ◌≤◌, ◌⊎◌, ◌++◌, Bool, Option, Some, None, if◌then◌else◌, List, [], ◌∷◌, length, refl, sym, ap, ◌∙◌, subst, inl, inr, arith}
use Rattle.std.proofs.lemmas.List.{get_or-set_same}
use Rattle.ompt_calls.specs.declared.event.EventRecord.{EventRecord}
use Rattle.c_syntax.specs.language.Tree.{Tree}
use Rattle.c_model.specs.declared.question.Ask.{Ask}
use Rattle.c_model.specs.declared.question.Ask.TheVariants as ask
use Rattle.c_model.specs.Step.{silent}
use Rattle.c_model.specs.Task.{Outcome}
use Rattle.c_model.specs.Task.Outcome.{Asks, Ends, Limits, Occurs, StepsTo, Traps}
use Rattle.team_parts.specs.declared.meeting.TheConstants.{TEAM_LIMIT}
use Rattle.omp_model.specs.declared.event.Arrival.TheVariants.{RuntimeEvent, Steps}
use Rattle.omp_model.specs.declared.event.Event.TheVariants.{Dispatch}
use Rattle.omp_model.specs.declared.event.Share.{Share}
use Rattle.omp_model.specs.declared.event.Share.TheVariants.{Chunk, Section}
use Rattle.omp_model.proofs.Arrivals.{IsFree, IsInTask}
use Rattle.omp_model.specs.Changes.{with_masked_skipped, gone_to}
use Rattle.omp_model.specs.Gates.{arrival, arrival_at, arrival_invited, arrival_with_share, arrival_with_undeferred}
use Rattle.omp_model.specs.MadeWorld.{IsThread}
use Rattle.omp_model.specs.Members.{current, current_region, current_team, moment_of, view_of}
use Rattle.omp_model.specs.Silent.{answer_to, answered, share_taken, silence_of, silent_step}
use Rattle.omp_model.specs.State.{Run, State, Thread, World, thread_at, unmade}
use Rattle.omp_model.specs.Turn.{turn, walk}
use Rattle.omp_model.specs.Words.{is_made_thread}
use Rattle.omp_model.proofs.Arriving.{Arrives, arrives}
use Rattle.omp_model.proofs.Rewrites.{thread-below}
use Rattle.omp_model.proofs.Turning.{AfterSilence, of-walk}
use Rattle.nested_runs.proofs.Recorded.{inside}
use Rattle.nested_runs.proofs.Touching.{Alike}
use Rattle.nested_runs.proofs.AlikeSteps.{alike-same, alike-step}
use Rattle.nested_runs.proofs.PooledTasks.{current-made}
use Rattle.nested_runs.proofs.Turned.{Reaches, reaches-past, reaches-step, sound-alike}
use Rattle.guard_laws.proofs.DealtRuns.{IsAsked, IsMet, asked-reached}
use Rattle.work_laws.specs.Told.{is_newest}
use Rattle.work_laws.proofs.Shares.{Tellings, Tells, TellsAt, tells-chunked, tells-locked, tells-past, tells-sectioned, tells-step, with_share}
use Rattle.work_laws.proofs.Turns.{Ended, ended-turn}

-- a thread that has taken a share tells it next
pub share-arrives : (W : World) (t : ℕ) (share : Share) → IsFree W t → (thread_at W t).taken ≡ Some share → arrival W t ≡ RuntimeEvent (Dispatch share)
unfolding arrival
share-arrives W t share free taken =
    ap (arrival_at W t) free.stage
    ∙ ap (arrival_invited W t) free.invited
    ∙ ap (arrival_with_undeferred W t) free.undeferred
    ∙ ap (arrival_with_share W t) taken

-- the share is that of the same meeting in a world in which the member has met the same
pub share-same : (W after : World) (t : ℕ) → ((q n : ℕ) → is_newest after t q n ≡ is_newest W t q n) → (told : Tellings) (share : Option Share) →
    Tells after (with_share W t share told) → Tells after (with_share after t share told)
share-same W after t same told None tells = tells
share-same W after t same told (Some (Chunk start size)) tells =
    record {
      teams = λ q n.
          subst (λ (b : Bool). TellsAt after q n (if b then record (told q n) { chunks = (told q n).chunks ++ (start, size) ∷ [] } else told q n))
          (sym (same q n)) (tells.teams q n);
      tasks = tells.tasks;
    }
share-same W after t same told (Some (Section codeptr)) tells =
    record {
      teams = λ q n.
          subst (λ (b : Bool). TellsAt after q n (if b then record (told q n) { sections = (told q n).sections ++ codeptr ∷ [] } else told q n))
          (sym (same q n)) (tells.teams q n);
      tasks = tells.tasks;
    }

module _ (run : Run) (S : State) (met : IsMet run S) (t : ℕ) (told : Tellings) where
  pub record On (W : World) : Type 0 where
    pub reached : Reaches S.world t W
    pub free : ((thread_at W t).taken ≡ None) ⊎ IsFree W t
    pub tells : Tells W (with_share W t (thread_at W t).taken told)

  abbrev past-events : List EventRecord
  past-events = met.known.past

  pub on-past : (W : World) → On W → On (with_masked_skipped W t)
  on-past W on =
      let asked = asked-reached run S met t W on.reached in
      record {
        reached = reaches-past run S met.known.past met.known.stands.knows met.known.stands.unbroken t W on.reached;
        free = elim on.free [
          | inl none ↦ inl none
          | inr free ↦ inr (record { stage = free.stage; invited = free.invited; undeferred = free.undeferred })
        ];
        tells = share-same W (with_masked_skipped W t) t (λ q n. refl) told (thread_at W t).taken
            (tells-past W t (with_share W t (thread_at W t).taken told) on.tells asked);
      }

  module _ (W : World) (on : On W) (steps : arrival W t ≡ Steps) where
    at : IsInTask W t
    at = subst (Arrives W t) steps (arrives W t)

    asked : IsAsked W
    asked = asked-reached run S met t W on.reached

    pub now-tells : Tells W told
    now-tells = subst (λ (share : Option Share). Tells W (with_share W t share told)) at.quiet.taken on.tells

    few : length (current_team W t).members ≤ TEAM_LIMIT
    few =
        let sound = sound-alike run S.world W (inside S) met.known.stands.knows.sound on.reached.alike in
        let region = asked.made.regions (current_region W t) (current-made W t asked.made at.some).within.made in
        omega (arith, region.team, region.fits, sound.threads, sound.whole.few)

    below : IsThread W t
    below = ap is_made_thread at.quiet.free.stage

    -- no share, or the one that was taken
    plainly : (after : World) → Reaches S.world t after → (thread_at after t).taken ≡ None → Tells after told → On after
    plainly after reached none tells =
        record {
          reached = reached;
          free = inl none;
          tells = subst (λ (share : Option Share). Tells after (with_share after t share told)) (sym none) tells;
        }

    asking : (what : Ask) (tree : Tree) → Reaches S.world t (answered W t what tree) →
        let share = share_taken tree (answer_to W t what) in
        Tells (answered W t what tree) (with_share (answered W t what tree) t share told) → On (answered W t what tree)
    asking what tree reached tells =
        let after = answered W t what tree in
        let share = share_taken tree (answer_to W t what) in
        let thread : Thread = record (thread_at W t) { taken = share } in
        let own : thread_at after t ≡ thread = get_or-set_same W.threads t thread unmade (thread-below W t below) in
        record {
          reached = reached;
          free = inr (record {
            stage = ap (λ (x : Thread). x.stage) own ∙ at.quiet.free.stage;
            invited = ap (λ (x : Thread). x.invited) own ∙ at.quiet.free.invited;
            undeferred = ap (λ (x : Thread). x.undeferred) own ∙ at.quiet.free.undeferred;
          });
          tells = subst (λ (share : Option Share). Tells after (with_share after t share told)) (sym (ap (λ (x : Thread). x.taken) own)) tells;
        }

    on-by : (outcome : Outcome) → silent run.program (view_of W t) (moment_of W t) ≡ outcome →
        AfterSilence (Reaches S.world t) (silence_of W t outcome) →
        AfterSilence (Alike W) (silence_of W t outcome) → AfterSilence On (silence_of W t outcome)
    on-by (StepsTo next) is reached alike =
        plainly (gone_to W (current W t) next) reached at.quiet.taken
        (tells-step W t told now-tells run met.known.stands.knows.sound.whole.returns asked at next alike.world is)
    on-by (Asks ask.Chunk tree) is reached alike =
        asking ask.Chunk tree reached (tells-chunked W t told now-tells run met.known.stands.knows.sound.whole.returns asked at tree is alike.world)
    on-by (Asks ask.Section tree) is reached alike =
        asking ask.Section tree reached
        (tells-sectioned W t told now-tells run met.known.stands.knows.sound.whole.returns asked at tree is few alike.world)
    on-by (Asks (ask.LockFree wait_id) tree) is reached alike =
        asking (ask.LockFree wait_id) tree reached
        (tells-locked W t told now-tells run met.known.stands.knows.sound.whole.returns asked at wait_id tree alike.world)
    on-by (Occurs what tree) is reached alike = on
    on-by (Ends number) is reached alike = on
    on-by (Traps trap) is reached alike = tt
    on-by (Limits limit) is reached alike = tt

    pub on-step : AfterSilence On (silent_step run W t)
    unfolding silent_step
    on-step =
        let sound = sound-alike run S.world W (inside S) met.known.stands.knows.sound on.reached.alike in
        on-by (silent run.program (view_of W t) (moment_of W t)) refl
        (reaches-step run S met.known.past met.known.stands.knows met.known.stands.unbroken t W steps on.reached)
        (alike-step run W t sound.whole.returns on.reached.alike.codes sound.made sound.orderly steps)

  -- all is told
  abbrev pub IsTold : World → Type 0
  IsTold W = (thread_at W t).taken ≡ None

  -- .. with the world, if no event has occurred
  pub record IsOver (W : World) : Type 0 where
    pub on : On W
    pub none : (thread_at W t).taken ≡ None

  none-quiet : (W : World) → On W → ((share : Share) → arrival W t ≡ RuntimeEvent (Dispatch share) → ⊥) → (thread_at W t).taken ≡ None
  none-quiet W on apart = elim on.free [ inl none ↦ none | inr free ↦ none-of free (thread_at W t).taken refl ]
    where
      none-of : IsFree W t → (share : Option Share) → (thread_at W t).taken ≡ share → (thread_at W t).taken ≡ None
      none-of free None is = is
      none-of free (Some share) is = absurd (apart share (share-arrives W t share free is))

  pub starting : (thread_at S.world t).taken ≡ None → Tells S.world told → On S.world
  starting none tells =
      record {
        reached = record { alike = alike-same S.world met.known.stands.knows.codes; taken = λ u other. refl };
        free = inl none;
        tells = subst (λ (share : Option Share). Tells S.world (with_share S.world t share told)) (sym none) tells;
      }

  -- silent steps, from a world in which all is told
  pub walk-on : (thread_at S.world t).taken ≡ None → Tells S.world told → (steps : ℕ) → On (walk run steps 0 S t).state.world
  walk-on none tells steps = of-walk run t On on-past (λ W steps on. on-step W on steps) steps 0 S (starting none tells)

  -- a turn
  pub turn-tells : (thread_at S.world t).taken ≡ None → Tells S.world told →
      Ended run On IsOver t (turn run S t).state.world (turn run S t).outcome
  turn-tells none tells =
      let start = starting none tells in
      ended-turn run t On IsOver on-past (λ W over. record { on = on-past W over.on; none = over.none })
      (λ W steps on. on-step W on steps)
      (λ W on apart. record { on = on; none = none-quiet W on apart }) S start (record { on = start; none = none })
