-- What has been told of a thread says how far it has come (rules 2 and 3).
use Rattle.std.proofs.Common.{ℕ, ◌≡◌, ◌≤◌, ◌+◌, ◌==◌, ◌&&◌, ◌||◌, not, Bool, true, false, if◌then◌else◌, List, [], ◌∷◌, refl, sym, ap, ap₂, ◌∙◌, subst, inl, inr, true≢false, arith}
use Rattle.std.specs.Prelude.{Option, Some, None}
use Rattle.std.proofs.lemmas.Bool.{cases_eq, eq-eqb, ne_eqb}
use Rattle.std.proofs.lemmas.List.Sums.{sum_by-cons}
use Rattle.std.proofs.Math.Bool.{or-false}
use Rattle.c_model.specs.declared.point.SyncStage.TheVariants as stage
use Rattle.ompt_calls.specs.declared.event.EventRecord.{EventRecord}
use Rattle.omp_model.specs.declared.parts.ThreadStage.{ThreadStage}
use Rattle.omp_model.specs.declared.parts.ThreadStage.TheVariants as thread_stage
use Rattle.omp_model.specs.declared.event.Event.{Event}
use Rattle.omp_model.specs.declared.event.Event.TheVariants.{Dispatch, InitialTaskBegin, InitialTaskEnd, MemberBegin, MemberEnd, ParallelBegin, Sync, TaskBegin, TaskCreate, TaskEnd, ThreadBegin, ThreadEnd}
use Rattle.omp_model.specs.declared.event.Share.TheVariants.{Chunk, Section}
use Rattle.omp_model.specs.State.{Run, Thread, World, first, first_world, thread_at}
use Rattle.omp_model.specs.Changes.{stage_once_made, with_invitation}
use Rattle.omp_model.specs.Calls.{call_of, thread_kind}
use Rattle.omp_model.proofs.Touching.{is_summoned, thread_after, thread_back}
use Rattle.nested_runs.proofs.Coming.{Comes}
use Rattle.nested_runs.proofs.Recorded.{Inside, inside, recorded}
use Rattle.nested_runs.proofs.Knows.{ComesBack, Goes, IsWholeRun, Stays}
use Rattle.trace_check.specs.Before.{events_of, has_ended, is_end, is_of}
use Rattle.trace_check.specs.Rules.{keeps_kind, keeps_threads}
use Rattle.nested_runs.proofs.Known.{TellsThread, TellsThreads, is_begun, is_ending, is_over}
use Rattle.nested_runs.proofs.CallReadings.{ended-other, ended-own, events-other, events-own}
use Rattle.nested_runs.proofs.FirstWorlds.{first-inside, first-threads}

-- ---- how far a thread has come

-- a thread has begun and hasn't ended where it comes to an event, but for its first one
abbrev pub stage_before : Event → ThreadStage
stage_before ThreadBegin = thread_stage.Made
stage_before other = thread_stage.Begun

pub comes-stage : (W : World) (t : ℕ) (e : Event) → Comes W t e → (thread_at W t).stage ≡ stage_before e
comes-stage W t ThreadBegin comes = comes
comes-stage W t ThreadEnd comes = comes.quiet.free.stage
comes-stage W t InitialTaskBegin comes = comes.quiet.free.stage
comes-stage W t InitialTaskEnd comes = comes.within.quiet.free.stage
comes-stage W t (MemberBegin r k) comes = comes.stage
comes-stage W t (MemberEnd r k) comes = comes.within.quiet.free.stage
comes-stage W t (TaskBegin prior task) comes = comes.stage
comes-stage W t (TaskEnd task) comes = comes.within.quiet.free.stage
comes-stage W t (Dispatch share) comes = comes.free.stage
comes-stage W t other comes = comes.0.within.quiet.free.stage

-- behind it the thread has begun too
pub goes-stage : (W : World) (t : ℕ) (e : Event) → Comes W t e → (thread_after e (thread_at W t)).stage ≡ thread_stage.Begun
goes-stage W t ThreadBegin comes = refl
goes-stage W t other comes = comes-stage W t other comes

-- it hasn't ended before it
unended : (now : ThreadStage) (e : Event) → now ≡ stage_before e → is_over now ≡ false
unended now ThreadBegin is = ap is_over is
unended now other is = ap is_over is

-- two stages of which as much is to be told
pub record SameStage (now before : ThreadStage) : Type 0 where
  pub begun : is_begun now ≡ is_begun before
  pub over : is_over now ≡ is_over before

pub same-stage : (now before : ThreadStage) → now ≡ before → SameStage now before
same-stage now before is = record { begun = ap is_begun is; over = ap is_over is }

same-made : (before : ThreadStage) → SameStage (stage_once_made before) before
same-made thread_stage.Unmade = record { begun = refl; over = refl }
same-made other = record { begun = refl; over = refl }

either-stage : (which : Bool) (one other : Thread) → SameStage one.stage other.stage → SameStage (if which then one else other).stage other.stage
either-stage true one other same = same
either-stage false one other same = record { begun = refl; over = refl }

-- a Back leaves how far a thread has come, but for that of its end
pub back-stage : (W : World) (t : ℕ) (e : Event) (u : ℕ) → (is_ending (Some e) ≡ true → u ≡ t → ⊥) → SameStage (thread_back W t e u).stage (thread_at W u).stage
back-stage W t ThreadEnd u other = same-stage _ _ (rw (ne_eqb u t (other refl)) refl)
back-stage W t (ParallelBegin r requested codeptr) u other =
    either-stage (is_summoned W t r u) (with_invitation r (thread_at W u)) (thread_at W u) (same-made (thread_at W u).stage)
back-stage W t (TaskCreate task true codeptr) u other =
    either-stage (u == t) (record (thread_at W u) { undeferred = task }) (thread_at W u) (record { begun = refl; over = refl })
back-stage W t (TaskCreate task false codeptr) u other = record { begun = refl; over = refl }
back-stage W t e u other = record { begun = refl; over = refl }

back-ended : (W : World) (t : ℕ) → (thread_back W t ThreadEnd t).stage ≡ thread_stage.Ended
back-ended W t = rw (eq-eqb t t refl) refl

-- ---- what has been told of it

-- the call of an event is the end of its thread
pub end-is : (W : World) (t : ℕ) (e : Event) → is_end (call_of W t e) ≡ is_ending (Some e)
unfolding call_of
end-is W t ThreadEnd = refl
end-is W t (Sync which stage.RegionBegin codeptr) = refl
end-is W t (Sync which stage.WaitBegin codeptr) = refl
end-is W t (Sync which stage.WaitEnd codeptr) = refl
end-is W t (Sync which stage.RegionEnd codeptr) = refl
end-is W t (Dispatch (Chunk start count)) = refl
end-is W t (Dispatch (Section codeptr)) = refl
end-is W t other = refl

-- a thread that has ended has had an event
ended-some : (t : ℕ) (past : List EventRecord) → has_ended t past ≡ true → 1 ≤ events_of t past
ended-some t [] ended = absurd (true≢false (sym ended))
ended-some t (event ∷ past) ended = ended-there (is_of t event) (is_end event.call) t event past refl ended (ended-some t past)
  where
    ended-there : (of_thread ends : Bool) (t : ℕ) (event : EventRecord) (past : List EventRecord) → is_of t event ≡ of_thread →
        (of_thread && ends || has_ended t past) ≡ true →
        (has_ended t past ≡ true → 1 ≤ events_of t past) → 1 ≤ events_of t (event ∷ past)
    ended-there true ends t event past of_thread ended before =
        rw (sum_by-cons (λ (one : EventRecord). if is_of t one then 1 else 0) event past, of_thread) (omega arith)
    ended-there false ends t event past of_thread ended before =
        let some = before ended in rw (sum_by-cons (λ (one : EventRecord). if is_of t one then 1 else 0) event past, of_thread) (omega (arith, some))

-- what has been told of a thread is so as long as it has come no further
told-same : (before now : ThreadStage) (event inside : Option Event) (t : ℕ) (past : List EventRecord) → SameStage now before → inside ≡ event →
    TellsThread before event t past → TellsThread now inside t past
told-same before now event inside t past same within known =
    record {
      none = known.none ∙ ap not (sym same.begun);
      ended = known.ended ∙ ap₂ (λ over i. over || is_ending i) (sym same.over) (sym within);
    }

-- ---- the part

-- at the start
untold : (now : ThreadStage) (event : Option Event) (t : ℕ) → is_begun now ≡ false → is_over now ≡ false → event ≡ None → TellsThread now event t []
untold now event t begun over none = record { none = ap not (sym begun); ended = ap₂ (λ a i. a || is_ending i) (sym over) (sym none) }

pub threads-first : (run : Run) → IsWholeRun run → TellsThreads (first_world run) (inside (first run)) []
threads-first run whole t =
    let none = first-inside run t in
    first-threads run (λ thread. TellsThread thread.stage (inside (first run) t) t []) (untold _ _ t refl refl none) (untold _ _ t refl refl none) t

-- after what is no event
pub threads-stays : (run : Run) (W after : World) (I J : Inside) (past : List EventRecord) → Stays run W after I J past → TellsThreads after J past
threads-stays run W after I J past stays t = told-same _ _ _ _ t past (same-stage _ _ (stays.alike.world.thread t).stage) (stays.same t) (stays.knows.threads t)

-- after the Go of an event
module _ (run : Run) (W after : World) (I J : Inside) (past : List EventRecord) (t position : ℕ) (e : Event) where
  -- no end had been told
  unended-before : Goes run W after I J past t e → has_ended t past ≡ false
  unended-before goes =
      (goes.knows.threads t).ended ∙ ap₂ ◌||◌ (unended _ e (comes-stage W t e goes.comes)) (ap is_ending goes.outside)

  own-after : Goes run W after I J past t e → TellsThread (thread_at after t).stage (J t) t (recorded position t after e ∷ past)
  own-after goes =
      let begun : (thread_at after t).stage ≡ thread_stage.Begun = ap (λ (x : Thread). x.stage) goes.touches.world.own ∙ goes-stage W t e goes.comes in
      let told : TellsThread thread_stage.Begun (Some e) t (recorded position t after e ∷ past) = record {
        none = ap (λ n. n == 0) (events-own position t after e past) ∙ ne_eqb _ 0 (λ is. omega (arith, is));
        ended = ended-own position t after e past ∙ ap₂ ◌||◌ (end-is after t e) (unended-before goes) ∙ or-false _;
      } in
      told-same _ _ _ _ t _ (same-stage _ _ begun) goes.enters.own told

  other-after : (u : ℕ) → (u ≡ t → ⊥) → Goes run W after I J past t e → TellsThread (thread_at after u).stage (J u) u (recorded position t after e ∷ past)
  other-after u other goes =
      let known = goes.knows.threads u in
      let told : TellsThread (thread_at W u).stage (I u) u (recorded position t after e ∷ past) = record {
        none = ap (λ n. n == 0) (events-other position t after e past u other) ∙ known.none;
        ended = ended-other position t after e past u other ∙ known.ended;
      } in
      told-same _ _ _ _ u _ (same-stage _ _ (ap (λ (x : Thread). x.stage) (goes.touches.world.others u other))) (goes.enters.others u other) told

  pub threads-go : Goes run W after I J past t e → TellsThreads after J (recorded position t after e ∷ past)
  threads-go goes u =
      elim (cases_eq u t) [
        | inl is ↦ subst (λ v. TellsThread (thread_at after v).stage (J v) v (recorded position t after e ∷ past)) (sym is) (own-after goes)
        | inr other ↦ other-after u other goes
      ]

-- after its Back
or-true : (b : Bool) → (b || true) ≡ true
or-true true = refl
or-true false = refl

returned-same : (W : World) (t : ℕ) (e : Event) (past : List EventRecord) → is_ending (Some e) ≡ false → TellsThread (thread_at W t).stage (Some e) t past →
    TellsThread (thread_back W t e t).stage None t past
returned-same W t e past going known =
    let same = back-stage W t e t (λ ending. absurd (true≢false (sym ending ∙ going))) in
    record { none = known.none ∙ ap not (sym same.begun); ended = known.ended ∙ ap₂ ◌||◌ (sym same.over) going }

returned : (W : World) (t : ℕ) (e : Event) (past : List EventRecord) → TellsThread (thread_at W t).stage (Some e) t past →
    TellsThread (thread_back W t e t).stage None t past
returned W t ThreadEnd past known =
    let ended : has_ended t past ≡ true = known.ended ∙ or-true _ in
    let some = ended-some t past ended in
    let told : TellsThread thread_stage.Ended None t past = record { none = ne_eqb _ 0 (λ is. omega (arith, is, some)); ended = ended } in
    subst (λ now. TellsThread now None t past) (sym (back-ended W t)) told
returned W t (ParallelBegin r requested codeptr) past known = returned-same W t (ParallelBegin r requested codeptr) past refl known
returned W t (TaskCreate task undeferred codeptr) past known = returned-same W t (TaskCreate task undeferred codeptr) past refl known
returned W t e past known = returned-same W t e past refl known

pub threads-back : (run : Run) (W after : World) (I J : Inside) (past : List EventRecord) (t : ℕ) (e : Event) → ComesBack run W after I J past t e →
    TellsThreads after J past
threads-back run W after I J past t e back u =
    let stage : (thread_at after u).stage ≡ (thread_back W t e u).stage = ap (λ (x : Thread). x.stage) (back.returns.thread u) in
    let other : (u ≡ t → ⊥) → TellsThread (thread_at after u).stage (J u) u past = λ apart.
    let same = back-stage W t e u (λ ending. apart) in
    told-same _ _ _ _ u past (record { begun = ap is_begun stage ∙ same.begun; over = ap is_over stage ∙ same.over })
    (back.enters.others u apart) (back.knows.threads u) in
    elim (cases_eq u t) [ inl is ↦ subst (λ v. TellsThread (thread_at after v).stage (J v) v past) (sym is) own | inr apart ↦ other apart ]
  where
    own : TellsThread (thread_at after t).stage (J t) t past
    own =
        let known = subst (λ i. TellsThread (thread_at W t).stage i t past) back.within (back.knows.threads t) in
        told-same _ _ _ _ t past (same-stage _ _ (ap (λ (x : Thread). x.stage) (back.returns.thread t))) back.enters.own (returned W t e past known)

-- rule 2
alive : (none ended : Bool) → none ≡ false → ended ≡ false → (not none && not ended) ≡ true
alive none ended some going = ap₂ (λ a b. not a && not b) some going

keeps-thread : (W after : World) (t position : ℕ) (e : Event) (past : List EventRecord) → Comes W t e →
    (events_of t past == 0) ≡ not (is_begun (thread_at W t).stage) →
    has_ended t past ≡ false → keeps_threads past (recorded position t after e) ≡ true
unfolding call_of
keeps-thread W after t position ThreadBegin past comes none going = none ∙ ap (λ now. not (is_begun now)) comes
keeps-thread W after t position (Sync which stage.RegionBegin codeptr) past comes none going =
    alive _ _ (none ∙ ap (λ now. not (is_begun now)) (comes-stage W t (Sync which stage.RegionBegin codeptr) comes)) going
keeps-thread W after t position (Sync which stage.WaitBegin codeptr) past comes none going =
    alive _ _ (none ∙ ap (λ now. not (is_begun now)) (comes-stage W t (Sync which stage.WaitBegin codeptr) comes)) going
keeps-thread W after t position (Sync which stage.WaitEnd codeptr) past comes none going =
    alive _ _ (none ∙ ap (λ now. not (is_begun now)) (comes-stage W t (Sync which stage.WaitEnd codeptr) comes)) going
keeps-thread W after t position (Sync which stage.RegionEnd codeptr) past comes none going =
    alive _ _ (none ∙ ap (λ now. not (is_begun now)) (comes-stage W t (Sync which stage.RegionEnd codeptr) comes)) going
keeps-thread W after t position (Dispatch (Chunk start count)) past comes none going = alive _ _ (none ∙ ap (λ now. not (is_begun now)) comes.free.stage) going
keeps-thread W after t position (Dispatch (Section codeptr)) past comes none going = alive _ _ (none ∙ ap (λ now. not (is_begun now)) comes.free.stage) going
keeps-thread W after t position e past comes none going = alive _ _ (none ∙ ap (λ now. not (is_begun now)) (comes-stage W t e comes)) going

pub keeps-threads : (run : Run) (W after : World) (I J : Inside) (past : List EventRecord) (t position : ℕ) (e : Event) → Goes run W after I J past t e →
    keeps_threads past (recorded position t after e) ≡ true
keeps-threads run W after I J past t position e goes =
    keeps-thread W after t position e past goes.comes (goes.knows.threads t).none (unended-before run W after I J past t position e goes)

-- rule 3
kept-kind : (after : World) (t : ℕ) (e : Event) (past : List EventRecord) → keeps_kind past t (call_of after t e) ≡ true
unfolding call_of
kept-kind after t ThreadBegin past = ap₂ ◌&&◌ (eq-eqb (t + 1) (t + 1) refl) (eq-eqb (thread_kind t) (thread_kind t) refl)
kept-kind after t (Sync which stage.RegionBegin codeptr) past = refl
kept-kind after t (Sync which stage.WaitBegin codeptr) past = refl
kept-kind after t (Sync which stage.WaitEnd codeptr) past = refl
kept-kind after t (Sync which stage.RegionEnd codeptr) past = refl
kept-kind after t (Dispatch (Chunk start count)) past = refl
kept-kind after t (Dispatch (Section codeptr)) past = refl
kept-kind after t e past = refl

pub keeps-kind : (run : Run) (W after : World) (I J : Inside) (past : List EventRecord) (t position : ℕ) (e : Event) → Goes run W after I J past t e →
    keeps_kind past t (recorded position t after e).call ≡ true
keeps-kind run W after I J past t position e goes = kept-kind after t e past
