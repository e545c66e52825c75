-- The Back of an event: a member has arrived at a barrier where its wait has begun.
use Rattle.team_parts.specs.Meetings.{is_barrier as meets_at_barrier}
use Rattle.nested_runs.proofs.TellBrackets.{unstarted-back}
use Rattle.omp_model.proofs.Touching.{pooled_back, team_back}
use Rattle.nested_runs.proofs.RegionHeads.{member-seated, place-within, plain-kinds, plain-seated, region-made}
use Rattle.omp_model.specs.Gates.{is_barrier}
use Rattle.omp_model.specs.Members.{current, current_index, current_region, current_team, is_explicit_task, member_index, region_of}
use Rattle.team_words.proofs.Waits.{barrier-some}
use Rattle.team_calls.proofs.Lists.{arrived-other, arrived-own}
use Rattle.std.proofs.lemmas.Bool.{and_from, cases_Bool, cases_eq, cond-false, cond-true, eq-eqb, lt-ltb, ne_eqb, true≢false}
use Rattle.team_parts.specs.Team.{TeamView, with_begun}
use Rattle.c_model.specs.declared.point.SyncKind.{SyncKind}
use Rattle.nested_runs.proofs.Standing.{Stand, stand_among, stand_at}
use Rattle.guard_laws.proofs.WorksMet.{SamePlace, index_of, place-back}
use Rattle.omp_model.specs.State.{Run, Thread, World, pooled_at, region_at, task_at}
use Rattle.task_pool.specs.declared.task.Task.{Task as PoolTask}
use Rattle.team_words.specs.Team.{Met, Team, is_at_barrier, last_met, met_by}
use Rattle.team_calls.proofs.Places.{MayMeet, at-barrier, of-barrier, place-known, IsWaiting, PlaceOf}
use Rattle.omp_model.specs.MadeWorld.{IsTask}
use Rattle.nested_runs.proofs.Recorded.{Inside}
use Rattle.omp_model.specs.declared.limits.TheConstants.{IMPLICIT_REGION, INITIAL_TASK}
use Rattle.team_calls.proofs.Follows.{Follows, words-size, words_of}
use Rattle.ompt_calls.specs.declared.event.EventRecord.{EventRecord}
use Rattle.omp_model.specs.Conditions.{EventOrderly, IsUnderWay, has_started}
use Rattle.omp_model.specs.declared.event.Event.{Event}
use Rattle.nested_runs.proofs.Knows.{ComesBack, Knows}
use Rattle.c_model.specs.Task.{Task as Code}
use Rattle.nested_runs.proofs.Known.{AtBarrier, task_of_member, IsWaiting as IsWaitingAt}
use Rattle.team_words.specs.Calls.TeamCall.{Arrive}
use Rattle.team_calls.proofs.Called.{AllCalls, Called, OneCall, arriving-same, called-same, follows-one, is_arrival, mets-placed, mets_of, with-there, with_call, words-here, words-there, arriving}
use Rattle.std.proofs.Common.{ℕ, ◌≡◌, ◌≢◌, ◌<◌, ◌≤◌, ◌==◌, ◌&&◌, ◌++◌, Bool, true, false, if◌then◌else◌, List, [], ◌∷◌, length, refl, sym, ap, ap₂, ◌∙◌, subst, subst₂, inl, inr, arith, append-nil}
use Rattle.std.specs.Prelude.{Option, Some}
use Rattle.c_model.specs.declared.point.SyncStage.TheVariants as stage
use Rattle.omp_model.specs.declared.event.Event.TheVariants.{Sync, TaskCreate, TaskEnd}
use Rattle.team_words.specs.Calls.{is_member as is_member_of, TeamCall, after_call}
use Rattle.nested_runs.proofs.PooledTasks.{back-stack, current-made, current-same, current-under-way}
use Rattle.team_calls.specs.Called.{calls_of_back, if_in}

-- what has started then had started
started-either : (W : World) (t : ℕ) (e : Event) (k : ℕ) → EventOrderly W t e → has_started (pooled_back W e k).condition ≡ true →
    has_started (pooled_at W k).condition ≡ true
started-either W t (TaskCreate task false codeptr) k orderly started =
    elim (cases_eq k task) [
      | inl is ↦ absurd (true≢false (sym started ∙ rw (is, eq-eqb task task refl) refl))
      | inr other ↦ sym (rw (ne_eqb k task other) refl) ∙ started
    ]
started-either W t (TaskCreate task true codeptr) k orderly started = started
started-either W t (TaskEnd task) k orderly started =
    elim (cases_eq k task) [
      | inl is ↦ ap (λ (j : ℕ). has_started (pooled_at W j).condition) is ∙ ap has_started orderly.task.started
      | inr other ↦ sym (rw (ne_eqb k task other) refl) ∙ started
    ]
started-either W t e k orderly started = started

and-none : (one other : Bool) → other ≡ false → (one && other) ≡ false
and-none true other is = is
and-none false other is = refl

-- two members of a team have two numbers
seat-of : (run : Run) (W : World) (I : Inside) (past : List EventRecord) (t : ℕ) → Knows run W I past → (k : ℕ) → IsTask W k → is_explicit_task W k ≡ false →
    1 ≤ current W t → is_explicit_task W (current W t) ≡ false → region_of W k ≡ current_region W t → index_of W k ≡ current_index W t → k ≡ current W t
seat-of run W I past t knows k made plain some own region index =
    elim (plain-kinds (pooled_at W k).kind plain) [
      | inl initial ↦
          let is : k ≡ INITIAL_TASK = knows.sound.orderly.alone k initial in
          elim (plain-kinds (pooled_at W (current W t)).kind own) [
            | inl other ↦ is ∙ sym (knows.sound.orderly.alone (current W t) other)
            | inr implicit ↦
                let seated = member-seated run W I past t knows some implicit in
                absurd (omega (arith, seated.0, region, ap (region_of W) is, knows.seats.initial))
          ]
      | inr implicit ↦
          let seated = knows.members.seated k made implicit in
          sym seated.member ∙ ap₂ (task_of_member W) region index
          ∙ plain-seated run W I past t knows some own (subst (λ (q : ℕ). 2 ≤ q) region seated.region)
    ]

module _ (run : Run) (W after : World) (I J : Inside) (past : List EventRecord) (t : ℕ) (e : Event) (back : ComesBack run W after I J past t e)
    (calls : AllCalls) (called : Called W I calls) where
  abbrev place : (k : ℕ) → SamePlace W after k
  place = place-back W after t e back.returns

  same-current : (u : ℕ) → current after u ≡ current W u
  same-current u = current-same W after u (ap (λ (x : Thread). x.stack) (back.returns.thread u) ∙ back-stack W t e u)

  same-stand : (k : ℕ) → stand_at after k ≡ stand_at W k
  same-stand k = ap (λ (code : Code). stand_among code.todo) (back.returns.code k)

  there : (k : ℕ) → IsTask after k → IsTask W k
  there k made = record { some = made.some; below = omega (arith, made.below, back.returns.tasks) }

  was-started : (k : ℕ) → has_started (pooled_at after k).condition ≡ true → has_started (pooled_at W k).condition ≡ true
  was-started k started =
      started-either W t e k (back.knows.sound.events t e back.within).orderly (sym (ap (λ (x : PoolTask). has_started x.condition) (back.returns.pooled k)) ∙ started)

  still-early : has_started (pooled_at after INITIAL_TASK).condition ≡ false → has_started (pooled_at W INITIAL_TASK).condition ≡ false
  still-early not = unstarted-back W t e INITIAL_TASK (back.knows.sound.events t e back.within).orderly
      (sym (ap (λ (x : PoolTask). has_started x.condition) (back.returns.pooled INITIAL_TASK)) ∙ not)

  -- a thread that is inside no begin of a wait now was inside none, but for this one
  known : (k : ℕ) → ((task_at W k).thread ≡ t → is_arrival (Some e) && current W t == k ≡ false) → arriving after J k ≡ false → arriving W I k ≡ false
  known k own none =
      elim (cases_eq (task_at W k).thread t) [
        | inl is ↦
            ap (λ (u : ℕ). is_arrival (I u) && current W u == k) is
            ∙ ap (λ (event : Option Event). is_arrival event && current W t == k) back.within ∙ own is
        | inr other ↦
            sym (arriving-same W after k (place k) I J (back.enters.others (task_at W k).thread other) (same-current (task_at W k).thread)) ∙ none
      ]

  -- the place of a task whose member has met what it had
  stays : (now : AllCalls) (k : ℕ) → IsTask W k → has_started (pooled_at W k).condition ≡ true → is_explicit_task W k ≡ false →
      ((task_at W k).thread ≡ t → is_arrival (Some e) && current W t == k ≡ false) →
      met_by (words_of (region_at after (region_of W k)).team (now (region_of W k))) (index_of W k) ≡ mets_of W calls k →
      PlaceOf (stand_at after k) (arriving after J k) (mets_of after now k)
  stays now k made started plain own same =
      subst₂ (λ (stand : Stand) (mets : List Met). PlaceOf stand (arriving after J k) mets) (sym (same-stand k))
      (sym (mets-placed W after k (place k) now ∙ same))
      (place-known (stand_at W k) (arriving W I k) (arriving after J k) (mets_of W calls k) (known k own) (called.places k made started plain))

  -- no call is made
  back-none : is_arrival (Some e) ≡ false → ((q : ℕ) → (region_at after q).team ≡ (region_at W q).team) → Called after J calls
  back-none none teams =
      record {
        none = λ q beyond. called.none q (omega (arith, beyond, back.returns.regions));
        follows = λ q. subst (λ (team : TeamView). Follows team (calls q)) (sym (teams q)) (called.follows q);
        places = λ k made started plain.
            stays calls k (there k made) (was-started k started) (sym (place k).explicit ∙ plain)
            (λ is. ap (λ (b : Bool). b && current W t == k) none)
            (ap (λ (team : TeamView). met_by (words_of team (calls (region_of W k))) (index_of W k)) (teams (region_of W k)));
        early = λ not. called.early (still-early not);
      }

  abbrev r : ℕ
  r = current_region W t

  abbrev i : ℕ
  i = current_index W t

  abbrev words : Team
  words = words_of (current_team W t) (calls (current_region W t))

  -- a member has arrived
  back-one : (which : SyncKind) (codeptr : ℕ) → e ≡ Sync which stage.WaitBegin codeptr → is_barrier which ≡ true → Called after J (with_call calls r (Arrive i))
  back-one which codeptr is barrier =
      record {
        none = λ q beyond.
            with-there calls r q (Arrive i) (λ is. omega (arith, is, beyond, below, back.returns.regions))
            ∙ called.none q (omega (arith, beyond, back.returns.regions));
        follows = follows-one W after calls r (Arrive i) one called.follows may refl refl;
        places = λ k made started plain-k.
            elim (cases_eq k (current W t)) [
              | inl here ↦ subst (λ (k : ℕ). PlaceOf (stand_at after k) (arriving after J k) (mets_of after now k)) (sym here) own
              | inr other ↦
                  stays now k (there k made) (was-started k started) (sym (place k).explicit ∙ plain-k)
                  (λ thread. and-none (is_arrival (Some e)) (current W t == k) (ne_eqb (current W t) k (λ same. other (sym same))))
                  (others k (there k made) (sym (place k).explicit ∙ plain-k) other)
            ];
        early = λ not.
            let before = still-early not in
            with-there calls r IMPLICIT_REGION (Arrive i) (λ is. not-early before (sym is)) ∙ called.early before;
      }
    where
      now : AllCalls
      now = with_call calls r (Arrive i)

      waiting : IsWaitingAt W t (Some (Sync which stage.WaitBegin codeptr))
      waiting = subst (IsWaitingAt W t) (back.within ∙ ap (λ (e : Event). Some e) is) (back.knows.barriers.waiting t)

      some : 1 ≤ current W t
      some = waiting.0

      plain : is_explicit_task W (current W t) ≡ false
      plain = (subst (λ (stand : Stand). AtBarrier W past (current W t) stand) waiting.1 (back.knows.barriers.at (current W t)) barrier).0

      below : r < length W.regions
      below = (region-made run W I past t back.knows some).below

      way : IsUnderWay W t (current W t)
      way = current-under-way W t back.knows.sound.orderly some

      made-own : IsTask W (current W t)
      made-own = (current-made W t back.knows.sound.made some).made

      begun-own : has_started (pooled_at W (current W t)).condition ≡ true
      begun-own = ap has_started way.started

      index : index_of W (current W t) ≡ i
      index = ap (λ (u : ℕ). member_index W u r) way.thread

      at : is_at_barrier (met_by words i) ≡ true
      at = (at-barrier (is_barrier which) (IsWaiting (arriving W I (current W t)) (met_by words i)) (MayMeet (met_by words i)) barrier
          (subst₂ (λ (stand : Stand) (mets : List Met). PlaceOf stand (arriving W I (current W t)) mets) waiting.1 (ap (met_by words) index)
          (called.places (current W t) made-own begun-own plain))).at

      within : i < length words.members
      within = omega (arith, place-within run W I past t back.knows some, words-size (current_team W t) (calls r) (called.follows r))

      team-is : (q : ℕ) → (region_at after q).team ≡ (if is_barrier which && q == r then with_begun (region_at W q).team i else (region_at W q).team)
      team-is q = back.returns.team q ∙ ap (λ (e : Event). team_back W t e q) is

      one : OneCall W after r (Arrive i)
      one = record {
        here = team-is r ∙ cond-true (is_barrier which && r == r) _ _ (and_from (is_barrier which) (r == r) barrier (eq-eqb r r refl));
        there = λ q other. team-is q ∙ cond-false (is_barrier which && q == r) _ _ (and-none (is_barrier which) (q == r) (ne_eqb q r other));
      }

      may : (is_member_of words i && is_at_barrier (met_by words i)) ≡ true
      may = and_from (is_member_of words i) (is_at_barrier (met_by words i)) (lt-ltb i (length words.members) within) at

      not-early : has_started (pooled_at W INITIAL_TASK).condition ≡ false → r ≢ IMPLICIT_REGION
      not-early not here =
          elim (plain-kinds (pooled_at W (current W t)).kind plain) [
            | inl initial ↦
                true≢false (sym begun-own ∙ ap (λ (j : ℕ). has_started (pooled_at W j).condition) (back.knows.sound.orderly.alone (current W t) initial) ∙ not)
            | inr implicit ↦ let seated = back.knows.members.seated (current W t) made-own implicit in omega (arith, seated.region, here)
          ]

      others : (k : ℕ) → IsTask W k → is_explicit_task W k ≡ false → k ≢ current W t →
          met_by (words_of (region_at after (region_of W k)).team (with_call calls r (Arrive i) (region_of W k))) (index_of W k) ≡ mets_of W calls k
      others k made plain-k other =
          elim (cases_eq (region_of W k) r) [
            | inr apart ↦ ap (λ (team : Team). met_by team (index_of W k)) (words-there W after calls r (Arrive i) one (region_of W k) apart)
            | inl here ↦
                ap (λ (q : ℕ). met_by (words_of (region_at after q).team (with_call calls r (Arrive i) q)) (index_of W k)) here
                ∙ ap (λ (team : Team). met_by team (index_of W k)) (words-here W after calls r (Arrive i) one (called.follows r))
                ∙ arrived-other words i (index_of W k) (λ same. other (seat-of run W I past t back.knows k made plain-k some plain here same))
                ∙ sym (ap (λ (q : ℕ). met_by (words_of (region_at W q).team (calls q)) (index_of W k)) here)
          ]

      mets : mets_of after (with_call calls r (Arrive i)) (current W t) ≡ met_by (after_call words (Arrive i)) i
      mets =
          mets-placed W after (current W t) (place (current W t)) (with_call calls r (Arrive i))
          ∙ ap₂ (λ (team : Team) (j : ℕ). met_by team j) (words-here W after calls r (Arrive i) one (called.follows r)) index

      last : last_met (met_by (after_call words (Arrive i)) i) ≡ record (last_met (met_by words i)) { arrived = true }
      last = arrived-own words i within (barrier-some (met_by words i) at)

      own : PlaceOf (stand_at after (current W t)) (arriving after J (current W t)) (mets_of after (with_call calls r (Arrive i)) (current W t))
      own =
          subst₂ (λ (stand : Stand) (mets : List Met). PlaceOf stand (arriving after J (current W t)) mets) (sym (same-stand (current W t) ∙ waiting.1)) (sym mets)
          (of-barrier (is_barrier which) (IsWaiting (arriving after J (current W t)) (met_by (after_call words (Arrive i)) i))
          (MayMeet (met_by (after_call words (Arrive i)) i))
          (λ b. record {
            at = ap (λ (met : Met). meets_at_barrier met.what) last ∙ at;
            arrived = λ none. ap (λ (met : Met). met.arrived) last;
          })
          (λ none. absurd (true≢false (sym barrier ∙ none))))

-- ---- all events

neither : (here : Bool) → if◌then◌else◌ {A = List TeamCall} here [] [] ≡ []
neither true = refl
neither false = refl

module _ (run : Run) (W after : World) (I J : Inside) (past : List EventRecord) (t : ℕ) (calls : AllCalls) (called : Called W I calls) where
  abbrev all : Event → AllCalls
  all e = λ q. calls q ++ if_in W t q (calls_of_back (current_index W t) e)

  quiet-back : (e : Event) → ComesBack run W after I J past t e → is_arrival (Some e) ≡ false → ((q : ℕ) → (region_at after q).team ≡ (region_at W q).team) →
      ((q : ℕ) → if_in W t q (calls_of_back (current_index W t) e) ≡ []) → Called after J (all e)
  quiet-back e back none teams empty =
      called-same after J calls (all e) (λ q. ap (λ (more : List TeamCall). calls q ++ more) (empty q) ∙ append-nil (calls q))
      (back-none run W after I J past t e back calls called none teams)

  pub called-back : (e : Event) → ComesBack run W after I J past t e → Called after J (all e)
  called-back (Sync which stage.WaitBegin codeptr) back =
      let e : Event = Sync which stage.WaitBegin codeptr in
      elim (cases_Bool (is_barrier which)) [
        | inl barrier ↦
            called-same after J (with_call calls (current_region W t) (Arrive (current_index W t))) (all e)
            (λ q. ap (λ (b : Bool). calls q ++ (if current_region W t == q then (if b then Arrive (current_index W t) ∷ [] else []) else [])) barrier)
            (back-one run W after I J past t e back calls called which codeptr refl barrier)
        | inr none ↦
            quiet-back e back none
            (λ q. back.returns.team q ∙ cond-false (is_barrier which && q == current_region W t) _ _
            (ap (λ (b : Bool). b && q == current_region W t) none))
            (λ q. ap (λ (b : Bool). if current_region W t == q then (if b then Arrive (current_index W t) ∷ [] else []) else []) none
            ∙ neither (current_region W t == q))
      ]
  called-back (Sync which stage.RegionBegin codeptr) back = quiet-back (Sync which stage.RegionBegin codeptr) back refl back.returns.team (λ q. neither (current_region W t == q))
  called-back (Sync which stage.WaitEnd codeptr) back = quiet-back (Sync which stage.WaitEnd codeptr) back refl back.returns.team (λ q. neither (current_region W t == q))
  called-back (Sync which stage.RegionEnd codeptr) back = quiet-back (Sync which stage.RegionEnd codeptr) back refl back.returns.team (λ q. neither (current_region W t == q))
  called-back e back = quiet-back e back refl back.returns.team (λ q. neither (current_region W t == q))
