-- The Go of an event: the calls that it makes, and how far members have come then.
use Rattle.std.specs.List.{list_all, list_any}
use Rattle.nested_runs.proofs.BarrierStands.{unmade-stand}
use Rattle.nested_runs.proofs.GoMembers.{regions-grow, started-go}
use Rattle.team_words.proofs.Keeping.{new_met}
use Rattle.nested_runs.proofs.PooledTasks.{current-made, current-same, tasks-few, current-under-way}
use Rattle.team_parts.specs.declared.meeting.TheConstants.{TEAM_LIMIT}
use Rattle.task_pool.specs.declared.task.Task.{Task as PoolTask}
use Rattle.team_parts.specs.declared.meeting.Mismatch.{Mismatch}
use Rattle.omp_model.proofs.Arriving.{Arrives, arrives}
use Rattle.task_pool.specs.declared.task.Condition.TheVariants as condition
use Rattle.nested_runs.proofs.FirstWorlds.{replicated}
use Rattle.nested_runs.proofs.Known.{AtBarrier, HasNotMet}
use Rattle.std.proofs.Common.{ℕ, ◌≡◌, ◌≢◌, ◌<◌, ◌≤◌, ◌+◌, ◌==◌, ◌&&◌, ◌||◌, ◌++◌, Bool, true, false, if◌then◌else◌, List, [], ◌∷◌, length, refl, sym, ap, ap₂, ◌∙◌, subst, subst₂, inl, inr, arith, not}
use Rattle.std.specs.Prelude.{Option, Some, None, Result, Ok}
use Rattle.std.proofs.lemmas.Bool.{and_from, cases_Bool, cond-false, cond-true, true≢false, cases_eq, cases_lt, eq-eqb, lt-ltb, ne_eqb}
use Rattle.std.proofs.lemmas.List.{append-nil, get_or_past, length-replicate}
use Rattle.c_model.specs.declared.point.Point.{Point}
use Rattle.c_model.specs.declared.point.Point.TheVariants as point
use Rattle.c_model.specs.declared.point.SyncKind.{SyncKind}
use Rattle.c_model.specs.declared.point.SyncStage.TheVariants as stage
use Rattle.c_model.specs.declared.point.Work.{Work as Working}
use Rattle.c_model.specs.declared.point.Work.TheVariants as work
use Rattle.c_model.specs.declared.point.WorkKind.{WorkKind}
use Rattle.c_model.specs.Step.{silent}
use Rattle.c_model.specs.Task.{Outcome}
use Rattle.c_model.specs.Task.Outcome.{Asks, Ends, Limits, Occurs, StepsTo, Traps}
use Rattle.c_syntax.specs.language.Tree.{Tree}
use Rattle.task_pool.specs.Tasks.{is_explicit, unfinished}
use Rattle.team_parts.specs.declared.meeting.Meeting.{Meeting}
use Rattle.team_parts.specs.Meetings.{is_barrier as meets_at_barrier}
use Rattle.team_parts.specs.Team.{TeamView, after_meeting, answer_to_meet, new_member}
use Rattle.team_words.specs.Calls.{TeamCall, after_call, counters_after_answer, ends_in_time, may_make, is_member as is_member_of}
use Rattle.team_words.specs.Calls.TeamCall.{Meet, Pass}
use Rattle.team_words.specs.Team.{Met, Team, is_at_barrier, last_met, may_go_on, may_pass, met_by, answer_to_meet as words_answer, fresh_team as fresh_words, has_arrived, has_passed, last_number}
use Rattle.team_words.proofs.Meets.{meet-answer}
use Rattle.team_words.proofs.Waits.{barrier-some, wait-answer}
use Rattle.ompt_calls.specs.declared.event.EventRecord.{EventRecord}
use Rattle.omp_model.specs.declared.event.Endpoint.TheVariants.{Begin, End}
use Rattle.omp_model.specs.declared.event.Event.{Event}
use Rattle.omp_model.specs.declared.event.Event.TheVariants as event
use Rattle.omp_model.specs.declared.limits.TheConstants.{IMPLICIT_REGION, INITIAL_TASK}
use Rattle.omp_model.specs.Conditions.{has_started}
use Rattle.omp_model.specs.Gates.{is_barrier}
use Rattle.omp_model.specs.EventEffects.{Happens, after_meeting_at, barrier_met, effect_of_point, event_of_point, fault_of_point, going_by, go_of_code, meeting_at, past_point, told, work_met}
use Rattle.omp_model.specs.MadeWorld.{IsTask}
use Rattle.omp_model.specs.Members.{current, current_index, current_region, current_team, is_explicit_task, is_member, member_index, region_of, view_of}
use Rattle.omp_model.specs.State.{Region, Run, World, fresh_team, no_region, pooled_at, region_at, task_at, Thread}
use Rattle.omp_model.proofs.Touching.{Meets, SameTeam, is_of_code, MeetsWork, regions_after}
use Rattle.omp_model.proofs.Gos.{unless-goes, current-kept}
use Rattle.omp_model.proofs.Guards.{member-made}
use Rattle.omp_model.proofs.Turning.{GoOf}
use Rattle.omp_model.proofs.Turning.GoOf.{Beside, OfCode}
use Rattle.nested_runs.proofs.Effects.{stand_after, stand_before}
use Rattle.nested_runs.proofs.Knows.{Goes, Knows}
use Rattle.nested_runs.proofs.Recorded.{Inside}
use Rattle.nested_runs.proofs.Standing.{Stand, stand_at}
use Rattle.nested_runs.proofs.Standing.Stand.{Free}
use Rattle.nested_runs.proofs.CarriedMembers.{seated-started}
use Rattle.nested_runs.proofs.RegionHeads.{fresh-region, place-within, IsNewMember, index-stays, kind-stays, new-member, plain-kinds, region-made, region-stays}
use Rattle.nested_runs.proofs.TeamMembers.{comes-some, comes-stand}
use Rattle.nested_runs.proofs.WaitEnds.{may-end-passes}
use Rattle.guard_laws.proofs.WorkBegins.{met-answer, met-free, met-team}
use Rattle.guard_laws.proofs.WorkGos.{current-started, one-seat, own-made, place-go}
use Rattle.guard_laws.proofs.WorksMet.{index_of}
use Rattle.std.specs.Result.{is_ok}
use Rattle.team_calls.specs.Agreed.{agrees}
use Rattle.team_calls.specs.Called.{calls_at, calls_of_next, if_in}
use Rattle.team_calls.proofs.Called.{AllCalls, Called, OneCall, arriving, follows-one, is_arrival, mets-placed, mets_of, with-there, with_call, words-here, words-there, arriving-same, called-same}
use Rattle.team_calls.proofs.Follows.{Follows, keeps, words-met, words-size, words_of}
use Rattle.team_calls.proofs.Lists.{met-other, met-own, passed-other, passed-own}
use Rattle.team_calls.proofs.Places.{IsAtBarrier, IsWaiting, MayMeet, PlaceOf, at-barrier, at-none, goes-none, goes-past, goes-work, of-barrier, place-known}

-- ---- an event of the code, with what stands next

record AtPoint (run : Run) (W after : World) (t : ℕ) (e : Event) : Type 0 where
  what : Point
  tree : Tree
  occurs : silent run.program (view_of W t) (told W t) ≡ Occurs what tree
  fine : fault_of_point W t (told W t).task what ≡ None
  event : event_of_point W t what ≡ e
  after_is : past_point W (effect_of_point run W t (told W t) what) t (told W t) what ≡ after

at-outcome : (run : Run) (W after : World) (t : ℕ) (e : Event) (outcome : Outcome) → silent run.program (view_of W t) (told W t) ≡ outcome →
    going_by run W t (told W t) outcome ≡ Happens e after → AtPoint run W after t e
at-outcome run W after t e (Occurs what tree) is happens =
    unless-goes (λ which next. AtPoint run W next t which) (fault_of_point W t (told W t).task what) (event_of_point W t what) e
    (past_point W (effect_of_point run W t (told W t) what) t (told W t) what) after
    (λ fine. record { what = what; tree = tree; occurs = is; fine = fine; event = refl; after_is = refl }) happens
at-outcome run W after t e (StepsTo next) is happens = cc
at-outcome run W after t e (Asks ask tree) is happens = cc
at-outcome run W after t e (Ends number) is happens = cc
at-outcome run W after t e (Traps trap) is happens = cc
at-outcome run W after t e (Limits limit) is happens = cc

at-point : (run : Run) (W after : World) (t : ℕ) (e : Event) → go_of_code run W t ≡ Happens e after → AtPoint run W after t e
unfolding go_of_code
at-point run W after t e happens = at-outcome run W after t e (silent run.program (view_of W t) (told W t)) refl happens

-- where a work begins it stands next
record AtWork (run : Run) (W after : World) (t : ℕ) : Type 0 where
  codeptr : ℕ
  what : Working
  tree : Tree
  occurs : silent run.program (view_of W t) (told W t) ≡ Occurs (point.WorkBegin codeptr what) tree
  first : Bool
  answer : answer_to_meet (current_team W t) (current_index W t) (work_met codeptr what) ≡ Ok first
  team : (region_at after (current_region W t)).team ≡ after_meeting (current_team W t) (current_index W t) (work_met codeptr what)

module _ (run : Run) (W after : World) (I J : Inside) (past : List EventRecord) (t : ℕ) where
  work-at : (which : WorkKind) (count codeptr : ℕ) → Goes run W after I J past t (event.Work Begin which count codeptr) →
      (at : AtPoint run W after t (event.Work Begin which count codeptr)) → (what : Point) → at.what ≡ what → AtWork run W after t
  unfolding effect_of_point fault_of_point
  work-at which count codeptr goes at (point.WorkBegin place what) is =
      let some = goes.comes.0.within.some in
      let made = goes.knows.sound.made in
      let codes = goes.knows.codes in
      let fine : fault_of_point W t (told W t).task (point.WorkBegin place what) ≡ None = ap (fault_of_point W t (told W t).task) (sym is) ∙ at.fine in
      let now = met-free (is_explicit_task W (current W t)) _ (meeting_at W t (work_met place what)) fine in
      let world : past_point W (after_meeting_at W t (work_met place what)) t (told W t) (point.WorkBegin place what) ≡ after =
      ap (λ (what : Point). past_point W (effect_of_point run W t (told W t) what) t (told W t) what) (sym is) ∙ at.after_is in
      record {
        codeptr = place;
        what = what;
        tree = at.tree;
        occurs = at.occurs ∙ ap (λ (what : Point). Occurs what at.tree) is;
        first = now.first;
        answer = met-answer run W t made codes some (work_met place what) now.first now.is;
        team = ap (λ (after : World). (region_at after (current_region W t)).team) (sym world) ∙ met-team run W t made codes some (work_met place what);
      }
  work-at which count codeptr goes at what is =
      let event : event_of_point W t what ≡ event.Work Begin which count codeptr = ap (event_of_point W t) (sym is) ∙ at.event in cc

-- ---- how the calls and the teams change

module _ (run : Run) (W after : World) (I J : Inside) (past : List EventRecord) (t : ℕ) (calls : AllCalls) (called : Called W I calls) where
  abbrev r : ℕ
  r = current_region W t

  abbrev i : ℕ
  i = current_index W t

  abbrev k : ℕ
  k = current W t

  abbrev team : TeamView
  team = current_team W t

  abbrev words : Team
  words = words_of (current_team W t) (calls (current_region W t))

  -- the event makes no call, or one
  data Makes (e : Event) : Type 0 where
    Nothing : ((q : ℕ) → calls_at run W t q e ≡ []) → ((q : ℕ) → q < length W.regions → (region_at after q).team ≡ (region_at W q).team) →
        (is_of_code e ≡ true → is_explicit_task W k ≡ false → PlaceOf (stand_after e) (is_arrival (Some e)) (met_by words i)) → Makes e
    Makes-one : (call : TeamCall) → ((q : ℕ) → calls_at run W t q e ≡ (if current_region W t == q then call ∷ [] else [])) → is_of_code e ≡ true →
        is_explicit_task W k ≡ false → OneCall W after r call → length after.regions ≡ length W.regions → may_make words call ≡ true →
        ends_in_time words call ≡ true → agrees words call ≡ true → ((j : ℕ) → j ≢ i → met_by (after_call words call) j ≡ met_by words j) →
        PlaceOf (stand_after e) (is_arrival (Some e)) (met_by (after_call words call) i) → Makes e

  neither : (here : Bool) → if◌then◌else◌ {A = List TeamCall} here [] [] ≡ []
  neither true = refl
  neither false = refl

  -- no calls in any region
  none-at : (e : Event) → ((q : ℕ) → calls_at run W t q e ≡ (if current_region W t == q then [] else [])) → (q : ℕ) → calls_at run W t q e ≡ []
  none-at e is q = is q ∙ neither (current_region W t == q)

  module _ (some : 1 ≤ current W t) (knows : Knows run W I past) where
    within : i < length team.members
    within = place-within run W I past t knows some

    words-within : i < length words.members
    words-within = omega (arith, within, words-size team (calls r) (called.follows r))

    is-of : is_member_of words i ≡ true
    is-of = lt-ltb i (length words.members) words-within

    own-index : index_of W k ≡ i
    own-index = ap (λ (u : ℕ). member_index W u r) (current-under-way W t knows.sound.orderly some).thread

    own-mets : mets_of W calls k ≡ met_by words i
    own-mets = ap (met_by words) own-index

    -- where the current task stands, outside callbacks
    own-place : I t ≡ None → is_explicit_task W k ≡ false → PlaceOf (stand_at W k) false (met_by words i)
    own-place outside plain =
        let way = current-under-way W t knows.sound.orderly some in
        let made = (current-made W t knows.sound.made some).made in
        let place = called.places k made (ap has_started way.started) plain in
        place-known (stand_at W k) (arriving W I k) false (met_by words i) (λ known. idle way.thread)
        (subst (PlaceOf (stand_at W k) (arriving W I k)) own-mets place)
      where
        idle : (task_at W k).thread ≡ t → arriving W I k ≡ false
        idle thread = ap (λ (event : Option Event). is_arrival event && current W (task_at W k).thread == k) (ap I thread ∙ outside)

-- ---- where the code stands behind an event that makes no call

abbrev calm : Event → Bool
calm (event.Work Begin which count codeptr) = false
calm (event.Sync which stage.RegionBegin codeptr) = not (is_barrier which)
calm (event.Sync which stage.WaitEnd codeptr) = not (is_barrier which)
calm other = true

-- the member has come no further
calm-place : (e : Event) (mets : List Met) → is_of_code e ≡ true → calm e ≡ true → PlaceOf (stand_before e) false mets →
    PlaceOf (stand_after e) (is_arrival (Some e)) mets
calm-place event.ThreadBegin mets code is place = absurd (true≢false (sym code))
calm-place event.ThreadEnd mets code is place = absurd (true≢false (sym code))
calm-place event.InitialTaskBegin mets code is place = absurd (true≢false (sym code))
calm-place event.InitialTaskEnd mets code is place = absurd (true≢false (sym code))
calm-place (event.MemberBegin r k) mets code is place = absurd (true≢false (sym code))
calm-place (event.MemberEnd r k) mets code is place = absurd (true≢false (sym code))
calm-place (event.TaskBegin prior task) mets code is place = absurd (true≢false (sym code))
calm-place (event.TaskEnd task) mets code is place = absurd (true≢false (sym code))
calm-place (event.Dispatch share) mets code is place = absurd (true≢false (sym code))
calm-place (event.Work Begin which count codeptr) mets code is place = absurd (true≢false (sym is))
calm-place (event.Work End which count codeptr) mets code is place = place
calm-place (event.Sync which stage.RegionBegin codeptr) mets code is place =
    of-barrier (is_barrier which) (IsAtBarrier mets) (MayMeet mets) (λ barrier. absurd (true≢false (sym is ∙ ap not barrier))) (λ none. place)
calm-place (event.Sync which stage.WaitBegin codeptr) mets code is place =
    of-barrier (is_barrier which) (IsWaiting (is_barrier which) mets) (MayMeet mets)
    (λ barrier. record {
      at = at-barrier (is_barrier which) (IsAtBarrier mets) (MayMeet mets) barrier place;
      arrived = λ known. absurd (true≢false (sym barrier ∙ known));
    })
    (λ none. at-none (is_barrier which) (IsAtBarrier mets) (MayMeet mets) none place)
calm-place (event.Sync which stage.WaitEnd codeptr) mets code is place =
    at-none (is_barrier which) (IsWaiting false mets) (MayMeet mets) (not-is (is_barrier which) is) place
  where
    not-is : (b : Bool) → not b ≡ true → b ≡ false
    not-is true is = cc
    not-is false is = refl
calm-place (event.Sync which stage.RegionEnd codeptr) mets code is place = place
calm-place (event.ParallelBegin r requested codeptr) mets code is place = place
calm-place (event.ParallelEnd r codeptr) mets code is place = place
calm-place (event.TaskCreate task undeferred codeptr) mets code is place = place
calm-place (event.Masked Begin codeptr) mets code is place = place
calm-place (event.Masked End codeptr) mets code is place = place
calm-place (event.MutexAcquire which id codeptr) mets code is place = place
calm-place (event.MutexAcquired which id codeptr) mets code is place = place
calm-place (event.MutexReleased which id codeptr) mets code is place = place
calm-place (event.LockInit id codeptr) mets code is place = place
calm-place (event.LockDestroy id codeptr) mets code is place = place

-- ---- the event

-- a wait that may end may end once no task is unfinished
ends-later : (all any : Bool) (unfinished : ℕ) → (all && unfinished == 0 || any) ≡ true → (all && 0 == 0 || any) ≡ true
ends-later true any unfinished may = refl
ends-later false any unfinished may = may

may-later : (team : Team) (i left : ℕ) → may_pass team i left ≡ true → may_pass team i 0 ≡ true
may-later team i left may =
    let number = last_number (met_by team i) in
    ends-later (list_all (has_arrived number) team.members) (list_any (has_passed number) team.members) left may

module _ (run : Run) (W after : World) (I J : Inside) (past : List EventRecord) (t : ℕ) (calls : AllCalls) (called : Called W I calls) where
  abbrev Made : Event → Type 0
  Made e = Makes run W after I J past t calls called e

  -- outside callbacks it stands where its event does
  before-place : (e : Event) → Goes run W after I J past t e → is_of_code e ≡ true → is_explicit_task W (current W t) ≡ false →
      PlaceOf (stand_before e) false (met_by (words_of (current_team W t) (calls (current_region W t))) (current_index W t))
  before-place e goes code plain =
      subst (λ (stand : Stand). PlaceOf stand false (met_by (words_of (current_team W t) (calls (current_region W t))) (current_index W t)))
      (comes-stand W t e code goes.comes)
      (own-place run W after I J past t calls called (comes-some W t e code goes.comes) goes.knows goes.outside plain)

  calm-makes : (e : Event) → Goes run W after I J past t e → calm e ≡ true →
      ((q : ℕ) → calls_at run W t q e ≡ (if current_region W t == q then [] else [])) →
      ((q : ℕ) → q < length W.regions → (region_at after q).team ≡ (region_at W q).team) → Made e
  calm-makes e goes is none teams =
      Nothing (none-at run W after I J past t calls called e none) teams
      (λ code plain. calm-place e (met_by (words_of (current_team W t) (calls (current_region W t))) (current_index W t)) code is
      (before-place e goes code plain))

  -- a member meets something
  meets-made : (e : Event) (what : Meeting) (first : Bool) → Goes run W after I J past t e → is_of_code e ≡ true → is_explicit_task W (current W t) ≡ false →
      ((q : ℕ) → calls_at run W t q e ≡ (if current_region W t == q then Meet (current_index W t) what ∷ [] else [])) →
      answer_to_meet (current_team W t) (current_index W t) what ≡ Ok first →
      (region_at after (current_region W t)).team ≡ after_meeting (current_team W t) (current_index W t) what →
      ((q : ℕ) → q ≢ current_region W t → (region_at after q).team ≡ (region_at W q).team) → length after.regions ≡ length W.regions →
      stand_before e ≡ Free → is_arrival (Some e) ≡ false →
      ((mets : List Met) → last_met mets ≡ new_met what → PlaceOf (stand_after e) false mets) → Made e
  meets-made e what first goes code plain is answer team others regions stands calmly next =
      let some = comes-some W t e code goes.comes in
      let words = words_of (current_team W t) (calls (current_region W t)) in
      let i = current_index W t in
      let r = current_region W t in
      let within = words-within run W after I J past t calls called some goes.knows in
      let free : MayMeet (met_by words i) = subst (λ (stand : Stand). PlaceOf stand false (met_by words i)) stands (before-place e goes code plain) in
      let said : words_answer words i what ≡ Ok first =
      sym (meet-answer words (current_team W t) i what (keeps (current_team W t) (calls r) (called.follows r))) ∙ answer in
      Makes-one (Meet i what) is code plain
      (record {
        here = team ∙ sym (ap (λ (answer : Result Bool Mismatch). counters_after_answer (current_team W t) i what answer) answer);
        there = others;
      })
      regions
      (and_from (is_member_of words i) (may_go_on (met_by words i)) (is-of run W after I J past t calls called some goes.knows) free) refl
      (ap is_ok said)
      (λ j other. met-other words i j what other)
      (subst (λ (b : Bool). PlaceOf (stand_after e) b (met_by (after_call words (Meet i what)) i)) (sym calmly)
      (next (met_by (after_call words (Meet i what)) i) (met-own words i what first within said)))

  here-team : (q : ℕ) (one other : TeamView) → q ≡ current_region W t → (if q == current_region W t then one else other) ≡ one
  here-team q one other is = cond-true (q == current_region W t) one other (eq-eqb q (current_region W t) is)

  there-team : (q : ℕ) (one other : TeamView) → q ≢ current_region W t → (if q == current_region W t then one else other) ≡ other
  there-team q one other apart = cond-false (q == current_region W t) one other (ne_eqb q (current_region W t) apart)

  -- the first event of a barrier
  barrier-made : (which : SyncKind) (codeptr : ℕ) → Goes run W after I J past t (event.Sync which stage.RegionBegin codeptr) → is_barrier which ≡ true →
      Made (event.Sync which stage.RegionBegin codeptr)
  barrier-made which codeptr goes barrier =
      let e : Event = event.Sync which stage.RegionBegin codeptr in
      let some = goes.comes.0.within.some in
      let meets : (q : ℕ) → Meets W after t q (barrier_met codeptr which) =
      λ q. at-barrier (is_barrier which) (Meets W after t q (barrier_met codeptr which)) (SameTeam W after q) barrier (goes.touches.world.team q) in
      let r = current_region W t in
      let met = meets r in
      let answer : answer_to_meet (current_team W t) (current_index W t) (barrier_met codeptr which) ≡ Ok met.first =
      sym (cond-true (is_member W t) (answer_to_meet (current_team W t) (current_index W t) (barrier_met codeptr which)) (Ok false)
      (member-made W t goes.knows.sound.made some)) ∙ met.answer in
      meets-made e (barrier_met codeptr which) met.first goes refl (goes.comes.1 barrier)
      (λ q. ap (λ (b : Bool). if current_region W t == q then (if b then Meet (current_index W t) (barrier_met codeptr which) ∷ [] else []) else []) barrier)
      answer (met.team ∙ here-team r _ _ refl) (λ q other. (meets q).team ∙ there-team q _ _ other) goes.touches.world.regions refl refl
      (λ mets last. of-barrier (is_barrier which) (IsAtBarrier mets) (MayMeet mets)
      (λ is. ap (λ (met : Met). meets_at_barrier met.what) last) (λ none. absurd (true≢false (sym barrier ∙ none))))

  -- a worksharing construct
  work-made : (which : WorkKind) (count codeptr : ℕ) → Goes run W after I J past t (event.Work Begin which count codeptr) →
      AtWork run W after t → Made (event.Work Begin which count codeptr)
  work-made which count codeptr goes at =
      let e : Event = event.Work Begin which count codeptr in
      let what = work_met at.codeptr at.what in
      meets-made e what at.first goes refl goes.comes.1
      (λ q. ap (λ (next : Outcome). if_in W t q (calls_of_next (current_index W t) next)) at.occurs) at.answer at.team
      (λ q other. let meets : MeetsWork W after t q = goes.touches.world.team q in meets.meets.team ∙ there-team q _ _ other)
      goes.touches.world.regions refl refl
      (λ mets last. goes-work mets (ap (λ (met : Met). meets_at_barrier met.what) last ∙ no-barrier at.codeptr at.what))
    where
      no-barrier : (codeptr : ℕ) (what : Working) → meets_at_barrier (work_met codeptr what) ≡ false
      no-barrier codeptr (work.Loop start count step how) = refl
      no-barrier codeptr (work.Sections count) = refl
      no-barrier codeptr work.Single = refl

  -- a wait ends
  pass-made : (which : SyncKind) (codeptr : ℕ) → Goes run W after I J past t (event.Sync which stage.WaitEnd codeptr) → is_barrier which ≡ true →
      Made (event.Sync which stage.WaitEnd codeptr)
  pass-made which codeptr goes barrier =
      let e : Event = event.Sync which stage.WaitEnd codeptr in
      let some = goes.comes.0.within.some in
      let r = current_region W t in
      let i = current_index W t in
      let view = current_team W t in
      let words = words_of view (calls r) in
      let plain = (subst (λ (stand : Stand). AtBarrier W past (current W t) stand) goes.comes.0.stand (goes.knows.barriers.at (current W t)) barrier).0 in
      let waits : IsWaiting false (met_by words i) =
      at-barrier (is_barrier which) (IsWaiting false (met_by words i)) (MayMeet (met_by words i)) barrier (before-place e goes refl plain) in
      let within = words-within run W after I J past t calls called some goes.knows in
      let met = barrier-some (met_by words i) waits.at in
      let last = passed-own words i within met in
      let keeping = keeps view (calls r) (called.follows r) in
      let left = unfinished W.pool.tasks (current_region W t) in
      let may : may_pass words i left ≡ true =
      sym (wait-answer words view i left keeping waits.at) ∙ may-end-passes W t which barrier goes.comes.1 in
      Makes-one (Pass i) (λ q. ap (λ (b : Bool). if current_region W t == q then (if b then Pass i ∷ [] else []) else []) barrier) refl plain
      (record {
        here = goes.touches.world.team r ∙ cond-true (is_barrier which) _ _ barrier ∙ here-team r _ _ refl;
        there = λ q other. goes.touches.world.team q ∙ cond-true (is_barrier which) _ _ barrier ∙ there-team q _ _ other;
      })
      goes.touches.world.regions
      (and_from (is_member_of words i) (is_at_barrier (met_by words i)) (is-of run W after I J past t calls called some goes.knows) waits.at)
      (may-later words i left may) refl (λ j other. passed-other words i j other)
      (goes-past (met_by (after_call words (Pass i)) i) (ap (λ (met : Met). met.arrived) last ∙ waits.arrived refl) (ap (λ (met : Met). met.passed) last))

  at-event : (e : Event) → Goes run W after I J past t e → GoOf run W t e after → Made e
  at-event (event.Work Begin which count codeptr) goes (OfCode comes happens) =
      let at = at-point run W after t (event.Work Begin which count codeptr) happens in
      work-made which count codeptr goes (work-at run W after I J past t which count codeptr goes at at.what refl)
  at-event (event.Work Begin which count codeptr) goes (Beside meets happens) = absurd (subst (Arrives W t) meets (arrives W t))
  at-event (event.Sync which stage.RegionBegin codeptr) goes go =
      elim (cases_Bool (is_barrier which)) [
        | inl barrier ↦ barrier-made which codeptr goes barrier
        | inr none ↦
            calm-makes (event.Sync which stage.RegionBegin codeptr) goes (ap not none)
            (λ q. ap (λ (b : Bool). if current_region W t == q then (if b then Meet (current_index W t) (barrier_met codeptr which) ∷ [] else []) else []) none)
            (λ q below. at-none (is_barrier which) (Meets W after t q (barrier_met codeptr which)) (SameTeam W after q) none (goes.touches.world.team q))
      ]
  at-event (event.Sync which stage.WaitEnd codeptr) goes go =
      elim (cases_Bool (is_barrier which)) [
        | inl barrier ↦ pass-made which codeptr goes barrier
        | inr none ↦
            calm-makes (event.Sync which stage.WaitEnd codeptr) goes (ap not none)
            (λ q. ap (λ (b : Bool). if current_region W t == q then (if b then Pass (current_index W t) ∷ [] else []) else []) none)
            (λ q below. goes.touches.world.team q ∙ cond-false (is_barrier which) _ _ none)
      ]
  at-event (event.Sync which stage.WaitBegin codeptr) goes go =
      calm-makes (event.Sync which stage.WaitBegin codeptr) goes refl (λ q. refl) (λ q below. goes.touches.world.team q)
  at-event (event.Sync which stage.RegionEnd codeptr) goes go =
      calm-makes (event.Sync which stage.RegionEnd codeptr) goes refl (λ q. refl) (λ q below. goes.touches.world.team q)
  at-event (event.ParallelBegin r requested codeptr) goes go =
      calm-makes (event.ParallelBegin r requested codeptr) goes refl (λ q. refl)
      (λ q below. goes.touches.world.team q ∙ cond-false (q == r) _ _ (ne_eqb q r (λ is. omega (arith, is, below, goes.comes.1.region))))
  at-event e goes go = calm-makes e goes refl (λ q. refl) (λ q below. goes.touches.world.team q)

  -- ---- tasks

  module _ (e : Event) (goes : Goes run W after I J past t e) where
    idle-known : (k : ℕ) → (task_at W k).thread ≡ t → arriving W I k ≡ false
    idle-known k thread = ap (λ (event : Option Event). is_arrival event && current W (task_at W k).thread == k) (ap I thread ∙ goes.outside)

    -- a task that is inside no begin of a wait was inside none
    arriving-known : (k : ℕ) → IsTask W k → has_started (pooled_at W k).condition ≡ true → arriving after J k ≡ false → arriving W I k ≡ false
    arriving-known k made started known =
        elim (cases_eq (task_at W k).thread t) [
          | inl is ↦ idle-known k is
          | inr other ↦
              sym (arriving-same W after k (place-go run W after I J past t e goes k made started) I J (goes.enters.others (task_at W k).thread other)
              (current-same W after (task_at W k).thread (ap (λ (x : Thread). x.stack) (goes.touches.world.others (task_at W k).thread other)))) ∙ known
        ]

    and-known : (b : Bool) → (b && true) ≡ false → b ≡ false
    and-known true known = known
    and-known false known = refl

    -- the current one
    own-known : is_of_code e ≡ true → arriving after J (current W t) ≡ false → is_arrival (Some e) ≡ false
    own-known code known =
        let some = comes-some W t e code goes.comes in
        let k = current W t in
        let made = own-made run W after I J past t e goes some in
        let place = place-go run W after I J past t e goes k made (current-started run W after I J past t e goes some) in
        let thread : (task_at after k).thread ≡ t = place.thread ∙ (current-under-way W t goes.knows.sound.orderly some).thread in
        let is : arriving after J k ≡ (is_arrival (Some e) && true) =
        ap (λ (u : ℕ). is_arrival (J u) && current after u == k) thread
        ∙ ap₂ (λ (event : Option Event) (b : Bool). is_arrival event && b) goes.enters.own
        (eq-eqb (current after t) k (current-kept W after t e code goes.touches.world)) in
        and-known (is_arrival (Some e)) (sym is ∙ known)

    module _ (now : AllCalls) where
      -- what its member has met then
      mets-go : (k : ℕ) → IsTask W k → has_started (pooled_at W k).condition ≡ true →
          mets_of after now k ≡ met_by (words_of (region_at after (region_of W k)).team (now (region_of W k))) (index_of W k)
      mets-go k made started = mets-placed W after k (place-go run W after I J past t e goes k made started) now

      -- another task, or the current one beside its code
      other-place : (k : ℕ) → IsTask W k → has_started (pooled_at W k).condition ≡ true → is_explicit_task W k ≡ false →
          (is_of_code e ≡ true → k ≡ current W t → ⊥) →
          met_by (words_of (region_at after (region_of W k)).team (now (region_of W k))) (index_of W k) ≡ mets_of W calls k →
          PlaceOf (stand_at after k) (arriving after J k) (mets_of after now k)
      other-place k made started plain apart same =
          subst (PlaceOf (stand_at after k) (arriving after J k)) (sym (mets-go k made started ∙ same))
          (subst (λ (stand : Stand). PlaceOf stand (arriving after J k) (mets_of W calls k)) (sym (goes.touches.stands k apart))
          (place-known (stand_at W k) (arriving W I k) (arriving after J k) (mets_of W calls k) (arriving-known k made started)
          (called.places k made started plain)))

      -- the current task, at an event of its code
      current-place : is_of_code e ≡ true → is_explicit_task W (current W t) ≡ false →
          PlaceOf (stand_after e) (is_arrival (Some e))
          (met_by (words_of (region_at after (current_region W t)).team (now (current_region W t))) (current_index W t)) →
          PlaceOf (stand_at after (current W t)) (arriving after J (current W t)) (mets_of after now (current W t))
      current-place code plain place =
          let some = comes-some W t e code goes.comes in
          let k = current W t in
          let r = current_region W t in
          let index : index_of W k ≡ current_index W t = own-index run W after I J past t calls called some goes.knows in
          let mets : mets_of after now k ≡ met_by (words_of (region_at after r).team (now r)) (current_index W t) =
          mets-go k (own-made run W after I J past t e goes some) (current-started run W after I J past t e goes some)
          ∙ ap (met_by (words_of (region_at after r).team (now r))) index in
          subst (PlaceOf (stand_at after k) (arriving after J k)) (sym mets)
          (subst (λ (stand : Stand). PlaceOf stand (arriving after J k) (met_by (words_of (region_at after r).team (now r)) (current_index W t)))
          (sym (goes.touches.stand_own code))
          (place-known (stand_after e) (is_arrival (Some e)) (arriving after J k) (met_by (words_of (region_at after r).team (now r)) (current_index W t))
          (own-known code) place))

      -- the initial task before it has begun
      early-place : (k : ℕ) → IsTask W k → is_explicit_task W k ≡ false → is_explicit_task after k ≡ false →
          has_started (pooled_at W k).condition ≡ false → now IMPLICIT_REGION ≡ [] → region_of after k ≡ region_of W k →
          PlaceOf (stand_at after k) (arriving after J k) (mets_of after now k)
      early-place k made plain later not none region =
          let stand : stand_at after k ≡ Free =
          goes.touches.stands k (λ code is. true≢false (sym (current-started run W after I J past t e goes (comes-some W t e code goes.comes))
          ∙ ap (λ (j : ℕ). has_started (pooled_at W j).condition) (sym is) ∙ not))
          ∙ goes.knows.brackets.unmoved k not in
          let one : region_of after k ≡ IMPLICIT_REGION = region ∙ (ap (region_of W) (first k made plain not) ∙ goes.knows.seats.initial) in
          let mets : mets_of after now k ≡ met_by (fresh_words (length (region_at after (region_of after k)).team.members)) (index_of after k) =
          ap (λ (calls : List TeamCall). met_by (words_of (region_at after (region_of after k)).team calls) (index_of after k)) (ap now one ∙ none) in
          subst₂ (λ (stand : Stand) (mets : List Met). PlaceOf stand (arriving after J k) mets) (sym stand) (sym mets)
          (goes-none _ (ap (λ (mets : List Met). length mets) (none-met (length (region_at after (region_of after k)).team.members) (index_of after k))))
        where
          first : (k : ℕ) → IsTask W k → is_explicit_task W k ≡ false → has_started (pooled_at W k).condition ≡ false → k ≡ INITIAL_TASK
          first k made plain not =
              elim (plain-kinds (pooled_at W k).kind plain) [
                | inl initial ↦ goes.knows.sound.orderly.alone k initial
                | inr implicit ↦
                    absurd (true≢false (sym (seated-started run W I past goes.knows k made (goes.knows.members.seated k made implicit)) ∙ not))
              ]

          none-met : (size i : ℕ) → met_by (fresh_words size) i ≡ []
          none-met size i = replicated [] size i

      -- a task that has just been made and has started is a new member, which has met nothing
      new-place : (k : ℕ) → k ≡ length W.tasks → k < length after.tasks → has_started (pooled_at after k).condition ≡ true →
          (is_of_code e ≡ false → (q : ℕ) → q < length W.regions → now q ≡ calls q) → PlaceOf (stand_at after k) (arriving after J k) (mets_of after now k)
      new-place k is below started same = by-event e refl
        where
          unmade : length after.tasks ≡ length W.tasks → ⊥
          unmade count = omega (arith, is, below, count)

          by-event : (which : Event) → e ≡ which → PlaceOf (stand_at after k) (arriving after J k) (mets_of after now k)
          by-event (event.MemberBegin r one) which = subst (λ (stand : Stand). PlaceOf stand (arriving after J k) (mets_of after now k)) (sym stand)
              (goes-none (mets_of after now k) none)
            where
              to : Goes run W after I J past t (event.MemberBegin r one)
              to = subst (Goes run W after I J past t) which goes

              stand : stand_at after k ≡ Free
              stand = to.touches.stands k (λ code. absurd (true≢false (sym code))) ∙ unmade-stand W k (omega (arith, is))

              new : IsNewMember run W after I J past t r (member_index W t r)
              new = new-member run W after I J past t (event.MemberBegin r one) to r (member_index W t r) (refl, refl)

              here : (k == one) ≡ true
              here = eq-eqb k one (is ∙ sym to.comes.task)

              region : region_of after k ≡ r
              region = ap (λ (x : PoolTask). x.region) (to.touches.world.pooled k ∙ cond-true (k == one) _ _ here)

              index : index_of after k ≡ member_index W t r
              index =
                  ap₂ (λ (u q : ℕ). member_index after u q) (to.touches.world.owner k ∙ cond-true (k == one) _ _ here) region
                  ∙ index-stays run W after I J past t (event.MemberBegin r one) to t r new.some new.made

              unmet : HasNotMet W r (member_index W t r)
              unmet = to.knows.barriers.unmet r (member_index W t r) new.forked new.made new.none

              mets : mets_of after now k ≡ met_by (words_of (region_at W r).team (calls r)) (member_index W t r)
              mets =
                  ap₂ (λ (q i : ℕ). met_by (words_of (region_at after q).team (now q)) i) region index
                  ∙ ap₂ (λ (team : TeamView) (calls : List TeamCall). met_by (words_of team calls) (member_index W t r)) (to.touches.world.team r)
                  (same (ap is_of_code which) r new.made)

              none : length (mets_of after now k) ≡ 0
              none =
                  ap (λ (mets : List Met). length mets) mets
                  ∙ words-met (region_at W r).team (calls r) (called.follows r) (member_index W t r) ∙ unmet.met
          by-event (event.TaskCreate task undeferred codeptr) which =
              let to : Goes run W after I J past t (event.TaskCreate task undeferred codeptr) = subst (Goes run W after I J past t) which goes in
              let fresh : (pooled_at after k).condition ≡ condition.Made =
              ap (λ (x : PoolTask). x.condition) (to.touches.world.pooled k ∙ cond-true (k == task) _ _ (eq-eqb k task (is ∙ sym to.comes.1))) in
              absurd (true≢false (sym started ∙ ap has_started fresh))
          by-event other which = absurd (unmade ((subst (Goes run W after I J past t) which goes).touches.world.tasks))

      -- each task
      places-go : ((k : ℕ) → IsTask W k → has_started (pooled_at W k).condition ≡ true → is_explicit_task W k ≡ false →
          (is_of_code e ≡ true → k ≡ current W t → ⊥) →
          met_by (words_of (region_at after (region_of W k)).team (now (region_of W k))) (index_of W k) ≡ mets_of W calls k) →
          (is_of_code e ≡ true → is_explicit_task W (current W t) ≡ false → PlaceOf (stand_after e) (is_arrival (Some e))
          (met_by (words_of (region_at after (current_region W t)).team (now (current_region W t))) (current_index W t))) →
          (is_of_code e ≡ false → (q : ℕ) → q < length W.regions → now q ≡ calls q) →
          (has_started (pooled_at W INITIAL_TASK).condition ≡ false → now IMPLICIT_REGION ≡ []) →
          (k : ℕ) → IsTask after k → has_started (pooled_at after k).condition ≡ true → is_explicit_task after k ≡ false →
          PlaceOf (stand_at after k) (arriving after J k) (mets_of after now k)
      places-go others own beside early k made started plain =
          elim (cases_eq k (length W.tasks)) [
            | inl is ↦ new-place k is made.below started beside
            | inr other ↦
                let old : IsTask W k = record {
                  some = made.some;
                  below = omega (arith, other, made.below, goes.touches.world.tasks, tasks-few e (length W.tasks));
                } in
                let before : is_explicit_task W k ≡ false = sym (ap is_explicit (kind-stays run W after I J past t e goes k other)) ∙ plain in
                elim (cases_Bool (has_started (pooled_at W k).condition)) [
                  | inr not ↦ early-place k old before plain not (early (initial-not k old before not))
                      (region-stays run W after I J past t e goes k other)
                  | inl begun ↦ elim (cases_Bool (is_of_code e)) [
                    | inr none ↦ other-place k old begun before (λ code is. true≢false (sym code ∙ none))
                        (others k old begun before (λ code is. true≢false (sym code ∙ none)))
                    | inl code ↦ elim (cases_eq k (current W t)) [
                      | inr apart ↦ other-place k old begun before (λ code is. apart is) (others k old begun before (λ code is. apart is))
                      | inl is ↦
                          let mine : is_explicit_task W (current W t) ≡ false = subst (λ (k : ℕ). is_explicit_task W k ≡ false) is before in
                          subst (λ (k : ℕ). PlaceOf (stand_at after k) (arriving after J k) (mets_of after now k)) (sym is)
                          (current-place code mine (own code mine))
                    ]
                  ]
                ]
          ]
        where
          initial-not : (k : ℕ) → IsTask W k → is_explicit_task W k ≡ false → has_started (pooled_at W k).condition ≡ false →
              has_started (pooled_at W INITIAL_TASK).condition ≡ false
          initial-not k made plain not =
              elim (plain-kinds (pooled_at W k).kind plain) [
                | inl initial ↦ ap (λ (j : ℕ). has_started (pooled_at W j).condition) (sym (goes.knows.sound.orderly.alone k initial)) ∙ not
                | inr implicit ↦
                    absurd (true≢false (sym (seated-started run W I past goes.knows k made (goes.knows.members.seated k made implicit)) ∙ not))
              ]

  -- ---- all

  -- one region at most is made
  regions-few : (e : Event) (count : ℕ) → regions_after e count ≤ count + 1
  regions-few (event.ParallelBegin r requested codeptr) count = omega arith
  regions-few e count = omega arith

  -- a team that has met nothing follows no calls
  fresh-follows : (size : ℕ) → size ≤ TEAM_LIMIT → Follows (fresh_team size) []
  fresh-follows size few =
      let members = length-replicate size new_member in
      record {
        few = omega (arith, few, members);
        made = refl;
        time = refl;
        agree = refl;
        view_is = ap fresh_team members;
      }

  module _ (e : Event) (goes : Goes run W after I J past t e) where
    grown : length W.regions ≤ length after.regions
    grown = omega (arith, goes.touches.world.regions, regions-grow e (length W.regions))

    -- a team that has just been made, or is none
    new-follows : (q : ℕ) → length W.regions ≤ q → calls q ≡ [] → Follows (region_at after q).team (calls q)
    new-follows q beyond none =
        subst (Follows (region_at after q).team) (sym none)
        (elim (cases_lt q (length after.regions)) [
          | inr past-end ↦
              subst (λ (region : Region). Follows region.team []) (sym (get_or_past after.regions q no_region past-end)) (fresh-follows 0 (omega arith))
          | inl below ↦
              let is : q ≡ length W.regions = omega (arith, beyond, below, goes.touches.world.regions, regions-few e (length W.regions)) in
              let fresh = fresh-region run W after I J past t e goes q is below in
              let made = goes.sound.made.regions q (record { some = omega (arith, is, goes.knows.sound.made.implicit.below); below = below }) in
              let few : fresh.size ≤ TEAM_LIMIT =
              omega (
                arith,
                made.team,
                made.fits,
                goes.sound.threads,
                goes.sound.whole.few,
                ap (λ (team : TeamView). length team.members) fresh.team,
                length-replicate fresh.size new_member,
              ) in
              subst (λ (team : TeamView). Follows team []) (sym fresh.team) (fresh-follows fresh.size few)
        ])

    still-early : has_started (pooled_at after INITIAL_TASK).condition ≡ false → has_started (pooled_at W INITIAL_TASK).condition ≡ false
    still-early not =
        elim (cases_Bool (has_started (pooled_at W INITIAL_TASK).condition)) [
          | inr before ↦ before
          | inl begun ↦
              absurd (true≢false (sym (started-go run W after I J past t e goes INITIAL_TASK goes.knows.sound.made.initial begun).started ∙ not))
        ]

    called-made : Made e → Called after J (λ q. calls q ++ calls_at run W t q e)
    called-made (Nothing none teams own) =
        called-same after J calls (λ q. calls q ++ calls_at run W t q e) (λ q. ap (λ (more : List TeamCall). calls q ++ more) (none q) ∙ append-nil (calls q))
        (record {
          none = λ q beyond. called.none q (omega (arith, beyond, grown));
          follows = λ q. elim (cases_lt q (length W.regions)) [
            | inl below ↦ subst (λ (team : TeamView). Follows team (calls q)) (sym (teams q below)) (called.follows q)
            | inr beyond ↦ new-follows q beyond (called.none q beyond)
          ];
          places = places-go e goes calls
              (λ k made started plain apart.
              ap (λ (team : TeamView). met_by (words_of team (calls (region_of W k))) (index_of W k))
              (teams (region_of W k) (goes.knows.sound.made.placed k made).below))
              (λ code plain.
              subst (λ (team : TeamView). PlaceOf (stand_after e) (is_arrival (Some e)) (met_by (words_of team (calls (current_region W t))) (current_index W t)))
              (sym (teams (current_region W t) (region-made run W I past t goes.knows (comes-some W t e code goes.comes)).below)) (own code plain))
              (λ beside q below. refl) called.early;
          early = λ not. called.early (still-early not);
        })
    called-made (Makes-one call is code plain one regions may ends agree others own) =
        let r = current_region W t in
        let some = comes-some W t e code goes.comes in
        let below : r < length W.regions = (region-made run W I past t goes.knows some).below in
        let now = with_call calls r call in
        let early : has_started (pooled_at W INITIAL_TASK).condition ≡ false → r ≢ IMPLICIT_REGION = λ not here. not-early some plain not here in
        called-same after J now (λ q. calls q ++ calls_at run W t q e) (λ q. ap (λ (more : List TeamCall). calls q ++ more) (is q))
        (record {
          none = λ q beyond. with-there calls r q call (λ is. omega (arith, is, beyond, below, regions)) ∙ called.none q (omega (arith, beyond, regions));
          follows = follows-one W after calls r call one called.follows may ends agree;
          places = places-go e goes now
              (λ k made started plain-k apart.
              let q = region_of W k in
              elim (cases_eq q r) [
                | inr other ↦ ap (λ (team : Team). met_by team (index_of W k)) (words-there W after calls r call one q other)
                | inl here ↦
                    let alone : index_of W k ≢ current_index W t =
                    λ index. apart code (one-seat run W after I J past t e goes k made plain-k some plain here index) in
                    ap (λ (q : ℕ). met_by (words_of (region_at after q).team (now q)) (index_of W k)) here
                    ∙ ap (λ (team : Team). met_by team (index_of W k)) (words-here W after calls r call one (called.follows r))
                    ∙ others (index_of W k) alone
                    ∙ sym (ap (λ (q : ℕ). met_by (words_of (region_at W q).team (calls q)) (index_of W k)) here)
              ])
              (λ code plain. subst (λ (team : Team). PlaceOf (stand_after e) (is_arrival (Some e)) (met_by team (current_index W t)))
              (sym (words-here W after calls r call one (called.follows r))) own)
              (λ beside. absurd (true≢false (sym code ∙ beside)))
              (λ not. with-there calls r IMPLICIT_REGION call (λ is. early not (sym is)) ∙ called.early not);
          early = λ not.
              let before = still-early not in
              with-there calls r IMPLICIT_REGION call (λ is. early before (sym is)) ∙ called.early before;
        })
      where
        not-early : 1 ≤ current W t → is_explicit_task W (current W t) ≡ false → has_started (pooled_at W INITIAL_TASK).condition ≡ false →
            current_region W t ≡ IMPLICIT_REGION → ⊥
        not-early some plain not here =
            elim (plain-kinds (pooled_at W (current W t)).kind plain) [
              | inl initial ↦
                  true≢false (sym (current-started run W after I J past t e goes some)
                  ∙ ap (λ (j : ℕ). has_started (pooled_at W j).condition) (goes.knows.sound.orderly.alone (current W t) initial) ∙ not)
              | inr implicit ↦
                  let seated = goes.knows.members.seated (current W t) (current-made W t goes.knows.sound.made some).made implicit in
                  omega (arith, seated.region, here)
            ]

    pub called-go : GoOf run W t e after → Called after J (λ q. calls q ++ calls_at run W t q e)
    called-go go = called-made (at-event e goes go)
