-- In a run each work that a task has open is what its member has met last: the Go of each event keeps that.
use Rattle.std.proofs.Common.{ℕ, ◌≡◌, ◌≢◌, ◌<◌, ◌≤◌, ◌==◌, Bool, true, false, if◌then◌else◌, List, [], ◌∷◌, length, refl, sym, ap, ap₂, ◌∙◌, subst, subst₂, inl, inr, arith}
use Rattle.std.specs.Prelude.{Option, Some, None, Ok, drop}
use Rattle.std.proofs.lemmas.Bool.{cases_Bool, cases_eq, cases_lt, cond-false, ne_eqb, true≢false}
use Rattle.std.proofs.lemmas.List.{get_or_past}
use Rattle.ompt_calls.specs.declared.event.EventRecord.{EventRecord}
use Rattle.c_model.specs.declared.point.SyncStage.TheVariants as stage
use Rattle.c_brackets.specs.Effects.{Effect}
use Rattle.c_brackets.specs.Effects.Effect.{Opens, Closes, Leaves}
use Rattle.c_brackets.specs.Opened.{Open}
use Rattle.task_pool.specs.Tasks.{is_explicit}
use Rattle.team_parts.specs.declared.meeting.Meeting.{Meeting}
use Rattle.team_parts.specs.declared.member.Member.{Member}
use Rattle.team_parts.specs.Team.{TeamView, after_meeting, answer_to_meet, member_at, with_passed}
use Rattle.omp_model.specs.declared.event.Endpoint.TheVariants.{Begin, End}
use Rattle.omp_model.specs.declared.event.Event.{Event}
use Rattle.omp_model.specs.declared.event.Event.TheVariants.{Masked, ParallelBegin, ParallelEnd, Sync, Work}
use Rattle.omp_model.specs.declared.limits.TheConstants.{INITIAL_TASK}
use Rattle.omp_model.specs.State.{Region, Run, World, no_region, pooled_at, region_at}
use Rattle.omp_model.specs.Members.{current, current_index, current_region, current_team, is_explicit_task, member_index, region_of}
use Rattle.omp_model.specs.Conditions.{has_started}
use Rattle.omp_model.specs.Gates.{is_barrier}
use Rattle.omp_model.specs.EventEffects.{barrier_met}
use Rattle.omp_model.specs.MadeWorld.{IsTask}
use Rattle.omp_model.proofs.Touching.{AtBarrierElse, Meets, SameTeam, is_of_code}
use Rattle.omp_model.proofs.MadeEvents.{current-below}
use Rattle.nested_runs.proofs.Effects.{effect_of_event, opens_after}
use Rattle.nested_runs.proofs.Known.{task_of_member}
use Rattle.nested_runs.proofs.Knows.{Goes}
use Rattle.nested_runs.proofs.Recorded.{Inside}
use Rattle.nested_runs.proofs.Shown.{opens_at}
use Rattle.nested_runs.proofs.GoMembers.{started-go}
use Rattle.nested_runs.proofs.KeptTasks.{none-opens}
use Rattle.nested_runs.proofs.LastTeams.{Left, Met, Passed, TeamGoes, team-goes}
use Rattle.nested_runs.proofs.PooledTasks.{current-made, current-under-way, tasks-few}
use Rattle.nested_runs.proofs.RegionHeads.{fresh-region, index-stays, member-seated, old-region, place-within, plain-kinds, plain-seated, region-made}
use Rattle.nested_runs.proofs.TeamMembers.{comes-some}
use Rattle.guard_laws.proofs.LastMeetings.{AllFit, FitsOpen, SameMet, all-fit, free-fit, last_met, met-within, none-fit, other-fits, own-last, passed-met, same-last, same-met, same-within}
use Rattle.guard_laws.proofs.WorkBegins.{MeetsFree}
use Rattle.guard_laws.proofs.WorksMet.{SamePlace, WorksMet, fresh-within, index_of, met-kept, met-placed, met_at}

-- ---- what is open then

-- where an event opens no loop and no sections, what fits does still
abbrev FitsEffect : Option Meeting → Effect → Type 0
FitsEffect met (Opens one) = FitsOpen met one
FitsEffect met (Closes one) = Unit {0}
FitsEffect met Leaves = Unit {0}

rest-fit : (met : Option Meeting) (opened : List Open) → AllFit met opened → AllFit met (drop 1 opened)
rest-fit met [] fit = tt
rest-fit met (one ∷ opened) fit = fit.1

effect-fits : (met : Option Meeting) (effect : Effect) (opened : List Open) → FitsEffect met effect → AllFit met opened →
    AllFit met (opens_after effect opened)
effect-fits met (Opens one) opened opens fit = (opens, fit)
effect-fits met (Closes one) opened opens fit = rest-fit met opened fit
effect-fits met Leaves opened opens fit = fit

-- an event beside all code leaves what the code has open
beside-leaves : (e : Event) → is_of_code e ≡ false → effect_of_event e ≡ Leaves
beside-leaves (ParallelBegin r requested codeptr) beside = absurd (true≢false beside)
beside-leaves (ParallelEnd r codeptr) beside = absurd (true≢false beside)
beside-leaves (Work at which count codeptr) beside = absurd (true≢false beside)
beside-leaves (Masked at codeptr) beside = absurd (true≢false beside)
beside-leaves (Sync which at codeptr) beside = absurd (true≢false beside)
beside-leaves other beside = refl

-- an explicit task has met nothing before and behind
either-fits : (explicit : Bool) (met after : Option Meeting) (one : Open) → (explicit ≡ false → FitsOpen met one → FitsOpen after one) →
    FitsOpen (if explicit then None else met) one → FitsOpen (if explicit then None else after) one
either-fits true met after one keeps fits = fits
either-fits false met after one keeps fits = keeps refl fits

module _ (run : Run) (W after : World) (I J : Inside) (past : List EventRecord) (t : ℕ) (e : Event) (goes : Goes run W after I J past t e) where
  -- ---- places

  -- a task that has started, and no new one
  pub place-go : (k : ℕ) → IsTask W k → has_started (pooled_at W k).condition ≡ true → SamePlace W after k
  place-go k made started =
      let carried = started-go run W after I J past t e goes k made started in
      let region = goes.knows.sound.made.placed k made in
      record {
        explicit = ap is_explicit carried.kind;
        region = carried.region;
        thread = carried.thread;
        index = λ u. index-stays run W after I J past t e goes u (region_of W k) region.some region.below;
      }

  -- the current task has started
  pub current-started : 1 ≤ current W t → has_started (pooled_at W (current W t)).condition ≡ true
  current-started some = ap has_started (current-under-way W t goes.knows.sound.orderly some).started

  -- two members of a team have two numbers
  pub one-seat : (k : ℕ) → IsTask W k → is_explicit_task W k ≡ false → 1 ≤ current W t → is_explicit_task W (current W t) ≡ false →
      region_of W k ≡ current_region W t → index_of W k ≡ current_index W t → k ≡ current W t
  one-seat k made plain some own region index =
      let knows = goes.knows in
      elim (plain-kinds (pooled_at W k).kind plain) [
        | inl initial ↦
            let is : k ≡ INITIAL_TASK = knows.sound.orderly.alone k initial in
            elim (plain-kinds (pooled_at W (current W t)).kind own) [
              | inl other ↦ is ∙ sym (knows.sound.orderly.alone (current W t) other)
              | inr implicit ↦
                  let seated = member-seated run W I past t knows some implicit in
                  absurd (omega (arith, seated.0, region, ap (region_of W) is, knows.seats.initial))
            ]
        | inr implicit ↦
            let seated = knows.members.seated k made implicit in
            sym seated.member ∙ ap₂ (task_of_member W) region index
            ∙ plain-seated run W I past t knows some own (subst (λ (q : ℕ). 2 ≤ q) region seated.region)
      ]

  -- ---- the team of a task that isn't the current one

  abbrev Keeps : ℕ → ℕ → Open → Type 0
  Keeps q i one = FitsOpen (last_met (region_at W q).team i) one → FitsOpen (last_met (region_at after q).team i) one

  team-fits : (q i : ℕ) (one : Open) → TeamGoes W after t e q →
      (1 ≤ current W t → is_explicit_task W (current W t) ≡ false → q ≡ current_region W t → i ≡ current_index W t → ⊥) → Keeps q i one
  team-fits q i one (Left left) apart fits = subst (λ (team : TeamView). FitsOpen (last_met team i) one) (sym left.team) fits
  team-fits q i one (Met here meets) apart fits =
      let other : i ≡ current_index W t → ⊥ = apart (comes-some W t e meets.code goes.comes) meets.plain (sym here) in
      let team : (region_at after q).team ≡ after_meeting (region_at W q).team (current_index W t) meets.what =
      subst (λ (p : ℕ). (region_at after p).team ≡ after_meeting (region_at W p).team (current_index W t) meets.what) here meets.team in
      subst (λ (x : TeamView). FitsOpen (last_met x i) one) (sym team)
      (other-fits (region_at W q).team (current_index W t) meets.what i one other fits)
  team-fits q i one (Passed here passes) apart fits =
      let team : (region_at after q).team ≡ with_passed (region_at W q).team (current_index W t) =
      subst (λ (p : ℕ). (region_at after p).team ≡ with_passed (region_at W p).team (current_index W t)) here passes.team in
      subst (λ (x : TeamView). FitsOpen (last_met x i) one) (sym team)
      (subst (λ (met : Option Meeting). FitsOpen met one)
      (sym (same-last (region_at W q).team (with_passed (region_at W q).team (current_index W t)) (passed-met (region_at W q).team (current_index W t)) i))
      fits)

  -- it has open what it had
  pub other-opens : (k : ℕ) → k ≢ current W t → opens_at after k ≡ opens_at W k
  other-opens k other = goes.touches.opens k (λ of_code is. other is)

  other-go : WorksMet W → (k : ℕ) → IsTask W k → has_started (pooled_at W k).condition ≡ true → k ≢ current W t →
      AllFit (met_at after k) (opens_at after k)
  other-go works k made started other =
      let q = region_of W k in
      let i = index_of W k in
      let below : q < length W.regions = (goes.knows.sound.made.placed k made).below in
      let now : Option Meeting = if is_explicit_task W k then None else last_met (region_at after q).team i in
      subst₂ AllFit (sym (met-placed W after k (place-go k made started))) (sym (other-opens k other))
      (all-fit (met_at W k) now
      (λ one. either-fits (is_explicit_task W k) (last_met (region_at W q).team i) (last_met (region_at after q).team i) one
      (λ plain. team-fits q i one (team-goes run W after I J past t e q goes below)
      (λ some own region index. other (one-seat k made plain some own region index))))
      (opens_at W k) (works.fit k made))

  -- ---- the current task

  pub own-opens : opens_at after (current W t) ≡ opens_after (effect_of_event e) (opens_at W (current W t))
  own-opens =
      elim (cases_Bool (is_of_code e)) [
        | inl of_code ↦ goes.touches.opens_own of_code
        | inr beside ↦
            goes.touches.opens (current W t) (λ of_code is. true≢false (sym of_code ∙ beside))
            ∙ sym (ap (λ (effect : Effect). opens_after effect (opens_at W (current W t))) (beside-leaves e beside))
      ]

  pub own-made : 1 ≤ current W t → IsTask W (current W t)
  own-made some = (current-made W t goes.knows.sound.made some).made

  pub own-place : 1 ≤ current W t → SamePlace W after (current W t)
  own-place some = place-go (current W t) (own-made some) (current-started some)

  -- .. where it has met nothing more
  kept-go : WorksMet W → 1 ≤ current W t → SameMet (current_team W t) (region_at after (current_region W t)).team →
      FitsEffect (met_at W (current W t)) (effect_of_event e) → AllFit (met_at after (current W t)) (opens_at after (current W t))
  kept-go works some same opens =
      subst₂ AllFit (sym (met-kept W after (current W t) (own-place some) same)) (sym own-opens)
      (effect-fits (met_at W (current W t)) (effect_of_event e) (opens_at W (current W t)) opens (works.fit (current W t) (own-made some)))

  -- .. and where it has met what it has open now
  met-go : WorksMet W → 1 ≤ current W t → is_explicit_task W (current W t) ≡ false → (what : Meeting) (first : Bool) →
      answer_to_meet (current_team W t) (current_index W t) what ≡ Ok first →
      (region_at after (current_region W t)).team ≡ after_meeting (current_team W t) (current_index W t) what → met_at after (current W t) ≡ Some what
  met-go works some plain what first answer team =
      let k = current W t in
      let index : index_of W k ≡ current_index W t =
      ap (λ (u : ℕ). member_index W u (current_region W t)) (current-under-way W t goes.knows.sound.orderly some).thread in
      met-placed W after k (own-place some)
      ∙ cond-false (is_explicit_task W k) _ _ plain
      ∙ ap₂ last_met team index
      ∙ own-last (current_team W t) (current_index W t) what first (place-within run W I past t goes.knows some)
      (works.within (current_region W t) (current_index W t)) answer

module _ (run : Run) (W after : World) (I J : Inside) (past : List EventRecord) (t : ℕ) where
  abbrev OwnFits : Type 0
  OwnFits = AllFit (met_at after (current W t)) (opens_at after (current W t))

  same-go : (e : Event) → Goes run W after I J past t e → WorksMet W → 1 ≤ current W t → SameTeam W after (current_region W t) →
      FitsEffect (met_at W (current W t)) (effect_of_event e) → OwnFits
  same-go e goes works some team opens =
      kept-go run W after I J past t e goes works some (same-met (current_team W t) (region_at after (current_region W t)).team team) opens

  own-go : (e : Event) → Goes run W after I J past t e → MeetsFree W after t e → WorksMet W → 1 ≤ current W t → OwnFits
  own-go (Work Begin which count codeptr) goes begins works some =
      let e : Event = Work Begin which count codeptr in
      subst₂ AllFit (sym (met-go run W after I J past t e goes works some goes.comes.1 begins.what begins.first begins.answer begins.team))
      (sym (own-opens run W after I J past t e goes))
      (begins.fits, free-fit (Some begins.what) (opens_at W (current W t)) begins.free)
  own-go (Sync which stage.RegionBegin codeptr) goes free works some =
      let e : Event = Sync which stage.RegionBegin codeptr in
      let q = current_region W t in
      elim (cases_Bool (is_barrier which)) [
        | inl barrier ↦
            subst (AllFit (met_at after (current W t))) (sym (own-opens run W after I J past t e goes))
            (tt, free-fit (met_at after (current W t)) (opens_at W (current W t)) (free barrier))
        | inr not ↦
            same-go e goes works some
            (at-none (is_barrier which) (Meets W after t q (barrier_met codeptr which)) (SameTeam W after q) not (goes.touches.world.team q)) tt
      ]
    where
      at-none : (barrier : Bool) (P Q : Type 0) → barrier ≡ false → AtBarrierElse barrier P Q → Q
      at-none true P Q not holds = absurd (true≢false not)
      at-none false P Q not holds = holds
  own-go (Sync which stage.WaitEnd codeptr) goes free works some =
      let e : Event = Sync which stage.WaitEnd codeptr in
      let q = current_region W t in
      let passed : SameMet (current_team W t) (region_at after q).team =
      subst (SameMet (current_team W t)) (sym (goes.touches.world.team q)) (passed-if (is_barrier which) (q == q) (current_team W t) (current_index W t)) in
      kept-go run W after I J past t e goes works some passed tt
    where
      passed-if : (barrier here : Bool) (team : TeamView) (i : ℕ) → SameMet team (if barrier then (if here then with_passed team i else team) else team)
      passed-if true true team i = passed-met team i
      passed-if true false team i = same-met team team refl
      passed-if false here team i = same-met team team refl
  own-go (ParallelBegin r requested codeptr) goes free works some =
      let e : Event = ParallelBegin r requested codeptr in
      let q = current_region W t in
      let below : q < length W.regions = (region-made run W I past t goes.knows some).below in
      let other : q ≡ r → ⊥ = λ is. omega (arith, is, below, goes.comes.1.region) in
      same-go e goes works some (goes.touches.world.team q ∙ cond-false (q == r) _ _ (ne_eqb q r other)) tt
  own-go (Masked Begin codeptr) goes free works some = same-go (Masked Begin codeptr) goes works some (goes.touches.world.team (current_region W t)) tt
  own-go (Masked End codeptr) goes free works some = same-go (Masked End codeptr) goes works some (goes.touches.world.team (current_region W t)) tt
  own-go e goes free works some = same-go e goes works some (goes.touches.world.team (current_region W t)) tt

module _ (run : Run) (W after : World) (I J : Inside) (past : List EventRecord) (t : ℕ) (e : Event) (goes : Goes run W after I J past t e)
    (free : MeetsFree W after t e) (works : WorksMet W) where
  -- ---- any task

  -- one that has just been made, or hasn't started, has nothing open
  idle-go : (k : ℕ) → k ≢ current W t → opens_at W k ≡ [] → AllFit (met_at after k) (opens_at after k)
  idle-go k other none = none-fit (met_at after k) (opens_at after k) (other-opens run W after I J past t e goes k other ∙ none)

  old-go : (k : ℕ) → IsTask W k → AllFit (met_at after k) (opens_at after k)
  old-go k made =
      elim (cases_Bool (has_started (pooled_at W k).condition)) [
        | inl started ↦ elim (cases_eq k (current W t)) [
          | inl is ↦
              subst (λ (j : ℕ). AllFit (met_at after j) (opens_at after j)) (sym is)
              (own-go run W after I J past t e goes free works (subst (λ (j : ℕ). 1 ≤ j) is made.some))
          | inr other ↦ other-go run W after I J past t e goes works k made started other
        ]
        | inr not ↦
            idle-go k
            (λ is. true≢false (sym (current-started run W after I J past t e goes (subst (λ (j : ℕ). 1 ≤ j) is made.some))
            ∙ ap (λ (j : ℕ). has_started (pooled_at W j).condition) (sym is) ∙ not))
            (goes.knows.brackets.fresh k not)
      ]

  fit-go : (k : ℕ) → IsTask after k → AllFit (met_at after k) (opens_at after k)
  fit-go k made =
      elim (cases_eq k (length W.tasks)) [
        | inl is ↦ idle-go k (λ same. omega (arith, is, same, current-below W t goes.knows.sound.made)) (none-opens W k is)
        | inr other ↦
            old-go k (record { some = made.some; below = omega (arith, other, made.below, goes.touches.world.tasks, tasks-few e (length W.tasks)) })
      ]

  -- ---- teams

  team-within : (q : ℕ) → TeamGoes W after t e q → (i : ℕ) → (member_at (region_at after q).team i).met ≤ length (region_at after q).team.meetings
  team-within q (Left left) i = same-within (region_at W q).team (region_at after q).team (same-met _ _ left.team) i (works.within q i)
  team-within q (Met here meets) i =
      let some = comes-some W t e meets.code goes.comes in
      subst (λ (p : ℕ). (member_at (region_at after p).team i).met ≤ length (region_at after p).team.meetings) here
      (subst (λ (x : TeamView). (member_at x i).met ≤ length x.meetings) (sym meets.team)
      (met-within (current_team W t) (current_index W t) meets.what (place-within run W I past t goes.knows some) (works.within (current_region W t)) i))
  team-within q (Passed here passes) i =
      let team = current_team W t in
      subst (λ (p : ℕ). (member_at (region_at after p).team i).met ≤ length (region_at after p).team.meetings) here
      (subst (λ (x : TeamView). (member_at x i).met ≤ length x.meetings) (sym passes.team)
      (same-within team (with_passed team (current_index W t)) (passed-met team (current_index W t)) i (works.within (current_region W t) i)))

  within-go : (q i : ℕ) → (member_at (region_at after q).team i).met ≤ length (region_at after q).team.meetings
  within-go q i =
      elim (cases_lt q (length after.regions)) [
        | inr past-end ↦
            subst (λ (x : Region). (member_at x.team i).met ≤ length x.team.meetings) (sym (get_or_past after.regions q no_region past-end))
            (fresh-within 0 i)
        | inl made ↦ elim (cases_eq q (length W.regions)) [
          | inl is ↦ omega (arith, ap (λ (x : Member). x.met) ((fresh-region run W after I J past t e goes q is made).new i))
          | inr other ↦ team-within q (team-goes run W after I J past t e q goes (old-region run W after I J past t e goes q made other)) i
        ]
      ]

  pub works-go : WorksMet after
  works-go = record { within = within-go; fit = fit-go }
