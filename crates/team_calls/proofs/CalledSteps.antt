-- The silent steps of a turn: the calls that they make are in order, and move no member at its barrier.
use Rattle.omp_model.proofs.Turning.{AfterSilence}
use Rattle.team_calls.proofs.Follows.{words-met, words-size, words_of}
use Rattle.nested_runs.proofs.Turned.{sound-alike}
use Rattle.c_model.specs.Step.{silent}
use Rattle.nested_runs.proofs.RegionHeads.{plain-kinds, region-made}
use Rattle.nested_runs.proofs.Shown.{opens_at}
use Rattle.omp_model.proofs.Guards.{member-made}
use Rattle.std.specs.List.{list_any}
use Rattle.nested_runs.proofs.Keeping.{knows-stays}
use Rattle.team_words.specs.Calls.{is_member as is_member_of}
use Rattle.nested_runs.proofs.Recorded.{inside}
use Rattle.guard_laws.proofs.WorksMet.{index_of, met_at}
use Rattle.omp_model.specs.Conditions.{has_started}
use Rattle.omp_model.specs.Changes.{with_masked_skipped, gone_to}
use Rattle.std.proofs.lemmas.List.{get_or-set_other, get_or-set_same, append_assoc}
use Rattle.nested_runs.proofs.PooledTasks.{current-made, current-under-way}
use Rattle.c_model.specs.Asked.{count_asked, sections_asked}
use Rattle.omp_model.specs.Members.{code_of, current, current_index, current_region, current_team, is_explicit_task, is_member, member_index, moment_of, region_of, view_of}
use Rattle.std.proofs.lemmas.Bool.{cases_eq, cond-true, lt-ltb, or_left, true≢false, and_from}
use Rattle.nested_runs.proofs.Stands.{asks-chunk, asks-section}
use Rattle.team_calls.proofs.Lists.{asked-chunk, asked-section}
use Rattle.omp_model.specs.Gates.{arrival}
use Rattle.nested_runs.proofs.AlikeSteps.{alike-step, alike-past}
use Rattle.c_brackets.specs.Opened.Open.{Works}
use Rattle.work_laws.proofs.Teams.Standing.{Behind, Outside, Within}
use Rattle.omp_model.specs.Turn.{Walk, state_past_masked, walk, walk_by, walk_on, stepped, walked}
use Rattle.c_syntax.specs.language.Tree.{Tree}
use Rattle.work_laws.proofs.Shares.{Tellings, Tells, with_share}
use Rattle.team_parts.specs.Team.{TeamView, member_at}
use Rattle.team_words.specs.Team.{Team, met_by}
use Rattle.team_words.specs.Calls.TeamCall.{TakeChunk, TakeSection}
use Rattle.work_laws.proofs.Teams.{Standing}
use Rattle.omp_model.specs.Silent.{Silence, Stops, answered, items_asking, silence_of, silent_step, team_after, team_asked, Goes}
use Rattle.omp_model.specs.declared.event.Share.{Share}
use Rattle.omp_model.specs.State.{Region, Run, State, World, no_region, pooled_at, region_at}
use Rattle.c_model.specs.Task.{Outcome}
use Rattle.c_brackets.specs.Opened.{Open}
use Rattle.work_laws.proofs.Walks.{On, on-past, on-step}
use Rattle.omp_model.specs.declared.event.Halt.TheVariants.{Limit}
use Rattle.omp_model.specs.MadeWorld.{IsTask}
use Rattle.omp_model.proofs.Arrivals.{IsInTask}
use Rattle.guard_laws.proofs.DealtRuns.{IsAsked, IsMet, asked-reached, newest-fits}
use Rattle.omp_model.specs.declared.limits.TheConstants.{IMPLICIT_REGION, INITIAL_TASK, STEPS}
use Rattle.nested_runs.proofs.Knows.{Knows}
use Rattle.guard_laws.proofs.LastMeetings.{FitsOpen, is_work, last_met}
use Rattle.omp_model.specs.declared.event.Event.{Event}
use Rattle.omp_model.specs.declared.event.Arrival.TheVariants.{CodeEvent, Steps, Waits, RuntimeEvent}
use Rattle.c_model.specs.Task.Outcome.{Asks, Ends, Limits, Occurs, StepsTo, Traps}
use Rattle.c_model.specs.declared.question.Ask.{Ask}
use Rattle.omp_model.proofs.Arriving.{Arrives, arrives}
use Rattle.omp_model.specs.declared.event.Arrival.{Arrival}
use Rattle.team_calls.proofs.Called.{AllCalls, called-asks, called-same, called-stays, with-none, Called}
use Rattle.nested_runs.proofs.Touching.{Alike}
use Rattle.c_model.specs.declared.point.WorkKind.TheVariants as work_kind
use Rattle.c_model.specs.declared.question.Ask.TheVariants as ask
use Rattle.std.proofs.Common.{ℕ, zero, suc, ◌≡◌, ◌≢◌, ◌<◌, ◌≤◌, ◌+◌, ◌==◌, ◌&&◌, ◌++◌, Bool, true, false, if◌then◌else◌, List, [], ◌∷◌, length, refl, sym, ap, ◌∙◌, subst, inl, inr, arith, append-nil}
use Rattle.std.specs.Prelude.{Option, Some, None, nat_le, nat_lt}
use Rattle.team_calls.specs.Called.{calls_by, calls_of_step, calls_of_steps, calls_on, if_in}

none-some : (e : Event) → None ≡ Some e → ⊥
none-some e is = cc

module _ (run : Run) (S : State) (met : IsMet run S) (t : ℕ) (told : Tellings) (outside : inside S t ≡ None) where
  -- the calls so far, in a world to which silent steps have led
  pub record OnCalls (W : World) (calls : AllCalls) : Type 0 where
    pub on : On run S met t told W
    pub called : Called W (inside S) calls

  -- the calls of a step of the thread
  abbrev with_step : World → AllCalls → Outcome → AllCalls
  with_step W calls outcome = λ q. calls q ++ if_in W t q (calls_of_step (current_index W t) outcome)

  -- .. where it was made
  abbrev AfterStep : AllCalls → Silence → Type 0
  AfterStep calls (Goes after) = Called after (inside S) calls
  AfterStep calls (Stops halt) = Unit {0}

  module _ (W : World) (calls : AllCalls) (so : OnCalls W calls) (steps : arrival W t ≡ Steps) where
    at : IsInTask W t
    at = subst (Arrives W t) steps (arrives W t)

    asked : IsAsked W
    asked = asked-reached run S met t W so.on.reached

    tells : Tells W told
    tells = subst (λ (share : Option Share). Tells W (with_share W t share told)) at.quiet.taken so.on.tells

    knows : Knows run W (inside S) met.known.past
    knows =
        knows-stays run S.world W (inside S) (inside S) met.known.past
        (record {
          knows = met.known.stands.knows;
          unbroken = met.known.stands.unbroken;
          alike = so.on.reached.alike;
          taken = λ u event is. so.on.reached.taken u (λ same. none-some event (sym outside ∙ ap (inside S) (sym same) ∙ is));
          same = λ u. refl;
          sound = sound-alike run S.world W (inside S) met.known.stands.knows.sound so.on.reached.alike;
        })

    abbrev k : ℕ
    k = current W t

    abbrev r : ℕ
    r = current_region W t

    abbrev i : ℕ
    i = current_index W t

    abbrev team : TeamView
    team = current_team W t

    abbrev words : Team
    words = words_of (current_team W t) (calls (current_region W t))

    made : IsTask W k
    made = (current-made W t asked.made at.some).made

    -- what a work asks of: the task isn't explicit, and its member has met something
    plain-of : (one : Open) (older : List Open) → opens_at W k ≡ one ∷ older → (FitsOpen None one → ⊥) → is_explicit_task W k ≡ false
    plain-of one older opens none = plain-if (is_explicit_task W k) refl
      where
        fits : FitsOpen (met_at W k) one
        fits = newest-fits run W t asked one older at.some opens

        plain-if : (explicit : Bool) → is_explicit_task W k ≡ explicit → is_explicit_task W k ≡ false
        plain-if true is = absurd (none (subst (λ (b : Bool). FitsOpen (if b then None else last_met (region_at W (region_of W k)).team
            (index_of W k)) one) is fits))
        plain-if false is = is

    met-some : (one : Open) (older : List Open) → opens_at W k ≡ one ∷ older → is_work one ≡ true → is_explicit_task W k ≡ false → 1 ≤ (member_at team i).met
    met-some one older opens work plain =
        subst (λ (j : ℕ). 1 ≤ (member_at team j).met) (ap (λ (u : ℕ). member_index W u r) (asked.threads t at.some)) (standing (tells.tasks k made plain))
      where
        standing : Standing (code_of W t) team (index_of W k) → 1 ≤ (member_at team (index_of W k)).met
        standing (Outside free) =
            let first : list_any is_work (one ∷ older) ≡ true = or_left (is_work one) (list_any is_work older) work in
            absurd (true≢false (sym first ∙ (sym (ap (λ (opened : List Open). list_any is_work opened) opens) ∙ free)))
        standing (Within some ends) = some
        standing (Behind some over) = some

    -- it isn't in the region of the initial task before that has begun
    not-early : is_explicit_task W k ≡ false → has_started (pooled_at W INITIAL_TASK).condition ≡ false → r ≢ IMPLICIT_REGION
    not-early plain not here =
        elim (plain-kinds (pooled_at W k).kind plain) [
          | inl initial ↦
              true≢false (sym (ap has_started (current-under-way W t knows.sound.orderly at.some).started)
              ∙ ap (λ (j : ℕ). has_started (pooled_at W j).condition) (knows.sound.orderly.alone k initial) ∙ not)
          | inr implicit ↦
              let seated = knows.members.seated k made implicit in omega (arith, seated.region, here)
        ]

    below : r < length W.regions
    below = (region-made run W (inside S) met.known.past t knows at.some).below

    -- the team of the region after the answer
    team-there : (what : Ask) (tree : Tree) → (region_at (answered W t what tree) r).team ≡ team_asked team i what
    team-there what tree =
        let region : Region = record (region_at W r) { team = team_after W t what } in
        ap (λ (x : Region). x.team) (get_or-set_same W.regions r region no_region below)
        ∙ cond-true (is_member W t) (team_asked team i what) team (member-made W t asked.made at.some)

    team-elsewhere : (what : Ask) (tree : Tree) (q : ℕ) → q ≢ r → (region_at (answered W t what tree) q).team ≡ (region_at W q).team
    team-elsewhere what tree q other =
        ap (λ (x : Region). x.team) (get_or-set_other W.regions r q (record (region_at W r) { team = team_after W t what }) no_region other)

    words-within : i < length words.members
    words-within =
        omega (arith, (current-made W t asked.made at.some).within.member, words-size team (calls r) (so.called.follows r))

    may-take : 1 ≤ (member_at team i).met → (is_member_of words i && nat_lt 0 (length (met_by words i))) ≡ true
    may-take some =
        and_from (is_member_of words i) (nat_lt 0 (length (met_by words i))) (lt-ltb i (length words.members) words-within)
        (lt-ltb 0 (length (met_by words i)) (omega (arith, some, words-met team (calls r) (so.called.follows r) i)))

    chunk-step : (tree : Tree) → silent run.program (view_of W t) (moment_of W t) ≡ Asks ask.Chunk tree → Alike W (answered W t ask.Chunk tree) →
        Called (answered W t ask.Chunk tree) (inside S) (with_step W calls (Asks ask.Chunk tree))
    chunk-step tree is alike =
        let count = count_asked (items_asking W t) in
        let opens = asks-chunk run.program (view_of W t) (moment_of W t) tree (asked.codes.orderly k) is in
        let plain = plain-of (Works work_kind.Loop count) opens.0 opens.1 (λ fits. fits) in
        let some = met-some (Works work_kind.Loop count) opens.0 opens.1 refl plain in
        called-asks W (answered W t ask.Chunk tree) (inside S) alike calls r (TakeChunk i)
        (record { here = team-there ask.Chunk tree; there = team-elsewhere ask.Chunk tree }) so.called (may-take some) refl refl below (not-early plain)
        (λ j. asked-chunk words i j)

    section-step : (tree : Tree) → silent run.program (view_of W t) (moment_of W t) ≡ Asks ask.Section tree → Alike W (answered W t ask.Section tree) →
        Called (answered W t ask.Section tree) (inside S) (with_step W calls (Asks ask.Section tree))
    section-step tree is alike =
        let count = sections_asked (items_asking W t) in
        let opens = asks-section run.program (view_of W t) (moment_of W t) tree (asked.codes.orderly k) is in
        let plain = plain-of (Works work_kind.Sections count) opens.0 opens.1 (λ fits. fits) in
        let some = met-some (Works work_kind.Sections count) opens.0 opens.1 refl plain in
        called-asks W (answered W t ask.Section tree) (inside S) alike calls r (TakeSection i)
        (record { here = team-there ask.Section tree; there = team-elsewhere ask.Section tree }) so.called (may-take some) refl refl below (not-early plain)
        (λ j. asked-section words i j)

    -- nothing is asked of the team
    none-step : (after : World) → Alike W after → ((q : ℕ) → (region_at after q).team ≡ (region_at W q).team) →
        Called after (inside S) (λ q. calls q ++ (if current_region W t == q then [] else []))
    none-step after alike teams =
        called-same after (inside S) calls (λ q. calls q ++ (if current_region W t == q then [] else [])) (λ q. with-none calls r q)
        (called-stays W after (inside S) alike calls teams so.called)

    lock-team : (wait_id : ℕ) (tree : Tree) (q : ℕ) → (region_at (answered W t (ask.LockFree wait_id) tree) q).team ≡ (region_at W q).team
    lock-team wait_id tree q =
        elim (cases_eq q r) [
          | inl is ↦
              ap (λ (q : ℕ). (region_at (answered W t (ask.LockFree wait_id) tree) q).team) is
              ∙ team-there (ask.LockFree wait_id) tree ∙ sym (ap (λ (q : ℕ). (region_at W q).team) is)
          | inr other ↦ team-elsewhere (ask.LockFree wait_id) tree q other
        ]

    step-by : (outcome : Outcome) → silent run.program (view_of W t) (moment_of W t) ≡ outcome → AfterSilence (Alike W) (silence_of W t outcome) →
        AfterStep (with_step W calls outcome) (silence_of W t outcome)
    step-by (StepsTo next) is alike = none-step (gone_to W k next) alike (λ q. refl)
    step-by (Asks ask.Chunk tree) is alike = chunk-step tree is alike
    step-by (Asks ask.Section tree) is alike = section-step tree is alike
    step-by (Asks (ask.LockFree wait_id) tree) is alike = none-step (answered W t (ask.LockFree wait_id) tree) alike (lock-team wait_id tree)
    step-by (Occurs what tree) is alike = none-step W alike (λ q. refl)
    step-by (Ends number) is alike = none-step W alike (λ q. refl)
    step-by (Traps trap) is alike = tt
    step-by (Limits limit) is alike = tt

    step-called : AfterStep (with_step W calls (silent run.program (view_of W t) (moment_of W t))) (silent_step run W t)
    unfolding silent_step
    step-called =
        let sound = sound-alike run S.world W (inside S) met.known.stands.knows.sound so.on.reached.alike in
        step-by (silent run.program (view_of W t) (moment_of W t)) refl
        (alike-step run W t sound.whole.returns so.on.reached.alike.codes sound.made sound.orderly steps)

  -- what a task goes past
  pub past-called : (W : World) (calls : AllCalls) → OnCalls W calls → OnCalls (with_masked_skipped W t) calls
  past-called W calls so =
      record {
        on = on-past run S met t told W so.on;
        called = called-stays W (with_masked_skipped W t) (inside S) (alike-past W t so.on.reached.alike.codes) calls (λ q. refl) so.called;
      }

  -- ---- the steps of a turn

  by-silence : (state : State) (made : ℕ) (calls some : AllCalls) (silence : Silence) (more : World → Walk) (next : World → AllCalls) → OnCalls state.world calls →
      AfterSilence (On run S met t told) silence → AfterStep (λ q. calls q ++ some q) silence →
      ((W : World) (calls : AllCalls) → OnCalls W calls → OnCalls (more W).state.world (λ q. calls q ++ next W q)) →
      OnCalls (walk_by state made silence more).state.world (λ q. calls q ++ calls_by (some q) silence (λ W. next W q))
  by-silence state made calls some (Goes after) more next so on called goes =
      subst (OnCalls (more after).state.world) (λ i q. append_assoc (calls q) (some q) (next after q) i)
      (goes after (λ q. calls q ++ some q) (record { on = on; called = called }))
  by-silence state made calls some (Stops halt) more next so on called goes =
      subst (OnCalls state.world) (λ i q. sym (append-nil (calls q)) i) so

  no-more : (W : World) (calls : AllCalls) → OnCalls W calls → OnCalls W (λ q. calls q ++ [])
  no-more W calls so = subst (OnCalls W) (λ i q. sym (append-nil (calls q)) i) so

  on-limit : (state : State) (made : ℕ) (calls some : AllCalls) (over : Bool) (silence : Silence) (more : World → Walk) (next : World → AllCalls) →
      OnCalls state.world calls → OnCalls (with_masked_skipped state.world t) calls → AfterSilence (On run S met t told) silence → AfterStep (λ q. calls q ++ some q) silence →
      ((W : World) (calls : AllCalls) → OnCalls W calls → OnCalls (more W).state.world (λ q. calls q ++ next W q)) →
      OnCalls (if over then walked state made (Some (Limit STEPS)) else walk_by (state_past_masked state t) made silence more).state.world
      (λ q. calls q ++ (if over then [] else calls_by (some q) silence (λ W. next W q)))
  on-limit state made calls some true silence more next so past on called goes = no-more state.world calls so
  on-limit state made calls some false silence more next so past on called goes = by-silence (state_past_masked state t) made calls some silence more next past on called goes

  on-arrival : (state : State) (made : ℕ) (calls : AllCalls) (came : Arrival) (more : World → Walk) (next : World → AllCalls) → arrival state.world t ≡ came →
      OnCalls state.world calls → ((W : World) (calls : AllCalls) → OnCalls W calls → OnCalls (more W).state.world (λ q. calls q ++ next W q)) →
      OnCalls (walk_on run state t made came more).state.world (λ q. calls q ++ calls_on run state t q came (λ W. next W q))
  on-arrival state made calls Steps more next is so goes =
      on-limit state made calls
      (λ q. if_in state.world t q (calls_of_step (current_index state.world t) (silent run.program (view_of state.world t) (moment_of state.world t))))
      (nat_le run.steps state.steps) (silent_step run state.world t) more next so (past-called state.world calls so)
      (on-step run S met t told state.world so.on is) (step-called state.world calls so is) goes
  on-arrival state made calls Waits more next is so goes = no-more state.world calls so
  on-arrival state made calls CodeEvent more next is so goes = no-more state.world calls so
  on-arrival state made calls (RuntimeEvent event) more next is so goes = no-more state.world calls so

  pub walk-called : (left made : ℕ) (state : State) (calls : AllCalls) → OnCalls state.world calls →
      OnCalls (walk run left made state t).state.world (λ q. calls q ++ calls_of_steps run left state t q)
  unfolding walk calls_of_steps
  walk-called zero made state calls so = no-more state.world calls so
  walk-called (suc left) made state calls so =
      on-arrival state made calls (arrival state.world t) (λ after. walk run left (made + 1) (stepped state after) t)
      (λ after q. calls_of_steps run left (stepped state after) t q) refl so
      (λ W calls now. walk-called left (made + 1) (stepped state W) calls now)
