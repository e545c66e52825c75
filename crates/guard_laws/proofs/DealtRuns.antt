-- After each legal history, and after silent steps of a thread, what is asked of a team is what the member has met last: what it deals fits.
use Rattle.std.proofs.Common.{ℕ, ◌≡◌, ◌≤◌, ◌++◌, Bool, true, false, if◌then◌else◌, List, [], ◌∷◌, length, refl, sym, ap, ◌∙◌, subst, inl, inr, arith}
use Rattle.std.specs.Prelude.{Option, None}
use Rattle.std.proofs.lemmas.Bool.{cases_lt}
use Rattle.c_syntax.specs.language.Tree.{Tree}
use Rattle.c_check.specs.Checked.{Checked}
use Rattle.c_model.specs.declared.point.WorkKind.TheVariants as work_kind
use Rattle.c_model.specs.declared.question.Answer.TheVariants as answer
use Rattle.c_model.specs.declared.question.Ask.{Ask}
use Rattle.c_model.specs.declared.question.Ask.TheVariants as ask
use Rattle.c_model.specs.Asked.{count_asked, sections_asked}
use Rattle.c_model.specs.Formed.{IsProgramFormed}
use Rattle.c_model.specs.Step.{items_from_next, silent, step_at}
use Rattle.c_model.specs.Task.{Item}
use Rattle.c_model.specs.Task.Outcome.{Asks}
use Rattle.c_brackets.specs.Opened.{Open}
use Rattle.c_brackets.specs.Opened.Open.{Works}
use Rattle.team_parts.specs.declared.meeting.Meeting.{Meeting}
use Rattle.team_parts.specs.Team.{next_chunk, next_section}
use Rattle.omp_model.specs.declared.event.Outcome.{Outcome}
use Rattle.omp_model.specs.declared.event.Outcome.TheVariants as outcome
use Rattle.omp_model.specs.declared.history.Entry.{Entry}
use Rattle.omp_model.specs.declared.history.What.{What}
use Rattle.omp_model.specs.declared.history.What.TheVariants.{Go, Put, Back}
use Rattle.omp_model.specs.Conditions.{IsOrderly}
use Rattle.omp_model.specs.Legal.{AllowsFrom, Legal, after, after_from, does, entered, may}
use Rattle.omp_model.specs.MadeWorld.{IsMadeState, IsMadeWorld}
use Rattle.omp_model.specs.Members.{code_of, current, current_index, current_region, current_team, is_explicit_task, member_index, moment_of, view_of}
use Rattle.omp_model.specs.Silent.{answer_to, fitting_chunk, fitting_section, items_asking}
use Rattle.omp_model.specs.State.{Run, State, World, first, pending_at, task_at}
use Rattle.omp_model.specs.Turn.{Walk, turn, walk}
use Rattle.omp_model.proofs.Guards.{member-made}
use Rattle.omp_model.proofs.MadeRuns.{made-after}
use Rattle.omp_model.proofs.OrderlyRuns.{orderly-after}
use Rattle.omp_model.proofs.Turning.{of-walk}
use Rattle.nested_runs.proofs.Knows.{IsWholeRun}
use Rattle.nested_runs.proofs.Recorded.{inside}
use Rattle.nested_runs.proofs.Shown.{opens_at}
use Rattle.nested_runs.proofs.Touching.{AreCodes}
use Rattle.nested_runs.proofs.AlikeSteps.{alike-same}
use Rattle.nested_runs.proofs.Keeping.{knows-stays}
use Rattle.nested_runs.proofs.PooledTasks.{current-made, current-under-way}
use Rattle.nested_runs.proofs.Stands.{asks-chunk, asks-section}
use Rattle.nested_runs.proofs.Turned.{Led, Reaches, back-leads, put-leads, reaches-past, reaches-step, sound-alike, turn-leads}
use Rattle.guard_laws.proofs.Dealing.{dealt-chunk, dealt-section}
use Rattle.guard_laws.proofs.KnownStates.{KnownState, after-one, known-entry, known-first, some-within}
use Rattle.guard_laws.proofs.LastMeetings.{AllFit, FitsOpen, MetLoop, MetSections, last_met}
use Rattle.guard_laws.proofs.Masks.{all_told, legal-told, told-after, told-walk, whole-told}
use Rattle.guard_laws.proofs.WorkBegins.{meets-free}
use Rattle.guard_laws.proofs.WorkGos.{works-go}
use Rattle.guard_laws.proofs.WorksMet.{WorksMet, index_of, met_at, works-back, works-first, works-stays}

-- ---- the entries of a history

module _ (run : Run) (S : State) (known : KnownState run S) (works : WorksMet S.world) where
  pub works-turn : (next : State) (t : ℕ) (came : Outcome) → Led run S next known.past t came → WorksMet next.world
  works-turn next t (outcome.Happens e) led =
      let goes = led.goes (knows-stays run S.world led.before (inside S) (inside S) known.past led.stays) in
      works-go run led.before next.world (inside S) (inside next) known.past t e goes
      (meets-free run led.before next.world t e goes.knows.sound.made goes.knows.codes led.go) (works-stays S.world led.before led.stays.alike works)
  works-turn next t outcome.Idle led = works-stays S.world next.world led.alike works
  works-turn next t outcome.Quiet led = works-stays S.world next.world led.alike works
  works-turn next t (outcome.Halts halt) led = works-stays S.world next.world led.alike works

  pub works-entry : (t : ℕ) (what : What) → IsMadeState run (does run S t what) → IsOrderly (does run S t what) → may run S t what ≡ true →
      WorksMet (does run S t what).world
  works-entry t Go made orderly goes =
      works-turn (turn run S t).state t (turn run S t).outcome (turn-leads run S known.past known.stands.knows known.stands.unbroken t made orderly goes)
  works-entry t (Put place word) made orderly goes =
      works-stays S.world (does run S t (Put place word)).world
      (put-leads run S known.past known.stands.knows known.stands.unbroken t place word made orderly).alike works
  works-entry t Back made orderly goes =
      let within = some-within run S known (pending_at S t) goes in
      works-back S.world (does run S t Back).world t within.one.event
      (back-leads run S known.past known.stands.knows known.stands.unbroken t within.one made orderly within.is).returns works

pub record IsMet (run : Run) (S : State) : Type 0 where
  pub known : KnownState run S
  pub works : WorksMet S.world

met-from : (run : Run) (before : List Entry) (S : State) (rest : List Entry) → IsWholeRun run → after run before ≡ S → AllowsFrom run S rest →
    IsMet run S → IsMet run (after_from run S rest)
met-from run before S [] whole is allows met = met
met-from run before S (entry ∷ rest) whole is allows met =
    let next = entered run S entry in
    let same : after run (before ++ entry ∷ []) ≡ next = after-one run (first run) before entry ∙ ap (λ (S : State). entered run S entry) is in
    let made : IsMadeState run next = subst (IsMadeState run) same (made-after run (before ++ entry ∷ []) whole.some) in
    let orderly : IsOrderly next = subst IsOrderly same (orderly-after run (before ++ entry ∷ []) whole.some) in
    met-from run (before ++ entry ∷ []) next rest whole same allows.1
    (record {
      known = known-entry run S met.known entry.thread entry.what made orderly allows.0;
      works = works-entry run S met.known met.works entry.thread entry.what made orderly allows.0;
    })

-- after each legal history
pub met-after : (run : Run) (history : List Entry) → IsWholeRun run → Legal run history → IsMet run (after run history)
met-after run history whole legal =
    met-from run [] (first run) history whole refl legal (record { known = known-first run whole; works = works-first run })

-- ---- what is asked

-- a world in which all is known that is so of silent steps
pub record IsAsked (W : World) : Type 0 where
  pub made : IsMadeWorld W
  pub threads : (t : ℕ) → 1 ≤ current W t → (task_at W (current W t)).thread ≡ t
  pub codes : AreCodes W
  pub works : WorksMet W

-- who has no task asks nothing
pub asks-none : (run : Run) (W : World) (t : ℕ) (what : Ask) (tree : Tree) → (code_of W t).todo ≡ [] →
    silent run.program (view_of W t) (moment_of W t) ≡ Asks what tree → ⊥
unfolding silent items_from_next
asks-none run W t what tree none is =
    let ends = sym (ap (λ (items : List Item). step_at (items_from_next (view_of W t) items) run.program (view_of W t) (moment_of W t)) none) ∙ is in
    let wrong : ⊥ = cc in wrong

module _ (run : Run) (W : World) (t : ℕ) (asked : IsAsked W) where
  pub asks-some : (what : Ask) (tree : Tree) → silent run.program (view_of W t) (moment_of W t) ≡ Asks what tree → 1 ≤ current W t
  asks-some what tree is =
      elim (cases_lt 0 (current W t)) [
        | inl some ↦ some
        | inr none ↦
            let zeroth : current W t ≡ 0 = omega (arith, none) in
            absurd (asks-none run W t what tree (ap (λ (k : ℕ). (task_at W k).code.todo) zeroth ∙ asked.codes.none) is)
      ]

  -- an explicit task has met nothing
  pub own-met : (P : Option Meeting → Type 0) → (P None → ⊥) → 1 ≤ current W t → P (met_at W (current W t)) → P (last_met (current_team W t) (current_index W t))
  own-met P none some met =
      subst (λ (u : ℕ). P (last_met (current_team W t) (member_index W u (current_region W t)))) (asked.threads t some)
      (plain (is_explicit_task W (current W t)) met)
    where
      plain : (explicit : Bool) → P (if explicit then None else last_met (current_team W t) (index_of W (current W t))) →
          P (last_met (current_team W t) (index_of W (current W t)))
      plain true met = absurd (none met)
      plain false met = met

  pub newest-fits : (one : Open) (older : List Open) → 1 ≤ current W t → opens_at W (current W t) ≡ one ∷ older → FitsOpen (met_at W (current W t)) one
  newest-fits one older some opens =
      (subst (AllFit (met_at W (current W t))) opens (asked.works.fit (current W t) (current-made W t asked.made some).made)).0

  pub team-some : 1 ≤ current W t → 1 ≤ length (current_team W t).members
  team-some some =
      let within = (current-made W t asked.made some).within in
      let region = asked.made.regions (current_region W t) within.made in
      omega (arith, region.team, region.some)

  pub chunk-asked : (tree : Tree) → silent run.program (view_of W t) (moment_of W t) ≡ Asks ask.Chunk tree →
      answer_to W t ask.Chunk ≡ answer.Chunk (next_chunk (current_team W t) (current_index W t))
  chunk-asked tree is =
      let some = asks-some ask.Chunk tree is in
      let count = count_asked (items_asking W t) in
      let found = asks-chunk run.program (view_of W t) (moment_of W t) tree (asked.codes.orderly (current W t)) is in
      let met : MetLoop count (last_met (current_team W t) (current_index W t)) =
      own-met (MetLoop count) (λ none. none) some (newest-fits (Works work_kind.Loop count) found.0 some found.1) in
      ap (λ (b : Bool). answer.Chunk (fitting_chunk count (if b then next_chunk (current_team W t) (current_index W t) else None)))
      (member-made W t asked.made some)
      ∙ ap (λ (chunk : Option (ℕ × ℕ)). answer.Chunk chunk) (dealt-chunk (current_team W t) (current_index W t) count (team-some some) met)

  pub section-asked : (tree : Tree) → silent run.program (view_of W t) (moment_of W t) ≡ Asks ask.Section tree →
      answer_to W t ask.Section ≡ answer.Section (next_section (current_team W t) (current_index W t))
  section-asked tree is =
      let some = asks-some ask.Section tree is in
      let count = sections_asked (items_asking W t) in
      let found = asks-section run.program (view_of W t) (moment_of W t) tree (asked.codes.orderly (current W t)) is in
      let met : MetSections count (last_met (current_team W t) (current_index W t)) =
      own-met (MetSections count) (λ none. none) some (newest-fits (Works work_kind.Sections count) found.0 some found.1) in
      ap (λ (b : Bool). answer.Section (fitting_section count (if b then next_section (current_team W t) (current_index W t) else None)))
      (member-made W t asked.made some)
      ∙ ap (λ (section : Option ℕ). answer.Section section) (dealt-section (current_team W t) (current_index W t) count met)

-- ---- the silent steps of a turn

-- in a world to which silent steps of a thread have led
pub asked-reached : (run : Run) (S : State) → IsMet run S → (t : ℕ) (W : World) → Reaches S.world t W → IsAsked W
asked-reached run S met t W reached =
    let sound = sound-alike run S.world W (inside S) met.known.stands.knows.sound reached.alike in
    record {
      made = sound.made;
      threads = λ u some. (current-under-way W u sound.orderly some).thread;
      codes = reached.alike.codes;
      works = works-stays S.world W reached.alike met.works;
    }

pub asked-walk : (run : Run) (history : List Entry) (t steps : ℕ) → IsWholeRun run → Legal run history →
    IsAsked (walk run steps 0 (after run history) t).state.world
asked-walk run history t steps whole legal =
    let S = after run history in
    let met = met-after run history whole legal in
    let knows = met.known.stands.knows in
    let start : Reaches S.world t S.world = record { alike = alike-same S.world knows.codes; taken = λ u other. refl } in
    asked-reached run S met t (walk run steps 0 S t).state.world
    (of-walk run t (Reaches S.world t) (reaches-past run S met.known.past knows met.known.stands.unbroken t)
    (reaches-step run S met.known.past knows met.known.stands.unbroken t) steps 0 S start)

-- .. whichever callbacks are registered
asked-told : (run : Run) (history : List Entry) (t steps : ℕ) → 1 ≤ run.threads → run.threads ≤ 16 → Checked run.program → IsProgramFormed run.program →
    Legal run history → IsAsked (walk run steps 0 (after run history) t).state.world
asked-told run history t steps some few checked formed legal =
    let whole = whole-told run some few checked formed in
    subst IsAsked
    (ap (λ (S : State). (walk (all_told run) steps 0 S t).state.world) (told-after run history)
    ∙ ap (λ (w : Walk). w.state.world) (told-walk run steps 0 (after run history) t))
    (asked-walk (all_told run) history t steps whole (legal-told run whole history legal))

module _ (run : Run) (history : List Entry) (t steps : ℕ) (tree : Tree) (some : 1 ≤ run.threads) (few : run.threads ≤ 16) (checked : Checked run.program)
    (formed : IsProgramFormed run.program) (legal : Legal run history) where
  abbrev W : World
  W = (walk run steps 0 (after run history) t).state.world

  pub chunk-given : silent run.program (view_of W t) (moment_of W t) ≡ Asks ask.Chunk tree →
      answer_to W t ask.Chunk ≡ answer.Chunk (next_chunk (current_team W t) (current_index W t))
  chunk-given is = chunk-asked run W t (asked-told run history t steps some few checked formed legal) tree is

  pub section-given : silent run.program (view_of W t) (moment_of W t) ≡ Asks ask.Section tree →
      answer_to W t ask.Section ≡ answer.Section (next_section (current_team W t) (current_index W t))
  section-given is = section-asked run W t (asked-told run history t steps some few checked formed legal) tree is
