-- Silent steps of a thread: a chunk or a section that one takes is the thread's share, and a member that is told that none is left has nothing left.
use Rattle.c_model.specs.declared.point.Work.{Work as Working}
use Rattle.c_model.specs.declared.point.Point.{Point}
use Rattle.c_model.specs.declared.point.Point.TheVariants as point
use Rattle.c_model.specs.declared.point.Work.TheVariants as work
use Rattle.std.proofs.Common.{ℕ, ◌≡◌, ◌≢◌, ◌+◌, ◌<◌, ◌≤◌, ◌==◌, ◌&&◌, ◌++◌, Bool, true, false, if◌then◌else◌, Option, Some, None, List, [], ◌∷◌, length, slice_index_or, slice_set, refl, sym, ap, ap₂, ◌∙◌, subst, subst₂, inl, inr, arith}
use Rattle.std.specs.Prelude.{is_some, option_map}
use Rattle.std.specs.List.{list_any}
use Rattle.std.proofs.lemmas.Bool.{and_from, and_parts, cases_Bool, cases_eq, cond-true, eq-eqb, eqb-true, or_left, true≢false}
use Rattle.std.proofs.lemmas.List.{get_or-set_other, get_or-set_same}
use Rattle.c_syntax.specs.language.Tree.{Tree, nothing}
use Rattle.c_model.specs.declared.point.WorkKind.TheVariants as work_kind
use Rattle.c_model.specs.declared.question.Answer.{Answer}
use Rattle.c_model.specs.declared.question.Answer.TheVariants as answer
use Rattle.c_model.specs.declared.question.Ask.TheVariants as ask
use Rattle.c_model.specs.declared.view.View.{View}
use Rattle.c_model.specs.Asked.{count_asked, sections_asked}
use Rattle.c_model.specs.Clauses.{statements_among}
use Rattle.c_model.specs.AfterEvents.{after_answer, tree_at_event}
use Rattle.c_model.specs.Parts.{flat_declarations, parts}
use Rattle.c_model.specs.Program.{place_of}
use Rattle.c_model.specs.Step.{settled_task, silent}
use Rattle.c_model.specs.Task.{Moment, Task as Code, Item}
use Rattle.c_model.specs.Task.Outcome.{Asks, StepsTo}
use Rattle.c_brackets.specs.Opened.{Open, open_task}
use Rattle.c_brackets.specs.Opened.Open.{Works}
use Rattle.c_brackets.specs.Returns.{HasReturnsOutside}
use Rattle.task_pool.specs.Tasks.{task_at as pool_task_at}
use Rattle.task_pool.specs.View.{PoolView}
use Rattle.team_parts.specs.declared.meeting.Meeting.{Meeting}
use Rattle.team_parts.specs.declared.meeting.Meeting.TheVariants as meeting
use Rattle.team_parts.specs.declared.meeting.TheConstants.{TEAM_LIMIT}
use Rattle.team_parts.specs.declared.member.Member.{Member}
use Rattle.team_parts.specs.Chunks.{chunk_in, section_in}
use Rattle.team_parts.specs.Team.{TeamView, after_chunk, after_section, after_taking, last_meeting, last_number, member_at, new_member, next_chunk, next_section, no_meeting, with_taken}
use Rattle.omp_model.specs.declared.limits.TheConstants.{IMPLICIT_REGION}
use Rattle.omp_model.specs.declared.event.Event.TheVariants.{Dispatch}
use Rattle.omp_model.specs.declared.event.Share.{Share}
use Rattle.omp_model.proofs.Alike.{AlikeWorld}
use Rattle.omp_model.proofs.Arrivals.{IsInTask}
use Rattle.omp_model.specs.Changes.{with_masked_skipped, gone_to, with_taken_share, with_team}
use Rattle.omp_model.specs.MadeWorld.{IsTask}
use Rattle.omp_model.specs.Members.{code_of, current, current_index, current_region, current_team, is_explicit_task, is_member, member_index, moment_of, region_of, view_of}
use Rattle.omp_model.specs.Silent.{answer_to, answered, answered_by, items_asking, share_of_chunk, share_of_section, share_taken, team_after}
use Rattle.omp_model.specs.State.{Region, Run, Task, World, no_region, no_task, region_at, task_at}
use Rattle.omp_model.proofs.AlikeWorlds.{alike-past as world-past}
use Rattle.omp_model.proofs.Guards.{member-made}
use Rattle.omp_model.proofs.Later.{at-set}
use Rattle.omp_model.proofs.Reading.{read-same}
use Rattle.omp_model.proofs.Rewrites.{region-below}
use Rattle.nested_runs.proofs.Shown.{opens_at}
use Rattle.nested_runs.proofs.Codes.{answer-open, settled-open, step-open}
use Rattle.nested_runs.proofs.PooledTasks.{current-made}
use Rattle.nested_runs.proofs.Stands.{asks-chunk, asks-section}
use Rattle.guard_laws.proofs.Dealing.{read-met}
use Rattle.guard_laws.proofs.DealtRuns.{IsAsked, chunk-asked, newest-fits, own-met, section-asked}
use Rattle.guard_laws.proofs.LastMeetings.{FitsOpen, MetLoop, MetSections, is_work, last_met}
use Rattle.guard_laws.proofs.WorksMet.{SamePlace, index_of, met_at, place-alike}
use Rattle.work_laws.specs.Told.{Telling, is_newest, with_event_at}
use Rattle.work_laws.proofs.Items.{AnyTree, AreRules, EachTree, IsConstruct}
use Rattle.work_laws.proofs.ItemSteps.{MayAnswer, MayEndSingle, holds-answer, holds-settled, holds-step, MayBegin, MayNext, MayWork, holds-asks}
use Rattle.work_laws.proofs.Meetings.{TellsMeeting, tells-chunk, tells-section}
use Rattle.work_laws.proofs.Teams.{IsFreeCode, IsOverAt, NoEnd, Standing, TellsTeam, over-taken-chunk, over-taken-section, standing-kept, tells-here, tells-there, AsksAt, ends-what, last_what, what-taken}
use Rattle.work_laws.proofs.Teams.Standing.{Behind, Outside, Within}

-- what was told of each meeting of each region's team
abbrev pub Tellings : Type 0
Tellings = ℕ → ℕ → Telling

-- the same with a share that a thread has taken and that wasn't told
abbrev pub with_share : World → ℕ → Option Share → Tellings → Tellings
with_share W t None told = told
with_share W t (Some share) told = λ q n. with_event_at W t q n (Dispatch share) (told q n)

abbrev pub TellsAt : World → ℕ → ℕ → Telling → Type 0
TellsAt W q n told = TellsTeam (length (region_at W q).team.members) (region_at W q).team.meetings n told

abbrev pub StandsIn : World → ℕ → Code → Type 0
StandsIn W k code = Standing code (region_at W (region_of W k)).team (index_of W k)

pub record Tells (W : World) (told : Tellings) : Type 0 where
  pub teams : (q n : ℕ) → TellsAt W q n (told q n)
  pub tasks : (k : ℕ) → IsTask W k → is_explicit_task W k ≡ false → StandsIn W k (task_at W k).code

any-trees : (trees : List Tree) → EachTree AnyTree trees
any-trees [] = tt
any-trees (tree ∷ trees) = (tt, any-trees trees)

pub any-construct : (construct : Tree) → IsConstruct AnyTree AnyTree construct
any-construct construct = record { statement = tt; section = λ place. tt; body = tt; self = tt }

pub any-rules : AreRules AnyTree AnyTree
any-rules =
    record {
      none = tt;
      no_construct = any-construct nothing;
      block = λ tree is any. any-trees (flat_declarations (parts tree));
      branches = λ tree is any. (tt, tt);
      repeated = λ tree is any. tt;
      looped = λ tree is any. tt;
      construct = λ tree which is any. any-construct tree;
    }

pub may-any-work : (what : Working) (construct : Tree) → MayWork AnyTree what construct
may-any-work (work.Loop start count step how) construct = tt
may-any-work (work.Sections count) construct = tt
may-any-work work.Single construct = tt

may-any-point : (what : Point) (item : Item) → MayBegin AnyTree what item
may-any-point (point.WorkBegin codeptr what) item = may-any-work what (tree_at_event item)
may-any-point other item = tt

-- whatever stands next
pub may-any-next : (what : Point) (items : List Item) → MayNext AnyTree what items
may-any-next what [] = tt
may-any-next what (item ∷ items) = may-any-point what item

pub single-ends : MayEndSingle NoEnd
single-ends = record { executor = tt; other = tt }

-- ---- worlds that are alike

-- a task that is in the same place
pub standing-placed : (W after : World) (k : ℕ) (code : Code) → SamePlace W after k →
    Standing code (region_at after (region_of W k)).team (index_of W k) → StandsIn after k code
standing-placed W after k code same stands =
    let index : index_of after k ≡ index_of W k =
    ap (λ (q : ℕ). member_index after (task_at after k).thread q) same.region
    ∙ (same.index (task_at after k).thread ∙ ap (λ (u : ℕ). member_index W u (region_of W k)) same.thread) in
    subst₂ (λ (q i : ℕ). Standing code (region_at after q).team i) (sym same.region) (sym index) stands

pub tasks-alike : (W after : World) → AlikeWorld W after →
    ((k : ℕ) → IsTask W k → is_explicit_task W k ≡ false → Standing (task_at after k).code (region_at after (region_of W k)).team (index_of W k)) →
    (k : ℕ) → IsTask after k → is_explicit_task after k ≡ false → StandsIn after k (task_at after k).code
tasks-alike W after alike stands k made plain =
    let place = place-alike W after alike k in
    standing-placed W after k (task_at after k).code place
    (stands k (record { some = made.some; below = omega (arith, made.below, alike.tasks) }) (sym place.explicit ∙ plain))

-- the member of a thread has had last what it had
pub newest-same : (W after : World) (t q n : ℕ) → current after t ≡ current W t → current_region after t ≡ current_region W t →
    current_index after t ≡ current_index W t →
    (member_at (region_at after (current_region W t)).team (current_index W t)).met ≡ (member_at (current_team W t) (current_index W t)).met →
    is_newest after t q n ≡ is_newest W t q n
newest-same W after t q n task region index met =
    let own : (member_at (current_team after t) (current_index after t)).met ≡ (member_at (current_team W t) (current_index W t)).met =
    ap₂ (λ (r i : ℕ). (member_at (region_at after r).team i).met) region index ∙ met in
    ap₂ (λ (r m : ℕ). r == q && m == n + 1) region own

pub newest-alike : (W after : World) → AlikeWorld W after → (t q n : ℕ) → is_newest after t q n ≡ is_newest W t q n
newest-alike W after alike t q n =
    let task : current after t ≡ current W t = ap (λ (stack : List ℕ). slice_index_or stack 0 0) (alike.thread t).stack in
    let pooled : (j : ℕ) → region_of after j ≡ region_of W j = λ j. ap (λ (pool : PoolView). (pool_task_at pool.tasks j).region) alike.pool in
    let region : current_region after t ≡ current_region W t = pooled (current after t) ∙ ap (region_of W) task in
    let index : current_index after t ≡ current_index W t =
    ap (member_index after t) region
    ∙ ap (λ (r : ℕ). if r == IMPLICIT_REGION then t else 0)
    (ap (region_of after) (alike.head (current_region W t)).task ∙ pooled (region_at W (current_region W t)).head.task) in
    newest-same W after t q n task region index
    (ap (λ (members : List Member). (slice_index_or members (current_index W t) new_member).met) (alike.team (current_region W t)).members)

-- ---- the code of a task changes

pub code-changed : (W : World) (k : ℕ) (now : Moment) (team : TeamView) (i j : ℕ) →
    (j ≡ k → Standing (task_at W k).code team i → Standing now.task team i) → Standing (task_at W j).code team i →
    Standing (task_at (gone_to W k now) j).code team i
code-changed W k now team i j changes stands =
    at-set (λ (x : Task). Standing x.code team i) no_task W.tasks k j (record (task_at W k) { code = now.task }) stands
    (λ is. changes is (subst (λ (j : ℕ). Standing (task_at W j).code team i) is stands))

-- with what is open in it
same-open : (code next : Code) → open_task next ≡ open_task code → IsFreeCode code → IsFreeCode next
same-open code next same free = ap (λ (opened : List Open). list_any is_work opened) same ∙ free

module _ (W : World) (t : ℕ) (told : Tellings) (tells : Tells W told) where
  -- what the task goes past
  pub tells-past : IsAsked W → Tells (with_masked_skipped W t) told
  tells-past asked =
      let k = current W t in
      let view = view_of W t in
      let after = with_masked_skipped W t in
      let now : Moment = record { task = settled_task view (code_of W t); store = W.store } in
      record {
        teams = tells.teams;
        tasks = tasks-alike W after (world-past W t) (λ j made plain.
            code-changed W k now (region_at W (region_of W j)).team (index_of W j) j
            (λ is. standing-kept (code_of W t) now.task _ _ _ (same-open (code_of W t) now.task (settled-open view (code_of W t)
            (asked.codes.orderly k)))
            (λ some ends. holds-settled AnyTree AnyTree _ NoEnd any-rules single-ends view (code_of W t) ends) (λ some. some) (λ some over. over))
            (tells.tasks j made plain));
      }

  module _ (run : Run) (returns : HasReturnsOutside run.program) (asked : IsAsked W) (at : IsInTask W t) where
    abbrev k : ℕ
    k = current W t

    abbrev r : ℕ
    r = current_region W t

    abbrev i : ℕ
    i = current_index W t

    abbrev team : TeamView
    team = current_team W t

    abbrev view : View
    view = view_of W t

    abbrev moment : Moment
    moment = moment_of W t

    -- ---- a step that asks nothing

    pub tells-step : (next : Moment) → AlikeWorld W (gone_to W k next) → silent run.program view moment ≡ StepsTo next → Tells (gone_to W k next) told
    tells-step next alike is =
        record {
          teams = tells.teams;
          tasks = tasks-alike W (gone_to W k next) alike (λ j made plain.
              code-changed W k next (region_at W (region_of W j)).team (index_of W j) j
              (λ here. standing-kept (code_of W t) next.task _ _ _
              (same-open (code_of W t) next.task (step-open run.program returns view moment next (asked.codes.orderly k) is))
              (λ some ends. holds-step AnyTree AnyTree _ NoEnd any-rules single-ends run.program view moment next (λ name. tt) ends is) (λ some. some)
              (λ some over. over))
              (tells.tasks j made plain));
        }

    -- ---- the current task's place

    own-index : index_of W k ≡ i
    own-index = ap (λ (u : ℕ). member_index W u r) (asked.threads t at.some)

    own-made : IsTask W k
    own-made = (current-made W t asked.made at.some).made

    own-within : i < length team.members
    own-within = (current-made W t asked.made at.some).within.member

    own-stands : is_explicit_task W k ≡ false → Standing (code_of W t) team i
    own-stands plain = subst (λ (i : ℕ). Standing (code_of W t) team i) own-index (tells.tasks k own-made plain)

    -- an explicit task has no such work open
    plain-of : (one : Open) (older : List Open) → opens_at W k ≡ one ∷ older → (FitsOpen None one → ⊥) → is_explicit_task W k ≡ false
    plain-of one older opens none =
        plain-if (is_explicit_task W k) refl
      where
        fits : FitsOpen (met_at W k) one
        fits = newest-fits run W t asked one older at.some opens

        plain-if : (explicit : Bool) → is_explicit_task W k ≡ explicit → is_explicit_task W k ≡ false
        plain-if true is = absurd (none (subst (λ (b : Bool). FitsOpen (if b then None else last_met (region_at W (region_of W k)).team
            (index_of W k)) one) is fits))
        plain-if false is = is

    busy : (one : Open) (older : List Open) → opens_at W k ≡ one ∷ older → is_work one ≡ true → IsFreeCode (code_of W t) → ⊥
    busy one older opens work free =
        let first : list_any is_work (one ∷ older) ≡ true = or_left (is_work one) (list_any is_work older) work in
        true≢false (sym first ∙ (sym (ap (λ (opened : List Open). list_any is_work opened) opens) ∙ free))

    -- it has met something
    some-met : (one : Open) (older : List Open) → opens_at W k ≡ one ∷ older → is_work one ≡ true → Standing (code_of W t) team i →
        1 ≤ (member_at team i).met
    some-met one older opens work (Outside free) = absurd (busy one older opens work free)
    some-met one older opens work (Within some ends) = some
    some-met one older opens work (Behind some over) = some

    -- ---- an answer, with a share and a team

    module _ (given : Answer) (share : Option Share) (next : TeamView) where
      abbrev now : Moment
      now = after_answer view given moment

      abbrev after : World
      after = with_team (with_taken_share (gone_to W k now) t share) r next

      abbrev region : Region
      region = record (region_at W r) { team = next }

      there : region_at after r ≡ region
      there = get_or-set_same W.regions r region no_region (region-below W t asked.made)

      elsewhere : (q : ℕ) → q ≢ r → region_at after q ≡ region_at W q
      elsewhere q other = get_or-set_other W.regions r q region no_region other

      -- who stands where
      tasks-answered : AlikeWorld W after →
          ((code : Code) (i : ℕ) → Standing code team i → Standing code next i) →
          (Standing (code_of W t) next i → Standing now.task next i) →
          (j : ℕ) → IsTask after j → is_explicit_task after j ≡ false → StandsIn after j (task_at after j).code
      tasks-answered alike moved own =
          tasks-alike W after alike (λ j made plain.
          let q = region_of W j in
          let stands : Standing (task_at W j).code (region_at after q).team (index_of W j) =
          at-set (λ (x : Region). Standing (task_at W j).code x.team (index_of W j)) no_region W.regions r q region (tells.tasks j made plain)
          (λ is. moved (task_at W j).code (index_of W j) (subst (λ (q : ℕ). Standing (task_at W j).code (region_at W q).team (index_of W j)) is
          (tells.tasks j made plain))) in
          code-changed W k now (region_at after q).team (index_of W j) j
          (λ is before.
          let own-team : (region_at after (region_of W k)).team ≡ next = ap (λ (x : Region). x.team) there in
          let here : (region_at after q).team ≡ next = ap (λ (j : ℕ). (region_at after (region_of W j)).team) is ∙ own-team in
          let index : index_of W j ≡ i = ap (index_of W) is ∙ own-index in
          subst₂ (λ (x : TeamView) (m : ℕ). Standing now.task x m) (sym here) (sym index)
          (own (subst₂ (λ (x : TeamView) (m : ℕ). Standing (code_of W t) x m) here index before)))
          stands)

      -- nothing was taken
      teams-left : next ≡ team → (q n : ℕ) → TellsAt after q n (told q n)
      teams-left same q n =
          let kept : (region_at after q).team ≡ (region_at W q).team = read-same (λ (x : Region). x.team) no_region W.regions r q region same in
          subst (λ (x : TeamView). TellsTeam (length x.members) x.meetings n (told q n)) (sym kept) (tells.teams q n)

      -- something was
      teams-taken : AlikeWorld W after → next ≡ after_taking team i → 1 ≤ (member_at team i).met → (change : Telling → Telling) →
          ((x : Telling) → TellsMeeting (length team.members) (last_meeting team i) x →
          TellsMeeting (length team.members) (with_taken (last_meeting team i) i) (change x)) →
          (q n : ℕ) → TellsAt after q n (if is_newest after t q n then change (told q n) else told q n)
      teams-taken alike taken some change changes q n =
          subst (λ (b : Bool). TellsAt after q n (if b then change (told q n) else told q n)) (sym (newest-alike W after alike t q n))
          (elim (cases_Bool (is_newest W t q n)) [
            | inl newest ↦
                let parts = and_parts (r == q) ((member_at team i).met == n + 1) newest in
                let same : q ≡ r = sym (eqb-true r q parts.0) in
                let number : n ≡ last_number team i = omega (arith, eqb-true (member_at team i).met (n + 1) parts.1) in
                subst (λ (b : Bool). TellsAt after q n (if b then change (told q n) else told q n)) (sym newest) (here same number)
            | inr older ↦
                subst (λ (b : Bool). TellsAt after q n (if b then change (told q n) else told q n)) (sym older)
                (elim (cases_eq q r) [
                  | inl same ↦ there-of same (λ number. true≢false (sym (newest-of same number) ∙ older))
                  | inr other ↦
                      subst (λ (x : Region). TellsTeam (length x.team.members) x.team.meetings n (told q n)) (sym (elsewhere q other)) (tells.teams q n)
                ])
          ])
        where
          now-team : (q : ℕ) → q ≡ r → (region_at after q).team ≡ after_taking team i
          now-team q same = ap (λ (q : ℕ). (region_at after q).team) same ∙ (ap (λ (x : Region). x.team) there ∙ taken)

          newest-of : q ≡ r → n ≡ last_number team i → is_newest W t q n ≡ true
          newest-of same number =
              and_from (r == q) ((member_at team i).met == n + 1) (eq-eqb r q (sym same))
              (eq-eqb (member_at team i).met (n + 1) (omega (arith, number, some)))

          own-tells : q ≡ r → TellsTeam (length team.members) team.meetings n (told q n)
          own-tells same = subst (λ (p : ℕ). TellsTeam (length (region_at W p).team.members) (region_at W p).team.meetings n (told q n)) same
              (tells.teams q n)

          here : q ≡ r → n ≡ last_number team i → TellsAt after q n (change (told q n))
          here same number =
              let below : n < length team.meetings = omega (arith, number, some, asked.works.within r i) in
              let before : TellsMeeting (length team.members) (last_meeting team i) (told q n) =
              subst (λ (m : ℕ). TellsMeeting (length team.members) (slice_index_or team.meetings m no_meeting) (told q n)) number
              ((own-tells same).some below) in
              subst (λ (x : TeamView). TellsTeam (length x.members) x.meetings n (change (told q n))) (sym (now-team q same))
              (subst (λ (m : ℕ). TellsTeam (length team.members) (slice_set team.meetings m (with_taken (last_meeting team i) i)) n (change
              (told q n))) number
              (tells-here (length team.members) team.meetings n (with_taken (last_meeting team i) i) (change (told q n)) below (changes
              (told q n) before)))

          there-of : q ≡ r → n ≢ last_number team i → TellsAt after q n (told q n)
          there-of same other =
              subst (λ (x : TeamView). TellsTeam (length x.members) x.meetings n (told q n)) (sym (now-team q same))
              (tells-there (length team.members) team.meetings (last_number team i) n (with_taken (last_meeting team i) i) (told q n) other
              (own-tells same))

      -- the code goes on, and ends no work by that
      own-goes : MayAnswer NoEnd given → Standing (code_of W t) next i → Standing now.task next i
      own-goes may stands =
          standing-kept (code_of W t) now.task next next i
          (same-open (code_of W t) now.task (answer-open view given moment (asked.codes.orderly k)))
          (λ some ends. holds-answer AnyTree AnyTree (AsksAt (last_what next i)) NoEnd any-rules single-ends view given moment may ends) (λ some. some) (λ some over. over) stands

    -- ---- a chunk

    -- what was met last is no other work
    loop-sections : (count : ℕ) (what : Meeting) (taken : List ℕ) → MetLoop count (Some what) → section_in what taken ≡ None
    loop-sections count (meeting.Loop at start whole step how) taken met = refl
    loop-sections count (meeting.Sections at whole) taken met = absurd met
    loop-sections count (meeting.Single at) taken met = absurd met
    loop-sections count (meeting.Barrier at kind) taken met = absurd met

    sections-loop : (count : ℕ) (what : Meeting) (size : ℕ) (taken : List ℕ) (member : ℕ) → MetSections count (Some what) →
        chunk_in what size taken member ≡ None
    sections-loop count (meeting.Loop at start whole step how) size taken member met = absurd met
    sections-loop count (meeting.Sections at whole) size taken member met = refl
    sections-loop count (meeting.Single at) size taken member met = absurd met
    sections-loop count (meeting.Barrier at kind) size taken member met = absurd met

    moved-same : (next : TeamView) → next ≡ team → (code : Code) (i : ℕ) → Standing code team i → Standing code next i
    moved-same next same code i stands = subst (λ (x : TeamView). Standing code x i) (sym same) stands

    over-left : (next : TeamView) → next ≡ team → (code : Code) → 1 ≤ (member_at team i).met → IsOverAt team i → Standing code next i
    over-left next same code some over = subst (λ (x : TeamView). Standing code x i) (sym same) (Behind some over)

    module _ (tree : Tree) (is : silent run.program view moment ≡ Asks ask.Chunk tree) where
      chunk-count : ℕ
      chunk-count = count_asked (items_asking W t)

      chunk-opens : (older : List Open) × (opens_at W k ≡ Works work_kind.Loop (count_asked (items_asking W t)) ∷ older)
      chunk-opens = asks-chunk run.program view moment tree (asked.codes.orderly k) is

      chunk-met : MetLoop (count_asked (items_asking W t)) (last_met team i)
      chunk-met =
          let count = count_asked (items_asking W t) in
          own-met run W t asked (MetLoop count) (λ none. none) at.some
          (newest-fits run W t asked (Works work_kind.Loop count) chunk-opens.0 at.some chunk-opens.1)

      chunk-some : 1 ≤ (member_at team i).met
      chunk-some =
          let one = Works work_kind.Loop (count_asked (items_asking W t)) in
          some-met one chunk-opens.0 chunk-opens.1 refl (own-stands (plain-of one chunk-opens.0 chunk-opens.1 (λ fits. fits)))

      chunk-sections : next_section team i ≡ None
      chunk-sections =
          let count = count_asked (items_asking W t) in
          loop-sections count (last_meeting team i).what (last_meeting team i).taken
          (read-met (MetLoop count) (λ none. none) team.meetings (last_number team i) chunk-met)

      chunk-case : (found : Option (ℕ × ℕ)) → next_chunk team i ≡ found → (next : TeamView) →
          next ≡ (if is_some found then after_taking team i else team) →
          let given = answer.Chunk found in
          let share = option_map share_of_chunk found in
          AlikeWorld W (after given share next) → Tells (after given share next) (with_share (after given share next) t share told)
      chunk-case None none next same alike =
          let given = answer.Chunk None in
          record {
            teams = teams-left given None next same;
            tasks = tasks-answered given None next alike (moved-same next same)
                (λ stands. over-left next same (after_answer view given moment).task chunk-some (none, chunk-sections));
          }
      chunk-case (Some chunk) found next taken alike =
          let given = answer.Chunk (Some chunk) in
          let share = Some (share_of_chunk chunk) in
          record {
            teams = teams-taken given share next alike taken chunk-some (λ x. record x { chunks = x.chunks ++ chunk ∷ [] })
                (λ x tells. tells-chunk (length team.members) (last_meeting team i) x i chunk own-within found tells);
            tasks = tasks-answered given share next alike
                (λ code j stands. subst (λ (x : TeamView). Standing code x j) (sym taken)
                (standing-kept code code team (after_taking team i) j (λ free. free)
                (λ some ends. ends-what (last_what team j) (last_what (after_taking team i) j) code (what-taken team i j) ends) (λ some. some)
                (λ some over. over-taken-chunk team i j chunk found over) stands))
                (own-goes given share next tt);
          }

      pub tells-chunked : AlikeWorld W (answered W t ask.Chunk tree) →
          let share = share_taken tree (answer_to W t ask.Chunk) in
          Tells (answered W t ask.Chunk tree) (with_share (answered W t ask.Chunk tree) t share told)
      tells-chunked alike =
          let P : Answer → Type 0 = λ given. AlikeWorld W (answered_by W t ask.Chunk tree given) →
          Tells (answered_by W t ask.Chunk tree given) (with_share (answered_by W t ask.Chunk tree given) t (share_taken tree given) told) in
          let so : P (answer.Chunk (next_chunk team i)) = chunk-case (next_chunk team i) refl (team_after W t ask.Chunk)
          (cond-true (is_member W t) (after_chunk team i) team (member-made W t asked.made at.some)) in
          subst P (sym (chunk-asked run W t asked tree is)) so alike

    -- ---- a section

    module _ (tree : Tree) (is : silent run.program view moment ≡ Asks ask.Section tree) where
      section-opens : (older : List Open) × (opens_at W k ≡ Works work_kind.Sections (sections_asked (items_asking W t)) ∷ older)
      section-opens = asks-section run.program view moment tree (asked.codes.orderly k) is

      section-met : MetSections (sections_asked (items_asking W t)) (last_met team i)
      section-met =
          let count = sections_asked (items_asking W t) in
          own-met run W t asked (MetSections count) (λ none. none) at.some
          (newest-fits run W t asked (Works work_kind.Sections count) section-opens.0 at.some section-opens.1)

      section-some : 1 ≤ (member_at team i).met
      section-some =
          let one = Works work_kind.Sections (sections_asked (items_asking W t)) in
          some-met one section-opens.0 section-opens.1 refl (own-stands (plain-of one section-opens.0 section-opens.1 (λ fits. fits)))

      -- what was met last, and that something was
      pub section-here : MetSections (sections_asked (items_asking W t)) (Some (last_meeting team i).what) × (1 ≤ (member_at team i).met)
      section-here = (
        read-met (MetSections (sections_asked (items_asking W t))) (λ none. none) team.meetings
            (last_number team i) section-met,
        section-some,
      )

      -- it is at the construct that asks, where a section is left
      pub section-asks : (section : ℕ) → next_section team i ≡ Some section → AsksAt (last_what team i) tree
      section-asks section next =
          let one = Works work_kind.Sections (sections_asked (items_asking W t)) in
          asks-standing (own-stands (plain-of one section-opens.0 section-opens.1 (λ fits. fits)))
        where
          asks-standing : Standing (code_of W t) team i → AsksAt (last_what team i) tree
          asks-standing (Outside free) =
              absurd (busy (Works work_kind.Sections (sections_asked (items_asking W t))) section-opens.0 section-opens.1 refl free)
          asks-standing (Within some ends) =
              (holds-asks AnyTree AnyTree (AsksAt (last_what team i)) NoEnd any-rules single-ends run.program view moment ask.Section tree (λ name. tt)
              ends is).1
          asks-standing (Behind some over) = let wrong : Some section ≡ None = sym next ∙ over.1 in cc

      section-chunks : next_chunk team i ≡ None
      section-chunks =
          let count = sections_asked (items_asking W t) in
          sections-loop count (last_meeting team i).what (length team.members) (last_meeting team i).taken i section-here.0

      section-case : length team.members ≤ TEAM_LIMIT → (found : Option ℕ) → next_section team i ≡ found → (next : TeamView) →
          next ≡ (if is_some found then after_taking team i else team) →
          let given = answer.Section found in
          let share = option_map (share_of_section tree) found in
          AlikeWorld W (after given share next) → Tells (after given share next) (with_share (after given share next) t share told)
      section-case few None none next same alike =
          let given = answer.Section None in
          record {
            teams = teams-left given None next same;
            tasks = tasks-answered given None next alike (moved-same next same)
                (λ stands. over-left next same (after_answer view given moment).task section-some (section-chunks, none));
          }
      section-case few (Some section) found next taken alike =
          let given = answer.Section (Some section) in
          let share = Some (share_of_section tree section) in
          let place = place_of (slice_index_or (statements_among (parts tree)) section nothing) in
          record {
            teams = teams-taken given share next alike taken section-some (λ x. record x { sections = x.sections ++ place ∷ [] })
                (λ x tells. tells-section (length team.members) (last_meeting team i) x i section place (omega (arith, own-within, few)) found tells);
            tasks = tasks-answered given share next alike
                (λ code j stands. subst (λ (x : TeamView). Standing code x j) (sym taken)
                (standing-kept code code team (after_taking team i) j (λ free. free)
                (λ some ends. ends-what (last_what team j) (last_what (after_taking team i) j) code (what-taken team i j) ends) (λ some. some)
                (λ some over. over-taken-section team i j section found over) stands))
                (own-goes given share next tt);
          }

      pub tells-sectioned : length team.members ≤ TEAM_LIMIT → AlikeWorld W (answered W t ask.Section tree) →
          let share = share_taken tree (answer_to W t ask.Section) in
          Tells (answered W t ask.Section tree) (with_share (answered W t ask.Section tree) t share told)
      tells-sectioned few alike =
          let P : Answer → Type 0 = λ given. AlikeWorld W (answered_by W t ask.Section tree given) →
          Tells (answered_by W t ask.Section tree given) (with_share (answered_by W t ask.Section tree given) t (share_taken tree given) told) in
          let so : P (answer.Section (next_section team i)) = section-case few (next_section team i) refl (team_after W t ask.Section)
          (cond-true (is_member W t) (after_section team i) team (member-made W t asked.made at.some)) in
          subst P (sym (section-asked run W t asked tree is)) so alike

    -- ---- a lock

    lock-team : (b : Bool) → (if b then team else team) ≡ team
    lock-team true = refl
    lock-team false = refl

    pub tells-locked : (wait_id : ℕ) (tree : Tree) → AlikeWorld W (answered W t (ask.LockFree wait_id) tree) →
        Tells (answered W t (ask.LockFree wait_id) tree) told
    tells-locked wait_id tree alike =
        let given = answer_to W t (ask.LockFree wait_id) in
        let next = team_after W t (ask.LockFree wait_id) in
        let same : next ≡ team = lock-team (is_member W t) in
        record {
          teams = teams-left given None next same;
          tasks = tasks-answered given None next alike (moved-same next same) (own-goes given None next tt);
        }
