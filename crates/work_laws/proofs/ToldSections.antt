-- What was told of the sections of a construct is the first of them, in the order of the text.
use Rattle.work_laws.proofs.Walks.{starting}
use Rattle.omp_model.specs.Words.{stored}
use Rattle.work_laws.proofs.Once.{entries-told, sections-all}
use Rattle.guard_laws.proofs.Masks.{all_told, legal-told, told-after, whole-told}
use Rattle.std.proofs.Common.{ℕ, suc, ◌≡◌, ◌<◌, ◌≤◌, ◌+◌, ◌==◌, ◌++◌, Bool, true, false, if◌then◌else◌, List, [], ◌∷◌, length, map, slice_index_or, refl, sym, ap, ap₂, ◌∙◌, subst, inl, inr, arith, take, slice_set, subst₂}
use Rattle.std.specs.Prelude.{Option, Some, None, option_map, slice_get}
use Rattle.std.proofs.lemmas.Bool.{and_parts, cases_lt, eqb-true}
use Rattle.std.proofs.lemmas.List.{length-append, length-map, map-append, get_or_past}
use Rattle.std.proofs.Math.Seq.{take-suc, take-length}
use Rattle.c_syntax.specs.language.Tree.{Tree, nothing, kind_of}
use Rattle.c_check.specs.Checked.{Checked}
use Rattle.c_model.specs.declared.point.WorkKind.TheVariants as work_kind
use Rattle.c_model.specs.Clauses.{section_statement, sections_of, statements_among}
use Rattle.c_model.specs.Formed.{IsProgramFormed}
use Rattle.c_model.specs.Parts.{parts}
use Rattle.c_model.specs.Program.{place_of}
use Rattle.team_parts.specs.declared.meeting.Meeting.{Meeting}
use Rattle.team_parts.specs.Meetings.{TeamMeeting}
use Rattle.team_parts.specs.Team.{TeamView, member_at, no_meeting}
use Rattle.omp_model.specs.declared.event.Callback.{Callback}
use Rattle.omp_model.specs.declared.event.Endpoint.TheVariants.{End}
use Rattle.omp_model.specs.declared.event.Event.{Event}
use Rattle.omp_model.specs.declared.event.Event.TheVariants.{Dispatch, Work}
use Rattle.omp_model.specs.declared.event.Outcome.{Outcome}
use Rattle.omp_model.specs.declared.event.Outcome.TheVariants as outcome
use Rattle.omp_model.specs.declared.event.Share.TheVariants.{Chunk, Section}
use Rattle.omp_model.specs.declared.history.Entry.{Entry}
use Rattle.omp_model.specs.declared.history.What.{What}
use Rattle.omp_model.specs.declared.history.What.TheVariants.{Go, Put, Back}
use Rattle.omp_model.specs.Conditions.{IsOrderly}
use Rattle.omp_model.specs.Legal.{AllowsFrom, Legal, after, after_from, does, entered, may, put_from}
use Rattle.omp_model.specs.MadeWorld.{IsMadeState, IsThread}
use Rattle.omp_model.specs.Members.{current_index, current_region, current_team}
use Rattle.omp_model.specs.State.{Region, Run, State, World, first, no_region, pending_at, region_at}
use Rattle.omp_model.specs.Turn.{enabled, turn, called}
use Rattle.omp_model.proofs.MadeRuns.{made-after}
use Rattle.omp_model.proofs.OrderlyRuns.{orderly-after}
use Rattle.omp_model.proofs.Turning.{GoFrom, Turned}
use Rattle.omp_model.proofs.Turns.{Leaves, leaves-turn, turn-goes}
use Rattle.nested_runs.proofs.Knows.{IsWholeRun, Goes}
use Rattle.nested_runs.proofs.Recorded.{event_in, inside}
use Rattle.nested_runs.proofs.Turned.{back-leads}
use Rattle.guard_laws.proofs.KnownStates.{after-one, some-within}
use Rattle.work_laws.specs.Sections.{HaveOwnPlaces, IsConstructOf, section_places, sections_met}
use Rattle.work_laws.specs.Told.{Telling, is_newest, meeting_of, nothing_told, told_of, with_entries, with_event, with_event_at, with_outcome, HaveEnded}
use Rattle.work_laws.proofs.CodeRuns.{AllHold, all-does, all-first}
use Rattle.work_laws.proofs.Events.{dispatch-still, goes, free, outside-callbacks, still-newest}
use Rattle.work_laws.proofs.Gos.{TeamIs, team-is}
use Rattle.work_laws.proofs.Gos.TeamIs.{Met, Same}
use Rattle.work_laws.proofs.NextSectionPlaces.{HasNext, IsNextSection, OnShare, same-what, turn-shares}
use Rattle.work_laws.proofs.ProgramConstructs.{own-place, IsKnown, KnownIn, functions-known, known-rules}
use Rattle.work_laws.proofs.Runs.{IsTold, same-back, stored-team, told-entry, first-told, more}
use Rattle.work_laws.proofs.Shares.{Tellings, TellsAt, newest-alike}
use Rattle.work_laws.proofs.Teams.{placed-last}

-- the first sections of a construct, so many
abbrev pub FrontOf : Tree → List ℕ → Type 0
FrontOf construct sections = sections ≡ map place_of (take (length sections) (statements_among (parts construct)))

-- what was told at a meeting of a construct of the program is the first of its sections
abbrev pub NamedAt : Run → Meeting → List ℕ → Type 0
NamedAt run what sections = (construct : Tree) → IsConstructOf run.program construct → what ≡ sections_met construct → FrontOf construct sections

abbrev pub Named : Run → World → Tellings → Type 0
Named run W told = (q n : ℕ) → NamedAt run (meeting_of (region_at W q).team n) (told q n).sections

-- ---- what keeps it

-- the meetings that were there are the same
abbrev StayAt : World → World → ℕ → ℕ → Type 0
StayAt W next q n = n < length (region_at W q).team.meetings → meeting_of (region_at next q).team n ≡ meeting_of (region_at W q).team n

carried : (run : Run) (W next : World) (told : Tellings) (q n : ℕ) (sections : List ℕ) → TellsAt W q n (told q n) → StayAt W next q n →
    sections ≡ (told q n).sections → NamedAt run (meeting_of (region_at W q).team n) (told q n).sections →
    NamedAt run (meeting_of (region_at next q).team n) sections
carried run W next told q n sections tells stay same named construct one is =
    elim (cases_lt n (length (region_at W q).team.meetings)) [
      | inl below ↦ subst (FrontOf construct) (sym same) (named construct one (sym (stay below) ∙ is))
      | inr beyond ↦
          let none : sections ≡ [] = same ∙ ap (λ (x : Telling). x.sections) (tells.none beyond) in subst (FrontOf construct) (sym none) refl
    ]

-- one more is told
more-front : (construct : Tree) (sections : List ℕ) (codeptr : ℕ) → FrontOf construct sections → length sections < length (sections_of construct) →
    codeptr ≡ place_of (slice_index_or (statements_among (parts construct)) (length sections) nothing) → FrontOf construct (sections ++ codeptr ∷ [])
more-front construct sections codeptr front within place =
    let all = statements_among (parts construct) in
    let count = length sections in
    let below : count < length all = omega (arith, within, length-map all (λ (tree : Tree). section_statement (kind_of tree) tree)) in
    let longer : length (sections ++ codeptr ∷ []) ≡ suc count = omega (arith, length-append sections (codeptr ∷ [])) in
    ap₂ (λ (xs : List ℕ) (x : ℕ). xs ++ x ∷ []) front place
    ∙ sym (map-append place_of (take count all) (slice_index_or all count nothing ∷ []))
    ∙ sym (ap (map place_of) (take-suc all count nothing below))
    ∙ sym (ap (λ (n : ℕ). map place_of (take n all)) longer)

-- a meeting of sections is there
met-there : (team : TeamView) (n : ℕ) (construct : Tree) → meeting_of team n ≡ sections_met construct → n < length team.meetings
met-there team n construct is =
    elim (cases_lt n (length team.meetings)) [
      | inl below ↦ below
      | inr beyond ↦
          let wrong : no_meeting.what ≡ sections_met construct =
          sym (ap (λ (met : TeamMeeting). met.what) (get_or_past team.meetings n no_meeting beyond)) ∙ is in cc
    ]

-- the same construct
same-construct : (run : Run) → HaveOwnPlaces run.program → (one other : Tree) → IsConstructOf run.program one → IsConstructOf run.program other →
    sections_met one ≡ sections_met other → one ≡ other
same-construct run own one other first second same =
    let place : place_of one ≡ place_of other = cc in own-place run.program own one other first second place

-- ---- the sections that events tell

told-if : (newest : Bool) (W : World) (t : ℕ) (e : Event) (told : Telling) → (with_event W t e told).sections ≡ told.sections →
    (if newest then with_event W t e told else told).sections ≡ told.sections
told-if true W t e told same = same
told-if false W t e told same = refl

module _ (run : Run) (S : State) (told : Tellings) (so : IsTold run S told) (own : HaveOwnPlaces run.program) (named : Named run S.world told) where
  keeps : (next : World) (q n : ℕ) (sections : List ℕ) → StayAt S.world next q n → sections ≡ (told q n).sections →
      NamedAt run (meeting_of (region_at next q).team n) sections
  keeps next q n sections stay same = carried run S.world next told q n sections (so.tells.teams q n) stay same (named q n)

  -- ---- a turn

  module _ (t : ℕ) (enters : enabled S t ≡ true) (made : IsMadeState run (turn run S t).state) (orderly : IsOrderly (turn run S t).state)
      (start : OnShare run S so.met t told S.world) where
    abbrev next : State
    next = (turn run S t).state

    outside : inside S t ≡ None
    outside = ap (option_map event_in) (turn-goes S t enters).outside

    there : IsThread S.world t
    there = outside-callbacks S t enters

    abbrev Shares : World → Type 0
    Shares W = OnShare run S so.met t told W

    -- a world to which silent steps have led
    alike-stay : (W : World) → Shares W → (q n : ℕ) → StayAt S.world W q n
    alike-stay W shares q n below = same-what (region_at S.world q).team (region_at W q).team n (shares.on.reached.alike.world.team q).met

    alike-count : (W : World) → Shares W → (q : ℕ) → length (region_at W q).team.meetings ≡ length (region_at S.world q).team.meetings
    alike-count W shares q =
        sym (length-map (region_at W q).team.meetings (λ (met : TeamMeeting). met.what))
        ∙ ap (λ (whats : List Meeting). length whats) (shares.on.reached.alike.world.team q).met
        ∙ length-map (region_at S.world q).team.meetings (λ (met : TeamMeeting). met.what)

    is-stay : (W : World) (q n : ℕ) → TeamIs W next.world t q → StayAt W next.world q n
    is-stay W q n (Same same) below = ap (λ (all : List TeamMeeting). (slice_index_or all n no_meeting).what) same.meetings
    is-stay W q n (Met here some plain what chunk is) below =
        let team = current_team W t in
        let before : (region_at W q).team ≡ team = ap (λ (q : ℕ). (region_at W q).team) here in
        ap (λ (x : TeamView). meeting_of x n) is
        ∙ ap (λ (met : TeamMeeting). met.what) (placed-last team (slice_get team.meetings (member_at team (current_index W t)).met) what n
        (subst (λ (x : TeamView). n < length x.meetings) before below))
        ∙ sym (ap (λ (x : TeamView). meeting_of x n) before)

    module _ (e : Event) (from : GoFrom run Shares t e next.world) (pending : next.pending ≡ slice_set S.pending t (Some (called e))) where
      abbrev W : World
      W = from.before

      went : Goes run W next.world (inside S) (inside next) so.met.known.past t e
      went = goes run S next so.met t e W from.holds.on.reached from.go made orderly there outside pending

      go-stay : (q n : ℕ) → StayAt S.world next.world q n
      go-stay q n below =
          let here : n < length (region_at W q).team.meetings = omega (arith, below, alike-count W from.holds q) in
          elim (cases_lt q (length W.regions)) [
            | inl old ↦
                is-stay W q n (team-is run W next.world (inside S) (inside next) so.met.known.past t e went
                (free run S next so.met t e W from.holds.on.reached from.go made orderly there outside pending) q old) here
                ∙ alike-stay W from.holds q n below
            | inr beyond ↦
                let none : region_at W q ≡ no_region = get_or_past W.regions q no_region beyond in
                absurd (omega (arith, here, ap (λ (x : Region). length x.team.meetings) none))
          ]

      -- an event that tells no section
      plain-go : ((x : Telling) → (with_event next.world t e x).sections ≡ x.sections) → Named run next.world (λ q n. with_event_at next.world t q n e (told q n))
      plain-go none q n = keeps next.world q n (with_event_at next.world t q n e (told q n)).sections (go-stay q n)
          (told-if (is_newest next.world t q n) next.world t e (told q n) (none (told q n)))

    section-go : (codeptr : ℕ) → GoFrom run Shares t (Dispatch (Section codeptr)) next.world →
        next.pending ≡ slice_set S.pending t (Some (called (Dispatch (Section codeptr)))) →
        Named run next.world (λ q n. with_event_at next.world t q n (Dispatch (Section codeptr)) (told q n))
    section-go codeptr from pending q n =
        either (is_newest next.world t q n) refl
      where
        e : Event
        e = Dispatch (Section codeptr)

        to : Goes run from.before next.world (inside S) (inside next) so.met.known.past t (Dispatch (Section codeptr))
        to = went (Dispatch (Section codeptr)) from pending

        next-one : IsNextSection run S so.met t told codeptr
        next-one = subst (HasNext run S so.met t told) to.comes.taken from.holds.next

        newest-at : is_newest next.world t q n ≡ is_newest S.world t q n
        newest-at =
            still-newest from.before next.world t (dispatch-still run S next so.met t told from.before from.holds.on made orderly there outside (Section codeptr) to) q n
            ∙ newest-alike S.world from.before from.holds.on.reached.alike.world t q n

        either : (newest : Bool) → is_newest next.world t q n ≡ newest →
            NamedAt run (meeting_of (region_at next.world q).team n) (if newest then record (told q n) { sections = (told q n).sections ++ codeptr ∷ [] } else told q n).sections
        either false is = keeps next.world q n (told q n).sections (go-stay (Dispatch (Section codeptr)) from pending q n) refl
        either true is = λ construct one what.
            let r = current_region S.world t in
            let own_met = (member_at (current_team S.world t) (current_index S.world t)).met in
            let here = and_parts (r == q) (own_met == n + 1) (sym newest-at ∙ is) in
            let there = and_parts (r == next-one.r) (own_met == next-one.n + 1) next-one.newest in
            let region : next-one.r ≡ q = sym (eqb-true r next-one.r there.0) ∙ eqb-true r q here.0 in
            let number : next-one.n ≡ n = omega (arith, eqb-true own_met (n + 1) here.1, eqb-true own_met (next-one.n + 1) there.1) in
            let at_start : meeting_of (region_at S.world q).team n ≡ sections_met next-one.construct =
            subst₂ (λ (q n : ℕ). meeting_of (region_at S.world q).team n ≡ sections_met next-one.construct) region number next-one.what in
            let within : length (told q n).sections < length (sections_of next-one.construct) =
            subst₂ (λ (q n : ℕ). length (told q n).sections < length (sections_of next-one.construct)) region number next-one.within in
            let place : codeptr ≡ place_of (slice_index_or (statements_among (parts next-one.construct)) (length (told q n).sections) nothing) =
            subst₂ (λ (q n : ℕ). codeptr ≡ place_of (slice_index_or (statements_among (parts next-one.construct)) (length (told q n).sections) nothing))
            region number next-one.place in
            let below : n < length (region_at S.world q).team.meetings = met-there (region_at S.world q).team n next-one.construct at_start in
            let same : next-one.construct ≡ construct =
            same-construct run own next-one.construct construct next-one.of_program one
            (sym at_start ∙ sym (go-stay (Dispatch (Section codeptr)) from pending q n below) ∙ what) in
            subst (λ (construct : Tree). FrontOf construct ((told q n).sections ++ codeptr ∷ [])) same
            (more-front next-one.construct (told q n).sections codeptr (named q n next-one.construct next-one.of_program at_start) within place)

    named-go : (e : Event) → GoFrom run Shares t e next.world → next.pending ≡ slice_set S.pending t (Some (called e)) →
        Named run next.world (λ q n. with_event_at next.world t q n e (told q n))
    named-go (Dispatch (Section codeptr)) from pending = section-go codeptr from pending
    named-go (Dispatch (Chunk begin count)) from pending = plain-go (Dispatch (Chunk begin count)) from pending (λ x. refl)
    named-go (Work End work_kind.Loop count codeptr) from pending = plain-go (Work End work_kind.Loop count codeptr) from pending (λ x. refl)
    named-go (Work End work_kind.Sections count codeptr) from pending = plain-go (Work End work_kind.Sections count codeptr) from pending (λ x. refl)
    named-go e from pending = plain-go e from pending (λ x. refl)

    quiet-go : Shares next.world → Named run next.world told
    quiet-go shares q n = keeps next.world q n (told q n).sections (alike-stay next.world shares q n) refl

    named-outcome : (came : Outcome) → Leaves S t next came → Turned run Shares t next.world came →
        Named run next.world (λ q n. with_outcome next.world t q n came (told q n))
    named-outcome (outcome.Happens e) leaves from = named-go e from leaves.2
    named-outcome outcome.Idle leaves shares = quiet-go shares
    named-outcome outcome.Quiet leaves shares = quiet-go shares
    named-outcome (outcome.Halts halt) leaves shares = quiet-go shares

    named-turn : Named run next.world (λ q n. with_outcome next.world t q n (turn run S t).outcome (told q n))
    named-turn = named-outcome (turn run S t).outcome (leaves-turn run S t) (turn-shares run S so.met t told start)

  -- ---- an entry

  team-stay : (next : World) → ((q : ℕ) → (region_at next q).team.meetings ≡ (region_at S.world q).team.meetings) → Named run next told
  team-stay next same q n =
      keeps next q n (told q n).sections (λ below. ap (λ (all : List TeamMeeting). (slice_index_or all n no_meeting).what) (same q)) refl

  named-entry : (t : ℕ) (what : What) → IsMadeState run (does run S t what) → IsOrderly (does run S t what) → may run S t what ≡ true →
      OnShare run S so.met t told S.world → Named run (does run S t what).world (more run S t what told)
  named-entry t Go made orderly enters start = named-turn t enters made orderly start
  named-entry t (Put place word) made orderly enters start = put-here (pending_at S t)
    where
      put-here : (callback : Option Callback) → Named run (put_from S t place word callback).world told
      put-here None = named
      put-here (Some callback) =
          team-stay (stored S.world place word) (λ q. ap (λ (x : TeamView). x.meetings) (stored-team S.world place word q))
  named-entry t Back made orderly enters start =
      let within = some-within run S so.met.known (pending_at S t) enters in
      let returns = (back-leads run S so.met.known.past so.met.known.stands.knows so.met.known.stands.unbroken t within.one made orderly within.is).returns in
      team-stay (does run S t Back).world (λ q.
      ap (λ (x : TeamView). x.meetings) (returns.team q) ∙ (same-back S.world t within.one.event q).meetings)

-- ---- a history

abbrev Knows : Run → World → Type 0
Knows run W = AllHold run (KnownIn run.program) (IsKnown run.program) (known-rules run.program) (functions-known run.program) W

share-start : (run : Run) (S : State) (told : Tellings) (so : IsTold run S told) (t : ℕ) → Knows run S.world → OnShare run S so.met t told S.world
share-start run S told so t known =
    record {
      on = starting run S so.met t told (so.idle t) so.tells;
      known = known;
      next = subst (HasNext run S so.met t told) (sym (so.idle t)) tt;
    }

named-from : (run : Run) (before : List Entry) (S : State) (rest : List Entry) (told : Tellings) → IsWholeRun run → HaveOwnPlaces run.program →
    after run before ≡ S → AllowsFrom run S rest → IsTold run S told → Knows run S.world → Named run S.world told →
    Named run (after_from run S rest).world (λ r n. with_entries run S r n rest (told r n))
named-from run before S [] told whole own is allows so known named = named
named-from run before S (entry ∷ rest) told whole own is allows so known named =
    let next = entered run S entry in
    let same : after run (before ++ entry ∷ []) ≡ next = after-one run (first run) before entry ∙ ap (λ (S : State). entered run S entry) is in
    let made : IsMadeState run next = subst (IsMadeState run) same (made-after run (before ++ entry ∷ []) whole.some) in
    let orderly : IsOrderly next = subst IsOrderly same (orderly-after run (before ++ entry ∷ []) whole.some) in
    named-from run (before ++ entry ∷ []) next rest (more run S entry.thread entry.what told) whole own same allows.1
    (told-entry run S told so entry.thread entry.what made orderly allows.0)
    (all-does run (KnownIn run.program) (IsKnown run.program) (known-rules run.program) (functions-known run.program) S entry.thread entry.what known)
    (named-entry run S told so own named entry.thread entry.what made orderly allows.0 (share-start run S told so entry.thread known))

named-after : (run : Run) (history : List Entry) → IsWholeRun run → HaveOwnPlaces run.program → Legal run history →
    Named run (after run history).world (λ r n. told_of run history r n)
named-after run history whole own legal =
    named-from run [] (first run) history (λ r n. nothing_told) whole own refl legal (first-told run whole)
    (all-first run (KnownIn run.program) (IsKnown run.program) (known-rules run.program) (functions-known run.program)) (λ q n construct one is. refl)

-- whichever callbacks are registered, where all members have ended
pub sections-in-order : (run : Run) (history : List Entry) (r n : ℕ) (construct : Tree) → 1 ≤ run.threads → run.threads ≤ 16 → Checked run.program →
    IsProgramFormed run.program → Legal run history → HaveOwnPlaces run.program → IsConstructOf run.program construct →
    let team = (region_at (after run history).world r).team in
    let told = told_of run history r n in
    meeting_of team n ≡ sections_met construct → HaveEnded team told → told.sections ≡ section_places construct
sections-in-order run history r n construct some few checked formed legal own one is ended =
    let whole = whole-told run some few checked formed in
    let all = statements_among (parts construct) in
    let sections = (told_of run history r n).sections in
    let team = (region_at (after run history).world r).team in
    let named : NamedAt run (meeting_of team n) sections =
    subst₂ (λ (S : State) (told : Telling). NamedAt run (meeting_of (region_at S.world r).team n) told.sections) (told-after run history)
    (entries-told run r n (first run) history nothing_told)
    (named-after (all_told run) history whole own (legal-told run whole history legal) r n) in
    let count : length sections ≡ length (sections_of construct) =
    sections-all run history r n some few checked formed legal (place_of construct) (length (sections_of construct)) is ended in
    let long : length sections ≡ length all = count ∙ length-map all (λ (tree : Tree). section_statement (kind_of tree) tree) in
    named construct one is ∙ ap (λ (count : ℕ). map place_of (take count all)) long ∙ ap (map place_of) (take-length all)
