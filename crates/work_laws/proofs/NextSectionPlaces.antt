-- Where a turn comes to the dispatch of a section, that is the next one of a construct of the program, which the thread's member has met last.
use Rattle.omp_model.proofs.Rewrites.{thread-below}
use Rattle.omp_model.specs.Words.{is_made_thread}
use Rattle.std.proofs.lemmas.List.{get_or-set_same}
use Rattle.omp_model.proofs.Arriving.{Arrives, arrives}
use Rattle.std.proofs.Common.{ℕ, ◌≡◌, ◌<◌, ◌+◌, ◌==◌, true, List, length, slice_index_or, refl, sym, ap, ap₂, ◌∙◌, subst, inl, inr, arith}
use Rattle.std.specs.Prelude.{Option, Some, None, nat_lt}
use Rattle.std.proofs.lemmas.Bool.{and_from, eq-eqb, ltb-true}
use Rattle.std.proofs.Math.ListN.{get_or-map as read-map}
use Rattle.c_syntax.specs.language.Tree.{Tree, nothing}
use Rattle.c_model.specs.declared.question.Answer.TheVariants as answer
use Rattle.c_model.specs.declared.question.Ask.{Ask}
use Rattle.c_model.specs.declared.question.Ask.TheVariants as ask
use Rattle.c_model.specs.Clauses.{sections_of, statements_among}
use Rattle.c_model.specs.Parts.{parts, trees_in}
use Rattle.c_model.specs.Program.{place_of}
use Rattle.c_model.specs.Step.{silent}
use Rattle.c_model.specs.Task.{Outcome}
use Rattle.c_model.specs.Task.Outcome.{Asks, Ends, Limits, Occurs, StepsTo, Traps}
use Rattle.team_parts.specs.declared.meeting.Meeting.{Meeting}
use Rattle.team_parts.specs.declared.meeting.Meeting.TheVariants as meeting
use Rattle.team_parts.specs.Meetings.{TeamMeeting}
use Rattle.team_parts.specs.Team.{TeamView, last_meeting, last_number, member_at, next_section, no_meeting}
use Rattle.omp_model.specs.declared.event.Arrival.TheVariants.{Steps}
use Rattle.omp_model.specs.declared.event.Share.{Share}
use Rattle.omp_model.specs.declared.event.Share.TheVariants.{Section}
use Rattle.omp_model.proofs.Alike.{what_met}
use Rattle.omp_model.proofs.Arrivals.{IsInTask}
use Rattle.omp_model.specs.Changes.{with_masked_skipped}
use Rattle.omp_model.specs.Gates.{arrival}
use Rattle.omp_model.specs.Members.{current, current_index, current_region, current_team, moment_of, view_of}
use Rattle.omp_model.specs.Silent.{Goes, Silence, Stops, answer_to, answered, share_taken, silence_of, silent_step}
use Rattle.omp_model.specs.State.{Run, State, Thread, World, region_at, thread_at, unmade}
use Rattle.omp_model.specs.Turn.{turn}
use Rattle.omp_model.proofs.Turning.{AfterSilence, Turned, of-turn}
use Rattle.guard_laws.proofs.DealtRuns.{IsAsked, IsMet, asked-reached, section-asked}
use Rattle.guard_laws.proofs.LastMeetings.{MetSections}
use Rattle.work_laws.specs.Sections.{IsConstructOf, sections_met}
use Rattle.work_laws.specs.Told.{is_newest, meeting_of}
use Rattle.work_laws.proofs.CodeRuns.{AllHold, AnyEnd, all-past, all-step, any-single}
use Rattle.work_laws.proofs.Items.{AnyTree}
use Rattle.work_laws.proofs.ItemSteps.{holds-asks}
use Rattle.work_laws.proofs.Meetings.{some-section}
use Rattle.work_laws.proofs.NextSections.{section-count}
use Rattle.work_laws.proofs.ProgramConstructs.{IsKnown, KnownIn, functions-known, known-rules}
use Rattle.work_laws.proofs.Shares.{Tellings, Tells, newest-alike, section-asks, section-here, with_share}
use Rattle.work_laws.proofs.Teams.{AsksAt, last_what}
use Rattle.work_laws.proofs.Walks.{On, on-past, on-step}

-- ---- what asks is what was met

asks-met : (what : Meeting) (construct : Tree) → AsksAt what construct → what ≡ sections_met construct
asks-met (meeting.Sections at count) construct asks = ap₂ (λ (at count : ℕ). meeting.Sections at count) asks.0 asks.1
asks-met (meeting.Loop at start count step how) construct asks = absurd asks
asks-met (meeting.Single at) construct asks = absurd asks
asks-met (meeting.Barrier at kind) construct asks = absurd asks

none-there : length (sections_of nothing) ≡ 0
unfolding statements_among trees_in
none-there = refl

-- no section is left of nothing
is-one : (run : Run) (construct : Tree) (section : ℕ) → section < length (sections_of construct) → IsKnown run.program construct →
    IsConstructOf run.program construct
is-one run construct section within (inr one) = one
is-one run construct section within (inl none) =
    absurd (omega (arith, within, ap (λ (tree : Tree). length (sections_of tree)) none, none-there))

-- in teams that have met the same
pub same-what : (team after : TeamView) (n : ℕ) → what_met after ≡ what_met team → meeting_of after n ≡ meeting_of team n
same-what team after n same =
    sym (read-map (λ (met : TeamMeeting). met.what) after.meetings n no_meeting)
    ∙ ap (λ (whats : List Meeting). slice_index_or whats n no_meeting.what) same
    ∙ read-map (λ (met : TeamMeeting). met.what) team.meetings n no_meeting

module _ (run : Run) (S : State) (met : IsMet run S) (t : ℕ) (told : Tellings) where
  -- the next section of a construct of the program, at the meeting that the thread's member has had last
  pub record IsNextSection (codeptr : ℕ) : Type 0 where
    pub r : ℕ
    pub n : ℕ
    pub newest : is_newest S.world t r n ≡ true
    pub construct : Tree
    pub of_program : IsConstructOf run.program construct
    pub what : meeting_of (region_at S.world r).team n ≡ sections_met construct
    pub within : length (told r n).sections < length (sections_of construct)
    pub place : codeptr ≡ place_of (slice_index_or (statements_among (parts construct)) (length (told r n).sections) nothing)

  abbrev pub HasNext : Option Share → Type 0
  HasNext (Some (Section codeptr)) = IsNextSection codeptr
  HasNext other = Unit {0}

  abbrev Known : World → Type 0
  Known W = AllHold run (KnownIn run.program) (IsKnown run.program) (known-rules run.program) (functions-known run.program) W

  abbrev NextAt : World → Type 0
  NextAt W = HasNext (thread_at W t).taken

  pub record OnShare (W : World) : Type 0 where
    pub on : On run S met t told W
    pub known : Known W
    pub next : NextAt W

  share-past : (W : World) → OnShare W → OnShare (with_masked_skipped W t)
  share-past W so =
      record {
        on = on-past run S met t told W so.on;
        known = all-past run (KnownIn run.program) (IsKnown run.program) (known-rules run.program) (functions-known run.program) W t so.known;
        next = so.next;
      }

  module _ (W : World) (so : OnShare W) (steps : arrival W t ≡ Steps) where
    at : IsInTask W t
    at = subst (Arrives W t) steps (arrives W t)

    asked : IsAsked W
    asked = asked-reached run S met t W so.on.reached

    tells : Tells W told
    tells = subst (λ (share : Option Share). Tells W (with_share W t share told)) at.quiet.taken so.on.tells

    abbrev r : ℕ
    r = current_region W t

    abbrev i : ℕ
    i = current_index W t

    abbrev team : TeamView
    team = current_team W t

    abbrev n : ℕ
    n = last_number team i

    section-next : (tree : Tree) → silent run.program (view_of W t) (moment_of W t) ≡ Asks ask.Section tree → (section : ℕ) →
        next_section team i ≡ Some section → IsNextSection (place_of (slice_index_or (statements_among (parts tree)) section nothing))
    section-next tree is section found =
        let returns = met.known.stands.knows.sound.whole.returns in
        let here = section-here W t told tells run returns asked at tree is in
        let same = asks-met (last_what team i) tree (section-asks W t told tells run returns asked at tree is section found) in
        let fits : MetSections (length (sections_of tree)) (Some (last_meeting team i).what) =
        subst (λ (what : Meeting). MetSections (length (sections_of tree)) (Some what)) (sym same) refl in
        let deals = ((tells.teams r n).some (omega (arith, here.1, asked.works.within r i))).deals in
        let count = length (sections_of tree) in
        let before = length (told r n).sections in
        let next = some-section (nat_lt before count) before section (sym (section-count (last_meeting team i).what count (length team.members)
        (last_meeting team i).taken (told r n) fits deals) ∙ found) in
        let within : before < count = ltb-true before count next.0 in
        let known = (holds-asks (KnownIn run.program) (IsKnown run.program) AnyTree AnyEnd (known-rules run.program) any-single run.program (view_of W t)
        (moment_of W t) ask.Section tree (functions-known run.program) (so.known (current W t)) is).0 in
        let newest : is_newest W t r n ≡ true =
        and_from (r == r) ((member_at team i).met == n + 1) (eq-eqb r r refl) (eq-eqb (member_at team i).met (n + 1) (omega (arith, here.1))) in
        record {
          r = r;
          n = n;
          newest = sym (newest-alike S.world W so.on.reached.alike.world t r n) ∙ newest;
          construct = tree;
          of_program = is-one run tree before within known;
          what = sym (same-what (region_at S.world r).team team n (so.on.reached.alike.world.team r).met) ∙ same;
          within = within;
          place = ap (λ (section : ℕ). place_of (slice_index_or (statements_among (parts tree)) section nothing)) (sym next.1);
        }

    -- what was taken
    after-chunk : (tree : Tree) (chunk : Option (ℕ × ℕ)) → HasNext (share_taken tree (answer.Chunk chunk))
    after-chunk tree None = tt
    after-chunk tree (Some chunk) = tt

    after-section : (tree : Tree) → silent run.program (view_of W t) (moment_of W t) ≡ Asks ask.Section tree → (found : Option ℕ) →
        next_section team i ≡ found → HasNext (share_taken tree (answer.Section found))
    after-section tree is None found = tt
    after-section tree is (Some section) found = section-next tree is section found

    own-share : (what : Ask) (tree : Tree) → (thread_at (answered W t what tree) t).taken ≡ share_taken tree (answer_to W t what)
    own-share what tree =
        let thread : Thread = record (thread_at W t) { taken = share_taken tree (answer_to W t what) } in
        ap (λ (x : Thread). x.taken) (get_or-set_same W.threads t thread unmade (thread-below W t (ap is_made_thread at.quiet.free.stage)))

    next-by : (outcome : Outcome) → silent run.program (view_of W t) (moment_of W t) ≡ outcome → AfterSilence NextAt (silence_of W t outcome)
    next-by (StepsTo next) is = subst HasNext (sym at.quiet.taken) tt
    next-by (Asks ask.Chunk tree) is = subst HasNext (sym (own-share ask.Chunk tree)) (after-chunk tree _)
    next-by (Asks ask.Section tree) is =
        subst HasNext (sym (own-share ask.Section tree ∙ ap (share_taken tree) (section-asked run W t asked tree is)))
        (after-section tree is (next_section team i) refl)
    next-by (Asks (ask.LockFree wait_id) tree) is = subst HasNext (sym (own-share (ask.LockFree wait_id) tree)) tt
    next-by (Occurs what tree) is = so.next
    next-by (Ends number) is = so.next
    next-by (Traps trap) is = tt
    next-by (Limits limit) is = tt

    together : (silence : Silence) → AfterSilence (On run S met t told) silence → AfterSilence Known silence → AfterSilence NextAt silence →
        AfterSilence OnShare silence
    together (Goes after) on known next = record { on = on; known = known; next = next }
    together (Stops halt) on known next = tt

    next-step : AfterSilence NextAt (silent_step run W t)
    unfolding silent_step
    next-step = next-by (silent run.program (view_of W t) (moment_of W t)) refl

    share-step : AfterSilence OnShare (silent_step run W t)
    share-step =
        together (silent_step run W t) (on-step run S met t told W so.on steps)
        (all-step run (KnownIn run.program) (IsKnown run.program) (known-rules run.program) (functions-known run.program) t W steps so.known)
        next-step

  -- a turn
  pub turn-shares : OnShare S.world → Turned run OnShare t (turn run S t).state.world (turn run S t).outcome
  turn-shares start = of-turn run t OnShare share-past (λ W steps so. share-step W so steps) S start
