-- The section that is dealt next has the number of those that were told before.
use Rattle.std.proofs.Common.{ℕ, ◌≡◌, ◌≤◌, nat_lt, if◌then◌else◌, Option, Some, None, List, length, sym, ap, ◌∙◌, subst, arith}
use Rattle.c_syntax.specs.language.Tree.{Tree}
use Rattle.c_check.specs.Checked.{Checked}
use Rattle.c_model.specs.declared.question.Answer.TheVariants as answer
use Rattle.c_model.specs.declared.question.Ask.TheVariants as ask
use Rattle.c_model.specs.Asked.{sections_asked}
use Rattle.c_model.specs.Formed.{IsProgramFormed}
use Rattle.c_model.specs.Step.{silent}
use Rattle.c_model.specs.Task.Outcome.{Asks}
use Rattle.team_parts.specs.declared.meeting.Meeting.{Meeting}
use Rattle.team_parts.specs.declared.meeting.Meeting.TheVariants as meeting
use Rattle.team_parts.specs.Chunks.{section_in}
use Rattle.team_parts.specs.Team.{last_meeting, last_number, next_section}
use Rattle.omp_model.specs.declared.event.Arrival.TheVariants.{Steps}
use Rattle.omp_model.specs.declared.event.Share.{Share}
use Rattle.omp_model.specs.declared.history.Entry.{Entry}
use Rattle.omp_model.proofs.Arrivals.{IsInTask}
use Rattle.omp_model.specs.Gates.{arrival}
use Rattle.omp_model.specs.Legal.{Legal, after}
use Rattle.omp_model.specs.Members.{current_index, current_region, current_team, moment_of, view_of}
use Rattle.omp_model.specs.Silent.{answer_to, items_asking}
use Rattle.omp_model.specs.State.{Run, State, World, first}
use Rattle.omp_model.specs.Turn.{Walk, walk}
use Rattle.omp_model.proofs.Arriving.{Arrives, arrives}
use Rattle.nested_runs.proofs.Knows.{IsWholeRun}
use Rattle.guard_laws.proofs.DealtRuns.{IsAsked, asked-reached, section-given}
use Rattle.guard_laws.proofs.LastMeetings.{MetSections}
use Rattle.guard_laws.proofs.Masks.{all_told, legal-told, told-after as after-told, told-walk, whole-told}
use Rattle.work_laws.specs.Told.{Telling, nothing_told, told_of}
use Rattle.work_laws.proofs.Meetings.{Deals}
use Rattle.work_laws.proofs.Once.{entries-told}
use Rattle.work_laws.proofs.Runs.{IsTold, told-after}
use Rattle.work_laws.proofs.Shares.{Tells, section-here, with_share}
use Rattle.work_laws.proofs.Walks.{On, walk-on}

-- of what was met last
pub section-count : (what : Meeting) (count size : ℕ) (taken : List ℕ) (told : Telling) → MetSections count (Some what) → Deals size what taken told →
    section_in what taken ≡ (if nat_lt (length told.sections) count then Some (length told.sections) else None)
section-count (meeting.Sections at whole) count size taken told met deals =
    let same : whole ≡ count = met in
    ap (λ (n : ℕ). if nat_lt n whole then Some n else None) (sym deals.0)
    ∙ ap (λ (whole : ℕ). if nat_lt (length told.sections) whole then Some (length told.sections) else None) same
section-count (meeting.Loop at start whole step how) count size taken told met deals = absurd met
section-count (meeting.Single at) count size taken told met deals = absurd met
section-count (meeting.Barrier at kind) count size taken told met deals = absurd met

-- the same in the run in which all callbacks are registered
module _ (run : Run) (history : List Entry) (t steps : ℕ) (tree : Tree) (whole : IsWholeRun run) (legal : Legal run history) where
  abbrev W : World
  W = (walk run steps 0 (after run history) t).state.world

  counted : arrival W t ≡ Steps → silent run.program (view_of W t) (moment_of W t) ≡ Asks ask.Section tree →
      let before = length (told_of run history (current_region W t) (last_number (current_team W t) (current_index W t))).sections in
      next_section (current_team W t) (current_index W t) ≡ (if nat_lt before (sections_asked (items_asking W t)) then Some before else None)
  counted next is =
      let so : IsTold run (after run history) (λ r n. told_of run history r n) = told-after run history whole legal in
      let on : On run (after run history) so.met t (λ r n. told_of run history r n) W =
      walk-on run (after run history) so.met t (λ r n. told_of run history r n) (so.idle t) so.tells steps in
      let asked : IsAsked W = asked-reached run (after run history) so.met t W on.reached in
      let at : IsInTask W t = subst (Arrives W t) next (arrives W t) in
      let r = current_region W t in
      let team = current_team W t in
      let n = last_number team (current_index W t) in
      let tells : Tells W (λ r n. told_of run history r n) =
      subst (λ (share : Option Share). Tells W (with_share W t share (λ r n. told_of run history r n))) at.quiet.taken on.tells in
      let here = section-here W t (λ r n. told_of run history r n) tells run whole.returns asked at tree is in
      section-count (last_meeting team (current_index W t)).what (sections_asked (items_asking W t)) (length team.members)
      (last_meeting team (current_index W t)).taken (told_of run history r n) here.0
      ((tells.teams r n).some (omega (arith, here.1, asked.works.within r (current_index W t)))).deals

module _ (run : Run) (history : List Entry) (t steps : ℕ) (tree : Tree) (some : 1 ≤ run.threads) (few : run.threads ≤ 16)
    (checked : Checked run.program)
    (formed : IsProgramFormed run.program) (legal : Legal run history) where
  abbrev X : World
  X = (walk run steps 0 (after run history) t).state.world

  abbrev Counts : World → (ℕ → ℕ → Telling) → Type 0
  Counts W told =
      arrival W t ≡ Steps → silent run.program (view_of W t) (moment_of W t) ≡ Asks ask.Section tree →
      let before = length (told (current_region W t) (last_number (current_team W t) (current_index W t))).sections in
      next_section (current_team W t) (current_index W t) ≡ (if nat_lt before (sections_asked (items_asking W t)) then Some before else None)

  pub section-next : arrival X t ≡ Steps → silent run.program (view_of X t) (moment_of X t) ≡ Asks ask.Section tree →
      let before = length (told_of run history (current_region X t) (last_number (current_team X t) (current_index X t))).sections in
      answer_to X t ask.Section ≡ answer.Section (if nat_lt before (sections_asked (items_asking X t)) then Some before else None)
  section-next steps_on is =
      let whole = whole-told run some few checked formed in
      let same : (walk (all_told run) steps 0 (after (all_told run) history) t).state.world ≡ X =
      ap (λ (S : State). (walk (all_told run) steps 0 S t).state.world) (after-told run history)
      ∙ ap (λ (w : Walk). w.state.world) (told-walk run steps 0 (after run history) t) in
      let counts : Counts X (λ r n. told_of (all_told run) history r n) =
      subst (λ (W : World). Counts W (λ r n. told_of (all_told run) history r n)) same
      (counted (all_told run) history t steps tree whole (legal-told run whole history legal)) in
      let r = current_region X t in
      let n = last_number (current_team X t) (current_index X t) in
      section-given run history t steps tree some few checked formed legal is
      ∙ ap (λ (section : Option ℕ). answer.Section section)
      (counts steps_on is
      ∙ ap (λ (told : Telling). let before = length told.sections in if nat_lt before (sections_asked (items_asking X t)) then Some before else None)
      (entries-told run r n (first run) history nothing_told))
