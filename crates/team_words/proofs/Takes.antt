-- A member takes a chunk or a section: the counters answer as the team does, and go on as it does.
use Rattle.std.proofs.Common.{◌≡◌, ℕ, ◌-◌, ◌<◌, if◌then◌else◌, Option, Some, None, is_some, List, [], ◌∷◌, ◌++◌, length, get_or, set, flat_map, refl, sym, ap, subst, ◌∙◌, inl, inr, arith}
use Rattle.std.proofs.lemmas.Bool.{cases_eq}
use Rattle.std.proofs.lemmas.List.{get_or-set_other, get_or-set_same, length-append, length-set}
use Rattle.team_parts.specs.declared.meeting.Meeting.{Meeting}
use Rattle.team_parts.specs.Meetings.{TeamMeeting, one_more}
use Rattle.team_parts.specs.Chunks as chunks
use Rattle.team_parts.specs.Team as counters
use Rattle.team_parts.specs.Team.{TeamView, last_meeting, last_number, no_meeting}
use Rattle.team_words.specs.Team.{Met, Team, met_at, met_by, not_met}
use Rattle.team_words.specs.Shares.{after_chunk, after_section, chunk_in, next_chunk, next_section, section_in, taken_by_all, taken_in}
use Rattle.team_words.specs.Counted.{counted_member, counted_taken, is_arrived, is_met_at_barrier, is_passed}
use Rattle.team_words.proofs.ChangedLists.{IsMore, count-kept, more-flat, read-alike, same-map}
use Rattle.team_words.proofs.Deals.{IsDealt, chunk-same, dealt-chunk, dealt-same, dealt-section, section-same}
use Rattle.team_words.proofs.Flags.{order-last}
use Rattle.team_words.proofs.Keeping.{AreAlike, IsAlike, IsTakenAs, Keeps, keeps-alike, size-is, taken-as-kept}
use Rattle.team_words.proofs.Meets.{met-is}
use Rattle.team_words.proofs.Taken.{all-taken, own-taken, taken-more}

-- the meeting that the member had last, by the counters
abbrev at_last : Team → ℕ → ℕ
at_last team i = length (met_by team i) - 1

abbrev met_last : Team → TeamView → ℕ → TeamMeeting
met_last team view i = get_or view.meetings (at_last team i) no_meeting

last-is : (team : Team) (view : TeamView) (i : ℕ) → Keeps team.members view → last_number view i ≡ at_last team i
last-is team view i keeps = ap (λ (n : ℕ). n - 1) (met-is team view i keeps)

-- ---- the member's last meeting, with a chunk or a section more
module _ (team : Team) (view : TeamView) (i : ℕ) (chunk : ℕ × ℕ) (keeps : Keeps team.members view) (of_team : i < length team.members) (some : 0 < length (met_by team i)) where
  abbrev mets : List Met
  mets = met_by team i

  abbrev n : ℕ
  n = at_last team i

  abbrev old : Met
  old = met_at n mets

  abbrev new : Met
  new = record old { taken = old.taken ++ chunk ∷ [] }

  abbrev changed : List Met
  changed = set mets n new

  abbrev now : TeamMeeting
  now = counters.with_taken (met_last team view i) i

  inside : n < length mets
  inside = omega arith

  alike : IsAlike mets changed
  alike =
      record {
        long = length-set mets n new;
        whats = λ k. read-alike (λ (met : Met). met.what) mets n k new not_met refl;
        arrived = order-last is_arrived mets new (keeps.arrived i) ((keeps.arrived i).only n inside);
        passed = order-last is_passed mets new (keeps.passed i) ((keeps.passed i).only n inside);
      }

  same : counted_member changed ≡ counted_member mets
  same =
      let long = length-set mets n new in
      let barriers = count-kept is_met_at_barrier mets n new not_met inside refl in
      let begun = count-kept is_arrived mets n new not_met inside refl in
      let ended = count-kept is_passed mets n new not_met inside refl in
      λ j. record { met = long j; barriers = barriers j; begun = begun j; passed = ended j }

  taken-here : taken_in n changed ≡ taken_in n mets ++ chunk ∷ []
  taken-here = ap (λ (met : Met). met.taken) (get_or-set_same mets n new not_met inside)

  pub more-taken : IsMore (flat_map (taken_in n) team.members) (flat_map (taken_in n) (set team.members i changed)) chunk
  more-taken = more-flat (taken_in n) team.members i changed [] chunk of_team taken-here

  meetings-are : (counters.after_taking view i).meetings ≡ set view.meetings n now
  meetings-are = ap (λ (k : ℕ). set view.meetings k (counters.with_taken (get_or view.meetings k no_meeting) i)) (last-is team view i keeps)

  meetings-alike : AreAlike view.meetings (set view.meetings n now)
  meetings-alike = record { long = length-set view.meetings n now; whats = λ k. read-alike (λ (met : TeamMeeting). met.what) view.meetings n k now no_meeting refl }

  taken-now : n < length view.meetings → IsDealt (met_last team view i).what (length team.members) (one_more (counted_taken team.members n) i) (flat_map (taken_in n) (set team.members i changed)) → IsTakenAs (set team.members i changed) n now
  taken-now within dealt =
      let counts = taken-more team.members n i changed of_team (ap (λ (cs : List (ℕ × ℕ)). length cs) taken-here ∙ length-append (taken_in n mets) (chunk ∷ [])) in
      record {
        counts = ap (λ (taken : List ℕ). one_more taken i) (keeps.taken n within).counts ∙ counts;
        dealt = dealt-same now.what (length team.members) (length (set team.members i changed)) (one_more (counted_taken team.members n) i) (counted_taken (set team.members i changed) n)
            (flat_map (taken_in n) (set team.members i changed)) (flat_map (taken_in n) (set team.members i changed)) (length-set team.members i changed) (sym counts) refl dealt;
      }

  taken-other : (k : ℕ) → k < length view.meetings → (k ≡ n → ⊥) → IsTakenAs (set team.members i changed) k (get_or view.meetings k no_meeting)
  taken-other k within apart =
      taken-as-kept team.members k i changed (get_or view.meetings k no_meeting) (ap (λ (met : Met). met.taken) (get_or-set_other mets n k new not_met apart)) (keeps.taken k within)

  pub keeps-taken : IsDealt (met_last team view i).what (length team.members) (one_more (counted_taken team.members n) i) (flat_map (taken_in n) (set team.members i changed)) → Keeps (set team.members i changed) (counters.after_taking view i)
  keeps-taken dealt =
      let after = set view.meetings n now in
      let within = (keeps.each i n inside).within in
      let takens : (k : ℕ) → k < length view.meetings → IsTakenAs (set team.members i changed) k (get_or after k no_meeting) =
      λ k below. elim (cases_eq k n) [
        | inl same ↦
            subst (λ (k : ℕ). IsTakenAs (set team.members i changed) k (get_or after k no_meeting)) (sym same)
            (subst (λ (met : TeamMeeting). IsTakenAs (set team.members i changed) n met) (sym (get_or-set_same view.meetings n now no_meeting within)) (taken-now within dealt))
        | inr apart ↦
            subst (λ (met : TeamMeeting). IsTakenAs (set team.members i changed) k met) (sym (get_or-set_other view.meetings n k now no_meeting apart)) (taken-other k below apart)
      ] in
      keeps-alike team.members view (counters.after_taking view i) i changed keeps alike
      (subst (λ (meetings : List TeamMeeting). AreAlike view.meetings meetings) (sym meetings-are) meetings-alike)
      (keeps.counted ∙ sym (same-map counted_member team.members i changed [] same))
      (λ k below. subst (λ (meetings : List TeamMeeting). IsTakenAs (set team.members i changed) k (get_or meetings k no_meeting)) (sym meetings-are) (takens k below))

-- ---- the answers

-- what the counters are asked for
counters-chunk : (team : Team) (view : TeamView) (i : ℕ) → Keeps team.members view → 0 < length (met_by team i) → counters.next_chunk view i ≡ chunks.chunk_in (met_last team view i).what (length team.members) (counted_taken team.members (at_last team i)) i
counters-chunk team view i keeps some =
    let n = at_last team i in
    let within = (keeps.each i n (omega arith)).within in
    ap (λ (k : ℕ). chunks.next_chunk_of (get_or view.meetings k no_meeting) (length view.members) i) (last-is team view i keeps)
    ∙ ap (λ (size : ℕ). chunks.next_chunk_of (met_last team view i) size i) (size-is team.members view keeps.counted)
    ∙ ap (λ (taken : List ℕ). chunks.chunk_in (met_last team view i).what (length team.members) taken i) (keeps.taken n within).counts

counters-section : (team : Team) (view : TeamView) (i : ℕ) → Keeps team.members view → 0 < length (met_by team i) → counters.next_section view i ≡ chunks.section_in (met_last team view i).what (counted_taken team.members (at_last team i))
counters-section team view i keeps some =
    let n = at_last team i in
    let within = (keeps.each i n (omega arith)).within in
    ap (λ (k : ℕ). chunks.next_section_of (get_or view.meetings k no_meeting)) (last-is team view i keeps)
    ∙ ap (λ (taken : List ℕ). chunks.section_in (met_last team view i).what taken) (keeps.taken n within).counts

-- what the counters answer, with this number
pub chunk-at : (team : Team) (view : TeamView) (n i : ℕ) → Keeps team.members view → i < length team.members → n < length view.meetings → let what = (get_or view.meetings n no_meeting).what in chunks.chunk_in what (length team.members) (counted_taken team.members n) i ≡ chunk_in what (length team.members) i (taken_in n (met_by team i)) (taken_by_all team n)
chunk-at team view n i keeps of_team within =
    chunk-same (get_or view.meetings n no_meeting).what (length team.members) i (counted_taken team.members n) (taken_in n (met_by team i)) (taken_by_all team n)
    (own-taken team.members n i of_team) (all-taken team.members n) (keeps.taken n within).dealt

-- the team's own answer, with what the counters have met
team-chunk : (team : Team) (view : TeamView) (i : ℕ) → Keeps team.members view → 0 < length (met_by team i) → chunk_in (met_last team view i).what (length team.members) i (taken_in (at_last team i) (met_by team i)) (taken_by_all team (at_last team i)) ≡ next_chunk team i
team-chunk team view i keeps some =
    ap (λ (what : Meeting). chunk_in what (length team.members) i (taken_in (at_last team i) (met_by team i)) (taken_by_all team (at_last team i))) (keeps.each i (at_last team i) (omega arith)).same

team-section : (team : Team) (view : TeamView) (i : ℕ) → Keeps team.members view → 0 < length (met_by team i) → section_in (met_last team view i).what (taken_by_all team (at_last team i)) ≡ next_section team i
team-section team view i keeps some =
    ap (λ (what : Meeting). section_in what (taken_by_all team (at_last team i))) (keeps.each i (at_last team i) (omega arith)).same

pub chunk-answer : (team : Team) (view : TeamView) (i : ℕ) → Keeps team.members view → i < length team.members → 0 < length (met_by team i) → counters.next_chunk view i ≡ next_chunk team i
chunk-answer team view i keeps of_team some =
    let n = at_last team i in
    let within = (keeps.each i n (omega arith)).within in
    counters-chunk team view i keeps some ∙ chunk-at team view n i keeps of_team within ∙ team-chunk team view i keeps some

pub section-answer : (team : Team) (view : TeamView) (i : ℕ) → Keeps team.members view → 0 < length (met_by team i) → counters.next_section view i ≡ next_section team i
section-answer team view i keeps some =
    counters-section team view i keeps some
    ∙ section-same (met_last team view i).what (counted_taken team.members (at_last team i)) (taken_by_all team (at_last team i)) (all-taken team.members (at_last team i))
    ∙ team-section team view i keeps some

-- ---- what is so after it

pub chunk-step : (team : Team) (view : TeamView) (i : ℕ) (answer : Option (ℕ × ℕ)) → Keeps team.members view → i < length team.members → 0 < length (met_by team i) → counters.next_chunk view i ≡ answer → next_chunk team i ≡ answer → Keeps (after_chunk team i answer).members (counters.after_chunk view i)
chunk-step team view i None keeps of_team some is said =
    subst (λ (after : TeamView). Keeps team.members after) (sym (ap (λ (o : Option (ℕ × ℕ)). if is_some o then counters.after_taking view i else view) is)) keeps
chunk-step team view i (Some chunk) keeps of_team some is said =
    let n = at_last team i in
    let within = (keeps.each i n (omega arith)).within in
    let dealt =
    dealt-chunk (met_last team view i).what (length team.members) i (counted_taken team.members n) (taken_in n (met_by team i)) (taken_by_all team n) _ chunk of_team
    (more-taken team view i chunk keeps of_team some) (sym (counters-chunk team view i keeps some) ∙ is) (team-chunk team view i keeps some ∙ said) (keeps.taken n within).dealt in
    subst (λ (after : TeamView). Keeps (after_chunk team i (Some chunk)).members after)
    (sym (ap (λ (o : Option (ℕ × ℕ)). if is_some o then counters.after_taking view i else view) is))
    (keeps-taken team view i chunk keeps of_team some dealt)

pub section-step : (team : Team) (view : TeamView) (i : ℕ) (answer : Option ℕ) → Keeps team.members view → i < length team.members → 0 < length (met_by team i) → counters.next_section view i ≡ answer → next_section team i ≡ answer → Keeps (after_section team i answer).members (counters.after_section view i)
section-step team view i None keeps of_team some is said =
    subst (λ (after : TeamView). Keeps team.members after) (sym (ap (λ (o : Option ℕ). if is_some o then counters.after_taking view i else view) is)) keeps
section-step team view i (Some section) keeps of_team some is said =
    let n = at_last team i in
    let within = (keeps.each i n (omega arith)).within in
    let dealt =
    dealt-section (met_last team view i).what (length team.members) i (counted_taken team.members n) (taken_by_all team n) _ section
    (more-taken team view i (section, 1) keeps of_team some) (team-section team view i keeps some ∙ said) (keeps.taken n within).dealt in
    subst (λ (after : TeamView). Keeps (after_section team i (Some section)).members after)
    (sym (ap (λ (o : Option ℕ). if is_some o then counters.after_taking view i else view) is))
    (keeps-taken team view i (section, 1) keeps of_team some dealt)
