-- What a member of a team has met last, and which open work fits that.
use Rattle.std.proofs.Common.{ℕ, zero, suc, ◌≡◌, ◌<◌, ◌≤◌, ◌-◌, ◌++◌, Bool, true, false, if◌then◌else◌, List, [], ◌∷◌, length, slice_index_or, slice_set, refl, sym, ap, ap₂, ◌∙◌, subst, inl, inr, arith}
use Rattle.std.specs.Prelude.{Option, Some, None, Result, Ok, Err, option_map, slice_get}
use Rattle.std.specs.List.{list_any}
use Rattle.std.proofs.lemmas.Bool.{cases_eq, or_parts, true≢false}
use Rattle.std.proofs.lemmas.List.{get_or-set_other, get_or-set_same, length-append, map-append}
use Rattle.std.proofs.lemmas.Option.{slice_get-map, slice_get_within}
use Rattle.c_model.specs.declared.point.WorkKind.TheVariants as work_kind
use Rattle.c_brackets.specs.Opened.{Open}
use Rattle.c_brackets.specs.Opened.Open.{Works}
use Rattle.team_parts.specs.declared.meeting.Meeting.{Meeting}
use Rattle.team_parts.specs.declared.meeting.Meeting.TheVariants as meeting
use Rattle.team_parts.specs.declared.meeting.Mismatch.{Mismatch}
use Rattle.team_parts.specs.declared.member.Member.{Member}
use Rattle.team_parts.specs.Meetings.{HasChunkOf, TeamMeeting, is_same}
use Rattle.team_parts.specs.Team.{TeamView, after_meeting, answer_to_meet, fresh_meeting, last_number, meeting_answer, member_at, new_member, with_begun, with_meeting, with_member, with_passed, with_place}
use Rattle.team_parts.proofs.Same.{equal-meeting}
use Rattle.omp_model.proofs.Alike.{what_met}
use Rattle.omp_model.proofs.Reading.{read-same}
use Rattle.nested_runs.proofs.TeamsMet.{met-length}

-- what the member met last, if there is a meeting
abbrev pub last_met : TeamView → ℕ → Option Meeting
last_met team i = slice_get (what_met team) (last_number team i)

-- a loop with so many iterations was met, whose chunks have iterations; a construct with so many sections was
abbrev pub MetLoop : ℕ → Option Meeting → Type 0
MetLoop whole (Some (meeting.Loop at start count step how)) = (count ≡ whole) × HasChunkOf how
MetLoop whole other = ⊥

abbrev pub MetSections : ℕ → Option Meeting → Type 0
MetSections whole (Some (meeting.Sections at count)) = count ≡ whole
MetSections whole other = ⊥

-- what is open was met last, if it is a loop or sections
abbrev pub FitsOpen : Option Meeting → Open → Type 0
FitsOpen met (Works work_kind.Loop whole) = MetLoop whole met
FitsOpen met (Works work_kind.Sections whole) = MetSections whole met
FitsOpen met other = Unit {0}

abbrev pub AllFit : Option Meeting → List Open → Type 0
AllFit met [] = Unit {0}
AllFit met (one ∷ opened) = FitsOpen met one × AllFit met opened

-- a worksharing construct
abbrev pub is_work : Open → Bool
is_work (Works kind count) = true
is_work other = false

-- ---- what fits another meeting

pub all-fit : (met after : Option Meeting) → ((one : Open) → FitsOpen met one → FitsOpen after one) → (opened : List Open) → AllFit met opened →
    AllFit after opened
all-fit met after keeps [] fit = tt
all-fit met after keeps (one ∷ opened) fit = (keeps one fit.0, all-fit met after keeps opened fit.1)

pub none-fit : (met : Option Meeting) (opened : List Open) → opened ≡ [] → AllFit met opened
none-fit met opened none = subst (AllFit met) (sym none) tt

free-one : (met : Option Meeting) (one : Open) → is_work one ≡ false → FitsOpen met one
free-one met (Works which count) free = absurd (true≢false free)
free-one met other free = tt

-- where no work is open
pub free-fit : (met : Option Meeting) (opened : List Open) → list_any is_work opened ≡ false → AllFit met opened
free-fit met [] free = tt
free-fit met (one ∷ opened) free =
    let parts = or_parts (is_work one) (list_any is_work opened) free in (free-one met one parts.0, free-fit met opened parts.1)

-- what fits no meeting fits each
unmet-fits : (met : Option Meeting) (one : Open) → FitsOpen None one → FitsOpen met one
unmet-fits met (Works work_kind.Loop whole) fits = absurd fits
unmet-fits met (Works work_kind.Sections whole) fits = absurd fits
unmet-fits met other fits = tt

-- meetings are only put behind the others
more-fits : (whats more : List Meeting) (n : ℕ) (one : Open) → FitsOpen (slice_get whats n) one → FitsOpen (slice_get (whats ++ more) n) one
more-fits [] more n one fits = unmet-fits (slice_get more n) one fits
more-fits (what ∷ whats) more zero one fits = fits
more-fits (what ∷ whats) more (suc n) one fits = more-fits whats more n one fits

-- ---- the place of what is met

-- what is read at the end of a list, and where nothing is
push-read : {A : Type 0} (xs : List A) (x : A) (n : ℕ) → n ≡ length xs → slice_get (xs ++ x ∷ []) n ≡ Some x
push-read [] x zero is = refl
push-read [] x (suc n) is = absurd (omega (arith, is))
push-read (y ∷ ys) x zero is = absurd (omega (arith, is))
push-read (y ∷ ys) x (suc n) is = push-read ys x n (omega (arith, is))

past-end : {A : Type 0} (xs : List A) (n : ℕ) → slice_get xs n ≡ None → length xs ≤ n
past-end [] n none = omega arith
past-end (x ∷ xs) zero none = cc
past-end (x ∷ xs) (suc n) none = omega (arith, past-end xs n none)

-- where another member was at the place, it has met the same
abbrev mismatch : Result Bool Mismatch
mismatch = Err (record {})

answered-if : (same : Bool) (one what : Meeting) (first : Bool) → is_same one what ≡ same → (if same then Ok false else mismatch) ≡ Ok first →
    one ≡ what
answered-if true one what first is answer = equal-meeting one what is
answered-if false one what first is answer = cc

what-placed : (team : TeamView) (what : Meeting) → what_met (with_place team None what) ≡ what_met team ++ what ∷ []
what-placed team what = map-append (λ (met : TeamMeeting). met.what) team.meetings (fresh_meeting what ∷ [])

module _ (team : TeamView) (what : Meeting) where
  placed-members : (found : Option TeamMeeting) → (with_place team found what).members ≡ team.members
  placed-members None = refl
  placed-members (Some met) = refl

  placed-more : (found : Option TeamMeeting) → length team.meetings ≤ length (with_place team found what).meetings
  placed-more None = omega (arith, length-append team.meetings (fresh_meeting what ∷ []))
  placed-more (Some met) = omega arith

  placed-within : (found : Option TeamMeeting) (m : ℕ) → slice_get team.meetings m ≡ found → m ≤ length team.meetings →
      m < length (with_place team found what).meetings
  placed-within None m is below = omega (arith, below, length-append team.meetings (fresh_meeting what ∷ []))
  placed-within (Some met) m is below = slice_get_within team.meetings m met is

  placed-at : (found : Option TeamMeeting) (m : ℕ) (first : Bool) → slice_get team.meetings m ≡ found → m ≤ length team.meetings →
      meeting_answer found what ≡ Ok first → slice_get (what_met (with_place team found what)) m ≡ Some what
  placed-at None m first is below answer =
      ap (λ (whats : List Meeting). slice_get whats m) (what-placed team what)
      ∙ push-read (what_met team) what m (omega (arith, below, past-end team.meetings m is, met-length team))
  placed-at (Some met) m first is below answer =
      slice_get-map (λ (one : TeamMeeting). one.what) team.meetings m
      ∙ ap (option_map (λ (one : TeamMeeting). one.what)) is
      ∙ ap (λ (one : Meeting). Some one) (answered-if (is_same met.what what) met.what what first refl answer)

  placed-fits : (found : Option TeamMeeting) (n : ℕ) (one : Open) → FitsOpen (slice_get (what_met team) n) one →
      FitsOpen (slice_get (what_met (with_place team found what)) n) one
  placed-fits None n one fits =
      subst (λ (whats : List Meeting). FitsOpen (slice_get whats n) one) (sym (what-placed team what)) (more-fits (what_met team) (what ∷ []) n one fits)
  placed-fits (Some met) n one fits = fits

-- ---- a member meets something

module _ (team : TeamView) (i : ℕ) (what : Meeting) where
  abbrev found : Option TeamMeeting
  found = slice_get team.meetings (member_at team i).met

  met-members : (after_meeting team i what).members ≡ slice_set team.members i (with_meeting (member_at team i) what)
  met-members = ap (λ (members : List Member). slice_set members i (with_meeting (member_at team i) what)) (placed-members team what found)

  own-member : i < length team.members → member_at (after_meeting team i what) i ≡ with_meeting (member_at team i) what
  own-member within =
      ap (λ (members : List Member). slice_index_or members i new_member) met-members ∙ get_or-set_same team.members i _ new_member within

  other-member : (j : ℕ) → (j ≡ i → ⊥) → member_at (after_meeting team i what) j ≡ member_at team j
  other-member j other =
      ap (λ (members : List Member). slice_index_or members j new_member) met-members ∙ get_or-set_other team.members i j _ new_member other

  -- it has met that last
  pub own-last : (first : Bool) → i < length team.members → (member_at team i).met ≤ length team.meetings → answer_to_meet team i what ≡ Ok first →
      last_met (after_meeting team i what) i ≡ Some what
  own-last first within below answer =
      let number : last_number (after_meeting team i what) i ≡ (member_at team i).met = omega (arith, ap (λ (x : Member). x.met) (own-member within)) in
      ap (λ (n : ℕ). slice_get (what_met (after_meeting team i what)) n) number ∙ placed-at team what found (member_at team i).met first refl below answer

  -- what fits another member's last meeting does still
  pub other-fits : (j : ℕ) (one : Open) → (j ≡ i → ⊥) → FitsOpen (last_met team j) one → FitsOpen (last_met (after_meeting team i what) j) one
  other-fits j one other fits =
      subst (λ (n : ℕ). FitsOpen (slice_get (what_met (after_meeting team i what)) n) one) (sym (ap (λ (x : Member). x.met - 1) (other-member j other)))
      (placed-fits team what found (last_number team j) one fits)

  -- no member has had more meetings than the team
  pub met-within : i < length team.members → ((j : ℕ) → (member_at team j).met ≤ length team.meetings) → (j : ℕ) →
      (member_at (after_meeting team i what) j).met ≤ length (after_meeting team i what).meetings
  met-within within below j =
      elim (cases_eq j i) [
        | inl same ↦ omega (
          arith,
          placed-within team what found (member_at team i).met refl (below i),
          ap (λ (k : ℕ). (member_at (after_meeting team i what) k).met) same ∙ ap (λ (x : Member). x.met) (own-member within),
        )
        | inr other ↦ omega (arith, below j, placed-more team what found, ap (λ (x : Member). x.met) (other-member j other))
      ]

-- ---- the members have met the same

pub record SameMet (team after : TeamView) : Type 0 where
  pub met : (j : ℕ) → (member_at after j).met ≡ (member_at team j).met
  pub what : what_met after ≡ what_met team

pub same-met : (team after : TeamView) → after ≡ team → SameMet team after
same-met team after is = record { met = λ j. ap (λ (x : TeamView). (member_at x j).met) is; what = ap what_met is }

pub same-last : (team after : TeamView) → SameMet team after → (j : ℕ) → last_met after j ≡ last_met team j
same-last team after same j = ap₂ (λ (whats : List Meeting) (n : ℕ). slice_get whats (n - 1)) same.what (same.met j)

pub same-within : (team after : TeamView) → SameMet team after → (j : ℕ) → (member_at team j).met ≤ length team.meetings →
    (member_at after j).met ≤ length after.meetings
same-within team after same j below =
    let count : length after.meetings ≡ length team.meetings =
    sym (met-length after) ∙ ap (λ (whats : List Meeting). length whats) same.what ∙ met-length team in
    omega (arith, below, same.met j, count)

-- a member begins to wait, and its wait ends
changed-met : (team : TeamView) (i : ℕ) (changed : Member) → changed.met ≡ (member_at team i).met → SameMet team (with_member team i changed)
changed-met team i changed same =
    record { met = λ j. read-same (λ (x : Member). x.met) new_member team.members i j changed same; what = refl }

pub begun-met : (team : TeamView) (i : ℕ) → SameMet team (with_begun team i)
begun-met team i = changed-met team i (record (member_at team i) { begun = (member_at team i).barriers }) refl

pub passed-met : (team : TeamView) (i : ℕ) → SameMet team (with_passed team i)
passed-met team i = changed-met team i (record (member_at team i) { passed = (member_at team i).barriers }) refl
