-- What the members of a team have met: all of them the first meetings of the team, and the barrier of the region itself last.
use Rattle.std.proofs.Common.{ℕ, ◌≡◌, ◌≢◌, ◌<◌, ◌≤◌, ◌+◌, ◌==◌, ◌&&◌, ◌||◌, ◌⊎◌, min, Bool, true, false, if◌then◌else◌, List, [], ◌∷◌, ◌++◌, length, take, get_or, slice_index_or, refl, sym, ap, ap₂, ◌∙◌, subst, inl, inr, arith}
use Rattle.std.specs.Prelude.{Option, Some, None, Result, Ok, Err, count_by, slice_get, nat_le}
use Rattle.std.specs.List.{list_all, list_any}
use Rattle.std.proofs.lemmas.Bool.{cases_eq, cases_lt, cond-true, eqb-true, leb-true, false≢true, or_cases, and_parts}
use Rattle.std.proofs.lemmas.List.{get_or_default, get_or-map, get_or-set_other, get_or-set_same, get_or_append_left, get_or_past, get_or_push, get_or-take, length-append, length-map, length-take, map-append, take-append-le, take-take, take_more}
use Rattle.std.proofs.lemmas.List.Folds.{Any-from_list_any, list_any-append, list_any_at}
use Rattle.std.proofs.lemmas.List.Sums.{AllPass-from_list_all, count_by_more_yes, sum_by-take-le, sum_by_push}
use Rattle.std.proofs.lemmas.Option.{get_or_from_slice_get, slice_get_within, slice_get-get_or}
use Rattle.team_parts.specs.declared.meeting.Meeting.{Meeting}
use Rattle.team_parts.specs.declared.meeting.Meeting.TheVariants as meeting
use Rattle.team_parts.specs.declared.meeting.Mismatch.{Mismatch}
use Rattle.team_parts.specs.declared.member.Member.{Member}
use Rattle.team_parts.specs.Meetings.{TeamMeeting, is_barrier as meets_at_barrier, is_same}
use Rattle.team_parts.specs.Team.{TeamView, after_meeting, answer_to_meet, fresh_meeting, has_begun, has_passed, may_pass, meeting_answer, member_at, new_member, with_begun, with_meeting, with_member, with_passed, with_place}
use Rattle.team_parts.proofs.Same.{equal-meeting}
use Rattle.c_model.specs.declared.point.SyncKind.TheVariants as sync
use Rattle.omp_model.specs.EventEffects.{sync_number}
use Rattle.omp_model.proofs.Alike.{what_met}
use Rattle.nested_runs.proofs.Known.{is_last}

-- what a member has met
abbrev pub met_in : TeamView → ℕ → List Meeting
met_in team i = take (member_at team i).met (what_met team)

abbrev pub has_last_in : TeamView → ℕ → Bool
has_last_in team i = list_any is_last (met_in team i)

-- each member has met the first meetings, and its barriers are counted; the region's barrier is the last meeting
pub record IsCounted (team : TeamView) : Type 0 where
  pub met : (i : ℕ) → (member_at team i).met ≤ length team.meetings
  pub barriers : (i : ℕ) → (member_at team i).barriers ≡ count_by meets_at_barrier (met_in team i)
  pub passed : (i : ℕ) → (member_at team i).passed ≤ (member_at team i).barriers
  pub last : (n codeptr : ℕ) → slice_index_or (what_met team) n (meeting.Single 0) ≡ meeting.Barrier codeptr (sync_number sync.Parallel)
      → n + 1 ≡ length team.meetings

-- the wait of a member has ended at all barriers that it has met, of which the last is the region's
pub record PassedIn (team : TeamView) (i : ℕ) : Type 0 where
  pub met : has_last_in team i ≡ true
  pub passed : (member_at team i).passed ≡ (member_at team i).barriers

-- ---- the region's barrier

pub last-is : (what : Meeting) → is_last what ≡ true → (codeptr : ℕ) × (what ≡ meeting.Barrier codeptr (sync_number sync.Parallel))
last-is (meeting.Barrier codeptr which) is = (codeptr, ap (λ (number : ℕ). meeting.Barrier codeptr number) (eqb-true which (sync_number sync.Parallel) is))
last-is (meeting.Loop at start count step schedule) is = absurd (false≢true is)
last-is (meeting.Sections at count) is = absurd (false≢true is)
last-is (meeting.Single at) is = absurd (false≢true is)

pub last-barrier : (what : Meeting) → is_last what ≡ true → meets_at_barrier what ≡ true
last-barrier (meeting.Barrier codeptr which) is = refl
last-barrier (meeting.Loop at start count step schedule) is = is
last-barrier (meeting.Sections at count) is = is
last-barrier (meeting.Single at) is = is

-- where some member has met it, it stands last
pub record LastAt (team : TeamView) (i : ℕ) : Type 0 where
  pub at : ℕ
  pub whole : at + 1 ≡ length team.meetings
  pub met : (member_at team i).met ≡ length team.meetings
  pub is : is_last (slice_index_or (what_met team) at (meeting.Single 0)) ≡ true

-- there are as many meetings as were met
pub met-length : (team : TeamView) → length (what_met team) ≡ length team.meetings
met-length team = length-map team.meetings (λ (met : TeamMeeting). met.what)

-- who has met the region's barrier has met all
pub last-at : (team : TeamView) (i : ℕ) → IsCounted team → has_last_in team i ≡ true → LastAt team i
last-at team i counted has =
    let found = Any-from_list_any is_last (met_in team i) has in
    let n = found.0 in
    let bound : n < min (member_at team i).met (length (what_met team)) = omega (arith, found.2, length-take (member_at team i).met (what_met team)) in
    let below : n < (member_at team i).met = omega (arith, bound) in
    let default : get_or (met_in team i) n found.1 ≡ get_or (what_met team) n found.1 = get_or-take (member_at team i).met (what_met team) n found.1 below in
    let reads : get_or (what_met team) n (meeting.Single 0) ≡ found.1 =
    get_or_default (what_met team) n (meeting.Single 0) found.1 (omega (arith, bound)) ∙ sym default ∙ found.3 in
    let is : is_last (slice_index_or (what_met team) n (meeting.Single 0)) ≡ true = ap is_last reads ∙ found.4 in
    let what = last-is _ is in
    let whole = counted.last n what.0 what.1 in
    record { at = n; whole = whole; met = omega (arith, counted.met i, below, whole); is = is }

-- who has met as many barriers has met it too, and no one has met more
count-le : (xs : List Meeting) (m n : ℕ) → m ≤ n → count_by meets_at_barrier (take m xs) ≤ count_by meets_at_barrier (take n xs)
count-le xs m n below =
    subst (λ (ys : List Meeting). count_by meets_at_barrier ys ≤ count_by meets_at_barrier (take n xs)) (take-take m n xs below)
    (sum_by-take-le (λ (what : Meeting). if meets_at_barrier what then 1 else 0) (take n xs) m)

-- no one has met more barriers than who has met the region's, and who has met as many has met that one too
pub barriers-most : (team : TeamView) (i j : ℕ) → IsCounted team → has_last_in team i ≡ true → (member_at team j).barriers ≤ (member_at team i).barriers
barriers-most team i j counted has =
    let at = last-at team i counted has in
    let le = count-le (what_met team) (member_at team j).met (member_at team i).met (omega (arith, counted.met j, at.met)) in
    omega (arith, le, counted.barriers i, counted.barriers j)

pub last-of-all : (team : TeamView) (i j : ℕ) → IsCounted team → has_last_in team i ≡ true → (member_at team i).barriers ≤ (member_at team j).barriers →
    has_last_in team j ≡ true
last-of-all team i j counted has enough =
    let at = last-at team i counted has in
    elim (cases_lt (member_at team j).met (length team.meetings)) [
      | inl fewer ↦
          let upto = count-le (what_met team) (member_at team j).met at.at (omega (arith, fewer, at.whole)) in
          let all = count_by_more_yes meets_at_barrier (what_met team) at.at (meeting.Single 0) (omega (arith, at.whole, met-length team))
          (last-barrier _ at.is) in
          let same : count_by meets_at_barrier (take (at.at + 1) (what_met team)) ≡ (member_at team i).barriers =
          ap (λ n. count_by meets_at_barrier (take n (what_met team))) (at.whole ∙ sym at.met) ∙ sym (counted.barriers i) in
          absurd (omega (arith, upto, all, same, enough, counted.barriers j))
      | inr more ↦
          ap (λ n. list_any is_last (take n (what_met team))) (omega (arith, more, counted.met j, at.met)) ∙ has
    ]

-- ---- a member meets something

-- the team has a place for what is met, in which the same was met
record HasPlace (team placed : TeamView) (m : ℕ) (what : Meeting) : Type 0 where
  members : placed.members ≡ team.members
  more : length team.meetings ≤ length placed.meetings
  whole : (length placed.meetings ≤ length team.meetings) ⊎ ((m ≡ length team.meetings) × (length placed.meetings ≡ m + 1))
  within : m < length placed.meetings
  at : slice_index_or (what_met placed) m (meeting.Single 0) ≡ what
  before : (n : ℕ) → n ≤ length team.meetings → take n (what_met placed) ≡ take n (what_met team)
  reads : (n : ℕ) → n < length team.meetings → slice_index_or (what_met placed) n (meeting.Single 0) ≡ slice_index_or (what_met team) n (meeting.Single 0)

-- what another member has met at the place is the same
abbrev mismatch : Result Bool Mismatch
mismatch = Err (record {})

answered-if : (same : Bool) (one what : Meeting) (first : Bool) → is_same one what ≡ same → (if same then Ok false else mismatch) ≡ Ok first → one ≡ what
answered-if true one what first is answer = equal-meeting one what is
answered-if false one what first is answer = cc

-- something new is met behind all others
what-placed : (team : TeamView) (what : Meeting) → what_met (with_place team None what) ≡ what_met team ++ what ∷ []
what-placed team what = map-append (λ (met : TeamMeeting). met.what) team.meetings (fresh_meeting what ∷ [])

-- the place that the team has for what it answers to
has-place : (team : TeamView) (m : ℕ) (what : Meeting) (found : Option TeamMeeting) (first : Bool) → slice_get team.meetings m ≡ found
    → m ≤ length team.meetings →
    meeting_answer found what ≡ Ok first → HasPlace team (with_place team found what) m what
has-place team m what None first is below answer =
    let past : m ≡ length team.meetings =
    elim (cases_lt m (length team.meetings)) [
      | inl within ↦ absurd (none≢some (sym is ∙ slice_get-get_or team.meetings m (fresh_meeting what) within))
      | inr above ↦ omega (arith, above, below)
    ] in
    record {
      members = refl;
      more = omega (arith, length-append team.meetings (fresh_meeting what ∷ []));
      whole = inr (past, length-append team.meetings (fresh_meeting what ∷ []) ∙ omega (arith, past));
      within = omega (arith, length-append team.meetings (fresh_meeting what ∷ []), past);
      at = ap (λ (xs : List Meeting). slice_index_or xs m (meeting.Single 0)) (what-placed team what)
          ∙ get_or_push (what_met team) what (meeting.Single 0) m (met-length team ∙ sym past);
      before = λ n le. ap (λ (xs : List Meeting). take n xs) (what-placed team what) ∙ take-append-le n (what_met team) (what ∷ [])
          (omega (arith, le, met-length team));
      reads = λ n lt. ap (λ (xs : List Meeting). slice_index_or xs n (meeting.Single 0)) (what-placed team what)
          ∙ get_or_append_left (what_met team) (what ∷ []) (meeting.Single 0) n (omega (arith, lt, met-length team));
    }
  where
    none≢some : None ≡ Some (get_or team.meetings m (fresh_meeting what)) → ⊥
    none≢some same = cc
has-place team m what (Some met) first is below answer =
    let within = slice_get_within team.meetings m met is in
    let same : met.what ≡ what = answered-if (is_same met.what what) met.what what first refl answer in
    record {
      members = refl;
      more = omega arith;
      whole = inl (omega arith);
      within = within;
      at = get_or-map (λ (one : TeamMeeting). one.what) team.meetings m met (meeting.Single 0) within
          ∙ ap (λ (one : TeamMeeting). one.what) (get_or_from_slice_get team.meetings m met met is) ∙ same;
      before = λ n le. refl;
      reads = λ n lt. refl;
    }

-- what a member has met after that, and what another one has
pub record HasMet (team after : TeamView) (i : ℕ) (what : Meeting) : Type 0 where
  pub own_member : member_at after i ≡ with_meeting (member_at team i) what
  pub own : met_in after i ≡ met_in team i ++ what ∷ []
  pub other_member : (j : ℕ) → j ≢ i → member_at after j ≡ member_at team j
  pub other : (j : ℕ) → j ≢ i → met_in after j ≡ met_in team j

-- one more is counted
one-more : (is : Bool) (count : ℕ) → (if is then count + 1 else count) ≡ count + (if is then 1 else 0)
one-more true count = refl
one-more false count = omega arith

not-less : (is : Bool) (count : ℕ) → count ≤ (if is then count + 1 else count)
not-less true count = omega arith
not-less false count = omega arith

-- a member meets what its team answers to
module _ (team : TeamView) (i : ℕ) (what : Meeting) (first : Bool) (counted : IsCounted team) (within : i < length team.members)
    (answer : answer_to_meet team i what ≡ Ok first) where
  abbrev m : ℕ
  m = (member_at team i).met

  abbrev after : TeamView
  after = after_meeting team i what

  abbrev placed : TeamView
  placed = with_place team (slice_get team.meetings (member_at team i).met) what

  place : HasPlace team placed m what
  place = has-place team m what (slice_get team.meetings m) first refl (counted.met i) answer

  -- the member has had one meeting more, and another one is as it was
  own-member : member_at after i ≡ with_meeting (member_at team i) what
  own-member =
      get_or-set_same placed.members i (with_meeting (member_at team i) what) new_member
      (omega (arith, within, ap (λ (xs : List Member). length xs) place.members))

  other-member : (j : ℕ) → j ≢ i → member_at after j ≡ member_at team j
  other-member j other =
      get_or-set_other placed.members i j (with_meeting (member_at team i) what) new_member other
      ∙ ap (λ (xs : List Member). slice_index_or xs j new_member) place.members

  -- what it has met, and what another one has
  own-met : met_in after i ≡ met_in team i ++ what ∷ []
  own-met =
      ap (λ (x : Member). take x.met (what_met placed)) own-member
      ∙ take_more (what_met placed) m (meeting.Single 0) (omega (arith, place.within, met-length placed))
      ∙ ap₂ (λ (xs : List Meeting) (x : Meeting). xs ++ x ∷ []) (place.before m (counted.met i)) place.at

  other-met : (j : ℕ) → j ≢ i → met_in after j ≡ met_in team j
  other-met j other =
      ap (λ (x : Member). take x.met (what_met placed)) (other-member j other) ∙ place.before (member_at team j).met (counted.met j)

  pub has-met : HasMet team (after_meeting team i what) i what
  has-met = record { own_member = own-member; own = own-met; other_member = other-member; other = other-met }

  -- all members are counted as before
  met-again : (j : ℕ) → (member_at after j).met ≤ length placed.meetings
  met-again j =
      elim (cases_eq j i) [
        | inl same ↦ omega (arith, place.within, ap (λ k. (member_at after k).met) same ∙ ap (λ (x : Member). x.met) own-member)
        | inr other ↦ omega (arith, counted.met j, place.more, ap (λ (x : Member). x.met) (other-member j other))
      ]

  counted-again : (j : ℕ) → (member_at after j).barriers ≡ count_by meets_at_barrier (met_in after j)
  counted-again j =
      elim (cases_eq j i) [
        | inl same ↦ subst (λ k. (member_at after k).barriers ≡ count_by meets_at_barrier (met_in after k)) (sym same) (
            ap (λ (x : Member). x.barriers) own-member
            ∙ one-more (meets_at_barrier what) (member_at team i).barriers
            ∙ ap (λ n. n + (if meets_at_barrier what then 1 else 0)) (counted.barriers i)
            ∙ sym (sum_by_push (λ (one : Meeting). if meets_at_barrier one then 1 else 0) (met_in team i) what)
            ∙ ap (λ (xs : List Meeting). count_by meets_at_barrier xs) (sym own-met))
        | inr other ↦ ap (λ (x : Member). x.barriers) (other-member j other) ∙ counted.barriers j
            ∙ ap (λ (xs : List Meeting). count_by meets_at_barrier xs) (sym (other-met j other))
      ]

  passed-again : (j : ℕ) → (member_at after j).passed ≤ (member_at after j).barriers
  passed-again j =
      elim (cases_eq j i) [
        | inl same ↦ subst (λ k. (member_at after k).passed ≤ (member_at after k).barriers) (sym same)
            (subst (λ (x : Member). x.passed ≤ x.barriers) (sym own-member)
            (omega (arith, counted.passed i, not-less (meets_at_barrier what) (member_at team i).barriers)))
        | inr other ↦ subst (λ (x : Member). x.passed ≤ x.barriers) (sym (other-member j other)) (counted.passed j)
      ]

  -- where the region's barrier was met before, this member had met it
  last-again : has_last_in team i ≡ false → (n codeptr : ℕ)
      → slice_index_or (what_met placed) n (meeting.Single 0) ≡ meeting.Barrier codeptr (sync_number sync.Parallel) →
      n + 1 ≡ length placed.meetings
  last-again unmet n codeptr is =
      elim (cases_lt n (length team.meetings)) [
        | inl below ↦
            let was = sym (place.reads n below) ∙ is in
            let whole = counted.last n codeptr was in
            elim place.whole [
              | inl same ↦ omega (arith, whole, same, place.more)
              | inr new ↦
                  let here : is_last (get_or (met_in team i) n (meeting.Single 0)) ≡ true =
                  ap is_last (get_or-take m (what_met team) n (meeting.Single 0) (omega (arith, whole, new.0)) ∙ was) in
                  let long : n < length (met_in team i) = omega (arith, length-take m (what_met team), met-length team, whole, new.0) in
                  absurd (false≢true (sym unmet ∙ list_any_at is_last (met_in team i) n (meeting.Single 0) long here))
            ]
        | inr above ↦
            elim (cases_lt n (length placed.meetings)) [
              | inl within ↦ elim place.whole [ inl same ↦ absurd (omega (arith, same, above, within)) | inr new ↦ omega (arith, new.0, new.1, above, within) ]
              | inr past ↦
                  let none = sym (get_or_past (what_met placed) n (meeting.Single 0) (omega (arith, past, met-length placed))) ∙ is in
                  cc
            ]
      ]

  pub counted-met : has_last_in team i ≡ false → IsCounted (after_meeting team i what)
  counted-met unmet = record { met = met-again; barriers = counted-again; passed = passed-again; last = last-again unmet }

  -- the member has met the last barrier now or had met it
  pub last-met : has_last_in (after_meeting team i what) i ≡ (has_last_in team i || (is_last what || false))
  last-met = ap (λ (xs : List Meeting). list_any is_last xs) own-met ∙ list_any-append is_last (met_in team i) (what ∷ [])

  -- a member that has just met the region's barrier hasn't passed it
  pub unpassed-met : has_last_in team i ≡ false → PassedIn (after_meeting team i what) i → ⊥
  unpassed-met unmet passed =
      elim (or_cases (has_last_in team i) (is_last what || false) (sym last-met ∙ passed.met)) [
        | inl had ↦ false≢true (sym unmet ∙ had)
        | inr now ↦ elim (or_cases (is_last what) false now) [
          | inl is ↦
              let more : (with_meeting (member_at team i) what).barriers ≡ (member_at team i).barriers + 1 =
              cond-true (meets_at_barrier what) _ _ (last-barrier what is) in
              let all : (member_at team i).passed ≡ (with_meeting (member_at team i) what).barriers =
              subst (λ (x : Member). x.passed ≡ x.barriers) own-member passed.passed in
              omega (arith, more, all, counted.passed i)
          | inr none ↦ false≢true none
        ]
      ]

-- ---- nothing is met

-- the members have met the same
pub record MetAlike (team after : TeamView) : Type 0 where
  pub met : (j : ℕ) → (member_at after j).met ≡ (member_at team j).met
  pub barriers : (j : ℕ) → (member_at after j).barriers ≡ (member_at team j).barriers
  pub what : what_met after ≡ what_met team

-- .. and are counted as before, as far as their waits have ended only at barriers that they have met
module _ (team after : TeamView) (alike : MetAlike team after) where
  pub met-alike : (j : ℕ) → met_in after j ≡ met_in team j
  met-alike j = ap₂ (λ (n : ℕ) (xs : List Meeting). take n xs) (alike.met j) alike.what

  length-alike : length after.meetings ≡ length team.meetings
  length-alike = sym (met-length after) ∙ ap (λ (xs : List Meeting). length xs) alike.what ∙ met-length team

  pub counted-alike : ((j : ℕ) → (member_at after j).passed ≤ (member_at team j).barriers) → IsCounted team → IsCounted after
  counted-alike passed counted =
      record {
        met = λ j. omega (arith, alike.met j, counted.met j, length-alike);
        barriers = λ j. alike.barriers j ∙ counted.barriers j ∙ ap (λ (xs : List Meeting). count_by meets_at_barrier xs) (sym (met-alike j));
        passed = λ j. omega (arith, passed j, alike.barriers j);
        last = λ n codeptr is. counted.last n codeptr (ap (λ (xs : List Meeting). slice_index_or xs n (meeting.Single 0)) (sym alike.what) ∙ is)
            ∙ sym length-alike;
      }

-- what a change of one member leaves
module _ (team : TeamView) (i : ℕ) (changed : Member) (within : i < length team.members) where
  pub member-changed : member_at (with_member team i changed) i ≡ changed
  member-changed = get_or-set_same team.members i changed new_member within

  pub member-other : (j : ℕ) → j ≢ i → member_at (with_member team i changed) j ≡ member_at team j
  member-other j other = get_or-set_other team.members i j changed new_member other

  pub changed-alike : changed.met ≡ (member_at team i).met → changed.barriers ≡ (member_at team i).barriers → MetAlike team (with_member team i changed)
  changed-alike met barriers =
      record {
        met = λ j. elim (cases_eq j i) [
          | inl same ↦ ap (λ k. (member_at (with_member team i changed) k).met) same ∙ ap (λ (x : Member). x.met) member-changed ∙ met ∙ ap
              (λ k. (member_at team k).met) (sym same)
          | inr other ↦ ap (λ (x : Member). x.met) (member-other j other)
        ];
        barriers = λ j. elim (cases_eq j i) [
          | inl same ↦ ap (λ k. (member_at (with_member team i changed) k).barriers) same ∙ ap (λ (x : Member). x.barriers) member-changed ∙ barriers
              ∙ ap (λ k. (member_at team k).barriers) (sym same)
          | inr other ↦ ap (λ (x : Member). x.barriers) (member-other j other)
        ];
        what = refl;
      }

-- what a member has passed depends on what stands of it alone
pub passed-moved : (one other : TeamView) (i : ℕ) → (member_at other i).passed ≡ (member_at one i).passed
    → (member_at other i).barriers ≡ (member_at one i).barriers →
    met_in other i ≡ met_in one i → PassedIn one i → PassedIn other i
passed-moved one other i passed barriers met was =
    record { met = ap (λ (xs : List Meeting). list_any is_last xs) met ∙ was.met; passed = passed ∙ was.passed ∙ sym barriers }

-- the wait of a member ends
module _ (team : TeamView) (i : ℕ) (within : i < length team.members) where
  abbrev ended : Member
  ended = record (member_at team i) { passed = (member_at team i).barriers }

  pub passed-alike : MetAlike team (with_passed team i)
  passed-alike = changed-alike team i ended within refl refl

  passed-all : (member_at (with_passed team i) i).passed ≡ (member_at team i).barriers
  passed-all = ap (λ (x : Member). x.passed) (member-changed team i ended within)

  pub passed-own : has_last_in team i ≡ true → PassedIn (with_passed team i) i
  passed-own has =
      record {
        met = ap (λ (xs : List Meeting). list_any is_last xs) (met-alike team (with_passed team i) passed-alike i) ∙ has;
        passed = passed-all ∙ sym (passed-alike.barriers i);
      }

  pub passed-other : (j : ℕ) → j ≢ i → (member_at (with_passed team i) j).passed ≡ (member_at team j).passed
  passed-other j other = ap (λ (x : Member). x.passed) (member-other team i ended within j other)

  pub counted-passed : IsCounted team → IsCounted (with_passed team i)
  counted-passed counted =
      counted-alike team (with_passed team i) passed-alike (λ j. elim (cases_eq j i) [
        | inl same ↦ subst (λ k. (member_at (with_passed team i) k).passed ≤ (member_at team k).barriers) (sym same) (omega (arith, passed-all))
        | inr other ↦ omega (arith, passed-other j other, counted.passed j)
      ]) counted

-- a member begins to wait
module _ (team : TeamView) (i : ℕ) (within : i < length team.members) where
  abbrev waits : Member
  waits = record (member_at team i) { begun = (member_at team i).barriers }

  pub begun-alike : MetAlike team (with_begun team i)
  begun-alike = changed-alike team i waits within refl refl

  pub begun-passed : (j : ℕ) → (member_at (with_begun team i) j).passed ≡ (member_at team j).passed
  begun-passed j =
      elim (cases_eq j i) [
        | inl same ↦ ap (λ k. (member_at (with_begun team i) k).passed) same ∙ ap (λ (x : Member). x.passed) (member-changed team i waits within)
            ∙ ap (λ k. (member_at team k).passed) (sym same)
        | inr other ↦ ap (λ (x : Member). x.passed) (member-other team i waits within j other)
      ]

-- ---- a wait may end

-- all have met the region's barrier and no task is unfinished, or some member's wait there has ended
pub record AllMet (team : TeamView) (unfinished : ℕ) : Type 0 where
  pub met : (j : ℕ) → j < length team.members → has_last_in team j ≡ true
  pub none : unfinished ≡ 0

-- the two reasons for which a wait at the region's barrier may end
pub may-pass-last : (team : TeamView) (i unfinished : ℕ) → IsCounted team → ((j : ℕ) → (member_at team j).begun ≤ (member_at team j).barriers)
    → has_last_in team i ≡ true →
    may_pass team i unfinished ≡ true → AllMet team unfinished ⊎ ((j : ℕ) × PassedIn team j)
may-pass-last team i unfinished counted begun has may =
    elim (or_cases (list_all (has_begun (member_at team i).barriers) team.members && unfinished == 0) _ may) [
      | inl both ↦
          let parts = and_parts (list_all (has_begun (member_at team i).barriers) team.members) (unfinished == 0) both in
          let all = AllPass-from_list_all (has_begun (member_at team i).barriers) team.members parts.0 in
          inl (record {
            met = λ j below.
                last-of-all team i j counted has (omega
                (arith, begun j, leb-true (member_at team i).barriers (member_at team j).begun (all j new_member below)));
            none = eqb-true unfinished 0 parts.1;
          })
      | inr some ↦
          let found = Any-from_list_any (has_passed (member_at team i).barriers) team.members some in
          let j = found.0 in
          let read : member_at team j ≡ found.1 = get_or_default team.members j new_member found.1 found.2 ∙ found.3 in
          let past : (member_at team i).barriers ≤ (member_at team j).passed =
          leb-true (member_at team i).barriers (member_at team j).passed (ap (λ (x : Member). nat_le (member_at team i).barriers x.passed) read ∙ found.4) in
          let most = barriers-most team i j counted has in
          inr (
            j,
            record {
              met = last-of-all team i j counted has (omega (arith, past, counted.passed j));
              passed = omega (arith, past, counted.passed j, most);
            },
          )
    ]
