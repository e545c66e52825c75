-- A member meets something: the counters answer as the team does, and go on as it does.
use Rattle.std.proofs.Common.{◌≡◌, ℕ, ◌-◌, ◌<◌, ◌≤◌, ◌&&◌, not, Bool, true, false, if◌then◌else◌, Option, Some, None, Result, Ok, Err, List, [], ◌∷◌, ◌++◌, length, get_or, set, slice_get, refl, sym, ap, ap₂, ◌∙◌, inl, inr, arith}
use Rattle.std.specs.List.{list_any}
use Rattle.std.proofs.lemmas.Bool.{and_left, and_parts, cases_lt, false≢true, le-ltb, lt-ltb}
use Rattle.std.proofs.lemmas.List.{get_or_append_left, get_or_past, get_or_push, length_push}
use Rattle.std.proofs.lemmas.List.Elements.{All-from_get_or}
use Rattle.std.proofs.lemmas.List.Folds.{list_any_at, list_any_none}
use Rattle.std.proofs.lemmas.Option.{get_or_from_slice_get, slice_get-get_or, slice_get_past, slice_get_within}
use Rattle.team_parts.specs.declared.meeting.Meeting.{Meeting}
use Rattle.team_parts.specs.declared.meeting.Mismatch.{Mismatch}
use Rattle.team_parts.specs.declared.member.Member.{Member}
use Rattle.team_parts.specs.Meetings.{TeamMeeting, is_same}
use Rattle.team_parts.specs.Team as counters
use Rattle.team_parts.specs.Team.{TeamView, fresh_meeting, member_at, meeting_answer, no_meeting, with_place}
use Rattle.team_parts.proofs.Same.{equal-meeting}
use Rattle.team_words.specs.Team.{Met, Team, answer_to_meet, has_met, has_met_else, may_go_on, met_at, met_by}
use Rattle.team_words.specs.Calls.{after_answer, counters_after_answer}
use Rattle.team_words.specs.Counted.{is_arrived, is_met_at_barrier, is_passed}
use Rattle.team_words.proofs.Flags.{order-push}
use Rattle.team_words.proofs.Keeping.{HasPlace, Keeps, keeps-met, member-is, new_met, no-more}

abbrev mismatch : Result Bool Mismatch
mismatch = Err (record {})

-- who has met something is a member
pub member-within : (members : List (List Met)) (n i : ℕ) → n < length (get_or members i []) → i < length members
member-within members n i within = elim (cases_lt i (length members)) [
  | inl below ↦ below
  | inr past ↦ let none = ap (λ (mets : List Met). length mets) (get_or_past members i [] past) in absurd (omega (arith, none))
]

-- ---- the answer

answers : (same : Bool) → (if same then Ok false else mismatch) ≡ (if not same then mismatch else Ok (not true))
answers true = refl
answers false = refl

else-past : (n : ℕ) (what : Meeting) (mets : List Met) → length mets ≤ n → has_met_else n what mets ≡ false
else-past n what mets past = and_left (has_met n mets) (not (is_same (met_at n mets).what what)) (le-ltb n (length mets) past)

-- where the counters have a meeting with this number, members have met something else there just where it isn't the same
else-at : (team : Team) (view : TeamView) (n i : ℕ) (what : Meeting) → Keeps team.members view → n < length (get_or team.members i []) → has_met_else n what (get_or team.members i []) ≡ not (is_same (get_or view.meetings n no_meeting).what what)
else-at team view n i what keeps within =
    ap₂ (λ (has : Bool) (other : Meeting). has && not (is_same other what)) (lt-ltb n (length (get_or team.members i [])) within) (sym (keeps.each i n within).same)

else-is : (team : Team) (view : TeamView) (n : ℕ) (what : Meeting) (same : Bool) → Keeps team.members view → n < length view.meetings → is_same (get_or view.meetings n no_meeting).what what ≡ same → list_any (has_met_else n what) team.members ≡ not same
else-is team view n what true keeps within is =
    list_any_none (has_met_else n what) team.members (All-from_get_or (λ (mets : List Met). has_met_else n what mets ≡ false) team.members []
    (λ i of_team. elim (cases_lt n (length (get_or team.members i []))) [
      | inl below ↦ else-at team view n i what keeps below ∙ ap not is
      | inr past ↦ else-past n what (get_or team.members i []) past
    ]))
else-is team view n what false keeps within is =
    let one_has = keeps.some n within in
    list_any_at (has_met_else n what) team.members one_has.member [] (member-within team.members n one_has.member one_has.within)
    (else-at team view n one_has.member what keeps one_has.within ∙ ap not is)

answer-there : (team : Team) (view : TeamView) (n : ℕ) (what : Meeting) → Keeps team.members view → n < length view.meetings → meeting_answer (slice_get view.meetings n) what ≡ (if list_any (has_met_else n what) team.members then mismatch else Ok (not (list_any (has_met n) team.members)))
answer-there team view n what keeps within =
    let same = is_same (get_or view.meetings n no_meeting).what what in
    let one_has = keeps.some n within in
    let has : list_any (has_met n) team.members ≡ true =
    list_any_at (has_met n) team.members one_has.member [] (member-within team.members n one_has.member one_has.within) (lt-ltb n _ one_has.within) in
    ap (λ (place : Option TeamMeeting). meeting_answer place what) (slice_get-get_or view.meetings n no_meeting within)
    ∙ answers same
    ∙ ap₂ (λ (other any : Bool). if other then mismatch else Ok (not any)) (sym (else-is team view n what same keeps within refl)) (sym has)

answer-new : (team : Team) (view : TeamView) (n : ℕ) (what : Meeting) → Keeps team.members view → length view.meetings ≤ n → meeting_answer (slice_get view.meetings n) what ≡ (if list_any (has_met_else n what) team.members then mismatch else Ok (not (list_any (has_met n) team.members)))
answer-new team view n what keeps past =
    let short : (i : ℕ) → length (get_or team.members i []) ≤ n = λ i. omega (arith, no-more team.members view i keeps) in
    let other = list_any_none (has_met_else n what) team.members (All-from_get_or (λ (mets : List Met). has_met_else n what mets ≡ false) team.members [] (λ i of_team. else-past n what (get_or team.members i []) (short i))) in
    let any = list_any_none (has_met n) team.members (All-from_get_or (λ (mets : List Met). has_met n mets ≡ false) team.members [] (λ i of_team. le-ltb n (length (get_or team.members i [])) (short i))) in
    ap (λ (place : Option TeamMeeting). meeting_answer place what) (slice_get_past view.meetings n past)
    ∙ ap₂ (λ (other any : Bool). if other then mismatch else Ok (not any)) (sym other) (sym any)

-- how many meetings the member has had
pub met-is : (team : Team) (view : TeamView) (i : ℕ) → Keeps team.members view → (member_at view i).met ≡ length (met_by team i)
met-is team view i keeps = ap (λ (x : Member). x.met) (member-is team.members view i keeps.counted)

pub meet-answer : (team : Team) (view : TeamView) (i : ℕ) (what : Meeting) → Keeps team.members view → counters.answer_to_meet view i what ≡ answer_to_meet team i what
meet-answer team view i what keeps =
    let n = length (met_by team i) in
    ap (λ (k : ℕ). meeting_answer (slice_get view.meetings k) what) (met-is team view i keeps)
    ∙ elim (cases_lt n (length view.meetings)) [
      | inl within ↦ answer-there team view n what keeps within
      | inr past ↦ answer-new team view n what keeps past
    ]

-- ---- what is so after it

same-true : (same first : Bool) → (if same then Ok false else mismatch) ≡ Ok first → same ≡ true
same-true true first answer = refl
same-true false first answer = absurd cc

has-place : (view : TeamView) (n : ℕ) (what : Meeting) (place : Option TeamMeeting) (first : Bool) → slice_get view.meetings n ≡ place → meeting_answer place what ≡ Ok first → n ≤ length view.meetings → HasPlace view.meetings (with_place view place what).meetings n what
has-place view n what None first none answer short =
    let meetings = view.meetings in
    let long = length_push meetings (fresh_meeting what) in
    let end : length meetings ≡ n =
    elim (cases_lt n (length meetings)) [
      | inl within ↦ let some = sym none ∙ slice_get-get_or meetings n no_meeting within in absurd cc
      | inr past ↦ omega arith
    ] in
    let pushed : (k : ℕ) → length meetings ≡ k → get_or (meetings ++ fresh_meeting what ∷ []) k no_meeting ≡ fresh_meeting what = λ k is. get_or_push meetings (fresh_meeting what) no_meeting k is in
    record {
      more = omega (arith, long);
      kept = λ k within. get_or_append_left meetings (fresh_meeting what ∷ []) no_meeting k within;
      there = record { within = omega (arith, long, end); same = ap (λ (met : TeamMeeting). met.what) (pushed n end) };
      all = λ k within. elim (cases_lt k (length meetings)) [
        | inl before ↦ inl before
        | inr past ↦ let is : length meetings ≡ k = omega (arith, long) in inr (record { is = omega (arith, end); fresh = pushed k is; past = past })
      ];
    }
has-place view n what (Some met) first some answer short =
    let within = slice_get_within view.meetings n met some in
    let read = get_or_from_slice_get view.meetings n met no_meeting some in
    let same = equal-meeting met.what what (same-true (is_same met.what what) first answer) in
    record {
      more = omega arith;
      kept = λ k below. refl;
      there = record { within = within; same = ap (λ (m : TeamMeeting). m.what) read ∙ same };
      all = λ k below. inl below;
    }

placed-members : (view : TeamView) (place : Option TeamMeeting) (what : Meeting) → (with_place view place what).members ≡ view.members
placed-members view None what = refl
placed-members view (Some met) what = refl

-- who may go on has arrived at its last barrier and passed it
go-on : (barrier arrived passed : Bool) → (if barrier then arrived && passed else true) ≡ true → (arrived ≡ true → barrier ≡ true) → (passed ≡ true → barrier ≡ true) → (arrived ≡ barrier) × (passed ≡ barrier)
go-on true arrived passed may first second = and_parts arrived passed may
go-on false true passed may first second = absurd (false≢true (first refl))
go-on false false true may first second = absurd (false≢true (second refl))
go-on false false false may first second = (refl, refl)

met-ok : (team : Team) (view : TeamView) (i : ℕ) (what : Meeting) (first : Bool) → Keeps team.members view → i < length team.members → may_go_on (met_by team i) ≡ true → counters.answer_to_meet view i what ≡ Ok first → Keeps (set team.members i (met_by team i ++ new_met what ∷ [])) (counters.after_meeting view i what)
met-ok team view i what first keeps of_team may answer =
    let mets = met_by team i in
    let last = length mets - 1 in
    let place = slice_get view.meetings (member_at view i).met in
    let both : 0 < length mets → ((is_arrived (met_at last mets) ≡ is_met_at_barrier (met_at last mets)) × (is_passed (met_at last mets) ≡ is_met_at_barrier (met_at last mets))) =
    λ some. go-on (is_met_at_barrier (met_at last mets)) (is_arrived (met_at last mets)) (is_passed (met_at last mets)) may ((keeps.arrived i).only last (omega arith)) ((keeps.passed i).only last (omega arith)) in
    let met : (member_at view i).met ≡ length mets = met-is team view i keeps in
    keeps-met team.members view (counters.after_meeting view i what) i what keeps of_team
    (has-place view (length mets) what place first (ap (slice_get view.meetings) (sym met)) answer (no-more team.members view i keeps))
    (ap (λ (xs : List Member). set xs i (counters.with_meeting (member_at view i) what)) (placed-members view place what))
    (order-push is_arrived mets (new_met what) (keeps.arrived i) (λ some. (both some).0) refl)
    (order-push is_passed mets (new_met what) (keeps.passed i) (λ some. (both some).1) refl)

pub meet-step : (team : Team) (view : TeamView) (i : ℕ) (what : Meeting) (answer : Result Bool Mismatch) → Keeps team.members view → i < length team.members → may_go_on (met_by team i) ≡ true → counters.answer_to_meet view i what ≡ answer → Keeps (after_answer team i what answer).members (counters_after_answer view i what answer)
meet-step team view i what (Ok first) keeps of_team may is = met-ok team view i what first keeps of_team may is
meet-step team view i what (Err fault) keeps of_team may is = keeps
