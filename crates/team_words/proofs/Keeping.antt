-- What is so of a team and its counters, and what a change of one member leaves.
use Rattle.std.proofs.Common.{◌≡◌, ℕ, ◌+◌, ◌<◌, ◌≤◌, ◌⊎◌, Bool, true, false, cond, if◌then◌else◌, List, [], ◌∷◌, ◌++◌, length, map, get_or, set, replicate, count_by, flat_map, refl, sym, ap, ap₂, subst, ◌∙◌, inl, inr, add-zero, arith}
use Rattle.std.proofs.lemmas.Bool.{cases_lt}
use Rattle.std.proofs.lemmas.List.{get_or_append_left, get_or_push, get_or-set_same, length-map, length-replicate, length_push, length-set, map-set}
use Rattle.std.proofs.lemmas.List.Sums.{sum_by_push}
use Rattle.team_parts.specs.declared.meeting.Meeting.{Meeting}
use Rattle.team_parts.specs.declared.meeting.TheConstants.{TEAM_LIMIT}
use Rattle.team_parts.specs.declared.member.Member.{Member}
use Rattle.team_parts.specs.Meetings.{TeamMeeting, is_barrier}
use Rattle.team_parts.specs.Team.{TeamView, fresh_meeting, member_at, new_member, no_meeting, with_meeting}
use Rattle.team_words.specs.Team.{Met, met_at, not_met}
use Rattle.team_words.specs.Shares.{taken_in}
use Rattle.team_words.specs.Counted.{counted_member, counted_taken, is_arrived, is_met_at_barrier, is_passed}
use Rattle.team_words.proofs.Deals.{IsDealt, dealt-none, dealt-same}
use Rattle.team_words.proofs.Flags.{IsInOrder, order-nil}
use Rattle.team_words.proofs.ChangedLists.{at-replicate, grows, map-replicate, one, read-either, read-map, same-flat}
use Rattle.team_words.proofs.Taken.{NobodyAt, all-none, taken-kept, taken-none, taken-push}

-- the counters have this meeting with this number
pub record IsAt (meetings : List TeamMeeting) (n : ℕ) (what : Meeting) : Type 0 where
  pub within : n < length meetings
  pub same : (get_or meetings n no_meeting).what ≡ what

-- some member has had a meeting with this number
pub record Somebody (members : List (List Met)) (n : ℕ) : Type 0 where
  pub member : ℕ
  pub within : n < length (get_or members member [])

-- in the meeting with this number each member took as much as is counted, and it was dealt so
pub record IsTakenAs (members : List (List Met)) (n : ℕ) (met : TeamMeeting) : Type 0 where
  pub counts : met.taken ≡ counted_taken members n
  pub dealt : IsDealt met.what (length members) (counted_taken members n) (flat_map (taken_in n) members)

pub record Keeps (members : List (List Met)) (view : TeamView) : Type 0 where
  pub few : length members ≤ TEAM_LIMIT
  pub counted : view.members ≡ map counted_member members
  pub each : (i n : ℕ) → n < length (get_or members i []) → IsAt view.meetings n (met_at n (get_or members i [])).what
  pub some : (n : ℕ) → n < length view.meetings → Somebody members n
  pub taken : (n : ℕ) → n < length view.meetings → IsTakenAs members n (get_or view.meetings n no_meeting)
  pub arrived : (i : ℕ) → IsInOrder is_arrived (get_or members i [])
  pub passed : (i : ℕ) → IsInOrder is_passed (get_or members i [])

-- ---- at first

abbrev fresh_members : ℕ → List (List Met)
fresh_members size = replicate size []

none-met : (size i : ℕ) → length (get_or (fresh_members size) i []) ≡ 0
none-met size i = at-replicate (λ (mets : List Met). length mets ≡ 0) size i [] refl

pub keeps-fresh : (size room : ℕ) → size ≤ TEAM_LIMIT → Keeps (replicate size []) (record { members = replicate size new_member; meetings = []; room = room })
keeps-fresh size room few =
    let nothing : List Met = [] in
    let long = length-replicate size nothing in
    record {
      few = omega (arith, long);
      counted = map-replicate counted_member size [];
      each = λ i n within. absurd (omega (arith, none-met size i));
      some = λ n within. absurd (omega arith);
      taken = λ n within. absurd (omega arith);
      arrived = λ i. at-replicate (IsInOrder is_arrived) size i [] (order-nil is_arrived);
      passed = λ i. at-replicate (IsInOrder is_passed) size i [] (order-nil is_passed);
    }

-- ---- what the counters read

pub member-is : (members : List (List Met)) (view : TeamView) (i : ℕ) → view.members ≡ map counted_member members → member_at view i ≡ counted_member (get_or members i [])
member-is members view i counted = ap (λ (xs : List Member). get_or xs i new_member) counted ∙ read-map counted_member members i []

pub size-is : (members : List (List Met)) (view : TeamView) → view.members ≡ map counted_member members → length view.members ≡ length members
size-is members view counted = ap (λ (xs : List Member). length xs) counted ∙ length-map members counted_member

-- no member has had more meetings than there are
pub no-more : (members : List (List Met)) (view : TeamView) (i : ℕ) → Keeps members view → length (get_or members i []) ≤ length view.meetings
no-more members view i keeps = elim (cases_lt (length view.meetings) (length (get_or members i []))) [
  | inl more ↦ let at = keeps.each i (length view.meetings) more in absurd (omega (arith, at.within))
  | inr within ↦ within
]

-- ---- a member changes that took as much as before

pub taken-as-kept : (members : List (List Met)) (n i : ℕ) (mets : List Met) (met : TeamMeeting) → taken_in n mets ≡ taken_in n (get_or members i []) → IsTakenAs members n met → IsTakenAs (set members i mets) n met
taken-as-kept members n i mets met same at =
    let counts = taken-kept members n i mets same in
    record {
      counts = at.counts ∙ sym counts;
      dealt = dealt-same met.what (length members) (length (set members i mets)) (counted_taken members n) (counted_taken (set members i mets) n) (flat_map (taken_in n) members) (flat_map (taken_in n) (set members i mets))
          (length-set members i mets) counts (same-flat (taken_in n) members i mets [] same) at.dealt;
    }

-- ---- the last meeting of a member changes

-- what a member has met is the same, and in order
pub record IsAlike (old mets : List Met) : Type 0 where
  pub long : length mets ≡ length old
  pub whats : (n : ℕ) → (met_at n mets).what ≡ (met_at n old).what
  pub arrived : IsInOrder is_arrived mets
  pub passed : IsInOrder is_passed mets

-- the meetings are the same
pub record AreAlike (old meetings : List TeamMeeting) : Type 0 where
  pub long : length meetings ≡ length old
  pub whats : (n : ℕ) → (get_or meetings n no_meeting).what ≡ (get_or old n no_meeting).what

at-alike : (old meetings : List TeamMeeting) (n : ℕ) (what : Meeting) → AreAlike old meetings → IsAt old n what → IsAt meetings n what
at-alike old meetings n what alike at = record { within = omega (arith, at.within, alike.long); same = alike.whats n ∙ at.same }

abbrev EachAt : List TeamMeeting → List Met → Type 0
EachAt meetings mets = (n : ℕ) → n < length mets → IsAt meetings n (met_at n mets).what

pub keeps-alike : (members : List (List Met)) (view after : TeamView) (i : ℕ) (mets : List Met) → Keeps members view → IsAlike (get_or members i []) mets → AreAlike view.meetings after.meetings → after.members ≡ map counted_member (set members i mets) → ((n : ℕ) → n < length view.meetings → IsTakenAs (set members i mets) n (get_or after.meetings n no_meeting)) → Keeps (set members i mets) after
keeps-alike members view after i mets keeps alike same counted taken =
    let new : EachAt after.meetings mets =
    λ n within. subst (λ (what : Meeting). IsAt after.meetings n what) (sym (alike.whats n)) (at-alike view.meetings after.meetings n _ same (keeps.each i n (omega (arith, alike.long)))) in
    let old : (j : ℕ) → EachAt after.meetings (get_or members j []) =
    λ j n within. at-alike view.meetings after.meetings n _ same (keeps.each j n within) in
    record {
      few = omega (arith, keeps.few, length-set members i mets);
      counted = counted;
      each = λ j. read-either (EachAt after.meetings) members i j mets [] new (old j);
      some = λ n within.
          let one_has = keeps.some n (omega (arith, same.long)) in
          record { member = one_has.member; within = omega (arith, one_has.within, grows members i one_has.member mets (omega (arith, alike.long))) };
      taken = λ n within. taken n (omega (arith, same.long));
      arrived = λ j. read-either (IsInOrder is_arrived) members i j mets [] alike.arrived (keeps.arrived j);
      passed = λ j. read-either (IsInOrder is_passed) members i j mets [] alike.passed (keeps.passed j);
    }

-- .. and the meetings stay
pub keeps-flagged : (members : List (List Met)) (view after : TeamView) (i : ℕ) (mets : List Met) → Keeps members view → IsAlike (get_or members i []) mets → after.meetings ≡ view.meetings → after.members ≡ map counted_member (set members i mets) → ((n : ℕ) → taken_in n mets ≡ taken_in n (get_or members i [])) → Keeps (set members i mets) after
keeps-flagged members view after i mets keeps alike meetings counted taken =
    keeps-alike members view after i mets keeps alike
    (record { long = ap (λ (xs : List TeamMeeting). length xs) meetings; whats = λ n. ap (λ (xs : List TeamMeeting). (get_or xs n no_meeting).what) meetings })
    counted
    (λ n within.
    subst (λ (xs : List TeamMeeting). IsTakenAs (set members i mets) n (get_or xs n no_meeting)) (sym meetings)
    (taken-as-kept members n i mets (get_or view.meetings n no_meeting) (taken n) (keeps.taken n within)))

-- ---- a member meets something

abbrev pub new_met : Meeting → Met
new_met what = record { what = what; taken = []; arrived = false; passed = false }

one-more : (test : Bool) (count : ℕ) → count + cond test 1 0 ≡ (if test then count + 1 else count)
one-more true count = refl
one-more false count = add-zero count

-- it is counted
pub counted-push : (mets : List Met) (what : Meeting) → counted_member (mets ++ new_met what ∷ []) ≡ with_meeting (counted_member mets) what
counted-push mets what =
    let long = length_push mets (new_met what) in
    let barriers = sum_by_push (one is_met_at_barrier) mets (new_met what) ∙ one-more (is_barrier what) (count_by is_met_at_barrier mets) in
    let begun = sum_by_push (one is_arrived) mets (new_met what) ∙ add-zero (count_by is_arrived mets) in
    let ended = sum_by_push (one is_passed) mets (new_met what) ∙ add-zero (count_by is_passed mets) in
    λ i. record { met = long i; barriers = barriers i; begun = begun i; passed = ended i }

-- a meeting that nobody has had before
pub record IsFirst (meetings after : List TeamMeeting) (n k : ℕ) (what : Meeting) : Type 0 where
  pub is : k ≡ n
  pub fresh : get_or after k no_meeting ≡ fresh_meeting what
  pub past : length meetings ≤ k

-- the meetings of the team, where a member has met its n-th
pub record HasPlace (meetings after : List TeamMeeting) (n : ℕ) (what : Meeting) : Type 0 where
  pub more : length meetings ≤ length after
  pub kept : (k : ℕ) → k < length meetings → get_or after k no_meeting ≡ get_or meetings k no_meeting
  pub there : IsAt after n what
  pub all : (k : ℕ) → k < length after → (k < length meetings) ⊎ IsFirst meetings after n k what

taken-as-fresh : (members : List (List Met)) (n i : ℕ) (mets : List Met) (what : Meeting) → length members ≤ TEAM_LIMIT → NobodyAt members n → taken_in n mets ≡ taken_in n (get_or members i []) → IsTakenAs (set members i mets) n (fresh_meeting what)
taken-as-fresh members n i mets what few nobody same =
    let counts = taken-kept members n i mets same ∙ taken-none members n few nobody in
    let size = length (set members i mets) in
    record {
      counts = sym counts;
      dealt = dealt-same what size size (replicate TEAM_LIMIT 0) (counted_taken (set members i mets) n) [] (flat_map (taken_in n) (set members i mets)) refl counts
          (same-flat (taken_in n) members i mets [] same ∙ all-none members n nobody) (dealt-none what size);
    }

pub keeps-met : (members : List (List Met)) (view after : TeamView) (i : ℕ) (what : Meeting) → let old = get_or members i [] in let mets = old ++ new_met what ∷ [] in Keeps members view → i < length members → HasPlace view.meetings after.meetings (length old) what → after.members ≡ set view.members i (with_meeting (member_at view i) what) → IsInOrder is_arrived mets → IsInOrder is_passed mets → Keeps (set members i mets) after
keeps-met members view after i what keeps of_team place changed arrived passed =
    let old = get_or members i [] in
    let mets = old ++ new_met what ∷ [] in
    let long = length_push old (new_met what) in
    let kept : (n : ℕ) (w : Meeting) → IsAt view.meetings n w → IsAt after.meetings n w =
    λ n w at. record { within = omega (arith, at.within, place.more); same = ap (λ (met : TeamMeeting). met.what) (place.kept n at.within) ∙ at.same } in
    let new : EachAt after.meetings mets =
    λ n within. elim (cases_lt n (length old)) [
      | inl below ↦
          subst (λ (met : Met). IsAt after.meetings n met.what) (sym (get_or_append_left old (new_met what ∷ []) not_met n below)) (kept n _ (keeps.each i n below))
      | inr end ↦
          let last : length old ≡ n = omega (arith, long) in
          subst (λ (met : Met). IsAt after.meetings n met.what) (sym (get_or_push old (new_met what) not_met n last)) (subst (λ k. IsAt after.meetings k what) last place.there)
    ] in
    let counted : after.members ≡ map counted_member (set members i mets) =
    changed
    ∙ ap₂ (λ (xs : List Member) (x : Member). set xs i x) keeps.counted (ap (λ (x : Member). with_meeting x what) (member-is members view i keeps.counted) ∙ sym (counted-push old what))
    ∙ sym (map-set counted_member members i mets) in
    record {
      few = omega (arith, keeps.few, length-set members i mets);
      counted = counted;
      each = λ j. read-either (EachAt after.meetings) members i j mets [] new (λ n within. kept n _ (keeps.each j n within));
      some = λ n within. elim (place.all n within) [
        | inl before ↦
            let one_has = keeps.some n before in
            record { member = one_has.member; within = omega (arith, one_has.within, grows members i one_has.member mets (omega (arith, long))) }
        | inr first ↦
            let here = ap (λ (xs : List Met). length xs) (get_or-set_same members i mets [] of_team) in
            record { member = i; within = omega (arith, here, long, first.is) }
      ];
      taken = λ n within.
          let same = taken-push old (new_met what) n refl in
          elim (place.all n within) [
            | inl before ↦
                subst (λ (met : TeamMeeting). IsTakenAs (set members i mets) n met) (sym (place.kept n before))
                (taken-as-kept members n i mets (get_or view.meetings n no_meeting) same (keeps.taken n before))
            | inr first ↦
                let nobody : NobodyAt members n = λ j. omega (arith, no-more members view j keeps, first.past) in
                subst (λ (met : TeamMeeting). IsTakenAs (set members i mets) n met) (sym first.fresh)
                (taken-as-fresh members n i mets what keeps.few nobody same)
          ];
      arrived = λ j. read-either (IsInOrder is_arrived) members i j mets [] arrived (keeps.arrived j);
      passed = λ j. read-either (IsInOrder is_passed) members i j mets [] passed (keeps.passed j);
    }
