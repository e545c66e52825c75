-- What is true of each team stays true.
use Rattle.std.proofs.Common.{◌≡◌, ℕ, ◌+◌, ◌<◌, ◌≤◌, nat_le, max, ◌||◌, Bool, true, false, if◌then◌else◌, List, [], ◌∷◌, ◌++◌, length, replicate, take, get_or, set, All, refl, ap, ◌∙◌, arith}
use Rattle.std.proofs.lemmas.Bool.{leb-true, le-leb}
use Rattle.std.proofs.lemmas.List.{length-set, length-replicate, length-take-le, length_push}
use Rattle.std.proofs.lemmas.List.Elements.{All-get_or, All-push, All-replicate, All-set, All-take, All-weaker, All-nil}
use Rattle.team_parts.specs.declared.meeting.Meeting.{Meeting}
use Rattle.team_parts.specs.declared.meeting.TheConstants.{TEAM_LIMIT}
use Rattle.team_parts.specs.declared.member.Member.{Member}
use Rattle.team_parts.specs.declared.gathering.Gathering.{Gathering}
use Rattle.team_parts.specs.Meetings.{HasChunk, is_barrier}
use Rattle.team_parts.specs.Team.{new_member, with_meeting, has_begun, has_passed}
use Rattle.team_parts.specs.Gatherings.{fresh_gathering}
use Rattle.team_parts.specs.Sound.{IsCounted, HasComeTo, IsFewest, IsMost, IsSound}
use Rattle.team_parts.proofs.Counted.{counted-fresh}
use Rattle.team_parts.proofs.Members.{list_all-set, list_any-set, list_any-same, max-either, fewest-none, most-none, fewest-is, most-is}

-- members that have had no meeting have begun to wait at no barrier, and passed none
none-begun : (members : List Member) → All (HasComeTo 0) members → All (λ (m : Member). m.begun ≡ 0) members
none-begun members come = All-weaker (HasComeTo 0) (λ (m : Member). m.begun ≡ 0) (λ m at. omega (arith, at.met, at.barriers, at.begun)) members come

none-passed : (members : List Member) → All (HasComeTo 0) members → All (λ (m : Member). m.passed ≡ 0) members
none-passed members come = All-weaker (HasComeTo 0) (λ (m : Member). m.passed ≡ 0) (λ m at. omega (arith, at.met, at.barriers, at.passed)) members come

sound-none : (members : List Member) → 1 ≤ length members → length members ≤ TEAM_LIMIT → All (HasComeTo 0) members → IsSound members [] 0 0
sound-none members some few come =
    record {
      some = some;
      few = few;
      each_member = come;
      each_meeting = All-nil (IsCounted (length members));
      begun = fewest-none members some (none-begun members come);
      passed = most-none members some (none-passed members come);
    }

new-come : HasComeTo 0 new_member
new-come = record { met = omega arith; barriers = omega arith; begun = omega arith; passed = omega arith }

pub sound-new : (size : ℕ) → 1 ≤ size → size ≤ TEAM_LIMIT → IsSound (replicate size new_member) [] 0 0
sound-new size some few =
    let many = length-replicate size new_member in
    sound-none (replicate size new_member) (omega arith) (omega arith) (All-replicate (HasComeTo 0) size new_member new-come)

pub sound-fit : (members : List Member) (fewest most size : ℕ) → 1 ≤ size → size ≤ length members → IsSound members [] fewest most → IsSound (take size members) [] fewest most
sound-fit members fewest most size some few sound =
    let many = length-take-le size members few in
    let least = fewest-is members fewest 0 sound.begun (fewest-none members sound.some (none-begun members sound.each_member)) in
    let greatest = most-is members most 0 sound.passed (most-none members sound.some (none-passed members sound.each_member)) in
    rw (least, greatest)
    (sound-none (take size members) (omega arith) (omega (arith, sound.few)) (All-take (HasComeTo 0) size members sound.each_member))

-- there is one meeting more
come-more : (meetings : ℕ) (member : Member) → HasComeTo meetings member → HasComeTo (meetings + 1) member
come-more meetings member come = record { met = omega (arith, come.met); barriers = come.barriers; begun = come.begun; passed = come.passed }

pub sound-place : (members : List Member) (meetings : List Gathering) (fewest most : ℕ) (what : Meeting) → HasChunk what → IsSound members meetings fewest most → IsSound members (meetings ++ fresh_gathering what ∷ []) fewest most
sound-place members meetings fewest most what chunk sound =
    record {
      some = sound.some;
      few = sound.few;
      each_member = rw (length_push meetings (fresh_gathering what)) (All-weaker (HasComeTo (length meetings)) (HasComeTo (length meetings + 1)) (come-more (length meetings)) members sound.each_member);
      each_meeting = All-push (IsCounted (length members)) meetings (fresh_gathering what) sound.each_meeting (counted-fresh what (length members) chunk);
      begun = sound.begun;
      passed = sound.passed;
    }

-- a member is changed
sound-set : (members : List Member) (meetings : List Gathering) (fewest most least greatest member : ℕ) (new : Member) → IsSound members meetings fewest most → HasComeTo (length meetings) new → IsFewest (set members member new) least → IsMost (set members member new) greatest → IsSound (set members member new) meetings least greatest
sound-set members meetings fewest most least greatest member new sound come begun passed =
    let many = length-set members member new in
    record {
      some = omega (arith, sound.some);
      few = omega (arith, sound.few);
      each_member = All-set (HasComeTo (length meetings)) members member new come sound.each_member;
      each_meeting = rw many sound.each_meeting;
      begun = begun;
      passed = passed;
    }

same-most : (members : List Member) (most member : ℕ) (new d : Member) → new.passed ≡ (get_or members member d).passed → IsMost members most → IsMost (set members member new) most
same-most members most member new d same passed barrier =
    list_any-same (has_passed barrier) members member new d (ap (nat_le barrier) same) ∙ passed barrier

same-fewest : (members : List Member) (fewest member : ℕ) (new d : Member) → new.begun ≡ (get_or members member d).begun → IsFewest members fewest → IsFewest (set members member new) fewest
same-fewest members fewest member new d same begun barrier =
    list_all-set (has_begun barrier) members member new d (ap (nat_le barrier) same) ∙ begun barrier

come-at : (members : List Member) (meetings : List Gathering) (fewest most member : ℕ) → member < length members → IsSound members meetings fewest most → HasComeTo (length meetings) (get_or members member new_member)
come-at members meetings fewest most member of_team sound =
    All-get_or (HasComeTo (length meetings)) members member new_member of_team sound.each_member

-- one barrier more, or none
one-if : (is_one : Bool) (number : ℕ) → (number ≤ (if is_one then number + 1 else number)) × ((if is_one then number + 1 else number) ≤ number + 1)
one-if true number = (omega arith, omega arith)
one-if false number = (omega arith, omega arith)

pub sound-meeting : (members : List Member) (meetings : List Gathering) (fewest most member : ℕ) (what : Meeting) → member < length members → (get_or members member new_member).met < length meetings → IsSound members meetings fewest most → IsSound (set members member (with_meeting (get_or members member new_member) what)) meetings fewest most
sound-meeting members meetings fewest most member what of_team more sound =
    let old = get_or members member new_member in
    let come = come-at members meetings fewest most member of_team sound in
    let new = with_meeting old what in
    let barriers = one-if (is_barrier what) old.barriers in
    sound-set members meetings fewest most fewest most member new sound
    (record { met = omega arith; barriers = omega (arith, barriers, come.barriers); begun = omega (arith, barriers, come.begun); passed = omega (arith, barriers, come.passed) })
    (same-fewest members fewest member new new_member refl sound.begun)
    (same-most members most member new new_member refl sound.passed)

pub sound-begun : (members : List Member) (meetings : List Gathering) (fewest most least member : ℕ) → let old = get_or members member new_member in let new : Member = record old { begun = old.barriers } in member < length members → IsFewest (set members member new) least → IsSound members meetings fewest most → IsSound (set members member new) meetings least most
sound-begun members meetings fewest most least member of_team begun sound =
    let old = get_or members member new_member in
    let come = come-at members meetings fewest most member of_team sound in
    let new : Member = record old { begun = old.barriers } in
    sound-set members meetings fewest most least most member new sound
    (record { met = come.met; barriers = come.barriers; begun = omega arith; passed = come.passed })
    begun
    (same-most members most member new new_member refl sound.passed)

-- the greatest number of barriers passed, after a member has passed as many as it met
more-most : (members : List Member) (most member : ℕ) (new d : Member) → member < length members → (get_or members member d).passed ≤ new.passed → IsMost members most → IsMost (set members member new) (max most new.passed)
more-most members most member new d of_team more passed barrier =
    list_any-set (has_passed barrier) members member new d of_team (λ passes. le-leb barrier new.passed (omega (arith, leb-true barrier (get_or members member d).passed passes)))
    ∙ ap (λ some. some || nat_le barrier new.passed) (passed barrier)
    ∙ max-either barrier most new.passed

pub sound-passed : (members : List Member) (meetings : List Gathering) (fewest most member : ℕ) → let old = get_or members member new_member in let new : Member = record old { passed = old.barriers } in member < length members → IsSound members meetings fewest most → IsSound (set members member new) meetings fewest (max most old.barriers)
sound-passed members meetings fewest most member of_team sound =
    let old = get_or members member new_member in
    let come = come-at members meetings fewest most member of_team sound in
    let new : Member = record old { passed = old.barriers } in
    sound-set members meetings fewest most fewest (max most old.barriers) member new sound
    (record { met = come.met; barriers = come.barriers; begun = come.begun; passed = omega arith })
    (same-fewest members fewest member new new_member refl sound.begun)
    (more-most members most member new new_member of_team come.passed sound.passed)

-- a member has met what nobody had met before, or what somebody had
pub sound-first : (members : List Member) (meetings : List Gathering) (fewest most member : ℕ) (what : Meeting) → HasChunk what → member < length members → IsSound members meetings fewest most → IsSound (set members member (with_meeting (get_or members member new_member) what)) (meetings ++ fresh_gathering what ∷ []) fewest most
sound-first members meetings fewest most member what chunk of_team sound =
    let come = come-at members meetings fewest most member of_team sound in
    let more = length_push meetings (fresh_gathering what) in
    sound-meeting members (meetings ++ fresh_gathering what ∷ []) fewest most member what of_team (omega (arith, come.met)) (sound-place members meetings fewest most what chunk sound)
