-- What a member's asking leaves of the team, as contracts see it.
use Rattle.std.proofs.Common.{◌≡◌, ℕ, ◌<◌, Bool, true, false, if◌then◌else◌, List, length, map, get_or, set, refl, sym, ap, ◌∙◌}
use Rattle.std.proofs.lemmas.List.{map-set, get_or-map, set-get_or}
use Rattle.team_parts.specs.declared.member.Member.{Member}
use Rattle.team_parts.specs.declared.gathering.Gathering.{Gathering}
use Rattle.team_parts.specs.Meetings.{TeamMeeting}
use Rattle.team_parts.specs.Team.{TeamView, with_taken, after_taking, last_number, last_meeting, no_meeting}
use Rattle.team_parts.specs.Gatherings.{meeting_of, with_taken_if}

-- the meetings after one of them was asked for more
set-taken : (meetings : List TeamMeeting) (number member : ℕ) (found : Bool) → set meetings number (with_taken_if (get_or meetings number no_meeting) member found) ≡ (if found then set meetings number (with_taken (get_or meetings number no_meeting) member) else meetings)
set-taken meetings number member true = refl
set-taken meetings number member false = set-get_or meetings number no_meeting

abbrev pub view_of : List Member → List Gathering → ℕ → TeamView
view_of members gatherings room = record { members = members; meetings = map meeting_of gatherings; room = room }

with-meetings : (team : TeamView) (member : ℕ) (found : Bool) → record team { meetings = if found then set team.meetings (last_number team member) (with_taken (last_meeting team member) member) else team.meetings } ≡ (if found then after_taking team member else team)
with-meetings team member true = refl
with-meetings team member false = refl

-- the last meeting of a member, in which it took something or found nothing
pub after-asking : (members : List Member) (gatherings : List Gathering) (room member number : ℕ) (old new : Gathering) (found : Bool) → let team = view_of members gatherings room in number < length gatherings → number ≡ last_number team member → old ≡ get_or gatherings number old → meeting_of new ≡ with_taken_if (meeting_of old) member found → view_of members (set gatherings number new) room ≡ (if found then after_taking team member else team)
after-asking members gatherings room member number old new found within last is taken =
    let team = view_of members gatherings room in
    let meetings = team.meetings in
    let read = ap meeting_of is ∙ sym (get_or-map meeting_of gatherings number old no_meeting within) in
    let asked = map-set meeting_of gatherings number new
    ∙ ap (set meetings number) (taken ∙ ap (λ met. with_taken_if met member found) read)
    ∙ set-taken meetings number member found in
    ap (λ (all : List TeamMeeting). record team { meetings = all }) asked
    ∙ ap (λ (n : ℕ). record team { meetings = if found then set meetings n (with_taken (get_or meetings n no_meeting) member) else meetings }) last
    ∙ with-meetings team member found

-- what was asked is the last meeting of the member
pub last-asked : (members : List Member) (gatherings : List Gathering) (room member number : ℕ) (old : Gathering) → let team = view_of members gatherings room in number < length gatherings → number ≡ last_number team member → old ≡ get_or gatherings number old → meeting_of old ≡ last_meeting team member
last-asked members gatherings room member number old within last is =
    ap meeting_of is
    ∙ sym (get_or-map meeting_of gatherings number old no_meeting within)
    ∙ ap (λ (n : ℕ). get_or (map meeting_of gatherings) n no_meeting) last
