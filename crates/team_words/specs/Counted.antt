-- What the counters of `team_parts` count: each member's meetings, its barriers, those at which it has arrived and
-- those that it has passed; and in each meeting how many chunks or sections each member took.
use Rattle.std.specs.Prelude.{◌≡◌, ℕ, ◌-◌, nat_lt, Bool, if◌then◌else◌, List, [], ◌∷◌, ◌++◌, length, map, replicate, count_by}
use Rattle.std.specs.List.{range_with_len}
use Rattle.team_parts.specs.declared.meeting.TheConstants.{TEAM_LIMIT}
use Rattle.team_parts.specs.declared.member.Member.{Member}
use Rattle.team_parts.specs.Meetings.{TeamMeeting, is_barrier}
use Rattle.team_parts.specs.Team.{TeamView}
use Rattle.team_words.specs.Team.{Met, Team, met_at}
use Rattle.team_words.specs.Shares.{taken_in}

abbrev pub is_met_at_barrier : Met → Bool
is_met_at_barrier met = is_barrier met.what

abbrev pub is_arrived : Met → Bool
is_arrived met = met.arrived

abbrev pub is_passed : Met → Bool
is_passed met = met.passed

abbrev pub counted_member : List Met → Member
counted_member mets =
    record {
      met = length mets;
      barriers = count_by is_met_at_barrier mets;
      begun = count_by is_arrived mets;
      passed = count_by is_passed mets;
    }

-- all members have the same meetings, so the team's are those of a member that has had the most
abbrev pub longer : List Met → List Met → List Met
longer one other = if nat_lt (length one) (length other) then other else one

abbrev pub longest : List (List Met) → List Met
longest [] = []
longest (mets ∷ others) = longer mets (longest others)

-- how much each member took; behind the team's there are zeros
abbrev pub counts_taken : ℕ → List Met → ℕ
counts_taken number mets = length (taken_in number mets)

abbrev pub counted_taken : List (List Met) → ℕ → List ℕ
counted_taken members number = map (counts_taken number) members ++ replicate (TEAM_LIMIT - length members) 0

abbrev pub counted_meeting : List (List Met) → ℕ → TeamMeeting
counted_meeting members number = record { what = (met_at number (longest members)).what; taken = counted_taken members number }

abbrev pub counted_meetings : List (List Met) → List TeamMeeting
counted_meetings members = map (counted_meeting members) (range_with_len 0 (length (longest members)))

-- the counters are those of the team; of room for more meetings the standard says nothing
pub record IsCounted (team : Team) (view : TeamView) : Type 0 where
  pub members : view.members ≡ map counted_member team.members
  pub meetings : view.meetings ≡ counted_meetings team.members
