-- What the regions of a run are seen as, with room, and how they are kept.
use Rattle.std.specs.Prelude.{ℕ, ◌≡◌, ◌≤◌, nat_lt, if◌then◌else◌, Bool, false, List, [], ◌∷◌, Option, Some, None, Result, Ok, length, replicate, slice_index_or, slice_set}
use Rattle.team_parts.specs.declared.meeting.Meeting.{Meeting}
use Rattle.team_parts.specs.declared.meeting.Mismatch.{Mismatch}
use Rattle.team_parts.specs.declared.meeting.TheConstants.{TEAM_LIMIT}
use Rattle.team_parts.specs.Team.{TeamView, after_chunk, after_meeting, after_section, answer_to_meet, new_member, next_chunk, next_section}
use Rattle.omp_model.specs.declared.parts.RegionHead.{RegionHead}
use Rattle.omp_board.specs.declared.regions.RegionRoom.{RegionRoom}
use Rattle.omp_model.specs.State.{Region, fresh_region, fresh_team, no_region}

-- the regions by identity, and room
pub record RegionsView : Type 0 where
  pub regions : List Region
  pub room : RegionRoom

abbrev pub no_region_room : RegionRoom
no_region_room = record { region = 0; meetings = 0; regions = 0 }

abbrev pub turn_room : ℕ → RegionRoom
turn_room region = record { region = region; meetings = 1; regions = 1 }

-- the implicit region of the initial task alone
abbrev pub first_regions : RegionsView
first_regions = record { regions = no_region ∷ fresh_region 0 1 ∷ []; room = no_region_room }

abbrev pub region_in : RegionsView → ℕ → Region
region_in view r = slice_index_or view.regions r no_region

-- the team of a region, and whether a member has this number
abbrev pub team_in : RegionsView → ℕ → TeamView
team_in view r = (region_in view r).team

abbrev pub is_member_in : RegionsView → ℕ → ℕ → Bool
is_member_in view r i = nat_lt i (length (team_in view r).members)

abbrev pub with_head_in : RegionsView → ℕ → RegionHead → RegionsView
with_head_in view r head = record view { regions = slice_set view.regions r (record (region_in view r) { head = head }) }

abbrev pub with_team_in : RegionsView → ℕ → TeamView → RegionsView
with_team_in view r team = record view { regions = slice_set view.regions r (record (region_in view r) { team = team }) }

-- what a team answers and does to a member. One that it doesn't have meets nothing and is dealt nothing
abbrev pub meeting_in : RegionsView → ℕ → ℕ → Meeting → Result Bool Mismatch
meeting_in view r i what = if is_member_in view r i then answer_to_meet (team_in view r) i what else Ok false

abbrev pub after_meeting_in : RegionsView → ℕ → ℕ → Meeting → RegionsView
after_meeting_in view r i what = if is_member_in view r i then with_team_in view r (after_meeting (team_in view r) i what) else view

abbrev pub next_chunk_in : RegionsView → ℕ → ℕ → Option (ℕ × ℕ)
next_chunk_in view r i = if is_member_in view r i then next_chunk (team_in view r) i else None

abbrev pub after_chunk_in : RegionsView → ℕ → ℕ → RegionsView
after_chunk_in view r i = with_team_in view r (if is_member_in view r i then after_chunk (team_in view r) i else team_in view r)

abbrev pub next_section_in : RegionsView → ℕ → ℕ → Option ℕ
next_section_in view r i = if is_member_in view r i then next_section (team_in view r) i else None

abbrev pub after_section_in : RegionsView → ℕ → ℕ → RegionsView
after_section_in view r i = with_team_in view r (if is_member_in view r i then after_section (team_in view r) i else team_in view r)

-- The team that is kept of a region: none where it has no members. The room that a team has for meetings is no part of what a region is seen as.
abbrev pub seen_team : Option TeamView → TeamView
seen_team None = fresh_team 0
seen_team (Some team) = record team { room = 0 }

-- a team for a region to come. It has room for a meeting, since the region may be the one for whose team there is room
pub record IsFreshTeam (team : TeamView) : Type 0 where
  pub members : team.members ≡ replicate TEAM_LIMIT new_member
  pub meetings : team.meetings ≡ []
  pub room : 1 ≤ team.room
