-- How the regions are kept.
use Rattle.std.specs.Prelude.{ℕ, ◌+◌, ◌<◌, ◌≤◌, ◌^◌, nat_lt, Bool, List, Option, None, IfSome, IsSome, length, map, option_map, slice_index_or}
use Rattle.team_parts.specs.Team.{TeamView}
use Rattle.omp_model.specs.State.{Region as Seen, fresh_head}
use Rattle.omp_board.specs.declared.region.Region.{Region}
use Rattle.omp_board.specs.declared.regions.RegionRoom.{RegionRoom}
use Rattle.omp_board.specs.Regions.{IsFreshTeam, seen_team}

abbrev pub seen_region : Region → Seen
seen_region region = record { head = region.head; team = seen_team region.team }

abbrev pub seen_regions : List Region → List Seen
seen_regions regions = map seen_region regions

-- its team, and whether a team has a member with this number
abbrev pub team_of : Region → TeamView
team_of region = seen_team region.team

abbrev pub has_member : TeamView → ℕ → Bool
has_member team i = nat_lt i (length team.members)

-- for how many meetings the team of a region has room, if there is a team; so many are among them
abbrev pub room_of : Region → Option ℕ
room_of region = option_map (λ (team : TeamView). team.room) region.team

abbrev pub HasRoom : Region → ℕ → Type 0
HasRoom region meetings = IfSome region.team (λ (team : TeamView). meetings ≤ team.room)

-- a region without members
abbrev pub kept_nothing : Region
kept_nothing = record { head = fresh_head 0 0; team = None }

abbrev pub region_kept : List Region → ℕ → Region
region_kept regions r = slice_index_or regions r kept_nothing

-- there is a team for a region to come, where there is room for one
abbrev pub HasTeam : ℕ → Option TeamView → Type 0
HasTeam count team = (1 ≤ count → IsSome team) × IfSome team IsFreshTeam

-- there is as much room as is said
pub record IsKept (regions : List Region) (capacity : ℕ) (fresh : Option TeamView) (room : RegionRoom) : Type 0 where
  pub slots : length regions + room.regions ≤ capacity
  pub few : length regions + room.regions < 2 ^ 32
  pub fresh_team : HasTeam room.regions fresh
  pub meetings : HasRoom (region_kept regions room.region) room.meetings
  pub one : room.meetings ≤ 1
