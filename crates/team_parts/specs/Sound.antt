-- What is true of each team.
use Rattle.std.specs.Prelude.{◌≡◌, ℕ, ◌≤◌, nat_le, List, length, sum, All}
use Rattle.std.specs.List.{list_all, list_any}
use Rattle.team_parts.specs.declared.meeting.TheConstants.{TEAM_LIMIT}
use Rattle.team_parts.specs.declared.member.Member.{Member}
use Rattle.team_parts.specs.declared.gathering.Gathering.{Gathering}
use Rattle.team_parts.specs.Meetings.{HasChunk}
use Rattle.team_parts.specs.Gatherings.{dealt_count_of, shared_length}
use Rattle.team_parts.specs.Team.{has_begun, has_passed}

-- as many are dealt as the definitions have for so many chunks or sections, and each of these had at least one
pub record IsCounted (size : ℕ) (gathering : Gathering) : Type 0 where
  pub dealt : gathering.dealt ≡ dealt_count_of gathering.what size (sum gathering.taken)
  pub within : shared_length gathering.what (sum gathering.taken) ≤ gathering.dealt
  pub places : length gathering.taken ≡ TEAM_LIMIT
  pub chunk : HasChunk gathering.what

-- a member has had no more meetings than the team, and no more barriers than meetings
pub record HasComeTo (meetings : ℕ) (member : Member) : Type 0 where
  pub met : member.met ≤ meetings
  pub barriers : member.barriers ≤ member.met
  pub begun : member.begun ≤ member.barriers
  pub passed : member.passed ≤ member.barriers

-- each member has begun to wait at so many barriers, and some member at no more
abbrev pub IsFewest : List Member → ℕ → Type 0
IsFewest members fewest = (barrier : ℕ) → list_all (has_begun barrier) members ≡ nat_le barrier fewest

-- no member's wait has ended at more, and some member's at so many
abbrev pub IsMost : List Member → ℕ → Type 0
IsMost members most = (barrier : ℕ) → list_any (has_passed barrier) members ≡ nat_le barrier most

pub record IsSound (members : List Member) (meetings : List Gathering) (fewest most : ℕ) : Type 0 where
  pub some : 1 ≤ length members
  pub few : length members ≤ TEAM_LIMIT
  pub each_member : All (HasComeTo (length meetings)) members
  pub each_meeting : All (IsCounted (length members)) meetings
  pub begun : IsFewest members fewest
  pub passed : IsMost members most
