-- A loop or sections of which nothing is left for any member.
use Rattle.std.specs.Prelude.{◌≡◌, ℕ, ◌<◌, length, None}
use Rattle.team_parts.specs.declared.meeting.Meeting.{Meeting}
use Rattle.team_words.specs.Team.{Team, met_at, met_by}
use Rattle.team_words.specs.Shares.{chunk_for, section_for}

-- some member has met this, with this number
pub record IsMet (team : Team) (number : ℕ) (what : Meeting) : Type 0 where
  pub member : ℕ
  pub within : number < length (met_by team member)
  pub same : (met_at number (met_by team member)).what ≡ what

-- .. and no chunk of the loop, or no section, is left for any member
pub record IsLoopOver (team : Team) (number : ℕ) (what : Meeting) : Type 0 where
  pub met : IsMet team number what
  pub over : (member : ℕ) → member < length team.members → chunk_for team number what member ≡ None

pub record AreSectionsOver (team : Team) (number : ℕ) (what : Meeting) : Type 0 where
  pub met : IsMet team number what
  pub over : section_for team number what ≡ None
