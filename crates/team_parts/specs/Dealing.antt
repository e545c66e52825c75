-- A loop that is dealt from its begin: members ask, in whichever order, and take what they are answered.
use Rattle.std.specs.Prelude.{◌≡◌, ℕ, ◌+◌, ◌<◌, ◌≤◌, nat_le, nat_lt, ◌&&◌, Bool, true, false, List, [], ◌∷◌, ◌++◌, count_by, All, Option, Some, None}
use Rattle.team_parts.specs.declared.meeting.Meeting.{Meeting}
use Rattle.team_parts.specs.declared.meeting.TheConstants.{TEAM_LIMIT}
use Rattle.team_parts.specs.Meetings.{TeamMeeting, HasChunk}
use Rattle.team_parts.specs.Chunks.{next_chunk_of}
use Rattle.team_parts.specs.Team.{fresh_meeting, with_taken}

-- the meeting, and the chunks that were answered so far
pub record Deal : Type 0 where
  pub met : TeamMeeting
  pub chunks : List (ℕ × ℕ)

abbrev pub none_dealt : Meeting → Deal
none_dealt what = record { met = fresh_meeting what; chunks = [] }

abbrev pub with_chunk : Deal → ℕ → Option (ℕ × ℕ) → Deal
with_chunk dealt member None = dealt
with_chunk dealt member (Some chunk) = record { met = with_taken dealt.met member; chunks = dealt.chunks ++ chunk ∷ [] }

-- one member asks
abbrev pub after_asking : ℕ → Deal → ℕ → Deal
after_asking size dealt member = with_chunk dealt member (next_chunk_of dealt.met size member)

-- members ask in this order
unfoldable pub after_all : ℕ → Deal → List ℕ → Deal
after_all size dealt [] = dealt
after_all size dealt (member ∷ others) = after_all size (after_asking size dealt member) others

-- nothing is left for any member
abbrev pub IsOver : ℕ → TeamMeeting → Type 0
IsOver size met = (member : ℕ) → member < size → next_chunk_of met size member ≡ None

-- the iteration is one of the chunk
abbrev pub has_iteration : ℕ → ℕ × ℕ → Bool
has_iteration iteration chunk = nat_le chunk.0 iteration && nat_lt iteration (chunk.0 + chunk.1)

-- how many of the chunks have the iteration
abbrev pub times_dealt : List (ℕ × ℕ) → ℕ → ℕ
times_dealt chunks iteration = count_by (has_iteration iteration) chunks

abbrev pub one_if : Bool → ℕ
one_if true = 1
one_if false = 0

-- a loop in which members of a team of this size have asked, in this order, until nothing was left for any
pub record IsDealtOut (what : Meeting) (size : ℕ) (order : List ℕ) : Type 0 where
  pub some : 1 ≤ size
  pub few : size ≤ TEAM_LIMIT
  pub chunk : HasChunk what
  pub of_team : All (λ member. member < size) order
  pub over : IsOver size (after_all size (none_dealt what) order).met

abbrev pub chunks_dealt : Meeting → ℕ → List ℕ → List (ℕ × ℕ)
chunks_dealt what size order = (after_all size (none_dealt what) order).chunks
