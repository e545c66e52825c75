-- Meetings, and which of them are the same.
use Rattle.std.specs.Prelude.{ℕ, ◌+◌, ◌≤◌, ◌==◌, ◌&&◌, Bool, true, false, List, slice_index_or, slice_set}
use Rattle.std.specs.Ordering.{int_eq}
use Rattle.team_parts.specs.declared.meeting.Schedule.{Schedule}
use Rattle.team_parts.specs.declared.meeting.Schedule.TheVariants.{Static, Dynamic, Guided}
use Rattle.team_parts.specs.declared.meeting.Meeting.{Meeting}
use Rattle.team_parts.specs.declared.meeting.Meeting.TheVariants.{Loop, Sections, Single, Barrier}

-- a meeting of the team: what is met, and how many chunks or sections each member took in it
pub record TeamMeeting : Type 0 where
  pub what : Meeting
  pub taken : List ℕ

-- the member took one chunk or section more
abbrev pub one_more : List ℕ → ℕ → List ℕ
one_more taken member = slice_set taken member (slice_index_or taken member 0 + 1)

abbrev pub is_same_schedule : Schedule → Schedule → Bool
is_same_schedule (Static chunk) (Static other) = chunk == other
is_same_schedule (Dynamic chunk) (Dynamic other) = chunk == other
is_same_schedule (Guided chunk) (Guided other) = chunk == other
is_same_schedule _ _ = false

-- the same construct, with the same numbers and the same schedule
abbrev pub is_same : Meeting → Meeting → Bool
is_same (Loop at start count step schedule) (Loop at' start' count' step' schedule') =
    at == at' && int_eq start start' && count == count' && int_eq step step' && is_same_schedule schedule schedule'
is_same (Sections at count) (Sections at' count') = at == at' && count == count'
is_same (Single at) (Single at') = at == at'
is_same (Barrier at kind) (Barrier at' kind') = at == at' && kind == kind'
is_same _ _ = false

abbrev pub is_barrier : Meeting → Bool
is_barrier (Loop at start count step schedule) = false
is_barrier (Sections at count) = false
is_barrier (Single at) = false
is_barrier (Barrier at kind) = true

-- a chunk that goes to the members that ask has at least one iteration
abbrev pub HasChunkOf : Schedule → Type 0
HasChunkOf (Static chunk) = Unit {0}
HasChunkOf (Dynamic chunk) = 1 ≤ chunk
HasChunkOf (Guided chunk) = 1 ≤ chunk

abbrev pub HasChunk : Meeting → Type 0
HasChunk (Loop at start count step schedule) = HasChunkOf schedule
HasChunk (Sections at count) = Unit {0}
HasChunk (Single at) = Unit {0}
HasChunk (Barrier at kind) = Unit {0}
