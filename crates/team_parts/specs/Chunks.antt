-- Which chunk of a loop, or which section, a member takes next (OpenMP 5.2, 11.5.3 and 11.3). A chunk is its first
-- iteration, counted from 0, and its length.
use Rattle.std.specs.Prelude.{ℕ, zero, suc, ◌+◌, ◌-◌, ◌*◌, nat_lt, min, max, if◌then◌else◌, List, sum, slice_index_or, Option, Some, None}
use Rattle.std.specs.Int.{div_ceil}
use Rattle.team_parts.specs.declared.meeting.Schedule.{Schedule}
use Rattle.team_parts.specs.declared.meeting.Schedule.TheVariants.{Static, Dynamic, Guided}
use Rattle.team_parts.specs.declared.meeting.Meeting.{Meeting}
use Rattle.team_parts.specs.declared.meeting.Meeting.TheVariants.{Loop, Sections, Single, Barrier}
use Rattle.team_parts.specs.Meetings.{TeamMeeting}

-- a chunk that begins at this iteration, of at most so many; none where the loop has ended
abbrev pub chunk_at : ℕ → ℕ → ℕ → Option (ℕ × ℕ)
chunk_at start most count = if nat_lt start count then Some (start, min most (count - start)) else None

-- one block each, of the number of iterations divided by the team size, rounded up
abbrev pub block_of : ℕ → ℕ → ℕ → ℕ → Option (ℕ × ℕ)
block_of size count member zero = let block = div_ceil count size in chunk_at (member * block) block count
block_of size count member (suc turn) = None

-- the chunk of a member that has taken so many, where chunks of so many come round and round by member. The number 0
-- stands for one block each
abbrev pub own_chunk : ℕ → ℕ → ℕ → ℕ → ℕ → Option (ℕ × ℕ)
own_chunk zero size count member turn = block_of size count member turn
own_chunk (suc less) size count member turn = chunk_at ((turn * size + member) * (less + 1)) (less + 1) count

-- how many iterations the next chunk has where so many are left: the chunk's number, or for a guided loop the rest
-- divided by the team size, rounded up, where that is more; and at most the rest
abbrev pub next_length : Schedule → ℕ → ℕ → ℕ
next_length (Static chunk) size rest = 0
next_length (Dynamic chunk) size rest = min chunk rest
next_length (Guided chunk) size rest = min (max chunk (div_ceil rest size)) rest

-- how many iterations the first chunks have, so many of them
unfoldable pub dealt_count : Schedule → ℕ → ℕ → ℕ → ℕ
dealt_count schedule size count zero = 0
dealt_count schedule size count (suc chunks) =
    let before = dealt_count schedule size count chunks in before + next_length schedule size (count - before)

-- the chunk that comes after so many, whoever asks for it
abbrev pub chunk_after : Schedule → ℕ → ℕ → ℕ → Option (ℕ × ℕ)
chunk_after schedule size count chunks =
    let before = dealt_count schedule size count chunks in
    chunk_at before (next_length schedule size (count - before)) count

-- a static loop deals to each member by what this member took; another one by what all took
abbrev pub chunk_of : Schedule → ℕ → ℕ → List ℕ → ℕ → Option (ℕ × ℕ)
chunk_of (Static chunk) size count taken member = own_chunk chunk size count member (slice_index_or taken member 0)
chunk_of (Dynamic chunk) size count taken member = chunk_after (Dynamic chunk) size count (sum taken)
chunk_of (Guided chunk) size count taken member = chunk_after (Guided chunk) size count (sum taken)

abbrev pub chunk_in : Meeting → ℕ → List ℕ → ℕ → Option (ℕ × ℕ)
chunk_in (Loop at start count step schedule) size taken member = chunk_of schedule size count taken member
chunk_in (Sections at count) size taken member = None
chunk_in (Single at) size taken member = None
chunk_in (Barrier at kind) size taken member = None

abbrev pub next_chunk_of : TeamMeeting → ℕ → ℕ → Option (ℕ × ℕ)
next_chunk_of met size member = chunk_in met.what size met.taken member

-- sections are taken in the order of the text, each by the next member that asks
abbrev pub section_in : Meeting → List ℕ → Option ℕ
section_in (Loop at start count step schedule) taken = None
section_in (Sections at count) taken = if nat_lt (sum taken) count then Some (sum taken) else None
section_in (Single at) taken = None
section_in (Barrier at kind) taken = None

abbrev pub next_section_of : TeamMeeting → Option ℕ
next_section_of met = section_in met.what met.taken
