-- The chunks and the sections that members take (OpenMP 5.2, 11.5.3 and 11.3).
use Rattle.std.specs.Prelude.{ℕ, ◌-◌, nat_lt, max, if◌then◌else◌, List, [], ◌∷◌, ◌++◌, length, sum_by, flat_map, Option, Some, None}
use Rattle.std.specs.Int.{div_ceil}
use Rattle.team_parts.specs.declared.meeting.Schedule.{Schedule}
use Rattle.team_parts.specs.declared.meeting.Schedule.TheVariants.{Static, Dynamic, Guided}
use Rattle.team_parts.specs.declared.meeting.Meeting.{Meeting}
use Rattle.team_parts.specs.declared.meeting.Meeting.TheVariants.{Loop, Sections, Single, Barrier}
use Rattle.team_parts.specs.Chunks.{chunk_at, own_chunk}
use Rattle.team_words.specs.Team.{Met, Team, last_met, last_number, met_at, met_by, with_last}

-- what a member took in its meeting with this number, and what all members did
abbrev pub taken_in : ℕ → List Met → List (ℕ × ℕ)
taken_in number mets = (met_at number mets).taken

abbrev pub taken_by_all : Team → ℕ → List (ℕ × ℕ)
taken_by_all team number = flat_map (taken_in number) team.members

abbrev pub iterations_of : List (ℕ × ℕ) → ℕ
iterations_of chunks = sum_by (λ (chunk : ℕ × ℕ). chunk.1) chunks

-- The next chunk of a loop. Of a static one the member's own chunks come round and round. Else it begins behind all
-- that was taken. It has as many iterations as the schedule's number, or of a guided loop the rest divided by the team
-- size, rounded up, where that is more. It has none behind the loop's end.
abbrev pub chunk_by : Schedule → ℕ → ℕ → ℕ → List (ℕ × ℕ) → List (ℕ × ℕ) → Option (ℕ × ℕ)
chunk_by (Static chunk) size count member own all = own_chunk chunk size count member (length own)
chunk_by (Dynamic chunk) size count member own all = chunk_at (iterations_of all) chunk count
chunk_by (Guided chunk) size count member own all =
    chunk_at (iterations_of all) (max chunk (div_ceil (count - iterations_of all) size)) count

abbrev pub chunk_in : Meeting → ℕ → ℕ → List (ℕ × ℕ) → List (ℕ × ℕ) → Option (ℕ × ℕ)
chunk_in (Loop at start count step schedule) size member own all = chunk_by schedule size count member own all
chunk_in (Sections at count) size member own all = None
chunk_in (Single at) size member own all = None
chunk_in (Barrier at kind) size member own all = None

-- sections are taken in the order of the text, each by whoever asks
abbrev pub section_in : Meeting → List (ℕ × ℕ) → Option ℕ
section_in (Loop at start count step schedule) all = None
section_in (Sections at count) all = if nat_lt (length all) count then Some (length all) else None
section_in (Single at) all = None
section_in (Barrier at kind) all = None

-- what comes next for a member at the meeting with this number, where this is met: a chunk, or a section
abbrev pub chunk_for : Team → ℕ → Meeting → ℕ → Option (ℕ × ℕ)
chunk_for team number what member =
    chunk_in what (length team.members) member (taken_in number (met_by team member)) (taken_by_all team number)

abbrev pub section_for : Team → ℕ → Meeting → Option ℕ
section_for team number what = section_in what (taken_by_all team number)

-- a member asks in the meeting that it had last
abbrev pub next_chunk : Team → ℕ → Option (ℕ × ℕ)
next_chunk team member = let mets = met_by team member in chunk_for team (last_number mets) (last_met mets).what member

abbrev pub next_section : Team → ℕ → Option ℕ
next_section team member = let mets = met_by team member in section_for team (last_number mets) (last_met mets).what

-- and takes what it is answered
abbrev pub with_taken : Team → ℕ → ℕ × ℕ → Team
with_taken team member chunk =
    let last = last_met (met_by team member) in with_last team member (record last { taken = last.taken ++ chunk ∷ [] })

abbrev pub after_chunk : Team → ℕ → Option (ℕ × ℕ) → Team
after_chunk team member None = team
after_chunk team member (Some chunk) = with_taken team member chunk

abbrev pub after_section : Team → ℕ → Option ℕ → Team
after_section team member None = team
after_section team member (Some section) = with_taken team member (section, 1)
