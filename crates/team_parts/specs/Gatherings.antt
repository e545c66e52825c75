-- A meeting as the code keeps it, with how much was dealt to the members that asked.
use Rattle.std.specs.Prelude.{ℕ, ◌+◌, Bool, if◌then◌else◌, replicate}
use Rattle.team_parts.specs.declared.meeting.Schedule.{Schedule}
use Rattle.team_parts.specs.declared.meeting.Schedule.TheVariants.{Static, Dynamic, Guided}
use Rattle.team_parts.specs.declared.meeting.Meeting.{Meeting}
use Rattle.team_parts.specs.declared.meeting.Meeting.TheVariants.{Loop, Sections, Single, Barrier}
use Rattle.team_parts.specs.declared.meeting.TheConstants.{TEAM_LIMIT}
use Rattle.team_parts.specs.declared.gathering.Gathering.{Gathering}
use Rattle.team_parts.specs.Meetings.{TeamMeeting, one_more}
use Rattle.team_parts.specs.Chunks.{dealt_count}
use Rattle.team_parts.specs.Team.{with_taken}

abbrev pub meeting_of : Gathering → TeamMeeting
meeting_of gathering = record { what = gathering.what; taken = gathering.taken }

abbrev pub fresh_gathering : Meeting → Gathering
fresh_gathering what = record { what = what; taken = replicate TEAM_LIMIT 0; dealt = 0 }

-- how many iterations or sections are dealt where the members took so many chunks or sections
abbrev pub dealt_count_by : Schedule → ℕ → ℕ → ℕ → ℕ
dealt_count_by (Static chunk) size count taken = 0
dealt_count_by (Dynamic chunk) size count taken = dealt_count (Dynamic chunk) size count taken
dealt_count_by (Guided chunk) size count taken = dealt_count (Guided chunk) size count taken

abbrev pub dealt_count_of : Meeting → ℕ → ℕ → ℕ
dealt_count_of (Loop at start count step schedule) size taken = dealt_count_by schedule size count taken
dealt_count_of (Sections at count) size taken = taken
dealt_count_of (Single at) size taken = 0
dealt_count_of (Barrier at kind) size taken = 0

-- a chunk that goes round and round isn't one of those that are dealt to the members that ask
abbrev pub shared_by : Schedule → ℕ → ℕ
shared_by (Static chunk) length = 0
shared_by (Dynamic chunk) length = length
shared_by (Guided chunk) length = length

abbrev pub shared_length : Meeting → ℕ → ℕ
shared_length (Loop at start count step schedule) length = shared_by schedule length
shared_length (Sections at count) length = length
shared_length (Single at) length = length
shared_length (Barrier at kind) length = length

-- the member has taken one chunk or section more, and so many more are dealt
abbrev pub with_dealt : Gathering → ℕ → ℕ → Gathering
with_dealt gathering member dealt =
    record gathering { taken = one_more gathering.taken member; dealt = gathering.dealt + dealt }

-- a meeting of which a member asked for a chunk or a section, and took one or found none
abbrev pub with_taken_if : TeamMeeting → ℕ → Bool → TeamMeeting
with_taken_if met member found = if found then with_taken met member else met
