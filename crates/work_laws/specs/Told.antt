-- What was told of a meeting of a team: the shares of work and the ends of work that are events of a history.
use Rattle.std.specs.Prelude.{ℕ, ◌+◌, ◌<◌, ◌==◌, ◌&&◌, Bool, if◌then◌else◌, List, [], ◌∷◌, ◌++◌, length, slice_index_or}
use Rattle.std.specs.List.{Contains}
use Rattle.c_model.specs.declared.point.WorkKind.TheVariants as work_kind
use Rattle.team_parts.specs.declared.meeting.Meeting.{Meeting}
use Rattle.team_parts.specs.Team.{TeamView, member_at, no_meeting}
use Rattle.omp_model.specs.declared.event.Endpoint.TheVariants.{End}
use Rattle.omp_model.specs.declared.event.Event.{Event}
use Rattle.omp_model.specs.declared.event.Event.TheVariants.{Dispatch, Work}
use Rattle.omp_model.specs.declared.event.Outcome.{Outcome}
use Rattle.omp_model.specs.declared.event.Outcome.TheVariants.{Happens}
use Rattle.omp_model.specs.declared.event.Share.TheVariants.{Chunk, Section}
use Rattle.omp_model.specs.declared.history.Entry.{Entry}
use Rattle.omp_model.specs.declared.history.What.{What}
use Rattle.omp_model.specs.declared.history.What.TheVariants.{Go}
use Rattle.omp_model.specs.State.{Run, State, World, first}
use Rattle.omp_model.specs.Members.{current_index, current_region, current_team}
use Rattle.omp_model.specs.Legal.{entered}
use Rattle.omp_model.specs.Turn.{turn}

-- the chunks that were told, the sections by their places, and the numbers of the members whose work has ended; each list in the order of
-- the history
pub record Telling : Type 0 where
  pub chunks : List (ℕ × ℕ)
  pub sections : List ℕ
  pub ended : List ℕ

abbrev pub nothing_told : Telling
nothing_told = record { chunks = []; sections = []; ended = [] }

-- what an event tells: a dispatch a share of work, and a work end of a loop or of sections that the member's work has ended
abbrev pub with_event : World → ℕ → Event → Telling → Telling
with_event W t (Dispatch (Chunk start length)) told = record told { chunks = told.chunks ++ (start, length) ∷ [] }
with_event W t (Dispatch (Section codeptr)) told = record told { sections = told.sections ++ codeptr ∷ [] }
with_event W t (Work End work_kind.Loop count codeptr) told = record told { ended = told.ended ++ current_index W t ∷ [] }
with_event W t (Work End work_kind.Sections count codeptr) told = record told { ended = told.ended ++ current_index W t ∷ [] }
with_event W t other told = told

-- the thread is in this region, and this is the meeting that its member has had last. Meetings are counted from 0
abbrev pub is_newest : World → ℕ → ℕ → ℕ → Bool
is_newest W t r n = current_region W t == r && (member_at (current_team W t) (current_index W t)).met == n + 1

-- what an event of the thread tells of the meeting, in the world after its Go
abbrev pub with_event_at : World → ℕ → ℕ → ℕ → Event → Telling → Telling
with_event_at W t r n event told = if is_newest W t r n then with_event W t event told else told

abbrev pub with_outcome : World → ℕ → ℕ → ℕ → Outcome → Telling → Telling
with_outcome W t r n (Happens event) told = with_event_at W t r n event told
with_outcome W t r n other told = told

abbrev pub with_entry : Run → State → ℕ → ℕ → ℕ → What → Telling → Telling
with_entry run S t r n Go told = let now = turn run S t in with_outcome now.state.world t r n now.outcome told
with_entry run S t r n other told = told

-- what these entries tell besides
abbrev pub with_entries : Run → State → ℕ → ℕ → List Entry → Telling → Telling
with_entries run S r n [] told = told
with_entries run S r n (entry ∷ rest) told =
    with_entries run (entered run S entry) r n rest (with_entry run S entry.thread r n entry.what told)

-- what a history tells of the meeting with this number of the team of this region
abbrev pub told_of : Run → List Entry → ℕ → ℕ → Telling
told_of run history r n = with_entries run (first run) r n history nothing_told

-- the meeting with this number
abbrev pub meeting_of : TeamView → ℕ → Meeting
meeting_of team n = (slice_index_or team.meetings n no_meeting).what

-- each member of the team has ended its work
abbrev pub HaveEnded : TeamView → Telling → Type 0
HaveEnded team told = (member : ℕ) → member < length team.members → Contains told.ended member
