-- Worlds that are alike: they differ in code, cells, words and shares of work that threads have taken. Proofs stand on them.
use Rattle.std.specs.Prelude.{ℕ, ◌≡◌, ◌≢◌, ◌<◌, ◌⊎◌, List, length, map, Option, Some, None}
use Rattle.team_parts.specs.declared.meeting.Meeting.{Meeting}
use Rattle.team_parts.specs.Meetings.{TeamMeeting}
use Rattle.team_parts.specs.Team.{TeamView}
use Rattle.omp_model.specs.declared.event.Share.{Share}
use Rattle.omp_model.specs.declared.event.Share.TheVariants.{Chunk, Section}
use Rattle.omp_model.specs.declared.parts.RegionHead.{RegionHead}
use Rattle.omp_model.specs.State.{Thread, World, region_at, task_at, thread_at}

-- a thread has come as far, with the same tasks, and is to join and to start the same
pub record AlikeThread (thread after : Thread) : Type 0 where
  pub stage : after.stage ≡ thread.stage
  pub stack : after.stack ≡ thread.stack
  pub invited : after.invited ≡ thread.invited
  pub undeferred : after.undeferred ≡ thread.undeferred

-- a region is the same but for its data word
pub record AlikeHead (head after : RegionHead) : Type 0 where
  pub task : after.task ≡ head.task
  pub size : after.size ≡ head.size
  pub members : after.members ≡ head.members
  pub left : after.left ≡ head.left
  pub ended : after.ended ≡ head.ended

abbrev pub what_met : TeamView → List Meeting
what_met team = map (λ (met : TeamMeeting). met.what) team.meetings

-- a team has met the same, whatever shares of it were taken
pub record AlikeTeam (team after : TeamView) : Type 0 where
  pub members : after.members ≡ team.members
  pub met : what_met after ≡ what_met team

-- the worlds before and after what is no event: silent steps, what a task goes past, and what a tool stores
pub record AlikeWorld (W after : World) : Type 0 where
  pub thread : (u : ℕ) → AlikeThread (thread_at W u) (thread_at after u)
  pub threads : length after.threads ≡ length W.threads
  pub tasks : length after.tasks ≡ length W.tasks
  pub owner : (k : ℕ) → (task_at after k).thread ≡ (task_at W k).thread
  pub forked : (k : ℕ) → (task_at after k).forked ≡ (task_at W k).forked
  pub pool : after.pool ≡ W.pool
  pub regions : length after.regions ≡ length W.regions
  pub head : (q : ℕ) → AlikeHead (region_at W q).head (region_at after q).head
  pub team : (q : ℕ) → AlikeTeam (region_at W q).team (region_at after q).team
  pub locks : after.locks ≡ W.locks

-- a chunk has an iteration
abbrev pub IsSomeShare : Share → Type 0
IsSomeShare (Chunk start count) = 0 < count
IsSomeShare (Section codeptr) = Unit {0}

-- .. where a share was taken
abbrev pub HasSomeShare : Option Share → Type 0
HasSomeShare None = Unit {0}
HasSomeShare (Some share) = IsSomeShare share

-- the worlds before and after silent steps of a thread: nothing is stored, no other thread takes a share, and a chunk that is taken has an iteration
pub record QuietWorld (t : ℕ) (W after : World) : Type 0 where
  pub alike : AlikeWorld W after
  pub task_words : (k : ℕ) → (task_at after k).word ≡ (task_at W k).word
  pub region_words : (q : ℕ) → (region_at after q).head.word ≡ (region_at W q).head.word
  pub others : (u : ℕ) → u ≢ t → (thread_at after u).taken ≡ (thread_at W u).taken
  pub own : ((thread_at after t).taken ≡ (thread_at W t).taken) ⊎ HasSomeShare (thread_at after t).taken
