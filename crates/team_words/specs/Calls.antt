-- The calls of members, one after another: what they are answered by the standard's words, and what by the counters.
use Rattle.std.specs.Prelude.{ℕ, ◌≤◌, nat_lt, ◌&&◌, Bool, true, IsTrue, List, [], ◌∷◌, length, replicate, Option, Result, Ok, Err}
use Rattle.team_parts.specs.declared.meeting.Meeting.{Meeting}
use Rattle.team_parts.specs.declared.meeting.Mismatch.{Mismatch}
use Rattle.team_parts.specs.declared.meeting.TheConstants.{TEAM_LIMIT}
use Rattle.team_parts.specs.Team as counters
use Rattle.team_words.specs.Team.{Team, answer_to_meet, fresh_team, is_at_barrier, may_go_on, may_pass, met_by, with_arrived, with_meeting, with_passed}
use Rattle.team_words.specs.Shares.{after_chunk, after_section, next_chunk, next_section}

-- A call of a member. It meets something, or asks what it would be answered if it met it. It asks for a chunk or a
-- section, and takes it where one is left. It arrives at a barrier, asks whether its wait there may end while so many
-- explicit tasks are unfinished, or passes it.
pub data TeamCall : Type 0 where
  Meet : ℕ → Meeting → TeamCall
  WouldMeet : ℕ → Meeting → TeamCall
  TakeChunk : ℕ → TeamCall
  TakeSection : ℕ → TeamCall
  Arrive : ℕ → TeamCall
  MayPass : ℕ → ℕ → TeamCall
  Pass : ℕ → TeamCall

pub data TeamAnswer : Type 0 where
  Meets : Result Bool Mismatch → TeamAnswer
  Chunk : Option (ℕ × ℕ) → TeamAnswer
  Section : Option ℕ → TeamAnswer
  Ends : Bool → TeamAnswer
  Done : TeamAnswer

-- By the standard's words.

abbrev pub answer_of : Team → TeamCall → TeamAnswer
answer_of team (Meet member what) = Meets (answer_to_meet team member what)
answer_of team (WouldMeet member what) = Meets (answer_to_meet team member what)
answer_of team (TakeChunk member) = Chunk (next_chunk team member)
answer_of team (TakeSection member) = Section (next_section team member)
answer_of team (Arrive member) = Done
answer_of team (MayPass member unfinished) = Ends (may_pass team member unfinished)
answer_of team (Pass member) = Done

-- a member that would meet something else than another one meets nothing
abbrev pub after_answer : Team → ℕ → Meeting → Result Bool Mismatch → Team
after_answer team member what (Ok first) = with_meeting team member what
after_answer team member what (Err mismatch) = team

abbrev pub after_call : Team → TeamCall → Team
after_call team (Meet member what) = after_answer team member what (answer_to_meet team member what)
after_call team (WouldMeet member what) = team
after_call team (TakeChunk member) = after_chunk team member (next_chunk team member)
after_call team (TakeSection member) = after_section team member (next_section team member)
after_call team (Arrive member) = with_arrived team member
after_call team (MayPass member unfinished) = team
after_call team (Pass member) = with_passed team member

abbrev pub after_calls : Team → List TeamCall → Team
after_calls team [] = team
after_calls team (call ∷ calls) = after_calls (after_call team call) calls

abbrev pub answers_of : Team → List TeamCall → List TeamAnswer
answers_of team [] = []
answers_of team (call ∷ calls) = answer_of team call ∷ answers_of (after_call team call) calls

-- By the counters.

abbrev pub counters_answer : counters.TeamView → TeamCall → TeamAnswer
counters_answer view (Meet member what) = Meets (counters.answer_to_meet view member what)
counters_answer view (WouldMeet member what) = Meets (counters.answer_to_meet view member what)
counters_answer view (TakeChunk member) = Chunk (counters.next_chunk view member)
counters_answer view (TakeSection member) = Section (counters.next_section view member)
counters_answer view (Arrive member) = Done
counters_answer view (MayPass member unfinished) = Ends (counters.may_pass view member unfinished)
counters_answer view (Pass member) = Done

abbrev pub counters_after_answer : counters.TeamView → ℕ → Meeting → Result Bool Mismatch → counters.TeamView
counters_after_answer view member what (Ok first) = counters.after_meeting view member what
counters_after_answer view member what (Err mismatch) = view

abbrev pub counters_after : counters.TeamView → TeamCall → counters.TeamView
counters_after view (Meet member what) = counters_after_answer view member what (counters.answer_to_meet view member what)
counters_after view (WouldMeet member what) = view
counters_after view (TakeChunk member) = counters.after_chunk view member
counters_after view (TakeSection member) = counters.after_section view member
counters_after view (Arrive member) = counters.with_begun view member
counters_after view (MayPass member unfinished) = view
counters_after view (Pass member) = counters.with_passed view member

abbrev pub counters_after_calls : counters.TeamView → List TeamCall → counters.TeamView
counters_after_calls view [] = view
counters_after_calls view (call ∷ calls) = counters_after_calls (counters_after view call) calls

abbrev pub counters_answers : counters.TeamView → List TeamCall → List TeamAnswer
counters_answers view [] = []
counters_answers view (call ∷ calls) = counters_answer view call ∷ counters_answers (counters_after view call) calls

-- a team that has met nothing yet, with room for so many meetings
abbrev pub fresh_counters : ℕ → ℕ → counters.TeamView
fresh_counters size room = record { members = replicate size counters.new_member; meetings = []; room = room }

-- The order in which members make these calls.

abbrev pub is_member : Team → ℕ → Bool
is_member team member = nat_lt member (length team.members)

-- A member meets the next thing once it has passed its barrier. It asks for a chunk or a section only once it has met
-- something, and it waits only at a barrier.
abbrev pub may_make : Team → TeamCall → Bool
may_make team (Meet member what) = is_member team member && may_go_on (met_by team member)
may_make team (WouldMeet member what) = is_member team member
may_make team (TakeChunk member) = is_member team member && nat_lt 0 (length (met_by team member))
may_make team (TakeSection member) = is_member team member && nat_lt 0 (length (met_by team member))
may_make team (Arrive member) = is_member team member && is_at_barrier (met_by team member)
may_make team (MayPass member unfinished) = is_member team member && is_at_barrier (met_by team member)
may_make team (Pass member) = is_member team member && is_at_barrier (met_by team member)

abbrev pub may_make_all : Team → List TeamCall → Bool
may_make_all team [] = true
may_make_all team (call ∷ calls) = may_make team call && may_make_all (after_call team call) calls

-- members of a team of this size make these calls, one after another, from its begin on
pub record AreMade (size : ℕ) (calls : List TeamCall) : Type 0 where
  pub few : size ≤ TEAM_LIMIT
  pub in_order : IsTrue (may_make_all (fresh_team size) calls)

-- a member passes a barrier only where its wait there may end as if no explicit task were unfinished
abbrev pub ends_in_time : Team → TeamCall → Bool
ends_in_time team (Meet member what) = true
ends_in_time team (WouldMeet member what) = true
ends_in_time team (TakeChunk member) = true
ends_in_time team (TakeSection member) = true
ends_in_time team (Arrive member) = true
ends_in_time team (MayPass member unfinished) = true
ends_in_time team (Pass member) = may_pass team member 0

abbrev pub all_end_in_time : Team → List TeamCall → Bool
all_end_in_time team [] = true
all_end_in_time team (call ∷ calls) = ends_in_time team call && all_end_in_time (after_call team call) calls
