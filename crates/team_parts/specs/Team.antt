-- What a team is seen as, and what its calls answer and do to it.
use Rattle.std.specs.Prelude.{ℕ, ◌+◌, ◌-◌, ◌<◌, ◌==◌, nat_le, ◌&&◌, ◌||◌, Bool, true, false, IsTrue, if◌then◌else◌, List, [], ◌∷◌, ◌++◌, length, replicate, slice_get, slice_index_or, slice_set, Option, Some, None, is_some, Result, Ok, Err}
use Rattle.std.specs.List.{list_all, list_any}
use Rattle.team_parts.specs.declared.meeting.Meeting.{Meeting}
use Rattle.team_parts.specs.declared.meeting.Meeting.TheVariants.{Barrier}
use Rattle.team_parts.specs.declared.meeting.Mismatch.{Mismatch}
use Rattle.team_parts.specs.declared.meeting.TheConstants.{TEAM_LIMIT}
use Rattle.team_parts.specs.declared.member.Member.{Member}
use Rattle.team_parts.specs.Meetings.{TeamMeeting, one_more, is_same, is_barrier}
use Rattle.team_parts.specs.Chunks.{next_chunk_of, next_section_of}

-- the members by number, the meetings that some member has had, in their order, and how many more there is room for.
-- All members have the same meetings, so a member's own are the first of them, as many as it has had
pub record TeamView : Type 0 where
  pub members : List Member
  pub meetings : List TeamMeeting
  pub room : ℕ

-- a member that has met nothing
abbrev pub new_member : Member
new_member = record { met = 0; barriers = 0; begun = 0; passed = 0 }

abbrev pub member_at : TeamView → ℕ → Member
member_at team member = slice_index_or team.members member new_member

-- one member is changed
abbrev pub with_member : TeamView → ℕ → Member → TeamView
with_member team member changed = record team { members = slice_set team.members member changed }

-- a meeting in which nothing was taken
abbrev pub fresh_meeting : Meeting → TeamMeeting
fresh_meeting what = record { what = what; taken = replicate TEAM_LIMIT 0 }

-- the member has had one meeting more
abbrev pub with_meeting : Member → Meeting → Member
with_meeting member what =
    record member { met = member.met + 1; barriers = if is_barrier what then member.barriers + 1 else member.barriers }

-- the member is the first here, or another one was here and met the same, or something else
abbrev pub meeting_answer : Option TeamMeeting → Meeting → Result Bool Mismatch
meeting_answer None what = Ok true
meeting_answer (Some met) what = if is_same met.what what then Ok false else Err (record {})

abbrev pub answer_to_meet : TeamView → ℕ → Meeting → Result Bool Mismatch
answer_to_meet team member what = meeting_answer (slice_get team.meetings (member_at team member).met) what

abbrev pub with_place : TeamView → Option TeamMeeting → Meeting → TeamView
with_place team None what = record team { meetings = team.meetings ++ fresh_meeting what ∷ []; room = team.room - 1 }
with_place team (Some met) what = team

-- the member has met this
abbrev pub after_meeting : TeamView → ℕ → Meeting → TeamView
after_meeting team member what =
    let met = member_at team member in
    with_member (with_place team (slice_get team.meetings met.met) what) member (with_meeting met what)

-- the meeting that the member had last; the first of the team, if there is one, where the member had none
abbrev pub last_number : TeamView → ℕ → ℕ
last_number team member = (member_at team member).met - 1

abbrev pub no_meeting : TeamMeeting
no_meeting = record { what = Barrier 0 0; taken = [] }

abbrev pub last_meeting : TeamView → ℕ → TeamMeeting
last_meeting team member = slice_index_or team.meetings (last_number team member) no_meeting

-- the member has taken one chunk or section more in the meeting that it had last
abbrev pub with_taken : TeamMeeting → ℕ → TeamMeeting
with_taken met member = record met { taken = one_more met.taken member }

abbrev pub after_taking : TeamView → ℕ → TeamView
after_taking team member =
    let taken = with_taken (last_meeting team member) member in
    record team { meetings = slice_set team.meetings (last_number team member) taken }

abbrev pub next_chunk : TeamView → ℕ → Option (ℕ × ℕ)
next_chunk team member = next_chunk_of (last_meeting team member) (length team.members) member

abbrev pub after_chunk : TeamView → ℕ → TeamView
after_chunk team member = if is_some (next_chunk team member) then after_taking team member else team

abbrev pub next_section : TeamView → ℕ → Option ℕ
next_section team member = next_section_of (last_meeting team member)

abbrev pub after_section : TeamView → ℕ → TeamView
after_section team member = if is_some (next_section team member) then after_taking team member else team

-- the member has begun to wait at the last barrier that it met, and at all before
abbrev pub with_begun : TeamView → ℕ → TeamView
with_begun team member =
    let met = member_at team member in with_member team member (record met { begun = met.barriers })

-- its wait there has ended
abbrev pub with_passed : TeamView → ℕ → TeamView
with_passed team member =
    let met = member_at team member in with_member team member (record met { passed = met.barriers })

-- the member has begun to wait at the barrier with this number, counted from 1; its wait there has ended
abbrev pub has_begun : ℕ → Member → Bool
has_begun barrier member = nat_le barrier member.begun

abbrev pub has_passed : ℕ → Member → Bool
has_passed barrier member = nat_le barrier member.passed

-- a wait may end where all members have begun theirs and no explicit task is unfinished, or where that of some member
-- has ended
abbrev pub may_pass : TeamView → ℕ → ℕ → Bool
may_pass team member unfinished =
    let barrier = (member_at team member).barriers in
    list_all (has_begun barrier) team.members && unfinished == 0 || list_any (has_passed barrier) team.members
