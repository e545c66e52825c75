-- A team in the standard's words: for each member its own list of what it has met (OpenMP 5.2, 11 and 15.3.1).
use Rattle.std.specs.Prelude.{ℕ, ◌-◌, nat_lt, ◌==◌, ◌&&◌, ◌||◌, not, Bool, true, false, if◌then◌else◌, List, [], ◌∷◌, ◌++◌, length, replicate, slice_index_or, slice_set, Result, Ok, Err}
use Rattle.std.specs.List.{list_all, list_any}
use Rattle.team_parts.specs.declared.meeting.Meeting.{Meeting}
use Rattle.team_parts.specs.declared.meeting.Meeting.TheVariants.{Single}
use Rattle.team_parts.specs.declared.meeting.Mismatch.{Mismatch}
use Rattle.team_parts.specs.Meetings.{is_barrier, is_same}

-- A worksharing construct or a barrier that a member has met. Of a loop it has the chunks that the member took, and of
-- sections these, each with 1 for its length. Of a barrier it has whether the member has arrived, so that its wait has
-- begun, and whether it has passed, so that its wait has ended.
pub record Met : Type 0 where
  pub what : Meeting
  pub taken : List (ℕ × ℕ)
  pub arrived : Bool
  pub passed : Bool

-- what each member has met, in order; members go by number, from 0 on
pub record Team : Type 0 where
  pub members : List (List Met)

abbrev pub fresh_team : ℕ → Team
fresh_team size = record { members = replicate size [] }

abbrev pub met_by : Team → ℕ → List Met
met_by team member = slice_index_or team.members member []

-- a member's meeting with this number, counted from 0; where it has had none, it has neither arrived nor passed there
abbrev pub not_met : Met
not_met = record { what = Single 0; taken = []; arrived = false; passed = false }

abbrev pub met_at : ℕ → List Met → Met
met_at number mets = slice_index_or mets number not_met

-- the number of the meeting that a member had last, and that meeting
abbrev pub last_number : List Met → ℕ
last_number mets = length mets - 1

abbrev pub last_met : List Met → Met
last_met mets = met_at (last_number mets) mets

-- one member, or the last meeting of one, is changed
abbrev pub with_mets : Team → ℕ → List Met → Team
with_mets team member mets = record { members = slice_set team.members member mets }

abbrev pub with_last : Team → ℕ → Met → Team
with_last team member met = with_mets team member (slice_set (met_by team member) (last_number (met_by team member)) met)

-- A member meets something.

-- a member has had the meeting with this number; it has met something else there
abbrev pub has_met : ℕ → List Met → Bool
has_met number mets = nat_lt number (length mets)

abbrev pub has_met_else : ℕ → Meeting → List Met → Bool
has_met_else number what mets = has_met number mets && not (is_same (met_at number mets).what what)

-- All members meet the same in the same order. So the n-th that a member meets is compared with the n-th of each that
-- has had so many, and it is the first here where no one has
abbrev pub answer_to_meet : Team → ℕ → Meeting → Result Bool Mismatch
answer_to_meet team member what =
    let number = length (met_by team member) in
    if list_any (has_met_else number what) team.members then Err (record {}) else Ok (not (list_any (has_met number) team.members))

abbrev pub with_meeting : Team → ℕ → Meeting → Team
with_meeting team member what =
    with_mets team member (met_by team member ++ record { what = what; taken = []; arrived = false; passed = false } ∷ [])

-- A member waits at the barrier that it met last.

abbrev pub with_arrived : Team → ℕ → Team
with_arrived team member = with_last team member (record (last_met (met_by team member)) { arrived = true })

abbrev pub with_passed : Team → ℕ → Team
with_passed team member = with_last team member (record (last_met (met_by team member)) { passed = true })

abbrev pub has_arrived : ℕ → List Met → Bool
has_arrived number mets = (met_at number mets).arrived

abbrev pub has_passed : ℕ → List Met → Bool
has_passed number mets = (met_at number mets).passed

-- The wait may end where each member has arrived at its meeting with this number and no explicit task of the region is
-- unfinished, or where some member has passed its own
abbrev pub may_pass : Team → ℕ → ℕ → Bool
may_pass team member unfinished =
    let number = last_number (met_by team member) in
    list_all (has_arrived number) team.members && unfinished == 0 || list_any (has_passed number) team.members

-- What a member has met last is a barrier. It may go on to the next thing where it has arrived at that barrier and has
-- passed it, or where what it has met last is no barrier.
abbrev pub is_at_barrier : List Met → Bool
is_at_barrier mets = is_barrier (last_met mets).what

abbrev pub may_go_on : List Met → Bool
may_go_on mets = if is_at_barrier mets then (last_met mets).arrived && (last_met mets).passed else true
