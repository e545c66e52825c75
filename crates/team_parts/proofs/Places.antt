-- A meeting that is the first with its number, or not.
use Rattle.std.proofs.Common.{◌≡◌, ℕ, zero, suc, ◌-◌, ◌<◌, Bool, true, false, if◌then◌else◌, Option, Some, None, Ok, Err, List, [], ◌∷◌, ◌++◌, length, slice_get, refl, sym, ap, arith}
use Rattle.team_parts.specs.declared.meeting.Meeting.{Meeting}
use Rattle.team_parts.specs.declared.meeting.Mismatch.{Mismatch}
use Rattle.team_parts.specs.Meetings.{TeamMeeting, is_same}
use Rattle.team_parts.specs.Team.{TeamView, fresh_meeting, meeting_answer, member_at, with_member, with_meeting, with_place, after_meeting}

-- the team with one meeting more, where the member is the first
abbrev pub with_first : TeamView → Bool → Meeting → TeamView
with_first team is_first what = if is_first then record team { meetings = team.meetings ++ fresh_meeting what ∷ []; room = team.room - 1 } else team

same-answer : (same first : Bool) (fault : Mismatch) → (if same then Ok false else Err fault) ≡ Ok first → first ≡ false
same-answer true first fault answer = cc
same-answer false first fault answer = absurd cc

place-is : (team : TeamView) (place : Option TeamMeeting) (what : Meeting) (is_first : Bool) → meeting_answer place what ≡ Ok is_first → with_place team place what ≡ with_first team is_first what
place-is team None what is_first answer = let first : is_first ≡ true = cc in rw first refl
place-is team (Some met) what is_first answer = let first : is_first ≡ false = same-answer (is_same met.what what) is_first (record {}) answer in rw first refl

pub after-meeting : (team : TeamView) (member : ℕ) (what : Meeting) (is_first : Bool) → meeting_answer (slice_get team.meetings (member_at team member).met) what ≡ Ok is_first → with_member (with_first team is_first what) member (with_meeting (member_at team member) what) ≡ after_meeting team member what
after-meeting team member what is_first answer =
    sym (ap (λ (placed : TeamView). with_member placed member (with_meeting (member_at team member) what)) (place-is team (slice_get team.meetings (member_at team member).met) what is_first answer))

pub within-unless-first : (meetings : List TeamMeeting) (number : ℕ) (what : Meeting) → meeting_answer (slice_get meetings number) what ≡ Ok false → number < length meetings
within-unless-first [] number what answer = absurd cc
within-unless-first (met ∷ rest) zero what answer = omega arith
within-unless-first (met ∷ rest) (suc number) what answer = let below = within-unless-first rest number what answer in omega arith
