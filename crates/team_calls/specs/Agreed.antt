-- Calls of members that meet the same in the same order.
use Rattle.std.specs.Prelude.{◌&&◌, Bool, true, List, [], ◌∷◌}
use Rattle.std.specs.Result.{is_ok}
use Rattle.team_words.specs.Calls.{TeamCall, after_call}
use Rattle.team_words.specs.Calls.TeamCall.{Meet}
use Rattle.team_words.specs.Team.{Team, answer_to_meet}

-- where a member meets something as its n-th, no other has met something else as its n-th
abbrev pub agrees : Team → TeamCall → Bool
agrees team (Meet member what) = is_ok (answer_to_meet team member what)
agrees team other = true

abbrev pub all_agree : Team → List TeamCall → Bool
all_agree team [] = true
all_agree team (call ∷ calls) = agrees team call && all_agree (after_call team call) calls
