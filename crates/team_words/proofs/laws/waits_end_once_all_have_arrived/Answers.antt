use Rattle.team_words.specs.Team.{fresh_team}
use Rattle.team_words.specs.Calls.{after_calls, counters_after_calls, fresh_counters}
use Rattle.team_words.proofs.Called.{keeps-made}
use Rattle.team_words.proofs.Waits.{wait-answer}
use Rattle.team_words.proofs.laws.waits_end_once_all_have_arrived.Goals as goal

pub returns : goal.returns
returns c = λ size room calls member unfinished made at.
    wait-answer (after_calls (fresh_team size) calls) (counters_after_calls (fresh_counters size room) calls) member unfinished (keeps-made size room calls made) at
