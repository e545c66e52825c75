use Rattle.team_words.specs.Team.{fresh_team}
use Rattle.team_words.specs.Calls.{after_calls, counters_after_calls, fresh_counters}
use Rattle.team_words.proofs.Called.{keeps-made}
use Rattle.team_words.proofs.Once.{loop-once}
use Rattle.team_words.proofs.laws.each_iteration_taken_once.Goals as goal

pub returns : goal.returns
returns c = λ size calls number at start count step schedule made chunk over.
    loop-once (after_calls (fresh_team size) calls) (counters_after_calls (fresh_counters size 0) calls) number at start count step schedule (keeps-made size 0 calls made) chunk over
