use Rattle.team_words.specs.Team.{fresh_team}
use Rattle.team_words.specs.Calls.{after_calls, counters_after_calls, fresh_counters}
use Rattle.team_words.proofs.Called.{answers-made, keeps-made}
use Rattle.team_words.proofs.Longest.{is-counted}
use Rattle.team_words.proofs.laws.counters_tell_the_team.Goals as goal

pub returns-clause-answers : goal.returns-clause-answers
returns-clause-answers c = answers-made

pub returns-clause-counted : goal.returns-clause-counted
returns-clause-counted c = λ size room calls made.
    is-counted (after_calls (fresh_team size) calls) (counters_after_calls (fresh_counters size room) calls) (keeps-made size room calls made)
