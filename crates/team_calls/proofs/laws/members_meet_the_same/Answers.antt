use Rattle.team_calls.proofs.CalledRuns.{follows-run, same-run}
use Rattle.team_calls.proofs.laws.members_meet_the_same.Goals as goal

pub returns-clause-agree : goal.returns-clause-agree
returns-clause-agree c = λ run history r some few checked formed legal. (follows-run run history r some few checked formed legal).agree

pub returns-clause-same : goal.returns-clause-same
returns-clause-same c = λ run history r number member other some few checked formed legal first second.
    same-run run history r some few checked formed legal number member other first second
