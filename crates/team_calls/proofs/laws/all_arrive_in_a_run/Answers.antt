use Rattle.team_calls.proofs.CalledRuns.{arrived-run}
use Rattle.team_calls.proofs.laws.all_arrive_in_a_run.Goals as goal

pub returns : goal.returns
returns c = λ run history r number member other some few checked formed legal within passed.
    arrived-run run history r some few checked formed legal number member other within passed
