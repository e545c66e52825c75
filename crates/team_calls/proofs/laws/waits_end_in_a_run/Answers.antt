use Rattle.std.proofs.Common.{ap}
use Rattle.nested_runs.proofs.Standing.{stand_among}
use Rattle.team_calls.proofs.CalledRuns.{ends-run, waits-run}
use Rattle.team_calls.proofs.laws.waits_end_in_a_run.Goals as goal

pub returns-clause-may : goal.returns-clause-may
returns-clause-may c = λ run history t tree which items some few checked formed legal task stands barrier.
    waits-run run history some few checked formed legal t which task (ap stand_among stands) barrier

pub returns-clause-ends : goal.returns-clause-ends
returns-clause-ends c = λ run history t codeptr which some few checked formed legal enters happens barrier.
    ends-run run history some few checked formed legal t codeptr which enters happens barrier
