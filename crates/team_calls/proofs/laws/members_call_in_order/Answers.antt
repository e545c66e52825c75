use Rattle.std.proofs.Common.{sym}
use Rattle.team_calls.proofs.CalledRuns.{counted-run, follows-run, made-run}
use Rattle.team_calls.proofs.laws.members_call_in_order.Goals as goal

pub returns-clause-made : goal.returns-clause-made
returns-clause-made c = λ run history r some few checked formed legal. made-run run history r some few checked formed legal

pub returns-clause-in_time : goal.returns-clause-in_time
returns-clause-in_time c = λ run history r some few checked formed legal. (follows-run run history r some few checked formed legal).time

pub returns-clause-counters : goal.returns-clause-counters
returns-clause-counters c = λ run history r some few checked formed legal. sym (follows-run run history r some few checked formed legal).view_is

pub returns-clause-counted : goal.returns-clause-counted
returns-clause-counted c = λ run history r some few checked formed legal. counted-run run history r some few checked formed legal
