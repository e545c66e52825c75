use Rattle.team_parts.proofs.Same.{equal-meeting}
use Rattle.team_parts.proofs.laws.same_is_equal.Goals as goal

pub returns-clause-equal : goal.returns-clause-equal
returns-clause-equal c = equal-meeting
