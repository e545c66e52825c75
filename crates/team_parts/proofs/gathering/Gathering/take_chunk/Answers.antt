use Rattle.std.proofs.Common.{◌<◌, sym, ◌∙◌, arith}
use Rattle.team_parts.specs.declared.meeting.TheConstants.{TEAM_LIMIT}
use Rattle.team_parts.proofs.Counted.{counted-chunk}
use Rattle.team_parts.proofs.gathering.Gathering.take_chunk.Goals as goal

pub returns-clause-counted : goal.returns-clause-counted
returns-clause-counted c =
    let of_team : c.args.member < TEAM_LIMIT = omega arith in
    let answer = sym c.next_chunk.ensures.chunk ∙ c.in_ok-chunk.was in
    rw (c.take.ensures, c.shared_length-shared.ensures)
    (counted-chunk c.args.size c.args.self.now c.args.member c.in_ok-chunk.chunk of_team c.requires.counted answer)
