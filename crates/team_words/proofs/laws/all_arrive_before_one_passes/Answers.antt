use Rattle.std.proofs.Common.{arith}
use Rattle.team_words.proofs.Barriers.{length-made, together-made}
use Rattle.team_words.proofs.laws.all_arrive_before_one_passes.Goals as goal

pub returns : goal.returns
returns c = λ size calls number member other in_time of_team passed. together-made size calls in_time number member passed other (omega (arith, length-made size calls))
