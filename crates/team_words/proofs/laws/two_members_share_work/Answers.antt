use Rattle.team_words.proofs.Sharing.{loop-over, made, sections-over}
use Rattle.std.proofs.Common.{refl}
use Rattle.team_words.proofs.laws.two_members_share_work.Goals as goal

pub returns-clause-made : goal.returns-clause-made
returns-clause-made c = made

pub returns-clause-in_time : goal.returns-clause-in_time
returns-clause-in_time c = refl

pub returns-clause-answers : goal.returns-clause-answers
returns-clause-answers c = refl

pub returns-clause-loop_over : goal.returns-clause-loop_over
returns-clause-loop_over c = loop-over

pub returns-clause-sections_over : goal.returns-clause-sections_over
returns-clause-sections_over c = sections-over
