use Rattle.ompt_cli.proofs.Reading.{program-not_refused, refusal-one, text-judged}
use Rattle.ompt_cli.proofs.laws.each_text_is_judged.Goals as goal

pub returns-clause-either : goal.returns-clause-either
returns-clause-either c = text-judged

pub returns-clause-not_both : goal.returns-clause-not_both
returns-clause-not_both c = program-not_refused

pub returns-clause-one_reason : goal.returns-clause-one_reason
returns-clause-one_reason c = refusal-one
