use Rattle.ompt_calls.specs.Number.{number_of}
use Rattle.tool_report.proofs.Shares.{name-there}
use Rattle.tool_report.proofs.profile_report.names_are_those_of_lines.Goals as goal

pub returns : goal.returns
returns c = λ call place below is. name-there place (number_of call) below is
