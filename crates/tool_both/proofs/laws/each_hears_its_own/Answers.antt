use Rattle.tool_both.proofs.Splits.{own_of_split}
use Rattle.tool_both.proofs.laws.each_hears_its_own.Goals as goal

pub returns : goal.returns
returns c = own_of_split
