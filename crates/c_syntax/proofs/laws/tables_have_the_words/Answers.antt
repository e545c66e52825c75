use Rattle.c_syntax.proofs.OddNames.{odd-out}
use Rattle.c_syntax.proofs.laws.tables_have_the_words.Goals as goal

pub returns : goal.returns
returns c = odd-out
