use Rattle.c_tokens.proofs.Law.{scan-reads}
use Rattle.c_tokens.proofs.laws.tokens_are_read.Goals as goal

pub returns : goal.returns
returns c = scan-reads
