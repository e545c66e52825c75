use Rattle.c_tokens.proofs.Law.{reads-tokens}
use Rattle.c_tokens.proofs.laws.reading_is_tokens.Goals as goal

pub returns : goal.returns
returns c = reads-tokens
