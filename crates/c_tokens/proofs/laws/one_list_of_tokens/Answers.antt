use Rattle.c_tokens.proofs.Law.{reads-one}
use Rattle.c_tokens.proofs.laws.one_list_of_tokens.Goals as goal

pub returns : goal.returns
returns c = reads-one
