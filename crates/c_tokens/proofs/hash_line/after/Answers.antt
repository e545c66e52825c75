use Rattle.std.proofs.lemmas.Bool.Decides.{Decides-eqb}
use Rattle.std.proofs.lemmas.Slice.Eq.{strip_prefix_is}
use Rattle.c_tokens.proofs.Ends.{after-stripped, end-stripped}
use Rattle.c_tokens.proofs.hash_line.after.Goals as goal

pub returns-clause-rest : goal.returns-clause-rest
returns-clause-rest c = after-stripped c.args.word.now c.args.bytes.now c.strip_prefix.result (strip_prefix_is Decides-eqb c.args.bytes.now c.args.word.now c.strip_prefix.result c.strip_prefix.ensures.cases)

pub returns-clause-end : goal.returns-clause-end
returns-clause-end c = end-stripped c.args.word.now c.args.bytes.now c.strip_prefix.result (strip_prefix_is Decides-eqb c.args.bytes.now c.args.word.now c.strip_prefix.result c.strip_prefix.ensures.cases)
