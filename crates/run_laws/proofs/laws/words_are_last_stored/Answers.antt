use Rattle.run_laws.proofs.LastStored.{word-after, word-told}
use Rattle.run_laws.proofs.laws.words_are_last_stored.Goals as goal

pub returns-clause-kept : goal.returns-clause-kept
returns-clause-kept c = word-after

pub returns-clause-told : goal.returns-clause-told
returns-clause-told c = word-told
