use Rattle.std.proofs.Common.{◌∙◌, sym}
use Rattle.c_check.specs.Pairs.{same_pair}
use Rattle.c_check.proofs.Kept.{kept_new, kept_old, same_pair-true}
use Rattle.c_check.proofs.constructs.spots.keep_first.Goals as goal

pub returns-in_ok-insert-clause-kept : goal.returns-in_ok-insert-clause-kept
returns-in_ok-insert-clause-kept c = kept_new same_pair same_pair-true c.args.place c.args.number _ _ (sym c.contains_key.ensures ∙ c.if-not-contains_key.true) c.in_ok-insert.ensures.updates.0

pub returns-else-not-contains_key-clause-kept : goal.returns-else-not-contains_key-clause-kept
returns-else-not-contains_key-clause-kept c = kept_old same_pair same_pair-true c.args.place c.args.number _ (sym c.contains_key.ensures ∙ c.if-not-contains_key.false)
