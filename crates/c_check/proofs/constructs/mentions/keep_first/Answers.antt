use Rattle.std.proofs.Common.{◌∙◌, sym, nat_eq}
use Rattle.std.proofs.lemmas.Bool.{eqb-true}
use Rattle.c_check.specs.Constructs.{mention}
use Rattle.c_check.proofs.Kept.{kept_new, kept_old}
use Rattle.c_check.proofs.constructs.mentions.keep_first.Goals as goal

pub returns-in_ok-insert-clause-kept : goal.returns-in_ok-insert-clause-kept
unfolding mention
returns-in_ok-insert-clause-kept c = kept_new nat_eq eqb-true c.args.one.slot c.args.one.clause _ _ (sym c.contains_key.ensures ∙ c.if-not-contains_key.true) c.in_ok-insert.ensures.updates.0

pub returns-else-not-contains_key-clause-kept : goal.returns-else-not-contains_key-clause-kept
unfolding mention
returns-else-not-contains_key-clause-kept c = kept_old nat_eq eqb-true c.args.one.slot c.args.one.clause _ (sym c.contains_key.ensures ∙ c.if-not-contains_key.false)
