use Rattle.std.proofs.Common.{sym, arith}
use Rattle.c_tokens.proofs.Reading.{open-text, open-text-escaped}
use Rattle.c_tokens.proofs.quoted.quoted_end.Goals as goal

pub returns-then-escaped-2-clause-end : goal.returns-then-escaped-2-clause-end
returns-then-escaped-2-clause-end c = sym (open-text-escaped c.args.bytes.now c.loop-at.at c.loop-at.escaped (omega arith) c.if-escaped-2.true c.loop-at.invariant)

pub returns-clause-end : goal.returns-clause-end
returns-clause-end c = sym (open-text c.args.bytes.now c.loop-at.at c.loop-at.escaped (omega arith) c.if-escaped-2.false c.loop-at.invariant)
