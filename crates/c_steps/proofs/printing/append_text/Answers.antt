use Rattle.std.proofs.Common.{arith}
use Rattle.c_steps.proofs.PrintingText.{whole_printed}
use Rattle.c_steps.proofs.printing.append_text.Goals as goal

pub returns-clause-text : goal.returns-clause-text
returns-clause-text c =
    let whole = whole_printed c.loop-byte.progress.before _ c.loop-byte.byte-index _ c.loop-byte.text.items _ (omega arith) c.loop-byte.invariant.text in
    cc
