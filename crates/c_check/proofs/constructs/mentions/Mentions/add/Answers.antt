use Rattle.std.proofs.Common.{sym}
use Rattle.c_check.proofs.Listed.{mention-more}
use Rattle.c_check.proofs.constructs.mentions.Mentions.add.Goals as goal

pub invariant_of-self-2 : goal.invariant_of-self-2
invariant_of-self-2 c = λ slot.
    rw (c.in_ok-push.ensures.items, c.in_ok-reserve.ensures.items, c.in_ok-keep_first.ensures.kept slot, c.self.invariant slot) (sym (mention-more _ c.args.mention slot))
