use Rattle.std.proofs.Common.{◌∷◌, [], length-append, reverse, arith}
use Rattle.ompt_cli.proofs.Handing.{handed-more}
use Rattle.ompt_cli.proofs.guests.hand_out_all.Goals as goal

pub loop-thread-preserved : goal.loop-thread-preserved
loop-thread-preserved g c = record {
  handed = rw c.in_ok-push.ensures.items (handed-more (λ guest. guest.0) c.args.guests.items c.loop-thread.parts.items (reverse c.loop-thread.waiting.items) c.next_part.result (reverse c.next_part.new.waiting.items) c.loop-thread.invariant.handed c.next_part.ensures);
  each = rw c.in_ok-push.ensures.items (omega (arith, length-append c.loop-thread.parts.items (c.next_part.result ∷ []), c.loop-thread.invariant.each));
}
