use Rattle.std.proofs.Common.{◌≡◌, length, reverse}
use Rattle.ompt_cli.specs.Guests.{HandOut}
use Rattle.ompt_cli.proofs.guests.hand_out_all.Given as goal

-- as many parts as turns were made, with the guests that waited first
abbrev pub invariant-loop-thread : goal.invariant-loop-thread
invariant-loop-thread g l = record {
  handed : HandOut (λ guest. guest.0) l.fn.guests.items l.parts.items (reverse l.waiting.items);
  each : length l.parts.items ≡ l._thread;
}
