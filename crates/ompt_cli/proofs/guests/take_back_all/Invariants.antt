use Rattle.std.proofs.Common.{◌≡◌, ◌≤◌, ◌+◌, ◌++◌, length, reverse, vec_len, vec_capacity}
use Rattle.ompt_cli.specs.Guests.{guests_of}
use Rattle.ompt_cli.proofs.guests.take_back_all.Given as goal

-- the guests of the parts that are left come before those that wait
abbrev pub invariant-loop-part : goal.invariant-loop-part
invariant-loop-part g l = record {
  waits : guests_of (λ guest. guest.0) l.parts.items ++ reverse l.waiting.items ≡ guests_of (λ guest. guest.0) l.fn.parts.items ++ reverse l.fn.waiting.items;
  room : vec_len l.waiting + length l.parts.items ≤ vec_capacity l.waiting;
}

-- the parts that are left
abbrev pub decreases-loop-part : goal.decreases-loop-part
decreases-loop-part g l = length l.parts.items
