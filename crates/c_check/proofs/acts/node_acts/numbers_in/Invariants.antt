use Rattle.std.proofs.Common.{◌≡◌, ◌≤◌, drop}
use Rattle.c_check.specs.Printed.{numbers_in}
use Rattle.c_check.proofs.Asking.{asked}
use Rattle.c_check.proofs.acts.node_acts.numbers_in.Given as goal

-- the numbers so far and those of the rest are those of the text
abbrev pub invariant-loop-byte : goal.invariant-loop-byte
invariant-loop-byte l = record {
  numbers : asked l.asks l.numbers (drop l.byte-index l.text) ≡ numbers_in l.text;
  few : l.numbers ≤ l.byte-index;
}
