use Rattle.std.proofs.Common.{◌≡◌, ◌+◌, ◌++◌, length, drop, vec_len}
use Rattle.c_tokens.specs.workings.Tails.{AreTails, row_of}
use Rattle.c_tokens.proofs.tail.tails_of.Given as goal

-- the ends that are shorter than those left are done
abbrev pub invariant-loop-byte : goal.invariant-loop-byte
invariant-loop-byte l = record {
  whole : l.text ≡ l.rest ++ drop (length l.rest) l.text;
  row : l.row ≡ row_of (drop (length l.rest) l.text);
  counted : vec_len l.tails + length l.rest ≡ length l.text + 1;
  tails : AreTails (drop (length l.rest) l.text) l.tails.items;
}

-- the bytes that are left
abbrev pub decreases-loop-byte : goal.decreases-loop-byte
decreases-loop-byte l = length l.rest
