use Rattle.std.proofs.Common.{◌≡◌, ◌+◌, length}
use Rattle.c_tokens.specs.workings.Tails.{AreTails}
use Rattle.c_tokens.specs.workings.Tokens.{Bounded, scan, tokens_of, with_front}
use Rattle.c_tokens.proofs.scan.tokens.Given as goal

-- the tokens of the text are those so far, and those of the rest
abbrev pub invariant-loop-rest : goal.invariant-loop-rest
invariant-loop-rest l = record {
  tokens : tokens_of l.text ≡ with_front l.found.items (scan l.rest 0 l.place);
  at : l.place.at + length l.rest ≡ length l.text;
  bounded : Bounded l.place;
  tails : AreTails l.rest l.tails.items;
}

-- the bytes that are left
abbrev pub decreases-loop-rest : goal.decreases-loop-rest
decreases-loop-rest l = length l.rest
