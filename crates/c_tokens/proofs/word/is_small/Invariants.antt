use Rattle.std.proofs.Common.{◌≡◌, ◌≤◌, take}
use Rattle.c_tokens.specs.language.Words.{decimal_value, greatest}
use Rattle.c_tokens.proofs.word.is_small.Given as goal

-- the number of the digits so far
abbrev pub invariant-loop-digit : goal.invariant-loop-digit
invariant-loop-digit l = record {
  value : l.value ≡ decimal_value (take l.digit-index l.digits);
  small : l.value ≤ greatest;
}
