use Rattle.std.proofs.Common.{◌≡◌, take}
use Rattle.c_tokens.specs.language.Words.{decimal_value}
use Rattle.c_syntax.proofs.lexeme.decimal_value.Given as goal

-- the value of the digits so far
abbrev pub invariant-loop-digit : goal.invariant-loop-digit
invariant-loop-digit l = l.value ≡ decimal_value (take l.digit-index l.digits)
