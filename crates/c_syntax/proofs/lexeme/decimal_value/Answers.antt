use Rattle.std.proofs.Common.{arith}
use Rattle.c_syntax.proofs.Digits.{decimal_value-front}
use Rattle.c_syntax.proofs.lexeme.decimal_value.Goals as goal

pub overflow_mul-value : goal.overflow_mul-value
overflow_mul-value c = omega (arith, decimal_value-front c.args.digits.now c.loop-digit.digit-index c.loop-digit-test.true)

pub overflow_add-value : goal.overflow_add-value
overflow_add-value c = omega (arith, decimal_value-front c.args.digits.now c.loop-digit.digit-index c.loop-digit-test.true)
