use Rattle.std.proofs.Common.{◌≡◌, ◌+◌, ◌*◌, take, sym, arith}
use Rattle.std.proofs.lemmas.List.Sums.{fold_more}
use Rattle.std.proofs.lemmas.Grind.{common_steps}
use Rattle.c_tokens.specs.language.Words.{decimal_value}
use Rattle.c_tokens.proofs.Reading.{too_great}
use Rattle.c_tokens.proofs.word.is_small.Goals as goal

pub returns-then-value-gt-GREATEST : goal.returns-then-value-gt-GREATEST
returns-then-value-gt-GREATEST c =
    let next : 10 * c.loop-digit.value + c.from.result ≡ decimal_value (take (c.loop-digit.digit-index + 1) c.args.digits.now) = grind (arith, common_steps, fold_more) in
    sym (too_great c.args.digits.now (c.loop-digit.digit-index + 1) (10 * c.loop-digit.value + c.from.result) next (omega arith))
