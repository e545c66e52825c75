-- The number that digits write.
use Rattle.std.proofs.Common.{ℕ, ◌+◌, ◌-◌, ◌*◌, ◌<◌, ◌≤◌, List, length, take, drop, get_or, arith}
use Rattle.std.proofs.lemmas.List.Sums.{fold_more}
use Rattle.c_tokens.specs.language.Words.{decimal_value}
use Rattle.c_tokens.proofs.Reading.{fold-grows, fold-take}

-- no front of the digits writes a greater one
pub decimal_value-front : (digits : List ℕ) (at : ℕ) → at < length digits → 10 * decimal_value (take at digits) + (get_or digits at 0 - 48) ≤ decimal_value digits
decimal_value-front digits at within =
    let next = fold_more (λ value digit. 10 * value + (digit - 48)) 0 digits at 0 within in
    let grown = fold-grows (decimal_value (take (at + 1) digits)) (drop (at + 1) digits) in
    omega (arith, next, fold-take 0 (at + 1) digits, grown)
