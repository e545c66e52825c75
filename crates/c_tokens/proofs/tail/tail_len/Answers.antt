use Rattle.std.proofs.Common.{◌≤◌, ℕ, Option, None, length, subst, sym}
use Rattle.std.specs.Prelude.{IfSome}
use Rattle.c_tokens.proofs.Ends.{tail-at, within-tail_len}
use Rattle.c_tokens.specs.workings.Lines.Tail.{Gaps}
use Rattle.c_tokens.proofs.tail.tail_len.Goals as goal

pub returns-clause-within : goal.returns-clause-within
returns-clause-within c =
    let P : Option ℕ → Type 0 = λ count. IfSome count (λ n. n ≤ length c.args.rest.now) in
    subst P (sym (tail-at c.args.rest.now c.args.tails.now None c.requires)) (within-tail_len Gaps c.args.rest.now)
