use Rattle.std.proofs.Common.{◌∙◌, sym}
use Rattle.c_tokens.proofs.Ends.{AreTails-end, IsEndOf-behind, IsEndOf-through, include_len-found, include_len-open}
use Rattle.c_tokens.proofs.hash_line.include_len.Goals as goal

pub tail_len-requires : goal.tail_len-requires
tail_len-requires c =
    let end = IsEndOf-through _ _ _ (IsEndOf-behind c.args.bytes.now c.in-len1-up.len_at_least) c.in_ok-rest.ensures.end in
    AreTails-end c.args.bytes.now c.in_ok-rest.rest.now _ c.requires.tails end

pub returns-in_err-tail-clause-len : goal.returns-in_err-tail-clause-len
returns-in_err-tail-clause-len c =
    c.from_residual-in_err-tail.ensures ∙ sym (include_len-open c.args.bytes.now c.in_ok-rest.rest.now c.in-len1-up.len_at_least (sym c.in_ok-rest.ensures.rest) (sym c.in_err-tail.ensures.len))

pub returns-clause-len : goal.returns-clause-len
returns-clause-len c = sym (include_len-found c.args.bytes.now c.in_ok-rest.rest.now c.in_ok-tail.tail c.in-len1-up.len_at_least (sym c.in_ok-rest.ensures.rest) (sym c.in_ok-tail.ensures.len))
