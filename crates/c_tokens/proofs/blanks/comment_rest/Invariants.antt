use Rattle.std.proofs.Common.{◌≡◌, false, drop}
use Rattle.c_tokens.specs.language.Blanks.{comment_rest, further}
use Rattle.c_tokens.proofs.blanks.comment_rest.Given as goal

-- no end stands in the bytes so far
abbrev pub invariant-loop-index : goal.invariant-loop-index
invariant-loop-index l = comment_rest false l.bytes ≡ further l.index (comment_rest l.starred (drop l.index l.bytes))
