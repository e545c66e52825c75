use Rattle.std.proofs.Common.{◌≡◌, drop}
use Rattle.c_tokens.specs.language.Quoted.{quoted_end, text_end}
use Rattle.c_tokens.proofs.quoted.quoted_end.Given as goal

-- the bytes so far stand in the text
abbrev pub invariant-loop-at : goal.invariant-loop-at
invariant-loop-at l = quoted_end l.bytes ≡ text_end l.at l.escaped (drop l.at l.bytes)
