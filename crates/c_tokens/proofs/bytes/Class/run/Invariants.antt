use Rattle.std.proofs.Common.{◌≡◌, ◌+◌, drop}
use Rattle.std.specs.List.{prefix_len}
use Rattle.c_tokens.specs.workings.Classes.{test_of}
use Rattle.c_tokens.proofs.bytes.Class.run.Given as goal

-- the bytes so far are of the class
abbrev pub invariant-loop-index : goal.invariant-loop-index
invariant-loop-index l = prefix_len (test_of l.self) l.bytes ≡ l.index + prefix_len (test_of l.self) (drop l.index l.bytes)
