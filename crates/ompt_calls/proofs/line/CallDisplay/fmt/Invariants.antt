use Rattle.std.proofs.Common.{take}
use Rattle.std.specs.Fmt.{HasWritten, IsPlainFormatter}
use Rattle.std.specs.List.{flat_map}
use Rattle.ompt_calls.proofs.Lines.{spaced_argument}
use Rattle.ompt_calls.proofs.line.CallDisplay.fmt.Given as goal

-- the arguments so far, behind the name
abbrev pub invariant-loop-argument : goal.invariant-loop-argument
invariant-loop-argument g l =
    IsPlainFormatter l.initial.f → HasWritten g.W.Write.write_str_gives l.initial.f (flat_map spaced_argument (take l.argument-index l.argument-items)) l.f
