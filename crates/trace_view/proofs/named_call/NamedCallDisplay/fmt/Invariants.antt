use Rattle.std.specs.Fmt.{HasWritten, IsPlainFormatter}
use Rattle.std.specs.List.{flat_map}
use Rattle.trace_view.proofs.Naming.{spaced_pair}
use Rattle.trace_view.proofs.named_call.NamedCallDisplay.fmt.Given as goal

-- the arguments so far, behind the name
abbrev pub invariant-loop-kind : goal.invariant-loop-kind
invariant-loop-kind g l =
    IsPlainFormatter l.initial.f → HasWritten g.W.Write.write_str_gives l.initial.f (flat_map spaced_pair l.yielded) l.f
