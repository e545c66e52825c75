use Rattle.std.proofs.Common.{◌≡◌, take}
use Rattle.ompt_cli.specs.Histories.{lines_of_calls}
use Rattle.ompt_cli.proofs.rerunning.heard_text.Given as goal

abbrev pub invariant-loop-call : goal.invariant-loop-call
invariant-loop-call l = l.text.items ≡ lines_of_calls (take l.call-index l.calls)
