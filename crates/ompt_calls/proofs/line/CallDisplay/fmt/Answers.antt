use Rattle.std.proofs.Common.{◌≡◌, take, take_all, rules, arith, ◌∙◌}
use Rattle.std.proofs.Output.{has_written_append, has_written_of_eq}
use Rattle.ompt_calls.specs.Arguments.{arguments_of, name_of}
use Rattle.ompt_calls.proofs.Lines.{spaced-is}
use Rattle.ompt_calls.proofs.line.CallDisplay.fmt.Goals as goal

pub returns-clause-writes : goal.returns-clause-writes
returns-clause-writes g c = λ plain ok.
    let one = c.in_ok-write.ensures.writes plain (search rules) in
    let rest = c.loop-argument.invariant one.plain in
    let items = c.as_slice-argument-items.result.now in
    let all : take c.loop-argument.argument-index items ≡ arguments_of c.args.self.now =
    take_all c.loop-argument.argument-index items (omega arith) ∙ (c.as_slice-argument-items.ensures ∙ c.arguments.ensures) in
    has_written_of_eq _ _ _ _ _
    (rw (all, c.name.ensures) (spaced-is (name_of c.args.self.now) (arguments_of c.args.self.now)))
    (has_written_append _ _ _ _ _ _ one rest)
