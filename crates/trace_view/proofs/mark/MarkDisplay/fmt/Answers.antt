use Rattle.std.proofs.Output.{has_written_of_eq}
use Rattle.trace_view.specs.Marking.{mark_of}
use Rattle.trace_view.proofs.MarkTexts.{joined_mark}
use Rattle.trace_view.proofs.mark.MarkDisplay.fmt.Goals as goal

pub returns-clause-writes : goal.returns-clause-writes
returns-clause-writes g c = λ plain ok.
    let thread = c.args.self.now.event.thread in
    has_written_of_eq _ _ _ _ _ (joined_mark c.args.self.now.event (mark_of thread c.args.self.now.kind) _ _ _
    (c.phase_of.ensures thread) c.fields_of.ensures (c.name_of.ensures thread)) (c.write.ensures.writes plain ok)
