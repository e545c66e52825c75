use Rattle.std.proofs.{Common.ap, Common.◌∙◌, Common.◌++◌, Common.List, Common.ℕ, Common.length, lemmas.Result.IfOk-weaker}
use Rattle.ompt_cli.{specs.Names.heard, specs.Names.run_of_file, specs.Names.line_of_mark, specs.Histories.heard_text, specs.Histories.lines_of_calls, proofs.Written.lines-heard, proofs.Written.written-rerun}
use Rattle.ompt_cli.proofs.rerunning.judge_program.Goals as goal

pub returns-in-Ok-Legal-clause-rerun : goal.returns-in-Ok-Legal-clause-rerun
returns-in-Ok-Legal-clause-rerun g c = λ left has.
    let file = c.args.file.now in
    let verdict = rw c.in-Ok-Legal.field-0-is at c.in-Ok-Legal.ensures in
    let mark = line_of_mark (record { status = file.status; detail = file.detail; count = length file.history }) in
    written-rerun left (g.O.Sink.held c.args.out.now) (g.O.Sink.held c.write_read.new.out) file c.args.program c.write_read.result c.write_read.ensures.end (record { has = has; certificate = verdict.0 })
    (c.write_read.ensures.written (heard_text c.args.program file)
    (IfOk-weaker c.heard_text.result _ _ (λ text is. is ∙ ap (λ (lines : List ℕ). lines ++ mark) (ap lines_of_calls (c.deref.ensures.value ∙ c.calls.view_is ∙ verdict.1) ∙ lines-heard (heard (run_of_file c.args.program file) file.history))) c.heard_text.ensures))
