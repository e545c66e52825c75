use Rattle.ompt_cli.proofs.Written.{tasks-told}
use Rattle.ompt_cli.proofs.read_commands.tell_tasks.Goals as goal

pub returns-in-Ok-clause-tasks : goal.returns-in-Ok-clause-tasks
returns-in-Ok-clause-tasks g c =
    tasks-told (g.S.Source.left c.args.source.now) (g.S.Source.left c.read_nested.new.source) (g.O.Sink.held c.args.out.now) (g.O.Sink.held c.write_read.new.out) c.in-Ok.trace
    c.in-Ok.ensures.has_read c.in-Ok.ensures.nested (λ lines. lines.items) c.tasks_text.result c.write_read.result
    c.write_read.ensures.end c.write_read.ensures.memory c.tasks_text.ensures c.write_read.ensures.written
