use Rattle.ompt_cli.proofs.observing.run_by_threads.Goals as goal

pub returns : goal.returns
returns g c = rw c.if-job.false c.run_threads.ensures.ran
