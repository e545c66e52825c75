use Rattle.ompt_cli.proofs.observing.run_alone.Goals as goal

pub returns : goal.returns
returns g c = rw c.requires.serial c.run_serial.ensures.ran
