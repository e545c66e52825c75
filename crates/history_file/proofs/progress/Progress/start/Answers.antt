use Rattle.std.proofs.Common.{refl}
use Rattle.history_file.specs.Certificates.{run_of_file}
use Rattle.history_file.proofs.Progressing.{starts}
use Rattle.history_file.proofs.progress.Progress.start.Goals as goal

pub returns-clause-at : goal.returns-clause-at
returns-clause-at c = starts _ (run_of_file c.args.program c.args.file.now) c.requires.few c.in_ok-machine.ensures refl c.new-2.ensures.items refl
