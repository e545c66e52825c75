use Rattle.std.proofs.Common.{ap, drop}
use Rattle.c_model.specs.Calls.{file_bound}
use Rattle.c_model.specs.Cells.{entry_of}
use Rattle.c_steps.specs.Items.{file_names}
use Rattle.c_steps.proofs.Combining.{names_around}
use Rattle.c_steps.proofs.control.Control.cell_around.Goals as goal

pub returns : goal.returns
unfolding file_names
returns c =
    rw (c.entry_among.ensures, c.min.ensures, c.own_entries-own.ensures.names, c.file.ensures.names)
    (ap (λ env. (entry_of env c.args.name).first) (names_around c.args.names (file_bound c.args.code.now).env (drop c.args.self.now.base c.args.self.now.names)))
