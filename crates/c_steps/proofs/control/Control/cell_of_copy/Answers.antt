use Rattle.std.proofs.Common.{ap, drop}
use Rattle.c_model.specs.Calls.{file_bound}
use Rattle.c_model.specs.Cells.{first_named}
use Rattle.c_steps.specs.Items.{file_names}
use Rattle.c_steps.proofs.Combining.{names_behind}
use Rattle.c_steps.proofs.control.Control.cell_of_copy.Goals as goal

pub returns : goal.returns
unfolding file_names
returns c =
    rw (c.first_named.ensures, c.min.ensures, c.own_entries-own.ensures.names)
    (ap (λ env. (first_named c.args.name env).first) (names_behind c.args.names (file_bound c.args.code.now).env (drop c.args.self.now.base c.args.self.now.names)))
