-- What stands for the name of a book where none was given.
use Rattle.std.specs.Prelude.{[]}
use Rattle.atomic_table.specs.Seated.{TableId}
use Rattle.c_syntax.specs.language.Numbered.{TreeView}
use Rattle.omp_model.specs.State.{Run}

abbrev pub no_table : TableId
no_table = record { words = 0; slots = 0; views_name = 0; atom = 0; block = 0; offset = 0; slot_names = [] }

abbrev pub no_program : TreeView
no_program = record { trees = []; root = 0; end = record { line = 0; column = 0 }; main = 0 }

abbrev pub no_run : Run
no_run = record { program = no_program; mask = 0; threads = 0; steps = 0 }
