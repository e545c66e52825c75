-- The names and the cells of a file, from a part of it on.
use Rattle.std.specs.Prelude.{List}
use Rattle.c_syntax.specs.language.Tree.{Tree}
use Rattle.c_syntax.specs.language.Numbered.{TreeView}
use Rattle.c_model.specs.Cells.{Bound, with_declarators}
use Rattle.c_model.specs.Parts.{flat_declarations}
use Rattle.c_model.specs.Program.{variables_among}

-- what parts of a file declare comes into scope
abbrev pub declared_by : TreeView → Bound → List Tree → Bound
declared_by program bound parts = with_declarators program bound (flat_declarations (variables_among parts))
