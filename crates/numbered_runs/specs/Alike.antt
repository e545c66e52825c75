-- Two programs that differ in nothing but how their nodes are numbered.
use Rattle.std.specs.Prelude.{◌≡◌}
use Rattle.c_syntax.specs.language.Numbered.{TreeView, root_tree}

pub record AreAlike (program other : TreeView) : Type 0 where
  pub root : root_tree program ≡ root_tree other
  pub end : program.end ≡ other.end
  pub main : program.main ≡ other.main
