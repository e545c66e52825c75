-- The functions of a program in a list by the numbers of their names.
use Rattle.std.specs.Prelude.{ℕ, ◌≡◌, if◌then◌else◌, List, Option, Some, None, slice_index_or}
use Rattle.c_syntax.specs.language.Tree.{Tree}
use Rattle.c_syntax.specs.language.Numbered.{TreeView, tree_at}
use Rattle.c_model.specs.Program.{function_among, function_named, is_function_named}
use Rattle.c_steps.specs.Nodes.{IsPart, part_at}

-- the number of a part, if it is a function with this name
abbrev pub named_part : ℕ → Tree → ℕ → Option ℕ
named_part name tree part = if is_function_named name tree then Some part else None

-- each name has its function there
pub record AreFunctions (program : TreeView) (functions : List (Option ℕ)) : Type 0 where
  pub named : (name : ℕ) → part_at program.trees (slice_index_or functions name None) ≡ function_named program name
  pub there : (name : ℕ) → IsPart program.trees (slice_index_or functions name None)

-- a function that was found, or else another one
abbrev pub found_or : List Tree → Option ℕ → Tree → Tree
found_or trees None other = other
found_or trees (Some function) other = tree_at trees function

-- each name has the function there that it has among the whole, but for those that first come among the parts that are left
pub record AreFirst (trees : List Tree) (functions : List (Option ℕ)) (left whole : List Tree) : Type 0 where
  pub named : (name : ℕ) → found_or trees (slice_index_or functions name None) (function_among name left) ≡ function_among name whole
  pub there : (name : ℕ) → IsPart trees (slice_index_or functions name None)
