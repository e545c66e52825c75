-- The parts of a loop as a caller has them: by the numbers of their nodes.
use Rattle.std.specs.Prelude.{ℕ, ◌<◌, List}
use Rattle.c_syntax.specs.language.Tree.{Tree}
use Rattle.c_syntax.specs.language.Numbered.{tree_at}
use Rattle.c_check.specs.declared.acts.loop_parts.SharedLoop.{SharedLoop}
use Rattle.c_check.specs.LoopParts.{LoopParts}

abbrev pub loop_at : List Tree → SharedLoop → LoopParts
loop_at trees it = record {
  variable = tree_at trees it.variable;
  start = tree_at trees it.start;
  end = tree_at trees it.end;
  body = tree_at trees it.body;
  comparison = it.comparison;
  step = it.step;
}

-- its nodes come before the construct's
pub record IsBefore (construct : ℕ) (it : SharedLoop) : Type 0 where
  pub variable : it.variable < construct
  pub start : it.start < construct
  pub end : it.end < construct
  pub body : it.body < construct
