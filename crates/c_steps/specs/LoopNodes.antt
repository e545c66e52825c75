-- The loop that a construct shares out: its parts by the numbers of their nodes, and which way it goes.
use Rattle.std.specs.Prelude.{List, ℤ, pos, neg_ℤ, ◌≤ℤ◌}
use Rattle.c_syntax.specs.declared.node.BinaryOp.{BinaryOp}
use Rattle.c_syntax.specs.declared.node.BinaryOp.TheVariants as binary
use Rattle.c_syntax.specs.language.Tree.{Tree}
use Rattle.c_check.specs.LoopParts.{LoopParts}
use Rattle.c_steps.specs.declared.loops.LoopNodes.{LoopNodes}
use Rattle.c_steps.specs.Nodes.{IsPart, part_at}

abbrev pub parts_at : List Tree → LoopNodes → LoopParts
parts_at trees it =
    record {
      variable = part_at trees it.variable;
      start = part_at trees it.start;
      end = part_at trees it.end;
      body = part_at trees it.body;
      comparison = it.comparison;
      step = it.step;
    }

pub record AreParts (trees : List Tree) (it : LoopNodes) : Type 0 where
  pub variable : IsPart trees it.variable
  pub start : IsPart trees it.start
  pub end : IsPart trees it.end
  pub body : IsPart trees it.body

-- each iteration brings the variable nearer to the end
abbrev pub GoesOn : BinaryOp → ℤ → Type 0
GoesOn binary.Less step = pos 1 ≤ℤ step
GoesOn binary.LessEqual step = pos 1 ≤ℤ step
GoesOn binary.Greater step = step ≤ℤ neg_ℤ (pos 1)
GoesOn binary.GreaterEqual step = step ≤ℤ neg_ℤ (pos 1)
GoesOn other step = ⊥
