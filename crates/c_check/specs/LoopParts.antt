-- The parts of the loop that a construct shares out (OpenMP 5.2, 4.4.1).
use Rattle.std.specs.Prelude.{ℕ, ℤ, pos, neg_ℤ, if◌then◌else◌, Option, Some, None}
use Rattle.c_syntax.specs.declared.node.BinaryOp.{BinaryOp}
use Rattle.c_syntax.specs.declared.node.Bump.TheVariants as bump
use Rattle.c_syntax.specs.declared.node.Setting.TheVariants as setting
use Rattle.c_syntax.specs.declared.node.NodeKind.{NodeKind}
use Rattle.c_syntax.specs.declared.node.NodeKind.TheVariants as node
use Rattle.c_syntax.specs.language.Tree.{Tree, child_of, children_of, kind_of, number_of}
use Rattle.c_check.specs.Loops.{child_at, has_head, loop_name}
use Rattle.c_check.specs.Statements.{shares_loop, statement_of}

-- in `for (i = a; i < b; i += c) body`: i, a, b, the body, the comparison, and c, which is negative where the loop goes down
pub record LoopParts : Type 0 where
  pub variable : Tree
  pub start : Tree
  pub end : Tree
  pub body : Tree
  pub comparison : BinaryOp
  pub step : ℤ

abbrev pub comparison_of : NodeKind → Option BinaryOp
comparison_of (node.Binary operator) = Some operator
comparison_of other = None

-- by what the third part of a loop is, and by its second child, where it has one
abbrev pub step_by : NodeKind → Tree → Option ℤ
step_by (node.Bump bump.Increment side) stride = Some (pos 1)
step_by (node.Bump bump.Decrement side) stride = Some (neg_ℤ (pos 1))
step_by (node.Assign setting.Add) stride = Some (pos (number_of stride))
step_by (node.Assign setting.Subtract) stride = Some (neg_ℤ (pos (number_of stride)))
step_by other stride = None

abbrev pub step_of : Tree → Option ℤ
step_of third = step_by (kind_of third) (child_at third 1)

abbrev pub parts_with : Option Tree → Option Tree → Option Tree → Option Tree → Option BinaryOp → Option ℤ → Option LoopParts
parts_with (Some variable) (Some start) (Some end) (Some body) (Some comparison) (Some step) =
    Some (record { variable = variable; start = start; end = end; body = body; comparison = comparison; step = step })
parts_with variable start end body comparison step = None

abbrev pub parts_in : Tree → Option LoopParts
parts_in statement =
    parts_with (child_of (child_at statement 0) 0) (child_of (child_at statement 0) 1) (child_of (child_at statement 1) 1) (child_of statement 3)
    (comparison_of (kind_of (child_at statement 1))) (step_of (child_at statement 2))

abbrev pub parts_if : Option ℕ → Tree → Option LoopParts
parts_if None statement = None
parts_if (Some name) statement = if has_head name statement then parts_in statement else None

-- the parts of a statement whose head is that of a loop of the form
abbrev pub statement_parts : Tree → Option LoopParts
statement_parts statement = parts_if (loop_name statement) statement

abbrev pub parts_by_kind : NodeKind → Tree → Option LoopParts
parts_by_kind (node.Construct which) construct = if shares_loop which then statement_parts (statement_of (children_of construct)) else None
parts_by_kind other construct = None

-- none for a node that is no `for` or `parallel for`
abbrev pub loop_parts : Tree → Option LoopParts
loop_parts construct = parts_by_kind (kind_of construct) construct
