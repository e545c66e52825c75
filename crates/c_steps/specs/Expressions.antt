-- The clauses that are expressions.
use Rattle.std.specs.Prelude.{Bool, Option}
use Rattle.c_syntax.specs.declared.node.NodeKind.{NodeKind}
use Rattle.c_syntax.specs.language.Tree.{Tree}
use Rattle.c_model.specs.Clauses.{clauses_of, expression_among, is_if, is_num_threads}
use Rattle.c_steps.specs.declared.clauses.Expression.{Expression}
use Rattle.c_steps.specs.declared.clauses.Expression.TheVariants as expression

abbrev pub is_of : Expression → NodeKind → Bool
is_of expression.NumThreads kind = is_num_threads kind
is_of expression.If kind = is_if kind

-- the expression of a construct's clause of this kind
abbrev pub expression_of : Expression → Tree → Option Tree
expression_of which construct = expression_among (is_of which) (clauses_of construct)
