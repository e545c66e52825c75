use Rattle.std.proofs.Common.{◌∙◌, sym}
use Rattle.c_syntax.specs.language.Numbered.{tree_at}
use Rattle.c_steps.specs.Scopes.{scope_of}
use Rattle.c_steps.proofs.LeftOperands.{one_joined}
use Rattle.c_steps.proofs.scope.Scope.+values.Goals as goal

pub chain_value-returns-then-levels-eq1 : goal.chain_value-returns-then-levels-eq1
chain_value-returns-then-levels-eq1 t c =
    one_joined (scope_of c.args.self.now) (tree_at c.args.self.now.tree.now.trees c.args.node) c.in-Binary.operator c.args.lowest c.joined.result
    (rw c.if-levels-eq1.true at c.requires.chain) (sym c.kind.ensures ∙ c.in-Binary.is) (rw c.if-levels-eq1.true at c.requires.lowest) c.joined.ensures
