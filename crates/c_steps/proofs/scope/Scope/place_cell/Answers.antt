use Rattle.c_syntax.specs.language.Numbered.{tree_at}
use Rattle.c_steps.specs.Scopes.{scope_of}
use Rattle.c_steps.proofs.Entries.{is_cell}
use Rattle.c_steps.proofs.scope.Scope.place_cell.Goals as goal

pub returns-in-Some-clause-within : goal.returns-in-Some-clause-within
returns-in-Some-clause-within c are =
    is_cell c.node_cell.result (scope_of c.args.self.now) (tree_at c.args.self.now.tree.now.trees c.in-Some.node) c.node_cell.ensures are
