use Rattle.std.proofs.Common.{◌≡◌, ◌-◌}
use Rattle.c_syntax.specs.language.Numbered.{tree_at}
use Rattle.c_model.specs.Parts.{parts}
use Rattle.c_model.specs.Value.{all_values}
use Rattle.c_steps.specs.Arguments.{parts_behind, without_values}
use Rattle.c_steps.specs.Scopes.{scope_of}
use Rattle.c_steps.proofs.scope.Scope.check_all.Given as goal

-- the children before have no trap
abbrev pub invariant-loop-child : goal.invariant-loop-child
invariant-loop-child l =
    let tree = tree_at l.self.tree.now.trees l.node in
    let scope = scope_of l.self in
    without_values (all_values scope (parts tree)) ≡ without_values (all_values scope (parts_behind l.place tree))

abbrev pub decreases-loop-child : goal.decreases-loop-child
decreases-loop-child l = 4294967295 - l.place
