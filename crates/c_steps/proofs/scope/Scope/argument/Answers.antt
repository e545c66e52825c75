use Rattle.std.proofs.Common.{◌+◌, rules}
use Rattle.c_syntax.specs.language.Numbered.{tree_at}
use Rattle.c_steps.specs.Entering.{IsNextArgument}
use Rattle.c_steps.specs.Nodes.{part_at}
use Rattle.c_steps.specs.Scopes.{scope_of}
use Rattle.c_steps.proofs.Entering.{argument_here, argument_none}
use Rattle.c_steps.proofs.scope.Scope.argument.Goals as goal

pub returns-in-Ok : goal.returns-in-Ok
returns-in-Ok c =
    let trees = c.args.self.now.tree.now.trees in
    let next : IsNextArgument (scope_of c.args.self.now) (part_at trees c.args.call) c.args.place (record { number = c.in-Ok.number; next = c.args.place + 1 }) =
    argument_here (scope_of c.args.self.now) (part_at trees c.args.call) c.args.place (tree_at trees c.in-Some.child) c.in-Ok.number c.in-Some.ensures.parts c.in-Ok.ensures c.requires.values in
    search (rules, next)

pub returns-in-None : goal.returns-in-None
returns-in-None c = argument_none (scope_of c.args.self.now) (part_at c.args.self.now.tree.now.trees c.args.call) c.args.place c.in-None.ensures.parts
