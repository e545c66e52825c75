use Rattle.std.proofs.Common.{rules}
use Rattle.c_steps.proofs.Looking.{reduction_next, reductions_over, variable_next}
use Rattle.c_steps.proofs.look.look_at_reductions.Goals as goal

-- src/look.rt:85:1
pub returns-in-None : goal.returns-in-None
returns-in-None c = reductions_over c.args.code.now c.args.construct c.args.names c.args.from c.in-None.ensures

-- src/look.rt:85:1
pub returns-in-Reduced : goal.returns-in-Reduced
returns-in-Reduced c = reduction_next c.args.code.now c.args.construct c.args.names c.args.from c.in-Some.found c.in-Reduced.operator c.requires c.in-Reduced.is c.in-Some.ensures

-- src/look.rt:85:1
pub returns-in-Private : goal.returns-in-Private
returns-in-Private c = variable_next c.args.code.now c.args.construct c.args.names c.args.from c.in-Some.found c.requires (search rules) c.in-Some.ensures
