use Rattle.std.proofs.Common.{ap, ◌∙◌, sym}
use Rattle.c_model.specs.Begin.{member_statement}
use Rattle.c_steps.specs.Items.{with_file}
use Rattle.c_steps.proofs.Members.{inside_put, member_put}
use Rattle.c_steps.proofs.control.Control.begin_member.Goals as goal

pub returns-then-has_construct_inside : goal.returns-then-has_construct_inside
returns-then-has_construct_inside c =
    member_put c.args.node.code.now c.args.self.now c.then.new.self c.then-then-has_construct_inside.new.self c.args.node.number c.args.names c.has_construct_inside.result c.args.node.there c.then.ensures
    (inside_put c.args.node.code.now c.then.new.self c.then-then-has_construct_inside.new.self c.args.node.number (with_file c.args.node.code.now c.args.names) c.has_construct_inside.result c.if-has_construct_inside.true c.args.node.there c.then-then-has_construct_inside.ensures)
    (λ construct names. ap (λ kind. member_statement kind construct names) (sym c.kind.ensures) ∙ c.has_construct_inside.ensures construct names)

pub returns-else-has_construct_inside : goal.returns-else-has_construct_inside
returns-else-has_construct_inside c =
    member_put c.args.node.code.now c.args.self.now c.then.new.self c.begin_region.new.self c.args.node.number c.args.names c.has_construct_inside.result c.args.node.there c.then.ensures
    (rw c.if-has_construct_inside.false c.begin_region.ensures)
    (λ construct names. ap (λ kind. member_statement kind construct names) (sym c.kind.ensures) ∙ c.has_construct_inside.ensures construct names)
