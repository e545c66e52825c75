use Rattle.std.proofs.Common.{◌≡◌, ◌-◌, ◌<◌, length, reverse, vec_len, refl, arith, rules}
use Rattle.c_steps.proofs.Tops.{begun_stack}
use Rattle.c_steps.proofs.stack.Stack+Frame.begin.Goals as goal

pub returns : goal.returns
returns c =
    let items = c.self.inside.items.items in
    let some : 0 < vec_len c.self.inside.items = c.in-Some.ensures.variant.0 refl in
    let last : 0 < length items = omega (arith, c.self.inside.items.ok.0, some) in
    let place : vec_len c.self.inside.items - 1 ≡ length items - 1 = omega (arith, c.self.inside.items.ok.0) in
    let same : c.args.self.now.frames ≡ reverse items = search rules in
    begun_stack items (vec_len c.self.inside.items - 1) c.in-Some.frame.now last place c.in-Some.ensures.value c.args.self.now _ c.begin.new.self c.begin.result same (search rules) c.begin.ensures
