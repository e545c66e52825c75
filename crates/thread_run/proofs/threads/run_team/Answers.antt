use Rattle.std.proofs.Common.{◌∙◌, arith}
use Rattle.thread_run.proofs.Drivers.{drivers-first, have-served, some-of}
use Rattle.thread_run.proofs.threads.run_team.Goals as goal

pub close-requires-clause-order : goal.close-requires-clause-order
close-requires-clause-order g c κs within = λ k d below.
    let parts = c.args.parts.items in
    let p = some-of parts (omega (arith, c.requires.parts, c.requires.some)) in
    let first = drivers-first g.P.ToolPart.stands_for g.P.ToolPart.same g.K.BookName.run (g.met.P.ToolPart g.world.𝓛 g.world.𝓜 g.world.𝓡 ((λ s x. x), (λ x. x), (λ x. x), λ x. x)).same_itself parts c.in_ok-book.passes.items c.requires.parts c.in_ok-book.ensures.count c.in_ok-book.ensures.passes in
    (c.run_drivers-passes.ensures.drivers first k d p p (omega (arith, below, c.run_drivers-passes.ensures.passes, c.in_ok-book.ensures.count))).thread

pub returns : goal.returns
returns g c =
    let parts = c.args.parts.items in
    let p = some-of parts (omega (arith, c.requires.parts, c.requires.some)) in
    let first = drivers-first g.P.ToolPart.stands_for g.P.ToolPart.same g.K.BookName.run (g.met.P.ToolPart g.world.𝓛 g.world.𝓜 g.world.𝓡 ((λ s x. x), (λ x. x), (λ x. x), λ x. x)).same_itself parts c.in_ok-book.passes.items c.requires.parts c.in_ok-book.ensures.count c.in_ok-book.ensures.passes in
    have-served g.P.ToolPart.stands_for g.P.ToolPart.same g.K.BookName.run parts c.run_drivers-passes.result.1.items c.run_drivers-passes.result.0.items c.close.result p
    c.requires.parts (c.run_drivers-passes.ensures.passes ∙ c.in_ok-book.ensures.count) (c.run_drivers-passes.ensures.parts ∙ c.in_ok-book.ensures.count) (c.run_drivers-passes.ensures.drivers first)
    c.close.ensures.closed c.close.ensures.text c.close.ensures.cause
