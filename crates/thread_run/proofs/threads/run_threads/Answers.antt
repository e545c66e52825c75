use Rattle.std.proofs.Common.{◌≡◌, ◌≢◌, ◌∙◌, false, List, [], length, rules, sym, ap, arith}
use Rattle.omp_model.specs.declared.cause.Cause.TheVariants as causes
use Rattle.team_run.{specs.Program.run_of_program, proofs.Serving.changes-vector, proofs.Serving.is-ran}
use Rattle.thread_run.proofs.threads.run_threads.Goals as goal

pub finalize_first-requires-after_bounds : goal.finalize_first-requires-after_bounds
finalize_first-requires-after_bounds g c κs within =
    let cause = c.known_cause-cause in
    let first = changes-vector g.P.ToolPart.stands_for g.P.ToolPart.same _ _ _ _ _ c.deref_mut.ensures.value (sym c.args.parts.ok.0)
    c.initialize_first-start.ensures.first in
    let begun : cause.result ≡ causes.Memory → c.in_ok-closed.closed.history ≢ [] = search rules in
    let many : length c.in_ok-closed.parts.items ≡ c.args.limits.threads =
    (c.in_ok-closed.ensures cause.result cause.ensures begun).as_many ∙ first.as_many ∙ c.requires in
    omega (arith, c.args.limits.some_threads, many, ap (λ (parts : List g.row.P.Denot). length parts) c.deref_mut-2.ensures.value)

pub returns : goal.returns
returns g c =
    let stands_for = g.P.ToolPart.stands_for in
    let Same = g.P.ToolPart.same in
    let onward = (g.met.P.ToolPart g.world.𝓛 g.world.𝓜 g.world.𝓡 ((λ s x. x), (λ x. x), (λ x. x), λ x. x)).same_onward in
    let start = c.initialize_first-start in
    let cause = c.known_cause-cause in
    let parts = c.in_ok-closed.parts in
    let first = changes-vector stands_for Same _ _ _ _ _ c.deref_mut.ensures.value (sym c.args.parts.ok.0) start.ensures.first in
    let last = changes-vector stands_for Same _ _ _ _ _ c.deref_mut-2.ensures.value (sym parts.ok.0) c.finalize_first.ensures in
    let begun : cause.result ≡ causes.Memory → c.in_ok-closed.closed.history ≢ [] = search rules in record {
      ran =
          is-ran stands_for Same onward false
          (run_of_program c.args.program start.result.mask c.args.limits.threads c.args.limits.steps) _ c.args.parts.items _ parts.items
          start.result.answer start.result.registered start.ensures.mask start.ensures.mask_always
          (omega (arith, c.args.limits.some_threads, c.requires)) first
          (rw c.in_ok-blank.ensures at (c.in_ok-closed.ensures cause.result cause.ensures begun)) last;
    }
