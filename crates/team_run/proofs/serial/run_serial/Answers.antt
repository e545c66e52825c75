use Rattle.std.proofs.Common.{◌≡◌, ◌∙◌, true, rules, sym, ap, arith}
use Rattle.team_run.{specs.Names.BookView, specs.Names.Run, specs.Program.run_of_program, proofs.Serving.changes-vector, proofs.Serving.is-ran, proofs.Visiting.have-served, proofs.Visiting.stands-start}
use Rattle.team_run.proofs.serial.run_serial.Goals as goal

pub finish-cause-requires-clause-stands : goal.finish-cause-requires-clause-stands
finish-cause-requires-clause-stands g c κs within =
    rw c.in_ok-book.ensures (stands-start _ c.args.limits.some_threads c.args.limits.few_threads)

pub finish-cause-requires-clause-parts : goal.finish-cause-requires-clause-parts
finish-cause-requires-clause-parts g c κs within =
    let first = changes-vector g.P.ToolPart.stands_for g.P.ToolPart.same _ _ _ _ _ c.deref_mut.ensures.value (sym c.args.parts.ok.0)
    c.initialize_first-start.ensures.first in
    first.as_many ∙ c.requires ∙ sym (ap (λ (book : BookView). book.run.threads) c.in_ok-book.ensures)

pub returns : goal.returns
returns g c =
    let stands_for = g.P.ToolPart.stands_for in
    let Same = g.P.ToolPart.same in
    let onward = (g.met.P.ToolPart g.world.𝓛 g.world.𝓜 g.world.𝓡 ((λ s x. x), (λ x. x), (λ x. x), λ x. x)).same_onward in
    let start = c.initialize_first-start in
    let ended = c.finish-cause.new.self in
    let stops = c.finish-cause.ensures in
    let over : ended.book.run ≡ run_of_program c.args.program start.result.mask c.args.limits.threads c.args.limits.steps =
    stops.run ∙ ap (λ (book : BookView). book.run) c.in_ok-book.ensures in
    let first = changes-vector stands_for Same _ _ _ _ _ c.deref_mut.ensures.value (sym c.args.parts.ok.0) start.ensures.first in
    let last = changes-vector stands_for Same _ _ _ _ _ c.deref_mut-2.ensures.value (sym ended.parts.ok.0) c.finalize_first.ensures in
    record {
      ran =
          rw (c.close-history.ensures.history, ← over)
          (is-ran stands_for Same onward true ended.book.run _ c.args.parts.items _ ended.parts.items
          start.result.answer start.result.registered
          (ap (λ (run : Run). run.mask) over ∙ start.ensures.mask) start.ensures.mask_always
          (omega (arith, c.args.limits.some_threads, c.requires)) first
          (have-served stands_for Same ended.book.run ended.next c.finish-cause.result ended.book.history _ _ ended.parts.items
          (rw (ap (λ (book : BookView). book.history) c.in_ok-book.ensures) at stops.serves) stops.same stops.stops stops.stands stops.over
          stops.cause (search rules) c.close-history.ensures.text) last);
    }
