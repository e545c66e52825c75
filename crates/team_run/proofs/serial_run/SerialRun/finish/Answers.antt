use Rattle.std.proofs.Common.{ℕ, ◌≡◌, ◌<◌, ◌∙◌, IfSome, None, Option, ap, sym, subst, arith}
use Rattle.std.specs.Option.{option_map}
use Rattle.omp_machine.specs.declared.ready.Ready.{Ready}
use Rattle.omp_model.proofs.{Turns.turn-goes, Recording.first_enabled-enabled}
use Rattle.team_run.{specs.Names.TURN_LIMIT, specs.Names.arrival, specs.Names.state_of, specs.Serving.Serves, proofs.Serving.serves-then, proofs.Serving.same-then, proofs.Visiting.caused, proofs.Visiting.stops-here, proofs.Visiting.serves-to, proofs.Visiting.serves-all}
use Rattle.team_run.proofs.serial_run.SerialRun.finish.Goals as goal

-- the thread that was found
abbrev thread_of : Option Ready → Option ℕ
thread_of found = option_map (λ (ready : Ready). ready.thread) found

pub loop-ready-smaller : goal.loop-ready-smaller
loop-ready-smaller g c =
    let on = first_enabled-enabled c.loop-ready.self.book.run (state_of c.loop-ready.self.book) _ _ (sym c.first_ready.ensures.thread ∙ ap thread_of c.in-Some.is) in
    let turns : (state_of c.loop-ready.self.book).turns < TURN_LIMIT = c.loop-ready.invariant.stands.has_run.running (turn-goes _ _ on).halt in
    omega (arith, c.in-Ok.ensures.turns)

pub loop-ready-preserved : goal.loop-ready-preserved
loop-ready-preserved g c =
    let stands_for = g.P.ToolPart.stands_for in
    let kept = c.loop-ready.invariant in
    let now = c.args.self.now in
    let first : Serves stands_for c.visit.new.self.book.run now.parts.items now.book.history None
    c.loop-ready.self.parts.items c.loop-ready.self.book.history = rw c.in-Ok.ensures.run kept.serves in
    record {
      run = c.in-Ok.ensures.run ∙ kept.run;
      stands = c.in-Ok.ensures.stands;
      serves = serves-then stands_for c.visit.new.self.book.run _ _ _ _ _ _ None first
          (serves-all _ _ _ _ c.in-Ok.ensures.stands stands_for _ _ c.in-Ok.ensures.serves);
      same = same-then g.P.ToolPart.same (g.met.P.ToolPart g.world.𝓛 g.world.𝓜 g.world.𝓡 ((λ s x. x), (λ x. x), (λ x. x), λ x. x)).same_onward _ _ _ kept.serves.as_many kept.same c.in-Ok.ensures.same;
    }

pub returns-clause-serves : goal.returns-clause-serves
returns-clause-serves g c = serves-to _ _ _ _ c.loop-ready.invariant.stands g.P.ToolPart.stands_for _ _ c.loop-ready.invariant.serves

pub unreachable-requires : goal.unreachable-requires
unreachable-requires g c =
    caused _ _ _ c.loop-ready.invariant.stands (sym c.first_ready.ensures.thread ∙ ap thread_of c.in_default.is)
    (sym c.cause.ensures ∙ c.in-None.is)

pub returns-clause-stops : goal.returns-clause-stops
returns-clause-stops g c = stops-here _ _ _ c.loop-ready.invariant.stands

pub visit-requires-clause-turn : goal.visit-requires-clause-turn
visit-requires-clause-turn g c κs within = sym c.first_ready.ensures.thread ∙ ap thread_of c.in-Some.is

pub visit-requires-clause-arrival : goal.visit-requires-clause-arrival
visit-requires-clause-arrival g c κs within =
    subst (λ (found : Option Ready). IfSome found (λ (ready : Ready). ready.arrival ≡ arrival (state_of c.loop-ready.self.book).world ready.thread)) c.in-Some.is c.first_ready.ensures.arrival
