use Rattle.std.proofs.Common.{◌≡◌, IfErr, IfOk, sym, ap, subst, ◌∙◌}
use Rattle.omp_model.specs.declared.event.Arrival.TheVariants.{CodeEvent}
use Rattle.omp_model.specs.declared.event.Event.{Event}
use Rattle.omp_model.specs.declared.event.Halt.{Halt}
use Rattle.omp_model.specs.Gates.{arrival}
use Rattle.omp_model.specs.Changes.{with_masked_skipped}
use Rattle.omp_model.specs.Turn.{Turn, after_steps, halted}
use Rattle.omp_board.specs.Board.{IsGoing}
use Rattle.omp_machine.specs.State.{StateView, happened}
use Rattle.omp_machine.proofs.Coming.{comes-turn}
use Rattle.omp_machine.proofs.state.State.after_steps.Goals as goal

pub returns-in-CodeEvent-clause-turn : goal.returns-in-CodeEvent-clause-turn
returns-in-CodeEvent-clause-turn c = λ run program.
    let T : Turn = record { outcome = c.happen.result; state = c.happen.new.self.state } in
    let going = subst (λ (view : StateView). IsGoing view.program (with_masked_skipped view.state.world c.args.thread) c.args.thread c.begin_code_event-went.result c.begin_code_event-went.new.self.world) c.self-in-CodeEvent.view_is c.begin_code_event-went.ensures.going in
    let happens = subst (λ (view : StateView). IfOk c.begin_code_event-went.result (λ (event : Event). happened (record view.state { world = c.begin_code_event-went.new.self.world }) c.args.thread event ≡ T)) c.self-in-CodeEvent.view_is c.happen.ensures.happens in
    let halts = subst (λ (view : StateView). IfErr c.begin_code_event-went.result (λ (halt : Halt). halted (record view.state { world = c.begin_code_event-went.new.self.world }) halt ≡ T)) c.self-in-CodeEvent.view_is c.happen.ensures.halts in
    let next : arrival c.args.self.now.state.world c.args.thread ≡ CodeEvent = sym c.requires.arrival ∙ c.in-CodeEvent.is in
    ap (after_steps run c.args.self.now.state c.args.made c.args.thread) next
    ∙ comes-turn run c.args.self.now.state c.args.thread c.args.made c.args.self.now.program c.begin_code_event-went.result c.begin_code_event-went.new.self.world T program going happens halts
