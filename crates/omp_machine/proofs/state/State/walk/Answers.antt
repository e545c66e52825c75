use Rattle.std.proofs.Common.{◌≡◌, ◌<◌, ◌+◌, ◌-◌, ◌∙◌, sym, ap, arith, Some, nat_le}
use Rattle.std.proofs.lemmas.Bool.{leb-false, lt-leb}
use Rattle.omp_model.specs.declared.limits.TheConstants.{STEPS_OF_A_TURN}
use Rattle.omp_model.specs.State.{State}
use Rattle.omp_model.specs.Silent.{Stops, silent_step}
use Rattle.omp_model.specs.Turn.{walk, walked}
use Rattle.omp_board.specs.Board.{run_of}
use Rattle.omp_machine.proofs.Walking.{left-suc, many_on, one_on, room_behind, walk-at_rest, walk-over, walk-stops}
use Rattle.omp_machine.proofs.Programs.{same-silence}
use Rattle.omp_machine.proofs.state.State.walk.Goals as goal

pub returns-then-is_spent-clause-walk : goal.returns-then-is_spent-clause-walk
returns-then-is_spent-clause-walk c = λ run program steps.
    c.loop-made.invariant.on.walk run program steps
    ∙ ap (λ left. walk run left c.loop-made.made c.loop-made.self.state c.args.thread) (left-suc STEPS_OF_A_TURN c.loop-made.made c.loop-made-test.true)
    ∙ c.walk_spent.ensures.walk run (STEPS_OF_A_TURN - (c.loop-made.made + 1)) (ap (λ limit. nat_le limit c.loop-made.self.state.steps) steps ∙ sym c.is_spent.ensures ∙ c.if-is_spent.true)

pub steps_left-most-requires-clause-unspent : goal.steps_left-most-requires-clause-unspent
steps_left-most-requires-clause-unspent c = leb-false c.args.limit c.loop-made.self.state.steps (sym c.is_spent.ensures ∙ c.if-is_spent.false)

pub loop-made-preserved-then-more-most : goal.loop-made-preserved-then-more-most
loop-made-preserved-then-more-most c =
    let on =
    many_on c.args.self.now c.args.limit c.args.thread c.view-view.result c.loop-made.made c.loop-made.self c.loop-made.invariant.on c.try_steps-more.result c.try_steps-more.new.self c.try_steps-more.ensures.made
    (omega (arith, c.try_steps-more.ensures.most, c.steps_left-most.ensures.turn)) (omega (arith, c.try_steps-more.ensures.most, c.steps_left-most.ensures.limit)) in
    record { on = on; numbers = c.loop-made.invariant.numbers }

pub returns-in_default : goal.returns-in_default
returns-in_default c =
    let on =
    many_on c.args.self.now c.args.limit c.args.thread c.view-view.result c.loop-made.made c.loop-made.self c.loop-made.invariant.on c.try_steps-more.result c.try_steps-more.new.self c.try_steps-more.ensures.made
    (omega (arith, c.try_steps-more.ensures.most, c.steps_left-most.ensures.turn)) (omega (arith, c.try_steps-more.ensures.most, c.steps_left-most.ensures.limit)) in
    let made = c.loop-made.made + c.try_steps-more.result in
    record {
      walk = λ run program steps. on.walk run program steps ∙ walk-at_rest run (STEPS_OF_A_TURN - made) made c.try_steps-more.new.self.state c.args.thread (λ next. c.in_default.not-Steps (c.arrival.ensures ∙ next));
      next = c.arrival.ensures;
      room = on.room;
      counts = on.counts;
      program = on.program;
    }

pub returns-in-Err-clause-walk : goal.returns-in-Err-clause-walk
returns-in-Err-clause-walk c = λ run program steps.
    let on =
    many_on c.args.self.now c.args.limit c.args.thread c.view-view.result c.loop-made.made c.loop-made.self c.loop-made.invariant.on c.try_steps-more.result c.try_steps-more.new.self c.try_steps-more.ensures.made
    (omega (arith, c.try_steps-more.ensures.most, c.steps_left-most.ensures.turn)) (omega (arith, c.try_steps-more.ensures.most, c.steps_left-most.ensures.limit)) in
    let made = c.loop-made.made + c.try_steps-more.result in
    let S : State = c.try_steps-more.new.self.state in
    let below : made < STEPS_OF_A_TURN = omega (arith, c.try_steps-more.ensures.most, c.steps_left-most.ensures.turn, c.if-more-most.false) in
    let stops : silent_step run S.world c.args.thread ≡ Stops c.in-Err.halt =
    same-silence run S.world c.args.thread ∙ ap (λ p. silent_step (run_of p) S.world c.args.thread) (program ∙ sym on.program) ∙ c.in-Err.ensures.silence.0 in
    on.walk run program steps
    ∙ ap (λ left. walk run left made S c.args.thread) (left-suc STEPS_OF_A_TURN made below)
    ∙ walk-stops run (STEPS_OF_A_TURN - (made + 1)) made S c.args.thread c.in-Err.halt (sym c.arrival.ensures ∙ c.in-Steps.is) (ap (λ limit. nat_le limit S.steps) steps ∙ lt-leb c.args.limit S.steps (let counted = ap (λ (S : State). S.steps) c.try_steps-more.ensures.made.counted in omega (arith, c.try_steps-more.ensures.most, c.steps_left-most.ensures.limit, c.if-more-most.false, counted))) stops
    ∙ ap (λ (after : State). walked after made (Some c.in-Err.halt)) (sym c.in-Err.ensures.halted)

pub loop-made-preserved : goal.loop-made-preserved
loop-made-preserved c =
    let on =
    many_on c.args.self.now c.args.limit c.args.thread c.view-view.result c.loop-made.made c.loop-made.self c.loop-made.invariant.on c.try_steps-more.result c.try_steps-more.new.self c.try_steps-more.ensures.made
    (omega (arith, c.try_steps-more.ensures.most, c.steps_left-most.ensures.turn)) (omega (arith, c.try_steps-more.ensures.most, c.steps_left-most.ensures.limit)) in
    let made = c.loop-made.made + c.try_steps-more.result in
    record {
      on = one_on c.args.self.now c.args.limit c.args.thread c.view-view.result made c.try_steps-more.new.self on c.step.new.self (omega (arith, c.try_steps-more.ensures.most, c.steps_left-most.ensures.turn, c.if-more-most.false)) (let counted = ap (λ (S : State). S.steps) c.try_steps-more.ensures.made.counted in omega (arith, c.try_steps-more.ensures.most, c.steps_left-most.ensures.limit, c.if-more-most.false, counted)) (sym c.arrival.ensures ∙ c.in-Steps.is) c.in_default-step.ensures.silence c.in_default-step.ensures.counted
          c.step.ensures.program c.step.ensures.room c.step.ensures.steps c.step.ensures.turn c.step.ensures.view;
      numbers = c.loop-made.invariant.numbers;
    }

pub returns-clause-walk : goal.returns-clause-walk
returns-clause-walk c = λ run program steps.
    c.loop-made.invariant.on.walk run program steps ∙ walk-over run STEPS_OF_A_TURN c.loop-made.made c.loop-made.self.state c.args.thread c.loop-made-test.false c.loop-made.invariant.on.most

pub step-requires-clause-view : goal.step-requires-clause-view
step-requires-clause-view c =
    let on =
    many_on c.args.self.now c.args.limit c.args.thread c.view-view.result c.loop-made.made c.loop-made.self c.loop-made.invariant.on c.try_steps-more.result c.try_steps-more.new.self c.try_steps-more.ensures.made
    (omega (arith, c.try_steps-more.ensures.most, c.steps_left-most.ensures.turn)) (omega (arith, c.try_steps-more.ensures.most, c.steps_left-most.ensures.limit)) in
    on.view

pub step-requires-clause-room : goal.step-requires-clause-room
step-requires-clause-room c =
    let on =
    many_on c.args.self.now c.args.limit c.args.thread c.view-view.result c.loop-made.made c.loop-made.self c.loop-made.invariant.on c.try_steps-more.result c.try_steps-more.new.self c.try_steps-more.ensures.made
    (omega (arith, c.try_steps-more.ensures.most, c.steps_left-most.ensures.turn)) (omega (arith, c.try_steps-more.ensures.most, c.steps_left-most.ensures.limit)) in
    let enough = on.room.steps in
    record { turn = on.room.turn; steps = omega (arith, enough) }

pub returns-in-Err-clause-room : goal.returns-in-Err-clause-room
returns-in-Err-clause-room c =
    let on =
    many_on c.args.self.now c.args.limit c.args.thread c.view-view.result c.loop-made.made c.loop-made.self c.loop-made.invariant.on c.try_steps-more.result c.try_steps-more.new.self c.try_steps-more.ensures.made
    (omega (arith, c.try_steps-more.ensures.most, c.steps_left-most.ensures.turn)) (omega (arith, c.try_steps-more.ensures.most, c.steps_left-most.ensures.limit)) in
    let before = c.try_steps-more.new.self in
    let after = c.step.new.self in
    let enough = on.steps in
    room_behind before.room after.room before.state.world after.state.world c.args.thread on.room c.step.ensures.room c.step.ensures.turn
    (omega (arith, enough, c.step.ensures.steps, c.try_steps-more.ensures.most, c.steps_left-most.ensures.turn, c.if-more-most.false))

pub returns-in-Err-clause-program : goal.returns-in-Err-clause-program
returns-in-Err-clause-program c =
    let on =
    many_on c.args.self.now c.args.limit c.args.thread c.view-view.result c.loop-made.made c.loop-made.self c.loop-made.invariant.on c.try_steps-more.result c.try_steps-more.new.self c.try_steps-more.ensures.made
    (omega (arith, c.try_steps-more.ensures.most, c.steps_left-most.ensures.turn)) (omega (arith, c.try_steps-more.ensures.most, c.steps_left-most.ensures.limit)) in
    c.step.ensures.program ∙ on.program
