use Rattle.std.proofs.Common.{◌≡◌, ◌∙◌, ◌+◌, ◌≤◌, ◌<◌, ap, nat_lt, not, length, rules}
use Rattle.c_model.specs.declared.limits.TheConstants.{CALL_LIMIT, CELL_LIMIT}
use Rattle.c_model.specs.Program.{parameters_of}
use Rattle.c_model.specs.Task.Outcome.{StepsTo}
use Rattle.c_steps.specs.ControlView.{env_at, scope_in}
use Rattle.c_steps.specs.Moves.{env_with}
use Rattle.c_steps.specs.Nodes.{part_at}
use Rattle.c_steps.specs.Rooming.{open_calls}
use Rattle.c_steps.proofs.BeginCall.{begins_calls, begins_cells, begins_entered, have_no_trap}
use Rattle.c_steps.proofs.control.Control.start_call.Goals as goal

pub returns-then-not-has_room : goal.returns-then-not-has_room
returns-then-not-has_room c =
    let trees = c.args.code.now.trees in
    let few : nat_lt CELL_LIMIT (length c.args.cells.now.cells + length (parameters_of (part_at trees c.function-function.result))) ≡ not c.has_room.result = search rules in
    record {
      step =
          begins_cells c.args.code.now c.args.view c.args.self.now c.args.cells.now (part_at trees c.args.call.part) (part_at trees c.function-function.result) (env_with c.args.call.declared (env_at c.args.code.now c.args.self.now)) c.args.call.to
          c.has_room.result few (search rules) (search rules) (search rules);
      settled = search rules;
      numbers = tt;
      frames = search rules;
    }

pub returns-then-self-ge-CALL_LIMIT : goal.returns-then-self-ge-CALL_LIMIT
returns-then-self-ge-CALL_LIMIT c =
    let trees = c.args.code.now.trees in
    let few : nat_lt CELL_LIMIT (length c.args.cells.now.cells + length (parameters_of (part_at trees c.function-function.result))) ≡ not c.has_room.result = search rules in
    let many : CALL_LIMIT ≤ open_calls c.args.self.now.frames = search rules in
    record {
      step =
          begins_calls c.args.code.now c.args.view c.args.self.now c.args.cells.now (part_at trees c.args.call.part) (part_at trees c.function-function.result) (env_with c.args.call.declared (env_at c.args.code.now c.args.self.now)) c.args.call.to
          c.has_room.result few (search rules) many (search rules) (search rules);
      settled = search rules;
      numbers = tt;
      frames = search rules;
    }

pub enter-requires-clause-values : goal.enter-requires-clause-values
enter-requires-clause-values c =
    have_no_trap (scope_in c.args.code.now c.args.view c.args.self.now c.args.cells.now) (part_at c.args.code.now.trees c.args.call.part) (search rules)

pub returns-else-self-ge-CALL_LIMIT : goal.returns-else-self-ge-CALL_LIMIT
returns-else-self-ge-CALL_LIMIT c =
    let trees = c.args.code.now.trees in
    let few : nat_lt CELL_LIMIT (length c.args.cells.now.cells + length (parameters_of (part_at trees c.function-function.result))) ≡ not c.has_room.result = search rules in
    let within : open_calls c.args.self.now.frames < CALL_LIMIT = search rules in
    record {
      step =
          ap StepsTo c.enter.ensures.step
          ∙ begins_entered c.args.code.now c.args.view c.args.self.now c.args.cells.now (part_at trees c.args.call.part) (part_at trees c.function-function.result) (env_with c.args.call.declared (env_at c.args.code.now c.args.self.now)) c.args.call.to
          c.has_room.result few (search rules) within (search rules) (search rules);
      settled = search rules;
      numbers = tt;
      frames = search rules;
    }
