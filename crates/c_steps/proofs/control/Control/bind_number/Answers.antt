use Rattle.std.proofs.Common.{◌≡◌, ◌≤◌, ◌+◌, false, nat_lt, length-append, [], ◌∷◌, ◌++◌, length, rules}
use Rattle.c_model.specs.declared.limits.TheConstants.{CELL_LIMIT}
use Rattle.c_model.specs.Cells.{has_too_many}
use Rattle.c_steps.specs.Moves.{bound, stepping, then_if}
use Rattle.c_steps.proofs.Frames.{step_brings}
use Rattle.c_steps.proofs.Stepping.{bound_step, items_if_cases}
use Rattle.c_steps.proofs.control.Control.bind_number.Goals as goal

-- src/control/declaring.rt
pub bind-requires-clause-room : goal.bind-requires-clause-room
bind-requires-clause-room c =
    rw (c.step.ensures, c.requires.ready.brings) (step_brings c.args.name.code.now c.args.name.number c.args.name.there)

-- src/control/declaring.rt
pub returns : goal.returns
returns c =
    let few : nat_lt CELL_LIMIT (length c.args.cells.now.cells + 1) ≡ false = search rules in
    let room : has_too_many (c.args.cells.now.cells ++ c.args.number ∷ []) ≡ false = rw (length-append c.args.cells.now.cells (c.args.number ∷ [])) few in
    let is_new : c.then_if.new.self ≡ then_if c.args.then (bound c.new_entry-entry.result (stepping c.args.self.now)) = search rules in
    let is_after : c.push.new.self ≡ record c.args.cells.now { cells = c.args.cells.now.cells ++ c.args.number ∷ [] } = search rules in
    let within : c.args.self.now.base ≤ length c.args.self.now.names = search rules in
    record {
      step = bound_step c.args.name.code.now c.args.view c.args.self.now c.then_if.new.self c.args.cells.now c.push.new.self c.args.then c.new_entry-entry.result _ _ c.args.number c.requires.ready.stepping within room c.new_entry-entry.ensures.entry is_new is_after;
      settled = search rules;
      numbers = tt;
      frames = search (rules, items_if_cases);
    }
