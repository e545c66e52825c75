use Rattle.std.proofs.Common.{◌≡◌, ◌+◌, ◌≤◌, length, sym, subst, rules}
use Rattle.c_syntax.specs.language.Numbered.{tree_at}
use Rattle.c_model.specs.Cells.{has_too_many}
use Rattle.c_model.specs.Copies.{listed_variables, with_own_cells}
use Rattle.c_model.specs.declared.limits.TheConstants.{CELL_LIMIT}
use Rattle.c_steps.specs.ControlView.{bound_in}
use Rattle.c_steps.specs.OwnCells.{made_own, with_made, with_made_cells}
use Rattle.c_steps.proofs.OwnNames.{has_room, own_fits, own_names_within, own_step}
use Rattle.c_steps.proofs.control.Control.make_cells.Goals as goal

pub make_own-requires-clause-room : goal.make_own-requires-clause-room
make_own-requires-clause-room c =
    let code = c.args.node.code.now in
    let around = bound_in code c.args.self.now c.args.cells.now in
    let construct = tree_at code.trees c.args.node.number in
    let fits = has_room (has_too_many (with_own_cells code around construct).cells) c.has_own_room.result c.has_own_room.ensures c.if-not-has_own_room.false in
    subst (λ held. length (made_own code (bound_in code held c.args.cells.now) c.args.cells.now.cells construct).cells ≤ CELL_LIMIT) (sym c.step.ensures)
    (own_fits code around construct fits)

pub make_own-requires-clause-names : goal.make_own-requires-clause-names
make_own-requires-clause-names c =
    let code = c.args.node.code.now in
    let count = length (listed_variables (tree_at code.trees c.args.node.number)) + 1 in
    subst (λ held. count ≤ held.names_now) (sym c.step.ensures) (subst (λ most. count ≤ most) (sym c.requires.brings) (own_names_within code c.args.node.number c.args.node.there))

pub returns : goal.returns
returns c =
    let code = c.args.node.code.now in
    let old = c.args.self.now in
    let before = c.args.cells.now in
    let new = c.make_own.new.self in
    let after = c.make_own.new.cells in
    let construct = tree_at code.trees c.args.node.number in
    let fits = has_room (has_too_many (with_own_cells code (bound_in code old before) construct).cells) c.has_own_room.result c.has_own_room.ensures c.if-not-has_own_room.false in
    let base = subst (λ held. held.base ≤ length held.names) c.step.ensures c.make_own.ensures.base in
    let control = subst (λ held. new ≡ with_made (made_own code (bound_in code held before) before.cells construct) held) c.step.ensures c.make_own.ensures.control in
    let cells = subst (λ held. after ≡ with_made_cells (made_own code (bound_in code held before) before.cells construct) before) c.step.ensures c.make_own.ensures.cells in
    record {
      step = own_step code c.args.view old before construct base c.requires.stepping.calls new after control cells fits;
      settled = search rules;
      numbers = tt;
      frames = search rules;
    }
