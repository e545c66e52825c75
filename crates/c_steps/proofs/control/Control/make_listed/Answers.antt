use Rattle.std.proofs.Common.{◌≡◌, ◌+◌, ◌≤◌, [], length, map, ap, sym, ◌∙◌, subst, rules}
use Rattle.std.proofs.lemmas.List.{length-map}
use Rattle.c_syntax.specs.language.Numbered.{tree_at}
use Rattle.c_model.specs.Copies.{listed_variables}
use Rattle.c_model.specs.declared.limits.TheConstants.{CELL_LIMIT}
use Rattle.c_steps.specs.ControlView.{bound_in}
use Rattle.c_steps.specs.ListedNames.{listed_from, listed_of}
use Rattle.c_steps.specs.Moves.{bound}
use Rattle.c_steps.specs.OwnCells.{copy_entry, copy_numbers, listed_copy, with_made, with_made_cells, with_numbers}
use Rattle.c_steps.proofs.OwnNames.{IsMaking, around_start, copies_listed, making_cells, making_end, making_more, making_room, making_start}
use Rattle.c_steps.proofs.control.Control.make_listed.Goals as goal

pub loop-found-init : goal.loop-found-init
loop-found-init c =
    let code = c.args.node.code.now in
    let old = c.args.self.now in
    let before = c.args.cells.now in
    let construct = tree_at code.trees c.args.node.number in
    let whole = listed_variables construct in
    let around = bound_in code old before in
    let copies = map (listed_copy around) whole in
    let base : old.base ≤ length old.names = search rules in
    let were : c.len-names.result ≡ length old.names = search rules in
    let counted : c.count-count.result ≡ length before.cells = search rules in
    let free = subst (λ count. count ≤ old.names_now) (sym (length-map whole (listed_copy around))) c.requires.names in
    subst (λ left. IsMaking code around c.len-names.result c.count-count.result (map (listed_copy around) left) copies old old before before) (sym (c.first_listed-place.ensures.listed construct))
    (making_start code copies old before around c.len-names.result c.count-count.result (search rules) (search rules) (search rules) (rw (were, counted) (around_start code copies old before base)) free)

pub make_named-requires-clause-room : goal.make_named-requires-clause-room
make_named-requires-clause-room c =
    let code = c.args.node.code.now in
    let old = c.args.self.now in
    let before = c.args.cells.now in
    let construct = tree_at code.trees c.args.node.number in
    let whole = listed_variables construct in
    let around = bound_in code old before in
    let copies = map (listed_copy around) whole in
    let held = c.loop-found.self in
    let store = c.loop-found.cells in
    let names = c.len-names.result in
    let count = c.count-count.result in
    let one = listed_of c.in-Some.found.listed in
    let rest = map (listed_copy around) (listed_from construct c.in-Some.found.next) in
    let so = subst (λ left. IsMaking code around names count (map (listed_copy around) left) copies old held before store) c.in-Some.ensures c.loop-found.invariant in
    let room = subst (λ made. length made.cells ≤ CELL_LIMIT) (copies_listed around (record { env = []; cells = before.cells }) whole) c.requires.room in
    subst (λ around. length store.cells + length (copy_numbers around (listed_copy around one)) ≤ CELL_LIMIT) (sym so.seen)
    (making_room code copies old before around names count held store (listed_copy around one) rest so room)

pub loop-found-preserved : goal.loop-found-preserved
loop-found-preserved c =
    let code = c.args.node.code.now in
    let old = c.args.self.now in
    let before = c.args.cells.now in
    let construct = tree_at code.trees c.args.node.number in
    let whole = listed_variables construct in
    let around = bound_in code old before in
    let copies = map (listed_copy around) whole in
    let held = c.loop-found.self in
    let store = c.loop-found.cells in
    let names = c.len-names.result in
    let count = c.count-count.result in
    let one = listed_of c.in-Some.found.listed in
    let rest = map (listed_copy around) (listed_from construct c.in-Some.found.next) in
    let so = subst (λ left. IsMaking code around names count (map (listed_copy around) left) copies old held before store) c.in-Some.ensures c.loop-found.invariant in
    let new = c.make_named.new.self in
    let after = c.make_named.new.cells in
    making_more code copies old before around names count held store (listed_copy around one) rest so new after
    (subst (λ around. new ≡ bound (copy_entry around store.cells (listed_copy around one)) held) so.seen c.make_named.ensures.control)
    (subst (λ around. after ≡ with_numbers (copy_numbers around (listed_copy around one)) store) so.seen c.make_named.ensures.cells)

pub returns-clause-control : goal.returns-clause-control
returns-clause-control c =
    let code = c.args.node.code.now in
    let old = c.args.self.now in
    let before = c.args.cells.now in
    let construct = tree_at code.trees c.args.node.number in
    let whole = listed_variables construct in
    let around = bound_in code old before in
    let copies = map (listed_copy around) whole in
    let held = c.loop-found.self in
    let store = c.loop-found.cells in
    let names = c.len-names.result in
    let count = c.count-count.result in
    let none : listed_from construct c.loop-found.place ≡ [] = search rules in
    let so = subst (λ left. IsMaking code around names count (map (listed_copy around) left) copies old held before store) none c.loop-found.invariant in
    making_end code copies old before around names count held store so
    ∙ ap (λ made. with_made made old) (sym (copies_listed around (record { env = []; cells = before.cells }) whole))

pub returns-clause-cells : goal.returns-clause-cells
returns-clause-cells c =
    let code = c.args.node.code.now in
    let old = c.args.self.now in
    let before = c.args.cells.now in
    let construct = tree_at code.trees c.args.node.number in
    let whole = listed_variables construct in
    let around = bound_in code old before in
    let copies = map (listed_copy around) whole in
    let held = c.loop-found.self in
    let store = c.loop-found.cells in
    let names = c.len-names.result in
    let count = c.count-count.result in
    let none : listed_from construct c.loop-found.place ≡ [] = search rules in
    let so = subst (λ left. IsMaking code around names count (map (listed_copy around) left) copies old held before store) none c.loop-found.invariant in
    making_cells code copies old before around names count held store so
    ∙ ap (λ made. with_made_cells made before) (sym (copies_listed around (record { env = []; cells = before.cells }) whole))
