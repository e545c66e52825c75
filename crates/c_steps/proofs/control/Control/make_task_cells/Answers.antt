use Rattle.std.proofs.Common.{◌≡◌, ◌≤◌, length, rules}
use Rattle.c_syntax.specs.language.Numbered.{tree_at}
use Rattle.c_check.specs.Seen.{task_copies}
use Rattle.c_steps.proofs.TaskNames.{count_within, listed_fit, slots_fit, slots_free, task_cells, task_control}
use Rattle.c_steps.proofs.control.Control.make_task_cells.Goals as goal

pub make_listed-requires-clause-room : goal.make_listed-requires-clause-room
make_listed-requires-clause-room c =
    let code = c.args.node.code.now in
    let old = c.args.self.now in
    let before = c.args.cells.now in
    let construct = tree_at code.trees c.args.node.number in
    listed_fit code construct old before c.requires.room

pub make_slots-requires-clause-count : goal.make_slots-requires-clause-count
make_slots-requires-clause-count c =
    let code = c.args.node.code.now in
    let old = c.args.self.now in
    let before = c.args.cells.now in
    let construct = tree_at code.trees c.args.node.number in
    let slots = c.task_copies-slots.result.now in
    let base : old.base ≤ length old.names = search rules in
    let were : c.len-names.result ≡ length old.names = search rules in
    let counted : c.count-count.result ≡ length before.cells = search rules in
    let are : slots ≡ task_copies code construct = search rules in
    count_within code construct old before c.requires.room c.make_listed.new.self c.make_listed.new.cells c.len-names.result c.count-count.result slots base c.make_listed.ensures.control c.make_listed.ensures.cells were counted are

pub make_slots-requires-clause-free : goal.make_slots-requires-clause-free
make_slots-requires-clause-free c =
    let code = c.args.node.code.now in
    let old = c.args.self.now in
    let before = c.args.cells.now in
    let construct = tree_at code.trees c.args.node.number in
    let slots = c.task_copies-slots.result.now in
    let base : old.base ≤ length old.names = search rules in
    let were : c.len-names.result ≡ length old.names = search rules in
    let counted : c.count-count.result ≡ length before.cells = search rules in
    let are : slots ≡ task_copies code construct = search rules in
    slots_free code construct old before c.requires.room c.make_listed.new.self c.make_listed.new.cells c.len-names.result c.count-count.result slots base c.make_listed.ensures.control c.make_listed.ensures.cells were counted are c.requires.names

pub make_slots-requires-clause-room : goal.make_slots-requires-clause-room
make_slots-requires-clause-room c =
    let code = c.args.node.code.now in
    let old = c.args.self.now in
    let before = c.args.cells.now in
    let construct = tree_at code.trees c.args.node.number in
    let slots = c.task_copies-slots.result.now in
    let base : old.base ≤ length old.names = search rules in
    let were : c.len-names.result ≡ length old.names = search rules in
    let counted : c.count-count.result ≡ length before.cells = search rules in
    let are : slots ≡ task_copies code construct = search rules in
    slots_fit code construct old before c.requires.room c.make_listed.new.self c.make_listed.new.cells c.len-names.result c.count-count.result slots base c.make_listed.ensures.control c.make_listed.ensures.cells were counted are

pub returns-clause-control : goal.returns-clause-control
returns-clause-control c =
    let code = c.args.node.code.now in
    let old = c.args.self.now in
    let before = c.args.cells.now in
    let construct = tree_at code.trees c.args.node.number in
    let slots = c.task_copies-slots.result.now in
    let base : old.base ≤ length old.names = search rules in
    let were : c.len-names.result ≡ length old.names = search rules in
    let counted : c.count-count.result ≡ length before.cells = search rules in
    let are : slots ≡ task_copies code construct = search rules in
    task_control code construct old before c.requires.room c.make_listed.new.self c.make_listed.new.cells c.len-names.result c.count-count.result slots base c.make_listed.ensures.control c.make_listed.ensures.cells were counted are c.make_slots.new.self c.make_slots.ensures.control

pub returns-clause-cells : goal.returns-clause-cells
returns-clause-cells c =
    let code = c.args.node.code.now in
    let old = c.args.self.now in
    let before = c.args.cells.now in
    let construct = tree_at code.trees c.args.node.number in
    let slots = c.task_copies-slots.result.now in
    let base : old.base ≤ length old.names = search rules in
    let were : c.len-names.result ≡ length old.names = search rules in
    let counted : c.count-count.result ≡ length before.cells = search rules in
    let are : slots ≡ task_copies code construct = search rules in
    task_cells code construct old before c.requires.room c.make_listed.new.self c.make_listed.new.cells c.len-names.result c.count-count.result slots base c.make_listed.ensures.control c.make_listed.ensures.cells were counted are c.make_slots.new.cells c.make_slots.ensures.cells
