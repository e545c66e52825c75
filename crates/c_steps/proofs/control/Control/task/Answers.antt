use Rattle.std.proofs.Common.{◌≡◌, ◌≤◌, length, drop, Option, refl, sym, ap, ◌∙◌, subst, arith}
use Rattle.c_syntax.specs.language.Numbered.{tree_at}
use Rattle.c_model.specs.declared.limits.TheConstants.{CELL_LIMIT}
use Rattle.c_model.specs.Task.{Item}
use Rattle.c_steps.specs.Beginning.{created_of}
use Rattle.c_steps.specs.declared.item.Item.TheVariants as item
use Rattle.c_steps.specs.ControlView.{ControlView, bound_in}
use Rattle.c_steps.specs.Moves.{beginning, then_item}
use Rattle.c_steps.specs.OwnCells.{made_task, with_made, with_made_cells}
use Rattle.c_steps.proofs.ExplicitTasks.{cells_fit, names_fit, none_created, task_made, task_stands}
use Rattle.c_steps.proofs.Members.{own_fit}
use Rattle.c_steps.proofs.control.Control.task.Goals as goal

pub make_task_cells-requires-clause-room : goal.make_task_cells-requires-clause-room
make_task_cells-requires-clause-room c =
    let begins : c.inherit.new.self ≡ beginning (drop c.args.self.now.base c.args.self.now.names) c.args.into.now = c.inherit.ensures ∙ ap (λ entries. beginning entries c.args.into.now) c.own_entries.ensures.names in
    subst (λ (held : ControlView). length (made_task c.args.code.now (bound_in c.args.code.now held c.args.cells.now) c.args.cells.now.cells (tree_at c.args.code.now.trees c.in-Some.number)).cells ≤ CELL_LIMIT) (sym begins) (cells_fit c.args.code.now _ c.args.self.now c.args.into.now c.in-Some.number refl (ap (λ (item : Option Item). created_of item) c.front.ensures.first ∙ c.in-Some.ensures.construct c.args.code.now) c.args.cells.now c.requires.room)

pub make_task_cells-requires-clause-names : goal.make_task_cells-requires-clause-names
make_task_cells-requires-clause-names c =
    let begins : c.inherit.new.self ≡ beginning (drop c.args.self.now.base c.args.self.now.names) c.args.into.now = c.inherit.ensures ∙ ap (λ entries. beginning entries c.args.into.now) c.own_entries.ensures.names in
    omega (arith, ap (λ (held : ControlView). held.names_now) begins, names_fit c.args.code.now _ c.args.self.now c.args.into.now c.in-Some.number refl (ap (λ (item : Option Item). created_of item) c.front.ensures.first ∙ c.in-Some.ensures.construct c.args.code.now) c.requires.made c.requires.into)

pub returns-clause-went : goal.returns-clause-went
returns-clause-went c =
    let begins : c.inherit.new.self ≡ beginning (drop c.args.self.now.base c.args.self.now.names) c.args.into.now = c.inherit.ensures ∙ ap (λ entries. beginning entries c.args.into.now) c.own_entries.ensures.names in
    let control = c.then.ensures ∙ ap (λ (held : ControlView). then_item (item.Start c.statement-part.result) held) (c.make_task_cells.ensures.control ∙ ap (λ (held : ControlView). with_made (made_task c.args.code.now (bound_in c.args.code.now held c.args.cells.now) c.args.cells.now.cells (tree_at c.args.code.now.trees c.in-Some.number)) held) begins) in
    let cells = c.make_task_cells.ensures.cells ∙ ap (λ (held : ControlView). with_made_cells (made_task c.args.code.now (bound_in c.args.code.now held c.args.cells.now) c.args.cells.now.cells (tree_at c.args.code.now.trees c.in-Some.number)) c.args.cells.now) begins in
    task_stands c.args.code.now _ c.args.self.now c.args.into.now c.in-Some.number refl (ap (λ (item : Option Item). created_of item) c.front.ensures.first ∙ c.in-Some.ensures.construct c.args.code.now) c.args.cells.now c.statement-part.result c.statement-part.ensures.statement c.then.new.self c.make_task_cells.new.cells control cells

pub returns-clause-made : goal.returns-clause-made
returns-clause-made c =
    let begins : c.inherit.new.self ≡ beginning (drop c.args.self.now.base c.args.self.now.names) c.args.into.now = c.inherit.ensures ∙ ap (λ entries. beginning entries c.args.into.now) c.own_entries.ensures.names in
    let control = c.then.ensures ∙ ap (λ (held : ControlView). then_item (item.Start c.statement-part.result) held) (c.make_task_cells.ensures.control ∙ ap (λ (held : ControlView). with_made (made_task c.args.code.now (bound_in c.args.code.now held c.args.cells.now) c.args.cells.now.cells (tree_at c.args.code.now.trees c.in-Some.number)) held) begins) in
    let cells = c.make_task_cells.ensures.cells ∙ ap (λ (held : ControlView). with_made_cells (made_task c.args.code.now (bound_in c.args.code.now held c.args.cells.now) c.args.cells.now.cells (tree_at c.args.code.now.trees c.in-Some.number)) c.args.cells.now) begins in
    task_made c.args.code.now _ c.args.self.now c.args.into.now c.in-Some.number refl (ap (λ (item : Option Item). created_of item) c.front.ensures.first ∙ c.in-Some.ensures.construct c.args.code.now) c.args.cells.now c.statement-part.result c.statement-part.ensures.statement c.then.new.self c.make_task_cells.new.cells control cells c.statement-part.ensures.there c.requires.made c.requires.into

pub returns-in_default-clause-went : goal.returns-in_default-clause-went
returns-in_default-clause-went c =
    absurd (none_created c.args.code.now _ c.args.self.now _ refl c.requires.created c.front.ensures.first (c.in_default.ensures.none c.args.code.now))

pub inherit-requires-clause-room : goal.inherit-requires-clause-room
inherit-requires-clause-room c = rw c.own_entries.ensures.names (own_fit c.args.code.now c.args.self.now c.args.into.now c.requires.made c.requires.into)
