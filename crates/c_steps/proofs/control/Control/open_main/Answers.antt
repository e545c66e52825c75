use Rattle.std.proofs.Common.{◌≡◌, sym, ap, ◌∙◌, subst}
use Rattle.c_syntax.specs.language.Tree.{Tree}
use Rattle.c_syntax.specs.language.Numbered.{TreeView}
use Rattle.c_check.specs.Loops.{child_at}
use Rattle.c_model.specs.declared.point.Target.TheVariants.{Nowhere}
use Rattle.c_model.specs.Program.{body_of, function_named}
use Rattle.c_steps.specs.declared.item.Item.TheVariants as item
use Rattle.c_steps.specs.ControlView.{ControlView, task_at}
use Rattle.c_steps.specs.OfProgram.{IsMadeFor, blank_held}
use Rattle.c_steps.specs.Moves.{opened, then_item}
use Rattle.c_steps.specs.Nodes.{part_at}
use Rattle.c_steps.proofs.Beginning.{main_stands, made_main, none_open}
use Rattle.c_steps.proofs.control.Control.open_main.Goals as goal

pub open-requires-clause-few : goal.open-requires-clause-few
open-requires-clause-few c = none_open c.args.code.now c.args.self.now c.requires

pub returns-clause-task : goal.returns-clause-task
returns-clause-task c =
    let new = then_item (item.Start c.child-body.result) (then_item item.FallOff (opened Nowhere (blank_held c.args.code.now))) in
    let is : c.then-2.new.self ≡ new =
    c.then-2.ensures ∙ ap (λ (held : ControlView). then_item (item.Start c.child-body.result) held) (c.then.ensures ∙ ap (λ (held : ControlView). then_item item.FallOff held) (c.open.ensures ∙ ap (λ (held : ControlView). opened Nowhere held) c.requires)) in
    let body : part_at c.args.code.now.trees c.child-body.result ≡ body_of (function_named c.args.code.now c.args.code.now.main) =
    c.child-body.ensures.child ∙ ap (λ (tree : Tree). child_at tree 2) (c.function.ensures.function ∙ ap (λ name. function_named c.args.code.now name) (c.main.ensures ∙ ap (λ (program : TreeView). program.main) c.tree.ensures)) in
    ap (λ (held : ControlView). task_at c.args.code.now held) is ∙ main_stands c.args.code.now c.child-body.result body

pub returns-clause-made : goal.returns-clause-made
returns-clause-made c =
    let new = then_item (item.Start c.child-body.result) (then_item item.FallOff (opened Nowhere (blank_held c.args.code.now))) in
    let is : c.then-2.new.self ≡ new =
    c.then-2.ensures ∙ ap (λ (held : ControlView). then_item (item.Start c.child-body.result) held) (c.then.ensures ∙ ap (λ (held : ControlView). then_item item.FallOff held) (c.open.ensures ∙ ap (λ (held : ControlView). opened Nowhere held) c.requires)) in
    let body : part_at c.args.code.now.trees c.child-body.result ≡ body_of (function_named c.args.code.now c.args.code.now.main) =
    c.child-body.ensures.child ∙ ap (λ (tree : Tree). child_at tree 2) (c.function.ensures.function ∙ ap (λ name. function_named c.args.code.now name) (c.main.ensures ∙ ap (λ (program : TreeView). program.main) c.tree.ensures)) in
    subst (λ (held : ControlView). IsMadeFor c.args.code.now held) (sym is) (made_main c.args.code.now c.child-body.result body c.child-body.ensures.there)
