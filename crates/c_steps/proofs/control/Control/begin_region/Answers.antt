use Rattle.std.proofs.Common.{◌≡◌, ap, ◌∙◌, subst, sym}
use Rattle.c_syntax.specs.language.Numbered.{tree_at}
use Rattle.c_steps.specs.Beginning.{IsPutBefore, region_items}
use Rattle.c_steps.specs.declared.frame.Frame.TheVariants as frame
use Rattle.c_steps.specs.declared.item.Item.TheVariants as item
use Rattle.c_steps.specs.ControlView.{ControlView}
use Rattle.c_steps.specs.Items.{with_file}
use Rattle.c_steps.specs.Moves.{pushed, then_if, then_item}
use Rattle.c_steps.proofs.Members.{region_put}
use Rattle.c_steps.proofs.control.Control.begin_region.Goals as goal

pub returns : goal.returns
returns c =
    let is : c.then_if.new.self ≡ then_if c.own_cells-cells.result (then_item (item.Start c.statement-part.result) (pushed (frame.Combining c.args.node.number c.first_listed.result c.args.names) c.args.self.now)) =
    c.then_if.ensures ∙ ap (λ (held : ControlView). then_if c.own_cells-cells.result held) (c.then.ensures ∙ ap (λ (held : ControlView). then_item (item.Start c.statement-part.result) held) c.push.ensures) in
    subst (λ (new : ControlView). IsPutBefore c.args.node.code.now (region_items (tree_at c.args.node.code.now.trees c.args.node.number) (with_file c.args.node.code.now c.args.names)) c.args.self.now new) (sym is)
    (region_put c.args.node.code.now c.args.self.now c.args.node.number c.args.names c.first_listed.result c.statement-part.result c.own_cells-cells.result c.args.node.there (c.first_listed.ensures.listed (tree_at c.args.node.code.now.trees c.args.node.number)) c.statement-part.ensures.statement c.statement-part.ensures.there c.own_cells-cells.ensures.cells c.own_cells-cells.ensures.item)
