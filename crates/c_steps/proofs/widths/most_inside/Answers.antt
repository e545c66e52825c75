use Rattle.std.proofs.Common.{◌≡◌, sym, ap, ◌∙◌}
use Rattle.c_syntax.specs.language.Numbered.{children_at}
use Rattle.c_model.specs.Width.{most_inside}
use Rattle.c_steps.specs.Widths.{most_among}
use Rattle.c_steps.proofs.InnerNames.{most_among_is}
use Rattle.c_steps.proofs.widths.most_inside.Goals as goal

pub returns : goal.returns
returns c =
    let most : most_among c.args.inner.now c.children.result.now ≡ most_inside c.args.program.now (children_at c.args.program.now.trees c.children.result.now) = rw c.requires.inner (most_among_is c.args.program.now c.args.node c.children.result.now c.requires.node c.children.ensures.before) in
    c.most_among.ensures ∙ most ∙ ap (most_inside c.args.program.now) (sym (rw c.tree.ensures at c.children.ensures.children))
