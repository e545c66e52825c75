use Rattle.std.proofs.Common.{◌∷◌, [], ◌++◌, List, refl, sym, ap, ◌∙◌, append_assoc, arith}
use Rattle.std.proofs.lemmas.Result.{on_ok_weaker}
use Rattle.c_syntax.specs.language.Tree.{children_of}
use Rattle.c_syntax.specs.language.Numbered.{tree_at}
use Rattle.c_check.specs.declared.acts.act.Act.{Act}
use Rattle.c_check.specs.declared.acts.act.Act.TheVariants.{Open, Close}
use Rattle.c_check.specs.Statements.{looped}
use Rattle.c_check.specs.Tasks.{from_place}
use Rattle.c_check.proofs.Parts.{parts_are}
use Rattle.c_check.proofs.Putting.{both, puts_as}
use Rattle.c_check.proofs.Weighing.{weighs_parts}
use Rattle.c_check.proofs.acts.walk.Walk.parts.Goals as goal

pub part-requires-clause-there : goal.part-requires-clause-there
part-requires-clause-there c =
    let trees = c.args.tree.now.trees in
    let close = c.in_ok-then.ensures trees tt c.requires.there in
    let body = c.in_ok-then-2.ensures trees c.requires.node close.there in
    (c.in_ok-looped.ensures trees body.there).there

pub returns : goal.returns
unfolding from_place
returns c =
    let trees = c.args.tree.now.trees in
    let children = children_of (tree_at trees c.args.node) in
    on_ok_weaker c.then-3.result
    (λ put.
    let close = c.in_ok-then.ensures trees tt c.requires.there in
    let body = c.in_ok-then-2.ensures trees c.requires.node close.there in
    let mark = c.in_ok-looped.ensures trees body.there in
    let inner = both (both (both (both (both close body) mark) c.in_ok-part.ensures) c.in_ok-part-2.ensures) c.in_ok-part-3.ensures in
    puts_as
    (ap (λ (told : List Act). Open ∷ told) (simp append_assoc refl ∙ ap (λ (told : List Act). told ++ Close ∷ []) (sym (parts_are (looped c.args.role) children))))
    (omega (arith, weighs_parts children))
    (both inner (put trees tt c.in_ok-part-3.ensures.there)))
    c.then-3.ensures
