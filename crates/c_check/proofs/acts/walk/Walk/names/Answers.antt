use Rattle.std.proofs.Common.{◌∷◌, sym, ap, ◌∙◌, arith}
use Rattle.std.proofs.lemmas.Result.{on_ok_weaker}
use Rattle.c_syntax.specs.language.Tree.{children_of}
use Rattle.c_syntax.specs.language.Numbered.{tree_at}
use Rattle.c_check.specs.declared.acts.act.Act.{Act}
use Rattle.c_check.specs.NameLists.{names}
use Rattle.c_check.specs.Tasks.{from_place}
use Rattle.c_check.proofs.Putting.{both, keep_as, puts_as}
use Rattle.c_check.proofs.Telling.{names_none, names_child}
use Rattle.c_check.proofs.Weighing.{weighs_child}
use Rattle.c_check.proofs.acts.walk.Walk.names.Goals as goal

pub returns-in_default : goal.returns-in_default
returns-in_default c =
    keep_as _ _ (names_none (children_of (tree_at c.args.tree.now.trees c.args.node)) c.args.place c.in_default.ensures.child c.args.why) c.requires.there

pub returns : goal.returns
returns c =
    let children = children_of (tree_at c.args.tree.now.trees c.args.node) in
    let next = c.in_ok-next_place.field-0 in
    let tree = tree_at c.args.tree.now.trees c.in-Some.child in
    on_ok_weaker c.then-2.result
    (λ put.
    let rest = c.in_ok-then.ensures c.args.tree.now.trees c.requires.node c.requires.there in
    puts_as
    (ap (λ (act : Act). act ∷ names c.args.why (from_place next children)) c.named.ensures ∙ sym (names_child children c.args.place next tree c.in-Some.ensures.child c.in_ok-next_place.ensures.next c.args.why))
    (omega (arith, weighs_child children c.args.place next tree c.in-Some.ensures.child c.in_ok-next_place.ensures.next))
    (both rest (put c.args.tree.now.trees tt rest.there)))
    c.then-2.ensures
