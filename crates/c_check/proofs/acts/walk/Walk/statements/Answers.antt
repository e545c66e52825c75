use Rattle.std.proofs.Common.{sym, arith}
use Rattle.std.proofs.lemmas.Result.{on_ok_weaker}
use Rattle.c_syntax.specs.language.Tree.{children_of}
use Rattle.c_syntax.specs.language.Numbered.{tree_at}
use Rattle.c_check.proofs.Putting.{both, keep_as, puts_as}
use Rattle.c_check.proofs.Telling.{statements_none, statements_head, statements_child}
use Rattle.c_check.proofs.Weighing.{weighs_child, weight_is}
use Rattle.c_check.proofs.acts.walk.Walk.statements.Goals as goal

pub returns-in_default : goal.returns-in_default
returns-in_default c =
    keep_as _ _ (statements_none (children_of (tree_at c.args.tree.now.trees c.args.node)) c.args.place c.in_default.ensures.child c.args.role) c.requires.there

pub returns-then-is_head : goal.returns-then-is_head
returns-then-is_head c =
    let children = children_of (tree_at c.args.tree.now.trees c.args.node) in
    let next = c.in_ok-next_place.field-0 in
    let tree = tree_at c.args.tree.now.trees c.in-Some.child in
    puts_as
    (sym (statements_head children c.args.place next tree c.in-Some.ensures.child c.in_ok-next_place.ensures.next c.args.role (cc)))
    (omega (arith, weighs_child children c.args.place next tree c.in-Some.ensures.child c.in_ok-next_place.ensures.next))
    (c.in_ok-then.ensures c.args.tree.now.trees c.requires.node c.requires.there)

pub returns : goal.returns
returns c =
    let children = children_of (tree_at c.args.tree.now.trees c.args.node) in
    let next = c.in_ok-next_place.field-0 in
    let tree = tree_at c.args.tree.now.trees c.in-Some.child in
    on_ok_weaker c.then-2.result
    (λ put.
    let rest = c.in_ok-then.ensures c.args.tree.now.trees c.requires.node c.requires.there in
    puts_as
    (sym (statements_child children c.args.place next tree c.in-Some.ensures.child c.in_ok-next_place.ensures.next c.args.role (cc)))
    (omega (arith, weighs_child children c.args.place next tree c.in-Some.ensures.child c.in_ok-next_place.ensures.next, weight_is tree))
    (both rest (put c.args.tree.now.trees (omega (arith, c.in-Some.ensures.before, c.requires.node)) rest.there)))
    c.then-2.ensures
