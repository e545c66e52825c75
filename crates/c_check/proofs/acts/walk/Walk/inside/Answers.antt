use Rattle.std.proofs.Common.{List, ◌++◌, sym, ap, ◌∙◌, arith}
use Rattle.std.proofs.lemmas.Result.{on_ok_weaker}
use Rattle.c_syntax.specs.language.Tree.{children_of}
use Rattle.c_syntax.specs.language.Numbered.{tree_at}
use Rattle.c_check.specs.declared.acts.act.Act.{Act}
use Rattle.c_check.specs.Clauses.{inside_acts}
use Rattle.c_check.specs.Tasks.{from_place}
use Rattle.c_check.proofs.Putting.{both, keep_as, puts_as}
use Rattle.c_check.proofs.Telling.{told_inside, inside_none, inside_child}
use Rattle.c_check.proofs.Weighing.{weighs_child, weighs_clause}
use Rattle.c_check.proofs.acts.walk.Walk.inside.Goals as goal

pub returns-in_default : goal.returns-in_default
returns-in_default c =
    keep_as _ _ (inside_none (children_of (tree_at c.args.tree.now.trees c.args.node)) c.args.place c.in_default.ensures.child) c.requires.there

pub returns-in_default-clause_of : goal.returns-in_default-clause_of
returns-in_default-clause_of c =
    let trees = c.args.tree.now.trees in
    let children = children_of (tree_at trees c.args.node) in
    let next = c.in_ok-next_place.field-0 in
    let tree = tree_at trees c.in-Some.child in
    puts_as
    (ap (λ (told : List Act). told ++ inside_acts (from_place next children)) (ap told_inside c.in_default-clause_of.ensures.clause) ∙ sym (inside_child children c.args.place next tree c.in-Some.ensures.child c.in_ok-next_place.ensures.next))
    (omega (arith, weighs_child children c.args.place next tree c.in-Some.ensures.child c.in_ok-next_place.ensures.next))
    (c.in_ok-then.ensures trees c.requires.node c.requires.there)

pub returns-in-Some-inside_of : goal.returns-in-Some-inside_of
returns-in-Some-inside_of c =
    let trees = c.args.tree.now.trees in
    let children = children_of (tree_at trees c.args.node) in
    let next = c.in_ok-next_place.field-0 in
    let tree = tree_at trees c.in-Some.child in
    on_ok_weaker c.then-in-Some-inside_of.result
    (λ put.
    let rest = c.in_ok-then.ensures trees c.requires.node c.requires.there in
    puts_as
    (ap (λ (told : List Act). told ++ inside_acts (from_place next children)) (c.in-Some-inside_of.ensures.told ∙ ap told_inside c.in-Some-clause_of.ensures.clause) ∙ sym (inside_child children c.args.place next tree c.in-Some.ensures.child c.in_ok-next_place.ensures.next))
    (omega (arith, c.in-Some-inside_of.ensures.task.1, weighs_child children c.args.place next tree c.in-Some.ensures.child c.in_ok-next_place.ensures.next, weighs_clause (tree_at trees c.in-Some-clause_of.clause) tree c.in-Some-clause_of.ensures.clause))
    (both rest (put trees c.in-Some-inside_of.ensures.task.0 rest.there)))
    c.then-in-Some-inside_of.ensures

pub returns-in-None : goal.returns-in-None
returns-in-None c =
    let trees = c.args.tree.now.trees in
    let children = children_of (tree_at trees c.args.node) in
    let next = c.in_ok-next_place.field-0 in
    let tree = tree_at trees c.in-Some.child in
    puts_as
    (ap (λ (told : List Act). told ++ inside_acts (from_place next children)) (c.in-None.ensures.told ∙ ap told_inside c.in-Some-clause_of.ensures.clause) ∙ sym (inside_child children c.args.place next tree c.in-Some.ensures.child c.in_ok-next_place.ensures.next))
    (omega (arith, weighs_child children c.args.place next tree c.in-Some.ensures.child c.in_ok-next_place.ensures.next))
    (c.in_ok-then.ensures trees c.requires.node c.requires.there)
