use Rattle.std.proofs.Common.{◌≡◌, refl, ◌∙◌, append_assoc, arith}
use Rattle.std.proofs.lemmas.Result.{on_ok_weaker}
use Rattle.c_syntax.specs.language.Tree.{children_of}
use Rattle.c_syntax.specs.language.Numbered.{tree_at}
use Rattle.c_check.specs.Statements.{statement_role}
use Rattle.c_check.specs.Tasks.{from_place}
use Rattle.c_check.proofs.Parts.{shared_role}
use Rattle.c_check.proofs.Putting.{both, puts_as}
use Rattle.c_check.proofs.acts.walk.Walk.construct.Goals as goal

pub returns : goal.returns
unfolding from_place
returns c =
    let trees = c.args.tree.now.trees in
    let children = children_of (tree_at trees c.args.node) in
    let role : c.role_with.result ≡ statement_role c.args.directive children =
    c.role_with.ensures ∙ shared_role c.args.directive children c.shared_loop_name-name.result c.shared_loop_name-name.ensures in
    on_ok_weaker c.then-5.result
    (λ put.
    let leave = c.in_ok-then.ensures trees tt c.requires.there in
    let statements = c.in_ok-then-2.ensures trees c.requires.node leave.there in
    let odd = c.in_ok-odd_loop.ensures trees statements.there in
    let inside = c.in_ok-then-3.ensures trees c.requires.node odd.there in
    let enter = c.in_ok-then-4.ensures trees tt inside.there in
    puts_as
    (rw (role, c.in_ok-odd.ensures, c.spot.ensures, c.critical_name.ensures) (simp append_assoc refl))
    (omega arith)
    (both (both (both (both (both leave statements) odd) inside) enter) (put trees c.requires.node enter.there)))
    c.then-5.ensures
