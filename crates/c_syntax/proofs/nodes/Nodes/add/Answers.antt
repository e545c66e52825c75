use Rattle.std.proofs.Common.{◌≡◌, [], length, ap, ◌∙◌, arith}
use Rattle.std.proofs.lemmas.List.{append-nil}
use Rattle.std.proofs.lemmas.Result.{err_from_is_err_and}
use Rattle.c_syntax.proofs.Table.{AreNodes-longer, AreNodes-added, LiesLast, length-trees, trees-added, trees-longer}
use Rattle.c_syntax.proofs.nodes.Nodes.add.Goals as goal

pub returns-in_err-extend_from_slice-2-clause-err : goal.returns-in_err-extend_from_slice-2-clause-err
returns-in_err-extend_from_slice-2-clause-err c =
    let p = err_from_is_err_and c.from_residual-in_err-extend_from_slice-2.result c.from_residual-in_err-extend_from_slice-2.ensures.1 in
    rw (p.1, c.in_err-extend_from_slice-2.ensures.items, c.in_ok-extend_from_slice.ensures.items, ← append-nil c.self.inside.children.items) (trees-longer _ [] _ _ _ c.self.invariant ∙ c.self.view_is)

pub invariant_of-self-in_err-push : goal.invariant_of-self-in_err-push
invariant_of-self-in_err-push c =
    rw (c.in_err-push.ensures.items, c.in_ok-extend_from_slice-2.ensures.items, c.in_ok-extend_from_slice.ensures.items) (AreNodes-longer _ _ _ _ _ c.self.invariant)

pub returns-in_err-push-clause-err : goal.returns-in_err-push-clause-err
returns-in_err-push-clause-err c =
    let p = err_from_is_err_and c.from_residual-in_err-push.result c.from_residual-in_err-push.ensures.1 in
    rw (p.1, c.in_err-push.ensures.items, c.in_ok-extend_from_slice-2.ensures.items, c.in_ok-extend_from_slice.ensures.items) (trees-longer _ _ _ _ _ c.self.invariant ∙ c.self.view_is)

lies : (c : goal.In_ok-push) → LiesLast c.self.inside.children.items c.args.children.now c.self.inside.texts.items c.args.text.now (record { label = c.args.label; text = record { start = c.len-texts.result; end = c.len-2.result }; children = record { start = c.len-first.result; end = c.len-3.result } })
lies c = record {
  text_start = omega arith;
  text_end = omega (arith, ap length c.in_ok-extend_from_slice.ensures.items);
  children_start = omega arith;
  children_end = omega (arith, ap length c.in_ok-extend_from_slice-2.ensures.items);
}

pub invariant_of-self-2 : goal.invariant_of-self-2
invariant_of-self-2 c =
    let count : length c.args.self.now ≡ length c.self.inside.nodes.items = length-trees _ _ _ _ c.self.view_is in
    rw (c.in_ok-push.ensures.items, c.in_ok-extend_from_slice-2.ensures.items, c.in_ok-extend_from_slice.ensures.items) (AreNodes-added _ _ _ _ _ _ (lies c) c.self.invariant c.requires.number (omega arith) (rw (← count) c.requires.children))

pub returns-clause-added : goal.returns-clause-added
returns-clause-added c =
    rw (c.in_ok-push.ensures.items, c.in_ok-extend_from_slice-2.ensures.items, c.in_ok-extend_from_slice.ensures.items) (trees-added _ _ _ _ _ _ (lies c) _ c.self.view_is c.self.invariant)

pub returns-clause-number : goal.returns-clause-number
returns-clause-number c =
    let count : length c.args.self.now ≡ length c.self.inside.nodes.items = length-trees _ _ _ _ c.self.view_is in
    omega (arith, c.in-Ok.ensures)
