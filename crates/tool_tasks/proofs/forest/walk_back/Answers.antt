use Rattle.std.proofs.Common.{ℕ, ◌-◌, ◌∷◌, ◌++◌, [], List, append_assoc, sym, ◌∙◌, ap}
use Rattle.tool_tasks.specs.Holding.{walked}
use Rattle.tool_tasks.proofs.forest.walk_back.Goals as goal
use Rattle.tool_tasks.proofs.Walks.{walked_step}

pub loop-left-preserved : goal.loop-left-preserved
loop-left-preserved c =
    ap (λ (items : List ℕ). items ++ walked c.args.links.now (c.loop-left.left - 1) c.in-Some.link.back) c.in_ok-push.ensures.items
    ∙ (append_assoc c.loop-left.chain.items (c.in-Some.link.seq ∷ []) (walked c.args.links.now (c.loop-left.left - 1) c.in-Some.link.back)
    ∙ (ap (λ (rest : List ℕ). c.loop-left.chain.items ++ rest)
    (sym (walked_step c.args.links.now c.loop-left.left c.loop-left.number c.in-Some.link c.loop-left-test.true c.in-Some.ensures))
    ∙ c.loop-left.invariant))
