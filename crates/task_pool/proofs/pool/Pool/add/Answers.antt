use Rattle.std.proofs.Common.{◌≢◌, ◌∙◌, length, sym, ap, subst, arith}
use Rattle.std.proofs.lemmas.List.{length-map}
use Rattle.task_pool.specs.declared.task.TheConstants.{TASK_LIMIT}
use Rattle.task_pool.specs.declared.pool.Pool.TheInside.{Inside}
use Rattle.task_pool.specs.Tasks.{MayBeParent}
use Rattle.task_pool.specs.View.{PoolView, HasRoom, with_added}
use Rattle.task_pool.specs.Chain.{ChainView}
use Rattle.task_pool.specs.Links.{pool_view, task_of}
use Rattle.task_pool.proofs.Pooling.{Shows, shows-added, shows-explicit}
use Rattle.task_pool.proofs.pool.Pool.add.Goals as goal
use Rattle.task_pool.proofs.pool.Pool.add.Goals.{then-is_explicit, else-is_explicit}

shown : (c : goal.After-len-2) → Shows c.if-is_explicit.self-inside.chain (with_added (pool_view c.self.inside.chain) c.args.parent c.args.region c.args.kind)
shown c =
    let C : ChainView = c.self.inside.chain in
    let few : length (pool_view C).tasks ≢ TASK_LIMIT = λ full. omega (arith, length-map C.nodes task_of) in
    let room : HasRoom (pool_view C) c.args.region = subst (λ (seen : PoolView). HasRoom seen c.args.region) (sym c.self.view_is) c.requires.room in
    let parent : MayBeParent (pool_view C).tasks c.args.parent = subst (λ (seen : PoolView). MayBeParent seen.tasks c.args.parent) (sym c.self.view_is) c.requires.parent in
    elim c.if-is_explicit.branch [
      | then-is_explicit w ↦ shows-explicit C c.push.new.self c.if-is_explicit.self-inside.chain c.args.parent c.args.region c.args.kind c.self.invariant few room parent
          (sym c.is_explicit.ensures ∙ w.if-is_explicit.true) c.push.ensures (ap (λ (inside : Inside). inside.chain) w.self-inside-is ∙ w.count_up.ensures)
      | else-is_explicit w ↦ shows-added C c.if-is_explicit.self-inside.chain c.args.parent c.args.region c.args.kind c.self.invariant few room parent
          (sym c.is_explicit.ensures ∙ w.if-is_explicit.false) (ap (λ (inside : Inside). inside.chain) w.self-inside-is ∙ c.push.ensures)
    ]

pub invariant_of-self : goal.invariant_of-self
invariant_of-self c = (shown c).linked

pub returns-clause-added : goal.returns-clause-added
returns-clause-added c = (shown c).view ∙ ap (λ (seen : PoolView). with_added seen c.args.parent c.args.region c.args.kind) c.self.view_is
