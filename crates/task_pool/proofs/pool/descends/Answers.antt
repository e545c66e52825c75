use Rattle.std.proofs.Common.{◌≡◌, ◌∙◌, ◌==◌, ℕ, sym, ap}
use Rattle.task_pool.specs.Allowed.{descends}
use Rattle.task_pool.specs.Links.{tasks_of}
use Rattle.task_pool.specs.Walking.{reaches}
use Rattle.task_pool.proofs.Ancestors.{descends-step}
use Rattle.task_pool.proofs.pool.descends.Goals as goal

pub returns : goal.returns
returns c =
    let met : descends (tasks_of c.args.chain.now) c.args.task c.args.from ≡ (c.ancestor_within.result == c.args.from) =
    descends-step (tasks_of c.args.chain.now) c.args.task c.args.from c.requires.order.parents c.requires.made ∙
    (ap (λ (one : ℕ). reaches (tasks_of c.args.chain.now) one c.args.from) (sym c.parent_of.ensures) ∙ c.ancestor_within.ensures.exactly) in
    sym met
