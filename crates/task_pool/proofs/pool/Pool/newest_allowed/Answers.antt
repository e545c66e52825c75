use Rattle.std.proofs.Common.{◌≡◌, ◌<◌, ◌∙◌, ℕ, List, Option, length, sym, ap, subst}
use Rattle.task_pool.specs.declared.node.Node.{Node}
use Rattle.task_pool.specs.declared.node.RegionTasks.{RegionTasks}
use Rattle.task_pool.specs.View.{PoolView}
use Rattle.task_pool.specs.Allowed.{newest_allowed}
use Rattle.task_pool.specs.Links.{Rings, rings_of, of_region, last_part, previous_in_part, follow, ready_of, view_of_rings}
use Rattle.task_pool.proofs.Linking.{links-read}
use Rattle.task_pool.proofs.Following.{GoesBack, goes-back, goes-further, goes-found, goes-nowhere, steps-shorter}
use Rattle.task_pool.proofs.pool.Pool.newest_allowed.Goals as goal

pub loop-task-init : goal.loop-task-init
loop-task-init c = subst (GoesBack (rings_of c.self.inside.chain) c.args.region c.args.held.now) (sym (ap (λ (region : RegionTasks). region.last_ready) c.region-task.ensures)) (goes-back (rings_of c.self.inside.chain) c.args.region c.args.held.now c.self.invariant)

previous-is : (c : goal.After-node-task) → c.node-task.result.in_region.previous ≡ (rings_of c.self.inside.chain).previous_in c.args.region c.loop-task.task
previous-is c = ap (λ (node : Node). node.in_region.previous) c.node-task.ensures ∙ links-read previous_in_part (of_region last_part c.self.inside.chain.regions c.args.region) c.self.inside.chain.nodes c.loop-task.task c.loop-task-test.true

pub loop-task-smaller : goal.loop-task-smaller
loop-task-smaller c =
    let R : Rings = rings_of c.self.inside.chain in
    let link : ℕ → ℕ = R.previous_in c.args.region in
    subst (λ (one : ℕ). length (follow link (length R.tasks) one) < length (follow link (length R.tasks) c.loop-task.task)) (sym (previous-is c))
    (steps-shorter link (length R.tasks) c.loop-task.task c.loop-task-test.true c.loop-task.invariant.leads)

pub loop-task-preserved : goal.loop-task-preserved
loop-task-preserved c =
    subst (GoesBack (rings_of c.self.inside.chain) c.args.region c.args.held.now) (sym (previous-is c))
    (goes-further (rings_of c.self.inside.chain) c.args.region c.args.held.now c.loop-task.task c.loop-task.invariant c.loop-task-test.true (sym c.descends_from_all.ensures ∙ c.if-descends_from_all.false))

seen-newest : (seen : PoolView) (R : Rings) (region : ℕ) (held : List ℕ) (answer : Option ℕ) → view_of_rings R ≡ seen → newest_allowed R.tasks (ready_of R) region held ≡ answer → answer ≡ newest_allowed seen.tasks seen.ready region held
seen-newest seen R region held answer is newest = sym newest ∙ ap (λ (one : PoolView). newest_allowed one.tasks one.ready region held) is

pub returns-then-descends_from_all : goal.returns-then-descends_from_all
returns-then-descends_from_all c = seen-newest c.args.self.now (rings_of c.self.inside.chain) c.args.region c.args.held.now _ c.self.view_is
    (goes-found (rings_of c.self.inside.chain) c.args.region c.args.held.now c.loop-task.task c.loop-task.invariant c.loop-task-test.true (sym c.descends_from_all.ensures ∙ c.if-descends_from_all.true))

pub returns : goal.returns
returns c = seen-newest c.args.self.now (rings_of c.self.inside.chain) c.args.region c.args.held.now _ c.self.view_is
    (goes-nowhere (rings_of c.self.inside.chain) c.args.region c.args.held.now c.loop-task.task c.loop-task.invariant c.loop-task-test.false)
