use Rattle.std.proofs.Common.{◌≡◌, ◌<◌, ◌∙◌, List, ℕ, length, sym, ap, subst}
use Rattle.task_pool.specs.declared.node.Node.{Node}
use Rattle.task_pool.specs.View.{PoolView}
use Rattle.task_pool.specs.Links.{Rings, rings_of, next_part, follow}
use Rattle.task_pool.proofs.Linking.{links-read}
use Rattle.task_pool.proofs.Following.{IsTold, told-first, told-more, told-all, steps-shorter}
use Rattle.task_pool.proofs.pool.Pool.ready_list.Goals as goal

next-is : (c : goal.After-node-task) → c.node-task.result.in_order.next ≡ (rings_of c.self.inside.chain).next c.loop-task.task
next-is c = ap (λ (node : Node). node.in_order.next) c.node-task.ensures ∙ links-read next_part c.self.inside.chain.first c.self.inside.chain.nodes c.loop-task.task c.loop-task-test.true

pub loop-task-init : goal.loop-task-init
loop-task-init c =
    subst (λ (one : ℕ). IsTold (rings_of c.self.inside.chain) c.new-list.result.items one) (sym c.first-task.ensures)
    (subst (λ (list : List ℕ). IsTold (rings_of c.self.inside.chain) list c.self.inside.chain.first) (sym c.new-list.ensures.items) (told-first (rings_of c.self.inside.chain) c.self.invariant))

pub loop-task-smaller : goal.loop-task-smaller
loop-task-smaller c =
    let R : Rings = rings_of c.self.inside.chain in
    subst (λ (one : ℕ). length (follow R.next (length R.tasks) one) < length (follow R.next (length R.tasks) c.loop-task.task)) (sym (next-is c))
    (steps-shorter R.next (length R.tasks) c.loop-task.task c.loop-task-test.true c.loop-task.invariant.leads)

pub loop-task-preserved : goal.loop-task-preserved
loop-task-preserved c =
    let R : Rings = rings_of c.self.inside.chain in
    subst (λ (list : List ℕ). IsTold R list c.node-task.result.in_order.next) (sym c.in_ok-push.ensures.items)
    (subst (IsTold R _) (sym (next-is c)) (told-more R c.loop-task.list.items c.loop-task.task c.loop-task.invariant c.loop-task-test.true))

pub returns : goal.returns
returns c = told-all (rings_of c.self.inside.chain) c.loop-task.list.items c.loop-task.task c.loop-task.invariant c.loop-task-test.false ∙ ap (λ (seen : PoolView). seen.ready) c.self.view_is
