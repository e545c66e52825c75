use Rattle.std.proofs.Common.{◌≡◌, ◌++◌, ◌∷◌, [], ℕ, List, Option, None, Some, length, reverse, append_assoc, sym, ◌∙◌, ap, subst, ◌<◌}
use Rattle.tool_tasks.specs.declared.forest.TaskNode.{TaskNode}
use Rattle.tool_tasks.specs.Text.{line_of, lines_of, task_line}
use Rattle.tool_tasks.specs.Tree.{node_of}
use Rattle.tool_tasks.proofs.Orders.{at_first, found_within, node_is, passed, pending_order, popped_less, visited, visited_less, weight}
use Rattle.tool_tasks.proofs.text.put_trees.Goals as goal

pub loop-task-init : goal.loop-task-init
loop-task-init c = λ past unbroken are.
    ap (λ (order : List ℕ). c.args.text.now.items ++ lines_of past order)
    (ap (λ (pending : List ℕ). pending_order past (reverse pending)) (c.in_ok-push.ensures.items ∙ ap (λ (front : List ℕ). front ++ 1 ∷ []) c.new-pending.ensures.items)
    ∙ at_first c.args.nodes.now past unbroken are)

pub loop-task-smaller-in-Continue-branch-2 : goal.loop-task-smaller-in-Continue-branch-2
loop-task-smaller-in-Continue-branch-2 c =
    let n : ℕ = length c.args.nodes.now in
    let less = visited_less n c.in-Some.task c.in-Some-node_at.node.next_sibling c.in-Some-node_at.node.first_child c.pop.new.self.items
    (found_within c.args.nodes.now c.in-Some.task c.in-Some-node_at.node c.in-Some-node_at.ensures) in
    subst (λ (before : List ℕ). weight n c.visit.new.pending.items < weight n before) (sym c.in-Some.ensures.items)
    (subst (λ (after : List ℕ). weight n after < weight n (c.pop.new.self.items ++ c.in-Some.task ∷ [])) (sym c.in_ok-visit.ensures.pending) less)

pub loop-task-preserved-in-Continue-branch-2 : goal.loop-task-preserved-in-Continue-branch-2
loop-task-preserved-in-Continue-branch-2 c = λ past unbroken are.
    let is : Some c.in-Some-node_at.node ≡ node_of c.in-Some.task past = c.in-Some-node_at.ensures ∙ node_is c.args.nodes.now past c.in-Some.task unbroken are in
    let rest : List ℕ = pending_order past (reverse c.visit.new.pending.items) in
    let order : pending_order past (reverse c.loop-task.pending.items) ≡ c.in-Some.task ∷ rest =
    ap (λ (pending : List ℕ). pending_order past (reverse pending)) c.in-Some.ensures.items
    ∙ visited past c.in-Some.task c.in-Some-node_at.node c.pop.new.self.items c.visit.new.pending.items unbroken is c.in_ok-visit.ensures.pending in
    ap (λ (front : List ℕ). front ++ lines_of past rest) c.in_ok-visit.ensures.text
    ∙ (append_assoc c.loop-task.text.items (task_line c.in-Some-node_at.node) (lines_of past rest)
    ∙ (ap (λ (node : Option TaskNode). c.loop-task.text.items ++ (line_of node ++ lines_of past rest)) is
    ∙ (ap (λ (order : List ℕ). c.loop-task.text.items ++ lines_of past order) (sym order) ∙ c.loop-task.invariant past unbroken are)))

pub loop-task-smaller : goal.loop-task-smaller
loop-task-smaller c =
    let n : ℕ = length c.args.nodes.now in
    subst (λ (before : List ℕ). weight n c.pop.new.self.items < weight n before) (sym c.in-Some.ensures.items) (popped_less n c.in-Some.task c.pop.new.self.items)

pub loop-task-preserved : goal.loop-task-preserved
loop-task-preserved c = λ past unbroken are.
    let none : None ≡ node_of c.in-Some.task past = c.in_default-node_at.ensures ∙ node_is c.args.nodes.now past c.in-Some.task unbroken are in
    let order : pending_order past (reverse c.loop-task.pending.items) ≡ pending_order past (reverse c.pop.new.self.items) =
    ap (λ (pending : List ℕ). pending_order past (reverse pending)) c.in-Some.ensures.items ∙ passed past c.in-Some.task c.pop.new.self.items none in
    ap (λ (order : List ℕ). c.loop-task.text.items ++ lines_of past order) (sym order) ∙ c.loop-task.invariant past unbroken are
