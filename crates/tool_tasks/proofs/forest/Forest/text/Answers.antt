use Rattle.std.proofs.Common.{◌≡◌, ◌++◌, ℕ, List, length, reverse, sym, ◌∙◌, ap, subst}
use Rattle.ompt_calls.specs.declared.event.EventRecord.{EventRecord}
use Rattle.tool_tasks.specs.declared.forest.TaskNode.{TaskNode}
use Rattle.tool_tasks.specs.Charge.{work_of}
use Rattle.tool_tasks.specs.Holding.{AreNodes}
use Rattle.tool_tasks.specs.Text.{forest_text, lines_of, number_lines, tasks_in_order, tasks_of}
use Rattle.tool_tasks.proofs.Orders.{task_count}
use Rattle.tool_tasks.proofs.forest.Forest.text.Goals as goal

joined : (past : List EventRecord) (text head : List ℕ) (tasks work span : ℕ) → tasks ≡ length (tasks_of past) → work ≡ work_of past
    → head ≡ number_lines tasks work span → text ≡ head ++ lines_of past (tasks_in_order past) → text ≡ forest_text past span
joined past text head tasks work span tasks_are work_is head_is text_is =
    text_is ∙ ap (λ (front : List ℕ). front ++ lines_of past (tasks_in_order past)) (head_is
    ∙ (ap (λ (n : ℕ). number_lines n work span) tasks_are ∙ ap (λ (n : ℕ). number_lines (length (tasks_of past)) n span) work_is))

pub returns : goal.returns
returns c = λ events is.
    let nodes : AreNodes c.args.self.now.nodes.items (reverse events) = record { count = is.holds.count; each = is.holds.nodes } in
    let read : AreNodes c.as_slice-nodes.result.now (reverse events) = subst (λ (all : List TaskNode). AreNodes all (reverse events)) (sym c.as_slice-nodes.ensures.value) nodes in
    record {
      span = c.span.result;
      is_span = c.span.ensures events is;
      text_is = joined (reverse events) c.put_trees.new.text.items c.in_ok-text.text.items (length c.as_slice-nodes.result.now) c.args.self.now.work c.span.result
          (sym (task_count c.as_slice-nodes.result.now (reverse events) read)) is.holds.work c.in_ok-text.ensures (c.in_ok-put_trees.ensures (reverse events) is.unbroken read);
    }
