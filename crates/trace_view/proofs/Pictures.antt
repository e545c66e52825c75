-- The lines of the tasks of a forest, one task after the other.
use Rattle.std.proofs.Common.{ℕ, ◌≡◌, ◌+◌, ◌-◌, ◌<◌, ◌≤◌, ◌&&◌, Bool, List, [], ◌∷◌, ◌++◌, length, Some, None, Result, Ok, Err, OnOk, refl, sym, ap, ap₂, ◌∙◌, append_assoc, arith, inl, inr}
use Rattle.std.specs.Prelude.{slice_get, codes, is_ok, if◌then◌else◌}
use Rattle.std.specs.List.{range_with_len}
use Rattle.std.specs.Ordering.{nat_cmp}
use Rattle.std.specs.BTreeSet.{BTreeSet, contains}
use Rattle.std.proofs.lemmas.Bool.Decides.{leb_tells}
use Rattle.std.proofs.lemmas.Grind.{flat_map-append}
use Rattle.std.proofs.lemmas.List.{append-nil, map-id}
use Rattle.std.proofs.lemmas.List.FromFn.{map-range_with_len_more}
use Rattle.std.proofs.lemmas.Option.{slice_get-get_or, slice_get_within}
use Rattle.ompt_calls.specs.declared.event.EventRecord.{EventRecord}
use Rattle.trace_check.specs.Before.{greatest_task}
use Rattle.tool_tasks.specs.declared.forest.Forest.{Forest}
use Rattle.tool_tasks.specs.declared.forest.TaskNode.{TaskNode}
use Rattle.tool_tasks.specs.Charge.{work_of}
use Rattle.tool_tasks.specs.Holding.{HoldsForest}
use Rattle.tool_tasks.specs.Tree.{node_of, tasks_from}
use Rattle.tool_tasks.proofs.Linking.{zero_node}
use Rattle.trace_view.specs.Bold.{HasNumbers}
use Rattle.trace_view.specs.Dot.{box_line, edge_line, head_lines, lines_of_tasks, picture_of, task_lines}

-- The lines of the tasks before this one were added, and all of those are tasks.
pub record HasLines (past : List EventRecord) (numbers old new : List ℕ) (next : ℕ) : Type 0 where
  pub some : 1 ≤ next
  pub within : next ≤ greatest_task past + 1
  pub lines : new ≡ old ++ lines_of_tasks numbers past (range_with_len 1 (next - 1))

range_more : (n : ℕ) → range_with_len 1 (n + 1) ≡ range_with_len 1 n ++ (1 + n) ∷ []
range_more n =
    sym (map-id (range_with_len 1 (n + 1))) ∙ (map-range_with_len_more (λ (k : ℕ). k) 1 n (1 + n) refl
    ∙ ap (λ (list : List ℕ). list ++ (1 + n) ∷ []) (map-id (range_with_len 1 n)))

-- at first there are none
pub no_lines : (past : List EventRecord) (numbers old new : List ℕ) (next : ℕ) → next ≡ 1 → new ≡ old → HasLines past numbers old new next
no_lines past numbers old new next is same = record {
  some = omega (arith, is);
  within = omega (arith, is);
  lines = same ∙ (sym (append-nil old) ∙ ap (λ (n : ℕ). old ++ lines_of_tasks numbers past (range_with_len 1 n)) (let e : 0 ≡ next - 1 = omega (arith, is) in e));
}

-- a task of the forest
task_within : (forest : Forest) (past : List EventRecord) (k : ℕ) (task : TaskNode) → HoldsForest forest past → 1 ≤ k → Some task ≡ node_of k past → k ≤ greatest_task past
task_within forest past k task holds some is =
    let back : k - 1 + 1 ≡ k = omega arith in
    let here : slice_get forest.nodes.items (k - 1) ≡ Some task = holds.nodes (k - 1) ∙ (ap (λ (n : ℕ). node_of n past) back ∙ sym is) in
    let below : k - 1 < length forest.nodes.items = slice_get_within forest.nodes.items (k - 1) task here in
    let count : length forest.nodes.items ≡ greatest_task past = holds.count in
    omega arith

-- the lines of one task more
pub more_lines :
    (forest : Forest) (bold : BTreeSet ℕ) (past : List EventRecord) (numbers old mid new : List ℕ) (k next : ℕ) (task : TaskNode)
    → HoldsForest forest past → HasNumbers bold numbers → Some task ≡ node_of k past → next ≡ k + 1 → HasLines past numbers old mid k
    → new ≡ mid ++ (box_line (contains nat_cmp bold task.identity) task ++ edge_line (contains nat_cmp bold task.parent && contains nat_cmp bold task.identity) task)
    → HasLines past numbers old new next
more_lines forest bold past numbers old mid new k next task holds has is following before added =
    let at : k ≤ greatest_task past = task_within forest past k task holds before.some is in
    let some : 1 ≤ k = before.some in
    record {
      some = omega arith;
      within = omega arith;
      lines = added ∙ (ap₂ (λ (a b : List ℕ). a ++ b) before.lines told ∙ (append_assoc old done (task_lines numbers (node_of k past)) ∙ ap (λ (list : List ℕ). old ++ list) behind));
    }
  where
    done : List ℕ
    done = lines_of_tasks numbers past (range_with_len 1 (k - 1))

    told : box_line (contains nat_cmp bold task.identity) task ++ edge_line (contains nat_cmp bold task.parent && contains nat_cmp bold task.identity) task
        ≡ task_lines numbers (node_of k past)
    told =
        ap₂ (λ (a b : Bool). box_line b task ++ edge_line (a && b) task) (has task.parent) (has task.identity) ∙ ap (task_lines numbers) is

    back : (k - 1) + 1 ≡ next - 1
    back = let some : 1 ≤ k = before.some in omega (arith, following)

    behind : done ++ task_lines numbers (node_of k past) ≡ lines_of_tasks numbers past (range_with_len 1 (next - 1))
    behind =
        let some : 1 ≤ k = before.some in
        let here : 1 + (k - 1) ≡ k = omega arith in
        sym (ap (λ (n : ℕ). lines_of_tasks numbers past (range_with_len 1 n)) (sym back)
        ∙ (ap (lines_of_tasks numbers past) (range_more (k - 1))
        ∙ (flat_map-append (λ (t : ℕ). task_lines numbers (node_of t past)) (range_with_len 1 (k - 1)) ((1 + (k - 1)) ∷ [])
        ∙ (ap (λ (list : List ℕ). done ++ list) (append-nil (task_lines numbers (node_of (1 + (k - 1)) past)))
        ∙ ap (λ (t : ℕ). done ++ task_lines numbers (node_of t past)) here))))

-- where there is no further task, there are the lines of all
pub all_lines :
    (forest : Forest) (past : List EventRecord) (numbers old new : List ℕ) (k : ℕ)
    → HoldsForest forest past → None ≡ node_of k past → HasLines past numbers old new k
    → new ≡ old ++ lines_of_tasks numbers past (tasks_from 1 past)
all_lines forest past numbers old new k holds none before =
    before.lines ∙ ap (λ (n : ℕ). old ++ lines_of_tasks numbers past (range_with_len 1 n)) all
  where
    past_end : (place count : ℕ) → (place < count → ⊥) → count ≤ place
    past_end place count none = elim (leb_tells count place) as (λ _. count ≤ place) [
      | inl past ↦ past.1
      | inr within ↦ absurd (none within.1)
    ]

    beyond : k - 1 < length forest.nodes.items → ⊥
    beyond within =
        let some : 1 ≤ k = before.some in
        let back : k - 1 + 1 ≡ k = omega arith in
        let there : Some _ ≡ None =
        sym (slice_get-get_or forest.nodes.items (k - 1) zero_node within) ∙ (holds.nodes (k - 1) ∙ (ap (λ (n : ℕ). node_of n past) back ∙ sym none)) in
        absurd (cc)

    all : k - 1 ≡ greatest_task past + 1 - 1
    all =
        let some : 1 ≤ k = before.some in
        let near : k ≤ greatest_task past + 1 = before.within in
        let count : length forest.nodes.items ≡ greatest_task past = holds.count in
        let far : length forest.nodes.items ≤ k - 1 = past_end (k - 1) (length forest.nodes.items) beyond in
        omega arith

-- the whole picture: how it begins, the lines of all tasks, and its end
pub drawn :
    (past : List EventRecord) (numbers : List ℕ) (work span : ℕ) (head mid new last : List ℕ) → head ≡ head_lines work span → work ≡ work_of past
    → mid ≡ head ++ lines_of_tasks numbers past (tasks_from 1 past) → new ≡ mid ++ last → last ≡ codes "}" ++ 10 ∷ []
    → new ≡ picture_of past numbers span
drawn past numbers work span head mid new last begins counted middle all ends =
    let first : head ≡ head_lines (work_of past) span = begins ∙ ap (λ (w : ℕ). head_lines w span) counted in
    let both = middle ∙ ap (λ (list : List ℕ). list ++ lines_of_tasks numbers past (tasks_from 1 past)) first in
    all ∙ (ap₂ (λ (a b : List ℕ). a ++ b) both ends
    ∙ sym (append_assoc (head_lines (work_of past) span ++ lines_of_tasks numbers past (tasks_from 1 past)) (codes "}") (10 ∷ [])))

-- ---- texts that are joined from the right and from the left

pub joined_head : (a w b s c d e : List ℕ) → a ++ (w ++ (b ++ (s ++ (c ++ (d ++ e))))) ≡ (((((a ++ w) ++ b) ++ s) ++ c) ++ d) ++ e
joined_head a w b s c d e = simp append_assoc

pub joined_box :
    (i l sp told m w o style p q kind stroke : List ℕ) → told ≡ kind → style ≡ stroke
    → i ++ (l ++ (i ++ (sp ++ (told ++ (m ++ (w ++ (o ++ (style ++ (p ++ q)))))))))
    ≡ (((((((((i ++ l) ++ i) ++ sp) ++ kind) ++ m) ++ w) ++ o) ++ stroke) ++ p) ++ q
joined_box i l sp told m w o style p q kind stroke of_kind of_style = rw (of_kind, of_style) (simp append_assoc)

-- what was added to a text, where there was memory for it
pub extended :
    {E : Type 0} (r : Result (Unit {0}) E) (new old slice line : List ℕ) → new ≡ (if is_ok r then old ++ slice else old) → slice ≡ line
    → OnOk r (new ≡ old ++ line)
extended (Ok done) new old slice line is same = is ∙ ap (λ (list : List ℕ). old ++ list) same
extended (Err e) new old slice line is same = tt
