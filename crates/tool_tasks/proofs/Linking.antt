-- One task more with its links.
use Rattle.std.proofs.Common.{◌≡◌, ℕ, suc, ◌+◌, ◌-◌, ◌<◌, ◌≤◌, ◌==◌, ◌⊎◌, Bool, true, false, cond, List, [], ◌∷◌, length, filter, Option, Some, None, refl, sym, ◌∙◌, ap, subst, inl, inr, arith}
use Rattle.std.specs.Prelude.{nat_le, slice_get}
use Rattle.std.specs.List.{range_with_len}
use Rattle.std.proofs.lemmas.Bool.{eqb-true}
use Rattle.std.proofs.lemmas.Bool.Decides.{nat_tests}
use Rattle.std.proofs.lemmas.Option.{slice_get_within}
use Rattle.ompt_calls.specs.declared.event.EventRecord.{EventRecord}
use Rattle.trace_check.specs.Before.{greatest_task}
use Rattle.trace_check.specs.Checking.{Unbroken}
use Rattle.tool_tasks.specs.declared.forest.TaskNode.{TaskNode}
use Rattle.tool_tasks.specs.Charge.{charges_of}
use Rattle.tool_tasks.specs.Holding.{HoldsLinks, HoldsNodes, partly_linked, unlinked, with_child, with_sibling}
use Rattle.tool_tasks.specs.Tree.{Origin, children_from, first_or_zero, has_parent, node_from, node_of, origin_of, sibling_after, tasks_from}
use Rattle.tool_tasks.proofs.Makes.{ParentBelow, parent_below}

-- ---- the children from a task on

pub from_here : (k : ℕ) (past : List EventRecord) → k ≤ greatest_task past → tasks_from k past ≡ k ∷ tasks_from (k + 1) past
from_here k past within =
    let more : greatest_task past + 1 - k ≡ suc (greatest_task past + 1 - (k + 1)) = omega arith in
    ap (λ (n : ℕ). range_with_len k n) more

pub from_past : (k : ℕ) (past : List EventRecord) → greatest_task past < k → tasks_from k past ≡ []
from_past k past beyond = let none : greatest_task past + 1 - k ≡ 0 = omega arith in ap (λ (n : ℕ). range_with_len k n) none

abbrev pub is_child : ℕ → List EventRecord → ℕ → Bool
is_child parent past child = has_parent parent (origin_of child past)

-- a task is the first of them, or isn't among them
pub children_here : (k parent : ℕ) (past : List EventRecord) → k ≤ greatest_task past
    → children_from k parent past ≡ cond (is_child parent past k) (k ∷ children_from (k + 1) parent past) (children_from (k + 1) parent past)
children_here k parent past within = ap (filter (is_child parent past)) (from_here k past within)

first_here : (k parent : ℕ) (past : List EventRecord) → k ≤ greatest_task past
    → first_or_zero (children_from k parent past) ≡ cond (is_child parent past k) k (first_or_zero (children_from (k + 1) parent past))
first_here k parent past within = ap first_or_zero (children_here k parent past within) ∙ by-test (is_child parent past k)
  where
    by-test : (b : Bool) → first_or_zero (cond b (k ∷ children_from (k + 1) parent past) (children_from (k + 1) parent past)) ≡ cond b k (first_or_zero (children_from (k + 1) parent past))
    by-test true = refl
    by-test false = refl

first_past : (k parent : ℕ) (past : List EventRecord) → greatest_task past < k → first_or_zero (children_from k parent past) ≡ 0
first_past k parent past beyond = ap (λ (all : List ℕ). first_or_zero (filter (is_child parent past) all)) (from_past k past beyond)

-- ---- no link is set, and all are

pub started : (nodes : List TaskNode) (past : List EventRecord) → HoldsNodes nodes past past → HoldsLinks nodes past (length nodes)
started nodes past holds = record {
  count = holds.count;
  each = λ place. by-place place (slice_get nodes place) refl;
}
  where
    same : (place : ℕ) (origin : Origin) → place < length nodes
        → unlinked (place + 1) (charges_of (place + 1) past) (Some origin) ≡ partly_linked (length nodes) (place + 1) (charges_of (place + 1) past) past (Some origin)
    same place origin within =
        let e : length nodes ≡ greatest_task past = holds.count in
        let up : nat_le (place + 1) (length nodes) ≡ true = grind (arith, nat_tests, within) in
        rw (first_past (length nodes + 1) (place + 1) past (omega (arith, e)), up) refl

    by-origin : (place : ℕ) (origin : Option Origin) → (place < length nodes) ⊎ (origin ≡ None)
        → unlinked (place + 1) (charges_of (place + 1) past) origin ≡ partly_linked (length nodes) (place + 1) (charges_of (place + 1) past) past origin
    by-origin place None where_ = refl
    by-origin place (Some origin) (inl within) = same place origin within
    by-origin place (Some origin) (inr none) = absurd (cc)

    unmade : (place : ℕ) (origin : Option Origin) → unlinked (place + 1) (charges_of (place + 1) past) origin ≡ None → origin ≡ None
    unmade place None is = refl
    unmade place (Some origin) is = absurd (cc)

    by-place : (place : ℕ) (node : Option TaskNode) → slice_get nodes place ≡ node
        → slice_get nodes place ≡ partly_linked (length nodes) (place + 1) (charges_of (place + 1) past) past (origin_of (place + 1) past)
    by-place place None is = holds.each place ∙ by-origin place (origin_of (place + 1) past) (inr (unmade place (origin_of (place + 1) past) (sym (holds.each place) ∙ is)))
    by-place place (Some node) is = holds.each place ∙ by-origin place (origin_of (place + 1) past) (inl (slice_get_within nodes place node is))

pub linked : (nodes : List TaskNode) (past : List EventRecord) → HoldsLinks nodes past 0 → (place : ℕ) → slice_get nodes place ≡ node_of (place + 1) past
linked nodes past holds place = holds.each place ∙ by-origin (origin_of (place + 1) past)
  where
    by-origin : (origin : Option Origin) → partly_linked 0 (place + 1) (charges_of (place + 1) past) past origin ≡ node_from (place + 1) past origin
    by-origin None = refl
    by-origin (Some origin) = let up : nat_le (place + 1) 0 ≡ false = grind (arith, nat_tests) in rw up refl

-- ---- a node among the links so far

abbrev pub zero_node : TaskNode
zero_node = record { identity = 0; flags = 0; events = 0; parent = 0; first_child = 0; next_sibling = 0 }

-- the node that there is
abbrev or_node : Option TaskNode → TaskNode
or_node None = zero_node
or_node (Some node) = node

record IsLinked (node : TaskNode) (k rest : ℕ) (past : List EventRecord) : Type 0 where
  origin : Origin
  origin_is : origin_of k past ≡ Some origin
  identity_is : node.identity ≡ k
  parent_is : node.parent ≡ origin.parent
  first_is : node.first_child ≡ first_or_zero (children_from (rest + 1) k past)

of_node : (nodes : List TaskNode) (past : List EventRecord) (rest place : ℕ) (node : TaskNode)
    → HoldsLinks nodes past rest → slice_get nodes place ≡ Some node → IsLinked node (place + 1) rest past
of_node nodes past rest place node holds is =
    by-origin (origin_of (place + 1) past) refl (sym (holds.each place) ∙ is)
  where
    by-origin : (origin : Option Origin) → origin_of (place + 1) past ≡ origin → partly_linked rest (place + 1) (charges_of (place + 1) past) past origin ≡ Some node
        → IsLinked node (place + 1) rest past
    by-origin None origin_is same = absurd (cc)
    by-origin (Some origin) origin_is same = record {
      origin = origin;
      origin_is = origin_is;
      identity_is = ap (λ (found : Option TaskNode). (or_node found).identity) (sym same);
      parent_is = ap (λ (found : Option TaskNode). (or_node found).parent) (sym same);
      first_is = ap (λ (found : Option TaskNode). (or_node found).first_child) (sym same);
    }

-- its parent is among the nodes
pub parent_there : (nodes : List TaskNode) (past : List EventRecord) (rest place : ℕ) (node : TaskNode)
    → Unbroken past → HoldsLinks nodes past rest → slice_get nodes place ≡ Some node → node.parent ≤ length nodes
parent_there nodes past rest place node unbroken holds is =
    let linked : IsLinked node (place + 1) rest past = of_node nodes past rest place node holds is in
    let below : linked.origin.parent ≤ greatest_task past = subst (λ (origin : Option Origin). ParentBelow (greatest_task past) origin) linked.origin_is (parent_below (place + 1) past unbroken) in
    let same : node.parent ≡ linked.origin.parent = linked.parent_is in
    let count : length nodes ≡ greatest_task past = holds.count in
    omega arith

-- ---- a task goes before the children of its parent

with_links : (b c : Bool) (child sibling : ℕ) (node : TaskNode)
    → with_child b child (with_sibling c sibling (Some node))
    ≡ Some (record node { first_child = cond b child node.first_child; next_sibling = cond c sibling node.next_sibling })
with_links true true child sibling node = refl
with_links true false child sibling node = refl
with_links false true child sibling node = refl
with_links false false child sibling node = refl

with_none : (b c : Bool) (child sibling : ℕ) → with_child b child (with_sibling c sibling None) ≡ None
with_none true true child sibling = refl
with_none true false child sibling = refl
with_none false true child sibling = refl
with_none false false child sibling = refl

le_still : (other place : ℕ) → (other == place) ≡ false → nat_le (other + 1) place ≡ nat_le (other + 1) (place + 1)
le_still other place apart = grind (arith, nat_tests)

le_self : (place : ℕ) → nat_le (place + 1) place ≡ false
le_self place = grind (arith, nat_tests)

le_here : (n : ℕ) → nat_le (n + 1) (n + 1) ≡ true
le_here n = grind (arith, nat_tests)

nonzero : (n : ℕ) → (n + 1 == 0) ≡ false
nonzero n = grind (arith, nat_tests)

pub link_one : (old new : List TaskNode) (past : List EventRecord) (place above : ℕ) (node parent : TaskNode)
    → slice_get old place ≡ Some node → slice_get old above ≡ Some parent → node.parent ≡ above + 1 → place < length old → length new ≡ length old
    → ((other : ℕ) → slice_get new other ≡ with_child (other == above) node.identity (with_sibling (other == place) parent.first_child (slice_get old other)))
    → HoldsLinks old past (place + 1) → HoldsLinks new past place
link_one old new past place above node parent node_at parent_at above_is within same each holds = record {
  count = same ∙ holds.count;
  each = λ other. each other ∙ (ap (λ (found : Option TaskNode). with_child (other == above) node.identity (with_sibling (other == place) parent.first_child found)) (holds.each other)
      ∙ by-origin other (origin_of (other + 1) past) refl);
}
  where
    first : (other : ℕ) → first_or_zero (children_from (place + 1) (other + 1) past)
        ≡ cond (other == above) node.identity (first_or_zero (children_from (place + 1 + 1) (other + 1) past))
    first other =
        let made : IsLinked node (place + 1) (place + 1) past = of_node old past (place + 1) place node holds node_at in
        let count : length old ≡ greatest_task past = holds.count in
        let is : is_child (other + 1) past (place + 1) ≡ (other == above) =
        ap (has_parent (other + 1)) made.origin_is ∙ (ap (λ (n : ℕ). n == other + 1) (sym made.parent_is ∙ above_is) ∙ shifted other) in
        first_here (place + 1) (other + 1) past (omega arith)
        ∙ (ap (λ (b : Bool). cond b (place + 1) (first_or_zero (children_from (place + 1 + 1) (other + 1) past))) is
        ∙ ap (λ (n : ℕ). cond (other == above) n (first_or_zero (children_from (place + 1 + 1) (other + 1) past))) (sym made.identity_is))
      where
        shifted : (m : ℕ) → (above + 1 == m + 1) ≡ (m == above)
        shifted m = grind (arith, nat_tests)

    next : (other : ℕ) (origin : Origin) → origin_of (other + 1) past ≡ Some origin
        → cond (nat_le (other + 1) place) 0 (sibling_after (other + 1) origin.parent past)
        ≡ cond (other == place) parent.first_child (cond (nat_le (other + 1) (place + 1)) 0 (sibling_after (other + 1) origin.parent past))
    next other origin origin_is = by-test (other == place) refl
      where
        by-test : (b : Bool) → (other == place) ≡ b → cond (nat_le (other + 1) place) 0 (sibling_after (other + 1) origin.parent past)
            ≡ cond b parent.first_child (cond (nat_le (other + 1) (place + 1)) 0 (sibling_after (other + 1) origin.parent past))
        by-test true is =
            let made : IsLinked node (place + 1) (place + 1) past = of_node old past (place + 1) place node holds node_at in
            let upper : IsLinked parent (above + 1) (place + 1) past = of_node old past (place + 1) above parent holds parent_at in
            let at : other ≡ place = eqb-true other place is in
            let same_origin : Some origin ≡ Some made.origin = sym origin_is ∙ (ap (λ (n : ℕ). origin_of (n + 1) past) at ∙ made.origin_is) in
            let parent_of : origin.parent ≡ above + 1 = (let e : origin ≡ made.origin = cc in ap (λ (o : Origin). o.parent) e ∙ (sym made.parent_is ∙ above_is)) in
            rw (at, le_self place, parent_of, nonzero above, upper.first_is) refl
        by-test false is = rw (le_still other place is) refl

    by-origin : (other : ℕ) (origin : Option Origin) → origin_of (other + 1) past ≡ origin
        → with_child (other == above) node.identity (with_sibling (other == place) parent.first_child (partly_linked (place + 1) (other + 1) (charges_of (other + 1) past) past origin))
        ≡ partly_linked place (other + 1) (charges_of (other + 1) past) past origin
    by-origin other None is = with_none (other == above) (other == place) node.identity parent.first_child
    by-origin other (Some origin) is = rw (with_links, first other, next other origin is) refl

-- the initial task goes before none
pub link_none : (nodes : List TaskNode) (past : List EventRecord) (place : ℕ) (node : TaskNode)
    → slice_get nodes place ≡ Some node → node.parent ≡ 0 → place < length nodes → HoldsLinks nodes past (place + 1) → HoldsLinks nodes past place
link_none nodes past place node node_at no_parent within holds = record {
  count = holds.count;
  each = λ other. holds.each other ∙ by-origin other (origin_of (other + 1) past) refl;
}
  where
    first : (other : ℕ) → first_or_zero (children_from (place + 1) (other + 1) past) ≡ first_or_zero (children_from (place + 1 + 1) (other + 1) past)
    first other =
        let made : IsLinked node (place + 1) (place + 1) past = of_node nodes past (place + 1) place node holds node_at in
        let count : length nodes ≡ greatest_task past = holds.count in
        let is : is_child (other + 1) past (place + 1) ≡ false = ap (has_parent (other + 1)) made.origin_is ∙ (ap (λ (n : ℕ). n == other + 1) (sym made.parent_is ∙ no_parent) ∙ apart other) in
        first_here (place + 1) (other + 1) past (omega arith)
        ∙ ap (λ (b : Bool). cond b (place + 1) (first_or_zero (children_from (place + 1 + 1) (other + 1) past))) is
      where
        apart : (m : ℕ) → (0 == m + 1) ≡ false
        apart m = grind (arith, nat_tests)

    next : (other : ℕ) (origin : Origin) → origin_of (other + 1) past ≡ Some origin
        → cond (nat_le (other + 1) (place + 1)) 0 (sibling_after (other + 1) origin.parent past) ≡ cond (nat_le (other + 1) place) 0 (sibling_after (other + 1) origin.parent past)
    next other origin origin_is = by-test (other == place) refl
      where
        by-test : (b : Bool) → (other == place) ≡ b
            → cond (nat_le (other + 1) (place + 1)) 0 (sibling_after (other + 1) origin.parent past) ≡ cond (nat_le (other + 1) place) 0 (sibling_after (other + 1) origin.parent past)
        by-test true is =
            let made : IsLinked node (place + 1) (place + 1) past = of_node nodes past (place + 1) place node holds node_at in
            let at : other ≡ place = eqb-true other place is in
            let same_origin : Some origin ≡ Some made.origin = sym origin_is ∙ (ap (λ (n : ℕ). origin_of (n + 1) past) at ∙ made.origin_is) in
            let parent_of : origin.parent ≡ 0 = (let e : origin ≡ made.origin = cc in ap (λ (o : Origin). o.parent) e ∙ (sym made.parent_is ∙ no_parent)) in
            rw (at, le_self place, parent_of, le_here place) refl
        by-test false is = rw (le_still other place is) refl

    by-origin : (other : ℕ) (origin : Option Origin) → origin_of (other + 1) past ≡ origin
        → partly_linked (place + 1) (other + 1) (charges_of (other + 1) past) past origin ≡ partly_linked place (other + 1) (charges_of (other + 1) past) past origin
    by-origin other None is = refl
    by-origin other (Some origin) is = rw (first other, next other origin is) refl
