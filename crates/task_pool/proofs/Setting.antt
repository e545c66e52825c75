-- The calls that change one link, a condition or a count, as changes of the links seen as functions.
use Rattle.std.proofs.Common.{◌≡◌, ◌≢◌, ℕ, ◌-◌, ◌<◌, ◌≤◌, ◌∙◌, eqb, cond, List, length, map, slice_index_or, slice_set, refl, sym, ap, subst, inl, inr, arith}
use Rattle.std.proofs.lemmas.Bool.{cases_eq, cases_lt, cond-true, cond-false, eq-eqb, ne_eqb}
use Rattle.std.proofs.lemmas.List.{length-map, get_or-set_same, get_or-set_other, length-set, map-set, get_or_past}
use Rattle.std.proofs.Math.Seq.{map-set_same}
use Rattle.std.proofs.Math.ListN.{get_or-map}
use Rattle.std.proofs.Math.Path.{fun_ext}
use Rattle.task_pool.specs.declared.task.Task.{Task}
use Rattle.task_pool.specs.declared.task.Condition.{Condition}
use Rattle.task_pool.specs.declared.node.Links.{Links}
use Rattle.task_pool.specs.declared.node.Node.{Node}
use Rattle.task_pool.specs.declared.node.RegionTasks.{RegionTasks}
use Rattle.task_pool.specs.Tasks.{with_condition}
use Rattle.task_pool.specs.Chain.{ChainView, region_at, no_node, no_region, links_set, next_set, previous_set, next_in_region_set, previous_in_region_set, condition_set, children_set, unfinished_set}
use Rattle.task_pool.specs.Links.{Rings, of_node, of_region, task_of, children_part, next_part, previous_part, next_in_part, previous_in_part, first_part, last_part, unfinished_part, rings_of, put, put_in}

pub at-same : {X : Type 0} (a b : ℕ) (x y : X) → a ≡ b → cond (eqb a b) x y ≡ x
at-same a b x y same = cond-true (eqb a b) x y (eq-eqb a b same)

pub at-other : {X : Type 0} (a b : ℕ) (x y : X) → a ≢ b → cond (eqb a b) x y ≡ y
at-other a b x y apart = cond-false (eqb a b) x y (ne_eqb a b apart)

pub put-same : (link : ℕ → ℕ) (at other task : ℕ) → task ≡ at → put link at other task ≡ other
unfolding put
put-same link at other task same = at-same task at other (link task) same

pub put-other : (link : ℕ → ℕ) (at other task : ℕ) → task ≢ at → put link at other task ≡ link task
unfolding put
put-other link at other task apart = at-other task at other (link task) apart

pub rings_equal : (R S : Rings) → R.tasks ≡ S.tasks → R.regions ≡ S.regions → R.room ≡ S.room → R.children ≡ S.children → R.unfinished ≡ S.unfinished → R.next ≡ S.next → R.previous ≡ S.previous → R.next_in ≡ S.next_in → R.previous_in ≡ S.previous_in → R ≡ S
rings_equal R S a b c d e f g h k = λ i. record { tasks = a i; regions = b i; room = c i; children = d i; unfinished = e i; next = f i; previous = g i; next_in = h i; previous_in = k i }

-- the orders of all regions, by what their ends are
abbrev pub lifted : (Node → ℕ) → List Node → (ℕ → ℕ) → ℕ → ℕ → ℕ
lifted part nodes ends region = of_node part (ends region) nodes

-- a node whose part is as it was
of_node-same : (part : Node → ℕ) (ending : ℕ) (nodes : List Node) (task : ℕ) (node : Node) → 1 ≤ task → task ≤ length nodes → part node ≡ part (slice_index_or nodes (task - 1) no_node) → of_node part ending (slice_set nodes (task - 1) node) ≡ of_node part ending nodes
of_node-same part ending nodes task node above within same = fun_ext (λ t. elim (cases_eq t 0) [
  | inl none ↦ at-same t 0 _ _ none ∙ sym (at-same t 0 _ _ none)
  | inr some ↦ elim (cases_eq t task) [
    | inl here ↦
        subst (λ (one : ℕ). of_node part ending (slice_set nodes (task - 1) node) one ≡ of_node part ending nodes one) (sym here)
        (ap (cond (eqb task 0) ending) (ap part (get_or-set_same nodes (task - 1) node no_node (omega arith)) ∙ same))
    | inr apart ↦
        let other : t - 1 ≢ task - 1 = λ one. apart (omega arith) in
        ap (cond (eqb t 0) ending) (ap part (get_or-set_other nodes (task - 1) (t - 1) node no_node other))
  ]
])

-- a node whose part has changed
of_node-put : (part : Node → ℕ) (ending : ℕ) (nodes : List Node) (task : ℕ) (node : Node) → 1 ≤ task → task ≤ length nodes → of_node part ending (slice_set nodes (task - 1) node) ≡ put (of_node part ending nodes) task (part node)
of_node-put part ending nodes task node above within = fun_ext (λ t. elim (cases_eq t task) [
  | inl here ↦
      let some : task ≢ 0 = λ one. omega arith in
      subst (λ (one : ℕ). of_node part ending (slice_set nodes (task - 1) node) one ≡ put (of_node part ending nodes) task (part node) one) (sym here)
      (at-other task 0 _ _ some ∙ (ap part (get_or-set_same nodes (task - 1) node no_node (omega arith)) ∙ sym (put-same (of_node part ending nodes) task (part node) task refl)))
  | inr apart ↦ elim (cases_eq t 0) [
    | inl none ↦ at-same t 0 _ _ none ∙ (sym (at-same t 0 _ _ none) ∙ sym (put-other (of_node part ending nodes) task (part node) t apart))
    | inr some ↦
        let other : t - 1 ≢ task - 1 = λ one. apart (omega arith) in
        ap (cond (eqb t 0) ending) (ap part (get_or-set_other nodes (task - 1) (t - 1) node no_node other)) ∙ sym (put-other (of_node part ending nodes) task (part node) t apart)
  ]
])

-- an end that has changed
of_node-ending : (part : Node → ℕ) (ending other : ℕ) (nodes : List Node) → of_node part other nodes ≡ put (of_node part ending nodes) 0 other
of_node-ending part ending other nodes = fun_ext (λ t. elim (cases_eq t 0) [
  | inl none ↦ at-same t 0 _ _ none ∙ sym (put-same (of_node part ending nodes) 0 other t none)
  | inr some ↦ at-other t 0 _ _ some ∙ (sym (at-other t 0 _ _ some) ∙ sym (put-other (of_node part ending nodes) 0 other t some))
])

of_region-same : (part : RegionTasks → ℕ) (regions : List RegionTasks) (region : ℕ) (changed : RegionTasks) → part changed ≡ part (slice_index_or regions region no_region) → of_region part (slice_set regions region changed) ≡ of_region part regions
of_region-same part regions region changed same = fun_ext (λ r. elim (cases_eq r region) [
  | inl here ↦ subst (λ (one : ℕ). of_region part (slice_set regions region changed) one ≡ of_region part regions one) (sym here) (elim (cases_lt region (length regions)) [
    | inl within ↦ ap part (get_or-set_same regions region changed no_region within) ∙ same
    | inr past ↦ ap part (get_or_past (slice_set regions region changed) region no_region (omega (arith, length-set regions region changed)) ∙ sym (get_or_past regions region no_region past))
  ])
  | inr apart ↦ ap part (get_or-set_other regions region r changed no_region apart)
])

of_region-put : (part : RegionTasks → ℕ) (regions : List RegionTasks) (region : ℕ) (changed : RegionTasks) → region < length regions → of_region part (slice_set regions region changed) ≡ put (of_region part regions) region (part changed)
of_region-put part regions region changed within = fun_ext (λ r. elim (cases_eq r region) [
  | inl here ↦ subst (λ (one : ℕ). of_region part (slice_set regions region changed) one ≡ put (of_region part regions) region (part changed) one) (sym here) (ap part (get_or-set_same regions region changed no_region within) ∙ sym (put-same (of_region part regions) region (part changed) region refl))
  | inr apart ↦ ap part (get_or-set_other regions region r changed no_region apart) ∙ sym (put-other (of_region part regions) region (part changed) r apart)
])

-- in the orders of regions: an end of one of them, or a task
pub put_in-end : (region : ℕ) (links : ℕ → ℕ → ℕ) (other r : ℕ) → (r ≡ region → put (links r) 0 other ≡ put_in region links 0 other r) × (r ≢ region → links r ≡ put_in region links 0 other r)
unfolding put put_in
put_in-end region links other r = (
  λ same. fun_ext (λ t. rw (eq-eqb r region same) (elim (cases_eq t 0) [
    | inl none ↦ rw (eq-eqb t 0 none) refl
    | inr some ↦ rw (ne_eqb t 0 some) refl
  ])),
  λ apart. fun_ext (λ t. rw (ne_eqb r region apart) (elim (cases_eq t 0) [
    | inl none ↦ rw (eq-eqb t 0 none) refl
    | inr some ↦ rw (ne_eqb t 0 some) refl
  ])),
)

pub put_in-task : (region : ℕ) (links : ℕ → ℕ → ℕ) (task other r : ℕ) → task ≢ 0 → put (links r) task other ≡ put_in region links task other r
unfolding put put_in
put_in-task region links task other r some = fun_ext (λ t. elim (cases_eq t task) [
  | inl here ↦ rw (eq-eqb t task here, ne_eqb task 0 some) refl
  | inr apart ↦ rw (ne_eqb t task apart) refl
])

-- ends of the order
next-end : (C : ChainView) (other : ℕ) → rings_of (next_set C 0 other) ≡ record (rings_of C) { next = put (rings_of C).next 0 other }
next-end C other = rings_equal _ _ refl refl refl refl refl (of_node-ending next_part C.first other C.nodes) refl refl refl

previous-end : (C : ChainView) (other : ℕ) → rings_of (previous_set C 0 other) ≡ record (rings_of C) { previous = put (rings_of C).previous 0 other }
previous-end C other = rings_equal _ _ refl refl refl refl refl refl (of_node-ending previous_part C.last other C.nodes) refl refl

-- ends of the order of a region
in_region-end : (part : Node → ℕ) (ends : RegionTasks → ℕ) (nodes : List Node) (regions : List RegionTasks) (region other : ℕ) (changed : RegionTasks) → region < length regions → ends changed ≡ other → (λ (r : ℕ). of_node part (of_region ends (slice_set regions region changed) r) nodes) ≡ put_in region (λ (r : ℕ). of_node part (of_region ends regions r) nodes) 0 other
in_region-end part ends nodes regions region other changed within is = fun_ext (λ r.
    ap (λ (f : ℕ → ℕ). of_node part (f r) nodes) (of_region-put ends regions region changed within) ∙
    (elim (cases_eq r region) [
      | inl same ↦
          ap (λ (one : ℕ). of_node part one nodes) (put-same (of_region ends regions) region (ends changed) r same ∙ is) ∙
          (of_node-ending part (of_region ends regions r) other nodes ∙ (put_in-end region (λ (r : ℕ). of_node part (of_region ends regions r) nodes) other r).0 same)
      | inr apart ↦
          ap (λ (one : ℕ). of_node part one nodes) (put-other (of_region ends regions) region (ends changed) r apart) ∙
          (put_in-end region (λ (r : ℕ). of_node part (of_region ends regions r) nodes) other r).1 apart
    ]))

next_in-end : (C : ChainView) (region other : ℕ) → region < length C.regions → rings_of (next_in_region_set C region 0 other) ≡ record (rings_of C) { next_in = put_in region (rings_of C).next_in 0 other }
next_in-end C region other within =
    let changed : RegionTasks = record (region_at C.regions region) { first_ready = other } in
    rings_equal _ _ refl (length-set C.regions region changed) refl refl (of_region-same unfinished_part C.regions region changed refl) refl refl
    (in_region-end next_in_part first_part C.nodes C.regions region other changed within refl)
    (ap (lifted previous_in_part C.nodes) (of_region-same last_part C.regions region changed refl))

previous_in-end : (C : ChainView) (region other : ℕ) → region < length C.regions → rings_of (previous_in_region_set C region 0 other) ≡ record (rings_of C) { previous_in = put_in region (rings_of C).previous_in 0 other }
previous_in-end C region other within =
    let changed : RegionTasks = record (region_at C.regions region) { last_ready = other } in
    rings_equal _ _ refl (length-set C.regions region changed) refl refl (of_region-same unfinished_part C.regions region changed refl) refl refl
    (ap (lifted next_in_part C.nodes) (of_region-same first_part C.regions region changed refl))
    (in_region-end previous_in_part last_part C.nodes C.regions region other changed within refl)

-- one node
in_region-same : (part : Node → ℕ) (ends : ℕ → ℕ) (nodes : List Node) (task : ℕ) (node : Node) → 1 ≤ task → task ≤ length nodes → part node ≡ part (slice_index_or nodes (task - 1) no_node) → lifted part (slice_set nodes (task - 1) node) ends ≡ lifted part nodes ends
in_region-same part ends nodes task node above within same = fun_ext (λ r. of_node-same part (ends r) nodes task node above within same)

in_region-put : (part : Node → ℕ) (ends : ℕ → ℕ) (nodes : List Node) (region task : ℕ) (node : Node) → 1 ≤ task → task ≤ length nodes → lifted part (slice_set nodes (task - 1) node) ends ≡ put_in region (lifted part nodes ends) task (part node)
in_region-put part ends nodes region task node above within = fun_ext (λ r.
    let some : task ≢ 0 = λ one. omega arith in
    of_node-put part (ends r) nodes task node above within ∙ put_in-task region (λ (r : ℕ). of_node part (ends r) nodes) task (part node) r some)

tasks-same : (nodes : List Node) (task : ℕ) (node : Node) → task_of node ≡ task_of (slice_index_or nodes (task - 1) no_node) → map task_of (slice_set nodes (task - 1) node) ≡ map task_of nodes
tasks-same nodes task node same = map-set_same task_of nodes (task - 1) node no_node same

next-task : (C : ChainView) (task other : ℕ) → 1 ≤ task → task ≤ length C.nodes → rings_of (next_set C task other) ≡ record (rings_of C) { next = put (rings_of C).next task other }
next-task C task other above within =
    let some : task ≢ 0 = λ one. omega arith in
    let was : Node = slice_index_or C.nodes (task - 1) no_node in
    let node : Node = record was { in_order = record was.in_order { next = other } } in
    rw (ne_eqb task 0 some) (rings_equal _ _ (tasks-same C.nodes task node refl) refl refl
    (of_node-same children_part 0 C.nodes task node above within refl) refl
    (of_node-put next_part C.first C.nodes task node above within)
    (of_node-same previous_part C.last C.nodes task node above within refl)
    (in_region-same next_in_part (of_region first_part C.regions) C.nodes task node above within refl)
    (in_region-same previous_in_part (of_region last_part C.regions) C.nodes task node above within refl))

previous-task : (C : ChainView) (task other : ℕ) → 1 ≤ task → task ≤ length C.nodes → rings_of (previous_set C task other) ≡ record (rings_of C) { previous = put (rings_of C).previous task other }
previous-task C task other above within =
    let some : task ≢ 0 = λ one. omega arith in
    let was : Node = slice_index_or C.nodes (task - 1) no_node in
    let node : Node = record was { in_order = record was.in_order { previous = other } } in
    rw (ne_eqb task 0 some) (rings_equal _ _ (tasks-same C.nodes task node refl) refl refl
    (of_node-same children_part 0 C.nodes task node above within refl) refl
    (of_node-same next_part C.first C.nodes task node above within refl)
    (of_node-put previous_part C.last C.nodes task node above within)
    (in_region-same next_in_part (of_region first_part C.regions) C.nodes task node above within refl)
    (in_region-same previous_in_part (of_region last_part C.regions) C.nodes task node above within refl))

next_in-task : (C : ChainView) (region task other : ℕ) → 1 ≤ task → task ≤ length C.nodes → rings_of (next_in_region_set C region task other) ≡ record (rings_of C) { next_in = put_in region (rings_of C).next_in task other }
next_in-task C region task other above within =
    let some : task ≢ 0 = λ one. omega arith in
    let was : Node = slice_index_or C.nodes (task - 1) no_node in
    let node : Node = record was { in_region = record was.in_region { next = other } } in
    rw (ne_eqb task 0 some) (rings_equal _ _ (tasks-same C.nodes task node refl) refl refl
    (of_node-same children_part 0 C.nodes task node above within refl) refl
    (of_node-same next_part C.first C.nodes task node above within refl)
    (of_node-same previous_part C.last C.nodes task node above within refl)
    (in_region-put next_in_part (of_region first_part C.regions) C.nodes region task node above within)
    (in_region-same previous_in_part (of_region last_part C.regions) C.nodes task node above within refl))

previous_in-task : (C : ChainView) (region task other : ℕ) → 1 ≤ task → task ≤ length C.nodes → rings_of (previous_in_region_set C region task other) ≡ record (rings_of C) { previous_in = put_in region (rings_of C).previous_in task other }
previous_in-task C region task other above within =
    let some : task ≢ 0 = λ one. omega arith in
    let was : Node = slice_index_or C.nodes (task - 1) no_node in
    let node : Node = record was { in_region = record was.in_region { previous = other } } in
    rw (ne_eqb task 0 some) (rings_equal _ _ (tasks-same C.nodes task node refl) refl refl
    (of_node-same children_part 0 C.nodes task node above within refl) refl
    (of_node-same next_part C.first C.nodes task node above within refl)
    (of_node-same previous_part C.last C.nodes task node above within refl)
    (in_region-same next_in_part (of_region first_part C.regions) C.nodes task node above within refl)
    (in_region-put previous_in_part (of_region last_part C.regions) C.nodes region task node above within))

-- what a call made of the links, where they were these
pub next_set-rings : (C : ChainView) (R : Rings) (task other : ℕ) → rings_of C ≡ R → task ≤ length R.tasks → rings_of (next_set C task other) ≡ record R { next = put R.next task other }
next_set-rings C R task other are within =
    let made : task ≤ length C.nodes = omega (arith, length-map C.nodes task_of, ap (λ (S : Rings). length S.tasks) are) in
    elim (cases_eq task 0) [
      | inl none ↦ subst (λ (one : ℕ). rings_of (next_set C one other) ≡ record R { next = put R.next one other }) (sym none) (next-end C other ∙ ap (λ (S : Rings). let T : Rings = record S { next = put S.next 0 other } in T) are)
      | inr some ↦ next-task C task other (omega arith) made ∙ ap (λ (S : Rings). let T : Rings = record S { next = put S.next task other } in T) are
    ]

pub previous_set-rings : (C : ChainView) (R : Rings) (task other : ℕ) → rings_of C ≡ R → task ≤ length R.tasks → rings_of (previous_set C task other) ≡ record R { previous = put R.previous task other }
previous_set-rings C R task other are within =
    let made : task ≤ length C.nodes = omega (arith, length-map C.nodes task_of, ap (λ (S : Rings). length S.tasks) are) in
    elim (cases_eq task 0) [
      | inl none ↦ subst (λ (one : ℕ). rings_of (previous_set C one other) ≡ record R { previous = put R.previous one other }) (sym none) (previous-end C other ∙ ap (λ (S : Rings). let T : Rings = record S { previous = put S.previous 0 other } in T) are)
      | inr some ↦ previous-task C task other (omega arith) made ∙ ap (λ (S : Rings). let T : Rings = record S { previous = put S.previous task other } in T) are
    ]

pub next_in_set-rings : (C : ChainView) (R : Rings) (region task other : ℕ) → rings_of C ≡ R → task ≤ length R.tasks → region < R.regions → rings_of (next_in_region_set C region task other) ≡ record R { next_in = put_in region R.next_in task other }
next_in_set-rings C R region task other are within there =
    let made : task ≤ length C.nodes = omega (arith, length-map C.nodes task_of, ap (λ (S : Rings). length S.tasks) are) in
    let place : region < length C.regions = omega (arith, ap (λ (S : Rings). S.regions) are) in
    elim (cases_eq task 0) [
      | inl none ↦ subst (λ (one : ℕ). rings_of (next_in_region_set C region one other) ≡ record R { next_in = put_in region R.next_in one other }) (sym none) (next_in-end C region other place ∙ ap (λ (S : Rings). let T : Rings = record S { next_in = put_in region S.next_in 0 other } in T) are)
      | inr some ↦ next_in-task C region task other (omega arith) made ∙ ap (λ (S : Rings). let T : Rings = record S { next_in = put_in region S.next_in task other } in T) are
    ]

pub previous_in_set-rings : (C : ChainView) (R : Rings) (region task other : ℕ) → rings_of C ≡ R → task ≤ length R.tasks → region < R.regions → rings_of (previous_in_region_set C region task other) ≡ record R { previous_in = put_in region R.previous_in task other }
previous_in_set-rings C R region task other are within there =
    let made : task ≤ length C.nodes = omega (arith, length-map C.nodes task_of, ap (λ (S : Rings). length S.tasks) are) in
    let place : region < length C.regions = omega (arith, ap (λ (S : Rings). S.regions) are) in
    elim (cases_eq task 0) [
      | inl none ↦ subst (λ (one : ℕ). rings_of (previous_in_region_set C region one other) ≡ record R { previous_in = put_in region R.previous_in one other }) (sym none) (previous_in-end C region other place ∙ ap (λ (S : Rings). let T : Rings = record S { previous_in = put_in region S.previous_in 0 other } in T) are)
      | inr some ↦ previous_in-task C region task other (omega arith) made ∙ ap (λ (S : Rings). let T : Rings = record S { previous_in = put_in region S.previous_in task other } in T) are
    ]

pub links_set-rings : (C : ChainView) (region task : ℕ) (order beside : Links) → 1 ≤ task → task ≤ length C.nodes → rings_of (links_set C task order beside) ≡ record (rings_of C) { next = put (rings_of C).next task order.next; previous = put (rings_of C).previous task order.previous; next_in = put_in region (rings_of C).next_in task beside.next; previous_in = put_in region (rings_of C).previous_in task beside.previous }
links_set-rings C region task order beside above within =
    let some : task ≢ 0 = λ one. omega arith in
    let was : Node = slice_index_or C.nodes (task - 1) no_node in
    let node : Node = record was { in_order = order; in_region = beside } in
    rw (ne_eqb task 0 some) (rings_equal _ _ (tasks-same C.nodes task node refl) refl refl
    (of_node-same children_part 0 C.nodes task node above within refl) refl
    (of_node-put next_part C.first C.nodes task node above within)
    (of_node-put previous_part C.last C.nodes task node above within)
    (in_region-put next_in_part (of_region first_part C.regions) C.nodes region task node above within)
    (in_region-put previous_in_part (of_region last_part C.regions) C.nodes region task node above within))

pub condition_set-rings : (C : ChainView) (R : Rings) (task : ℕ) (condition : Condition) → rings_of C ≡ R → 1 ≤ task → task ≤ length R.tasks → rings_of (condition_set C task condition) ≡ record R { tasks = with_condition R.tasks task condition }
condition_set-rings C R task condition are above within =
    let some : task ≢ 0 = λ one. omega arith in
    let made : task ≤ length C.nodes = omega (arith, length-map C.nodes task_of, ap (λ (S : Rings). length S.tasks) are) in
    let was : Node = slice_index_or C.nodes (task - 1) no_node in
    let node : Node = record was { task = record was.task { condition = condition } } in
    let tasks : map task_of (slice_set C.nodes (task - 1) node) ≡ with_condition (map task_of C.nodes) task condition =
    rw (ne_eqb task 0 some) (map-set task_of C.nodes (task - 1) node ∙
    ap (λ (one : Task). slice_set (map task_of C.nodes) (task - 1) (record one { condition = condition })) (sym (get_or-map task_of C.nodes (task - 1) no_node))) in
    let first : rings_of (condition_set C task condition) ≡ record (rings_of C) { tasks = with_condition (rings_of C).tasks task condition } =
    rw (ne_eqb task 0 some) (rings_equal _ _ (rw (ne_eqb task 0 some) at tasks) refl refl
    (of_node-same children_part 0 C.nodes task node above made refl) refl
    (of_node-same next_part C.first C.nodes task node above made refl)
    (of_node-same previous_part C.last C.nodes task node above made refl)
    (in_region-same next_in_part (of_region first_part C.regions) C.nodes task node above made refl)
    (in_region-same previous_in_part (of_region last_part C.regions) C.nodes task node above made refl)) in
    first ∙ ap (λ (S : Rings). let T : Rings = record S { tasks = with_condition S.tasks task condition } in T) are

-- the two counts. A parent that is no task has none
pub children_set-rings : (C : ChainView) (task count : ℕ) → 1 ≤ task → task ≤ length C.nodes → rings_of (children_set C task count) ≡ record (rings_of C) { children = put (rings_of C).children task count }
children_set-rings C task count above within =
    let some : task ≢ 0 = λ one. omega arith in
    let was : Node = slice_index_or C.nodes (task - 1) no_node in
    let node : Node = record was { open_children = count } in
    rw (ne_eqb task 0 some) (rings_equal _ _ (tasks-same C.nodes task node refl) refl refl
    (of_node-put children_part 0 C.nodes task node above within) refl
    (of_node-same next_part C.first C.nodes task node above within refl)
    (of_node-same previous_part C.last C.nodes task node above within refl)
    (in_region-same next_in_part (of_region first_part C.regions) C.nodes task node above within refl)
    (in_region-same previous_in_part (of_region last_part C.regions) C.nodes task node above within refl))

pub unfinished_set-rings : (C : ChainView) (R : Rings) (region count : ℕ) → rings_of C ≡ R → region < R.regions → rings_of (unfinished_set C region count) ≡ record R { unfinished = put R.unfinished region count }
unfinished_set-rings C R region count are there =
    let place : region < length C.regions = omega (arith, ap (λ (S : Rings). S.regions) are) in
    let changed : RegionTasks = record (region_at C.regions region) { unfinished = count } in
    let first : rings_of (unfinished_set C region count) ≡ record (rings_of C) { unfinished = put (rings_of C).unfinished region count } =
    rings_equal _ _ refl (length-set C.regions region changed) refl refl (of_region-put unfinished_part C.regions region changed place) refl refl
    (ap (lifted next_in_part C.nodes) (of_region-same first_part C.regions region changed refl))
    (ap (lifted previous_in_part C.nodes) (of_region-same last_part C.regions region changed refl)) in
    first ∙ ap (λ (S : Rings). let T : Rings = record S { unfinished = put S.unfinished region count } in T) are
