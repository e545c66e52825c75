-- What the calls that make a task, make room and count make of the links.
use Rattle.std.proofs.Common.{◌≡◌, ℕ, zero, suc, ◌+◌, ◌-◌, ◌<◌, ◌≤◌, ◌∙◌, eqb, cond, List, [], ◌∷◌, ◌++◌, length, max, replicate, slice_index_or, refl, sym, ap, subst, inl, inr, arith, length-append}
use Rattle.std.proofs.lemmas.Bool.{cases_eq, cases_lt, eq-eqb, ne_eqb}
use Rattle.std.proofs.lemmas.List.{length-map, map-append, get_or_past, get_or_append_left, length-replicate}
use Rattle.std.proofs.Math.Seq.{get_or-append_seam, get_or-append_right}
use Rattle.std.proofs.Math.Path.{fun_ext}
use Rattle.task_pool.specs.declared.task.Task.{Task}
use Rattle.task_pool.specs.declared.node.Node.{Node}
use Rattle.task_pool.specs.declared.node.RegionTasks.{RegionTasks}
use Rattle.task_pool.specs.Chain.{ChainView, node_at, region_at, no_node, no_region, fresh_node, node_made, with_regions, children_set, unfinished_set, counted_up, counted_down, missing}
use Rattle.task_pool.specs.Links.{Rings, of_node, of_region, task_of, children_part, next_part, previous_part, next_in_part, previous_in_part, first_part, last_part, unfinished_part, rings_of, put}
use Rattle.task_pool.proofs.Setting.{rings_equal, lifted, children_set-rings, unfinished_set-rings}
use Rattle.task_pool.proofs.Counting.{put_made, counted_at}

-- at the end of a list stands what is read past it anyway
read-more : {X Y : Type 0} (part : X → Y) (xs : List X) (x d : X) (k : ℕ) → part x ≡ part d → part (slice_index_or (xs ++ x ∷ []) k d) ≡ part (slice_index_or xs k d)
read-more part xs x d k same = elim (cases_lt k (length xs)) [
  | inl within ↦ ap part (get_or_append_left xs (x ∷ []) d k within)
  | inr past ↦ elim (cases_eq k (length xs)) [
    | inl here ↦ subst (λ (one : ℕ). part (slice_index_or (xs ++ x ∷ []) one d) ≡ part (slice_index_or xs one d)) (sym here)
        (ap part (get_or-append_seam xs x [] d) ∙ (same ∙ ap part (sym (get_or_past xs (length xs) d (omega arith)))))
    | inr behind ↦ ap part (get_or_past (xs ++ x ∷ []) k d (omega (arith, length-append xs (x ∷ [])))) ∙ ap part (sym (get_or_past xs k d past))
  ]
]

of_node-more : (part : Node → ℕ) (ending : ℕ) (nodes : List Node) (task : Task) → part (fresh_node task) ≡ part no_node → of_node part ending (nodes ++ fresh_node task ∷ []) ≡ of_node part ending nodes
of_node-more part ending nodes task same = fun_ext (λ t. ap (cond (eqb t 0) ending) (read-more part nodes (fresh_node task) no_node (t - 1) same))

pub node_made-rings : (C : ChainView) (task : Task) → rings_of (node_made C task) ≡ record (rings_of C) { tasks = (rings_of C).tasks ++ task ∷ []; room = C.room - 1 }
node_made-rings C task = rings_equal _ _ (map-append task_of C.nodes (fresh_node task ∷ [])) refl refl
    (of_node-more children_part 0 C.nodes task refl) refl
    (of_node-more next_part C.first C.nodes task refl)
    (of_node-more previous_part C.last C.nodes task refl)
    (fun_ext (λ r. of_node-more next_in_part (of_region first_part C.regions r) C.nodes task refl))
    (fun_ext (λ r. of_node-more previous_in_part (of_region last_part C.regions r) C.nodes task refl))

read-replicate : {X : Type 0} (n k : ℕ) (d : X) → slice_index_or (replicate n d) k d ≡ d
read-replicate zero k d = refl
read-replicate (suc n) zero d = refl
read-replicate (suc n) (suc k) d = read-replicate n k d

read-filled : {X : Type 0} (xs : List X) (n k : ℕ) (d : X) → slice_index_or (xs ++ replicate n d) k d ≡ slice_index_or xs k d
read-filled xs n k d = elim (cases_lt k (length xs)) [
  | inl within ↦ get_or_append_left xs (replicate n d) d k within
  | inr past ↦ get_or-append_right xs (replicate n d) k d past ∙ (read-replicate n (k - length xs) d ∙ sym (get_or_past xs k d past))
]

of_region-filled : (part : RegionTasks → ℕ) (regions : List RegionTasks) (n : ℕ) → of_region part (regions ++ replicate n no_region) ≡ of_region part regions
of_region-filled part regions n = fun_ext (λ r. ap part (read-filled regions n r no_region))

pub with_regions-rings : (C : ChainView) (region : ℕ) → rings_of (with_regions C region) ≡ record (rings_of C) { regions = max (region + 1) (length C.regions); room = 1 }
with_regions-rings C region =
    let n : ℕ = missing C region in
    rings_equal _ _ refl (omega (arith, length-append C.regions (replicate n no_region), length-replicate n no_region)) refl refl
    (of_region-filled unfinished_part C.regions n) refl refl
    (ap (lifted next_in_part C.nodes) (of_region-filled first_part C.regions n))
    (ap (lifted previous_in_part C.nodes) (of_region-filled last_part C.regions n))

pub node-children : (nodes : List Node) (task : ℕ) → (node_at nodes task).open_children ≡ of_node children_part 0 nodes task
node-children nodes task = elim (cases_eq task 0) [
  | inl none ↦ rw (eq-eqb task 0 none) refl
  | inr some ↦ rw (ne_eqb task 0 some) refl
]

-- the two counts together
counted-rings : (C : ChainView) (R : Rings) (parent children region count : ℕ) → rings_of C ≡ R → parent ≤ length R.tasks → region < R.regions → rings_of (unfinished_set (children_set C parent children) region count) ≡ counted_at R parent children region count
counted-rings C R parent children region count are within place =
    let made : parent ≤ length C.nodes = omega (arith, length-map C.nodes task_of, ap (λ (S : Rings). length S.tasks) are) in
    let R₁ : Rings = record R { children = put_made R.children parent children } in
    let e₁ : rings_of (children_set C parent children) ≡ R₁ = elim (cases_eq parent 0) [
      | inl none ↦ subst (λ (one : ℕ). rings_of (children_set C one children) ≡ record R { children = put_made R.children one children }) (sym none) are
      | inr some ↦ children_set-rings C parent children (omega arith) made ∙
          (ap (λ (S : Rings). let T : Rings = record S { children = put S.children parent children } in T) are ∙ rw (ne_eqb parent 0 some) refl)
    ] in
    unfinished_set-rings (children_set C parent children) R₁ region count e₁ place

pub counted_up-rings : (C : ChainView) (R : Rings) (parent region : ℕ) → rings_of C ≡ R → parent ≤ length R.tasks → region < R.regions → rings_of (counted_up C parent region) ≡ counted_at R parent (R.children parent + 1) region (R.unfinished region + 1)
counted_up-rings C R parent region are within place =
    let children : (node_at C.nodes parent).open_children ≡ R.children parent = node-children C.nodes parent ∙ ap (λ (S : Rings). S.children parent) are in
    let unfinished : (region_at C.regions region).unfinished ≡ R.unfinished region = ap (λ (S : Rings). S.unfinished region) are in
    counted-rings C R parent ((node_at C.nodes parent).open_children + 1) region ((region_at C.regions region).unfinished + 1) are within place ∙
    (ap (λ (one : ℕ). counted_at R parent (one + 1) region ((region_at C.regions region).unfinished + 1)) children ∙ ap (λ (one : ℕ). counted_at R parent (R.children parent + 1) region (one + 1)) unfinished)

pub counted_down-rings : (C : ChainView) (R : Rings) (parent region : ℕ) → rings_of C ≡ R → parent ≤ length R.tasks → region < R.regions → rings_of (counted_down C parent region) ≡ counted_at R parent (R.children parent - 1) region (R.unfinished region - 1)
counted_down-rings C R parent region are within place =
    let children : (node_at C.nodes parent).open_children ≡ R.children parent = node-children C.nodes parent ∙ ap (λ (S : Rings). S.children parent) are in
    let unfinished : (region_at C.regions region).unfinished ≡ R.unfinished region = ap (λ (S : Rings). S.unfinished region) are in
    counted-rings C R parent ((node_at C.nodes parent).open_children - 1) region ((region_at C.regions region).unfinished - 1) are within place ∙
    (ap (λ (one : ℕ). counted_at R parent (one - 1) region ((region_at C.regions region).unfinished - 1)) children ∙ ap (λ (one : ℕ). counted_at R parent (R.children parent - 1) region (one - 1)) unfinished)
