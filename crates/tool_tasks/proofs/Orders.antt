-- The order in which tasks are written.
use Rattle.std.proofs.Common.{◌≡◌, ℕ, zero, suc, ◌+◌, ◌-◌, ◌<◌, ◌≤◌, ◌==◌, ◌⊎◌, Bool, true, false, cond, List, [], ◌∷◌, ◌++◌, length, filter, reverse, Option, Some, None, refl, sym, ◌∙◌, ap, subst, inl, inr, append_assoc, arith}
use Rattle.std.specs.Prelude.{is_some, nat_lt, slice_get}
use Rattle.std.specs.List.{flat_map, range_with_len}
use Rattle.std.proofs.lemmas.Bool.{eqb-true}
use Rattle.std.proofs.lemmas.Bool.Decides.{nat_tests}
use Rattle.std.proofs.lemmas.List.{append-nil, reverse-append}
use Rattle.std.proofs.lemmas.List.FromFn.{length-range_with_len}
use Rattle.std.proofs.lemmas.Option.{slice_get-get_or, slice_get_within}
use Rattle.ompt_calls.specs.declared.event.EventRecord.{EventRecord}
use Rattle.trace_check.specs.Before.{greatest_task}
use Rattle.trace_check.specs.Checking.{Unbroken}
use Rattle.tool_tasks.specs.declared.forest.TaskNode.{TaskNode}
use Rattle.tool_tasks.specs.Holding.{AreNodes, later, node_at}
use Rattle.tool_tasks.specs.Text.{tasks_in_order, tasks_of, tree_order}
use Rattle.tool_tasks.specs.Tree.{Origin, children_from, children_of, first_or_zero, has_parent, node_from, node_of, origin_of, sibling_after}
use Rattle.tool_tasks.proofs.Linking.{children_here, from_past, is_child, zero_node}
use Rattle.tool_tasks.proofs.Makes.{ParentLess, greatest_some, initial_origin, no_zero, parent_less}

-- ---- what is pending has a weight that falls

abbrev pub tower : ℕ → ℕ
tower zero = 1
tower (suc n) = tower n + (tower n + tower n)

abbrev pub weight : ℕ → List ℕ → ℕ
weight n [] = 0
weight n (task ∷ rest) = tower (n + 1 - task) + weight n rest

some_tower : (n : ℕ) → 1 ≤ tower n
some_tower zero = omega arith
some_tower (suc n) = let e : 1 ≤ tower n = some_tower n in omega arith

more_tower : (a b : ℕ) → a ≤ b → tower a ≤ tower b
more_tower zero b less = some_tower b
more_tower (suc a) zero less = absurd (omega arith)
more_tower (suc a) (suc b) less = let e : tower a ≤ tower b = more_tower a b (omega arith) in omega arith

weight_append : (n : ℕ) (a b : List ℕ) → weight n (a ++ b) ≡ weight n a + weight n b
weight_append n [] b = omega arith
weight_append n (task ∷ a) b = let e : weight n (a ++ b) ≡ weight n a + weight n b = weight_append n a b in omega arith

later_weight : (n task link : ℕ) → weight n (later task link) ≤ tower (n - task)
later_weight n task link = by-test (nat_lt task link) refl
  where
    by-test : (b : Bool) → nat_lt task link ≡ b → weight n (cond b (link ∷ []) []) ≤ tower (n - task)
    by-test true is =
        let less : task < link = grind (arith, nat_tests, is) in
        let e : tower (n + 1 - link) ≤ tower (n - task) = more_tower (n + 1 - link) (n - task) (omega arith) in
        omega arith
    by-test false is = omega arith

pub popped_less : (n task : ℕ) (rest : List ℕ) → weight n rest < weight n (rest ++ task ∷ [])
popped_less n task rest =
    let e : weight n (rest ++ task ∷ []) ≡ weight n rest + (tower (n + 1 - task) + 0) = weight_append n rest (task ∷ []) in
    let f : 1 ≤ tower (n + 1 - task) = some_tower (n + 1 - task) in
    omega arith

pub visited_less : (n task sibling child : ℕ) (rest : List ℕ) → task ≤ n
    → weight n ((rest ++ later task sibling) ++ later task child) < weight n (rest ++ task ∷ [])
visited_less n task sibling child rest within =
    let e : weight n (rest ++ task ∷ []) ≡ weight n rest + (tower (n + 1 - task) + 0) = weight_append n rest (task ∷ []) in
    let here : tower (n + 1 - task) ≡ tower (n - task) + (tower (n - task) + tower (n - task)) = ap tower (step within) in
    let f : 1 ≤ tower (n - task) = some_tower (n - task) in
    let a : weight n (later task sibling) ≤ tower (n - task) = later_weight n task sibling in
    let b : weight n (later task child) ≤ tower (n - task) = later_weight n task child in
    let g : weight n ((rest ++ later task sibling) ++ later task child) ≡ weight n (rest ++ later task sibling) + weight n (later task child) =
    weight_append n (rest ++ later task sibling) (later task child) in
    let h : weight n (rest ++ later task sibling) ≡ weight n rest + weight n (later task sibling) = weight_append n rest (later task sibling) in
    omega arith
  where
    step : task ≤ n → n + 1 - task ≡ suc (n - task)
    step within = omega arith

-- ---- a task among the nodes

pub found_within : (nodes : List TaskNode) (task : ℕ) (node : TaskNode) → Some node ≡ node_at nodes task → task ≤ length nodes
found_within nodes task node = by-test (task == 0)
  where
    by-test : (b : Bool) → Some node ≡ cond b None (slice_get nodes (task - 1)) → task ≤ length nodes
    by-test true is = absurd (cc)
    by-test false is = let e : task - 1 < length nodes = slice_get_within nodes (task - 1) node (sym is) in omega arith

pub node_is : (nodes : List TaskNode) (past : List EventRecord) (task : ℕ) → Unbroken past → AreNodes nodes past → node_at nodes task ≡ node_of task past
node_is nodes past zero unbroken are = sym (ap (node_from 0 past) (no_zero past unbroken))
node_is nodes past (suc place) unbroken are = by-test (suc place == 0) refl
  where
    by-test : (b : Bool) → (suc place == 0) ≡ b → cond b None (slice_get nodes (suc place - 1)) ≡ node_of (suc place) past
    by-test true is = let e : suc place ≡ 0 = eqb-true (suc place) 0 is in absurd (omega arith)
    by-test false is =
        let e : suc place - 1 ≡ place = omega arith in
        let f : place + 1 ≡ suc place = omega arith in
        ap (slice_get nodes) e ∙ (are.each place ∙ ap (λ (k : ℕ). node_of k past) f)

-- ---- children in their order

-- the first of them and the rest
record Head (j parent : ℕ) (past : List EventRecord) : Type 0 where
  child : ℕ
  all : children_from j parent past ≡ child ∷ children_from (child + 1) parent past
  is : is_child parent past child ≡ true
  least : j ≤ child

head : (n j parent : ℕ) (past : List EventRecord) → greatest_task past + 1 - j ≡ n → (children_from j parent past ≡ []) ⊎ Head j parent past
head zero j parent past none = inl (ap (filter (is_child parent past)) (from_past j past (omega arith)))
head (suc n) j parent past some = by-test (is_child parent past j) refl (head n (j + 1) parent past (omega arith))
  where
    here : children_from j parent past ≡ cond (is_child parent past j) (j ∷ children_from (j + 1) parent past) (children_from (j + 1) parent past)
    here = children_here j parent past (omega arith)

    further : children_from j parent past ≡ children_from (j + 1) parent past → (children_from (j + 1) parent past ≡ []) ⊎ Head (j + 1) parent past
        → (children_from j parent past ≡ []) ⊎ Head j parent past
    further same (inl none) = inl (same ∙ none)
    further same (inr found) = inr (let e : j + 1 ≤ found.child = found.least in record { child = found.child; all = same ∙ found.all; is = found.is; least = omega arith })

    by-test : (b : Bool) → is_child parent past j ≡ b → (children_from (j + 1) parent past ≡ []) ⊎ Head (j + 1) parent past → (children_from j parent past ≡ []) ⊎ Head j parent past
    by-test true is rest =
        inr (record { child = j; all = here ∙ ap (λ (b : Bool). cond b (j ∷ children_from (j + 1) parent past) (children_from (j + 1) parent past)) is; is = is; least = omega arith })
    by-test false is rest = further (here ∙ ap (λ (b : Bool). cond b (j ∷ children_from (j + 1) parent past) (children_from (j + 1) parent past)) is) rest

-- they were made after their parent
pub child_later : (parent child : ℕ) (past : List EventRecord) → Unbroken past → is_child parent past child ≡ true → parent < child
child_later parent child past unbroken = by-origin (origin_of child past) (parent_less child past unbroken)
  where
    by-origin : (origin : Option Origin) → ParentLess child origin → has_parent parent origin ≡ true → parent < child
    by-origin None less is = absurd (cc)
    by-origin (Some origin) less is = let e : origin.parent ≡ parent = eqb-true origin.parent parent is in omega arith

-- all are above the first number, and at most the second
abbrev AreBetween : ℕ → ℕ → List ℕ → Type 0
AreBetween low high [] = Unit {0}
AreBetween low high (k ∷ rest) = (low < k) × (k ≤ high) × AreBetween low high rest

children_between : (n j parent : ℕ) (past : List EventRecord) → Unbroken past → greatest_task past + 1 - j ≡ n
    → AreBetween parent (greatest_task past) (children_from j parent past)
children_between zero j parent past unbroken none =
    subst (AreBetween parent (greatest_task past)) (sym (ap (filter (is_child parent past)) (from_past j past (omega arith)))) tt
children_between (suc n) j parent past unbroken some =
    subst (AreBetween parent (greatest_task past)) (sym (children_here j parent past (omega arith)))
    (by-test (is_child parent past j) refl (children_between n (j + 1) parent past unbroken (omega arith)))
  where
    by-test : (b : Bool) → is_child parent past j ≡ b → AreBetween parent (greatest_task past) (children_from (j + 1) parent past)
        → AreBetween parent (greatest_task past) (cond b (j ∷ children_from (j + 1) parent past) (children_from (j + 1) parent past))
    by-test true is rest = (child_later parent j past unbroken is, omega arith, rest)
    by-test false is rest = rest

-- ---- trees that are deep enough are the same

same_flat : (f g : ℕ → List ℕ) (low high : ℕ) (all : List ℕ) → AreBetween low high all → ((k : ℕ) → low < k → k ≤ high → f k ≡ g k) → flat_map f all ≡ flat_map g all
same_flat f g low high [] between each = refl
same_flat f g low high (k ∷ rest) between each = rw (each k between.0 between.1, same_flat f g low high rest between.2 each) refl

same_trees : (past : List EventRecord) (a b task : ℕ) → Unbroken past → greatest_task past < a + task → greatest_task past < b + task → task ≤ greatest_task past
    → tree_order past a task ≡ tree_order past b task
same_trees past zero b task unbroken deep enough within = absurd (omega arith)
same_trees past (suc a) zero task unbroken deep enough within = absurd (omega arith)
same_trees past (suc a) (suc b) task unbroken deep enough within =
    ap (λ (rest : List ℕ). task ∷ rest)
    (same_flat (tree_order past a) (tree_order past b) task (greatest_task past) (children_of task past)
    (children_between (greatest_task past + 1 - 1) 1 task past unbroken refl)
    (λ k above below. same_trees past a b k unbroken (omega arith) (omega arith) below))

-- the tree of a task, deep enough
abbrev tree_of : List EventRecord → ℕ → List ℕ
tree_of past task = tree_order past (greatest_task past) task

tree_here : (past : List EventRecord) (task : ℕ) → Unbroken past → 1 ≤ task → tree_of past task ≡ task ∷ flat_map (tree_of past) (children_of task past)
tree_here past task unbroken some = by-depth (greatest_task past) refl (greatest_some past)
  where
    by-depth : (n : ℕ) → greatest_task past ≡ n → 1 ≤ n → tree_order past n task ≡ task ∷ flat_map (tree_order past n) (children_of task past)
    by-depth zero is none = absurd (omega arith)
    by-depth (suc m) is more =
        ap (λ (rest : List ℕ). task ∷ rest)
        (same_flat (tree_order past m) (tree_order past (suc m)) task (greatest_task past) (children_of task past)
        (children_between (greatest_task past + 1 - 1) 1 task past unbroken refl)
        (λ k above below. same_trees past m (suc m) k unbroken (omega arith) (omega arith) below))

-- ---- what pending tasks stand for

-- a task's later siblings
abbrev siblings_of : ℕ → ℕ → List EventRecord → List ℕ
siblings_of task parent past = cond (parent == 0) [] (children_from (task + 1) parent past)

-- a pending task stands for its tree, and for those of its later siblings
abbrev pub pending_trees : List EventRecord → ℕ → Option Origin → List ℕ
pending_trees past task None = []
pending_trees past task (Some origin) = tree_of past task ++ flat_map (tree_of past) (siblings_of task origin.parent past)

-- the one on top comes first
abbrev pub pending_order : List EventRecord → List ℕ → List ℕ
pending_order past [] = []
pending_order past (task ∷ rest) = pending_trees past task (origin_of task past) ++ pending_order past rest

-- the first of some children stands for them
for_children : (past : List EventRecord) (task j parent : ℕ) (rest : List ℕ) → 1 ≤ parent → ((child : ℕ) → is_child parent past child ≡ true → j ≤ child → task < child)
    → pending_order past (later task (first_or_zero (children_from j parent past)) ++ rest) ≡ flat_map (tree_of past) (children_from j parent past) ++ pending_order past rest
for_children past task j parent rest some above = by-head (head (greatest_task past + 1 - j) j parent past refl)
  where
    of : List ℕ → Type 0
    of all = pending_order past (later task (first_or_zero all) ++ rest) ≡ flat_map (tree_of past) all ++ pending_order past rest

    never : nat_lt task 0 ≡ false
    never = grind (arith, nat_tests)

    by-origin : (child : ℕ) (origin : Option Origin) → has_parent parent origin ≡ true
        → pending_trees past child origin ≡ tree_of past child ++ flat_map (tree_of past) (children_from (child + 1) parent past)
    by-origin child None is = absurd (cc)
    by-origin child (Some origin) is =
        let e : origin.parent ≡ parent = eqb-true origin.parent parent is in
        let other : (parent == 0) ≡ false = grind (arith, nat_tests, some) in
        rw (e, other) refl

    of_child : (child : ℕ) → is_child parent past child ≡ true → task < child → of (child ∷ children_from (child + 1) parent past)
    of_child child is less =
        let up : nat_lt task child ≡ true = grind (arith, nat_tests, less) in
        rw up (ap (λ (front : List ℕ). front ++ pending_order past rest) (by-origin child (origin_of child past) is))

    by-head : (children_from j parent past ≡ []) ⊎ Head j parent past → of (children_from j parent past)
    by-head (inl none) = subst of (sym none) (rw never refl)
    by-head (inr found) = subst of (sym found.all) (of_child found.child found.is (above found.child found.is found.least))

-- once a task is visited, its children are pending, and then its later siblings
record Visits (past : List EventRecord) (task : ℕ) (node : TaskNode) : Type 0 where
  origin : Origin
  origin_is : origin_of task past ≡ Some origin
  some : 1 ≤ task
  first_is : node.first_child ≡ first_or_zero (children_of task past)
  next_is : node.next_sibling ≡ sibling_after task origin.parent past

visits : (past : List EventRecord) (task : ℕ) (node : TaskNode) → Unbroken past → Some node ≡ node_of task past → Visits past task node
visits past task node unbroken = by-origin (origin_of task past) refl
  where
    no_task : (k : ℕ) (origin : Origin) → origin_of k past ≡ Some origin → 1 ≤ k
    no_task zero origin is = let e : None ≡ Some origin = sym (no_zero past unbroken) ∙ is in absurd (cc)
    no_task (suc k) origin is = omega arith

    child_of : Option TaskNode → ℕ
    child_of None = 0
    child_of (Some found) = found.first_child

    next_of : Option TaskNode → ℕ
    next_of None = 0
    next_of (Some found) = found.next_sibling

    by-origin : (origin : Option Origin) → origin_of task past ≡ origin → Some node ≡ node_from task past origin → Visits past task node
    by-origin None origin_is is = absurd (cc)
    by-origin (Some origin) origin_is is = record {
      origin = origin;
      origin_is = origin_is;
      some = no_task task origin origin_is;
      first_is = ap child_of is;
      next_is = ap next_of is;
    }

later_reversed : (task link : ℕ) → reverse (later task link) ≡ later task link
later_reversed task link = by-test (nat_lt task link)
  where
    by-test : (b : Bool) → reverse (cond b (link ∷ []) []) ≡ cond b (link ∷ []) []
    by-test true = refl
    by-test false = refl

for_siblings : (past : List EventRecord) (task parent : ℕ) (rest : List ℕ)
    → pending_order past (later task (sibling_after task parent past) ++ rest) ≡ flat_map (tree_of past) (siblings_of task parent past) ++ pending_order past rest
for_siblings past task parent rest = by-test (parent == 0) refl
  where
    never : nat_lt task 0 ≡ false
    never = grind (arith, nat_tests)

    by-test : (b : Bool) → (parent == 0) ≡ b
        → pending_order past (later task (cond b 0 (first_or_zero (children_from (task + 1) parent past))) ++ rest)
        ≡ flat_map (tree_of past) (cond b [] (children_from (task + 1) parent past)) ++ pending_order past rest
    by-test true is = rw never refl
    by-test false is = for_children past task (task + 1) parent rest (some parent is) (λ child child_is above. (omega arith))
      where
        some : (n : ℕ) → (n == 0) ≡ false → 1 ≤ n
        some n is = grind (arith, nat_tests)

pub visited : (past : List EventRecord) (task : ℕ) (node : TaskNode) (rest pending : List ℕ) → Unbroken past → Some node ≡ node_of task past
    → pending ≡ (rest ++ later task node.next_sibling) ++ later task node.first_child
    → pending_order past (reverse (rest ++ task ∷ [])) ≡ task ∷ pending_order past (reverse pending)
visited past task node rest pending unbroken is pending_is =
    let at : Visits past task node = visits past task node unbroken is in
    let sibling : ℕ = node.next_sibling in
    let child : ℕ = node.first_child in
    let trees : List ℕ = flat_map (tree_of past) (children_of task past) in
    let after : List ℕ = flat_map (tree_of past) (siblings_of task at.origin.parent past) in
    let left : List ℕ = pending_order past (reverse rest) in
    let now : reverse pending ≡ later task child ++ (later task sibling ++ reverse rest) =
    ap reverse pending_is ∙ (reverse-append (rest ++ later task sibling) (later task child)
    ∙ (ap (λ (front : List ℕ). front ++ reverse (rest ++ later task sibling)) (later_reversed task child)
    ∙ ap (λ (behind : List ℕ). later task child ++ behind) (reverse-append rest (later task sibling)
    ∙ ap (λ (front : List ℕ). front ++ reverse rest) (later_reversed task sibling)))) in
    let children : pending_order past (reverse pending) ≡ trees ++ (after ++ left) =
    ap (pending_order past) now
    ∙ (ap (λ (link : ℕ). pending_order past (later task link ++ (later task sibling ++ reverse rest))) at.first_is
    ∙ (for_children past task 1 task (later task sibling ++ reverse rest) at.some (λ found found_is above. child_later task found past unbroken found_is)
    ∙ ap (λ (behind : List ℕ). trees ++ behind) (ap (λ (link : ℕ). pending_order past (later task link ++ reverse rest)) at.next_is ∙ for_siblings past task at.origin.parent (reverse rest)))) in
    let before : pending_order past (reverse (rest ++ task ∷ [])) ≡ (tree_of past task ++ after) ++ left =
    ap (pending_order past) (reverse-append rest (task ∷ [])) ∙ ap (λ (origin : Option Origin). pending_trees past task origin ++ left) at.origin_is in
    before ∙ (ap (λ (tree : List ℕ). (tree ++ after) ++ left) (tree_here past task unbroken at.some) ∙ (ap (λ (behind : List ℕ). task ∷ behind) (append_assoc trees after left) ∙ ap (λ (behind : List ℕ). task ∷ behind) (sym children)))

pub passed : (past : List EventRecord) (task : ℕ) (rest : List ℕ) → None ≡ node_of task past → pending_order past (reverse (rest ++ task ∷ [])) ≡ pending_order past (reverse rest)
passed past task rest none =
    ap (pending_order past) (reverse-append rest (task ∷ [])) ∙ by-origin (origin_of task past) none
  where
    by-origin : (origin : Option Origin) → None ≡ node_from task past origin → pending_trees past task origin ++ pending_order past (reverse rest) ≡ pending_order past (reverse rest)
    by-origin None is = refl
    by-origin (Some origin) is = absurd (cc)

-- ---- all tasks are in the tree of the initial one

all_kept : (p : ℕ → Bool) (k n : ℕ) → ((j : ℕ) → k ≤ j → j < k + n → p j ≡ true) → filter p (range_with_len k n) ≡ range_with_len k n
all_kept p k zero each = refl
all_kept p k (suc n) each = rw (each k (omega arith) (omega arith)) (ap (λ (rest : List ℕ). k ∷ rest) (all_kept p (k + 1) n (λ j above below. each j (omega arith) (omega arith))))

pub task_count : (nodes : List TaskNode) (past : List EventRecord) → AreNodes nodes past → length (tasks_of past) ≡ length nodes
task_count nodes past are =
    ap (length {A = ℕ}) (all_kept (λ (task : ℕ). is_some (origin_of task past)) 1 (greatest_task past + 1 - 1) each)
    ∙ (length-range_with_len 1 (greatest_task past + 1 - 1) ∙ count)
  where
    count : greatest_task past + 1 - 1 ≡ length nodes
    count = let e : length nodes ≡ greatest_task past = are.count in omega arith

    made : (k : ℕ) (found : Option TaskNode) (origin : Option Origin) → is_some found ≡ true → found ≡ node_from k past origin → is_some origin ≡ true
    made k found None some is = let e : is_some found ≡ false = ap is_some is in absurd (cc)
    made k found (Some origin) some is = refl

    there : (place : ℕ) → place < length nodes → is_some (slice_get nodes place) ≡ true
    there place within = ap is_some (slice_get-get_or nodes place zero_node within)

    each : (j : ℕ) → 1 ≤ j → j < 1 + (greatest_task past + 1 - 1) → is_some (origin_of j past) ≡ true
    each j some below =
        let e : length nodes ≡ greatest_task past = are.count in
        let back : j - 1 + 1 ≡ j = omega arith in
        subst (λ (k : ℕ). is_some (origin_of k past) ≡ true) back
        (made (j - 1 + 1) (slice_get nodes (j - 1)) (origin_of (j - 1 + 1) past) (there (j - 1) (omega arith)) (are.each (j - 1)))

-- at first the initial task is pending
pub at_first : (nodes : List TaskNode) (past : List EventRecord) → Unbroken past → AreNodes nodes past → pending_order past (reverse (1 ∷ [])) ≡ tasks_in_order past
at_first nodes past unbroken are =
    ap (λ (origin : Option Origin). pending_trees past 1 origin ++ []) (initial_origin past unbroken)
    ∙ (append-nil (tree_of past 1 ++ []) ∙ (append-nil (tree_of past 1)
    ∙ ap (λ (depth : ℕ). tree_order past depth 1) (sym (task_count nodes past are ∙ are.count))))
