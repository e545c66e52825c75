-- One more task at the end of the list, and room for one: the ready order and the counts are as they were.
use Rattle.std.proofs.Common.{◌≡◌, ◌≢◌, ℕ, ◌+◌, ◌-◌, ◌<◌, ◌≤◌, ◌∙◌, ◌==◌, cond, Bool, false, List, [], ◌∷◌, ◌++◌, length, filter, slice_index_or, refl, sym, ap, subst, inl, inr, arith, length-append}
use Rattle.std.proofs.lemmas.Bool.{cases_eq, cases_lt, eq-eqb, ne_eqb}
use Rattle.std.proofs.lemmas.List.{get_or_append_left, get_or_past}
use Rattle.std.proofs.Math.Seq.{get_or-append_seam}
use Rattle.task_pool.specs.declared.task.Task.{Task}
use Rattle.task_pool.specs.declared.task.TheConstants.{TASK_LIMIT}
use Rattle.task_pool.specs.Tasks.{task_at, no_task, is_ready, MayBeParent}
use Rattle.task_pool.specs.Chain.{no_chain}
use Rattle.task_pool.specs.Links.{Rings, SpellsOrder, AreInOrder, AreLinked, IsRing, rings_of, is_of_region, part_of, times_in, one_if}
use Rattle.task_pool.proofs.Times.{times-here, times-there}
use Rattle.task_pool.proofs.Spelling.{ready-made, spells-exactly}

task_at-old : (tasks : List Task) (added : Task) (task : ℕ) → task ≤ length tasks → task_at (tasks ++ added ∷ []) task ≡ task_at tasks task
task_at-old tasks added task within = elim (cases_eq task 0) [
  | inl none ↦ rw (eq-eqb task 0 none) refl
  | inr some ↦ rw (ne_eqb task 0 some) (get_or_append_left tasks (added ∷ []) no_task (task - 1) (omega arith))
]

task_at-new : (tasks : List Task) (added : Task) → task_at (tasks ++ added ∷ []) (length tasks + 1) ≡ added
task_at-new tasks added =
    let some : length tasks + 1 ≢ 0 = λ none. omega arith in
    let place : length tasks + 1 - 1 ≡ length tasks = omega arith in
    rw (ne_eqb (length tasks + 1) 0 some) (ap (λ (k : ℕ). slice_index_or (tasks ++ added ∷ []) k no_task) place ∙ get_or-append_seam tasks added [] no_task)

task_at-behind : (tasks : List Task) (added : Task) (task : ℕ) → length tasks + 1 < task → task_at (tasks ++ added ∷ []) task ≡ no_task
task_at-behind tasks added task behind = rw (ne_eqb task 0 (λ none. omega arith)) (get_or_past (tasks ++ added ∷ []) (task - 1) no_task (omega (arith, length-append tasks (added ∷ []))))

-- what holds of the task that was added, and of no task, as it held of each
added-part : {X : Type 0} (part : Task → X) (tasks : List Task) (added : Task) → part added ≡ part no_task → (task : ℕ) → part (task_at (tasks ++ added ∷ []) task) ≡ part (task_at tasks task)
added-part part tasks added same task = elim (cases_lt (length tasks) task) [
  | inl past ↦
      let was : task_at tasks task ≡ no_task = rw (ne_eqb task 0 (λ none. omega arith)) (get_or_past tasks (task - 1) no_task (omega arith)) in
      elim (cases_eq task (length tasks + 1)) [
        | inl here ↦ ap (λ (one : ℕ). part (task_at (tasks ++ added ∷ []) one)) here ∙ (ap part (task_at-new tasks added) ∙ (same ∙ sym (ap part was)))
        | inr other ↦ ap part (task_at-behind tasks added task (omega arith)) ∙ sym (ap part was)
      ]
  | inr within ↦ ap part (task_at-old tasks added task within)
]

-- two tests that agree on a list pick the same of it
filter-same : (p q : ℕ → Bool) (xs : List ℕ) → ((task : ℕ) → 1 ≤ times_in xs task → p task ≡ q task) → filter p xs ≡ filter q xs
filter-same p q [] agree = refl
filter-same p q (x ∷ xs) agree =
    let here : p x ≡ q x = agree x (omega (arith, times-here x x xs refl)) in
    let rest : filter p xs ≡ filter q xs = filter-same p q xs (λ task there. agree task (elim (cases_eq x task) [
      | inl same ↦ omega (arith, times-here x task xs same)
      | inr apart ↦ omega (arith, times-there x task xs apart)
    ])) in
    ap (λ (test : Bool). cond test (x ∷ filter p xs) (filter p xs)) here ∙ ap (λ (others : List ℕ). cond (q x) (x ∷ others) others) rest

pub spells-added : (R : Rings) (ready : List ℕ) (added : Task) (room : ℕ) (children unfinished : ℕ → ℕ) → SpellsOrder R ready → is_ready added.condition ≡ false → SpellsOrder (record R { tasks = R.tasks ++ added ∷ []; room = room; children = children; unfinished = unfinished }) ready
spells-added R ready added room children unfinished spells fresh = record {
  order = spells.order;
  in_region = λ region.
      let same : part_of (R.tasks ++ added ∷ []) ready region ≡ part_of R.tasks ready region = filter-same (is_of_region (R.tasks ++ added ∷ []) region) (is_of_region R.tasks region) ready
      (λ task there. ap (λ (one : Task). one.region == region) (task_at-old R.tasks added task (ready-made R ready task spells there).1)) in
      subst (IsRing (R.next_in region) (R.previous_in region) 0) (sym same) (spells.in_region region);
  once = λ task. spells.once task ∙ sym (added-part (λ (one : Task). one_if (is_ready one.condition)) R.tasks added (ap one_if fresh) task);
}

pub parent-made : (tasks : List Task) (parent : ℕ) → MayBeParent tasks parent → parent ≤ length tasks
parent-made [] parent may = omega (arith, may)
parent-made (first ∷ others) parent may = may.1

pub order-added : (tasks : List Task) (places : ℕ) (added : Task) → AreInOrder tasks places → length tasks ≢ TASK_LIMIT → MayBeParent tasks added.parent → added.region < places → AreInOrder (tasks ++ added ∷ []) places
order-added tasks places added sound room parent place =
    let above : added.parent ≤ length tasks = parent-made tasks added.parent parent in
    record {
      parents = λ task some. elim (cases_lt (length tasks) task) [
        | inl past ↦ elim (cases_eq task (length tasks + 1)) [
          | inl here ↦ omega (arith, ap (λ (one : ℕ). (task_at (tasks ++ added ∷ []) one).parent) here ∙ ap (λ (one : Task). one.parent) (task_at-new tasks added))
          | inr other ↦ omega (arith, ap (λ (one : Task). one.parent) (task_at-behind tasks added task (omega arith)))
        ]
        | inr within ↦ omega (arith, ap (λ (one : Task). one.parent) (task_at-old tasks added task within), sound.parents task some)
      ];
      regions = λ task some made. elim (cases_lt (length tasks) task) [
        | inl past ↦
            let here : task ≡ length tasks + 1 = omega (arith, made, length-append tasks (added ∷ [])) in
            omega (arith, ap (λ (one : ℕ). (task_at (tasks ++ added ∷ []) one).region) here ∙ ap (λ (one : Task). one.region) (task_at-new tasks added))
        | inr within ↦ omega (arith, ap (λ (one : Task). one.region) (task_at-old tasks added task within), sound.regions task some within)
      ];
      few = omega (arith, length-append tasks (added ∷ []), sound.few, room);
    }

pub linked-none : AreLinked (rings_of no_chain)
unfolding IsRing times_in
linked-none =
    let R : Rings = rings_of no_chain in
    let nothing : (task : ℕ) → task_at [] task ≡ no_task = λ task. elim (cases_eq task 0) [
      | inl none ↦ rw (eq-eqb task 0 none) refl
      | inr some ↦ rw (ne_eqb task 0 some) refl
    ] in
    let spells : SpellsOrder R [] = record {
      order = (refl, refl);
      in_region = λ region. (refl, refl);
      once = λ task. sym (ap (λ (one : Task). one_if (is_ready one.condition)) (nothing task));
    } in
    record {
      order = subst (SpellsOrder R) (sym (spells-exactly R [] spells)) spells;
      counts = record {
        children = λ task. elim (cases_eq task 0) [
          | inl none ↦ rw (eq-eqb task 0 none) refl
          | inr some ↦ rw (ne_eqb task 0 some) refl
        ];
        in_region = λ region. refl;
      };
      sound = record {
        parents = λ task some. omega (arith, ap (λ (one : Task). one.parent) (nothing task));
        regions = λ task some made. absurd (omega arith);
        few = omega arith;
      };
    }
