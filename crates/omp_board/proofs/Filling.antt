-- One more level of a snapshot.
use Rattle.std.proofs.Common.{◌≡◌, ℕ, zero, suc, ◌+◌, ◌-◌, ◌<◌, ◌≤◌, List, [], ◌∷◌, ◌++◌, ◌∙◌, length, slice_index_or, append-nil, refl, sym, ap, append_assoc, inl, inr, arith, take}
use Rattle.std.specs.Prelude.{reverse}
use Rattle.std.proofs.lemmas.Bool.Decides.{eqb_tells}
use Rattle.std.proofs.lemmas.List.{reverse-append, take_more, length-reverse, length-take-le}
use Rattle.ompt_calls.specs.declared.snapshot.TaskLevel.{TaskLevel}
use Rattle.ompt_calls.specs.declared.snapshot.RegionLevel.{RegionLevel}
use Rattle.omp_model.specs.declared.event.Event.{Event}
use Rattle.omp_model.specs.State.{World}
use Rattle.omp_model.specs.Snapshots.{down_from, levels_from, region_levels, regions_after, task_level}
use Rattle.omp_board.specs.Levels.{GoesOn, unless_again}

-- the lowest tasks of a stack, one more: that one stands above the others
one-more : (stack : List ℕ) (below : ℕ) (d : ℕ) → below < length stack → reverse (take (below + 1) stack) ≡ slice_index_or stack below d ∷ reverse (take below stack)
one-more stack below d within =
    ap reverse (take_more stack below d within) ∙ reverse-append (take below stack) (slice_index_or stack below d ∷ [])

-- one more level of a task
pub stack-more : (W : World) (t : ℕ) (event : Event) (u : ℕ) (stack : List ℕ) (below : ℕ) (d : ℕ) (levels after : List TaskLevel) (level : TaskLevel) → 0 < below → below ≤ length stack → level ≡ task_level W t event u (slice_index_or stack (below - 1) d) (below - 1) → after ≡ levels ++ level ∷ [] → after ++ levels_from W t event u (reverse (take (below - 1) stack)) ≡ levels ++ levels_from W t event u (reverse (take below stack))
unfolding levels_from
stack-more W t event u stack zero d levels after level some within is pushed = absurd (omega arith)
stack-more W t event u stack (suc below) d levels after level some within is pushed =
    let less : suc below - 1 ≡ below = omega arith in
    let next : suc below ≡ below + 1 = omega arith in
    let counted : length (reverse (take below stack)) ≡ below = length-reverse (take below stack) ∙ length-take-le below stack (omega (arith, within)) in
    rw (pushed, is, less, next, one-more stack below d (omega (arith, within)), counted) (append_assoc levels (task_level W t event u (slice_index_or stack below d) below ∷ []) (levels_from W t event u (reverse (take below stack))))

-- no level is left
pub stack-none : (W : World) (t : ℕ) (event : Event) (u : ℕ) (stack : List ℕ) (below : ℕ) (levels : List TaskLevel) → below ≤ 0 → levels ++ levels_from W t event u (reverse (take below stack)) ≡ levels
unfolding levels_from
stack-none W t event u stack zero levels none = append-nil levels
stack-none W t event u stack (suc below) levels none = absurd (omega arith)

-- one more level of a region, unless it is the last one again
region-more : (W : World) (last : ℕ) (level : TaskLevel) (rest : List TaskLevel) → unless_again W last level.region ++ regions_after W level.region.identity rest ≡ regions_after W last (level ∷ rest)
unfolding regions_after
region-more W last level rest =
    elim (eqb_tells level.region.identity last) [
      | inl again ↦ rw again.0 (ap (λ identity. regions_after W identity rest) again.1)
      | inr other ↦ rw other.0 refl
    ]

-- one more level of a task, and of its region
levels-more : (W : World) (t : ℕ) (event : Event) (u : ℕ) (stack : List ℕ) (below : ℕ) (d : ℕ) → 0 < below → below ≤ length stack → levels_from W t event u (reverse (take below stack)) ≡ task_level W t event u (slice_index_or stack (below - 1) d) (below - 1) ∷ levels_from W t event u (reverse (take (below - 1) stack))
unfolding levels_from
levels-more W t event u stack zero d some within = absurd (omega arith)
levels-more W t event u stack (suc below) d some within =
    let less : suc below - 1 ≡ below = omega arith in
    let next : suc below ≡ below + 1 = omega arith in
    let counted : length (reverse (take below stack)) ≡ below = length-reverse (take below stack) ∙ length-take-le below stack (omega (arith, within)) in
    rw (less, next, one-more stack below d (omega (arith, within)), counted) refl

pub regions-more : (W : World) (t : ℕ) (event : Event) (u : ℕ) (stack : List ℕ) (below : ℕ) (d last : ℕ) (regions after : List RegionLevel) (level : TaskLevel) → 0 < below → below ≤ length stack → level ≡ task_level W t event u (slice_index_or stack (below - 1) d) (below - 1) → after ≡ regions ++ unless_again W last level.region →
    (rest : List TaskLevel) → after ++ regions_after W level.region.identity (levels_from W t event u (reverse (take (below - 1) stack)) ++ rest) ≡ regions ++ regions_after W last (levels_from W t event u (reverse (take below stack)) ++ rest)
regions-more W t event u stack below d last regions after level some within is pushed rest =
    let others : List TaskLevel = levels_from W t event u (reverse (take (below - 1) stack)) in
    ap (λ (front : List RegionLevel). front ++ regions_after W level.region.identity (others ++ rest)) pushed
    ∙ append_assoc regions (unless_again W last level.region) (regions_after W level.region.identity (others ++ rest))
    ∙ ap (λ (more : List RegionLevel). regions ++ more) (region-more W last level (others ++ rest))
    ∙ ap (λ (levels : List TaskLevel). regions ++ regions_after W last (levels ++ rest)) (ap (λ (level : TaskLevel). level ∷ others) is ∙ sym (levels-more W t event u stack below d some within))

-- no level is left
pub regions-none : (W : World) (t : ℕ) (event : Event) (u : ℕ) (stack : List ℕ) (below last : ℕ) (rest : List TaskLevel) → below ≤ 0 → regions_after W last (levels_from W t event u (reverse (take below stack)) ++ rest) ≡ regions_after W last rest
unfolding levels_from
regions-none W t event u stack zero last rest none = refl
regions-none W t event u stack (suc below) last rest none = absurd (omega arith)

-- two stacks one after another
pub both-stacks : (W : World) (first second : List TaskLevel) (none between all : List RegionLevel) (last last_of_all : ℕ) → none ≡ [] → GoesOn W none 0 first between last → GoesOn W between last second all last_of_all → all ≡ region_levels W (first ++ second)
unfolding regions_after
both-stacks W first second none between all last last_of_all is one other =
    sym (append-nil all) ∙ other [] ∙ one (second ++ []) ∙ ap (λ (front : List RegionLevel). front ++ regions_after W 0 (first ++ (second ++ []))) is ∙ ap (λ (more : List TaskLevel). regions_after W 0 (first ++ more)) (append-nil second)

-- where the task stands on top, a stack from it on down is the whole stack; else it is that of the tasks below
pub down-here : (stack below : List ℕ) (top task : ℕ) → stack ≡ below ++ top ∷ [] → top ≡ task → reverse stack ≡ down_from task (reverse stack)
unfolding down_from
down-here stack below top task is same = elim (eqb_tells top task) [
  | inl here ↦ rw (is, reverse-append below (top ∷ []), here.0) refl
  | inr other ↦ absurd (other.1 same)
]

pub down-past : (stack below : List ℕ) (top task : ℕ) → stack ≡ below ++ top ∷ [] → (top ≡ task → ⊥) → down_from task (reverse below) ≡ down_from task (reverse stack)
unfolding down_from
down-past stack below top task is different = elim (eqb_tells top task) [
  | inl here ↦ absurd (different here.1)
  | inr other ↦ rw (is, reverse-append below (top ∷ []), other.0) refl
]

-- of no stack nothing is left
pub down-none : (stack : List ℕ) (task : ℕ) → length stack ≡ 0 → reverse stack ≡ down_from task (reverse stack)
unfolding down_from
down-none [] task none = refl
down-none (top ∷ below) task none = absurd (omega (arith, none))
