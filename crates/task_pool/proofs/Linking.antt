-- What the calls that put a task last, take one out, make one and count make of the links.
use Rattle.std.proofs.Common.{◌≡◌, ◌≢◌, ℕ, ◌<◌, ◌≤◌, ◌∙◌, true, List, length, refl, sym, ap, arith}
use Rattle.std.proofs.lemmas.Bool.{eq-eqb, ne_eqb}
use Rattle.std.proofs.lemmas.List.{length-map}
use Rattle.task_pool.specs.declared.task.Task.{Task}
use Rattle.task_pool.specs.declared.node.Links.{Links}
use Rattle.task_pool.specs.declared.node.Node.{Node}
use Rattle.task_pool.specs.Tasks.{task_at, is_ready}
use Rattle.task_pool.specs.Chain.{ChainView, node_at, region_at, links_set, next_set, previous_set, next_in_region_set, previous_in_region_set}
use Rattle.task_pool.specs.Links.{Rings, of_node, of_region, task_of, next_part, previous_part, next_in_part, previous_in_part, first_part, last_part, rings_of, tasks_of, put, put_in, with_task_last, with_task_out, region_in, AreLinked, ready_of, times_in, one_if, is_of_region, part_of}
use Rattle.task_pool.proofs.Setting.{links_set-rings, next_set-rings, previous_set-rings, next_in_set-rings, previous_in_set-rings}
use Rattle.task_pool.proofs.Times.{times-part}
use Rattle.task_pool.proofs.Circles.{ring-ends, ring-near}
use Rattle.task_pool.proofs.Changing.{node-task}
use Rattle.task_pool.proofs.Spelling.{ready-made, part-made}

-- the ends of the orders, and the neighbours of a ready task, were made or are 0
pub ends-made : (R : Rings) (region : ℕ) → AreLinked R → (R.previous 0 ≤ length R.tasks) × (R.previous_in region 0 ≤ length R.tasks)
ends-made R region linked =
    let ready = ready_of R in
    let spells = linked.order in (
      ring-ends (λ (one : ℕ). one ≤ length R.tasks) R.next R.previous 0 ready (omega arith) (λ one there. (ready-made R ready one spells there).1) spells.order,
      ring-ends (λ (one : ℕ). one ≤ length R.tasks) (R.next_in region) (R.previous_in region) 0 (part_of R.tasks ready region) (omega arith) (λ one there. part-made R ready region one spells there) (spells.in_region region),
    )

abbrev put_last : Rings → ℕ → ℕ → ℕ → ℕ → Rings
put_last R task region last last_in = record R {
  next = put (put R.next task 0) last task;
  previous = put (put R.previous task last) 0 task;
  next_in = put_in region (put_in region R.next_in task 0) last_in task;
  previous_in = put_in region (put_in region R.previous_in task last_in) 0 task;
}

pub link_last-rings : (C C₁ C₂ C₃ C₄ C₅ : ChainView) (task region last last_in : ℕ) (order beside : Links) → AreLinked (rings_of C) → 1 ≤ task → task ≤ length (tasks_of C) → region ≡ (node_at C.nodes task).task.region → last ≡ C.last → last_in ≡ (region_at C.regions region).last_ready → order ≡ record { previous = last; next = 0 } → beside ≡ record { previous = last_in; next = 0 } → C₁ ≡ links_set C task order beside → C₂ ≡ next_set C₁ last task → C₃ ≡ previous_set C₂ 0 task → C₄ ≡ next_in_region_set C₃ region last_in task → C₅ ≡ previous_in_region_set C₄ region 0 task → rings_of C₅ ≡ with_task_last (rings_of C) task
link_last-rings C C₁ C₂ C₃ C₄ C₅ task region last last_in order beside linked above within is_region is_last is_last_in is_order is_beside one two three four five =
    let R : Rings = rings_of C in
    let made : task ≤ length C.nodes = omega (arith, length-map C.nodes task_of) in
    let of_task : region ≡ region_in R.tasks task = is_region ∙ ap (λ (one : Task). one.region) (node-task C.nodes task) in
    let place : region < R.regions = omega (arith, of_task, linked.sound.regions task above within) in
    let ends = ends-made R region linked in
    let last_made : last ≤ length R.tasks = omega (arith, is_last, ends.0) in
    let last_in_made : last_in ≤ length R.tasks = omega (arith, is_last_in, ends.1) in
    let R₁ : Rings = record R { next = put R.next task order.next; previous = put R.previous task order.previous; next_in = put_in region R.next_in task beside.next; previous_in = put_in region R.previous_in task beside.previous } in
    let e₁ : rings_of C₁ ≡ R₁ = ap rings_of one ∙ links_set-rings C region task order beside above made in
    let R₂ : Rings = record R₁ { next = put R₁.next last task } in
    let e₂ : rings_of C₂ ≡ R₂ = ap rings_of two ∙ next_set-rings C₁ R₁ last task e₁ last_made in
    let R₃ : Rings = record R₂ { previous = put R₂.previous 0 task } in
    let e₃ : rings_of C₃ ≡ R₃ = ap rings_of three ∙ previous_set-rings C₂ R₂ 0 task e₂ (omega arith) in
    let R₄ : Rings = record R₃ { next_in = put_in region R₃.next_in last_in task } in
    let e₄ : rings_of C₄ ≡ R₄ = ap rings_of four ∙ next_in_set-rings C₃ R₃ region last_in task e₃ last_in_made place in
    let R₅ : Rings = record R₄ { previous_in = put_in region R₄.previous_in 0 task } in
    let e₅ : rings_of C₅ ≡ R₅ = ap rings_of five ∙ previous_in_set-rings C₄ R₄ region 0 task e₄ (omega arith) place in
    let with_links : (one two : Links) → Rings = λ one two. record R {
      next = put (put R.next task one.next) last task;
      previous = put (put R.previous task one.previous) 0 task;
      next_in = put_in region (put_in region R.next_in task two.next) last_in task;
      previous_in = put_in region (put_in region R.previous_in task two.previous) 0 task;
    } in
    e₅ ∙ (ap (λ (one : Links). with_links one beside) is_order ∙ (ap (with_links (record { previous = last; next = 0 })) is_beside ∙
    (ap (λ (one : ℕ). put_last R task region one last_in) is_last ∙
    (ap (λ (one : ℕ). put_last R task region C.last one) is_last_in ∙
    ap (λ (one : ℕ). put_last R task one C.last (of_region last_part C.regions one)) of_task))))

-- the links of a task, where it is one
pub links-read : (part : Node → ℕ) (ending : ℕ) (nodes : List Node) (task : ℕ) → task ≢ 0 → part (node_at nodes task) ≡ of_node part ending nodes task
links-read part ending nodes task some = rw (ne_eqb task 0 some) refl

abbrev mended : Rings → ℕ → ℕ → ℕ → ℕ → ℕ → Rings
mended R region before after before_in after_in = record R {
  next = put R.next before after;
  previous = put R.previous after before;
  next_in = put_in region R.next_in before_in after_in;
  previous_in = put_in region R.previous_in after_in before_in;
}

pub unlink-rings : (C C₁ C₂ C₃ C₄ : ChainView) (task region : ℕ) (order beside : Links) → AreLinked (rings_of C) → is_ready (task_at (tasks_of C) task).condition ≡ true → region ≡ (node_at C.nodes task).task.region → order ≡ (node_at C.nodes task).in_order → beside ≡ (node_at C.nodes task).in_region → C₁ ≡ next_set C order.previous order.next → C₂ ≡ previous_set C₁ order.next order.previous → C₃ ≡ next_in_region_set C₂ region beside.previous beside.next → C₄ ≡ previous_in_region_set C₃ region beside.next beside.previous → rings_of C₄ ≡ with_task_out (rings_of C) task
unlink-rings C C₁ C₂ C₃ C₄ task region order beside linked ready_now is_region is_order is_beside one two three four =
    let R : Rings = rings_of C in
    let ready = ready_of R in
    let spells = linked.order in
    let there : times_in ready task ≡ 1 = spells.once task ∙ ap one_if ready_now in
    let made = ready-made R ready task spells (omega (arith, there)) in
    let some : task ≢ 0 = λ none. omega (arith, made.0) in
    let of_task : region ≡ region_in R.tasks task = is_region ∙ ap (λ (one : Task). one.region) (node-task C.nodes task) in
    let place : region < R.regions = omega (arith, of_task, linked.sound.regions task made.0 made.1) in
    let before_is : order.previous ≡ R.previous task = ap (λ (links : Links). links.previous) is_order ∙ links-read previous_part C.last C.nodes task some in
    let after_is : order.next ≡ R.next task = ap (λ (links : Links). links.next) is_order ∙ links-read next_part C.first C.nodes task some in
    let before_in_is : beside.previous ≡ R.previous_in region task = ap (λ (links : Links). links.previous) is_beside ∙ links-read previous_in_part (of_region last_part C.regions region) C.nodes task some in
    let after_in_is : beside.next ≡ R.next_in region task = ap (λ (links : Links). links.next) is_beside ∙ links-read next_in_part (of_region first_part C.regions region) C.nodes task some in
    let near = ring-near (λ (one : ℕ). one ≤ length R.tasks) R.next R.previous 0 ready task (omega arith) (omega arith) (λ one is. (ready-made R ready one spells is).1) (omega (arith, there)) spells.order in
    let in_part : times_in (part_of R.tasks ready region) task ≡ 1 = times-part (is_of_region R.tasks region) ready task (eq-eqb (region_in R.tasks task) region (sym of_task)) ∙ there in
    let near_in = ring-near (λ (one : ℕ). one ≤ length R.tasks) (R.next_in region) (R.previous_in region) 0 (part_of R.tasks ready region) task (omega arith) (omega arith) (λ one is. part-made R ready region one spells is) (omega (arith, in_part)) (spells.in_region region) in
    let R₁ : Rings = record R { next = put R.next order.previous order.next } in
    let e₁ : rings_of C₁ ≡ R₁ = ap rings_of one ∙ next_set-rings C R order.previous order.next refl (omega (arith, before_is, near.0)) in
    let R₂ : Rings = record R₁ { previous = put R₁.previous order.next order.previous } in
    let e₂ : rings_of C₂ ≡ R₂ = ap rings_of two ∙ previous_set-rings C₁ R₁ order.next order.previous e₁ (omega (arith, after_is, near.1)) in
    let R₃ : Rings = record R₂ { next_in = put_in region R₂.next_in beside.previous beside.next } in
    let e₃ : rings_of C₃ ≡ R₃ = ap rings_of three ∙ next_in_set-rings C₂ R₂ region beside.previous beside.next e₂ (omega (arith, before_in_is, near_in.0)) place in
    let R₄ : Rings = record R₃ { previous_in = put_in region R₃.previous_in beside.next beside.previous } in
    let e₄ : rings_of C₄ ≡ R₄ = ap rings_of four ∙ previous_in_set-rings C₃ R₃ region beside.next beside.previous e₃ (omega (arith, after_in_is, near_in.1)) place in
    e₄ ∙ (ap (λ (one : ℕ). mended R region one order.next beside.previous beside.next) before_is ∙
    (ap (λ (one : ℕ). mended R region (R.previous task) one beside.previous beside.next) after_is ∙
    (ap (λ (one : ℕ). mended R region (R.previous task) (R.next task) one beside.next) before_in_is ∙
    (ap (λ (one : ℕ). mended R region (R.previous task) (R.next task) (R.previous_in region task) one) after_in_is ∙
    ap (λ (one : ℕ). mended R one (R.previous task) (R.next task) (R.previous_in one task) (R.next_in one task)) of_task))))
