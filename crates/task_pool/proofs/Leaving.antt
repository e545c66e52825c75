-- Links that spell the ready order after a task was taken out, and where only its condition has changed.
use Rattle.std.proofs.Common.{◌≡◌, ◌≢◌, ℕ, ◌≤◌, ◌∙◌, false, List, length, filter, refl, sym, ap, subst, inl, inr, arith}
use Rattle.std.proofs.lemmas.Bool.{cases_eq, eq-eqb, ne_eqb}
use Rattle.task_pool.specs.declared.task.Task.{Task}
use Rattle.task_pool.specs.declared.task.Condition.{Condition}
use Rattle.task_pool.specs.declared.task.Condition.TheVariants as condition
use Rattle.task_pool.specs.Tasks.{task_at, with_condition, is_ready}
use Rattle.task_pool.specs.View.{is_other}
use Rattle.task_pool.specs.Links.{Rings, SpellsOrder, IsRing, times_in, one_if, region_in, is_of_region, part_of, put, put_in, with_task_out}
use Rattle.task_pool.proofs.Times.{times-part, times-no_part, without-absent, filter-swap}
use Rattle.task_pool.proofs.Circles.{ring-neighbours, ring-near, ring-same, ring-without}
use Rattle.task_pool.proofs.Changing.{changed-other, changed-here, changed-part}
use Rattle.task_pool.proofs.Spelling.{IsOf, ready-made, put_in-own, put_in-other, part-of, of-other}

-- the order of the task's region
out-of : (R : Rings) (ready : List ℕ) (task region : ℕ) → SpellsOrder R ready → task ≢ 0 → times_in ready task ≡ 1 → region_in R.tasks task ≡ region → IsRing (put_in region R.next_in (R.previous_in region task) (R.next_in region task) region) (put_in region R.previous_in (R.next_in region task) (R.previous_in region task) region) 0 (filter (is_other task) (part_of R.tasks ready region))
out-of R ready task region spells some once here =
    let part = part_of R.tasks ready region in
    let ring = spells.in_region region in
    let there : times_in part task ≡ 1 = times-part (is_of_region R.tasks region) ready task (eq-eqb (region_in R.tasks task) region here) ∙ once in
    let beside = ring-neighbours (R.next_in region) (R.previous_in region) 0 part task (omega (arith, there)) ring in
    let without = ring-without (R.next_in region) (R.previous_in region) 0 part task beside.0 beside.1 some (λ none. some (sym none)) there ring in
    subst (λ (link : ℕ → ℕ). IsRing link (put_in region R.previous_in (R.next_in region task) (R.previous_in region task) region) 0 (filter (is_other task) part)) (sym (put_in-own region R.next_in (R.previous_in region task) (R.next_in region task) region refl))
    (subst (λ (link : ℕ → ℕ). IsRing (put (R.next_in region) (R.previous_in region task) (R.next_in region task)) link 0 (filter (is_other task) part)) (sym (put_in-own region R.previous_in (R.next_in region task) (R.previous_in region task) region refl))
    without)

-- the order of another one
out-beside : (R : Rings) (ready : List ℕ) (task region of : ℕ) → SpellsOrder R ready → times_in ready task ≡ 1 → region_in R.tasks task ≡ region → of ≢ region → IsRing (put_in region R.next_in (R.previous_in region task) (R.next_in region task) of) (put_in region R.previous_in (R.next_in region task) (R.previous_in region task) of) 0 (filter (is_other task) (part_of R.tasks ready of))
out-beside R ready task region of spells once here apart =
    let part = part_of R.tasks ready of in
    let own = part_of R.tasks ready region in
    let there : times_in own task ≡ 1 = times-part (is_of_region R.tasks region) ready task (eq-eqb (region_in R.tasks task) region here) ∙ once in
    let beside = ring-near (IsOf R.tasks region) (R.next_in region) (R.previous_in region) 0 own task (inl refl) (inl refl) (λ one is. inr (part-of R.tasks ready region one is)) (omega (arith, there)) (spells.in_region region) in
    let absent : times_in part task ≡ 0 = times-no_part (is_of_region R.tasks of) ready task (ne_eqb (region_in R.tasks task) of (λ same. apart (sym same ∙ here))) in
    let next_is : (one : ℕ) → IsOf R.tasks of one → put_in region R.next_in (R.previous_in region task) (R.next_in region task) of one ≡ R.next_in of one = λ one is.
    put_in-other region R.next_in (R.previous_in region task) (R.next_in region task) of one apart (of-other R.tasks region of (R.previous_in region task) one apart beside.0 is) in
    let previous_is : (one : ℕ) → IsOf R.tasks of one → put_in region R.previous_in (R.next_in region task) (R.previous_in region task) of one ≡ R.previous_in of one = λ one is.
    put_in-other region R.previous_in (R.next_in region task) (R.previous_in region task) of one apart (of-other R.tasks region of (R.next_in region task) one apart beside.1 is) in
    rw (without-absent task part absent)
    (ring-same (R.next_in of) (R.previous_in of) (put_in region R.next_in (R.previous_in region task) (R.next_in region task) of) (put_in region R.previous_in (R.next_in region task) (R.previous_in region task) of) 0 part
    (next_is 0 (inl refl)) (previous_is 0 (inl refl))
    (λ one there. let is = part-of R.tasks ready of one there in (next_is one (inr is), previous_is one (inr is)))
    (spells.in_region of))

abbrev pub taken_out : Rings → ℕ → Rings
taken_out R task = record (with_task_out R task) { tasks = with_condition R.tasks task condition.Started }

pub spells-out : (R : Rings) (ready : List ℕ) (task : ℕ) → SpellsOrder R ready → (task_at R.tasks task).condition ≡ condition.Ready → SpellsOrder (taken_out R task) (filter (is_other task) ready)
spells-out R ready task spells is_ready_now =
    let there : times_in ready task ≡ 1 = spells.once task ∙ ap (λ (one : Condition). one_if (is_ready one)) is_ready_now in
    let made = ready-made R ready task spells (omega (arith, there)) in
    let some : task ≢ 0 = λ none. omega (arith, made.0) in
    let region = region_in R.tasks task in
    let beside = ring-neighbours R.next R.previous 0 ready task (omega (arith, there)) spells.order in
    record {
      order = ring-without R.next R.previous 0 ready task beside.0 beside.1 some (λ none. some (sym none)) there spells.order;
      in_region = λ of.
          let parts : part_of (with_condition R.tasks task condition.Started) (filter (is_other task) ready) of ≡ filter (is_other task) (part_of R.tasks ready of) =
          changed-part R.tasks task condition.Started (filter (is_other task) ready) of made.0 made.1 ∙ filter-swap (is_of_region R.tasks of) (is_other task) ready in
          let links = taken_out R task in
          subst (IsRing (links.next_in of) (links.previous_in of) 0) (sym parts) (elim (cases_eq region of) [
            | inl here ↦ subst (λ (of : ℕ). IsRing (links.next_in of) (links.previous_in of) 0 (filter (is_other task) (part_of R.tasks ready of))) here (out-of R ready task region spells some there refl)
            | inr other ↦ out-beside R ready task region of spells there refl (λ same. other (sym same))
          ]);
      once = λ one. elim (cases_eq one task) [
        | inl same ↦ subst (λ (one : ℕ). times_in (filter (is_other task) ready) one ≡ one_if (is_ready (task_at (with_condition R.tasks task condition.Started) one).condition)) (sym same)
            (let is : one_if (is_ready (task_at (with_condition R.tasks task condition.Started) task).condition) ≡ 0 = ap (λ (one : Task). one_if (is_ready one.condition)) (changed-here R.tasks task condition.Started made.0 made.1) in
            times-no_part (is_other task) ready task (rw (eq-eqb task task refl) refl) ∙ sym is)
        | inr other ↦
            let is : one_if (is_ready (task_at (with_condition R.tasks task condition.Started) one).condition) ≡ one_if (is_ready (task_at R.tasks one).condition) = ap (λ (one : Task). one_if (is_ready one.condition)) (changed-other R.tasks task one condition.Started other) in
            times-part (is_other task) ready one (rw (ne_eqb one task other) refl) ∙ (spells.once one ∙ sym is)
      ];
    }

-- a task that wasn't ready, and isn't
pub spells-changed : (R : Rings) (ready : List ℕ) (task : ℕ) (condition : Condition) → SpellsOrder R ready → 1 ≤ task → task ≤ length R.tasks → is_ready (task_at R.tasks task).condition ≡ false → is_ready condition ≡ false → SpellsOrder (record R { tasks = with_condition R.tasks task condition }) ready
spells-changed R ready task condition spells above within was is = record {
  order = spells.order;
  in_region = λ of. subst (IsRing (R.next_in of) (R.previous_in of) 0) (sym (changed-part R.tasks task condition ready of above within)) (spells.in_region of);
  once = λ one. elim (cases_eq one task) [
    | inl same ↦ subst (λ (one : ℕ). times_in ready one ≡ one_if (is_ready (task_at (with_condition R.tasks task condition) one).condition)) (sym same)
        (spells.once task ∙ (ap one_if (was ∙ sym is) ∙ sym (ap (λ (one : Task). one_if (is_ready one.condition)) (changed-here R.tasks task condition above within))))
    | inr other ↦ spells.once one ∙ sym (ap (λ (one : Task). one_if (is_ready one.condition)) (changed-other R.tasks task one condition other))
  ];
}
