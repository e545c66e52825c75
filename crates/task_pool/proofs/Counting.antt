-- The counts and the order of the list of tasks, where the condition of one has changed or one was added.
use Rattle.std.proofs.Common.{◌≡◌, ◌≢◌, ℕ, ◌+◌, ◌-◌, ◌≤◌, ◌∙◌, ◌==◌, eqb, cond, Bool, true, false, not, ◌&&◌, if◌then◌else◌, List, [], ◌∷◌, ◌++◌, length, slice_index_or, refl, sym, ap, subst, inl, inr, arith}
use Rattle.std.specs.List.{count_by}
use Rattle.std.proofs.lemmas.Bool.{cases_eq, eq-eqb, ne_eqb}
use Rattle.std.proofs.lemmas.List.Sums.{sum_by-set, sum_by-append}
use Rattle.task_pool.specs.declared.task.Task.{Task}
use Rattle.task_pool.specs.declared.task.Condition.{Condition}
use Rattle.task_pool.specs.declared.task.Condition.TheVariants as condition
use Rattle.task_pool.specs.Tasks.{task_at, no_task, with_condition, is_finished, is_open, is_open_child, is_open_in, open_children, unfinished, is_explicit}
use Rattle.task_pool.specs.Links.{Rings, CountsTasks, AreInOrder, put}
use Rattle.task_pool.proofs.Setting.{at-other, put-same, put-other}
use Rattle.task_pool.proofs.Changing.{changed-keeps, changed-length}

and-true : (test : Bool) → (test && true) ≡ test
and-true true = refl
and-true false = refl

and-false : (test : Bool) → (test && false) ≡ false
and-false true = refl
and-false false = refl

pub not_finished : (one : Condition) → one ≢ condition.Finished → is_finished one ≡ false
not_finished condition.Made apart = refl
not_finished condition.Ready apart = refl
not_finished condition.Started apart = refl
not_finished condition.Finished apart = absurd (apart refl)

is_open-unfinished : (task : Task) → is_explicit task.kind ≡ true → task.condition ≢ condition.Finished → is_open task ≡ true
is_open-unfinished task explicit unfinished = rw (explicit, not_finished task.condition unfinished) refl

is_open-implicit : (task : Task) (first : Bool) → is_explicit task.kind ≡ false → (first && is_open task) ≡ false
is_open-implicit task first implicit = rw implicit (and-false first)

-- the counts of a parent, if it is one, and of a region
abbrev pub put_made : (ℕ → ℕ) → ℕ → ℕ → ℕ → ℕ
put_made counts at other = if at == 0 then counts else put counts at other

abbrev pub counted_at : Rings → ℕ → ℕ → ℕ → ℕ → Rings
counted_at R parent children region count = record R { children = put_made R.children parent children; unfinished = put R.unfinished region count }

put_made-none : (counts : ℕ → ℕ) (at other : ℕ) → counts 0 ≡ 0 → put_made counts at other 0 ≡ 0
put_made-none counts at other none = elim (cases_eq at 0) [
  | inl nowhere ↦ rw (eq-eqb at 0 nowhere) none
  | inr somewhere ↦ rw (ne_eqb at 0 somewhere) (put-other counts at other 0 (λ same. somewhere (sym same)) ∙ none)
]

put_made-here : (counts : ℕ → ℕ) (at other task : ℕ) → at ≡ task → task ≢ 0 → put_made counts at other task ≡ other
put_made-here counts at other task same some = rw (ne_eqb at 0 (λ none. some (sym same ∙ none))) (put-same counts at other task (sym same))

put_made-other : (counts : ℕ → ℕ) (at other task : ℕ) → task ≢ at → put_made counts at other task ≡ counts task
put_made-other counts at other task apart = elim (cases_eq at 0) [
  | inl nowhere ↦ rw (eq-eqb at 0 nowhere) refl
  | inr somewhere ↦ rw (ne_eqb at 0 somewhere) (put-other counts at other task apart)
]

-- a count after one task has changed
count-set : (test : Task → Bool) (tasks : List Task) (task : ℕ) (condition : Condition) → 1 ≤ task → task ≤ length tasks → count_by test (with_condition tasks task condition) + cond (test (task_at tasks task)) 1 0 ≡ count_by test tasks + cond (test (record (task_at tasks task) { condition = condition })) 1 0
count-set test tasks task condition above within =
    let some : task ≢ 0 = λ none. omega arith in
    rw (ne_eqb task 0 some) (sum_by-set (λ (one : Task). cond (test one) 1 0) tasks (task - 1) (record (slice_index_or tasks (task - 1) no_task) { condition = condition }) no_task (omega arith))

count-same : (test : Task → Bool) (tasks : List Task) (task : ℕ) (condition : Condition) → 1 ≤ task → task ≤ length tasks → test (record (task_at tasks task) { condition = condition }) ≡ test (task_at tasks task) → count_by test (with_condition tasks task condition) ≡ count_by test tasks
count-same test tasks task condition above within same =
    let one_for : Bool → ℕ = λ one. cond one 1 0 in
    omega (arith, count-set test tasks task condition above within, ap one_for same)

pub counts-changed : (R : Rings) (next previous : ℕ → ℕ) (next_in previous_in : ℕ → ℕ → ℕ) (task : ℕ) (condition : Condition) → CountsTasks R → 1 ≤ task → task ≤ length R.tasks → is_finished condition ≡ is_finished (task_at R.tasks task).condition → CountsTasks (record R { tasks = with_condition R.tasks task condition; next = next; previous = previous; next_in = next_in; previous_in = previous_in })
counts-changed R next previous next_in previous_in task condition counts above within same =
    let was : Task = task_at R.tasks task in
    record {
      children = λ parent. counts.children parent ∙ ap (λ (count : ℕ). cond (eqb parent 0) 0 count)
          (sym (count-same (is_open_child parent) R.tasks task condition above within (ap (λ (ended : Bool). was.parent == parent && (is_explicit was.kind && not ended)) same)));
      in_region = λ region. counts.in_region region ∙
          sym (count-same (is_open_in region) R.tasks task condition above within (ap (λ (ended : Bool). was.region == region && (is_explicit was.kind && not ended)) same));
    }

-- a task that isn't explicit isn't counted, whatever its condition
pub counts-uncounted : (R : Rings) (task : ℕ) (condition : Condition) → CountsTasks R → 1 ≤ task → task ≤ length R.tasks → is_explicit (task_at R.tasks task).kind ≡ false → CountsTasks (record R { tasks = with_condition R.tasks task condition })
counts-uncounted R task condition counts above within implicit =
    let was : Task = task_at R.tasks task in
    let is : Task = record was { condition = condition } in
    record {
      children = λ parent. counts.children parent ∙ ap (λ (count : ℕ). cond (eqb parent 0) 0 count)
          (sym (count-same (is_open_child parent) R.tasks task condition above within (is_open-implicit is (was.parent == parent) implicit ∙ sym (is_open-implicit was (was.parent == parent) implicit))));
      in_region = λ region. counts.in_region region ∙
          sym (count-same (is_open_in region) R.tasks task condition above within (is_open-implicit is (was.region == region) implicit ∙ sym (is_open-implicit was (was.region == region) implicit)));
    }

-- an explicit task that has finished is counted no more
is_open-ended : (task : Task) (first : Bool) → (first && (is_explicit task.kind && false)) ≡ false
is_open-ended task true = and-false (is_explicit task.kind)
is_open-ended task false = refl

counted-less : (test : Task → Bool) (first : Bool) (tasks : List Task) (task : ℕ) → 1 ≤ task → task ≤ length tasks → (task_at tasks task).condition ≢ condition.Finished → is_explicit (task_at tasks task).kind ≡ true → test (task_at tasks task) ≡ (first && is_open (task_at tasks task)) → test (record (task_at tasks task) { condition = condition.Finished }) ≡ (first && (is_explicit (task_at tasks task).kind && false)) → count_by test (with_condition tasks task condition.Finished) + cond first 1 0 ≡ count_by test tasks
counted-less test first tasks task above within unfinished explicit was is =
    let one_for : Bool → ℕ = λ one. cond one 1 0 in
    let counted : test (task_at tasks task) ≡ first = was ∙ (ap (λ (one : Bool). first && one) (is_open-unfinished (task_at tasks task) explicit unfinished) ∙ and-true first) in
    let gone : test (record (task_at tasks task) { condition = condition.Finished }) ≡ false = is ∙ is_open-ended (task_at tasks task) first in
    omega (arith, count-set test tasks task condition.Finished above within, ap one_for counted, ap one_for gone)

pub children-less : (tasks : List Task) (task parent : ℕ) → 1 ≤ task → task ≤ length tasks → (task_at tasks task).condition ≢ condition.Finished → is_explicit (task_at tasks task).kind ≡ true → count_by (is_open_child parent) (with_condition tasks task condition.Finished) + cond ((task_at tasks task).parent == parent) 1 0 ≡ count_by (is_open_child parent) tasks
children-less tasks task parent above within unfinished explicit = counted-less (is_open_child parent) ((task_at tasks task).parent == parent) tasks task above within unfinished explicit refl refl

pub region-less : (tasks : List Task) (task region : ℕ) → 1 ≤ task → task ≤ length tasks → (task_at tasks task).condition ≢ condition.Finished → is_explicit (task_at tasks task).kind ≡ true → count_by (is_open_in region) (with_condition tasks task condition.Finished) + cond ((task_at tasks task).region == region) 1 0 ≡ count_by (is_open_in region) tasks
region-less tasks task region above within unfinished explicit = counted-less (is_open_in region) ((task_at tasks task).region == region) tasks task above within unfinished explicit refl refl

pub counts-finished : (R : Rings) (task : ℕ) → CountsTasks R → 1 ≤ task → task ≤ length R.tasks → (task_at R.tasks task).condition ≢ condition.Finished → is_explicit (task_at R.tasks task).kind ≡ true → let was : Task = task_at R.tasks task in CountsTasks (record (counted_at R was.parent (R.children was.parent - 1) was.region (R.unfinished was.region - 1)) { tasks = with_condition R.tasks task condition.Finished })
counts-finished R task counts above within unfinished explicit =
    let was : Task = task_at R.tasks task in
    let ended : List Task = with_condition R.tasks task condition.Finished in
    record {
      children = λ parent. elim (cases_eq parent 0) [
        | inl none ↦ subst (λ (one : ℕ). put_made R.children was.parent (R.children was.parent - 1) one ≡ open_children ended one) (sym none)
            (put_made-none R.children was.parent (R.children was.parent - 1) (counts.children 0))
        | inr some ↦ elim (cases_eq was.parent parent) [
          | inl same ↦
              let less : count_by (is_open_child parent) ended + 1 ≡ count_by (is_open_child parent) R.tasks = rw (eq-eqb was.parent parent same) at (children-less R.tasks task parent above within unfinished explicit) in
              let had : R.children was.parent ≡ count_by (is_open_child parent) R.tasks = ap R.children same ∙ (counts.children parent ∙ at-other parent 0 0 _ some) in
              put_made-here R.children was.parent (R.children was.parent - 1) parent same some ∙ (omega (arith, less, had) ∙ sym (at-other parent 0 0 _ some))
          | inr apart ↦
              let less : count_by (is_open_child parent) ended + 0 ≡ count_by (is_open_child parent) R.tasks = rw (ne_eqb was.parent parent apart) at (children-less R.tasks task parent above within unfinished explicit) in
              put_made-other R.children was.parent (R.children was.parent - 1) parent (λ same. apart (sym same)) ∙ (counts.children parent ∙ (at-other parent 0 0 _ some ∙ (omega (arith, less) ∙ sym (at-other parent 0 0 _ some))))
        ]
      ];
      in_region = λ region. elim (cases_eq was.region region) [
        | inl same ↦
            let less : count_by (is_open_in region) ended + 1 ≡ count_by (is_open_in region) R.tasks = rw (eq-eqb was.region region same) at (region-less R.tasks task region above within unfinished explicit) in
            let had : R.unfinished was.region ≡ count_by (is_open_in region) R.tasks = ap R.unfinished same ∙ counts.in_region region in
            put-same R.unfinished was.region (R.unfinished was.region - 1) region (sym same) ∙ omega (arith, less, had)
        | inr apart ↦
            let less : count_by (is_open_in region) ended + 0 ≡ count_by (is_open_in region) R.tasks = rw (ne_eqb was.region region apart) at (region-less R.tasks task region above within unfinished explicit) in
            put-other R.unfinished was.region (R.unfinished was.region - 1) region (λ same. apart (sym same)) ∙ (counts.in_region region ∙ omega (arith, less))
      ];
    }

-- one more task
count-added : (test : Task → Bool) (tasks : List Task) (added : Task) → count_by test (tasks ++ added ∷ []) ≡ count_by test tasks + cond (test added) 1 0
count-added test tasks added =
    let one_for : Task → ℕ = λ one. cond (test one) 1 0 in
    omega (arith, sum_by-append one_for tasks (added ∷ []))

pub counts-added : (R : Rings) (added : Task) (room : ℕ) → CountsTasks R → is_explicit added.kind ≡ false → CountsTasks (record R { tasks = R.tasks ++ added ∷ []; room = room })
counts-added R added room counts implicit =
    let one_for : Bool → ℕ = λ one. cond one 1 0 in
    record {
      children = λ parent. counts.children parent ∙ ap (λ (count : ℕ). cond (eqb parent 0) 0 count)
          (omega (arith, count-added (is_open_child parent) R.tasks added, ap one_for (is_open-implicit added (added.parent == parent) implicit)));
      in_region = λ region. counts.in_region region ∙
          omega (arith, count-added (is_open_in region) R.tasks added, ap one_for (is_open-implicit added (added.region == region) implicit));
    }

pub counts-explicit : (R : Rings) (added : Task) (room : ℕ) → CountsTasks R → is_explicit added.kind ≡ true → added.condition ≢ condition.Finished → CountsTasks (record (counted_at R added.parent (R.children added.parent + 1) added.region (R.unfinished added.region + 1)) { tasks = R.tasks ++ added ∷ []; room = room })
counts-explicit R added room counts explicit unfinished =
    let one_for : Bool → ℕ = λ one. cond one 1 0 in
    let all : List Task = R.tasks ++ added ∷ [] in
    let child : (parent : ℕ) → count_by (is_open_child parent) all ≡ count_by (is_open_child parent) R.tasks + cond (added.parent == parent) 1 0 = λ parent.
    count-added (is_open_child parent) R.tasks added ∙ ap (λ (one : Bool). count_by (is_open_child parent) R.tasks + one_for one) (ap (λ (one : Bool). added.parent == parent && one) (is_open-unfinished added explicit unfinished) ∙ and-true (added.parent == parent)) in
    let inside : (region : ℕ) → count_by (is_open_in region) all ≡ count_by (is_open_in region) R.tasks + cond (added.region == region) 1 0 = λ region.
    count-added (is_open_in region) R.tasks added ∙ ap (λ (one : Bool). count_by (is_open_in region) R.tasks + one_for one) (ap (λ (one : Bool). added.region == region && one) (is_open-unfinished added explicit unfinished) ∙ and-true (added.region == region)) in
    record {
      children = λ parent. elim (cases_eq parent 0) [
        | inl none ↦ subst (λ (one : ℕ). put_made R.children added.parent (R.children added.parent + 1) one ≡ open_children all one) (sym none)
            (put_made-none R.children added.parent (R.children added.parent + 1) (counts.children 0))
        | inr some ↦ elim (cases_eq added.parent parent) [
          | inl same ↦
              let more : count_by (is_open_child parent) all ≡ count_by (is_open_child parent) R.tasks + 1 = rw (eq-eqb added.parent parent same) at (child parent) in
              let had : R.children added.parent ≡ count_by (is_open_child parent) R.tasks = ap R.children same ∙ (counts.children parent ∙ at-other parent 0 0 _ some) in
              put_made-here R.children added.parent (R.children added.parent + 1) parent same some ∙ (omega (arith, more, had) ∙ sym (at-other parent 0 0 _ some))
          | inr apart ↦
              let more : count_by (is_open_child parent) all ≡ count_by (is_open_child parent) R.tasks + 0 = rw (ne_eqb added.parent parent apart) at (child parent) in
              put_made-other R.children added.parent (R.children added.parent + 1) parent (λ same. apart (sym same)) ∙ (counts.children parent ∙ (at-other parent 0 0 _ some ∙ (omega (arith, more) ∙ sym (at-other parent 0 0 _ some))))
        ]
      ];
      in_region = λ region. elim (cases_eq added.region region) [
        | inl same ↦
            let more : count_by (is_open_in region) all ≡ count_by (is_open_in region) R.tasks + 1 = rw (eq-eqb added.region region same) at (inside region) in
            let had : R.unfinished added.region ≡ count_by (is_open_in region) R.tasks = ap R.unfinished same ∙ counts.in_region region in
            put-same R.unfinished added.region (R.unfinished added.region + 1) region (sym same) ∙ omega (arith, more, had)
        | inr apart ↦
            let more : count_by (is_open_in region) all ≡ count_by (is_open_in region) R.tasks + 0 = rw (ne_eqb added.region region apart) at (inside region) in
            put-other R.unfinished added.region (R.unfinished added.region + 1) region (λ same. apart (sym same)) ∙ (counts.in_region region ∙ omega (arith, more))
      ];
    }

pub order-changed : (tasks : List Task) (places task : ℕ) (condition : Condition) → AreInOrder tasks places → 1 ≤ task → task ≤ length tasks → AreInOrder (with_condition tasks task condition) places
order-changed tasks places task condition sound above within =
    let same_parent = changed-keeps (λ (one : Task). one.parent) tasks task condition above within refl in
    let same_region = changed-keeps (λ (one : Task). one.region) tasks task condition above within refl in
    record {
      parents = λ one some. omega (arith, same_parent one, sound.parents one some);
      regions = λ one some made. omega (arith, same_region one, sound.regions one some (omega (arith, made, changed-length tasks task condition)));
      few = omega (arith, changed-length tasks task condition, sound.few);
    }
