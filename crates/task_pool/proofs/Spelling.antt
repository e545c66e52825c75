-- Links that spell the ready order: what they say, and that they spell it after a task was put last or taken out.
use Rattle.std.proofs.Common.{◌≡◌, ◌≢◌, ℕ, ◌≤◌, ◌∙◌, ◌⊎◌, Bool, true, false, List, [], ◌∷◌, ◌++◌, length, filter, refl, sym, ap, subst, inl, inr, arith}
use Rattle.std.proofs.lemmas.Bool.{cases_eq, cases_lt, eq-eqb, ne_eqb, eqb-true}
use Rattle.std.proofs.lemmas.List.{append-nil}
use Rattle.std.proofs.lemmas.List.Elements.{filter-append}
use Rattle.std.proofs.Math.Path.{fun_ext}
use Rattle.task_pool.specs.declared.task.Task.{Task}
use Rattle.task_pool.specs.declared.task.Condition.{Condition}
use Rattle.task_pool.specs.declared.task.Condition.TheVariants as condition
use Rattle.task_pool.specs.Tasks.{task_at, with_condition, is_ready}
use Rattle.task_pool.specs.Links.{Rings, SpellsOrder, IsRing, ready_of, times_in, one_if, region_in, is_of_region, part_of, put, put_in, with_task_last}
use Rattle.task_pool.proofs.Times.{times-here, times-there, times-nil, times-append, times-passes, times-part-le, few}
use Rattle.task_pool.proofs.Circles.{ring-closes, ring-ends, ring-same, ring-follow, ring-last}
use Rattle.task_pool.proofs.Changing.{task_at-past, changed-other, changed-here, changed-part}

pub one_if-le : (test : Bool) → one_if test ≤ 1
one_if-le true = omega arith
one_if-le false = omega arith

-- 0 isn't ready, and what is ready was made
pub ready-nowhere : (R : Rings) (ready : List ℕ) → SpellsOrder R ready → times_in ready 0 ≡ 0
ready-nowhere R ready spells = spells.once 0

pub ready-made : (R : Rings) (ready : List ℕ) (task : ℕ) → SpellsOrder R ready → 1 ≤ times_in ready task → (1 ≤ task) × (task ≤ length R.tasks)
ready-made R ready task spells there = elim (cases_eq task 0) [
  | inl none ↦
      let here : 1 ≤ times_in ready 0 = subst (λ (one : ℕ). 1 ≤ times_in ready one) none there in
      absurd (omega (arith, ready-nowhere R ready spells, here))
  | inr some ↦ elim (cases_lt (length R.tasks) task) [
    | inl past ↦ absurd (omega (arith, there, spells.once task ∙ ap (λ (one : Task). one_if (is_ready one.condition)) (task_at-past R.tasks task past)))
    | inr within ↦ (omega arith, within)
  ]
]

pub ready-few : (R : Rings) (ready : List ℕ) → SpellsOrder R ready → length ready ≤ length R.tasks
ready-few R ready spells = few (length R.tasks) ready (λ task. omega (arith, spells.once task, one_if-le (is_ready (task_at R.tasks task).condition))) (λ task there. ready-made R ready task spells there)

-- following the links gives the order that they spell
pub spells-exactly : (R : Rings) (ready : List ℕ) → SpellsOrder R ready → ready_of R ≡ ready
spells-exactly R ready spells = ring-follow R.next R.previous 0 ready (length R.tasks) (ready-nowhere R ready spells) (ready-few R ready spells) spells.order

-- the order of a region changes with its own links, and no other does
pub put_in-own : (region : ℕ) (links : ℕ → ℕ → ℕ) (at other of : ℕ) → of ≡ region → put_in region links at other of ≡ put (links of) at other
unfolding put put_in
put_in-own region links at other of same = fun_ext (λ t. rw (eq-eqb of region same) (elim (cases_eq t at) [
  | inl here ↦ rw (eq-eqb t at here) (elim (cases_eq at 0) [
    | inl none ↦ rw (eq-eqb at 0 none) refl
    | inr some ↦ rw (ne_eqb at 0 some) refl
  ])
  | inr apart ↦ rw (ne_eqb t at apart) refl
]))

pub put_in-other : (region : ℕ) (links : ℕ → ℕ → ℕ) (at other of task : ℕ) → of ≢ region → (task ≡ at → at ≡ 0) → put_in region links at other of task ≡ links of task
unfolding put_in
put_in-other region links at other of task apart only = elim (cases_eq task at) [
  | inl here ↦ rw (eq-eqb task at here, eq-eqb at 0 (only here), ne_eqb of region apart) refl
  | inr elsewhere ↦ rw (ne_eqb task at elsewhere) refl
]

-- 0, or a task of the region
abbrev pub IsOf : List Task → ℕ → ℕ → Type 0
IsOf tasks region task = (task ≡ 0) ⊎ (region_in tasks task ≡ region)

pub part-of : (tasks : List Task) (ready : List ℕ) (region task : ℕ) → 1 ≤ times_in (part_of tasks ready region) task → region_in tasks task ≡ region
part-of tasks ready region task there = eqb-true (region_in tasks task) region (times-passes (is_of_region tasks region) ready task there)

pub part-made : (R : Rings) (ready : List ℕ) (region task : ℕ) → SpellsOrder R ready → 1 ≤ times_in (part_of R.tasks ready region) task → task ≤ length R.tasks
part-made R ready region task spells there = (ready-made R ready task spells (omega (arith, there, times-part-le (is_of_region R.tasks region) ready task))).1

-- what is of a region isn't met in the order of another one
pub of-other : (tasks : List Task) (region of at task : ℕ) → of ≢ region → IsOf tasks region at → IsOf tasks of task → task ≡ at → at ≡ 0
of-other tasks region of at task apart (inl none) there same = none
of-other tasks region of at task apart (inr here) (inl none) same = sym same ∙ none
of-other tasks region of at task apart (inr here) (inr there) same = absurd (apart (sym there ∙ (ap (λ (one : ℕ). region_in tasks one) same ∙ here)))

-- the task that is put last
last-in : (R : Rings) (ready : List ℕ) (task region : ℕ) → SpellsOrder R ready → task ≢ 0 → times_in ready task ≡ 0 → region_in R.tasks task ≡ region → IsRing (put_in region (put_in region R.next_in task 0) (R.previous_in region 0) task region) (put_in region (put_in region R.previous_in task (R.previous_in region 0)) 0 task region) 0 (part_of R.tasks ready region ++ task ∷ [])
last-in R ready task region spells some absent here =
    let part = part_of R.tasks ready region in
    let ring = spells.in_region region in
    let gone : times_in part task ≡ 0 = omega (arith, times-part-le (is_of_region R.tasks region) ready task) in
    let nowhere : times_in part 0 ≡ 0 = omega (arith, times-part-le (is_of_region R.tasks region) ready 0, ready-nowhere R ready spells) in
    let apart : R.previous_in region 0 ≢ task = ring-ends (λ (one : ℕ). one ≢ task) (R.next_in region) (R.previous_in region) 0 part (λ none. some (sym none)) (λ one there same. omega (arith, gone, subst (λ (one : ℕ). 1 ≤ times_in part one) same there)) ring in
    let next_is = put_in-own region (put_in region R.next_in task 0) (R.previous_in region 0) task region refl ∙ ap (λ (link : ℕ → ℕ). put link (R.previous_in region 0) task) (put_in-own region R.next_in task 0 region refl) in
    let previous_is = put_in-own region (put_in region R.previous_in task (R.previous_in region 0)) 0 task region refl ∙ ap (λ (link : ℕ → ℕ). put link 0 task) (put_in-own region R.previous_in task (R.previous_in region 0) region refl) in
    subst (λ (link : ℕ → ℕ). IsRing link (put_in region (put_in region R.previous_in task (R.previous_in region 0)) 0 task region) 0 (part ++ task ∷ [])) (sym next_is)
    (subst (λ (link : ℕ → ℕ). IsRing (put (put (R.next_in region) task 0) (R.previous_in region 0) task) link 0 (part ++ task ∷ [])) (sym previous_is)
    (ring-last (R.next_in region) (R.previous_in region) 0 part task (R.previous_in region 0) refl (ring-closes (R.next_in region) (R.previous_in region) 0 part ring) some apart (λ none. some (sym none)) nowhere gone ring))

last-beside : (R : Rings) (ready : List ℕ) (task region of : ℕ) → SpellsOrder R ready → task ≢ 0 → times_in ready task ≡ 0 → region_in R.tasks task ≡ region → of ≢ region → IsRing (put_in region (put_in region R.next_in task 0) (R.previous_in region 0) task of) (put_in region (put_in region R.previous_in task (R.previous_in region 0)) 0 task of) 0 (part_of R.tasks ready of)
last-beside R ready task region of spells some absent here apart =
    let part = part_of R.tasks ready of in
    let last = R.previous_in region 0 in
    let last_of : IsOf R.tasks region last = ring-ends (IsOf R.tasks region) (R.next_in region) (R.previous_in region) 0 (part_of R.tasks ready region) (inl refl) (λ one there. inr (part-of R.tasks ready region one there)) (spells.in_region region) in
    let next_is : (one : ℕ) → IsOf R.tasks of one → put_in region (put_in region R.next_in task 0) last task of one ≡ R.next_in of one = λ one is_of.
    put_in-other region (put_in region R.next_in task 0) last task of one apart (of-other R.tasks region of last one apart last_of is_of) ∙
    put_in-other region R.next_in task 0 of one apart (of-other R.tasks region of task one apart (inr here) is_of) in
    let previous_is : (one : ℕ) → IsOf R.tasks of one → put_in region (put_in region R.previous_in task last) 0 task of one ≡ R.previous_in of one = λ one is_of.
    put_in-other region (put_in region R.previous_in task last) 0 task of one apart (λ _. refl) ∙
    put_in-other region R.previous_in task last of one apart (of-other R.tasks region of task one apart (inr here) is_of) in
    ring-same (R.next_in of) (R.previous_in of) (put_in region (put_in region R.next_in task 0) last task of) (put_in region (put_in region R.previous_in task last) 0 task of) 0 part
    (next_is 0 (inl refl)) (previous_is 0 (inl refl))
    (λ one there. let is_of = part-of R.tasks ready of one there in (next_is one (inr is_of), previous_is one (inr is_of)))
    (spells.in_region of)

abbrev pub made_last : Rings → ℕ → Rings
made_last R task = record (with_task_last R task) { tasks = with_condition R.tasks task condition.Ready }

pub spells-last : (R : Rings) (ready : List ℕ) (task : ℕ) → SpellsOrder R ready → 1 ≤ task → task ≤ length R.tasks → (task_at R.tasks task).condition ≡ condition.Made → SpellsOrder (made_last R task) (ready ++ task ∷ [])
spells-last R ready task spells above within made =
    let some : task ≢ 0 = λ none. omega arith in
    let absent : times_in ready task ≡ 0 = spells.once task ∙ ap (λ (one : Condition). one_if (is_ready one)) made in
    let region = region_in R.tasks task in
    let apart : R.previous 0 ≢ task = ring-ends (λ (one : ℕ). one ≢ task) R.next R.previous 0 ready (λ none. some (sym none)) (λ one there same. omega (arith, absent, subst (λ (one : ℕ). 1 ≤ times_in ready one) same there)) spells.order in
    record {
      order = ring-last R.next R.previous 0 ready task (R.previous 0) refl (ring-closes R.next R.previous 0 ready spells.order) some apart (λ none. some (sym none)) (ready-nowhere R ready spells) absent spells.order;
      in_region = λ of.
          let parts : part_of (with_condition R.tasks task condition.Ready) (ready ++ task ∷ []) of ≡ part_of R.tasks ready of ++ filter (is_of_region R.tasks of) (task ∷ []) =
          changed-part R.tasks task condition.Ready (ready ++ task ∷ []) of above within ∙ filter-append (is_of_region R.tasks of) ready (task ∷ []) in
          let links = made_last R task in
          subst (IsRing (links.next_in of) (links.previous_in of) 0) (sym parts) (elim (cases_eq region of) [
            | inl here ↦ rw (eq-eqb region of here)
                (subst (λ (of : ℕ). IsRing (links.next_in of) (links.previous_in of) 0 (part_of R.tasks ready of ++ task ∷ [])) here (last-in R ready task region spells some absent refl))
            | inr other ↦ rw (ne_eqb region of other)
                (rw (append-nil (part_of R.tasks ready of)) (last-beside R ready task region of spells some absent refl (λ same. other (sym same))))
          ]);
      once = λ one. elim (cases_eq one task) [
        | inl same ↦ subst (λ (one : ℕ). times_in (ready ++ task ∷ []) one ≡ one_if (is_ready (task_at (with_condition R.tasks task condition.Ready) one).condition)) (sym same)
            (let is : one_if (is_ready (task_at (with_condition R.tasks task condition.Ready) task).condition) ≡ 1 = ap (λ (one : Task). one_if (is_ready one.condition)) (changed-here R.tasks task condition.Ready above within) in
            omega (arith, times-append ready (task ∷ []) task, times-here task task [] refl, times-nil task))
        | inr other ↦
            let is : one_if (is_ready (task_at (with_condition R.tasks task condition.Ready) one).condition) ≡ one_if (is_ready (task_at R.tasks one).condition) = ap (λ (one : Task). one_if (is_ready one.condition)) (changed-other R.tasks task one condition.Ready other) in
            omega (arith, times-append ready (task ∷ []) one, times-there task one [] (λ same. other (sym same)), times-nil one, spells.once one)
      ];
    }
