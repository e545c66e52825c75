-- Walks up the parents of a task: what they meet, one step, and walks that go on.
use Rattle.std.proofs.Common.{◌≡◌, ◌≢◌, ℕ, zero, suc, ◌<◌, ◌≤◌, ◌∙◌, ◌==◌, ◌||◌, ◌&&◌, Bool, true, false, List, [], ◌∷◌, length, reverse, refl, sym, ap, subst, inl, inr, arith}
use Rattle.std.proofs.lemmas.Bool.{cases_eq, cases_Bool, eq-eqb, ne_eqb, eqb-true}
use Rattle.std.specs.List.{list_all}
use Rattle.std.proofs.lemmas.List.{reverse-append}
use Rattle.std.proofs.lemmas.List.Folds.{list_all-append}
use Rattle.task_pool.specs.declared.task.Task.{Task}
use Rattle.task_pool.specs.Allowed.{parent_of, descends_within, descends, Descends, FromParent, FromAbove, ParentsComeFirst}
use Rattle.task_pool.specs.Walking.{reaches, IsReached}

-- the task itself, or one that is met within so many steps
abbrev meets : List Task → ℕ → ℕ → ℕ → Bool
meets tasks n task from = task == from || descends_within tasks n task from

meets-step : (tasks : List Task) (n task from : ℕ) → meets tasks (suc n) task from ≡ (task == from || meets tasks n (parent_of tasks task) from)
unfolding descends_within
meets-step tasks n task from = refl

nothing : (tasks : List Task) (n from : ℕ) → 0 ≢ from → descends_within tasks n 0 from ≡ false
unfolding descends_within
nothing tasks zero from apart = refl
nothing tasks (suc n) from apart = rw (ne_eqb 0 from apart) (nothing tasks n from apart)

-- from 0 on nothing but 0 is met
meets-none : (tasks : List Task) (n from : ℕ) → meets tasks n 0 from ≡ (0 == from)
unfolding descends_within
meets-none tasks n from = elim (cases_eq 0 from) [
  | inl same ↦ rw (eq-eqb 0 from same) refl
  | inr apart ↦ rw (ne_eqb 0 from apart) (nothing tasks n from apart)
]

-- steps enough are as good as more
meets-agree : (tasks : List Task) (n m task from : ℕ) → ParentsComeFirst tasks → task ≤ n → task ≤ m → meets tasks n task from ≡ meets tasks m task from
meets-agree tasks zero m task from first within also =
    let none : task ≡ 0 = omega arith in
    subst (λ (one : ℕ). meets tasks zero one from ≡ meets tasks m one from) (sym none) (meets-none tasks zero from ∙ sym (meets-none tasks m from))
meets-agree tasks (suc n) zero task from first within also =
    let none : task ≡ 0 = omega arith in
    subst (λ (one : ℕ). meets tasks (suc n) one from ≡ meets tasks zero one from) (sym none) (meets-none tasks (suc n) from ∙ sym (meets-none tasks zero from))
meets-agree tasks (suc n) (suc m) task from first within also = elim (cases_eq task 0) [
  | inl none ↦ subst (λ (one : ℕ). meets tasks (suc n) one from ≡ meets tasks (suc m) one from) (sym none) (meets-none tasks (suc n) from ∙ sym (meets-none tasks (suc m) from))
  | inr some ↦
      let less = first task (omega arith) in
      meets-step tasks n task from ∙ (ap (λ (rest : Bool). task == from || rest) (meets-agree tasks n m (parent_of tasks task) from first (omega (arith, less)) (omega (arith, less))) ∙ sym (meets-step tasks m task from))
]

-- a task descends from what its parent is, or descends from
pub descends-step : (tasks : List Task) (task from : ℕ) → ParentsComeFirst tasks → 1 ≤ task → descends tasks task from ≡ reaches tasks (parent_of tasks task) from
unfolding descends_within
descends-step tasks zero from first above = absurd (omega arith)
descends-step tasks (suc n) from first above =
    let less = first (suc n) above in
    meets-agree tasks n (parent_of tasks (suc n)) (parent_of tasks (suc n)) from first (omega (arith, less)) (omega arith)

pub reaches-step : (tasks : List Task) (task from : ℕ) → ParentsComeFirst tasks → 1 ≤ task → reaches tasks task from ≡ (task == from || reaches tasks (parent_of tasks task) from)
reaches-step tasks task from first above = ap (λ (rest : Bool). task == from || rest) (descends-step tasks task from first above)

reaches-none : (tasks : List Task) (from : ℕ) → reaches tasks 0 from ≡ (0 == from)
reaches-none tasks from = meets-none tasks 0 from

pub reaches-itself : (tasks : List Task) (task : ℕ) → reaches tasks task task ≡ true
reaches-itself tasks task = rw (eq-eqb task task refl) refl

or-right : (one other : Bool) → one ≡ false → (one || other) ≡ other
or-right one other none = rw none refl

or-true : (one other : Bool) → other ≡ true → (one || other) ≡ true
or-true true other both = refl
or-true false other both = both

-- what is reached and isn't the task itself is reached from its parent
further : (tasks : List Task) (task from : ℕ) → ParentsComeFirst tasks → 1 ≤ task → task ≢ from → reaches tasks task from ≡ true → reaches tasks (parent_of tasks task) from ≡ true
further tasks task from first above apart met =
    sym (or-right (task == from) (reaches tasks (parent_of tasks task) from) (ne_eqb task from apart)) ∙ (sym (reaches-step tasks task from first above) ∙ met)

none-reached : (tasks : List Task) (task from : ℕ) → task ≡ 0 → reaches tasks task from ≡ true → task ≡ from
none-reached tasks task from none met = none ∙ eqb-true 0 from (sym (reaches-none tasks from) ∙ subst (λ (one : ℕ). reaches tasks one from ≡ true) none met)

-- what is reached isn't above
reaches-below : (tasks : List Task) (n task from : ℕ) → ParentsComeFirst tasks → task ≤ n → reaches tasks task from ≡ true → from ≤ task
reaches-below tasks zero task from first within met = omega (arith, none-reached tasks task from (omega arith) met)
reaches-below tasks (suc n) task from first within met = elim (cases_eq task 0) [
  | inl none ↦ omega (arith, none-reached tasks task from none met)
  | inr some ↦ elim (cases_eq task from) [
    | inl same ↦ omega arith
    | inr apart ↦
        let less = first task (omega arith) in
        omega (arith, less, reaches-below tasks n (parent_of tasks task) from first (omega (arith, less)) (further tasks task from first (omega arith) apart met))
  ]
]

-- and a walk goes on from there
reaches-on : (tasks : List Task) (n task between from : ℕ) → ParentsComeFirst tasks → task ≤ n → reaches tasks task between ≡ true → reaches tasks between from ≡ true → reaches tasks task from ≡ true
reaches-on tasks zero task between from first within met on =
    subst (λ (one : ℕ). reaches tasks one from ≡ true) (sym (none-reached tasks task between (omega arith) met)) on
reaches-on tasks (suc n) task between from first within met on = elim (cases_eq task between) [
  | inl same ↦ subst (λ (one : ℕ). reaches tasks one from ≡ true) (sym same) on
  | inr apart ↦ elim (cases_eq task 0) [
    | inl none ↦ absurd (apart (none-reached tasks task between none met))
    | inr some ↦
        let less = first task (omega arith) in
        let rest = reaches-on tasks n (parent_of tasks task) between from first (omega (arith, less)) (further tasks task between first (omega arith) apart met) on in
        reaches-step tasks task from first (omega arith) ∙ or-true (task == from) (reaches tasks (parent_of tasks task) from) rest
  ]
]

pub reaches-through : (tasks : List Task) (task between from : ℕ) → ParentsComeFirst tasks → reaches tasks task between ≡ true → reaches tasks between from ≡ true → reaches tasks task from ≡ true
reaches-through tasks task between from first met on = reaches-on tasks task task between from first (omega arith) met on

-- at or below the bound, the bound alone is the bound
reaches-bound : (tasks : List Task) (ancestor bound : ℕ) → ParentsComeFirst tasks → ancestor ≤ bound → reaches tasks ancestor bound ≡ (ancestor == bound)
reaches-bound tasks ancestor bound first within = elim (cases_eq ancestor bound) [
  | inl same ↦ rw (eq-eqb ancestor bound same) refl
  | inr apart ↦ elim (cases_Bool (reaches tasks ancestor bound)) [
    | inl met ↦ absurd (apart (omega (arith, reaches-below tasks ancestor ancestor bound first (omega arith) met)))
    | inr not_met ↦ not_met ∙ sym (ne_eqb ancestor bound apart)
  ]
]

-- a walk up that has come so far
pub record Walks (tasks : List Task) (task bound ancestor : ℕ) : Type 0 where
  pub on_the_way : reaches tasks task ancestor ≡ true
  pub as_far : reaches tasks task bound ≡ reaches tasks ancestor bound

pub walks-first : (tasks : List Task) (task bound : ℕ) → Walks tasks task bound task
walks-first tasks task bound = record { on_the_way = reaches-itself tasks task; as_far = refl }

pub walks-up : (tasks : List Task) (task bound ancestor : ℕ) → ParentsComeFirst tasks → bound < ancestor → Walks tasks task bound ancestor → Walks tasks task bound (parent_of tasks ancestor)
walks-up tasks task bound ancestor first above walks =
    let parent : ℕ = parent_of tasks ancestor in
    let apart : ancestor ≢ bound = λ same. omega arith in
    let step : reaches tasks ancestor parent ≡ true = reaches-step tasks ancestor parent first (omega arith) ∙ or-true (ancestor == parent) (reaches tasks parent parent) (reaches-itself tasks parent) in
    record {
      on_the_way = reaches-through tasks task ancestor parent first walks.on_the_way step;
      as_far = walks.as_far ∙ (reaches-step tasks ancestor bound first (omega arith) ∙ or-right (ancestor == bound) (reaches tasks parent bound) (ne_eqb ancestor bound apart));
    }

pub walks-end : (tasks : List Task) (task bound ancestor : ℕ) → ParentsComeFirst tasks → ancestor ≤ bound → Walks tasks task bound ancestor → IsReached tasks task bound ancestor
walks-end tasks task bound ancestor first within walks = record {
  on_the_way = walks.on_the_way;
  exactly = walks.as_far ∙ reaches-bound tasks ancestor bound first within;
}

-- the test computes what the relation says
pub from-descends : (tasks : List Task) (n task from : ℕ) → ParentsComeFirst tasks → 1 ≤ task → task ≤ length tasks → task ≤ n → descends tasks task from ≡ true → Descends tasks task from
from-descends tasks zero task from first above made within met = absurd (omega arith)
from-descends tasks (suc n) task from first above made within met =
    let parent : ℕ = parent_of tasks task in
    let less = first task above in
    let up : reaches tasks parent from ≡ true = sym (descends-step tasks task from first above) ∙ met in
    elim (cases_eq parent from) [
      | inl same ↦ subst (Descends tasks task) same (FromParent task above made)
      | inr apart ↦
          let some : parent ≢ 0 = λ none. apart (none-reached tasks parent from none up) in
          let rest : descends tasks parent from ≡ true = sym (or-right (parent == from) (descends tasks parent from) (ne_eqb parent from apart)) ∙ up in
          FromAbove task from above made (from-descends tasks n parent from first (omega arith) (omega (arith, less)) (omega (arith, less)) rest)
    ]

pub to-descends : (tasks : List Task) (task from : ℕ) → ParentsComeFirst tasks → Descends tasks task from → descends tasks task from ≡ true
to-descends tasks one other first (FromParent task above made) = descends-step tasks task (parent_of tasks task) first above ∙ reaches-itself tasks (parent_of tasks task)
to-descends tasks one other first (FromAbove task from above made rest) =
    descends-step tasks task from first above ∙ or-true (parent_of tasks task == from) (descends tasks (parent_of tasks task) from) (to-descends tasks (parent_of tasks task) from first rest)

-- a task whose parent reaches the other one descends from it
pub descends-by : (tasks : List Task) (task ancestor from : ℕ) → ParentsComeFirst tasks → 1 ≤ task → reaches tasks (parent_of tasks task) ancestor ≡ true → ancestor ≡ from → descends tasks task from ≡ true
descends-by tasks task ancestor from first above met same = descends-step tasks task from first above ∙ subst (λ (one : ℕ). reaches tasks (parent_of tasks task) one ≡ true) same met

and-true : (test : Bool) → (test && true) ≡ test
and-true true = refl
and-true false = refl

and-swap : (one other : Bool) → (one && other) ≡ (other && one)
and-swap true true = refl
and-swap true false = refl
and-swap false true = refl
and-swap false false = refl

pub list_all-reverse : (test : ℕ → Bool) (xs : List ℕ) → list_all test (reverse xs) ≡ list_all test xs
list_all-reverse test [] = refl
list_all-reverse test (x ∷ xs) =
    ap (list_all test) (reverse-append (x ∷ []) xs) ∙ (list_all-append test (reverse xs) (x ∷ []) ∙
    (ap (λ (rest : Bool). rest && (test x && true)) (list_all-reverse test xs) ∙ (and-swap (list_all test xs) (test x && true) ∙ ap (λ (here : Bool). here && list_all test xs) (and-true (test x)))))
