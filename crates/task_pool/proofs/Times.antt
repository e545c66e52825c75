-- How often a task is in a list, and in a part of it.
use Rattle.std.proofs.Common.{◌≡◌, ◌≢◌, ℕ, zero, suc, ◌+◌, ◌≤◌, ◌∙◌, Bool, true, false, List, [], ◌∷◌, ◌++◌, length, filter, refl, sym, ap, subst, inl, inr, arith}
use Rattle.std.proofs.lemmas.Bool.{cases_eq, cases_Bool, eq-eqb, ne_eqb, true≢false}
use Rattle.task_pool.specs.View.{is_other}
use Rattle.task_pool.specs.Links.{times_in}
use Rattle.task_pool.proofs.Setting.{at-same, at-other}

pub times-here : (other task : ℕ) (others : List ℕ) → other ≡ task → times_in (other ∷ others) task ≡ times_in others task + 1
unfolding times_in
times-here other task others same = at-same other task _ _ same

pub times-there : (other task : ℕ) (others : List ℕ) → other ≢ task → times_in (other ∷ others) task ≡ times_in others task
unfolding times_in
times-there other task others apart = at-other other task _ _ apart

pub times-nil : (task : ℕ) → times_in [] task ≡ 0
unfolding times_in
times-nil task = refl

-- what isn't in a list isn't its first element, nor in the rest
pub times-none : (other task : ℕ) (others : List ℕ) → times_in (other ∷ others) task ≡ 0 → (other ≢ task) × (times_in others task ≡ 0)
times-none other task others none = elim (cases_eq other task) [
  | inl same ↦ absurd (omega (arith, times-here other task others same))
  | inr apart ↦ (apart, sym (times-there other task others apart) ∙ none)
]

pub times-append : (xs ys : List ℕ) (task : ℕ) → times_in (xs ++ ys) task ≡ times_in xs task + times_in ys task
times-append [] ys task = omega (arith, times-nil task)
times-append (x ∷ xs) ys task = elim (cases_eq x task) [
  | inl same ↦ omega (arith, times-here x task (xs ++ ys) same, times-here x task xs same, times-append xs ys task)
  | inr apart ↦ omega (arith, times-there x task (xs ++ ys) apart, times-there x task xs apart, times-append xs ys task)
]

-- a part has all of what passes its test, and nothing else
pub times-part : (test : ℕ → Bool) (xs : List ℕ) (task : ℕ) → test task ≡ true → times_in (filter test xs) task ≡ times_in xs task
times-part test [] task passes = refl
times-part test (x ∷ xs) task passes = elim (cases_Bool (test x)) [
  | inl kept ↦ rw kept (elim (cases_eq x task) [
    | inl same ↦ omega (arith, times-here x task (filter test xs) same, times-here x task xs same, times-part test xs task passes)
    | inr apart ↦ omega (arith, times-there x task (filter test xs) apart, times-there x task xs apart, times-part test xs task passes)
  ])
  | inr dropped ↦ rw dropped (
      let apart : x ≢ task = λ same. true≢false (sym passes ∙ (sym (ap test same) ∙ dropped)) in
      times-part test xs task passes ∙ sym (times-there x task xs apart))
]

pub times-no_part : (test : ℕ → Bool) (xs : List ℕ) (task : ℕ) → test task ≡ false → times_in (filter test xs) task ≡ 0
times-no_part test [] task fails = times-nil task
times-no_part test (x ∷ xs) task fails = elim (cases_Bool (test x)) [
  | inl kept ↦ rw kept (
      let apart : x ≢ task = λ same. true≢false (sym kept ∙ (ap test same ∙ fails)) in
      times-there x task (filter test xs) apart ∙ times-no_part test xs task fails)
  | inr dropped ↦ rw dropped (times-no_part test xs task fails)
]

-- what is in a part passes its test
pub times-passes : (test : ℕ → Bool) (xs : List ℕ) (task : ℕ) → 1 ≤ times_in (filter test xs) task → test task ≡ true
times-passes test xs task there = elim (cases_Bool (test task)) [
  | inl passes ↦ passes
  | inr fails ↦ absurd (omega (arith, times-no_part test xs task fails))
]

pub times-part-le : (test : ℕ → Bool) (xs : List ℕ) (task : ℕ) → times_in (filter test xs) task ≤ times_in xs task
times-part-le test xs task = elim (cases_Bool (test task)) [
  | inl passes ↦ omega (arith, times-part test xs task passes)
  | inr fails ↦ omega (arith, times-no_part test xs task fails)
]

-- taking out what isn't there changes nothing
pub without-absent : (task : ℕ) (xs : List ℕ) → times_in xs task ≡ 0 → filter (is_other task) xs ≡ xs
without-absent task [] none = refl
without-absent task (x ∷ xs) none =
    let rest = times-none x task xs none in
    rw (ne_eqb x task rest.0) (ap (λ (others : List ℕ). x ∷ others) (without-absent task xs rest.1))

pub filter-swap : (p q : ℕ → Bool) (xs : List ℕ) → filter p (filter q xs) ≡ filter q (filter p xs)
filter-swap p q [] = refl
filter-swap p q (x ∷ xs) = elim (cases_Bool (p x)) [
  | inl one ↦ elim (cases_Bool (q x)) [
    | inl other ↦ rw (one, other) (rw one (ap (λ (others : List ℕ). x ∷ others) (filter-swap p q xs)))
    | inr other ↦ rw (one, other) (filter-swap p q xs)
  ]
  | inr one ↦ elim (cases_Bool (q x)) [
    | inl other ↦ rw (one, other) (rw one (filter-swap p q xs))
    | inr other ↦ rw (one, other) (filter-swap p q xs)
  ]
]

pub length-without : (task : ℕ) (xs : List ℕ) → length xs ≡ length (filter (is_other task) xs) + times_in xs task
length-without task [] = omega (arith, times-nil task)
length-without task (x ∷ xs) = elim (cases_eq x task) [
  | inl same ↦ rw (eq-eqb x task same) (omega (arith, times-here x task xs same, length-without task xs))
  | inr apart ↦ rw (ne_eqb x task apart) (omega (arith, times-there x task xs apart, length-without task xs))
]

-- a list of different tasks up to n has no more than n
pub few : (n : ℕ) (xs : List ℕ) → ((task : ℕ) → times_in xs task ≤ 1) → ((task : ℕ) → 1 ≤ times_in xs task → (1 ≤ task) × (task ≤ n)) → length xs ≤ n
few zero [] once within = omega arith
few zero (x ∷ xs) once within =
    let both = within x (omega (arith, times-here x x xs refl)) in
    absurd (omega (arith, both.0, both.1))
few (suc n) xs once within =
    let others = filter (is_other (suc n)) xs in
    let out : times_in others (suc n) ≡ 0 = times-no_part (is_other (suc n)) xs (suc n) (rw (eq-eqb (suc n) (suc n) refl) refl) in
    let rest : length others ≤ n = few n others (λ task. omega (arith, times-part-le (is_other (suc n)) xs task, once task)) (λ task there.
    let all = within task (omega (arith, times-part-le (is_other (suc n)) xs task)) in
    let apart : task ≢ suc n = λ same. let here = subst (λ (one : ℕ). 1 ≤ times_in others one) same there in absurd (omega (arith, here, out)) in
    (all.0, omega (arith, all.1, apart))) in
    omega (arith, length-without (suc n) xs, once (suc n), rest)
