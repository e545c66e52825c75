-- Orders as rings through 0: their ends and neighbours, one more task at the end, and one task less.
use Rattle.std.proofs.Common.{◌≡◌, ◌≢◌, ℕ, zero, suc, ◌≤◌, ◌∙◌, List, [], ◌∷◌, ◌++◌, length, filter, refl, sym, ap, subst, inl, inr, arith}
use Rattle.std.proofs.lemmas.Bool.{cases_eq, eq-eqb, ne_eqb}
use Rattle.task_pool.specs.View.{is_other}
use Rattle.task_pool.specs.Links.{times_in, IsRing, follow, put}
use Rattle.task_pool.proofs.Setting.{put-same, put-other}
use Rattle.task_pool.proofs.Times.{times-here, times-there, times-nil, times-none, without-absent}

-- the last one leads to 0
pub ring-closes : (next previous : ℕ → ℕ) (before : ℕ) (xs : List ℕ) → IsRing next previous before xs → next (previous 0) ≡ 0
unfolding IsRing
ring-closes next previous before [] ring = ap next ring.1 ∙ ring.0
ring-closes next previous before (x ∷ xs) ring = ring-closes next previous x xs ring.2

-- from where a ring begins one step forwards and one backwards
pub ring-back : (next previous : ℕ → ℕ) (before : ℕ) (xs : List ℕ) → IsRing next previous before xs → previous (next before) ≡ before
unfolding IsRing
ring-back next previous before [] ring = ap previous ring.0 ∙ ring.1
ring-back next previous before (x ∷ xs) ring = ap previous ring.0 ∙ ring.1

pub ring-neighbours : (next previous : ℕ → ℕ) (before : ℕ) (xs : List ℕ) (task : ℕ) → 1 ≤ times_in xs task → IsRing next previous before xs → (next (previous task) ≡ task) × (previous (next task) ≡ task)
unfolding IsRing
ring-neighbours next previous before [] task there ring = absurd (omega (arith, times-nil task))
ring-neighbours next previous before (x ∷ xs) task there ring = elim (cases_eq x task) [
  | inl same ↦ subst (λ (one : ℕ). (next (previous one) ≡ one) × (previous (next one) ≡ one)) same (ap next ring.1 ∙ ring.0, ring-back next previous x xs ring.2)
  | inr apart ↦ ring-neighbours next previous x xs task (omega (arith, times-there x task xs apart)) ring.2
]

-- what holds of 0 and of each task holds of the one after the beginning
ring-first : (P : ℕ → Type 0) (next previous : ℕ → ℕ) (before : ℕ) (xs : List ℕ) → P 0 → ((one : ℕ) → 1 ≤ times_in xs one → P one) → IsRing next previous before xs → P (next before)
unfolding IsRing
ring-first P next previous before [] none each ring = subst P (sym ring.0) none
ring-first P next previous before (x ∷ xs) none each ring = subst P (sym ring.0) (each x (omega (arith, times-here x x xs refl)))

-- and of the neighbours of each, and of the last
pub ring-near : (P : ℕ → Type 0) (next previous : ℕ → ℕ) (before : ℕ) (xs : List ℕ) (task : ℕ) → P before → P 0 → ((one : ℕ) → 1 ≤ times_in xs one → P one) → 1 ≤ times_in xs task → IsRing next previous before xs → P (previous task) × P (next task)
unfolding IsRing
ring-near P next previous before [] task first none each there ring = absurd (omega (arith, times-nil task))
ring-near P next previous before (x ∷ xs) task first none each there ring =
    let rest : (one : ℕ) → 1 ≤ times_in xs one → P one = λ one here. each one (elim (cases_eq x one) [
      | inl same ↦ omega (arith, times-here x one xs same)
      | inr apart ↦ omega (arith, times-there x one xs apart)
    ]) in
    elim (cases_eq x task) [
      | inl same ↦
          let before_it : P (previous task) = subst (λ (one : ℕ). P (previous one)) same (subst P (sym ring.1) first) in
          (before_it, subst (λ (one : ℕ). P (next one)) same (ring-first P next previous x xs none rest ring.2))
      | inr apart ↦ ring-near P next previous x xs task (each x (omega (arith, times-here x x xs refl))) none rest (omega (arith, times-there x task xs apart)) ring.2
    ]

pub ring-ends : (P : ℕ → Type 0) (next previous : ℕ → ℕ) (before : ℕ) (xs : List ℕ) → P before → ((one : ℕ) → 1 ≤ times_in xs one → P one) → IsRing next previous before xs → P (previous 0)
unfolding IsRing
ring-ends P next previous before [] first each ring = subst P (sym ring.1) first
ring-ends P next previous before (x ∷ xs) first each ring =
    ring-ends P next previous x xs (each x (omega (arith, times-here x x xs refl))) (λ one here. each one (elim (cases_eq x one) [
      | inl same ↦ omega (arith, times-here x one xs same)
      | inr apart ↦ omega (arith, times-there x one xs apart)
    ])) ring.2

-- links that are the same at 0 and at each task
pub ring-same : (next previous next' previous' : ℕ → ℕ) (before : ℕ) (xs : List ℕ) → next' before ≡ next before → previous' 0 ≡ previous 0 → ((one : ℕ) → 1 ≤ times_in xs one → (next' one ≡ next one) × (previous' one ≡ previous one)) → IsRing next previous before xs → IsRing next' previous' before xs
unfolding IsRing
ring-same next previous next' previous' before [] first last each ring = (first ∙ ring.0, last ∙ ring.1)
ring-same next previous next' previous' before (x ∷ xs) first last each ring =
    let here = each x (omega (arith, times-here x x xs refl)) in (
      first ∙ ring.0,
      here.1 ∙ ring.1,
      ring-same next previous next' previous' x xs here.0 last (λ one there. each one (elim (cases_eq x one) [
        | inl same ↦ omega (arith, times-here x one xs same)
        | inr apart ↦ omega (arith, times-there x one xs apart)
      ])) ring.2,
    )

-- following the links gives the list
pub ring-follow : (next previous : ℕ → ℕ) (before : ℕ) (xs : List ℕ) (n : ℕ) → times_in xs 0 ≡ 0 → length xs ≤ n → IsRing next previous before xs → follow next n (next before) ≡ xs
unfolding IsRing follow
ring-follow next previous before [] zero some within ring = refl
ring-follow next previous before [] (suc n) some within ring = rw ring.0 refl
ring-follow next previous before (x ∷ xs) zero some within ring = absurd (omega arith)
ring-follow next previous before (x ∷ xs) (suc n) some within ring =
    let rest = times-none x 0 xs some in
    rw ring.0 (rw (ne_eqb x 0 rest.0) (ap (λ (others : List ℕ). x ∷ others) (ring-follow next previous x xs n rest.1 (omega arith) ring.2)))

-- one more task at the end
pub ring-last : (next previous : ℕ → ℕ) (before : ℕ) (xs : List ℕ) (task last : ℕ) → previous 0 ≡ last → next last ≡ 0 → task ≢ 0 → last ≢ task → before ≢ task → times_in xs 0 ≡ 0 → times_in xs task ≡ 0 → IsRing next previous before xs → IsRing (put (put next task 0) last task) (put (put previous task last) 0 task) before (xs ++ task ∷ [])
unfolding IsRing
ring-last next previous before [] task last ends closes some apart away none absent ring =
    let here : before ≡ last = sym ring.1 ∙ ends in
    let other : task ≢ last = λ same. apart (sym same) in (
      put-same (put next task 0) last task before here,
      put-other (put previous task last) 0 task task some ∙ (put-same previous task last task refl ∙ sym here),
      (put-other (put next task 0) last task task other ∙ put-same next task 0 task refl, put-same (put previous task last) 0 task 0 refl),
    )
ring-last next previous before (x ∷ xs) task last ends closes some apart away none absent ring =
    let nowhere = times-none x 0 xs none in
    let elsewhere = times-none x task xs absent in
    let before_last : before ≢ last = λ same. nowhere.0 (sym ring.0 ∙ (ap next same ∙ closes)) in (
      put-other (put next task 0) last task before before_last ∙ (put-other next task 0 before away ∙ ring.0),
      put-other (put previous task last) 0 task x nowhere.0 ∙ (put-other previous task last x elsewhere.0 ∙ ring.1),
      ring-last next previous x xs task last ends closes some apart elsewhere.0 nowhere.1 elsewhere.1 ring.2,
    )

-- one task less: a part of the ring that doesn't touch it
ring-apart : (next previous : ℕ → ℕ) (before : ℕ) (xs : List ℕ) (task : ℕ) → next (previous task) ≡ task → previous (next task) ≡ task → task ≢ 0 → before ≢ task → times_in xs task ≡ 0 → IsRing next previous before xs → IsRing (put next (previous task) (next task)) (put previous (next task) (previous task)) before xs
unfolding IsRing
ring-apart next previous before [] task forth back some away absent ring =
    let first : before ≢ previous task = λ same. some (sym forth ∙ (sym (ap next same) ∙ ring.0)) in
    let last : 0 ≢ next task = λ same. away (sym ring.1 ∙ (ap previous same ∙ back)) in
    (put-other next (previous task) (next task) before first ∙ ring.0, put-other previous (next task) (previous task) 0 last ∙ ring.1)
ring-apart next previous before (x ∷ xs) task forth back some away absent ring =
    let elsewhere = times-none x task xs absent in
    let first : before ≢ previous task = λ same. elsewhere.0 (sym ring.0 ∙ (ap next same ∙ forth)) in
    let last : x ≢ next task = λ same. away (sym ring.1 ∙ (ap previous same ∙ back)) in (
      put-other next (previous task) (next task) before first ∙ ring.0,
      put-other previous (next task) (previous task) x last ∙ ring.1,
      ring-apart next previous x xs task forth back some elsewhere.0 elsewhere.1 ring.2,
    )

-- the part behind it, from the one before it on
ring-behind : (next previous : ℕ → ℕ) (task : ℕ) (xs : List ℕ) → next (previous task) ≡ task → previous (next task) ≡ task → task ≢ 0 → times_in xs task ≡ 0 → IsRing next previous task xs → IsRing (put next (previous task) (next task)) (put previous (next task) (previous task)) (previous task) xs
unfolding IsRing
ring-behind next previous task [] forth back some absent ring =
    (put-same next (previous task) (next task) (previous task) refl ∙ ring.0, put-same previous (next task) (previous task) 0 (sym ring.0))
ring-behind next previous task (x ∷ xs) forth back some absent ring =
    let elsewhere = times-none x task xs absent in (
      put-same next (previous task) (next task) (previous task) refl ∙ ring.0,
      put-same previous (next task) (previous task) x (sym ring.0),
      ring-apart next previous x xs task forth back some elsewhere.0 elsewhere.1 ring.2,
    )

pub ring-without : (next previous : ℕ → ℕ) (before : ℕ) (xs : List ℕ) (task : ℕ) → next (previous task) ≡ task → previous (next task) ≡ task → task ≢ 0 → before ≢ task → times_in xs task ≡ 1 → IsRing next previous before xs → IsRing (put next (previous task) (next task)) (put previous (next task) (previous task)) before (filter (is_other task) xs)
unfolding IsRing
ring-without next previous before [] task forth back some away once ring = absurd (omega (arith, times-nil task))
ring-without next previous before (x ∷ xs) task forth back some away once ring = elim (cases_eq x task) [
  | inl same ↦
      let absent : times_in xs task ≡ 0 = omega (arith, times-here x task xs same) in
      let here : IsRing next previous task xs = subst (λ (one : ℕ). IsRing next previous one xs) same ring.2 in
      let is_before : previous task ≡ before = sym (ap previous same) ∙ ring.1 in
      rw (eq-eqb x task same) (rw (without-absent task xs absent)
      (subst (λ (one : ℕ). IsRing (put next (previous task) (next task)) (put previous (next task) (previous task)) one xs) is_before
      (ring-behind next previous task xs forth back some absent here)))
  | inr apart ↦
      let first : before ≢ previous task = λ same. apart (sym ring.0 ∙ (ap next same ∙ forth)) in
      let last : x ≢ next task = λ same. away (sym ring.1 ∙ (ap previous same ∙ back)) in
      rw (ne_eqb x task apart) (
        put-other next (previous task) (next task) before first ∙ ring.0,
        put-other previous (next task) (previous task) x last ∙ ring.1,
        ring-without next previous x xs task forth back some apart (sym (times-there x task xs apart) ∙ once) ring.2,
      )
]
