-- What is read of a list after one of its elements is written, or one is put behind them.
use Rattle.std.proofs.Common.{◌≡◌, ℕ, suc, ◌<◌, ◌≤◌, ◌==◌, ◌++◌, if◌then◌else◌, List, [], ◌∷◌, slice_set, slice_index_or, length, refl, sym, ap, ◌∙◌, subst, inl, inr, arith}
use Rattle.std.proofs.lemmas.Bool.{cases_eq, cases_lt, eq-eqb, ne_eqb}
use Rattle.std.proofs.lemmas.List.{get_or-set_other, get_or-set_same, get_or_past, get_or_push, get_or_append_left, length_push}
use Rattle.omp_model.proofs.Later.{at-set}

-- one of two, at a place that is this one or another
pub at-place : {B : Type 0} (i k : ℕ) (now one other : B) → (k ≡ i → now ≡ one) → ((k ≡ i → ⊥) → now ≡ other) → now ≡ (if k == i then one else other)
at-place i k now one other same differs = elim (cases_eq k i)
    [ inl is ↦ rw (eq-eqb k i is) (same is) | inr no_place ↦ rw (ne_eqb k i no_place) (differs no_place) ]

-- what is read of an element: of the one that was written, or of another
pub read-set : {A B : Type 0} (f : A → B) (d : A) (xs : List A) (i k : ℕ) (x : A) → i < length xs →
    f (slice_index_or (slice_set xs i x) k d) ≡ (if k == i then f x else f (slice_index_or xs k d))
read-set f d xs i k x below =
    at-place i k (f (slice_index_or (slice_set xs i x) k d)) (f x) (f (slice_index_or xs k d))
    (λ is. ap (λ j. f (slice_index_or (slice_set xs i x) j d)) is ∙ ap f (get_or-set_same xs i x d below)) (λ other. ap f (get_or-set_other xs i k x d other))

-- an element is changed
pub read-changed : {A : Type 0} (f : A → A) (d : A) (xs : List A) (i k : ℕ) → i < length xs →
    slice_index_or (slice_set xs i (f (slice_index_or xs i d))) k d ≡ (if k == i then f (slice_index_or xs k d) else slice_index_or xs k d)
read-changed f d xs i k below =
    let x = f (slice_index_or xs i d) in
    at-place i k (slice_index_or (slice_set xs i x) k d) (f (slice_index_or xs k d)) (slice_index_or xs k d)
    (λ is. subst (λ j. slice_index_or (slice_set xs i x) j d ≡ f (slice_index_or xs j d)) (sym is) (get_or-set_same xs i x d below))
    (λ other. get_or-set_other xs i k x d other)

-- what the written element has as the former one had it
pub read-same : {A B : Type 0} (f : A → B) (d : A) (xs : List A) (i k : ℕ) (x : A) → f x ≡ f (slice_index_or xs i d) →
    f (slice_index_or (slice_set xs i x) k d) ≡ f (slice_index_or xs k d)
read-same f d xs i k x same =
    at-set (λ y. f y ≡ f (slice_index_or xs k d)) d xs i k x refl (λ is. same ∙ ap (λ j. f (slice_index_or xs j d)) (sym is))

-- what is read of an element where one is put behind the others
pub read-push : {A B : Type 0} (f : A → B) (d : A) (xs : List A) (k : ℕ) (x : A) →
    f (slice_index_or (xs ++ x ∷ []) k d) ≡ (if k == length xs then f x else f (slice_index_or xs k d))
read-push f d xs k x =
    at-place (length xs) k (f (slice_index_or (xs ++ x ∷ []) k d)) (f x) (f (slice_index_or xs k d))
    (λ is. ap f (get_or_push xs x d k (sym is)))
    (λ other. ap f (elim (cases_lt k (length xs)) [
      | inl within ↦ get_or_append_left xs (x ∷ []) d k within
      | inr past ↦ get_or_past (xs ++ x ∷ []) k d (omega (arith, length_push xs x, further (length xs) k other past)) ∙ sym (get_or_past xs k d past)
    ]))
  where
    further : (n j : ℕ) → (j ≡ n → ⊥) → n ≤ j → suc n ≤ j
    further n j other past = elim (cases_eq j n) [ inl is ↦ absurd (other is) | inr more ↦ omega arith ]

-- what the new element has as there is where there is none
pub read-more : {A B : Type 0} (f : A → B) (d : A) (xs : List A) (k : ℕ) (x : A) → f x ≡ f d → f (slice_index_or (xs ++ x ∷ []) k d) ≡ f (slice_index_or xs k d)
read-more f d xs k x same = elim (cases_eq k (length xs)) [
  | inl is ↦ ap f (get_or_push xs x d k (sym is)) ∙ same ∙ ap f (sym (get_or_past xs k d (omega (arith, is))))
  | inr other ↦ elim (cases_lt k (length xs)) [
    | inl within ↦ ap f (get_or_append_left xs (x ∷ []) d k within)
    | inr past ↦ ap f (get_or_past (xs ++ x ∷ []) k d (omega (arith, length_push xs x, beyond (length xs) k other past)) ∙ sym (get_or_past xs k d past))
  ]
]
  where
    beyond : (n j : ℕ) → (j ≡ n → ⊥) → n ≤ j → suc n ≤ j
    beyond n j other past = elim (cases_eq j n) [ inl is ↦ absurd (other is) | inr more ↦ omega arith ]
