-- How many threads are inside a callback, where one goes in or comes out.
use Rattle.std.proofs.Common.{◌≡◌, ℕ, zero, suc, ◌+◌, ◌≤◌, List, [], ◌∷◌, Option, Some, None, replicate, slice_index_or, slice_set, refl, ap, arith}
use Rattle.omp_model.specs.declared.event.Callback.{Callback}
use Rattle.step_book.specs.Owing.{count_pending}

-- none is at first
pub count-none : (n : ℕ) → count_pending (replicate n None) ≡ 0
count-none zero = refl
count-none (suc n) = count-none n

-- one goes in
pub count-in : (pending : List (Option Callback)) (t : ℕ) (callback : Callback) → count_pending (slice_set pending t (Some callback)) ≤ count_pending pending + 1
count-in [] t callback = omega arith
count-in (None ∷ rest) zero callback = omega arith
count-in (Some other ∷ rest) zero callback = omega arith
count-in (None ∷ rest) (suc t) callback = count-in rest t callback
count-in (Some other ∷ rest) (suc t) callback = let fewer = count-in rest t callback in omega arith

-- one comes out
pub count-out : (pending : List (Option Callback)) (t : ℕ) (callback : Callback) → slice_index_or pending t None ≡ Some callback → count_pending (slice_set pending t None) + 1 ≡ count_pending pending
count-out [] t callback is = cc
count-out (None ∷ rest) zero callback is = cc
count-out (Some other ∷ rest) zero callback is = omega arith
count-out (None ∷ rest) (suc t) callback is = count-out rest t callback is
count-out (Some other ∷ rest) (suc t) callback is = let one = count-out rest t callback is in omega arith

-- one that is in one stays in one
pub count-same : (pending : List (Option Callback)) (t : ℕ) (callback later : Callback) → slice_index_or pending t None ≡ Some callback → count_pending (slice_set pending t (Some later)) ≡ count_pending pending
count-same [] t callback later is = cc
count-same (None ∷ rest) zero callback later is = cc
count-same (Some other ∷ rest) zero callback later is = refl
count-same (None ∷ rest) (suc t) callback later is = count-same rest t callback later is
count-same (Some other ∷ rest) (suc t) callback later is = ap suc (count-same rest t callback later is)
