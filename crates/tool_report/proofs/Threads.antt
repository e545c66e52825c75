-- A line for each thread with an event is written over any number of threads that has them all.
use Rattle.std.proofs.Common.{◌≡◌, ℕ, zero, suc, ◌+◌, ◌≤◌, ◌==◌, Bool, true, false, cond, List, [], ◌∷◌, ◌++◌, length, refl, sym, ap, inl, inr, arith}
use Rattle.std.specs.List.{filter, flat_map, range_with_len}
use Rattle.std.proofs.lemmas.Bool.{eq-eqb}
use Rattle.std.proofs.lemmas.Bool.Decides.{leb_tells, nat_tests}
use Rattle.ompt_calls.specs.declared.event.EventRecord.{EventRecord}
use Rattle.tool_report.specs.Layout.{threads_in, where_some, by_thread}
use Rattle.tool_report.specs.Order.{AreShared}

-- a thread past those that have events has none
none-past : (k : ℕ) (events : List EventRecord) → threads_in events ≤ k → filter (λ (event : EventRecord). event.thread == k) events ≡ []
none-past k [] past = refl
none-past k (event ∷ events) past =
    let below : event.thread + 1 ≤ k = omega arith in
    let other : (event.thread == k) ≡ false = is-other event.thread k below in
    rw other (none-past k events (omega arith))
  where
    is-other : (t k : ℕ) → t + 1 ≤ k → (t == k) ≡ false
    is-other t k below = grind (arith, nat_tests)

-- where nothing is written from a number on, nothing is written over a range from there
nothing : (f : ℕ → List ℕ) (past a n : ℕ) → ((k : ℕ) → past ≤ k → f k ≡ []) → past ≤ a → flat_map f (range_with_len a n) ≡ []
nothing f past a zero none from = refl
nothing f past a (suc n) none from = rw (none a from, nothing f past (a + 1) n none (omega arith)) refl

-- and two ranges up to there or further write the same
same-range : (f : ℕ → List ℕ) (past a m n : ℕ) → ((k : ℕ) → past ≤ k → f k ≡ []) → past ≤ a + m → m ≤ n → flat_map f (range_with_len a m) ≡ flat_map f (range_with_len a n)
same-range f past a zero n none from few = sym (nothing f past a n none (omega arith))
same-range f past a (suc m) zero none from few = absurd (omega arith)
same-range f past a (suc m) (suc n) none from few = ap (λ (rest : List ℕ). f a ++ rest) (same-range f past (a + 1) m n none (omega arith) (omega arith))

-- a line for each thread, over any number of threads that has them all
pub by_thread-over : (line : ℕ → List EventRecord → List ℕ) (events : List EventRecord) (n : ℕ) → threads_in events ≤ n → by_thread line events ≡ flat_map (λ (k : ℕ). where_some (line k) (filter (λ (event : EventRecord). event.thread == k) events)) (range_with_len 0 n)
by_thread-over line events n few =
    same-range (λ (k : ℕ). where_some (line k) (filter (λ (event : EventRecord). event.thread == k) events)) (threads_in events) 0 (threads_in events) n (λ k past. ap (where_some (line k)) (none-past k events past)) (omega arith) few

-- where no thread from n on has an event, there are no more than n
few-threads : (n : ℕ) (events : List EventRecord) → ((k : ℕ) → n ≤ k → filter (λ (event : EventRecord). event.thread == k) events ≡ []) → threads_in events ≤ n
few-threads n [] none = omega arith
few-threads n (event ∷ events) none =
    let here : event.thread + 1 ≤ n = elim (leb_tells n event.thread) as (λ _. event.thread + 1 ≤ n) [ inl past ↦ absurd (first (event.thread == event.thread) event (filter (λ (other : EventRecord). other.thread == event.thread) events) (eq-eqb event.thread event.thread refl) (none event.thread past.1)) | inr below ↦ omega (arith, below.1) ] in
    let rest : threads_in events ≤ n = few-threads n events (λ k past. later (event.thread == k) event (filter (λ (other : EventRecord). other.thread == k) events) (none k past)) in
    omega arith
  where
    first : (b : Bool) (x : EventRecord) (xs : List EventRecord) → b ≡ true → cond b (x ∷ xs) xs ≡ [] → ⊥
    first true x xs holds empty = cc
    first false x xs holds empty = cc

    later : (b : Bool) (x : EventRecord) (xs : List EventRecord) → cond b (x ∷ xs) xs ≡ [] → xs ≡ []
    later true x xs empty = absurd (cc)
    later false x xs empty = empty

-- so the lists of the threads are enough
pub threads-shared : (events : List EventRecord) (parts : List (List EventRecord)) → AreShared events parts → threads_in events ≤ length parts
threads-shared events parts shared = few-threads (length parts) events (λ k past. shared.few k past)
