-- The events of several recorders, one recorder after another, are all the events.
use Rattle.std.proofs.Common.{◌≡◌, ℕ, suc, ◌+◌, ◌<◌, ◌≤◌, ◌==◌, Bool, true, false, cond, not, ◌&&◌, List, [], ◌∷◌, ◌++◌, length, get_or, refl, ◌∙◌, ap, inl, inr, arith}
use Rattle.std.specs.List.{filter, flat_map}
use Rattle.std.specs.List.Sorted.{IsPermutation}
use Rattle.std.proofs.Math.Dec.{leb}
use Rattle.std.proofs.lemmas.Bool.{eq-eqb, le-leb}
use Rattle.std.proofs.lemmas.Bool.Decides.{leb_tells, nat_tests}
use Rattle.std.proofs.lemmas.List.Sorted.{IsPermutation-refl, IsPermutation-trans, IsPermutation-append_right, IsPermutation-filter_both}
use Rattle.ompt_calls.specs.declared.event.EventRecord.{EventRecord}
use Rattle.tool_report.specs.Order.{AreShared}

-- the events of this thread, and those of the threads from this on
abbrev of_thread : ℕ → List EventRecord → List EventRecord
of_thread k events = filter (λ (event : EventRecord). event.thread == k) events

abbrev from_thread : ℕ → List EventRecord → List EventRecord
from_thread k events = filter (λ (event : EventRecord). leb k event.thread) events

-- nothing is kept, so nothing of the rest is
cond-nil : {A : Type 0} (b : Bool) (x : A) (xs : List A) → cond b (x ∷ xs) xs ≡ [] → (b ≡ false) × (xs ≡ [])
cond-nil true x xs none = cc
cond-nil false x xs none = (refl, none)

-- no event of any thread from k on
none-from : (k : ℕ) (events : List EventRecord) → ((j : ℕ) → k ≤ j → of_thread j events ≡ []) → from_thread k events ≡ []
none-from k [] none = refl
none-from k (event ∷ events) none =
    let rest : (j : ℕ) → k ≤ j → (event.thread == j ≡ false) × (of_thread j events ≡ []) = λ j above. cond-nil (event.thread == j) event (of_thread j events) (none j above) in
    elim (leb_tells k event.thread) as (λ _. from_thread k (event ∷ events) ≡ []) [ inl here ↦ absurd (never (eq-eqb event.thread event.thread refl) (rest event.thread here.1).0) | inr other ↦ rw other.0 (none-from k events (λ j above. (rest j above).1)) ]
  where
    never : {b : Bool} → b ≡ true → b ≡ false → ⊥
    never holds fails = cc

-- to keep what passes both tests, one after the other
filter-cond : {X : Type 0} (p : X → Bool) (b : Bool) (x : X) (xs : List X) → filter p (cond b (x ∷ xs) xs) ≡ cond (b && p x) (x ∷ filter p xs) (filter p xs)
filter-cond p true x xs = refl
filter-cond p false x xs = refl

filter-twice : {X : Type 0} (p q r : X → Bool) → ((x : X) → (q x && p x) ≡ r x) → (xs : List X) → filter p (filter q xs) ≡ filter r xs
filter-twice p q r both [] = refl
filter-twice p q r both (x ∷ xs) = rw (filter-cond p (q x) x (filter q xs), both x, filter-twice p q r both xs) refl

this-thread : (k t : ℕ) → (leb k t && (t == k)) ≡ (t == k)
this-thread k t = grind (arith, nat_tests)

later-threads : (k t : ℕ) → (leb k t && not (t == k)) ≡ leb (k + 1) t
later-threads k t = grind (arith, nat_tests)

-- the lists of the threads from k on have the events of those threads
gathers : (k : ℕ) (parts : List (List EventRecord)) (events : List EventRecord) → ((j : ℕ) → k + length parts ≤ j → of_thread j events ≡ []) → ((i : ℕ) (d : List EventRecord) → i < length parts → get_or parts i d ≡ of_thread (k + i) events) → IsPermutation (from_thread k events) (flat_map (λ (part : List EventRecord). part) parts)
gathers k [] events few each = rw (none-from k events (λ j above. few j (omega arith))) (IsPermutation-refl [])
gathers k (part ∷ parts) events few each =
    let this = filter-twice (λ (event : EventRecord). event.thread == k) (λ event. leb k event.thread) (λ event. event.thread == k) (λ event. this-thread k event.thread) events in
    let later = filter-twice (λ (event : EventRecord). not (event.thread == k)) (λ event. leb k event.thread) (λ event. leb (k + 1) event.thread) (λ event. later-threads k event.thread) events in
    let first : part ≡ of_thread k events = each 0 [] (omega arith) ∙ ap (λ j. of_thread j events) (plus-zero k) in
    let halves = IsPermutation-filter_both (λ (event : EventRecord). event.thread == k) (λ event. not (event.thread == k)) (λ _. refl) (from_thread k events) in
    let split : IsPermutation (from_thread k events) (part ++ from_thread (k + 1) events) = rw (first, ← this, ← later) halves in
    let rest = gathers (k + 1) parts events (λ j above. few j (omega arith)) (λ i d below. each (suc i) d (omega arith) ∙ ap (λ j. of_thread j events) (plus-one k i)) in
    IsPermutation-trans (from_thread k events) (part ++ from_thread (k + 1) events) (part ++ flat_map (λ (each : List EventRecord). each) parts) split (IsPermutation-append_right part (from_thread (k + 1) events) (flat_map (λ (each : List EventRecord). each) parts) rest)
  where
    plus-zero : (k : ℕ) → k + 0 ≡ k
    plus-zero k = omega arith

    plus-one : (k i : ℕ) → k + suc i ≡ k + 1 + i
    plus-one k i = omega arith

all-threads : (events : List EventRecord) → from_thread 0 events ≡ events
all-threads [] = refl
all-threads (event ∷ events) = rw (le-leb 0 event.thread (omega arith), all-threads events) refl

-- all the lists have all the events
pub gathered-all : (events : List EventRecord) (parts : List (List EventRecord)) → AreShared events parts → IsPermutation events (flat_map (λ (part : List EventRecord). part) parts)
gathered-all events parts shared = rw (all-threads events) at (gathers 0 parts events (λ j above. shared.few j (omega arith)) (λ i d below. rw (zero-plus i) (shared.each i d below)))
  where
    zero-plus : (i : ℕ) → 0 + i ≡ i
    zero-plus i = omega arith
