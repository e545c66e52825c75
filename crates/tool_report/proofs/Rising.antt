-- A list whose positions rise is the only sorted list of its events.
use Rattle.std.proofs.Common.{◌≡◌, ℕ, zero, suc, ◌+◌, ◌<◌, ◌≤◌, ◌==◌, cond, List, [], ◌∷◌, refl, sym, ◌∙◌, ap, ◌⊎◌, inl, inr, arith}
use Rattle.std.specs.List.{All, Contains, sum_by}
use Rattle.std.specs.List.Sorted.{IsPermutation, IsNonDecreasingBy}
use Rattle.std.proofs.lemmas.Bool.{eq-eqb}
use Rattle.std.proofs.lemmas.Bool.Decides.{eqb_tells, nat_tests}
use Rattle.std.proofs.lemmas.List.Elements.{All-head, All-tail, All-contains_itself}
use Rattle.std.proofs.lemmas.List.Sums.{sum_by-cons}
use Rattle.std.proofs.lemmas.List.Sorted.{All-permutation, sum_by-IsPermutation}
use Rattle.ompt_calls.specs.declared.event.EventRecord.{EventRecord}
use Rattle.tool_report.specs.Order.{AreFrom, AreRising}

-- the event is one of these, and each of these is one of those
abbrev IsAmong : List EventRecord → EventRecord → Type 0
IsAmong [] event = ⊥
IsAmong (other ∷ others) event = (event ≡ other) ⊎ IsAmong others event

abbrev AreAmong : List EventRecord → List EventRecord → Type 0
AreAmong others [] = Unit {0}
AreAmong others (event ∷ events) = IsAmong others event × AreAmong others events

-- no position is below one before it
abbrev AreSorted : List EventRecord → Type 0
AreSorted [] = Unit {0}
AreSorted (event ∷ events) = AreFrom event.seq events × AreSorted events

-- how many events have this position
abbrev one_at : ℕ → EventRecord → ℕ
one_at position event = cond (event.seq == position) 1 0

abbrev count_at : ℕ → List EventRecord → ℕ
count_at position events = sum_by (one_at position) events

one-here : (event : EventRecord) → one_at event.seq event ≡ 1
one-here event = rw (eq-eqb event.seq event.seq refl) refl

count-cons : (position : ℕ) (event : EventRecord) (events : List EventRecord) → count_at position (event ∷ events) ≡ one_at position event + count_at position events
count-cons position event events = sum_by-cons (one_at position) event events

-- a position that is counted among events from the least on is at least that
counted-from : (least position : ℕ) (events : List EventRecord) → AreFrom least events → 0 < count_at position events → least ≤ position
counted-from least position [] from some = omega arith
counted-from least position (event ∷ events) from some =
    let more = count-cons position event events in
    elim (eqb_tells event.seq position) as (λ _. least ≤ position) [ inl here ↦ omega (arith, from.0, here.1) | inr other ↦ counted-from least position events from.1 (let none : one_at position event ≡ 0 = rw other.0 refl in omega arith) ]

among-counted : (events : List EventRecord) (event : EventRecord) → IsAmong events event → 0 < count_at event.seq events
among-counted [] event among = absurd among
among-counted (other ∷ events) event (inl same) = let more = count-cons event.seq other events in let one : one_at event.seq other ≡ 1 = rw same (one-here other) in omega arith
among-counted (other ∷ events) event (inr rest) = let more = count-cons event.seq other events in let some = among-counted events event rest in omega arith

among-from : (least : ℕ) (events : List EventRecord) (event : EventRecord) → AreFrom least events → IsAmong events event → least ≤ event.seq
among-from least events event from among = counted-from least event.seq events from (among-counted events event among)

-- none is before the least
count-none : (position : ℕ) (events : List EventRecord) → AreFrom (position + 1) events → count_at position events ≡ 0
count-none position [] from = refl
count-none position (event ∷ events) from = let more = count-cons position event events in let rest = count-none position events from.1 in let none : one_at position event ≡ 0 = grind (arith, nat_tests, from.0) in omega arith

-- the first of the sorted ones is the first of the rising ones
first-same : (x y : EventRecord) (xs ys : List EventRecord) → AreFrom (x.seq + 1) xs → AreFrom y.seq ys → IsAmong (x ∷ xs) y → count_at x.seq (x ∷ xs) ≡ count_at x.seq (y ∷ ys) → y ≡ x
first-same x y xs ys above sorted (inl same) counts = same
first-same x y xs ys above sorted (inr later) counts =
    let low = among-from (x.seq + 1) xs y above later in
    let here = count-cons x.seq x xs in
    let one = one-here x in
    let high = counted-from y.seq x.seq (y ∷ ys) (omega arith, sorted) (omega arith) in
    absurd (omega arith)

-- the same without the first of each
rest-among : (x : EventRecord) (xs events : List EventRecord) → count_at x.seq events ≡ 0 → AreAmong (x ∷ xs) events → AreAmong xs events
rest-among x xs [] none among = tt
rest-among x xs (event ∷ events) none among =
    let more = count-cons x.seq event events in
    let one = one-here x in
    elim (among.0) as (λ _. AreAmong xs (event ∷ events)) [ inl same ↦ absurd (let here : one_at x.seq event ≡ 1 = rw same one in omega arith) | inr later ↦ (later, rest-among x xs events (omega arith) among.1) ]

counts-rest : (x y : EventRecord) (xs ys : List EventRecord) → y ≡ x → ((position : ℕ) → count_at position (x ∷ xs) ≡ count_at position (y ∷ ys)) → (position : ℕ) → count_at position xs ≡ count_at position ys
counts-rest x y xs ys first counts position =
    let left = count-cons position x xs in
    let right = count-cons position y ys in
    let same : one_at position y ≡ one_at position x = ap (one_at position) first in
    omega (arith, counts position)

-- sorted events, each among the rising ones and as many at each position, are the rising ones
rises-once : (xs ys : List EventRecord) → AreRising xs → AreSorted ys → AreAmong xs ys → ((position : ℕ) → count_at position xs ≡ count_at position ys) → ys ≡ xs
rises-once [] [] rising sorted among counts = refl
rises-once [] (y ∷ ys) rising sorted among counts = absurd among.0
rises-once (x ∷ xs) [] rising sorted among counts = let here = count-cons x.seq x xs in let one = one-here x in let same = counts x.seq in absurd (omega arith)
rises-once (x ∷ xs) (y ∷ ys) rising sorted among counts =
    let first = first-same x y xs ys rising.0 sorted.0 among.0 (counts x.seq) in
    let rest = counts-rest x y xs ys first counts in
    let none : count_at x.seq xs ≡ 0 = count-none x.seq xs rising.0 in
    let once = rises-once xs ys rising.1 sorted.1 (rest-among x xs ys (sym (rest x.seq) ∙ none) among.1) rest in
    cc

-- the same, from a permutation and an order as a sort ensures them
among-contains : (xs : List EventRecord) (event : EventRecord) → Contains xs event → IsAmong xs event
among-contains [] event (k, below, is) = absurd (omega arith)
among-contains (x ∷ xs) event (zero, below, is) = inl (sym is)
among-contains (x ∷ xs) event (suc k, below, is) = inr (among-contains xs event (k, omega arith, is))

are-among : (xs ys : List EventRecord) → All (Contains xs) ys → AreAmong xs ys
are-among xs [] all = tt
are-among xs (y ∷ ys) all = (among-contains xs y (All-head (Contains xs) y ys all), are-among xs ys (All-tail (Contains xs) y ys all))

are-from : (least : ℕ) (events : List EventRecord) → All (λ (event : EventRecord). least ≤ event.seq) events → AreFrom least events
are-from least [] all = tt
are-from least (event ∷ events) all = (All-head (λ (later : EventRecord). least ≤ later.seq) event events all, are-from least events (All-tail (λ (later : EventRecord). least ≤ later.seq) event events all))

are-sorted : (events : List EventRecord) → IsNonDecreasingBy (λ (event : EventRecord). event.seq) events → AreSorted events
are-sorted [] up = tt
are-sorted (event ∷ events) up = (are-from event.seq events (λ k d below. up 0 (suc k) d (omega arith) (omega arith)), are-sorted events (λ i j d le below. up (suc i) (suc j) d (omega arith) (omega arith)))

pub sorted-once : (xs ys : List EventRecord) → AreRising xs → IsPermutation xs ys → IsNonDecreasingBy (λ (event : EventRecord). event.seq) ys → ys ≡ xs
sorted-once xs ys rising moved up = rises-once xs ys rising (are-sorted ys up) (are-among xs ys (All-permutation (Contains xs) xs ys moved (All-contains_itself xs))) (λ position. sym (sum_by-IsPermutation (one_at position) xs ys moved))
