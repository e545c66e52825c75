-- Lists of places with rising identifiers, and that each change keeps them so.
use Rattle.std.proofs.Common.{◌≡◌, ℕ, zero, suc, ◌+◌, ◌<◌, ◌≤◌, List, [], ◌∷◌, ◌++◌, length, refl, ap, inl, inr, arith, lt-ltb, add-one, slice_index_or}
use Rattle.std.proofs.lemmas.Bool.{cases_eq, cases_lt, eq-eqb, ne_eqb, le-ltb}
use Rattle.sync_objects.specs.declared.entry.Entry.{Entry}
use Rattle.sync_objects.specs.declared.entry.Hold.{Hold}
use Rattle.sync_objects.specs.Places.{AreAbove, IsRising, with_hold, with_place, free_entry}

pub above-lower : (low high : ℕ) (entries : List Entry) → low ≤ high → AreAbove high entries → AreAbove low entries
unfolding AreAbove
above-lower low high [] less above = tt
above-lower low high (entry ∷ entries) less above = (omega (arith, above.0), above-lower low high entries less above.1)

above-with_hold : (low : ℕ) (entries : List Entry) (id : ℕ) (known : Hold) → AreAbove low entries → AreAbove low (with_hold entries id known)
unfolding AreAbove with_hold
above-with_hold low [] id known above = tt
above-with_hold low (entry ∷ entries) id known above = elim (cases_eq entry.id id) [
  | inl same ↦ rw (eq-eqb entry.id id same) above
  | inr apart ↦ rw (ne_eqb entry.id id apart) (above.0, above-with_hold low entries id known above.1)
]

pub rising-with_hold : (entries : List Entry) (id : ℕ) (known : Hold) → IsRising entries → IsRising (with_hold entries id known)
unfolding IsRising with_hold
rising-with_hold [] id known rising = tt
rising-with_hold (entry ∷ entries) id known rising = elim (cases_eq entry.id id) [
  | inl same ↦ rw (eq-eqb entry.id id same) rising
  | inr apart ↦ rw (ne_eqb entry.id id apart) (above-with_hold entry.id entries id known rising.0, rising-with_hold entries id known rising.1)
]

above-with_place : (low : ℕ) (entries : List Entry) (id : ℕ) → low < id → AreAbove low entries → AreAbove low (with_place entries id)
unfolding AreAbove with_place
above-with_place low [] id less above = (less, tt)
above-with_place low (entry ∷ entries) id less above = elim (cases_lt entry.id id) [
  | inl before ↦ rw (lt-ltb entry.id id before) (above.0, above-with_place low entries id less above.1)
  | inr behind ↦ rw (le-ltb entry.id id behind) (elim (cases_eq entry.id id) [
    | inl same ↦ rw (eq-eqb entry.id id same) (less, above.1)
    | inr apart ↦ rw (ne_eqb entry.id id apart) (less, above)
  ])
]

pub rising-with_place : (entries : List Entry) (id : ℕ) → IsRising entries → IsRising (with_place entries id)
unfolding IsRising AreAbove with_place
rising-with_place [] id rising = (tt, tt)
rising-with_place (entry ∷ entries) id rising = elim (cases_lt entry.id id) [
  | inl before ↦ rw (lt-ltb entry.id id before) (above-with_place entry.id entries id before rising.0, rising-with_place entries id rising.1)
  | inr behind ↦ rw (le-ltb entry.id id behind) (elim (cases_eq entry.id id) [
    | inl same ↦ rw (eq-eqb entry.id id same) (above-lower id entry.id entries behind rising.0, rising.1)
    | inr apart ↦ rw (ne_eqb entry.id id apart)
        (let less : id < entry.id = omega arith in ((less, above-lower id entry.id entries behind rising.0), rising))
  ])
]

-- what is above stands above at each index
above-at : (low : ℕ) (entries : List Entry) (k : ℕ) (d : Entry) → AreAbove low entries → k < length entries → low < (slice_index_or entries k d).id
unfolding AreAbove
above-at low [] k d above within = absurd (omega arith)
above-at low (entry ∷ entries) zero d above within = above.0
above-at low (entry ∷ entries) (suc k) d above within = above-at low entries k d above.1 (omega arith)

-- what rises is lower before a place where it is lower
pub rising-before : (entries : List Entry) (id last k : ℕ) (d : Entry) → IsRising entries → k ≤ last → last < length entries → (slice_index_or entries last d).id < id → (slice_index_or entries k d).id < id
unfolding IsRising
rising-before [] id last k d rising less within lower = absurd (omega arith)
rising-before (entry ∷ entries) id zero zero d rising less within lower = lower
rising-before (entry ∷ entries) id zero (suc k) d rising less within lower = absurd (omega arith)
rising-before (entry ∷ entries) id (suc last) zero d rising less within lower =
    let higher = above-at entry.id entries last d rising.0 (omega arith) in omega (arith, higher, lower)
rising-before (entry ∷ entries) id (suc last) (suc k) d rising less within lower = rising-before entries id last k d rising.1 (omega arith) (omega arith) lower

-- all these identifiers are lower
unfoldable AreBelow : ℕ → List Entry → Type 0
AreBelow id [] = Unit {0}
AreBelow id (entry ∷ entries) = (entry.id < id) × AreBelow id entries

above-end : (low : ℕ) (entries : List Entry) (last : Entry) → low < last.id → AreAbove low entries → AreAbove low (entries ++ last ∷ [])
unfolding AreAbove
above-end low [] last less above = (less, tt)
above-end low (entry ∷ entries) last less above = (above.0, above-end low entries last less above.1)

rising-end : (entries : List Entry) (last : Entry) → AreBelow last.id entries → IsRising entries → IsRising (entries ++ last ∷ [])
unfolding IsRising AreBelow AreAbove
rising-end [] last below rising = (tt, tt)
rising-end (entry ∷ entries) last below rising = (above-end entry.id entries last below.0 rising.0, rising-end entries last below.1 rising.1)

below-end : (id : ℕ) (entries : List Entry) (last : Entry) → last.id < id → AreBelow id entries → AreBelow id (entries ++ last ∷ [])
unfolding AreBelow
below-end id [] last less below = (less, tt)
below-end id (entry ∷ entries) last less below = (below.0, below-end id entries last less below.1)

below-higher : (low high : ℕ) (entries : List Entry) → low ≤ high → AreBelow low entries → AreBelow high entries
unfolding AreBelow
below-higher low high [] less below = tt
below-higher low high (entry ∷ entries) less below = (omega (arith, below.0), below-higher low high entries less below.1)

-- the places of the criticals
unfoldable pub critical_entries : ℕ → List Entry
critical_entries zero = []
critical_entries (suc count) = critical_entries count ++ free_entry (count + 1) ∷ []

pub criticals-none : critical_entries 0 ≡ []
unfolding critical_entries
criticals-none = refl

pub criticals-more : (count : ℕ) → critical_entries (count + 1) ≡ critical_entries count ++ free_entry (count + 1) ∷ []
unfolding critical_entries
criticals-more count = ap critical_entries (add-one count)

below-criticals : (count : ℕ) → AreBelow (count + 1) (critical_entries count)
unfolding AreBelow critical_entries
below-criticals zero = tt
below-criticals (suc count) =
    let last : count + 1 < suc count + 1 = omega arith in
    below-end (suc count + 1) (critical_entries count) (free_entry (count + 1)) last (below-higher (count + 1) (suc count + 1) (critical_entries count) (omega arith) (below-criticals count))

pub rising-criticals : (count : ℕ) → IsRising (critical_entries count)
unfolding critical_entries IsRising
rising-criticals zero = tt
rising-criticals (suc count) = rising-end (critical_entries count) (free_entry (count + 1)) (below-criticals count) (rising-criticals count)
