-- The places of the code's list: the wait identifiers that locks have or had, by rising identifier, and what is known of
-- each. The locks are those of them that aren't absent.
use Rattle.std.specs.Prelude.{◌≡◌, ℕ, ◌+◌, ◌<◌, ◌≤◌, ◌==◌, nat_lt, if◌then◌else◌, List, [], ◌∷◌, length, slice_get, Option, Some, None, Result, Ok, Err}
use Rattle.sync_objects.specs.declared.lock.Lock.{Lock}
use Rattle.sync_objects.specs.declared.entry.Entry.{Entry}
use Rattle.sync_objects.specs.declared.entry.Hold.{Hold}
use Rattle.sync_objects.specs.declared.entry.Hold.TheVariants as hold

abbrev pub lock_of : ℕ → Hold → Option Lock
lock_of id hold.Absent = None
lock_of id hold.Free = Some (record { id = id; owner = None })
lock_of id (hold.Owned owner) = Some (record { id = id; owner = Some owner })

abbrev pub and_lock : Option Lock → List Lock → List Lock
and_lock None locks = locks
and_lock (Some lock) locks = lock ∷ locks

unfoldable pub locks_of : List Entry → List Lock
locks_of [] = []
locks_of (entry ∷ entries) = and_lock (lock_of entry.id entry.hold) (locks_of entries)

-- all these identifiers are greater
unfoldable pub AreAbove : ℕ → List Entry → Type 0
AreAbove id [] = Unit {0}
AreAbove id (entry ∷ entries) = (id < entry.id) × AreAbove id entries

-- each identifier is greater than those before it
unfoldable pub IsRising : List Entry → Type 0
IsRising [] = Unit {0}
IsRising (entry ∷ entries) = AreAbove entry.id entries × IsRising entries

-- what is known of an identifier
unfoldable pub hold_of : List Entry → ℕ → Hold
hold_of [] id = hold.Absent
hold_of (entry ∷ entries) id = if entry.id == id then entry.hold else hold_of entries id

-- something else is known of it, where it has a place
unfoldable pub with_hold : List Entry → ℕ → Hold → List Entry
with_hold [] id known = []
with_hold (entry ∷ entries) id known =
    if entry.id == id then record entry { hold = known } ∷ entries else entry ∷ with_hold entries id known

abbrev pub free_entry : ℕ → Entry
free_entry id = record { id = id; hold = hold.Free }

-- its lock is free, at the place that it had or at a new one
unfoldable pub with_place : List Entry → ℕ → List Entry
with_place [] id = free_entry id ∷ []
with_place (entry ∷ entries) id =
    if nat_lt entry.id id then entry ∷ with_place entries id
    else (if entry.id == id then free_entry id ∷ entries else free_entry id ∷ entry ∷ entries)

-- how many stand before the first one whose identifier isn't lower
unfoldable pub rank : List Entry → ℕ → ℕ
rank [] id = 0
rank (entry ∷ entries) id = if nat_lt entry.id id then rank entries id + 1 else 0

-- the place in the list at which the identifier stands
pub record StandsAt (entries : List Entry) (id place : ℕ) : Type 0 where
  pub ranked : place ≡ rank entries id
  pub there : (entry : Entry) × (slice_get entries place ≡ Some entry) × (entry.id ≡ id)

-- the place at which it would be put
pub record BelongsAt (entries : List Entry) (id place : ℕ) : Type 0 where
  pub ranked : place ≡ rank entries id
  pub within : place ≤ length entries
  pub apart : (entry : Entry) → slice_get entries place ≡ Some entry → entry.id ≡ id → ⊥

abbrev pub IsPlaceOf : List Entry → ℕ → Result ℕ ℕ → Type 0
IsPlaceOf entries id (Ok place) = StandsAt entries id place
IsPlaceOf entries id (Err place) = BelongsAt entries id place
