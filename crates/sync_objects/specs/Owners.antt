-- The list of the locks that are initialised, by rising wait identifier, and how it changes. A critical is a lock that
-- is initialised from the start.
use Rattle.std.specs.Prelude.{ℕ, zero, suc, ◌+◌, ◌==◌, nat_lt, if◌then◌else◌, List, [], ◌∷◌, ◌++◌, Option, Some, None}
use Rattle.sync_objects.specs.declared.lock.Lock.{Lock}

abbrev pub free_lock : ℕ → Lock
free_lock id = record { id = id; owner = None }

-- criticals are numbered from 1
unfoldable pub critical_locks : ℕ → List Lock
critical_locks zero = []
critical_locks (suc count) = critical_locks count ++ free_lock (count + 1) ∷ []

-- the lock with this identifier, if it is initialised
unfoldable pub look_up : List Lock → ℕ → Option Lock
look_up [] id = None
look_up (lock ∷ locks) id = if lock.id == id then Some lock else look_up locks id

-- one more lock is put before the first one with a greater identifier
unfoldable pub in_order : List Lock → Lock → List Lock
in_order [] fresh = fresh ∷ []
in_order (lock ∷ locks) fresh = if nat_lt lock.id fresh.id then lock ∷ in_order locks fresh else fresh ∷ lock ∷ locks

-- the lock with this identifier is taken out
unfoldable pub without : List Lock → ℕ → List Lock
without [] id = []
without (lock ∷ locks) id = if lock.id == id then locks else lock ∷ without locks id

-- the lock with this identifier has this owner from now on
unfoldable pub with_owner : List Lock → ℕ → Option ℕ → List Lock
with_owner [] id owner = []
with_owner (lock ∷ locks) id owner =
    if lock.id == id then record lock { owner = owner } ∷ locks else lock ∷ with_owner locks id owner
