-- What the locks of a run are seen as: the list of them, and how many more there is room for.
use Rattle.std.specs.Prelude.{ℕ, ◌-◌, List}
use Rattle.sync_objects.specs.declared.lock.Lock.{Lock}
use Rattle.sync_objects.specs.Owners.{free_lock, in_order}

pub record LocksView : Type 0 where
  pub locks : List Lock
  pub room : ℕ

-- one more lock is initialised, and is free
abbrev pub with_initialised : LocksView → ℕ → LocksView
with_initialised view id = record { locks = in_order view.locks (free_lock id); room = view.room - 1 }
