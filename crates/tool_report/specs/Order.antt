-- The events of several parts, in the order of their positions.
use Rattle.std.specs.Prelude.{ℕ, ◌≡◌, ◌<◌, ◌≤◌, ◌+◌, ◌==◌, List, [], ◌∷◌, length, filter, map, slice_index_or}
use Rattle.ompt_calls.specs.declared.event.EventRecord.{EventRecord}

-- each of these has a position of at least this
abbrev pub AreFrom : ℕ → List EventRecord → Type 0
AreFrom least [] = Unit {0}
AreFrom least (event ∷ rest) = (least ≤ event.seq) × AreFrom least rest

-- each position is greater than those before
abbrev pub AreRising : List EventRecord → Type 0
AreRising [] = Unit {0}
AreRising (event ∷ rest) = AreFrom (event.seq + 1) rest × AreRising rest

-- the parts have these events between them: each its own thread's, in order
pub record AreShared (events : List EventRecord) (parts : List (List EventRecord)) : Type 0 where
  pub rising : AreRising events
  pub few : (k : ℕ) → length parts ≤ k → filter (λ (event : EventRecord). event.thread == k) events ≡ []
  pub each : (k : ℕ) (d : List EventRecord) → k < length parts → slice_index_or parts k d ≡ filter (λ (event : EventRecord). event.thread == k) events

-- each part keeps this of its share of these events
pub record AreKept {A : Type 0} (keep : List EventRecord → A) (events : List EventRecord) (parts : List A) : Type 0 where
  pub shares : List (List EventRecord)
  pub shared : AreShared events shares
  pub kept : parts ≡ map keep shares
