-- What a serial run under way has come to.
use Rattle.std.specs.Prelude.{ℕ, ◌≡◌, ◌<◌, ◌≤◌, true, List, [], ◌∷◌, None}
use Rattle.omp_model.specs.Running.{HasRun}
use Rattle.team_run.specs.Names.{Item, Entry, Run, none_pending, heard_of, after, Serial, StoresNothing}

-- nothing was stored during these calls
abbrev pub AreSilent : List Item → Type 0
AreSilent [] = Unit {0}
AreSilent (item ∷ rest) = (item.stores ≡ []) × AreSilent rest

-- nothing was stored during what the run's threads heard
abbrev pub HearsSilent : Run → List Entry → Type 0
HearsSilent run history = (k : ℕ) → k < run.threads → AreSilent (heard_of run history k)

-- nothing is heard on threads that the run doesn't have
abbrev pub HearsOwn : Run → List Entry → Type 0
HearsOwn run history = (k : ℕ) → run.threads ≤ k → heard_of run history k ≡ []

-- the history leads to a state where nobody is inside a callback
pub record StandsAt (run : Run) (from : ℕ) (history : List Entry) : Type 0 where
  pub some : 1 ≤ run.threads
  pub few : run.threads ≤ 16
  pub within : from ≤ run.threads
  pub nobody : none_pending (after run history) ≡ true
  pub has_run : HasRun run history (record { state = after run history; next = from; inside = None })
  pub own : HearsOwn run history
  pub silent : HearsSilent run history → StoresNothing history

-- a history at which a run may stop
pub record StopsAt (run : Run) (history : List Entry) : Type 0 where
  pub serial : Serial run history
  pub own : HearsOwn run history
