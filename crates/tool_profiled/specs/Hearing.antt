-- What a guest has heard beside a profile.
use Rattle.std.specs.Prelude.{ℕ, suc, ◌≡◌, List, [], ◌∷◌, length}
use Rattle.ompt_calls.specs.Item.{Item}
use Rattle.omp_codes.specs.declared.callbacks.TheConstants.{PROFILE_MASK}
use Rattle.tool_api.specs.Record.{Record, Start, StoresNothing}
use Rattle.tool_both.specs.Joined.{IsSplit}

-- the ends of a tool that was called for these: one after all of them where it is active, and else none
abbrev pub finished_at : ℕ → List Item → List ℕ
finished_at Prim.Native.Nat.zero calls = []
finished_at (suc answer) calls = length calls ∷ []

-- A guest was called for exactly those of these items that are in its mask, each with stores of its own; beside it a tool that stores nothing was called for
-- all of the profile. It was started so, and finished at the end where it is active.
pub record HasHeard {B : Type 0} (stands_for : B → Record → Type 0) (guest : B) (started : List Start) (active mask : ℕ) (items : List Item) : Type 0 where
  pub calls : List Item
  pub counted : List Item
  pub within : List (List Start)
  pub silent : StoresNothing counted
  pub split : IsSplit mask PROFILE_MASK items calls counted
  pub stands : stands_for guest (record { started = started; calls = calls; finished = finished_at active calls; unheard = 0; within = within })

-- a guest was started so, whatever it was called for
pub record HasStarted {B : Type 0} (stands_for : B → Record → Type 0) (guest : B) (started : List Start) : Type 0 where
  pub h : Record
  pub started_is : h.started ≡ started
  pub stands : stands_for guest h
