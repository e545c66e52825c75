-- The record of a tool: its starts and its ends, what it was told, and how often it found no memory for that.
use Rattle.std.specs.Prelude.{ℕ, ◌≡◌, ◌+◌, List, [], ◌∷◌, ◌++◌, length, All}
use Rattle.ompt_calls.specs.Item.{Item}
use Rattle.tool_api.specs.declared.quiet.Quiet.{Quiet}

-- a call of `initialize`: what it answered, and the callbacks that it left registered
pub record Start : Type 0 where
  pub answer : ℕ
  pub mask : ℕ

-- the calls of a tool: those of `initialize` and of `callback`, in order; for each call of `finalize` how many calls of `callback`
-- stood here then; how many calls of `callback` found no memory, which stand nowhere else; and for each tool within it the calls
-- of `initialize` that are answered on its behalf
pub record Record : Type 0 where
  pub started : List Start
  pub calls : List Item
  pub finished : List ℕ
  pub unheard : ℕ
  pub within : List (List Start)

-- nothing was called
pub record IsUncalled (h : Record) : Type 0 where
  pub started : h.started ≡ []
  pub calls : h.calls ≡ []
  pub finished : h.finished ≡ []
  pub unheard : h.unheard ≡ 0

-- the record after one more call of `initialize`, of `callback`, or of `finalize`
abbrev pub initialized : Record → ℕ → ℕ → Record
initialized h answer mask = record h { started = h.started ++ record { answer = answer; mask = mask } ∷ [] }

abbrev pub told : Record → Item → Record
told h item = record h { calls = h.calls ++ item ∷ [] }

abbrev pub finalized : Record → Record
finalized h = record h { finished = h.finished ++ length h.calls ∷ [] }

-- the record after one more call of `callback` that found no memory
abbrev pub one_unheard : Record → Record
one_unheard h = record h { unheard = h.unheard + 1 }

-- each start was answered by this, and left this registered
abbrev pub StartedWith : ℕ → ℕ → List Start → Type 0
StartedWith answer mask starts = All (λ (start : Start). (start.answer ≡ answer) × (start.mask ≡ mask)) starts

-- no call was answered by a store that took effect
abbrev pub StoresNothing : List Item → Type 0
StoresNothing calls = All (λ (item : Item). item.stores ≡ []) calls

-- what a `Quiet` stands for: it registered nothing and answered 0, and stored nothing, and each call found memory
pub record QuietFor (part : Quiet) (h : Record) : Type 0 where
  pub started : StartedWith 0 0 h.started
  pub silent : StoresNothing h.calls
  pub heard : h.unheard ≡ 0
  pub alone : h.within ≡ []
