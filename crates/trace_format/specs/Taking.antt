-- What a reader has taken, and the items that it has given.
use Rattle.std.specs.Prelude.{ℕ, ◌≡◌, ◌+◌, Bool, true, false, List, [], ◌∷◌, length, Option, Some, None}
use Rattle.trace_format.specs.declared.item.Item.{Item}
use Rattle.trace_format.specs.declared.item.Item.TheVariants as item
use Rattle.trace_format.specs.declared.refusal.Refusal.{Refusal}
use Rattle.trace_format.specs.declared.trace.Header.{Header}
use Rattle.trace_format.specs.Items.{AreWhole}
use Rattle.trace_format.specs.Refusing.{IsRefused, Refuses}

-- what a reader keeps of the items that it has given: the header, the number of events, the least sequence number that may come next, and whether the
-- end mark has come
pub record Stage : Type 0 where
  pub header : Option Header
  pub count : ℕ
  pub least : ℕ
  pub over : Bool

abbrev pub first_stage : Stage
first_stage = record { header = None; count = 0; least = 0; over = false }

abbrev pub next_stage : Stage → Item → Stage
next_stage stage item.More = stage
next_stage stage (item.Header header) = record stage { header = Some header }
next_stage stage (item.Event event) = record stage { count = stage.count + 1; least = event.seq + 1 }
next_stage stage (item.End end) = record stage { over = true }

abbrev pub stage_from : Stage → List Item → Stage
stage_from stage [] = stage
stage_from stage (first ∷ rest) = stage_from (next_stage stage first) rest

-- a reader: what it keeps of the items, the bytes of an item that has begun, how many bytes it has taken, and the refusal, if it has refused
pub record Reading : Type 0 where
  pub stage : Stage
  pub begun : List ℕ
  pub taken : ℕ
  pub refusal : Option Refusal

-- bytes that aren't refused, or whose refusal is known with the last of them
abbrev pub IsRefusalOf : List ℕ → Option Refusal → Type 0
IsRefusalOf bytes None = (refusal : Refusal) → IsRefused bytes refusal → ⊥
IsRefusalOf bytes (Some refusal) = Refuses bytes refusal

-- the reader has taken these bytes, and has given these items: all that are whole in the bytes
pub record HasTaken (reading : Reading) (bytes : List ℕ) (items : List Item) : Type 0 where
  pub stage : reading.stage ≡ stage_from first_stage items
  pub whole : AreWhole bytes items reading.begun
  pub taken : reading.taken ≡ length bytes
  pub refusal : IsRefusalOf bytes reading.refusal
