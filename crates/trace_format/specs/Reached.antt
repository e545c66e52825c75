-- Where a reader stands: behind items of a trace, and behind fields of the next item, each of which was accepted.
use Rattle.std.specs.Prelude.{ℕ, ◌≡◌, ◌<◌, true, List, [], ◌∷◌, ◌++◌, length, Some, slice_index_or}
use Rattle.std.specs.List.{flat_map}
use Rattle.trace_format.specs.declared.item.Item.{Item}
use Rattle.trace_format.specs.Accepting.{Next, next_of}
use Rattle.trace_format.specs.Items.{AreFirst, items_bytes}
use Rattle.trace_format.specs.Taking.{Stage, first_stage, stage_from}

abbrev pub IsBytes : List ℕ → Type 0
IsBytes bytes = (i : ℕ) → slice_index_or bytes i 0 < 256

abbrev pub flat : List (List ℕ) → List ℕ
flat fields = flat_map (λ (bytes : List ℕ). bytes) fields

abbrev pub stage_of : List Item → Stage
stage_of items = stage_from first_stage items

-- the field comes next behind these, and its bytes are accepted
pub record IsAccepted (stage : Stage) (before : List (List ℕ)) (bytes : List ℕ) : Type 0 where
  pub next : Next
  pub comes : next_of stage before ≡ Some next
  pub width : length bytes ≡ next.width
  pub is_bytes : IsBytes bytes
  pub accepted : next.accepts bytes ≡ true

abbrev pub AreAccepted : Stage → List (List ℕ) → List (List ℕ) → Type 0
AreAccepted stage before [] = Unit {0}
AreAccepted stage before (bytes ∷ rest) = IsAccepted stage before bytes × AreAccepted stage (before ++ bytes ∷ []) rest

pub record IsReached (items : List Item) (fields : List (List ℕ)) : Type 0 where
  pub first : AreFirst items
  pub accepted : AreAccepted (stage_of items) [] fields

-- all bytes that were taken then
abbrev pub bytes_at : List Item → List (List ℕ) → List ℕ
bytes_at items fields = items_bytes items ++ flat fields
