-- What a reader's fields are to the bytes that it has taken.
use Rattle.std.specs.Prelude.{ℕ, ◌≡◌, ◌<◌, ◌⊎◌, true, List, [], ◌++◌, length, Some}
use Rattle.trace_format.specs.declared.item.Item.{Item}
use Rattle.trace_format.specs.Accepting.{Next, next_of}
use Rattle.trace_format.specs.Reached.{IsBytes, IsReached, bytes_at, flat, stage_of}
use Rattle.trace_format.specs.Taking.{Stage}

-- a field comes next, and this part of it has come
pub record Awaits (stage : Stage) (fields : List (List ℕ)) (part : List ℕ) : Type 0 where
  pub next : Next
  pub comes : next_of stage fields ≡ Some next
  pub short : length part < next.width

-- the end mark has come, and nothing behind it
pub record HasEnded (stage : Stage) (fields : List (List ℕ)) (part : List ℕ) : Type 0 where
  pub over : stage.over ≡ true
  pub no_field : fields ≡ []
  pub no_part : part ≡ []

abbrev pub Rests : Stage → List (List ℕ) → List ℕ → Type 0
Rests stage fields part = Awaits stage fields part ⊎ HasEnded stage fields part

-- A reader that has not refused stands behind items, behind fields of the next one, and behind a part of a field: `begun` are the bytes of those
-- fields and of that part, the field began at `begun_at`, there are `place` fields before it, and `taken` bytes were taken in all.
pub record Holds (stage : Stage) (begun : List ℕ) (begun_at place taken : ℕ) : Type 0 where
  pub items : List Item
  pub fields : List (List ℕ)
  pub part : List ℕ
  pub reached : IsReached items fields
  pub stage_is : stage ≡ stage_of items
  pub begun_is : begun ≡ flat fields ++ part
  pub begun_at_is : begun_at ≡ length (flat fields)
  pub place_is : place ≡ length fields
  pub taken_is : taken ≡ length (bytes_at items fields ++ part)
  pub rests : Rests stage fields part
  pub is_bytes : IsBytes part
