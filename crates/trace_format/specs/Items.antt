-- The items of a trace: the header, each event, and the end mark; and which of them a reader has given.
use Rattle.std.specs.Prelude.{ℕ, ◌≡◌, ◌≢◌, List, [], ◌∷◌, ◌++◌, map}
use Rattle.std.specs.List.{flat_map}
use Rattle.trace_format.specs.declared.item.Item.{Item}
use Rattle.trace_format.specs.declared.item.Item.TheVariants as item
use Rattle.trace_format.specs.declared.trace.Trace.{Trace}
use Rattle.trace_format.specs.Fields.{Spelt, end_fields, event_fields, header_fields, spelling}
use Rattle.trace_format.specs.Validity.{IsTrace, Writes}

abbrev pub item_fields : Item → List Spelt
item_fields item.More = []
item_fields (item.Header header) = header_fields header
item_fields (item.Event event) = event_fields event
item_fields (item.End end) = end_fields end

-- the bytes that items are written as
abbrev pub item_bytes : Item → List ℕ
item_bytes it = spelling (item_fields it)

abbrev pub items_bytes : List Item → List ℕ
items_bytes items = flat_map item_bytes items

abbrev pub items_of : Trace → List Item
items_of trace = item.Header trace.header ∷ map item.Event trace.events ++ item.End trace.end ∷ []

-- a trace begins with these items
pub record AreFirst (items : List Item) : Type 0 where
  pub trace : Trace
  pub is_trace : IsTrace trace
  pub rest : List Item
  pub whole : items_of trace ≡ items ++ rest

-- the items that are whole in the bytes, and the bytes of an item that has begun
pub record AreWhole (bytes : List ℕ) (items : List Item) (begun : List ℕ) : Type 0 where
  pub first : AreFirst items
  pub bytes_are : bytes ≡ items_bytes items ++ begun
  pub no_more : (next : Item) (rest : List ℕ) → next ≢ item.More → AreFirst (items ++ next ∷ []) → begun ≡ item_bytes next ++ rest → ⊥

-- what a call of a reader adds to the items that it has given
abbrev pub given : Item → List Item
given item.More = []
given other = other ∷ []

-- the bytes are a whole trace, with these items
pub record IsRead (bytes : List ℕ) (items : List Item) : Type 0 where
  pub trace : Trace
  pub writes : Writes trace bytes
  pub items_are : items ≡ items_of trace
