-- How much there is of the shared work that asks what stands next of it.
use Rattle.std.specs.Prelude.{ℕ, List, length, slice_get, Option, Some}
use Rattle.c_model.specs.Clauses.{sections_of}
use Rattle.c_model.specs.Task.{Item}
use Rattle.c_model.specs.Task.Item.{NextChunk, NextSection}

-- the iterations of a loop that asks for a chunk
abbrev pub count_of_item : Option Item → ℕ
count_of_item (Some (NextChunk loop)) = loop.count
count_of_item other = 0

abbrev pub count_asked : List Item → ℕ
count_asked items = count_of_item (slice_get items 0)

-- the sections of a construct that asks for one
abbrev pub sections_of_item : Option Item → ℕ
sections_of_item (Some (NextSection construct names)) = length (sections_of construct)
sections_of_item other = 0

abbrev pub sections_asked : List Item → ℕ
sections_asked items = sections_of_item (slice_get items 0)
