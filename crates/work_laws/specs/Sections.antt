-- The sections of a construct, by their places.
use Rattle.std.specs.Prelude.{ℕ, ◌≡◌, ◌<◌, true, List, length, map}
use Rattle.std.specs.List.{Contains}
use Rattle.c_syntax.specs.language.Numbered.{TreeView, root_tree}
use Rattle.c_syntax.specs.language.Places.{HasOneConstructAPlace, is_construct, nodes_of}
use Rattle.c_syntax.specs.language.Tree.{Tree, kind_of, spot_of}
use Rattle.c_model.specs.declared.limits.TheConstants.{LINE_UNIT}
use Rattle.c_model.specs.Clauses.{sections_of, statements_among}
use Rattle.c_model.specs.Parts.{parts}
use Rattle.c_model.specs.Program.{place_of}
use Rattle.team_parts.specs.declared.meeting.Meeting.{Meeting}
use Rattle.team_parts.specs.declared.meeting.Meeting.TheVariants.{Sections}

abbrev pub IsConstructOf : TreeView → Tree → Type 0
IsConstructOf program construct = Contains (nodes_of (root_tree program)) construct × (is_construct (kind_of construct) ≡ true)

-- No two constructs have one place. In the tree of a text no two have one spot. A line of a text of 65,536 bytes is too short for a column of 65,536
-- at which a construct stands.
pub record HaveOwnPlaces (program : TreeView) : Type 0 where
  pub spots : HasOneConstructAPlace (root_tree program)
  pub columns : (construct : Tree) → IsConstructOf program construct → (spot_of construct).column < LINE_UNIT

-- the places of a construct's sections, in the order of the text. Each stands at its directive, and a first one without a directive at its statement
abbrev pub section_places : Tree → List ℕ
section_places construct = map place_of (statements_among (parts construct))

-- what members meet where they come to the construct
abbrev pub sections_met : Tree → Meeting
sections_met construct = Sections (place_of construct) (length (sections_of construct))
