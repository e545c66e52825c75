-- What is left of lists of parts, from a place on.
use Rattle.std.specs.Prelude.{ℕ, ◌+◌, List, [], ◌∷◌, Option, Some, None, IfSome}
use Rattle.c_syntax.specs.language.Tree.{Tree, children_of}
use Rattle.c_syntax.specs.language.Numbered.{tree_at}
use Rattle.c_check.specs.Tasks.{from_place}
use Rattle.c_model.specs.Parts.{trees_in}
use Rattle.c_model.specs.Clauses.{clauses_among, statements_among}
use Rattle.c_steps.specs.Nodes.{IsPart, part_at}
use Rattle.c_steps.specs.declared.clauses.FoundPart.{FoundPart}

-- the parts of a tree from a place on
abbrev pub parts_from : Tree → ℕ → List Tree
parts_from tree place = trees_in (from_place place (children_of tree))

-- the part that was found at a place, and those behind it
abbrev pub with_part : List Tree → Tree → ℕ → Option ℕ → List Tree
with_part trees tree place None = []
with_part trees tree place (Some child) = tree_at trees child ∷ parts_from tree (place + 1)

-- the clauses of a construct from a place on, and what stands behind its clauses
abbrev pub clauses_from : Tree → ℕ → List Tree
clauses_from construct place = clauses_among (parts_from construct place)

abbrev pub statements_from : Tree → ℕ → List Tree
statements_from construct place = statements_among (parts_from construct place)

-- the clause that was found, and those behind it
abbrev pub with_clause : List Tree → Tree → Option FoundPart → List Tree
with_clause trees construct None = []
with_clause trees construct (Some found) = part_at trees found.part ∷ clauses_from construct found.next

-- the statement that was found, and those behind it
abbrev pub with_statement : List Tree → Tree → Option FoundPart → List Tree
with_statement trees construct None = []
with_statement trees construct (Some found) = part_at trees found.part ∷ statements_from construct found.next

-- the part that was found is there
abbrev pub IsFound : List Tree → Option FoundPart → Type 0
IsFound trees found = IfSome found (λ found. IsPart trees found.part)
