-- What is left of the variables that a construct's clauses list, from a place in its clauses on.
use Rattle.std.specs.Prelude.{ℕ, ◌+◌, not, List, [], ◌∷◌, ◌++◌, map, Option, Some, None}
use Rattle.std.specs.List.{filter}
use Rattle.c_syntax.specs.language.Tree.{Tree, children_of, kind_of, name_of, number_of, spot_of, text_of}
use Rattle.c_syntax.specs.language.Tree.Tree.{Node}
use Rattle.c_check.specs.Tasks.{from_place}
use Rattle.c_model.specs.Clauses as clauses
use Rattle.c_model.specs.Clauses.{Listed, clause_in, clauses_among, listed_among, names_listed}
use Rattle.c_model.specs.Copies.{is_own_loop_variable}
use Rattle.c_steps.specs.declared.listed.Copying.{Copying}
use Rattle.c_steps.specs.declared.listed.Copying.TheVariants as copying
use Rattle.c_steps.specs.declared.listed.ListedPlace.{ListedPlace}
use Rattle.c_steps.specs.declared.listed.ListedName.{ListedName}
use Rattle.c_steps.specs.declared.listed.FoundName.{FoundName}
use Rattle.c_steps.specs.Rests.{parts_from}

abbrev pub copying_of : Copying → clauses.Copying
copying_of copying.Private = clauses.Copying.Private
copying_of copying.First = clauses.Copying.First
copying_of (copying.Reduced operator) = clauses.Copying.Reduced operator

abbrev pub listed_of : ListedName → Listed
listed_of listed = record { name = listed.name; copying = copying_of listed.copying }

-- the names of a clause, if it gives a construct variables of its own
abbrev pub names_by : Option Copying → List Tree → List Listed
names_by None names = []
names_by (Some copying) names = names_listed (copying_of copying) names

-- a clause without its first children
abbrev pub without_first : ℕ → Tree → Tree
without_first count clause =
    Node (kind_of clause) (spot_of clause) (name_of clause) (number_of clause) (text_of clause) (from_place count (children_of clause))

-- what a part of a construct lists, without the first so many names
abbrev pub listed_in : ℕ → Tree → List Listed
listed_in count part = listed_among (map (without_first count) (clause_in (kind_of part) part))

abbrev pub listed_behind : ℕ → List Tree → List Listed
listed_behind count [] = []
listed_behind count (part ∷ parts) = listed_in count part ++ listed_among (clauses_among parts)

-- what the clauses list from a place on, the construct's own loop variable too
abbrev pub names_from : Tree → ListedPlace → List Listed
names_from construct place = listed_behind place.name (parts_from construct place.part)

-- the variables that a construct lists from a place on
abbrev pub listed_from : Tree → ListedPlace → List Listed
listed_from construct place =
    filter (λ (listed : Listed). not (is_own_loop_variable construct listed.name)) (names_from construct place)

-- the name that was found, with those behind it
abbrev pub with_name_of_part : ℕ → Tree → Option ListedName → List Listed
with_name_of_part count part None = []
with_name_of_part count part (Some listed) = listed_of listed ∷ listed_in (count + 1) part

abbrev pub with_name_of_clause : ℕ → Tree → Option ListedName → List Listed
with_name_of_clause count clause None = []
with_name_of_clause count clause (Some listed) = listed_of listed ∷ clauses.listed_by (kind_of clause) (without_first (count + 1) clause)

abbrev pub with_name : Tree → Option FoundName → List Listed
with_name construct None = []
with_name construct (Some found) = listed_of found.listed ∷ names_from construct found.next

abbrev pub with_found : Tree → Option FoundName → List Listed
with_found construct None = []
with_found construct (Some found) = listed_of found.listed ∷ listed_from construct found.next
