-- The variables that a construct's clauses list, from a place on.
use Rattle.std.proofs.Common.{◌≡◌, ℕ, List, [], ◌∷◌, ◌++◌, map, refl, sym, ap, ◌∙◌, append_assoc}
use Rattle.c_syntax.specs.language.Tree.{Tree, kind_of}
use Rattle.c_syntax.specs.language.Tree.Tree.{Node}
use Rattle.c_check.specs.Tasks.{from_place}
use Rattle.c_model.specs.Clauses.{clause_in, clauses_among, clauses_of, listed_among, listed_by}
use Rattle.c_steps.specs.ListedNames.{listed_behind, listed_in, names_from, without_first}

listed_among-append : (clauses more : List Tree) → listed_among (clauses ++ more) ≡ listed_among clauses ++ listed_among more
unfolding listed_among
listed_among-append [] more = refl
listed_among-append (clause ∷ clauses) more =
    ap (λ rest. listed_by (kind_of clause) clause ++ rest) (listed_among-append clauses more)
    ∙ sym (append_assoc (listed_by (kind_of clause) clause) (listed_among clauses) (listed_among more))

without_none : (clauses : List Tree) → map (without_first 0) clauses ≡ clauses
unfolding from_place
without_none [] = refl
without_none (Node kind spot name number text children ∷ clauses) = ap (λ rest. Node kind spot name number text children ∷ rest) (without_none clauses)

-- where no name was passed over
pub listed_behind_start : (parts : List Tree) → listed_behind 0 parts ≡ listed_among (clauses_among parts)
unfolding clauses_among listed_among
listed_behind_start [] = refl
listed_behind_start (part ∷ parts) =
    ap (λ clauses. listed_among clauses ++ listed_among (clauses_among parts)) (without_none (clause_in (kind_of part) part))
    ∙ sym (listed_among-append (clause_in (kind_of part) part) (clauses_among parts))

pub names_from_start : (construct : Tree) → names_from construct (record { part = 0; name = 0 }) ≡ listed_among (clauses_of construct)
unfolding from_place
names_from_start construct = listed_behind_start _

-- where a part lists no further name
pub behind_part : (count : ℕ) (part : Tree) (parts rest : List Tree) → parts ≡ part ∷ rest → listed_in count part ≡ [] → listed_behind count parts ≡ listed_among (clauses_among rest)
behind_part count part parts rest are none = rw are (ap (λ listed. listed ++ listed_among (clauses_among rest)) none)
