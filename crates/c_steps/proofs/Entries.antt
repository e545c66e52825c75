-- The cells of the names in scope are among those that there may be.
use Rattle.std.specs.Prelude.{◌≡◌, ℕ, ◌==◌, ◌≤◌, if◌then◌else◌, List, [], ◌∷◌, ◌++◌, drop, Option, Some, None, Result, Ok, Err, ℤ, pos, negsuc, nat_lt, IfOk}
use Rattle.std.proofs.Common.{Bool, true, false, ◌<◌, inl, inr, subst, sym, arith}
use Rattle.std.proofs.lemmas.Bool.{cases_Bool, ltb-true}
use Rattle.std.proofs.lemmas.List.Elements.{All-append, All-drop, All-head, All-tail}
use Rattle.c_syntax.specs.language.Tree.{Tree, name_of}
use Rattle.c_model.specs.declared.entry.Entry.{Entry}
use Rattle.c_model.specs.declared.limits.TheConstants.{CELL_LIMIT}
use Rattle.c_model.specs.Cells.{entry_of, last_named, no_entry}
use Rattle.c_model.specs.Value.{Scope, cell_of, element, index_of, place_cell}
use Rattle.c_steps.specs.Rooming.{AreEntries, IsEntry}

one_of : (first : Bool) (entry found : Entry) → IsEntry entry → IsEntry found → IsEntry (if first then entry else found)
one_of true entry found is other = is
one_of false entry found is other = other

is_last : (name : ℕ) (found : Entry) (entries : List Entry) → IsEntry found → AreEntries entries → IsEntry (last_named name found entries)
unfolding last_named
is_last name found [] is are = is
is_last name found (entry ∷ entries) is are =
    is_last name (if entry.name == name then entry else found) entries
    (one_of (entry.name == name) entry found (All-head IsEntry entry entries are) is)
    (All-tail IsEntry entry entries are)

is_entry_of : (env : List Entry) (name : ℕ) → AreEntries env → IsEntry (entry_of env name)
is_entry_of env name are = is_last name no_entry env (omega arith) are

-- the entry of a name is one of those in scope, or none
pub is_entry : (entry : Entry) (env : List Entry) (name : ℕ) → entry ≡ entry_of env name → AreEntries env → IsEntry entry
is_entry entry env name is are = subst IsEntry (sym is) (is_entry_of env name are)

-- the names of a function
pub are_own : (names own : List Entry) (base : ℕ) → own ≡ drop base names → AreEntries names → AreEntries own
are_own names own base is are = subst AreEntries (sym is) (All-drop IsEntry base names are)

-- .. with those of the file
pub are_together : (file own : List Entry) → AreEntries file → AreEntries own → AreEntries (file ++ own)
are_together file own of_file of_own = All-append IsEntry file own of_file of_own

-- .. of which an entry is
pub is_entry_there : (entry : Entry) (file own : List Entry) (name : ℕ) → entry ≡ entry_of (file ++ own) name → AreEntries file → AreEntries own → IsEntry entry
is_entry_there entry file own name is of_file of_own = is_entry entry (file ++ own) name is (are_together file own of_file of_own)

is_element : (entry : Entry) (index : ℤ) → IsEntry entry → IfOk (element entry index) (λ cell. cell ≤ CELL_LIMIT)
is_element entry (pos index) is =
    elim (cases_Bool (nat_lt index entry.size)) [
      | inl within ↦ rw within (let less : index < entry.size = ltb-true index entry.size within in omega (arith, less, is))
      | inr beyond ↦ rw beyond tt
    ]
is_element entry (negsuc index) is = tt

is_place : (entry : Entry) (index : Option (Result ℤ ℕ)) → IsEntry entry → IfOk (place_cell entry index) (λ cell. cell ≤ CELL_LIMIT)
is_place entry None is = omega (arith, is)
is_place entry (Some (Err trap)) is = tt
is_place entry (Some (Ok index)) is = is_element entry index is

-- the cell of a place
pub is_cell : (cell : Result ℕ ℕ) (scope : Scope) (place : Tree) → cell ≡ cell_of scope place → AreEntries scope.env → IfOk cell (λ cell. cell ≤ CELL_LIMIT)
is_cell cell scope place is are =
    subst (λ (found : Result ℕ ℕ). IfOk found (λ cell. cell ≤ CELL_LIMIT)) (sym is) (is_place (entry_of scope.env (name_of place)) (index_of scope place) (is_entry_of scope.env (name_of place) are))
