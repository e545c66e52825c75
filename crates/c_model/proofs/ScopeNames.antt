-- The names in scope behind a call's or a construct's making of cells, and the entry that a name in scope has.
use Rattle.std.specs.Prelude.{ℕ, ◌≡◌, ◌⊎◌, nat_eq, if◌then◌else◌, Bool, true, false, List, [], ◌∷◌, ◌++◌, length, map, refl, ℤ, pos}
use Rattle.std.specs.List.{All, Contains}
use Rattle.std.proofs.Common.{arith, ap, sym, ◌∙◌, append-nil, append_assoc, inl, inr, subst}
use Rattle.std.proofs.lemmas.Bool.{cases_Bool}
use Rattle.std.proofs.lemmas.Bool.Decides.{nat_tests}
use Rattle.std.proofs.lemmas.List.{length-map, map-append}
use Rattle.std.proofs.lemmas.List.Elements.{All-head, All-tail, Contains-append_cases, Contains-append_left, Contains-append_right, Contains-push, Contains-push_cases}
use Rattle.c_syntax.specs.language.Tree.{Tree, name_of}
use Rattle.c_syntax.specs.language.Numbered.{TreeView}
use Rattle.c_check.specs.Seen.{slot_of_name, task_copies}
use Rattle.c_model.specs.declared.entry.Entry.{Entry}
use Rattle.c_model.specs.Cells.{Bound, entry_at_slot, entry_of, last_named, no_entry, with_cells}
use Rattle.c_model.specs.Calls.{behind_first, first_or_zero, with_parameters}
use Rattle.c_model.specs.Clauses.{Listed}
use Rattle.c_model.specs.Clauses.Copying.{First}
use Rattle.c_model.specs.Loops.{loop_of}
use Rattle.c_model.specs.Copies.{is_loop, loop_slot, listed_variables, with_copy, with_listed, with_own_cells, with_slots, with_task_cells}
use Rattle.c_model.specs.Scoped.{names_of, with_made, with_shared}
use Rattle.c_model.proofs.ScopeTrees.{IsPart}

pub names_push : (env : List Entry) (entry : Entry) → names_of (env ++ entry ∷ []) ≡ names_of env ++ entry.name ∷ []
names_push env entry = map-append (λ (entry : Entry). entry.name) env (entry ∷ [])

pub names_length : (env : List Entry) → length (names_of env) ≡ length env
names_length env = length-map env (λ (entry : Entry). entry.name)

-- nothing is in an empty scope
pub none_in : {X : Type 0} (x : X) → Contains [] x → ⊥
none_in x is = omega (arith, is.1)

-- the first one, or one behind it
pub contains_case : {X : Type 0} (first x : X) (rest : List X) → Contains (first ∷ rest) x → (first ≡ x) ⊎ Contains rest x
contains_case first x rest is =
    elim (Contains-append_cases (first ∷ []) rest x is) [
      | inl here ↦ elim (Contains-push_cases [] first x here) [ inl never ↦ absurd (none_in x never) | inr same ↦ inl same ]
      | inr there ↦ inr there
    ]

same-name : (one other : ℕ) → nat_eq one other ≡ true → one ≡ other
same-name one other is = grind (arith, nat_tests)

pub other_name : (one other : ℕ) → nat_eq one other ≡ false → one ≡ other → ⊥
other_name one other is same = grind (arith, nat_tests)

-- what is so of each entry with a name is so of the last one, if there is one
last-holds : (P : Entry → Type 0) (name : ℕ) (found : Entry) (env : List Entry) → ((entry : Entry) → Contains env entry → entry.name ≡ name → P entry) → P found ⊎ Contains (names_of env) name → P (last_named name found env)
unfolding last_named
last-holds P name found [] each is = elim is [ inl this ↦ this | inr never ↦ absurd (none_in name never) ]
last-holds P name found (entry ∷ env) each is =
    elim (cases_Bool (nat_eq entry.name name)) [
      | inl same ↦
          rw same (last-holds P name entry env (λ other there named. each other (Contains-append_right (entry ∷ []) env other there) named)
          (inl (each entry (Contains-append_left (entry ∷ []) env entry (Contains-push [] entry)) (same-name entry.name name same))))
      | inr other ↦
          rw other (last-holds P name found env (λ other there named. each other (Contains-append_right (entry ∷ []) env other there) named)
          (elim is [
            | inl this ↦ inl this
            | inr known ↦ elim (contains_case entry.name name (names_of env) known) [ inl here ↦ absurd (other_name entry.name name other here) | inr there ↦ inr there ]
          ]))
    ]

-- the entry of a name in scope
pub entry_holds : (P : Entry → Type 0) (env : List Entry) (name : ℕ) → ((entry : Entry) → Contains env entry → P entry) → Contains (names_of env) name → P (entry_of env name)
entry_holds P env name each known = last-holds P name no_entry env (λ entry there named. each entry there) (inr known)

pub entry_named : (env : List Entry) (name : ℕ) → Contains (names_of env) name → (entry_of env name).name ≡ name
entry_named env name known = last-holds (λ (entry : Entry). entry.name ≡ name) name no_entry env (λ entry there named. named) (inr known)

-- parameters
pub parameters_names : (program : TreeView) (parameters : List Tree) (bound : Bound) (numbers : List ℤ) → names_of (with_parameters program bound parameters numbers).env ≡ names_of bound.env ++ map name_of parameters
unfolding with_parameters
parameters_names program [] bound numbers = sym (append-nil (names_of bound.env))
parameters_names program (parameter ∷ parameters) bound numbers =
    parameters_names program parameters (with_cells bound (name_of parameter) (slot_of_name program parameter) (first_or_zero numbers ∷ [])) (behind_first numbers)
    ∙ ap (λ (names : List ℕ). names ++ map name_of parameters) (names_push bound.env _)
    ∙ append_assoc (names_of bound.env) (name_of parameter ∷ []) (map name_of parameters)

-- copies have the names of the variables around
abbrev pub AreListed : List ℕ → List Listed → Type 0
AreListed names listed = All (λ (one : Listed). Contains names one.name) listed

pub listed_names_made : (listed : List Listed) (around bound : Bound) → AreListed (names_of around.env) listed → names_of (with_listed around bound listed).env ≡ names_of bound.env ++ map (λ (one : Listed). one.name) listed
unfolding with_listed
listed_names_made [] around bound are = sym (append-nil (names_of bound.env))
listed_names_made (one ∷ rest) around bound are =
    let named : (entry_of around.env one.name).name ≡ one.name = entry_named around.env one.name (All-head (λ (one : Listed). Contains (names_of around.env) one.name) one rest are) in
    listed_names_made rest around (with_copy around bound (entry_of around.env one.name) one.copying) (All-tail (λ (one : Listed). Contains (names_of around.env) one.name) one rest are)
    ∙ ap (λ (names : List ℕ). names ++ map (λ (one : Listed). one.name) rest) (names_push bound.env _ ∙ ap (λ (name : ℕ). names_of bound.env ++ name ∷ []) named)
    ∙ append_assoc (names_of bound.env) (one.name ∷ []) (map (λ (one : Listed). one.name) rest)

shared-made : (shares : Bool) (bound : Bound) (name slot : ℕ) → names_of (if shares then with_cells bound name slot (pos 0 ∷ []) else bound).env ≡ (if shares then names_of bound.env ++ name ∷ [] else names_of bound.env)
shared-made true bound name slot = names_push bound.env _
shared-made false bound name slot = refl

pub own_names_made : (program : TreeView) (around : Bound) (construct : Tree) → AreListed (names_of around.env) (listed_variables construct) → names_of (with_own_cells program around construct).env ≡ with_made (names_of around.env) construct
own_names_made program around construct are =
    shared-made (is_loop construct) (with_listed around around (listed_variables construct)) (name_of (loop_of construct).variable) (loop_slot program around construct)
    ∙ ap (λ (names : List ℕ). with_shared names construct) (listed_names_made (listed_variables construct) around around are)

-- an explicit task has all that is in scope around it
part-made : (around : List ℕ) (bound : Bound) (name slot : ℕ) (numbers : List ℤ) → IsPart around (names_of bound.env) → IsPart around (names_of (with_cells bound name slot numbers).env)
part-made around bound name slot numbers part known is =
    subst (λ (names : List ℕ). Contains names known) (sym (names_push bound.env _)) (Contains-append_left (names_of bound.env) (name ∷ []) known (part known is))

part-listed : (names : List ℕ) (listed : List Listed) (around bound : Bound) → IsPart names (names_of bound.env) → IsPart names (names_of (with_listed around bound listed).env)
unfolding with_listed
part-listed names [] around bound part = part
part-listed names (one ∷ rest) around bound part =
    part-listed names rest around (with_copy around bound (entry_of around.env one.name) one.copying) (part-made names bound _ _ _ part)

part-slots : (names slots : List ℕ) (around bound : Bound) → IsPart names (names_of bound.env) → IsPart names (names_of (with_slots around bound slots).env)
unfolding with_slots
part-slots names [] around bound part = part
part-slots names (slot ∷ slots) around bound part =
    part-slots names slots around (with_copy around bound (entry_at_slot around.env slot) First) (part-made names bound _ _ _ part)

pub part_task : (program : TreeView) (around : Bound) (construct : Tree) → IsPart (names_of around.env) (names_of (with_task_cells program around construct).env)
part_task program around construct =
    part-slots (names_of around.env) (task_copies program construct) around (with_listed around around (listed_variables construct))
    (part-listed (names_of around.env) (listed_variables construct) around around (λ name is. is))
