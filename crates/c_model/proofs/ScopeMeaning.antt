-- What it means that a name is in scope: its entry is found, and what else there may be doesn't count.
use Rattle.std.specs.Prelude.{ℕ, ◌≡◌, ◌==◌, nat_eq, if◌then◌else◌, Bool, true, false, IsTrue, List, [], ◌∷◌, ◌++◌, Option, Some, None, Result, refl, ℤ}
use Rattle.std.specs.List.{Contains}
use Rattle.std.proofs.Common.{ap, ◌∙◌, inl, inr}
use Rattle.std.proofs.lemmas.Bool.{cases_Bool}
use Rattle.std.proofs.lemmas.List.Elements.{Contains-append_left, Contains-append_right, Contains-push}
use Rattle.c_syntax.specs.declared.node.NodeKind.TheVariants as node
use Rattle.c_syntax.specs.language.Tree.{Tree, Children}
use Rattle.c_syntax.specs.language.Tree.Tree.{Node}
use Rattle.c_syntax.specs.language.Tree.Children.{Over, Child, Absent}
use Rattle.c_syntax.specs.language.Numbered.{TreeView, root_tree}
use Rattle.c_model.specs.declared.entry.Entry.{Entry}
use Rattle.c_model.specs.Cells.{entry_of, first_named, last_named, no_entry}
use Rattle.c_model.specs.Value.{Scope, binary_value, operand_value, place_cell, unary_value, value, value_at, value_of_cell, values}
use Rattle.c_model.specs.Parts.{parts}
use Rattle.c_model.specs.Program.{function_among, function_named, is_function_named}
use Rattle.c_model.specs.Scoped.{IsCallable, Knows, KnowsEach, Sees, SeesEach, names_of}
use Rattle.c_model.proofs.ScopeNames.{contains_case, entry_holds, none_in, other_name}

pub entry_is_in : (env : List Entry) (name : ℕ) → Contains (names_of env) name → Contains env (entry_of env name)
entry_is_in env name known = entry_holds (λ (entry : Entry). Contains env entry) env name (λ entry there. there) known

-- so is the first entry of a name
pub first_is_in : (env : List Entry) (name : ℕ) → Contains (names_of env) name → Contains env (first_named name env)
unfolding first_named
first_is_in [] name known = absurd (none_in name known)
first_is_in (entry ∷ env) name known =
    elim (cases_Bool (nat_eq entry.name name)) [
      | inl same ↦ rw same (Contains-append_left (entry ∷ []) env entry (Contains-push [] entry))
      | inr differs ↦ rw differs (elim (contains_case entry.name name (names_of env) known) [
        | inl here ↦ absurd (other_name entry.name name differs here)
        | inr there ↦ Contains-append_right (entry ∷ []) env (first_named name env) (first_is_in env name there)
      ])
    ]

-- a function that is called is one of the file's
among-chosen : (found : Bool) (tree other : Tree) (trees : List Tree) (named : Tree → Bool) → named tree ≡ found → (IsTrue (named other) → Contains trees other) → IsTrue (named (if found then tree else other)) → Contains (tree ∷ trees) (if found then tree else other)
among-chosen true tree other trees named is there holds = Contains-append_left (tree ∷ []) trees tree (Contains-push [] tree)
among-chosen false tree other trees named is there holds = Contains-append_right (tree ∷ []) trees other (there holds)

function-among : (name : ℕ) (trees : List Tree) → IsTrue (is_function_named name (function_among name trees)) → Contains trees (function_among name trees)
unfolding function_among
function-among name [] is = absurd (cc)
function-among name (tree ∷ trees) is =
    among-chosen (is_function_named name tree) tree (function_among name trees) trees (is_function_named name) refl (function-among name trees) is

pub called_is_there : (program : TreeView) (name arguments : ℕ) → IsCallable program name arguments → Contains (parts (root_tree program)) (function_named program name)
called_is_there program name arguments is = function-among name (parts (root_tree program)) is.there

-- what a statement knows, an expression sees
mutual
  unfolding Knows KnowsEach Sees SeesEach

  pub knows_sees : (program : TreeView) (names : List ℕ) (tree : Tree) → Knows program names tree → Sees names tree
  knows_sees program names (Node node.Place spot name number text children) knows = (knows.0, sees-each program names children knows.1)
  knows_sees program names (Node node.Paren spot name number text children) knows = sees-each program names children knows.1
  knows_sees program names (Node (node.Unary operator) spot name number text children) knows = sees-each program names children knows.1
  knows_sees program names (Node (node.Binary operator) spot name number text children) knows = sees-each program names children knows.1
  knows_sees program names (Node other spot name number text children) knows = tt

  sees-each : (program : TreeView) (names : List ℕ) (children : Children) → KnowsEach program names children → SeesEach names children
  sees-each program names Over knows = tt
  sees-each program names (Absent rest) knows = sees-each program names rest knows
  sees-each program names (Child tree rest) knows = (knows_sees program names tree knows.0, sees-each program names rest knows.1)

-- the entry of a name in scope doesn't depend on what stands before the scope
last-any : (name : ℕ) (one other : Entry) (env : List Entry) → Contains (names_of env) name → last_named name one env ≡ last_named name other env
unfolding last_named
last-any name one other [] known = absurd (none_in name known)
last-any name one other (entry ∷ env) known =
    elim (cases_Bool (nat_eq entry.name name)) [
      | inl same ↦ rw same refl
      | inr differs ↦ rw differs (elim (contains_case entry.name name (names_of env) known) [
        | inl here ↦ absurd (other_name entry.name name differs here)
        | inr there ↦ last-any name one other env there
      ])
    ]

last-append : (name : ℕ) (found : Entry) (around env : List Entry) → last_named name found (around ++ env) ≡ last_named name (last_named name found around) env
unfolding last_named
last-append name found [] env = refl
last-append name found (entry ∷ around) env = last-append name (if entry.name == name then entry else found) around env

entry-around : (around env : List Entry) (name : ℕ) → Contains (names_of env) name → entry_of (around ++ env) name ≡ entry_of env name
entry-around around env name known = last-append name no_entry around env ∙ last-any name _ no_entry env known

abbrev wider : List Entry → Scope → Scope
wider around scope = record scope { env = around ++ scope.env }

mutual
  unfolding value values Sees SeesEach

  pub value_around : (around : List Entry) (scope : Scope) (tree : Tree) → Sees (names_of scope.env) tree → value (record scope { env = around ++ scope.env }) tree ≡ value scope tree
  value_around around scope (Node node.Place spot name number text children) sees =
      ap (λ (entry : Entry). value_of_cell scope.cells (place_cell entry (value_at (values (wider around scope) children) 0))) (entry-around around scope.env name sees.0)
      ∙ ap (λ (parts : List (Option (Result ℤ ℕ))). value_of_cell scope.cells (place_cell (entry_of scope.env name) (value_at parts 0))) (values-around around scope children sees.1)
  value_around around scope (Node node.Paren spot name number text children) sees =
      ap (λ (parts : List (Option (Result ℤ ℕ))). operand_value (value_at parts 0)) (values-around around scope children sees)
  value_around around scope (Node (node.Unary operator) spot name number text children) sees =
      ap (λ (parts : List (Option (Result ℤ ℕ))). unary_value operator (operand_value (value_at parts 0))) (values-around around scope children sees)
  value_around around scope (Node (node.Binary operator) spot name number text children) sees =
      ap (λ (parts : List (Option (Result ℤ ℕ))). binary_value operator (operand_value (value_at parts 0)) (operand_value (value_at parts 1))) (values-around around scope children sees)
  value_around around scope (Node other spot name number text children) sees = refl

  values-around : (around : List Entry) (scope : Scope) (children : Children) → SeesEach (names_of scope.env) children → values (wider around scope) children ≡ values scope children
  values-around around scope Over sees = refl
  values-around around scope (Absent rest) sees = ap (λ (parts : List (Option (Result ℤ ℕ))). None ∷ parts) (values-around around scope rest sees)
  values-around around scope (Child tree rest) sees =
      ap (λ (first : Result ℤ ℕ). Some first ∷ values (wider around scope) rest) (value_around around scope tree sees.0)
      ∙ ap (λ (parts : List (Option (Result ℤ ℕ))). Some (value scope tree) ∷ parts) (values-around around scope rest sees.1)
