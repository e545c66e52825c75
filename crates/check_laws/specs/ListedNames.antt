-- The names that are used inside of a construct with `default(none)`, and stand in none of its data clauses (OpenMP 5.2, 5.4.1).
use Rattle.std.specs.Prelude.{ℕ, ◌≡◌, Bool, true, false, if◌then◌else◌, List, [], ◌∷◌, Option, Some, None}
use Rattle.std.specs.List.{Contains}
use Rattle.c_tokens.specs.declared.token.Spot.{Spot}
use Rattle.c_syntax.specs.declared.node.Default.TheVariants as default
use Rattle.c_syntax.specs.declared.node.NodeKind.{NodeKind}
use Rattle.c_syntax.specs.declared.node.NodeKind.TheVariants as node
use Rattle.c_syntax.specs.language.Tree.{Tree, Children, children_of, kind_of, name_of, spot_of}
use Rattle.c_syntax.specs.language.Tree.Tree.{Node}
use Rattle.c_syntax.specs.language.Tree.Children.{Over, Child, Absent}
use Rattle.c_check.specs.Loops.{child_at, loop_name}
use Rattle.c_check.specs.Statements.{is_head, statement_of}
use Rattle.check_laws.specs.Scopes.{Position, Sort, declared, meaning, positions, positions_among}
use Rattle.check_laws.specs.LoopForm.{is_loop_construct}

-- a name that is used there
pub record Used : Type 0 where
  pub name : ℕ
  pub spot : Spot

abbrev pub used_at : Spot → ℕ → List Used
used_at spot name = record { name = name; spot = spot } ∷ []

-- the names of a list
unfoldable pub each_used : Children → List Used
each_used Over = []
each_used (Absent rest) = []
each_used (Child tree rest) = record { name = name_of tree; spot = spot_of tree } ∷ each_used rest

-- The names that a node uses itself: that of a place or of what is called, the lock of a lock call, and what a data clause lists.
abbrev pub used_by : NodeKind → Spot → ℕ → Children → List Used
used_by node.Place spot name children = used_at spot name
used_by node.Call spot name children = used_at spot name
used_by (node.LockCall which) spot name children = each_used children
used_by node.TestLock spot name children = each_used children
used_by (node.Data which) spot name children = each_used children
used_by (node.Reduction operator) spot name children = each_used children
used_by other spot name children = []

abbrev pub used : Tree → List Used
used tree = used_by (kind_of tree) (spot_of tree) (name_of tree) (children_of tree)

-- the clauses of a construct: a node for each, which is over the clause itself
unfoldable pub clauses_of : Children → List Tree
clauses_of Over = []
clauses_of (Absent rest) = []
clauses_of (Child (Node (node.Clause lead) spot name number text (Child clause more)) rest) = clause ∷ clauses_of rest
clauses_of (Child other rest) = clauses_of rest

abbrev pub is_construct : NodeKind → Bool
is_construct (node.Construct which) = true
is_construct other = false

abbrev pub is_default_none : NodeKind → Bool
is_default_none (node.Default default.None) = true
is_default_none other = false

-- a construct with `default(none)`
pub record HasDefaultNone (tree : Tree) : Type 0 where
  pub is : is_construct (kind_of tree) ≡ true
  pub clause : Tree
  pub there : Contains (clauses_of (children_of tree)) clause
  pub none : is_default_none (kind_of clause) ≡ true

abbrev pub is_data : NodeKind → Bool
is_data (node.Data which) = true
is_data (node.Reduction operator) = true
is_data other = false

-- a data clause of a construct lists the name
pub record Lists (name : ℕ) (construct : Tree) : Type 0 where
  pub clause : Tree
  pub there : Contains (clauses_of (children_of construct)) clause
  pub is : is_data (kind_of clause) ≡ true
  pub one : Used
  pub listed : Contains (used clause) one
  pub named : one.name ≡ name

-- what stands inside of a construct, behind its clauses and the name of a critical: its statement, or what stands in the braces of sections
unfoldable pub positions_inside : Children → List Position
positions_inside Over = []
positions_inside (Absent rest) = []
positions_inside (Child tree rest) = if is_head (kind_of tree) then positions_inside rest else positions_among (Child tree rest)

-- A `for` or `parallel for` that stands there shares out a loop whose variable has this name and is declared outside, also of the loop.
pub record SharesLoopOf (name : ℕ) (position : Position) : Type 0 where
  pub shares : is_loop_construct (kind_of position.node) ≡ true
  pub variable : loop_name (statement_of (children_of position.node)) ≡ Some name
  pub undeclared : meaning (declared (child_at (statement_of (children_of position.node)) 0)) name ≡ None
  pub outside : meaning position.scope name ≡ None

-- a construct, which may itself share out a loop, with what stands inside
abbrev pub with_inside : Tree → List Position
with_inside construct = record { node = construct; scope = [] } ∷ positions_inside (children_of construct)

-- a variable, an array or a lock
abbrev pub is_listable : Option Sort → Bool
is_listable None = false
is_listable (Some Sort.function) = false
is_listable (Some other) = true

-- A name is used there inside of a construct with `default(none)`. It means a variable, an array or a lock that is declared outside of the
-- construct, no data clause of the construct lists it, and it isn't that of the variable of a loop that a directive shares out there.
pub record BreaksListing (tree : Tree) (spot : Spot) : Type 0 where
  pub construct : Position
  pub there : Contains (positions tree) construct
  pub default_none : HasDefaultNone construct.node
  pub inside : Position
  pub within : Contains (positions_inside (children_of construct.node)) inside
  pub one : Used
  pub uses : Contains (used inside.node) one
  pub at : one.spot ≡ spot
  pub outside : meaning inside.scope one.name ≡ None
  pub variable : is_listable (meaning construct.scope one.name) ≡ true
  pub not_listed : Lists one.name construct.node → ⊥
  pub no_loop : (position : Position) → Contains (with_inside construct.node) position → SharesLoopOf one.name position → ⊥
