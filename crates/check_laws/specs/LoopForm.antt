-- The loops that a `for` directive can share out, `for (i = a; i < b; i++)` and its kin (OpenMP 5.2, 4.4.1), and the constructs whose
-- statement is no such loop.
use Rattle.std.specs.Prelude.{ℕ, ◌≡◌, ◌≤◌, ◌++◌, Bool, true, false, List, [], ◌∷◌, Option, Some, None}
use Rattle.std.specs.List.{Contains}
use Rattle.c_tokens.specs.declared.token.Spot.{Spot}
use Rattle.c_syntax.specs.declared.node.BinaryOp.{BinaryOp}
use Rattle.c_syntax.specs.declared.node.BinaryOp.TheVariants as binary
use Rattle.c_syntax.specs.declared.node.Bump.{Bump}
use Rattle.c_syntax.specs.declared.node.Bump.TheVariants as bump
use Rattle.c_syntax.specs.declared.node.Setting.{Setting}
use Rattle.c_syntax.specs.declared.node.Setting.TheVariants as setting
use Rattle.c_syntax.specs.declared.node.Side.{Side}
use Rattle.c_syntax.specs.declared.node.NodeKind.{NodeKind}
use Rattle.c_syntax.specs.declared.node.NodeKind.TheVariants as node
use Rattle.c_syntax.specs.language.Tree.{Tree, Children, children_of, kind_of, name_of, number_of, spot_of}
use Rattle.c_syntax.specs.language.Tree.Tree.{Node}
use Rattle.c_syntax.specs.language.Tree.Children.{Over, Child}
use Rattle.c_syntax.specs.language.Productions.{kids}
use Rattle.c_check.specs.Loops.{stands_in}
use Rattle.c_check.specs.Statements.{shares_loop, statement_of}
use Rattle.check_laws.specs.Scopes.{Declaration, Position, Sort, declared, meaning, positions}

-- a node of this kind over these
abbrev pub IsNode : NodeKind → List Tree → Tree → Type 0
IsNode kind parts tree = (kind_of tree ≡ kind) × (children_of tree ≡ kids parts)

-- `i`: a name without an index
pub record IsVariable (i : ℕ) (tree : Tree) : Type 0 where
  pub is : IsNode node.Place [] tree
  pub name : name_of tree ≡ i

-- `i = a`, where `i` doesn't stand in `a`, or `int i = a`, where an `i` in `a` is another variable
pub data Begins (i : ℕ) (first : Tree) : Type 0 where
  assigns : (variable start : Tree) → IsNode (node.Assign setting.Plain) (variable ∷ start ∷ []) first → IsVariable i variable
      → stands_in i start ≡ false → Begins i first
  declares : (named start : Tree) → IsNode node.Init (named ∷ start ∷ []) first → name_of named ≡ i → Begins i first

-- a loop goes up or down
pub data Way : Type 0 where
  up down : Way

abbrev pub way_of : BinaryOp → Option Way
way_of binary.Less = Some Way.up
way_of binary.LessEqual = Some Way.up
way_of binary.Greater = Some Way.down
way_of binary.GreaterEqual = Some Way.down
way_of other = None

-- `i < b` or its kin, where `i` doesn't stand in `b`
pub data Compares (i : ℕ) (way : Way) (second : Tree) : Type 0 where
  compared : (operator : BinaryOp) (variable end : Tree) → way_of operator ≡ Some way
      → IsNode (node.Binary operator) (variable ∷ end ∷ []) second → IsVariable i variable → stands_in i end ≡ false → Compares i way second

abbrev pub bump_of : Way → Bump
bump_of Way.up = bump.Increment
bump_of Way.down = bump.Decrement

abbrev pub setting_of : Way → Setting
setting_of Way.up = setting.Add
setting_of Way.down = setting.Subtract

-- `i++`, `++i` or `i += c`, or their kin that go down, where `c` is a number from 1 on
pub data Steps (i : ℕ) (way : Way) (third : Tree) : Type 0 where
  bumped : (side : Side) (variable : Tree) → IsNode (node.Bump (bump_of way) side) (variable ∷ []) third → IsVariable i variable
      → Steps i way third
  moved : (variable stride : Tree) → IsNode (node.Assign (setting_of way)) (variable ∷ stride ∷ []) third → IsVariable i variable
      → IsNode node.Number [] stride → 1 ≤ number_of stride → Steps i way third

-- the variable that a node assigns; an assignment to a place with an index assigns none
abbrev pub first_variable : Children → Option ℕ
first_variable (Child (Node node.Place spot name number text Over) rest) = Some name
first_variable other = None

abbrev pub assigned_by : NodeKind → Children → Option ℕ
assigned_by (node.Assign setting) children = first_variable children
assigned_by (node.Bump which side) children = first_variable children
assigned_by node.SetCall children = first_variable children
assigned_by other children = None

abbrev pub assigned_variable : Tree → Option ℕ
assigned_variable tree = assigned_by (kind_of tree) (children_of tree)

-- an assignment that stands there in a statement assigns an `i` that is declared outside of the statement
pub record AssignsOutside (i : ℕ) (position : Position) : Type 0 where
  pub assigns : assigned_variable position.node ≡ Some i
  pub outside : meaning position.scope i ≡ None

abbrev pub NeverAssigns : ℕ → Tree → Type 0
NeverAssigns i statement = (position : Position) → Contains (positions statement) position → AssignsOutside i position → ⊥

-- A loop of the form, where these declarations are in scope: `i` is an `int`, and the statement behind the head doesn't assign it.
pub record IsLoopOfForm (scope : List Declaration) (loop : Tree) : Type 0 where
  pub variable : ℕ
  pub way : Way
  pub first : Tree
  pub second : Tree
  pub third : Tree
  pub body : Tree
  pub parts_are : IsNode node.For (first ∷ second ∷ third ∷ body ∷ []) loop
  pub begins : Begins variable first
  pub is_int : meaning (declared first ++ scope) variable ≡ Some Sort.variable
  pub compares : Compares variable way second
  pub steps : Steps variable way third
  pub never_assigns : NeverAssigns variable body

-- a `for` or `parallel for`
abbrev pub is_loop_construct : NodeKind → Bool
is_loop_construct (node.Construct which) = shares_loop which
is_loop_construct other = false

-- a `for` construct of the tree stands there whose statement is no loop of the form
pub record BreaksLoopForm (tree : Tree) (spot : Spot) : Type 0 where
  pub construct : Position
  pub there : Contains (positions tree) construct
  pub shares : is_loop_construct (kind_of construct.node) ≡ true
  pub at : spot_of construct.node ≡ spot
  pub odd : IsLoopOfForm construct.scope (statement_of (children_of construct.node)) → ⊥
