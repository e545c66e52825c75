-- The parts of a loop, what they do, and where their nodes stand.
use Rattle.std.specs.Prelude.{ℕ, ◌≡◌, not, Bool, true, false, IsTrue, List, [], ◌∷◌, ◌++◌, Option, Some, None, if◌then◌else◌}
use Rattle.c_syntax.specs.declared.node.NodeKind.TheVariants as node
use Rattle.c_syntax.specs.language.Tree.{Tree, children_of, kind_of}
use Rattle.c_check.specs.declared.acts.act.Act.{Act}
use Rattle.c_check.specs.declared.acts.act.Act.TheVariants.{Assign, Close, Declare, Loop, OddLoop, Open, Use}
use Rattle.c_check.specs.declared.acts.role.Role.TheVariants as role
use Rattle.c_check.specs.Acts.{acts}
use Rattle.c_check.specs.Loops.{has_form, loop_name}
use Rattle.check_laws.specs.Scopes.{Declaration, Position, behind, declared, positions}
use Rattle.check_laws.proofs.Forms.{HasHead, loop_parts}

abbrev pub position : Tree → Position
position tree = record { node = tree; scope = [] }

-- what the checker is told where the statement isn't of the form
abbrev pub odd_acts : Bool → List Act
odd_acts form = if not form then OddLoop ∷ [] else []

-- parts that may be absent
abbrev pub part_acts : Option Tree → List Act
part_acts None = []
part_acts (Some tree) = acts role.Plain tree

abbrev pub part_declared : Option Tree → List Declaration
part_declared None = []
part_declared (Some tree) = declared tree

abbrev pub part_nodes : Option Tree → List Position
part_nodes None = []
part_nodes (Some tree) = positions tree

-- acts that begin and end no construct and say nothing of one
abbrev pub is_calm : Act → Bool
is_calm (Use name spot used) = true
is_calm (Assign name) = true
is_calm (Declare name spot what) = true
is_calm other = false

abbrev pub AreCalm : List Act → Type 0
AreCalm [] = Unit {0}
AreCalm (act ∷ rest) = IsTrue (is_calm act) × AreCalm rest

-- a `for` with its parts
pub record LoopParts (tree : Tree) : Type 0 where
  pub begins : Option Tree
  pub tests : Option Tree
  pub steps : Option Tree
  pub body : Tree
  pub kind : kind_of tree ≡ node.For
  pub children : children_of tree ≡ loop_parts begins tests steps body
  pub head_acts : List Act
  pub head_nodes : List Position
  pub acts_are : (name : ℕ) → acts (role.Looped name) tree ≡ Open ∷ (head_acts ++ Loop name ∷ acts role.Plain body) ++ Close ∷ []
  pub nodes_are : positions tree ≡ position tree ∷ (head_nodes ++ behind (part_declared begins) (positions body))
  pub calm : AreCalm head_acts
  pub heads : (i : ℕ) → loop_name tree ≡ Some i → has_form tree ≡ true → HasHead tree
