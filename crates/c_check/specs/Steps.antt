-- What a step of a walk does to what is left: tasks are put before the others.
use Rattle.std.specs.Prelude.{ℕ, Bool, true, false, ◌∷◌, ◌≡◌, ◌≤◌, ◌+◌, List, [], ◌++◌, Option, Some, None, sum_by}
use Rattle.c_tokens.specs.declared.token.Spot.{Spot}
use Rattle.c_syntax.specs.declared.node.Standalone.{Standalone}
use Rattle.c_syntax.specs.declared.node.Standalone.TheVariants as standalone
use Rattle.c_syntax.specs.declared.node.NodeKind.{NodeKind}
use Rattle.c_syntax.specs.declared.node.NodeKind.TheVariants as node
use Rattle.c_syntax.specs.language.Tree.{Tree, Children, at_place, children_of, kind_of}
use Rattle.c_syntax.specs.language.Numbered.{tree_at}
use Rattle.c_check.specs.declared.acts.act.Act.{Act}
use Rattle.c_check.specs.declared.acts.act.Act.TheVariants.{Barrier}
use Rattle.c_check.specs.declared.acts.act.DataClause.TheVariants as clause
use Rattle.c_check.specs.declared.acts.role.Naming.TheVariants as naming
use Rattle.c_check.specs.declared.acts.role.Role.TheVariants as role
use Rattle.c_check.specs.declared.acts.walk.Task.{Task}
use Rattle.c_check.specs.declared.acts.walk.Task.TheVariants as task
use Rattle.c_check.specs.declared.acts.walk.Walk.{Walk}
use Rattle.c_check.specs.Acts.{acts, each}
use Rattle.c_check.specs.Clauses.{data_of}
use Rattle.c_check.specs.NameLists.{names}
use Rattle.c_check.specs.Tasks.{children_left, left_of, told_by, AreThere}
use Rattle.c_check.specs.Weights.{weight_among, weight_below}

-- what a task consists of weighs at most
abbrev pub weight_in : List Tree → Task → ℕ
weight_in trees (task.Tell act) = 0
weight_in trees (task.Visit around node) = weight_below (tree_at trees node)
weight_in trees (task.Each around node place) = weight_among (children_left trees node place)
weight_in trees (task.Names why node place) = weight_among (children_left trees node place)
weight_in trees (task.Outside node place) = weight_among (children_left trees node place)
weight_in trees (task.Inside node place) = weight_among (children_left trees node place)
weight_in trees (task.Statements around node place) = weight_among (children_left trees node place)

-- a task is heavier than what it consists of, but for an act, which is told
abbrev pub weight_by : List Tree → Task → ℕ
weight_by trees (task.Tell act) = 0
weight_by trees other = weight_in trees other + 1

abbrev pub weight_left : List Tree → Walk → ℕ
weight_left trees walk = sum_by (weight_by trees) walk.tasks.items

-- tasks that tell these acts and weigh no more than this are put before the others
pub record Puts (trees : List Tree) (told : List Act) (limit : ℕ) (old new : Walk) : Type 0 where
  pub tells : left_of trees new ≡ told ++ left_of trees old
  pub there : AreThere trees new
  pub weighs : weight_left trees new ≤ limit + weight_left trees old

-- what a part of a `for` does, if it is there
abbrev pub part_of : Option Tree → List Act
part_of None = []
part_of (Some tree) = acts role.Plain tree

abbrev pub told_if : List Tree → Option Task → List Act
told_if trees None = []
told_if trees (Some task) = told_by trees task

-- what a clause is, if a node is a clause
abbrev pub clause_if : NodeKind → Children → Option Tree
clause_if (node.Clause lead) children = at_place children 0
clause_if other children = None

abbrev pub clause_in : Tree → Option Tree
clause_in tree = clause_if (kind_of tree) (children_of tree)

-- what a clause computes and mentions
abbrev pub outside_by : NodeKind → Children → List Act
outside_by node.NumThreads children = each role.Plain children
outside_by node.IfClause children = each role.Plain children
outside_by (node.Data which) children = names (naming.Mentioned (data_of which)) children
outside_by (node.Reduction operator) children = names (naming.Mentioned clause.Reduced) children
outside_by other children = []

abbrev pub standalone_acts : Standalone → Spot → List Act
standalone_acts standalone.Barrier spot = Barrier spot ∷ []
standalone_acts standalone.Taskwait spot = []

-- whether a node does what its children do, and nothing else
abbrev pub passes : NodeKind → Bool
passes node.Program = true
passes node.Globals = true
passes node.Locals = true
passes node.If = true
passes node.While = true
passes node.Step = true
passes node.Called = true
passes (node.Binary operator) = true
passes (node.Unary operator) = true
passes node.Paren = true
passes node.Section = true
passes other = false
