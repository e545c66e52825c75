-- What tasks of a walk are there to tell.
use Rattle.std.specs.Prelude.{ℕ, zero, suc, ◌<◌, List, [], ◌∷◌, ◌++◌, length, reverse, All}
use Rattle.c_syntax.specs.language.Tree.{Tree, Children, children_of}
use Rattle.c_syntax.specs.language.Tree.Children.{Over, Child, Absent}
use Rattle.c_syntax.specs.language.Numbered.{tree_at}
use Rattle.c_check.specs.declared.acts.act.Act.{Act}
use Rattle.c_check.specs.declared.acts.walk.Task.{Task}
use Rattle.c_check.specs.declared.acts.walk.Task.TheVariants as task
use Rattle.c_check.specs.declared.acts.walk.Walk.{Walk}
use Rattle.c_check.specs.Acts.{acts, each, outside_acts, statements}
use Rattle.c_check.specs.Clauses.{inside_acts}
use Rattle.c_check.specs.NameLists.{names}

-- the children from a place on
unfoldable pub from_place : ℕ → Children → Children
from_place zero children = children
from_place (suc place) Over = Over
from_place (suc place) (Absent rest) = from_place place rest
from_place (suc place) (Child tree rest) = from_place place rest

-- the children of a node, from a place on
abbrev pub children_left : List Tree → ℕ → ℕ → Children
children_left trees node place = from_place place (children_of (tree_at trees node))

abbrev pub told_by : List Tree → Task → List Act
told_by trees (task.Tell act) = act ∷ []
told_by trees (task.Visit around node) = acts around (tree_at trees node)
told_by trees (task.Each around node place) = each around (children_left trees node place)
told_by trees (task.Names why node place) = names why (children_left trees node place)
told_by trees (task.Outside node place) = outside_acts (children_left trees node place)
told_by trees (task.Inside node place) = inside_acts (children_left trees node place)
told_by trees (task.Statements around node place) = statements around (children_left trees node place)

-- what tasks tell, the next one first
unfoldable pub told_by_all : List Tree → List Task → List Act
told_by_all trees [] = []
told_by_all trees (first ∷ rest) = told_by trees first ++ told_by_all trees rest

-- what is left of a walk
abbrev pub left_of : List Tree → Walk → List Act
left_of trees walk = told_by_all trees (reverse walk.tasks.items)

-- the node of a task is there
abbrev pub IsThere : List Tree → Task → Type 0
IsThere trees (task.Tell act) = Unit {0}
IsThere trees (task.Visit around node) = node < length trees
IsThere trees (task.Each around node place) = node < length trees
IsThere trees (task.Names why node place) = node < length trees
IsThere trees (task.Outside node place) = node < length trees
IsThere trees (task.Inside node place) = node < length trees
IsThere trees (task.Statements around node place) = node < length trees

abbrev pub AreThere : List Tree → Walk → Type 0
AreThere trees walk = All (IsThere trees) walk.tasks.items
