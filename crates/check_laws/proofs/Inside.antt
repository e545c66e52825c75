-- The acts by which a construct says what its clauses say.
use Rattle.std.specs.Prelude.{◌≡◌, Bool, true, false, List, [], ◌∷◌, ◌++◌, refl}
use Rattle.c_syntax.specs.declared.node.NodeKind.{NodeKind}
use Rattle.c_syntax.specs.declared.node.NodeKind.TheVariants as node
use Rattle.c_syntax.specs.language.Tree.{Children}
use Rattle.c_syntax.specs.language.Tree.Tree.{Node}
use Rattle.c_syntax.specs.language.Tree.Children.{Over, Child, Absent}
use Rattle.c_check.specs.declared.acts.act.Act.{Act}
use Rattle.c_check.specs.declared.acts.act.Act.TheVariants.{Clause, List as Listing}
use Rattle.c_check.specs.declared.acts.act.DataClause.{DataClause}
use Rattle.c_check.specs.declared.acts.role.Naming.TheVariants as naming
use Rattle.c_check.specs.Clauses.{clause_inside, first_inside, inside_acts}
use Rattle.c_check.specs.NameLists.{names}

abbrev pub is_informing : Act → Bool
is_informing (Clause one) = true
is_informing (Listing name spot clause) = true
is_informing other = false

abbrev pub AreInforming : List Act → Type 0
AreInforming [] = Unit {0}
AreInforming (act ∷ acts) = (is_informing act ≡ true) × AreInforming acts

informing-both : (some more : List Act) → AreInforming some → AreInforming more → AreInforming (some ++ more)
informing-both [] more are also = also
informing-both (act ∷ some) more are also = (are.0, informing-both some more are.1 also)

names-inform : (clause : DataClause) (children : Children) → AreInforming (names (naming.Listed clause) children)
unfolding names
names-inform clause Over = tt
names-inform clause (Absent rest) = tt
names-inform clause (Child tree rest) = (refl, names-inform clause rest)

kind-informs : (kind : NodeKind) (children : Children) → AreInforming (clause_inside kind children)
kind-informs node.NumThreads children = (refl, tt)
kind-informs (node.Default word) children = (refl, tt)
kind-informs (node.Data which) children = names-inform _ children
kind-informs (node.Reduction operator) children = names-inform _ children
kind-informs (node.Schedule kind) children = (refl, tt)
kind-informs node.Nowait children = (refl, tt)
kind-informs node.IfClause children = (refl, tt)
kind-informs other children = tt

first-informs : (children : Children) → AreInforming (first_inside children)
first-informs Over = tt
first-informs (Absent rest) = tt
first-informs (Child (Node kind spot name number text children) rest) = kind-informs kind children

pub inside-informing : (children : Children) → AreInforming (inside_acts children)
unfolding inside_acts
inside-informing Over = tt
inside-informing (Absent rest) = tt
inside-informing (Child (Node (node.Clause lead) spot name number text children) rest) = informing-both (first_inside children) (inside_acts rest) (first-informs children) (inside-informing rest)
inside-informing (Child (Node other spot name number text children) rest) = inside-informing rest
