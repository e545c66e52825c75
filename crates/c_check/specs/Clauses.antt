-- What the clauses of a construct say of it: each clause is a node whose child is the clause itself.
use Rattle.std.specs.Prelude.{ℕ, List, [], ◌∷◌, ◌++◌}
use Rattle.c_syntax.specs.declared.node.Data.{Data}
use Rattle.c_syntax.specs.declared.node.Data.TheVariants as data_clause
use Rattle.c_syntax.specs.declared.node.NodeKind.{NodeKind}
use Rattle.c_syntax.specs.declared.node.NodeKind.TheVariants as node
use Rattle.c_syntax.specs.language.Tree.{Children}
use Rattle.c_syntax.specs.language.Tree.Tree.{Node}
use Rattle.c_syntax.specs.language.Tree.Children.{Over, Child, Absent}
use Rattle.c_check.specs.declared.acts.act.Act.{Act}
use Rattle.c_check.specs.declared.acts.act.Act.TheVariants.{Clause}
use Rattle.c_check.specs.declared.acts.act.DataClause.{DataClause}
use Rattle.c_check.specs.declared.acts.act.DataClause.TheVariants as clause
use Rattle.c_check.specs.declared.acts.act.Single.TheVariants as single
use Rattle.c_check.specs.declared.acts.role.Naming.TheVariants as naming
use Rattle.c_check.specs.NameLists.{names}

abbrev pub data_of : Data → DataClause
data_of data_clause.Shared = clause.Shared
data_of data_clause.Private = clause.Private
data_of data_clause.Firstprivate = clause.First

abbrev pub chunk_of : Children → ℕ
chunk_of (Child (Node kind spot name number text children) rest) = number
chunk_of other = 1

-- what a clause says of the construct
abbrev pub clause_inside : NodeKind → Children → List Act
clause_inside node.NumThreads children = Clause single.NumThreads ∷ []
clause_inside (node.Default word) children = Clause (single.Default word) ∷ []
clause_inside (node.Data which) children = names (naming.Listed (data_of which)) children
clause_inside (node.Reduction operator) children = names (naming.Listed clause.Reduced) children
clause_inside (node.Schedule kind) children = Clause (single.Schedule (chunk_of children)) ∷ []
clause_inside node.Nowait children = Clause single.Nowait ∷ []
clause_inside node.IfClause children = Clause single.If ∷ []
clause_inside other children = []

abbrev pub first_inside : Children → List Act
first_inside (Child (Node kind spot name number text children) rest) = clause_inside kind children
first_inside other = []

unfoldable pub inside_acts : Children → List Act
inside_acts Over = []
inside_acts (Absent rest) = []
inside_acts (Child (Node (node.Clause lead) spot name number text children) rest) = first_inside children ++ inside_acts rest
inside_acts (Child other rest) = inside_acts rest
