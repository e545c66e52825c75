-- The parts of a directive: its clauses, and its statement (OpenMP 5.2, 3.2 and 5).
use Rattle.std.specs.Prelude.{ℕ, if◌then◌else◌, Bool, true, false, List, [], ◌∷◌, ◌++◌, map, Option, Some, None}
use Rattle.std.specs.List.{list_any}
use Rattle.c_syntax.specs.declared.node.Data.TheVariants as data_clause
use Rattle.c_syntax.specs.declared.node.ReductionOp.{ReductionOp}
use Rattle.c_syntax.specs.declared.node.ScheduleKind.{ScheduleKind}
use Rattle.c_syntax.specs.declared.node.ScheduleKind.TheVariants as kind
use Rattle.c_syntax.specs.declared.node.NodeKind.{NodeKind}
use Rattle.c_syntax.specs.declared.node.NodeKind.TheVariants as node
use Rattle.c_syntax.specs.language.Tree.{Tree, children_of, kind_of, name_of, number_of}
use Rattle.c_model.specs.declared.point.Schedule.{Schedule}
use Rattle.c_model.specs.declared.point.Schedule.TheVariants.{Static, Dynamic, Guided}
use Rattle.c_check.specs.Loops.{child_at}
use Rattle.c_check.specs.Statements.{is_head, statement_of}
use Rattle.c_model.specs.Parts.{parts}

-- what the clauses are, in the order of the text
abbrev pub clause_in : NodeKind → Tree → List Tree
clause_in (node.Clause lead) tree = child_at tree 0 ∷ []
clause_in other tree = []

unfoldable pub clauses_among : List Tree → List Tree
clauses_among [] = []
clauses_among (tree ∷ trees) = clause_in (kind_of tree) tree ++ clauses_among trees

abbrev pub clauses_of : Tree → List Tree
clauses_of construct = clauses_among (parts construct)

-- the statement of a construct
abbrev pub construct_statement : Tree → Tree
construct_statement construct = statement_of (children_of construct)

-- what stands behind a construct's clauses: its statement, or its sections
unfoldable pub statements_among : List Tree → List Tree
statements_among [] = []
statements_among (tree ∷ trees) = if is_head (kind_of tree) then statements_among trees else tree ∷ statements_among trees

-- what a section executes. The first one may be a statement without a `section` before it
abbrev pub section_statement : NodeKind → Tree → Tree
section_statement node.Section tree = child_at tree 0
section_statement other tree = tree

abbrev pub sections_of : Tree → List Tree
sections_of construct = map (λ (tree : Tree). section_statement (kind_of tree) tree) (statements_among (parts construct))

-- the expression of the first clause of a kind
unfoldable pub expression_among : (NodeKind → Bool) → List Tree → Option Tree
expression_among is_kind [] = None
expression_among is_kind (clause ∷ clauses) = if is_kind (kind_of clause) then Some (child_at clause 0) else expression_among is_kind clauses

abbrev pub is_num_threads : NodeKind → Bool
is_num_threads node.NumThreads = true
is_num_threads other = false

abbrev pub is_if : NodeKind → Bool
is_if node.IfClause = true
is_if other = false

abbrev pub is_nowait : NodeKind → Bool
is_nowait node.Nowait = true
is_nowait other = false

abbrev pub requested_threads : Tree → Option Tree
requested_threads construct = expression_among is_num_threads (clauses_of construct)

abbrev pub condition_of : Tree → Option Tree
condition_of construct = expression_among is_if (clauses_of construct)

abbrev pub has_nowait : Tree → Bool
has_nowait construct = list_any (λ (clause : Tree). is_nowait (kind_of clause)) (clauses_of construct)

-- how a loop's iterations are dealt (OpenMP 5.2, 11.5.3). Without a clause it is static, and a static schedule without a size deals blocks
abbrev pub size_or : ℕ → List Tree → ℕ
size_or other [] = other
size_or other (size ∷ rest) = number_of size

abbrev pub schedule_by : ScheduleKind → List Tree → Schedule
schedule_by kind.Static sizes = Static (size_or 0 sizes)
schedule_by kind.Dynamic sizes = Dynamic (size_or 1 sizes)
schedule_by kind.Guided sizes = Guided (size_or 1 sizes)

abbrev pub schedule_or : Schedule → NodeKind → Tree → Schedule
schedule_or other (node.Schedule which) clause = schedule_by which (parts clause)
schedule_or other kind clause = other

unfoldable pub schedule_among : List Tree → Schedule
schedule_among [] = Static 0
schedule_among (clause ∷ clauses) = schedule_or (schedule_among clauses) (kind_of clause) clause

abbrev pub schedule_of : Tree → Schedule
schedule_of construct = schedule_among (clauses_of construct)

-- how a construct has a variable of its own (OpenMP 5.2, 5.4 and 5.5)
pub data Copying : Type 0 where
  Private : Copying
  First : Copying
  Reduced : ReductionOp → Copying

pub record Listed : Type 0 where
  pub name : ℕ
  pub copying : Copying

abbrev pub names_listed : Copying → List Tree → List Listed
names_listed copying names = map (λ (name : Tree). record { name = name_of name; copying = copying }) names

abbrev pub listed_by : NodeKind → Tree → List Listed
listed_by (node.Data data_clause.Private) clause = names_listed Private (parts clause)
listed_by (node.Data data_clause.Firstprivate) clause = names_listed First (parts clause)
listed_by (node.Reduction operator) clause = names_listed (Reduced operator) (parts clause)
listed_by other clause = []

unfoldable pub listed_among : List Tree → List Listed
listed_among [] = []
listed_among (clause ∷ clauses) = listed_by (kind_of clause) clause ++ listed_among clauses
