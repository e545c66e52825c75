-- What a tree does with names, scopes and constructs: its acts, in the order of its text but for these. A name is declared behind what it
-- begins with; a `printf` and a `return` come behind their expressions. What the clauses of a construct compute, and the names that its
-- data clauses use, come before the construct begins, and what the clauses say of it behind that, so these names come twice. That its
-- statement isn't a loop of the form comes before the statement, and the loop's variable before the loop's body.
use Rattle.std.specs.Prelude.{if◌then◌else◌, List, [], ◌∷◌, ◌++◌}
use Rattle.c_syntax.specs.declared.node.Returns.{Returns}
use Rattle.c_syntax.specs.declared.node.Standalone.TheVariants as standalone
use Rattle.c_syntax.specs.declared.node.NodeKind.TheVariants as node
use Rattle.c_syntax.specs.language.Tree.{Tree, Children, kind_of, name_of, spot_of}
use Rattle.c_syntax.specs.language.Tree.Tree.{Node}
use Rattle.c_syntax.specs.language.Tree.Children.{Over, Child, Absent}
use Rattle.c_check.specs.declared.acts.act.Act.{Act}
use Rattle.c_check.specs.declared.acts.act.Act.TheVariants.{Open, Close, Begin, End, Declare, Use, Print, Return, Barrier, Enter, Leave}
use Rattle.c_check.specs.declared.acts.act.Thing.TheVariants as thing
use Rattle.c_check.specs.declared.acts.act.Usage.TheVariants as usage
use Rattle.c_check.specs.declared.acts.act.DataClause.TheVariants as clause
use Rattle.c_check.specs.declared.acts.role.Role.{Role}
use Rattle.c_check.specs.declared.acts.role.Role.TheVariants as role
use Rattle.c_check.specs.declared.acts.role.Naming.TheVariants as naming
use Rattle.c_check.specs.Clauses.{data_of, inside_acts}
use Rattle.c_check.specs.NameLists.{child_count, names}
use Rattle.c_check.specs.Printed.{as_many, numbers_in}
use Rattle.c_check.specs.Statements.{is_head, looped, name_of_critical, odd_loop, statement_role}
use Rattle.c_check.specs.Usages.{assigned, call_value, place_usage, returned_of}

unfoldable mutual
  -- what a node does, by what stands around it
  pub acts : Role → Tree → List Act
  acts around (Node node.Program spot name number text children) = each role.Plain children
  acts around (Node node.Include spot name number text children) = []
  acts around (Node (node.Function returns) spot name number text children) = function returns children
  acts around (Node node.Name spot name number text children) = []
  acts around (Node (node.Params which) spot name number text children) = []
  acts around (Node node.Globals spot name number text children) = each role.Plain children
  acts around (Node node.GlobalVar spot name number text children) = Declare name spot thing.Int ∷ []
  acts around (Node node.GlobalArray spot name number text children) = Declare name spot (thing.Array number) ∷ []
  acts around (Node (node.GlobalSet sign) spot name number text children) = Declare name spot thing.Int ∷ []
  acts around (Node node.Locks spot name number text children) = names naming.Locks children
  acts around (Node node.Block spot name number text children) = Open ∷ each role.Plain children ++ Close ∷ []
  acts around (Node node.Locals spot name number text children) = each role.Plain children
  acts around (Node node.LocalVar spot name number text children) = Declare name spot thing.Int ∷ []
  acts around (Node node.LocalArray spot name number text children) = Declare name spot (thing.Array number) ∷ []
  acts around (Node node.LocalSet spot name number text children) = each role.Used children ++ Declare name spot thing.Int ∷ []
  acts around (Node node.Empty spot name number text children) = []
  acts around (Node node.If spot name number text children) = each role.Plain children
  acts around (Node node.While spot name number text children) = each role.Plain children
  acts around (Node node.For spot name number text children) = Open ∷ first_part (looped around) children ++ Close ∷ []
  acts around (Node node.Init spot name number text children) = init children
  acts around (Node node.Return spot name number text children) = each role.Used children ++ Return spot (returned_of children) ∷ []
  acts around (Node node.SetCall spot name number text children) = target role.Used children
  acts around (Node node.Step spot name number text children) = each role.Plain children
  acts around (Node node.Called spot name number text children) = each role.Plain children
  acts around (Node node.Print spot name number text children) = each role.Plain children ++ Print spot (as_many (numbers_in text) (child_count children)) ∷ []
  acts around (Node (node.LockCall which) spot name number text children) = names naming.Locked children
  acts around (Node (node.Assign setting) spot name number text children) = target role.Plain children
  acts around (Node (node.Bump which side) spot name number text children) = target role.Plain children
  acts around (Node node.Place spot name number text children) = Use name spot (place_usage children) ∷ assigned around (place_usage children) name ++ each role.Plain children
  acts around (Node node.Call spot name number text children) = Use name spot (usage.Called (child_count children) (call_value around)) ∷ each role.Plain children
  acts around (Node node.TestLock spot name number text children) = names naming.Locked children
  acts around (Node (node.Binary operator) spot name number text children) = each role.Plain children
  acts around (Node (node.Unary operator) spot name number text children) = each role.Plain children
  acts around (Node node.Number spot name number text children) = []
  acts around (Node node.Paren spot name number text children) = each role.Plain children
  acts around (Node (node.Getter which) spot name number text children) = []
  acts around (Node (node.Standalone standalone.Barrier) spot name number text children) = Barrier spot ∷ []
  acts around (Node (node.Standalone standalone.Taskwait) spot name number text children) = []
  acts around (Node (node.Construct which) spot name number text children) = outside_acts children ++ Enter spot which (name_of_critical children) ∷ inside_acts children ++ odd_loop which children ++ statements (statement_role which children) children ++ Leave ∷ []
  acts around (Node node.Section spot name number text children) = each role.Plain children
  acts around (Node other spot name number text children) = []

  -- children one after another, up to the first absent one
  pub each : Role → Children → List Act
  each around Over = []
  each around (Absent rest) = []
  each around (Child tree rest) = acts around tree ++ each around rest

  -- a place that is assigned, and what it is set to
  pub target : Role → Children → List Act
  target around Over = []
  target around (Absent rest) = []
  target around (Child tree rest) = acts role.Target tree ++ each around rest

  -- a function is declared with its name, and then come its parameters and the items of its block
  pub function : Returns → Children → List Act
  function returns (Child name (Child (Node kind spot other number text parameters) (Child (Node sort place another value bytes items) rest))) =
      Begin (name_of name) (spot_of name) returns (child_count parameters) ∷ names naming.Parameters parameters ++ each role.Plain items ++ End ∷ []
  function returns other = []

  -- the scope of a variable that a loop declares begins behind its start
  pub init : Children → List Act
  init (Child name rest) = each role.Plain rest ++ Declare (name_of name) (spot_of name) thing.Int ∷ []
  init other = []

  -- the parts of a `for`, of which each may be absent but the last, which is its body
  pub first_part : List Act → Children → List Act
  first_part mark Over = mark
  first_part mark (Absent rest) = second_part mark rest
  first_part mark (Child tree rest) = acts role.Plain tree ++ second_part mark rest

  pub second_part : List Act → Children → List Act
  second_part mark Over = mark
  second_part mark (Absent rest) = third_part mark rest
  second_part mark (Child tree rest) = acts role.Plain tree ++ third_part mark rest

  pub third_part : List Act → Children → List Act
  third_part mark Over = mark
  third_part mark (Absent rest) = mark ++ each role.Plain rest
  third_part mark (Child tree rest) = acts role.Plain tree ++ (mark ++ each role.Plain rest)

  -- what the clauses of a construct compute and mention, which is done before it begins
  pub outside_acts : Children → List Act
  outside_acts Over = []
  outside_acts (Absent rest) = []
  outside_acts (Child (Node (node.Clause lead) spot name number text children) rest) = clause_outside children ++ outside_acts rest
  outside_acts (Child other rest) = outside_acts rest

  pub clause_outside : Children → List Act
  clause_outside (Child (Node node.NumThreads spot name number text children) rest) = each role.Plain children
  clause_outside (Child (Node node.IfClause spot name number text children) rest) = each role.Plain children
  clause_outside (Child (Node (node.Data which) spot name number text children) rest) = names (naming.Mentioned (data_of which)) children
  clause_outside (Child (Node (node.Reduction operator) spot name number text children) rest) = names (naming.Mentioned clause.Reduced) children
  clause_outside other = []

  -- the statement of a construct, or what stands in the braces of sections
  pub statements : Role → Children → List Act
  statements around Over = []
  statements around (Absent rest) = []
  statements around (Child tree rest) = (if is_head (kind_of tree) then [] else acts around tree) ++ statements around rest
