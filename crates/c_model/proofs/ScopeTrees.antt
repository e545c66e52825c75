-- What is known in a scope is known in a greater one, and with a tree its parts are.
use Rattle.std.specs.Prelude.{ℕ, zero, suc, ◌≡◌, ◌⊎◌, if◌then◌else◌, Bool, true, false, IsTrue, List, [], ◌∷◌, ◌++◌, map, slice_index_or, unwrap_or, Option, Some, None, IfSome, ℤ, refl}
use Rattle.std.proofs.Common.{append-nil, inl, inr, subst}
use Rattle.std.specs.List.{Contains}
use Rattle.std.proofs.lemmas.List.Elements.{All-weaker, Contains-append_cases, Contains-append_left, Contains-append_right, Contains-push_cases}
use Rattle.c_syntax.specs.declared.node.BinaryOp.{BinaryOp}
use Rattle.c_syntax.specs.declared.node.NodeKind.{NodeKind}
use Rattle.c_syntax.specs.declared.node.NodeKind.TheVariants as node
use Rattle.c_syntax.specs.language.Tree.{Tree, Children, at_place, child_of, children_of, kind_of, name_of, nothing}
use Rattle.c_syntax.specs.language.Tree.Tree.{Node}
use Rattle.c_syntax.specs.language.Tree.Children.{Over, Child, Absent}
use Rattle.c_syntax.specs.language.Numbered.{TreeView}
use Rattle.c_check.specs.LoopParts.{LoopParts, comparison_of, loop_parts, parts_if, parts_in, parts_with, statement_parts, step_of}
use Rattle.c_check.specs.Loops.{child_at, has_head, loop_name}
use Rattle.c_check.specs.Statements.{is_head, shares_loop, statement_of}
use Rattle.c_model.specs.Clauses.{Listed, construct_statement, section_statement, sections_of, statements_among}
use Rattle.c_model.specs.Copies.{is_loop, listed_variables}
use Rattle.c_model.specs.Loops.{is_declared, loop_of, no_loop}
use Rattle.c_model.specs.Parts.{trees_in}
use Rattle.c_model.specs.Scoped.{IsOpenable, IsUsable, Knows, KnowsEach, KnowsInOrder, KnowsLoop, KnowsStatements, Sees, SeesEach, Unless, behind_first_part, first_names, with_shared}

-- each name of one scope is in the other
abbrev pub IsPart : List ℕ → List ℕ → Type 0
IsPart some more = (name : ℕ) → Contains some name → Contains more name

pub part_push : (some more back : List ℕ) → IsPart some more → IsPart (some ++ back) (more ++ back)
part_push some more back part name is =
    elim (Contains-append_cases some back name is) [
      | inl front ↦ Contains-append_left more back name (part name front)
      | inr behind ↦ Contains-append_right more back name behind
    ]

part-shared : (shares : Bool) (name : ℕ) (some more : List ℕ) → IsPart some more → IsPart (if shares then some ++ name ∷ [] else some) (if shares then more ++ name ∷ [] else more)
part-shared true name some more part = part_push some more (name ∷ []) part
part-shared false name some more part = part

pub part_with_shared : (construct : Tree) (some more : List ℕ) → IsPart some more → IsPart (with_shared some construct) (with_shared more construct)
part_with_shared construct some more part = part-shared (is_loop construct) (name_of (loop_of construct).variable) some more part

-- expressions
mutual
  unfolding Sees SeesEach

  pub sees_more : (some more : List ℕ) → IsPart some more → (tree : Tree) → Sees some tree → Sees more tree
  sees_more some more part (Node node.Place spot name number text children) sees = (part name sees.0, sees_each_more some more part children sees.1)
  sees_more some more part (Node node.Paren spot name number text children) sees = sees_each_more some more part children sees
  sees_more some more part (Node (node.Unary operator) spot name number text children) sees = sees_each_more some more part children sees
  sees_more some more part (Node (node.Binary operator) spot name number text children) sees = sees_each_more some more part children sees
  sees_more some more part (Node other spot name number text children) sees = tt

  pub sees_each_more : (some more : List ℕ) → IsPart some more → (children : Children) → SeesEach some children → SeesEach more children
  sees_each_more some more part Over sees = tt
  sees_each_more some more part (Absent rest) sees = sees_each_more some more part rest sees
  sees_each_more some more part (Child tree rest) sees = (sees_more some more part tree sees.0, sees_each_more some more part rest sees.1)

sees-if-more : (some more : List ℕ) → IsPart some more → (expression : Option Tree) → IfSome expression (λ expression. Sees some expression) → IfSome expression (λ expression. Sees more expression)
sees-if-more some more part None sees = tt
sees-if-more some more part (Some expression) sees = sees_more some more part expression sees

-- statements
usable-more : (program : TreeView) (some more : List ℕ) → IsPart some more → (kind : NodeKind) (name number : ℕ) (children : Children) → IsUsable program some kind name number children → IsUsable program more kind name number children
usable-more program some more part node.Place name number children is = part name is
usable-more program some more part (node.Assign setting) name number children is = part _ is
usable-more program some more part (node.Bump which side) name number children is = part _ is
usable-more program some more part node.SetCall name number children is = part _ is
usable-more program some more part node.TestLock name number children is = part _ is
usable-more program some more part (node.LockCall which) name number children is = part _ is
usable-more program some more part other name number children is = is

variable-more : (some more : List ℕ) → IsPart some more → (parts : Option LoopParts) → IfSome parts (λ parts. IsTrue (is_declared (kind_of parts.variable)) ⊎ Contains some (name_of parts.variable))
    → IfSome parts (λ parts. IsTrue (is_declared (kind_of parts.variable)) ⊎ Contains more (name_of parts.variable))
variable-more some more part None is = tt
variable-more some more part (Some parts) is = elim is [ inl own ↦ inl own | inr known ↦ inr (part _ known) ]

openable-more : (some more : List ℕ) → IsPart some more → (construct : Tree) → IsOpenable some construct → IsOpenable more construct
openable-more some more part construct is =
    record {
      listed = All-weaker (λ (listed : Listed). Contains some listed.name) (λ (listed : Listed). Contains more listed.name) (λ listed known. part listed.name known) (listed_variables construct) is.listed;
      threads = sees-if-more some more part _ is.threads;
      condition = sees-if-more some more part _ is.condition;
      start = sees_more some more part _ is.start;
      end = sees_more some more part _ is.end;
      shared = is.shared;
      variable = variable-more some more part (loop_parts construct) is.variable;
    }

behind-head-more : (head : Bool) (some more : Type 0) → (some → more) → Unless head some → Unless head more
behind-head-more true some more each is = tt
behind-head-more false some more each is = each is

mutual
  unfolding Knows KnowsEach KnowsInOrder KnowsLoop KnowsStatements

  pub knows_more : (program : TreeView) (some more : List ℕ) → IsPart some more → (tree : Tree) → Knows program some tree → Knows program more tree
  knows_more program some more part (Node node.Block spot name number text children) knows = order-more program _ some more part children knows
  knows_more program some more part (Node node.Globals spot name number text children) knows = order-more program _ some more part children knows
  knows_more program some more part (Node node.Locals spot name number text children) knows = order-more program _ some more part children knows
  knows_more program some more part (Node node.Locks spot name number text children) knows = order-more program _ some more part children knows
  knows_more program some more part (Node node.For spot name number text children) knows = loop-more program some more part children knows
  knows_more program some more part (Node (node.Construct which) spot name number text children) knows =
      let construct = Node (node.Construct which) spot name number text children in
      (openable-more some more part construct knows.0, statements_more program (with_shared some construct) (with_shared more construct) (part_with_shared construct some more part) children knows.1)
  knows_more program some more part (Node kind spot name number text children) knows = (usable-more program some more part kind name number children knows.0, each_more program some more part children knows.1)

  pub each_more : (program : TreeView) (some more : List ℕ) → IsPart some more → (children : Children) → KnowsEach program some children → KnowsEach program more children
  each_more program some more part Over knows = tt
  each_more program some more part (Absent rest) knows = each_more program some more part rest knows
  each_more program some more part (Child tree rest) knows = (knows_more program some more part tree knows.0, each_more program some more part rest knows.1)

  order-more : (program : TreeView) (brings : Tree → List ℕ) (some more : List ℕ) → IsPart some more → (children : Children) → KnowsInOrder program brings some children → KnowsInOrder program brings more children
  order-more program brings some more part Over knows = tt
  order-more program brings some more part (Absent rest) knows = tt
  order-more program brings some more part (Child tree rest) knows =
      (knows_more program some more part tree knows.0, order-more program brings (some ++ brings tree) (more ++ brings tree) (part_push some more (brings tree) part) rest knows.1)

  loop-more : (program : TreeView) (some more : List ℕ) → IsPart some more → (children : Children) → KnowsLoop program some children → KnowsLoop program more children
  loop-more program some more part Over knows = tt
  loop-more program some more part (Absent rest) knows = each_more program some more part rest knows
  loop-more program some more part (Child first rest) knows =
      (knows_more program some more part first knows.0, each_more program (some ++ first_names first) (more ++ first_names first) (part_push some more (first_names first) part) rest knows.1)

  pub statements_more : (program : TreeView) (some more : List ℕ) → IsPart some more → (children : Children) → KnowsStatements program some children → KnowsStatements program more children
  statements_more program some more part Over knows = tt
  statements_more program some more part (Absent rest) knows = statements_more program some more part rest knows
  statements_more program some more part (Child tree rest) knows =
      (behind-head-more (is_head (kind_of tree)) (Knows program some tree) (Knows program more tree) (knows_more program some more part tree) knows.0, statements_more program some more part rest knows.1)

-- what is known of nothing
pub knows_nothing : (program : TreeView) (names : List ℕ) → Knows program names nothing
unfolding Knows KnowsEach
knows_nothing program names = (tt, tt)

-- a child, or nothing in its place
pub knows_at : (program : TreeView) (names : List ℕ) (children : Children) (place : ℕ) → KnowsEach program names children → Knows program names (unwrap_or (at_place children place) nothing)
unfolding KnowsEach
knows_at program names Over place knows = knows_nothing program names
knows_at program names (Child tree rest) zero knows = knows.0
knows_at program names (Child tree rest) (suc place) knows = knows_at program names rest place knows.1
knows_at program names (Absent rest) zero knows = knows_nothing program names
knows_at program names (Absent rest) (suc place) knows = knows_at program names rest place knows

pub knows_behind_first : (program : TreeView) (names : List ℕ) (children : Children) (place : ℕ) → KnowsEach program names (behind_first_part children) → Knows program names (unwrap_or (at_place children (suc place)) nothing)
knows_behind_first program names Over place knows = knows_nothing program names
knows_behind_first program names (Absent rest) place knows = knows_at program names rest place knows
knows_behind_first program names (Child first rest) place knows = knows_at program names rest place knows

-- the statement of a construct, and its sections
statement-behind : (program : TreeView) (names : List ℕ) (head : Bool) (tree other : Tree) → Unless head (Knows program names tree) → Knows program names other → Knows program names (if head then other else tree)
statement-behind program names true tree other knows also = also
statement-behind program names false tree other knows also = knows

statement-among : (program : TreeView) (names : List ℕ) (children : Children) → KnowsStatements program names children → Knows program names (statement_of children)
unfolding KnowsStatements statement_of
statement-among program names Over knows = knows_nothing program names
statement-among program names (Absent rest) knows = knows_nothing program names
statement-among program names (Child tree rest) knows =
    statement-behind program names (is_head (kind_of tree)) tree (statement_of rest) knows.0 (statement-among program names rest knows.1)

pub knows_statement : (program : TreeView) (names : List ℕ) (construct : Tree) → KnowsStatements program names (children_of construct) → Knows program names (construct_statement construct)
knows_statement program names construct knows = statement-among program names (children_of construct) knows

pub knows_section_statement : (program : TreeView) (names : List ℕ) (tree : Tree) → Knows program names tree → Knows program names (section_statement (kind_of tree) tree)
unfolding Knows
knows_section_statement program names (Node node.Section spot name number text children) knows = knows_at program names children 0 knows.1
knows_section_statement program names (Node other spot name number text children) knows = knows

sections-behind : (program : TreeView) (names : List ℕ) (head : Bool) (tree : Tree) (trees : List Tree) (place : ℕ) → Unless head (Knows program names tree)
    → ((place : ℕ) → Knows program names (slice_index_or (map (λ (tree : Tree). section_statement (kind_of tree) tree) trees) place nothing))
    → Knows program names (slice_index_or (map (λ (tree : Tree). section_statement (kind_of tree) tree) (if head then trees else tree ∷ trees)) place nothing)
sections-behind program names true tree trees place knows each = each place
sections-behind program names false tree trees zero knows each = knows_section_statement program names tree knows
sections-behind program names false tree trees (suc place) knows each = each place

sections-among : (program : TreeView) (names : List ℕ) (children : Children) → KnowsStatements program names children → (place : ℕ) → Knows program names (slice_index_or (map (λ (tree : Tree). section_statement (kind_of tree) tree) (statements_among (trees_in children))) place nothing)
unfolding KnowsStatements statements_among trees_in
sections-among program names Over knows place = knows_nothing program names
sections-among program names (Absent rest) knows place = knows_nothing program names
sections-among program names (Child tree rest) knows place =
    sections-behind program names (is_head (kind_of tree)) tree (statements_among (trees_in rest)) place knows.0 (sections-among program names rest knows.1)

pub knows_section : (program : TreeView) (names : List ℕ) (construct : Tree) → KnowsStatements program names (children_of construct) → (section : ℕ) → Knows program names (slice_index_or (sections_of construct) section nothing)
knows_section program names construct knows section = sections-among program names (children_of construct) knows section

-- the body of the loop that a construct shares out
part-first : (names more : List ℕ) (first variable : Tree) → IsPart names more → child_of first 0 ≡ Some variable → Contains more (name_of variable) → IsPart (names ++ first_names first) more
part-first names more (Node node.Init spot other number text children) variable part is known =
    rw is (λ name here. elim (Contains-push_cases names (name_of variable) name here) [
      | inl front ↦ part name front
      | inr same ↦ subst (λ (name : ℕ). Contains more name) same known
    ])
part-first names more (Node kind spot other number text children) variable part is known =
    λ name here. part name (subst (λ (names : List ℕ). Contains names name) (append-nil names) here)

third-behind : (program : TreeView) (names more : List ℕ) (children : Children) (variable : Tree) → IsPart names more → KnowsLoop program names children → child_of (unwrap_or (at_place children 0) nothing) 0 ≡ Some variable → Contains more (name_of variable) → Knows program more (unwrap_or (at_place children 3) nothing)
unfolding KnowsLoop
third-behind program names more Over variable part knows is known = knows_nothing program more
third-behind program names more (Absent rest) variable part knows is known = knows_at program more rest 2 (each_more program names more part rest knows)
third-behind program names more (Child first rest) variable part knows is known =
    knows_at program more rest 2 (each_more program (names ++ first_names first) more (part-first names more first variable part is known) rest knows.1)

body-with : (program : TreeView) (more : List ℕ) (variable start end body : Option Tree) (comparison : Option BinaryOp) (step : Option ℤ)
    → ((it : Tree) → variable ≡ Some it → Contains more (name_of it) → Knows program more (unwrap_or body nothing))
    → Contains more (name_of (unwrap_or (parts_with variable start end body comparison step) no_loop).variable)
    → Knows program more (unwrap_or (parts_with variable start end body comparison step) no_loop).body
body-with program more (Some variable) (Some start) (Some end) (Some body) (Some comparison) (Some step) each known = each variable refl known
body-with program more variable start end body comparison step each known = knows_nothing program more

body-if : (program : TreeView) (more : List ℕ) (has : Bool) (statement : Tree)
    → ((it : Tree) → child_of (child_at statement 0) 0 ≡ Some it → Contains more (name_of it) → Knows program more (child_at statement 3))
    → Contains more (name_of (unwrap_or (if has then parts_in statement else None) no_loop).variable)
    → Knows program more (unwrap_or (if has then parts_in statement else None) no_loop).body
body-if program more false statement each known = knows_nothing program more
body-if program more true statement each known =
    body-with program more (child_of (child_at statement 0) 0) (child_of (child_at statement 0) 1) (child_of (child_at statement 1) 1) (child_of statement 3) (comparison_of (kind_of (child_at statement 1))) (step_of (child_at statement 2)) each known

body-named : (program : TreeView) (more : List ℕ) (name : Option ℕ) (statement : Tree)
    → ((it : Tree) → child_of (child_at statement 0) 0 ≡ Some it → Contains more (name_of it) → Knows program more (child_at statement 3))
    → Contains more (name_of (unwrap_or (parts_if name statement) no_loop).variable)
    → Knows program more (unwrap_or (parts_if name statement) no_loop).body
body-named program more None statement each known = knows_nothing program more
body-named program more (Some name) statement each known = body-if program more (has_head name statement) statement each known

body-of : (program : TreeView) (names more : List ℕ) (statement : Tree) → IsPart names more → Knows program names statement
    → Contains more (name_of (unwrap_or (statement_parts statement) no_loop).variable) → Knows program more (unwrap_or (statement_parts statement) no_loop).body
unfolding Knows
body-of program names more (Node node.For spot name number text children) part knows known =
    let statement = Node node.For spot name number text children in
    body-named program more (loop_name statement) statement (λ it is found. third-behind program names more children it part knows is found) known
body-of program names more (Node other spot name number text children) part knows known = knows_nothing program more

body-shared : (program : TreeView) (names more : List ℕ) (shares : Bool) (statement : Tree) → IsPart names more → Knows program names statement
    → Contains more (name_of (unwrap_or (if shares then statement_parts statement else None) no_loop).variable)
    → Knows program more (unwrap_or (if shares then statement_parts statement else None) no_loop).body
body-shared program names more false statement part knows known = knows_nothing program more
body-shared program names more true statement part knows known = body-of program names more statement part knows known

pub knows_body : (program : TreeView) (names more : List ℕ) (construct : Tree) → IsPart names more → KnowsStatements program names (children_of construct) → Contains more (name_of (loop_of construct).variable) → Knows program more (loop_of construct).body
knows_body program names more (Node (node.Construct which) spot name number text children) part knows known =
    body-shared program names more (shares_loop which) (statement_of children) part (statement-among program names children knows) known
knows_body program names more (Node other spot name number text children) part knows known = knows_nothing program more
