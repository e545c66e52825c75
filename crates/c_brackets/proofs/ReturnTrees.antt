-- A return among the parts of a statement is one of the statement, and what a construct executes has none.
use Rattle.std.specs.Prelude.{ℕ, zero, suc, if◌then◌else◌, Bool, true, false, IsTrue, List, ◌∷◌, map, slice_index_or, unwrap_or, Option, Some, None, ℤ}
use Rattle.c_syntax.specs.declared.node.BinaryOp.{BinaryOp}
use Rattle.c_syntax.specs.declared.node.NodeKind.TheVariants as node
use Rattle.c_syntax.specs.language.Tree.{at_place, child_of, Children, children_of, kind_of, nothing, Tree}
use Rattle.c_syntax.specs.language.Tree.Tree.{Node}
use Rattle.c_syntax.specs.language.Tree.Children.{Over, Child, Absent}
use Rattle.c_check.specs.LoopParts.{comparison_of, parts_if, parts_in, parts_with, statement_parts, step_of}
use Rattle.c_check.specs.Loops.{child_at, has_head, loop_name}
use Rattle.c_check.specs.Statements.{is_head, shares_loop, statement_of}
use Rattle.c_model.specs.Clauses.{construct_statement, section_statement, sections_of, statements_among}
use Rattle.c_model.specs.Loops.{loop_of, no_loop}
use Rattle.c_model.specs.Parts.{trees_in}
use Rattle.c_brackets.specs.Orderly.{HasNoReturn}
use Rattle.c_brackets.specs.Returns.{ReturnOutsideEach, ReturnsOutside, has_return, has_return_among}
use Rattle.c_brackets.proofs.OpenLists.{left_true, never, right_true}

-- a statement without a return
abbrev pub IsFree : Tree → Type 0
IsFree tree = IsTrue (has_return tree) → ⊥

pub nothing_free : IsFree nothing
unfolding has_return
nothing_free is = never is

-- a child, or nothing in its place
pub return_at : (children : Children) (place : ℕ) → IsTrue (has_return (unwrap_or (at_place children place) nothing)) → IsTrue (has_return_among children)
unfolding has_return has_return_among
return_at Over place is = never is
return_at (Child tree rest) zero is = left_true (has_return tree) (has_return_among rest) is
return_at (Child tree rest) (suc place) is = right_true (has_return tree) (has_return_among rest) (return_at rest place is)
return_at (Absent rest) zero is = never is
return_at (Absent rest) (suc place) is = return_at rest place is

pub proper_at : (children : Children) (place : ℕ) → ReturnOutsideEach children → ReturnsOutside (unwrap_or (at_place children place) nothing)
unfolding ReturnsOutside ReturnOutsideEach
proper_at Over place are = tt
proper_at (Child tree rest) zero are = are.0
proper_at (Child tree rest) (suc place) are = proper_at rest place are.1
proper_at (Absent rest) zero are = tt
proper_at (Absent rest) (suc place) are = proper_at rest place are

mutual
  unfolding ReturnsOutside ReturnOutsideEach has_return has_return_among

  pub free_proper : (tree : Tree) → IsFree tree → ReturnsOutside tree
  free_proper (Node node.Block spot name number text children) free = each_proper children free
  free_proper (Node node.Globals spot name number text children) free = each_proper children free
  free_proper (Node node.Locals spot name number text children) free = each_proper children free
  free_proper (Node node.Locks spot name number text children) free = each_proper children free
  free_proper (Node node.If spot name number text children) free = each_proper children free
  free_proper (Node node.While spot name number text children) free = each_proper children free
  free_proper (Node node.For spot name number text children) free = each_proper children free
  free_proper (Node (node.Construct which) spot name number text children) free = free
  free_proper (Node node.Section spot name number text children) free = each_proper children free
  free_proper (Node other spot name number text children) free = tt

  pub each_proper : (children : Children) → (IsTrue (has_return_among children) → ⊥) → ReturnOutsideEach children
  each_proper Over free = tt
  each_proper (Absent rest) free = each_proper rest free
  each_proper (Child tree rest) free = (
    free_proper tree (λ is. free (left_true (has_return tree) (has_return_among rest) is)),
    each_proper rest (λ is. free (right_true (has_return tree) (has_return_among rest) is)),
  )

-- the statement of a construct, and its sections
free-chosen : (head : Bool) (tree other : Tree) → IsFree tree → IsFree other → IsFree (if head then other else tree)
free-chosen true tree other free also = also
free-chosen false tree other free also = free

statement-free : (children : Children) → (IsTrue (has_return_among children) → ⊥) → IsFree (statement_of children)
unfolding has_return_among statement_of
statement-free Over free = nothing_free
statement-free (Absent rest) free = nothing_free
statement-free (Child tree rest) free =
    free-chosen (is_head (kind_of tree)) tree (statement_of rest) (λ is. free (left_true (has_return tree) (has_return_among rest) is))
    (statement-free rest (λ is. free (right_true (has_return tree) (has_return_among rest) is)))

pub statement_free : (construct : Tree) → HasNoReturn construct → IsFree (construct_statement construct)
statement_free construct free = statement-free (children_of construct) free

section-statement-free : (tree : Tree) → IsFree tree → IsFree (section_statement (kind_of tree) tree)
unfolding has_return
section-statement-free (Node node.Section spot name number text children) free = λ is. free (return_at children 0 is)
section-statement-free (Node other spot name number text children) free = free

sections-behind : (head : Bool) (tree : Tree) (trees : List Tree) (place : ℕ) → IsFree tree
    → ((place : ℕ) → IsFree (slice_index_or (map (λ (tree : Tree). section_statement (kind_of tree) tree) trees) place nothing))
    → IsFree (slice_index_or (map (λ (tree : Tree). section_statement (kind_of tree) tree) (if head then trees else tree ∷ trees)) place nothing)
sections-behind true tree trees place free each = each place
sections-behind false tree trees zero free each = section-statement-free tree free
sections-behind false tree trees (suc place) free each = each place

sections-among : (children : Children) → (IsTrue (has_return_among children) → ⊥) → (place : ℕ)
    → IsFree (slice_index_or (map (λ (tree : Tree). section_statement (kind_of tree) tree) (statements_among (trees_in children))) place nothing)
unfolding has_return_among statements_among trees_in
sections-among Over free place = nothing_free
sections-among (Absent rest) free place = nothing_free
sections-among (Child tree rest) free place =
    sections-behind (is_head (kind_of tree)) tree (statements_among (trees_in rest)) place (λ is. free (left_true (has_return tree) (has_return_among rest) is))
    (sections-among rest (λ is. free (right_true (has_return tree) (has_return_among rest) is)))

pub section_free : (construct : Tree) → HasNoReturn construct → (section : ℕ) → IsFree (slice_index_or (sections_of construct) section nothing)
section_free construct free section = sections-among (children_of construct) free section

-- the body of the loop that a construct shares out
body-with : (variable start end body : Option Tree) (comparison : Option BinaryOp) (step : Option ℤ) → IsFree (unwrap_or body nothing)
    → IsFree (unwrap_or (parts_with variable start end body comparison step) no_loop).body
body-with (Some variable) (Some start) (Some end) (Some body) (Some comparison) (Some step) free = free
body-with variable start end body comparison step free = nothing_free

body-if : (has : Bool) (statement : Tree) → IsFree (child_at statement 3) → IsFree (unwrap_or (if has then parts_in statement else None) no_loop).body
body-if false statement free = nothing_free
body-if true statement free =
    body-with (child_of (child_at statement 0) 0) (child_of (child_at statement 0) 1) (child_of (child_at statement 1) 1) (child_of statement 3)
    (comparison_of (kind_of (child_at statement 1))) (step_of (child_at statement 2)) free

body-named : (name : Option ℕ) (statement : Tree) → IsFree (child_at statement 3) → IsFree (unwrap_or (parts_if name statement) no_loop).body
body-named None statement free = nothing_free
body-named (Some name) statement free = body-if (has_head name statement) statement free

body-of : (statement : Tree) → IsFree statement → IsFree (unwrap_or (statement_parts statement) no_loop).body
unfolding has_return
body-of (Node node.For spot name number text children) free =
    let statement = Node node.For spot name number text children in body-named (loop_name statement) statement (λ is. free (return_at children 3 is))
body-of (Node other spot name number text children) free = nothing_free

body-shared : (shares : Bool) (statement : Tree) → IsFree statement → IsFree (unwrap_or (if shares then statement_parts statement else None) no_loop).body
body-shared false statement free = nothing_free
body-shared true statement free = body-of statement free

pub body_free : (construct : Tree) → HasNoReturn construct → IsFree (loop_of construct).body
body_free (Node (node.Construct which) spot name number text children) free =
    body-shared (shares_loop which) (statement_of children) (statement-free children free)
body_free (Node other spot name number text children) free = nothing_free
