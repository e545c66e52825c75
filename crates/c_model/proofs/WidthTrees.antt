-- The parts of a statement have no more names inside than it has, beside its own.
use Rattle.std.specs.Prelude.{ℕ, zero, suc, ◌+◌, ◌≤◌, ◌≡◌, max, if◌then◌else◌, Bool, true, false, List, [], ◌∷◌, ◌++◌, map, slice_index_or, unwrap_or, Option, Some, None, refl, ℤ}
use Rattle.std.proofs.Common.{arith, ap, ◌∙◌}
use Rattle.c_syntax.specs.declared.node.BinaryOp.{BinaryOp}
use Rattle.c_syntax.specs.declared.node.NodeKind.{NodeKind}
use Rattle.c_syntax.specs.declared.node.NodeKind.TheVariants as node
use Rattle.c_syntax.specs.language.Tree.{Tree, Children, at_place, child_of, children_of, kind_of, nothing}
use Rattle.c_syntax.specs.language.Tree.Tree.{Node}
use Rattle.c_syntax.specs.language.Tree.Children.{Over, Child, Absent}
use Rattle.c_syntax.specs.language.Numbered.{TreeView, root_tree}
use Rattle.c_check.specs.LoopParts.{comparison_of, parts_by_kind, parts_if, parts_in, parts_with, statement_parts, step_of}
use Rattle.c_check.specs.Loops.{child_at, has_head, loop_name}
use Rattle.c_check.specs.Statements.{is_head, shares_loop, statement_of}
use Rattle.c_model.specs.Parts.{declarators_in, flat_declarations, parts, trees_in}
use Rattle.c_model.specs.Program.{function_among, function_named, is_function_named}
use Rattle.c_model.specs.Clauses.{clauses_among, construct_statement, listed_among, section_statement, sections_of, statements_among}
use Rattle.c_model.specs.Loops.{loop_of, no_loop}
use Rattle.c_model.specs.Width.{function_names, inner_names, most_inside, most_of_functions, own_names}

pub split : (program : TreeView) (tree : Tree) → inner_names program tree ≡ own_names program (kind_of tree) tree + most_inside program (children_of tree)
unfolding inner_names
split program (Node kind spot name number text children) = refl

pub split_at : (program : TreeView) (tree : Tree) (kind : NodeKind) → kind_of tree ≡ kind → inner_names program tree ≡ own_names program kind tree + most_inside program (children_of tree)
split_at program tree kind is = split program tree ∙ ap (λ kind. own_names program kind tree + most_inside program (children_of tree)) is

pub within : (program : TreeView) (tree : Tree) → most_inside program (children_of tree) ≤ inner_names program tree
within program tree = omega (arith, split program tree)

pub none : (program : TreeView) → inner_names program nothing ≡ 0
unfolding inner_names clauses_among listed_among trees_in
none program = refl

-- a child, or nothing in its place
among : (program : TreeView) (children : Children) (place : ℕ) → inner_names program (unwrap_or (at_place children place) nothing) ≤ most_inside program children
unfolding inner_names
among program Over place = omega (arith, none program)
among program (Child tree rest) zero = omega arith
among program (Child tree rest) (suc place) = omega (arith, among program rest place)
among program (Absent rest) zero = omega (arith, none program)
among program (Absent rest) (suc place) = among program rest place

pub of_child : (program : TreeView) (tree : Tree) (place : ℕ) → inner_names program (child_at tree place) ≤ most_inside program (children_of tree)
of_child program tree place = among program (children_of tree) place

pub child_below : (program : TreeView) (tree : Tree) (place : ℕ) → inner_names program (child_at tree place) ≤ inner_names program tree
child_below program tree place = omega (arith, of_child program tree place, within program tree)

-- the statement behind a construct's clauses
behind-head : (program : TreeView) (head : Bool) (tree : Tree) (rest : Children) → inner_names program (statement_of rest) ≤ most_inside program rest → inner_names program (if head then statement_of rest else tree) ≤ max (inner_names program tree) (most_inside program rest)
behind-head program true tree rest is = omega arith
behind-head program false tree rest is = omega arith

of-statement : (program : TreeView) (children : Children) → inner_names program (statement_of children) ≤ most_inside program children
unfolding inner_names statement_of
of-statement program Over = omega (arith, none program)
of-statement program (Absent rest) = omega (arith, none program)
of-statement program (Child tree rest) = behind-head program (is_head (kind_of tree)) tree rest (of-statement program rest)

pub of_statement : (program : TreeView) (construct : Tree) → inner_names program (construct_statement construct) ≤ most_inside program (children_of construct)
of_statement program construct = of-statement program (children_of construct)

-- the most names inside one of some trees
unfoldable pub most_of : TreeView → List Tree → ℕ
most_of program [] = 0
most_of program (tree ∷ trees) = max (inner_names program tree) (most_of program trees)

of-trees : (program : TreeView) (children : Children) → most_of program (trees_in children) ≤ most_inside program children
unfolding inner_names trees_in most_of
of-trees program Over = omega arith
of-trees program (Absent rest) = omega arith
of-trees program (Child tree rest) = omega (arith, of-trees program rest)

pub of_parts : (program : TreeView) (tree : Tree) → most_of program (parts tree) ≤ most_inside program (children_of tree)
of_parts program tree = of-trees program (children_of tree)

of-both : (program : TreeView) (one other : List Tree) → most_of program (one ++ other) ≡ max (most_of program one) (most_of program other)
unfolding most_of
of-both program [] other = omega arith
of-both program (tree ∷ one) other = omega (arith, of-both program one other)

parts-below : (program : TreeView) (tree : Tree) → most_of program (parts tree) ≤ inner_names program tree
parts-below program tree = omega (arith, of_parts program tree, within program tree)

of-declarators : (program : TreeView) (kind : NodeKind) (tree : Tree) → most_of program (declarators_in kind tree) ≤ inner_names program tree
unfolding most_of
of-declarators program node.Globals tree = parts-below program tree
of-declarators program node.Locals tree = parts-below program tree
of-declarators program node.Locks tree = parts-below program tree
of-declarators program other tree = omega arith

pub of_flat : (program : TreeView) (trees : List Tree) → most_of program (flat_declarations trees) ≤ most_of program trees
unfolding most_of flat_declarations
of_flat program [] = omega arith
of_flat program (tree ∷ trees) =
    omega (arith, of-both program (declarators_in (kind_of tree) tree) (flat_declarations trees), of-declarators program (kind_of tree) tree, of_flat program trees)

-- sections
of-section : (program : TreeView) (kind : NodeKind) (tree : Tree) → inner_names program (section_statement kind tree) ≤ inner_names program tree
of-section program node.Section tree = child_below program tree 0
of-section program other tree = omega arith

of-chosen : (program : TreeView) (head : Bool) (tree : Tree) (some trees : List Tree) → most_of program some ≤ most_of program trees → most_of program (if head then some else tree ∷ some) ≤ max (inner_names program tree) (most_of program trees)
unfolding most_of
of-chosen program true tree some trees fewer = omega arith
of-chosen program false tree some trees fewer = omega arith

of-statements : (program : TreeView) (trees : List Tree) → most_of program (statements_among trees) ≤ most_of program trees
unfolding most_of statements_among
of-statements program [] = omega arith
of-statements program (tree ∷ trees) = of-chosen program (is_head (kind_of tree)) tree (statements_among trees) trees (of-statements program trees)

of-sections : (program : TreeView) (trees : List Tree) → most_of program (map (λ (tree : Tree). section_statement (kind_of tree) tree) trees) ≤ most_of program trees
unfolding most_of
of-sections program [] = omega arith
of-sections program (tree ∷ trees) = omega (arith, of-section program (kind_of tree) tree, of-sections program trees)

of-place : (program : TreeView) (trees : List Tree) (place : ℕ) → inner_names program (slice_index_or trees place nothing) ≤ most_of program trees
unfolding most_of
of-place program [] place = omega (arith, none program)
of-place program (tree ∷ trees) zero = omega arith
of-place program (tree ∷ trees) (suc place) = omega (arith, of-place program trees place)

pub of_section : (program : TreeView) (construct : Tree) (section : ℕ) → inner_names program (slice_index_or (sections_of construct) section nothing) ≤ most_inside program (children_of construct)
of_section program construct section =
    omega (arith, of-place program (sections_of construct) section, of-sections program (statements_among (parts construct)), of-statements program (parts construct), of_parts program construct)

-- the body of a loop that is shared out
of-parts-with : (program : TreeView) (variable start end body : Option Tree) (comparison : Option BinaryOp) (step : Option ℤ) → inner_names program (unwrap_or (parts_with variable start end body comparison step) no_loop).body ≤ inner_names program (unwrap_or body nothing)
of-parts-with program (Some variable) (Some start) (Some end) (Some body) (Some comparison) (Some step) = omega arith
of-parts-with program variable start end body comparison step = omega (arith, none program)

of-parts-if : (program : TreeView) (has : Bool) (statement : Tree) → inner_names program (unwrap_or (if has then parts_in statement else None) no_loop).body ≤ inner_names program statement
of-parts-if program false statement = omega (arith, none program)
of-parts-if program true statement =
    omega (arith, child_below program statement 3, of-parts-with program (child_of (child_at statement 0) 0) (child_of (child_at statement 0) 1) (child_of (child_at statement 1) 1) (child_of statement 3) (comparison_of (kind_of (child_at statement 1))) (step_of (child_at statement 2)))

of-named : (program : TreeView) (name : Option ℕ) (statement : Tree) → inner_names program (unwrap_or (parts_if name statement) no_loop).body ≤ inner_names program statement
of-named program None statement = omega (arith, none program)
of-named program (Some name) statement = of-parts-if program (has_head name statement) statement

of-shared : (program : TreeView) (shares : Bool) (construct : Tree) → inner_names program (unwrap_or (if shares then statement_parts (construct_statement construct) else None) no_loop).body ≤ most_inside program (children_of construct)
of-shared program false construct = omega (arith, none program)
of-shared program true construct =
    omega (arith, of_statement program construct, of-named program (loop_name (construct_statement construct)) (construct_statement construct))

of-kind : (program : TreeView) (kind : NodeKind) (construct : Tree) → inner_names program (unwrap_or (parts_by_kind kind construct) no_loop).body ≤ most_inside program (children_of construct)
of-kind program (node.Construct which) construct = of-shared program (shares_loop which) construct
of-kind program other construct = omega (arith, none program)

pub of_body : (program : TreeView) (construct : Tree) → inner_names program (loop_of construct).body ≤ most_inside program (children_of construct)
of_body program construct = of-kind program (kind_of construct) construct

-- a function of the program, or nothing in its place
none-of-function : (program : TreeView) → function_names program nothing ≡ 0
unfolding inner_names clauses_among listed_among trees_in
none-of-function program = refl

of-named-function : (program : TreeView) (found : Bool) (tree other : Tree) (trees : List Tree) → function_names program other ≤ most_of_functions program trees → function_names program (if found then tree else other) ≤ max (function_names program tree) (most_of_functions program trees)
of-named-function program true tree other trees is = omega arith
of-named-function program false tree other trees is = omega arith

of-function-among : (program : TreeView) (name : ℕ) (trees : List Tree) → function_names program (function_among name trees) ≤ most_of_functions program trees
unfolding function_among most_of_functions
of-function-among program name [] = omega (arith, none-of-function program)
of-function-among program name (tree ∷ trees) =
    of-named-function program (is_function_named name tree) tree (function_among name trees) trees (of-function-among program name trees)

pub of_function : (program : TreeView) (name : ℕ) → function_names program (function_named program name) ≤ most_of_functions program (parts (root_tree program))
of_function program name = of-function-among program name (parts (root_tree program))
