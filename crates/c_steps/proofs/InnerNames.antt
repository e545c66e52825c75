-- How many names nodes have at most, by their numbers.
use Rattle.std.proofs.Common.{◌≡◌, ℕ, ◌+◌, ◌<◌, max, List, [], ◌∷◌, ◌++◌, Option, Some, None, cond, length, map, take, drop, get_or, refl, sym, ap, ◌∙◌, arith}
use Rattle.std.proofs.lemmas.List.{drop_more, get_or-map, get_or-take, length-take-le, map_more}
use Rattle.std.proofs.lemmas.List.Elements.{All-head, All-tail}
use Rattle.std.proofs.lemmas.List.Sums.{sum_by-append}
use Rattle.std.specs.List.{All}
use Rattle.c_syntax.specs.language.Tree.{Tree, children_of, kind_of, nothing}
use Rattle.c_syntax.specs.language.Tree.Tree.{Node}
use Rattle.c_syntax.specs.workings.Nodes.{IsBelow}
use Rattle.c_syntax.specs.language.Numbered.{TreeView, children_at, tree_at}
use Rattle.c_model.specs.Clauses.{clauses_among, listed_among}
use Rattle.c_model.specs.Parts.{declarators_in, flat_declarations, trees_in}
use Rattle.c_model.specs.Task.{is_declarator}
use Rattle.c_model.specs.Width.{function_names, inner_names, most_inside, most_of_functions, own_names}
use Rattle.c_steps.specs.Nodes.{IsPart, part_at}
use Rattle.c_steps.specs.Widths.{declarators_among, most_among, most_of_steps, names_of_step, number_at}

-- a node's own names, and the most that one of its children has
pub inner_names_is : (program : TreeView) (tree : Tree) → inner_names program tree ≡ own_names program (kind_of tree) tree + most_inside program (children_of tree)
unfolding inner_names
inner_names_is program (Node kind spot name number text children) = refl

inner_nothing : (program : TreeView) → inner_names program nothing ≡ 0
unfolding inner_names clauses_among listed_among trees_in
inner_nothing program = refl

-- the number of a node before another one
number_before : (program : TreeView) (node child : ℕ) → child < node → node < length program.trees → get_or (map (inner_names program) (take node program.trees)) child 0 ≡ inner_names program (tree_at program.trees child)
number_before program node child before within =
    let count : length (take node program.trees) ≡ node = length-take-le node program.trees (omega arith) in
    get_or-map (inner_names program) (take node program.trees) child nothing 0 (omega (arith, count))
    ∙ ap (inner_names program) (get_or-take node program.trees child nothing before)

-- the most of a node's children
pub most_among_is : (program : TreeView) (node : ℕ) (children : List (Option ℕ)) → node < length program.trees → All (IsBelow node) children → most_among (map (inner_names program) (take node program.trees)) children ≡ most_inside program (children_at program.trees children)
unfolding most_among inner_names
most_among_is program node [] within below = refl
most_among_is program node (None ∷ children) within below = omega (arith, most_among_is program node children within (All-tail (IsBelow node) None children below))
most_among_is program node (Some child ∷ children) within below =
    let before : child < node = All-head (IsBelow node) (Some child) children below in
    rw (number_before program node child before within)
    (ap (max (inner_names program (tree_at program.trees child))) (most_among_is program node children within (All-tail (IsBelow node) (Some child) children below)))

-- the greatest of what is left, one node on
pub most_more : (numbers : List ℕ) (nodes : List (Option ℕ)) (at most : ℕ) (node : Option ℕ) → at < length nodes → node ≡ get_or nodes at node → max (max (number_at numbers node) most) (most_among numbers (drop (at + 1) nodes)) ≡ max most (most_among numbers (drop at nodes))
unfolding most_among
most_more numbers nodes at most node within is = rw (drop_more nodes at node within, ← is) (omega arith)

-- the number of a part
pub number_at_is : (program : TreeView) (part : Option ℕ) → IsPart program.trees part → number_at (map (inner_names program) program.trees) part ≡ inner_names program (part_at program.trees part)
number_at_is program None there = sym (inner_nothing program)
number_at_is program (Some node) there = get_or-map (inner_names program) program.trees node nothing 0 there

-- the numbers of the nodes up to one more
pub numbers_more : (program : TreeView) (node : ℕ) → node < length program.trees → map (inner_names program) (take (node + 1) program.trees) ≡ map (inner_names program) (take node program.trees) ++ inner_names program (tree_at program.trees node) ∷ []
numbers_more program node within = map_more (inner_names program) program.trees node nothing within

-- the greatest of the steps that are left, one node on
pub steps_more : (trees : List Tree) (node most : ℕ) → node < length trees → max (max (names_of_step (tree_at trees node)) most) (most_of_steps (drop (node + 1) trees)) ≡ max most (most_of_steps (drop node trees))
unfolding most_of_steps
steps_more trees node most within = rw (drop_more trees node nothing within) (omega arith)

count_by-append : (trees more : List Tree) → declarators_among (trees ++ more) ≡ declarators_among trees + declarators_among more
count_by-append trees more = sum_by-append (λ (part : Tree). cond (is_declarator (kind_of part)) 1 0) trees more

-- the declarators of a part, and those of the parts behind it
pub declarators_behind : (part : Tree) (parts : List Tree) → declarators_among (flat_declarations (part ∷ parts)) ≡ declarators_among (declarators_in (kind_of part) part) + declarators_among (flat_declarations parts)
unfolding flat_declarations
declarators_behind part parts = count_by-append (declarators_in (kind_of part) part) (flat_declarations parts)

pub declarators_none : declarators_among (flat_declarations []) ≡ 0
unfolding flat_declarations
declarators_none = refl

pub ruleset declarators_cases = (declarators_behind, declarators_none)

-- the most names of functions, and those of the functions behind one
pub functions_behind : (program : TreeView) (function : Tree) (functions : List Tree) → most_of_functions program (function ∷ functions) ≡ max (function_names program function) (most_of_functions program functions)
unfolding most_of_functions
functions_behind program function functions = refl

pub functions_none : (program : TreeView) → most_of_functions program [] ≡ 0
unfolding most_of_functions
functions_none program = refl

pub ruleset functions_cases = (number_at_is, functions_behind, functions_none)
