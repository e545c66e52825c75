-- The names of what stands next: of a block's declarators and statements, the branch of an `if`, iterations.
use Rattle.std.specs.Prelude.{ℕ, ◌+◌, ◌≤◌, ◌≡◌, max, min, if◌then◌else◌, Bool, true, false, List, [], ◌∷◌, ◌++◌, cond, nat_lt, ℤ, refl}
use Rattle.std.specs.List.{count_by}
use Rattle.std.proofs.Common.{arith}
use Rattle.std.proofs.lemmas.List.Sums.{sum_by-cons}
use Rattle.c_syntax.specs.language.Tree.{Tree, children_of, kind_of}
use Rattle.c_syntax.specs.language.Numbered.{TreeView}
use Rattle.c_check.specs.Loops.{child_at}
use Rattle.c_model.specs.declared.point.Target.{Target}
use Rattle.c_model.specs.declared.point.Target.TheVariants as target
use Rattle.c_model.specs.Calls.{value_items}
use Rattle.c_model.specs.Constructs.{iterations_from}
use Rattle.c_model.specs.Loops.{loop_of}
use Rattle.c_model.specs.Task.{Item, SharedLoop, is_declarator, items_of_parts}
use Rattle.c_model.specs.Task.Item.{Start, Declare, Leave, Iterations, NextChunk}
use Rattle.c_model.specs.Width.{inner_names, most_inside, most_names}
use Rattle.c_model.proofs.WidthNames.{grows}
use Rattle.c_model.proofs.WidthTrees.{most_of, of_child}

abbrev pub declarator_count : List Tree → ℕ
declarator_count trees = count_by (λ (part : Tree). is_declarator (kind_of part)) trees

part-names : (program : TreeView) (declares : Bool) (tree : Tree) (behind : List Item) (names : ℕ) → most_names program ((if declares then Declare tree else Start tree) ∷ behind) names ≤ max (names + inner_names program tree) (most_names program behind (names + cond declares 1 0))
unfolding most_names
part-names program true tree behind names = omega arith
part-names program false tree behind names = omega (arith, grows program behind names (names + 0) (omega arith))

-- a block's declarators add up, and its end leaves the names around it
pub block_names : (program : TreeView) (trees : List Tree) (items : List Item) (stay names : ℕ) → stay ≤ names → most_names program (items_of_parts trees ++ Leave stay ∷ items) names ≤ max (names + declarator_count trees + most_of program trees) (most_names program items stay)
unfolding most_names most_of
block_names program [] items stay names fewer = omega (arith, grows program items (min stay names) stay (omega arith))
block_names program (tree ∷ trees) items stay names fewer =
    let part = part-names program (is_declarator (kind_of tree)) tree (items_of_parts trees ++ Leave stay ∷ items) names in
    let rest = block_names program trees items stay (names + cond (is_declarator (kind_of tree)) 1 0) (omega arith) in
    omega (arith, part, rest, sum_by-cons (λ (part : Tree). cond (is_declarator (kind_of part)) 1 0) tree trees)

-- the branch of an `if` that is taken, if there is one
pub branch_names : (program : TreeView) (zero has : Bool) (tree : Tree) (items : List Item) (names : ℕ) → most_names program ((if zero then (if has then Start (child_at tree 2) ∷ [] else []) else Start (child_at tree 1) ∷ []) ++ items) names ≤ max (names + most_inside program (children_of tree)) (most_names program items names)
unfolding most_names
branch_names program true true tree items names = omega (arith, of_child program tree 2)
branch_names program true false tree items names = omega arith
branch_names program false has tree items names = omega (arith, of_child program tree 1)

-- the value of a call brings no name
pub value_names : (program : TreeView) (to : Target) (number : ℤ) (items : List Item) (names : ℕ) → most_names program (value_items to number ++ items) names ≡ most_names program items names
unfolding most_names
value_names program target.Nowhere number items names = refl
value_names program (target.Cell cell) number items names = refl
value_names program target.Return number items names = refl

-- iterations, or the next chunk
chosen-names : (program : TreeView) (more : Bool) (loop : SharedLoop) (at upto : ℕ) (items : List Item) (names : ℕ) → most_names program ((if more then Iterations loop at upto else NextChunk loop) ∷ items) names ≡ max (names + inner_names program (loop_of loop.construct).body) (most_names program items (min loop.names names))
unfolding most_names
chosen-names program true loop at upto items names = refl
chosen-names program false loop at upto items names = refl

pub iteration_names : (program : TreeView) (loop : SharedLoop) (at upto : ℕ) (items : List Item) (names : ℕ) → most_names program (iterations_from loop at upto ∷ items) names ≡ max (names + inner_names program (loop_of loop.construct).body) (most_names program items (min loop.names names))
iteration_names program loop at upto items names = chosen-names program (nat_lt at upto) loop at upto items names
