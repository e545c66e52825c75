-- What comes to stand before what remains, form by form: a block's declarators and statements, iterations, a construct's cells and combining.
use Rattle.std.specs.Prelude.{ℕ, ◌≡◌, if◌then◌else◌, nat_lt, Bool, true, false, IsTrue, List, [], ◌∷◌, ◌++◌, ℤ, refl}
use Rattle.std.proofs.Common.{ap, sym, ◌∙◌, append_assoc, subst}
use Rattle.std.proofs.lemmas.List.{map-append}
use Rattle.c_syntax.specs.declared.node.NodeKind.TheVariants as node
use Rattle.c_syntax.specs.language.Tree.{Tree, Children, kind_of}
use Rattle.c_syntax.specs.language.Tree.Tree.{Node}
use Rattle.c_syntax.specs.language.Tree.Children.{Over, Child, Absent}
use Rattle.c_model.specs.declared.point.Target.{Target}
use Rattle.c_model.specs.declared.point.Target.TheVariants as target
use Rattle.c_model.specs.declared.point.WorkKind.TheVariants as work_kind
use Rattle.c_model.specs.Parts.{declarators_in, flat_declarations, trees_in}
use Rattle.c_model.specs.Calls.{value_items}
use Rattle.c_model.specs.Clauses.{Copying, Listed}
use Rattle.c_model.specs.Clauses.Copying.{Private, First, Reduced}
use Rattle.c_model.specs.Constructs.{iterations_from}
use Rattle.c_model.specs.Copies.{combines, combining_all, combining_of, has_own_cells, listed_variables, makes_cells}
use Rattle.c_model.specs.Task.{Item, SharedLoop, is_declarator, items_of_parts}
use Rattle.c_model.specs.Task.Item.{Start, Declare, Iterations, MakeCells, NextChunk}
use Rattle.c_brackets.specs.Opened.{open_items}
use Rattle.c_brackets.specs.Opened.Open.{Works}
use Rattle.c_brackets.specs.Orderly.{AreBehind, HasNoReturn, IsKept, falls_off, is_return}
use Rattle.c_brackets.specs.Returns.{ReturnOutsideEach, ReturnsOutside, has_return, has_return_among}
use Rattle.c_brackets.proofs.OpenLists.{IsAdded, left_true, never, none_added, right_true}
use Rattle.c_brackets.proofs.ReturnTrees.{IsFree, free_proper}

-- a statement without a return
pub start_kept : (tree : Tree) (items : List Item) → IsFree tree → IsKept (Start tree) items
start_kept tree items free = (free_proper tree free, λ is. absurd (free is))

-- parts of a block
part-added : (declares : Bool) (tree : Tree) (full items : List Item) → ReturnsOutside tree → (IsTrue (has_return tree) → open_items items ≡ [])
    → IsAdded full items
    → IsAdded ((if declares then Declare tree else Start tree) ∷ full) items
unfolding AreBehind open_items falls_off
part-added true tree full items proper returns added =
    record { behind = (refl, (tt, λ is. never is), added.behind); same = added.same; falls = added.falls }
part-added false tree full items proper returns added =
    record { behind = (refl, (proper, λ is. added.same ∙ returns is), added.behind); same = added.same; falls = added.falls }

declarators-added : (children : Children) (full items : List Item) → ReturnOutsideEach children → (IsTrue (has_return_among children) → open_items items ≡ [])
    → IsAdded full items
    → IsAdded (items_of_parts (trees_in children) ++ full) items
unfolding trees_in ReturnOutsideEach has_return_among
declarators-added Over full items proper returns added = added
declarators-added (Absent rest) full items proper returns added = added
declarators-added (Child tree rest) full items proper returns added =
    part-added (is_declarator (kind_of tree)) tree (items_of_parts (trees_in rest) ++ full) items proper.0 (λ is. returns (left_true (has_return tree) (has_return_among rest) is))
    (declarators-added rest full items proper.1 (λ is. returns (right_true (has_return tree) (has_return_among rest) is)) added)

flat-added : (tree : Tree) (full items : List Item) → ReturnsOutside tree → (IsTrue (has_return tree) → open_items items ≡ []) → IsAdded full items
    → IsAdded (items_of_parts (declarators_in (kind_of tree) tree) ++ full) items
unfolding ReturnsOutside has_return
flat-added (Node node.Globals spot name number text children) full items proper returns added = declarators-added children full items proper returns added
flat-added (Node node.Locals spot name number text children) full items proper returns added = declarators-added children full items proper returns added
flat-added (Node node.Locks spot name number text children) full items proper returns added = declarators-added children full items proper returns added
flat-added (Node kind spot name number text children) full items proper returns added =
    part-added (is_declarator kind) (Node kind spot name number text children) full items proper returns added

pub block_added : (children : Children) (full items : List Item) → ReturnOutsideEach children → (IsTrue (has_return_among children) → open_items items ≡ [])
    → IsAdded full items
    → IsAdded (items_of_parts (flat_declarations (trees_in children)) ++ full) items
unfolding trees_in flat_declarations ReturnOutsideEach has_return_among
block_added Over full items proper returns added = added
block_added (Absent rest) full items proper returns added = added
block_added (Child tree rest) full items proper returns added =
    let behind : List Item = items_of_parts (flat_declarations (trees_in rest)) in
    subst (λ (full : List Item). IsAdded full items)
    (sym (append_assoc (items_of_parts (declarators_in (kind_of tree) tree)) behind full) ∙ ap (λ (parts : List Item). parts ++ full) (sym (map-append _ (declarators_in (kind_of tree) tree) (flat_declarations (trees_in rest)))))
    (flat-added tree (behind ++ full) items proper.0 (λ is. returns (left_true (has_return tree) (has_return_among rest) is))
    (block_added rest full items proper.1 (λ is. returns (right_true (has_return tree) (has_return_among rest) is)) added))

-- the value of a call
pub value_added : (to : Target) (number : ℤ) (items : List Item) → AreBehind items → (IsTrue (is_return to) → open_items items ≡ [])
    → IsAdded (value_items to number ++ items) items
unfolding AreBehind open_items falls_off
value_added target.Nowhere number items behind returns = none_added items behind
value_added (target.Cell cell) number items behind returns = none_added items behind
value_added target.Return number items behind returns = record { behind = (refl, (tt, returns), behind); same = refl; falls = λ is. is }

-- combining
combining-one : (around : ℕ) (one : Listed) (copying : Copying) (full items : List Item) → IsAdded full items
    → IsAdded (combining_of around one copying ++ full) items
unfolding AreBehind open_items falls_off
combining-one around one Private full items added = added
combining-one around one First full items added = added
combining-one around one (Reduced operator) full items added =
    record { behind = (refl, (tt, λ is. never is), added.behind); same = added.same; falls = added.falls }

combining-all : (around : ℕ) (listed : List Listed) (full items : List Item) → IsAdded full items → IsAdded (combining_all around listed ++ full) items
unfolding combining_all
combining-all around [] full items added = added
combining-all around (one ∷ rest) full items added =
    subst (λ (full : List Item). IsAdded full items) (sym (append_assoc (combining_of around one one.copying) (combining_all around rest) full))
    (combining-one around one one.copying (combining_all around rest ++ full) items (combining-all around rest full items added))

pub combines_added : (construct : Tree) (around : ℕ) (full items : List Item) → IsAdded full items → IsAdded (combines construct around ++ full) items
combines_added construct around full items added = combining-all around (listed_variables construct) full items added

-- the cells of a construct's own
made-added : (has : Bool) (construct : Tree) (full items : List Item) → IsAdded full items
    → IsAdded ((if has then MakeCells construct ∷ [] else []) ++ full) items
unfolding AreBehind open_items falls_off
made-added true construct full items added = record { behind = (refl, (tt, λ is. never is), added.behind); same = added.same; falls = added.falls }
made-added false construct full items added = added

pub making_added : (construct : Tree) (full items : List Item) → IsAdded full items → IsAdded (makes_cells construct ++ full) items
making_added construct full items added = made-added (has_own_cells construct) construct full items added

-- iterations, or the next chunk
pub record IsInLoop (loop : SharedLoop) (full items : List Item) : Type 0 where
  pub behind : AreBehind full
  pub same : open_items full ≡ Works work_kind.Loop loop.count ∷ open_items items
  pub falls : IsTrue (falls_off items) → IsTrue (falls_off full)

chosen-added : (more : Bool) (loop : SharedLoop) (at upto : ℕ) (items : List Item) → HasNoReturn loop.construct → AreBehind items
    → IsInLoop loop ((if more then Iterations loop at upto else NextChunk loop) ∷ items) items
unfolding AreBehind open_items falls_off
chosen-added true loop at upto items free behind = record { behind = (refl, (free, λ is. never is), behind); same = refl; falls = λ is. is }
chosen-added false loop at upto items free behind = record { behind = (refl, (free, λ is. never is), behind); same = refl; falls = λ is. is }

pub iterations_added : (loop : SharedLoop) (at upto : ℕ) (items : List Item) → HasNoReturn loop.construct → AreBehind items
    → IsInLoop loop (iterations_from loop at upto ∷ items) items
iterations_added loop at upto items free behind = chosen-added (nat_lt at upto) loop at upto items free behind
