-- What stands next, form by form: a block's declarators and statements, iterations, a construct's work.
use Rattle.std.specs.Prelude.{ℕ, ◌≡◌, ◌||◌, not, nat_lt, if◌then◌else◌, Bool, true, false, List, [], ◌∷◌, ◌++◌, length, map, take, drop, ℤ, refl}
use Rattle.std.specs.List.{All, Contains}
use Rattle.std.proofs.Common.{ap, sym, ◌∙◌, append-nil, append_assoc, subst}
use Rattle.std.proofs.lemmas.List.{drop_at, map-append, take_at}
use Rattle.std.proofs.lemmas.List.Elements.{All-cons, All-head, All-nil, All-tail, All-weaker, Contains-append_left, Contains-append_right, Contains-push}
use Rattle.c_syntax.specs.declared.node.NodeKind.TheVariants as node
use Rattle.c_syntax.specs.language.Tree.{Tree, Children, kind_of, name_of}
use Rattle.c_syntax.specs.language.Tree.Tree.{Node}
use Rattle.c_syntax.specs.language.Tree.Children.{Over, Child, Absent}
use Rattle.c_syntax.specs.language.Numbered.{TreeView}
use Rattle.c_model.specs.declared.point.Target.{Target}
use Rattle.c_model.specs.declared.point.Target.TheVariants as target
use Rattle.c_model.specs.Parts.{declarators_in, flat_declarations, trees_in}
use Rattle.c_model.specs.Calls.{value_items}
use Rattle.c_model.specs.Clauses.{Copying, Listed}
use Rattle.c_model.specs.Clauses.Copying.{Private, First, Reduced}
use Rattle.c_model.specs.Constructs.{iterations_from}
use Rattle.c_model.specs.Copies.{combines, combining_all, combining_of, has_own_cells, is_empty, is_loop, listed_variables, makes_cells}
use Rattle.c_model.specs.Loops.{loop_of}
use Rattle.c_model.specs.Task.{Item, SharedLoop, is_declarator, items_of_parts}
use Rattle.c_model.specs.Task.Item.{Start, Declare, Leave, Iterations, MakeCells, NextChunk}
use Rattle.c_model.specs.Scoped.{HasCopies, IsIterable, IsOpenable, Knows, KnowsInOrder, Scoped, declared_among, declared_name, listed_names, part_names, with_made, with_shared}
use Rattle.c_model.proofs.ScopeTrees.{IsPart, part_push}

abbrev IsListedIn : List ℕ → Listed → Type 0
IsListedIn names one = Contains names one.name

abbrev IsCopied : List ℕ → ℕ → Listed → Type 0
IsCopied names around one = Contains (take around names) one.name × Contains (drop around names) one.name

module _ (program : TreeView) where
  -- a part of a block brings what it declares into scope
  part-scoped : (declares : Bool) (tree : Tree) (items : List Item) (names : List ℕ) → Knows program names tree → Scoped program items (names ++ (if declares then name_of tree ∷ [] else []))
      → Scoped program ((if declares then Declare tree else Start tree) ∷ items) names
  unfolding Scoped
  part-scoped true tree items names knows now = (knows, now)
  part-scoped false tree items names knows now = (knows, subst (λ (names : List ℕ). Scoped program items names) (append-nil names) now)

  declarators-scoped : (children : Children) (items : List Item) (names : List ℕ) → KnowsInOrder program declared_name names children → Scoped program items (names ++ declared_among (trees_in children)) → Scoped program (items_of_parts (trees_in children) ++ items) names
  unfolding KnowsInOrder trees_in declared_among
  declarators-scoped Over items names knows now = subst (λ (names : List ℕ). Scoped program items names) (append-nil names) now
  declarators-scoped (Absent rest) items names knows now = subst (λ (names : List ℕ). Scoped program items names) (append-nil names) now
  declarators-scoped (Child tree rest) items names knows now =
      part-scoped (is_declarator (kind_of tree)) tree (items_of_parts (trees_in rest) ++ items) names knows.0
      (declarators-scoped rest items (names ++ declared_name tree) knows.1
      (subst (λ (names : List ℕ). Scoped program items names) (sym (append_assoc names (declared_name tree) (declared_among (trees_in rest)))) now))

  flat-scoped : (tree : Tree) (items : List Item) (names : List ℕ) → Knows program names tree → Scoped program items (names ++ part_names tree) → Scoped program (items_of_parts (declarators_in (kind_of tree) tree) ++ items) names
  unfolding Knows
  flat-scoped (Node node.Globals spot name number text children) items names knows now = declarators-scoped children items names knows now
  flat-scoped (Node node.Locals spot name number text children) items names knows now = declarators-scoped children items names knows now
  flat-scoped (Node node.Locks spot name number text children) items names knows now = declarators-scoped children items names knows now
  flat-scoped (Node kind spot name number text children) items names knows now =
      part-scoped (is_declarator kind) (Node kind spot name number text children) items names knows now

  -- a block's parts, where what comes behind them knows its names whatever the block has declared
  pub block_scoped : (children : Children) (items : List Item) (names : List ℕ) → KnowsInOrder program part_names names children → ((declared : List ℕ) → Scoped program items (names ++ declared)) → Scoped program (items_of_parts (flat_declarations (trees_in children)) ++ items) names
  unfolding KnowsInOrder flat_declarations trees_in
  block_scoped Over items names knows each = subst (λ (names : List ℕ). Scoped program items names) (append-nil names) (each [])
  block_scoped (Absent rest) items names knows each = subst (λ (names : List ℕ). Scoped program items names) (append-nil names) (each [])
  block_scoped (Child tree rest) items names knows each =
      let behind : List Item = items_of_parts (flat_declarations (trees_in rest)) in
      let later = block_scoped rest items (names ++ part_names tree) knows.1 (λ declared. subst (λ (names : List ℕ). Scoped program items names) (sym (append_assoc names (part_names tree) declared)) (each (part_names tree ++ declared))) in
      subst (λ (items : List Item). Scoped program items names)
      (sym (append_assoc (items_of_parts (declarators_in (kind_of tree) tree)) behind items) ∙ ap (λ (parts : List Item). parts ++ items) (sym (map-append _ (declarators_in (kind_of tree) tree) (flat_declarations (trees_in rest)))))
      (flat-scoped tree (behind ++ items) names knows.0 later)

  -- the end of a block leaves the names around it
  pub leave_scoped : (items : List Item) (names : List ℕ) (stay : ℕ) → length names ≡ stay → Scoped program items names → (declared : List ℕ) → Scoped program (Leave stay ∷ items) (names ++ declared)
  unfolding Scoped
  leave_scoped items names stay is now declared = subst (λ (names : List ℕ). Scoped program items names) (sym (take_at names declared stay is)) now

  -- the value of a call brings no name
  pub value_scoped : (to : Target) (number : ℤ) (items : List Item) (names : List ℕ) → Scoped program items names → Scoped program (value_items to number ++ items) names
  unfolding Scoped
  value_scoped target.Nowhere number items names now = now
  value_scoped (target.Cell cell) number items names now = now
  value_scoped target.Return number items names now = now

  -- iterations, or the next chunk
  chosen-scoped : (more : Bool) (loop : SharedLoop) (at upto : ℕ) (items : List Item) (names : List ℕ) → IsIterable program names loop.names loop.construct → Scoped program items (take loop.names names) → Scoped program ((if more then Iterations loop at upto else NextChunk loop) ∷ items) names
  unfolding Scoped
  chosen-scoped true loop at upto items names is now = (is, now)
  chosen-scoped false loop at upto items names is now = (is, now)

  pub iterations_scoped : (loop : SharedLoop) (at upto : ℕ) (items : List Item) (names : List ℕ) → IsIterable program names loop.names loop.construct → Scoped program items (take loop.names names) → Scoped program (iterations_from loop at upto ∷ items) names
  iterations_scoped loop at upto items names is now = chosen-scoped (nat_lt at upto) loop at upto items names is now

  -- combining
  combining-one : (around : ℕ) (one : Listed) (copying : Copying) (items : List Item) (names : List ℕ) → Contains (take around names) one.name × Contains (drop around names) one.name → Scoped program items names → Scoped program (combining_of around one copying ++ items) names
  unfolding Scoped
  combining-one around one Private items names has now = now
  combining-one around one First items names has now = now
  combining-one around one (Reduced operator) items names has now = (has.0, has.1, now)

  combining-all : (around : ℕ) (listed : List Listed) (items : List Item) (names : List ℕ) → All (λ (listed : Listed). Contains (take around names) listed.name × Contains (drop around names) listed.name) listed → Scoped program items names → Scoped program (combining_all around listed ++ items) names
  unfolding combining_all
  combining-all around [] items names has now = now
  combining-all around (one ∷ rest) items names has now =
      subst (λ (items : List Item). Scoped program items names) (sym (append_assoc (combining_of around one one.copying) (combining_all around rest) items))
      (combining-one around one one.copying (combining_all around rest ++ items) names (All-head (IsCopied names around) one rest has) (combining-all around rest items names (All-tail (IsCopied names around) one rest has) now))

  pub combines_scoped : (construct : Tree) (around : ℕ) (items : List Item) (names : List ℕ) → HasCopies names around construct → Scoped program items names → Scoped program (combines construct around ++ items) names
  combines_scoped construct around items names has now = combining-all around (listed_variables construct) items names has now

  -- the cells of a construct's own
  none-made : (shares : Bool) (listed : List Listed) (name : ℕ) (items : List Item) (names : List ℕ) → (shares || not (is_empty listed)) ≡ false
      → Scoped program items (if shares then (names ++ map (λ (one : Listed). one.name) listed) ++ name ∷ [] else names ++ map (λ (one : Listed). one.name) listed) → Scoped program items names
  none-made false [] name items names none now = subst (λ (names : List ℕ). Scoped program items names) (append-nil names) now
  none-made false (one ∷ rest) name items names none now = cc
  none-made true listed name items names none now = cc

  made-scoped : (has : Bool) (construct : Tree) (items : List Item) (names : List ℕ) → has_own_cells construct ≡ has → IsOpenable names construct → Scoped program items (with_made names construct) → Scoped program ((if has then MakeCells construct ∷ [] else []) ++ items) names
  unfolding Scoped
  made-scoped true construct items names is opens now = (opens, now)
  made-scoped false construct items names is opens now = none-made (is_loop construct) (listed_variables construct) (name_of (loop_of construct).variable) items names is now

  pub making_scoped : (construct : Tree) (items : List Item) (names : List ℕ) → IsOpenable names construct → Scoped program items (with_made names construct) → Scoped program (makes_cells construct ++ items) names
  making_scoped construct items names opens now = made-scoped (has_own_cells construct) construct items names refl opens now

-- behind its own cells a construct has the names around it, its copies, and the variable of its loop
shared-take : (shares : Bool) (names listed : List ℕ) (name : ℕ) → take (length names) (if shares then (names ++ listed) ++ name ∷ [] else names ++ listed) ≡ names
shared-take true names listed name = ap (take (length names)) (append_assoc names listed (name ∷ [])) ∙ take_at names (listed ++ name ∷ []) (length names) refl
shared-take false names listed name = take_at names listed (length names) refl

pub made_take : (construct : Tree) (names : List ℕ) → take (length names) (with_made names construct) ≡ names
made_take construct names = shared-take (is_loop construct) names (listed_names construct) (name_of (loop_of construct).variable)

shared-drop : (shares : Bool) (names listed : List ℕ) (name : ℕ) → IsPart listed (drop (length names) (if shares then (names ++ listed) ++ name ∷ [] else names ++ listed))
shared-drop true names listed name one is =
    subst (λ (names : List ℕ). Contains names one) (sym (ap (drop (length names)) (append_assoc names listed (name ∷ [])) ∙ drop_at names (listed ++ name ∷ []) (length names) refl)) (Contains-append_left listed (name ∷ []) one is)
shared-drop false names listed name one is = subst (λ (names : List ℕ). Contains names one) (sym (drop_at names listed (length names) refl)) is

listed-contained : (listed : List Listed) → All (IsListedIn (map (λ (one : Listed). one.name) listed)) listed
listed-contained [] = All-nil (IsListedIn [])
listed-contained (one ∷ rest) =
    let names : List ℕ = map (λ (one : Listed). one.name) rest in
    All-cons (IsListedIn (one.name ∷ names)) one rest (Contains-append_left (one.name ∷ []) names one.name (Contains-push [] one.name))
    (All-weaker (IsListedIn names) (IsListedIn (one.name ∷ names)) (λ other is. Contains-append_right (one.name ∷ []) names other.name is) rest (listed-contained rest))

both : (P Q R : Listed → Type 0) → ((one : Listed) → P one → Q one → R one) → (listed : List Listed) → All P listed → All Q listed → All R listed
both P Q R each [] first second = All-nil R
both P Q R each (one ∷ rest) first second =
    All-cons R one rest (each one (All-head P one rest first) (All-head Q one rest second)) (both P Q R each rest (All-tail P one rest first) (All-tail Q one rest second))

pub made_copies : (construct : Tree) (names : List ℕ) (around : ℕ) → length names ≡ around → IsOpenable names construct → HasCopies (with_made names construct) around construct
made_copies construct names around is opens =
    subst (λ (around : ℕ). HasCopies (with_made names construct) around construct) is
    (both (IsListedIn names) (IsListedIn (listed_names construct)) (IsCopied (with_made names construct) (length names))
    (λ one known listed. (subst (λ (names : List ℕ). Contains names one.name) (sym (made_take construct names)) known, shared-drop (is_loop construct) names (listed_names construct) (name_of (loop_of construct).variable) one.name listed))
    (listed_variables construct) opens.listed (listed-contained (listed_variables construct)))

part-of-shared : (shares : Bool) (names listed : List ℕ) (name : ℕ) → IsPart (if shares then names ++ name ∷ [] else names) (if shares then (names ++ listed) ++ name ∷ [] else names ++ listed)
part-of-shared true names listed name one is = part_push names (names ++ listed) (name ∷ []) (λ one is. Contains-append_left names listed one is) one is
part-of-shared false names listed name one is = Contains-append_left names listed one is

pub part_made : (construct : Tree) (names : List ℕ) → IsPart (with_shared names construct) (with_made names construct)
part_made construct names = part-of-shared (is_loop construct) names (listed_names construct) (name_of (loop_of construct).variable)
