-- What stands next, form by form: a block's declarators and statements, iterations, a construct's work.
use Rattle.std.specs.Prelude.{ℕ, ◌≡◌, ◌||◌, not, nat_lt, if◌then◌else◌, Bool, true, false, IsTrue, List, [], ◌∷◌, ◌++◌, length, take, ℤ, refl}
use Rattle.std.proofs.Common.{ap, sym, ◌∙◌, append-nil, append_assoc, subst}
use Rattle.std.proofs.lemmas.List.{map-append, take_at}
use Rattle.c_syntax.specs.declared.node.NodeKind.{NodeKind}
use Rattle.c_syntax.specs.declared.node.NodeKind.TheVariants as node
use Rattle.c_syntax.specs.language.Tree.{Tree, Children, kind_of, name_of, spot_of}
use Rattle.c_syntax.specs.language.Tree.Tree.{Node}
use Rattle.c_syntax.specs.language.Tree.Children.{Over, Child, Absent}
use Rattle.c_syntax.specs.language.Numbered.{TreeView}
use Rattle.c_check.specs.declared.acts.act.Act.{Act}
use Rattle.c_check.specs.declared.acts.act.Act.TheVariants.{Declare as Declaring}
use Rattle.c_check.specs.declared.acts.act.Thing.TheVariants as thing
use Rattle.c_check.specs.declared.acts.role.Naming.TheVariants as naming
use Rattle.c_check.specs.declared.acts.role.Role.TheVariants as role
use Rattle.c_check.specs.Acts.{acts, each}
use Rattle.c_check.specs.NameLists.{names}
use Rattle.c_check.specs.Seen.{slot_of_name}
use Rattle.c_model.specs.declared.point.Target.{Target}
use Rattle.c_model.specs.declared.point.Target.TheVariants as target
use Rattle.c_model.specs.Parts.{declarators_in, flat_declarations, trees_in}
use Rattle.c_model.specs.Calls.{value_items}
use Rattle.c_model.specs.Clauses.{Copying, Listed}
use Rattle.c_model.specs.Clauses.Copying.{Private, First, Reduced}
use Rattle.c_model.specs.Constructs.{iterations_from}
use Rattle.c_model.specs.Copies.{combines, combining_all, combining_of, has_own_cells, is_empty, is_loop, listed_variables, makes_cells}
use Rattle.c_model.specs.Formed.{AreFormed, AreInRow, IsFormed, is_local, is_part}
use Rattle.c_model.specs.Loops.{is_declared, loop_of}
use Rattle.c_model.specs.Task.{Item, SharedLoop, is_declarator, item_of_part, items_of_parts}
use Rattle.c_model.specs.Task.Item.{Start, Declare, Leave, Iterations, MakeCells, NextChunk}
use Rattle.c_slots.specs.OwnPlaces.{HasOwnPlaces}
use Rattle.c_slots.specs.Slotted.{HasLoopSlot, IsPlaced, Slotted, StandsIn}
use Rattle.c_slots.proofs.Adding.{quiet_adds}
use Rattle.c_slots.proofs.Parts.{never, one_adds}
use Rattle.c_slots.proofs.Standing.{part_left, placed, stands_declared, stands_first, stands_next, stands_wider}

local-declares : (kind : NodeKind) → IsTrue (is_local kind) → is_declarator kind ≡ true
local-declares node.LocalVar is = refl
local-declares node.LocalArray is = refl
local-declares node.LocalSet is = refl
local-declares other is = never is

name-declares : (kind : NodeKind) → IsTrue (is_declared kind) → is_declarator kind ≡ true
name-declares node.Name is = refl
name-declares other is = never is

module _ (program : TreeView) where
  -- a part of a block
  part-slotted : (declares : Bool) (tree : Tree) (items : List Item) (slots : List ℕ) → (declares ≡ false → IsPlaced program slots tree)
      → ((declared : List ℕ) → Slotted program items (slots ++ declared))
      → Slotted program ((if declares then Declare tree else Start tree) ∷ items) slots
  unfolding Slotted
  part-slotted true tree items slots is later = later (slot_of_name program tree ∷ [])
  part-slotted false tree items slots is later = (is refl, subst (λ (slots : List ℕ). Slotted program items slots) (append-nil slots) (later []))

  declarator-slotted : (declares : Bool) (tree : Tree) (items : List Item) (slots : List ℕ) → declares ≡ true
      → Slotted program items (slots ++ slot_of_name program tree ∷ [])
      → Slotted program ((if declares then Declare tree else Start tree) ∷ items) slots
  unfolding Slotted
  declarator-slotted true tree items slots is now = now
  declarator-slotted false tree items slots is now = absurd (cc)

  -- what comes behind declarators, whatever they have declared
  abbrev Behind : List Act → List Item → List ℕ → Type 0
  Behind more items slots = (declared : List ℕ) → StandsIn program (slots ++ declared) more → Slotted program items (slots ++ declared)

  behind-none : (more : List Act) (items : List Item) (slots : List ℕ) → StandsIn program slots more → Behind more items slots → Slotted program items slots
  behind-none more items slots stands behind =
      subst (λ (slots : List ℕ). Slotted program items slots) (append-nil slots)
      (behind [] (stands_wider program slots (slots ++ []) more (part_left slots []) stands))

  behind-one : (more : List Act) (items : List Item) (slots : List ℕ) (slot : ℕ) → Behind more items slots → Behind more items (slots ++ slot ∷ [])
  behind-one more items slots slot behind declared stands =
      subst (λ (slots : List ℕ). Slotted program items slots) (sym (append_assoc slots (slot ∷ []) declared))
      (behind (slot ∷ declared) (subst (λ (slots : List ℕ). StandsIn program slots more) (append_assoc slots (slot ∷ []) declared) stands))

  module _ (own : HasOwnPlaces program) where
    local-behind : (tree : Tree) (more : List Act) (slots : List ℕ) → IsTrue (is_local (kind_of tree)) → IsFormed tree
        → StandsIn program slots (acts role.Plain tree ++ more) → StandsIn program (slots ++ slot_of_name program tree ∷ []) more
    unfolding acts IsFormed
    local-behind (Node node.LocalVar spot name number text children) more slots is formed stands =
        stands_declared program own slots name spot thing.Int more stands
    local-behind (Node node.LocalArray spot name number text children) more slots is formed stands =
        stands_declared program own slots name spot (thing.Array number) more stands
    local-behind (Node node.LocalSet spot name number text children) more slots is formed stands =
        stands_declared program own slots name spot thing.Int more
        (stands_next program slots (each role.Used children) (Declaring name spot thing.Int ∷ more) (one_adds program children role.Used formed.0 formed.1)
        (subst (λ (acts : List Act). StandsIn program slots acts) (append_assoc (each role.Used children) (Declaring name spot thing.Int ∷ []) more) stands))
    local-behind (Node other spot name number text children) more slots is formed stands = never is

    locals-slotted : (children : Children) (more : List Act) (items : List Item) (slots : List ℕ) → AreInRow is_local children → AreFormed children
        → StandsIn program slots (each role.Plain children ++ more) → Behind more items slots
        → Slotted program (items_of_parts (trees_in children) ++ items) slots
    unfolding each trees_in AreInRow AreFormed
    locals-slotted Over more items slots row formed stands behind = behind-none more items slots stands behind
    locals-slotted (Absent rest) more items slots row formed stands behind = behind-none more items slots stands behind
    locals-slotted (Child tree rest) more items slots row formed stands behind =
        let slot = slot_of_name program tree in
        let whole = subst (λ (acts : List Act). StandsIn program slots acts) (append_assoc (acts role.Plain tree) (each role.Plain rest) more) stands in
        declarator-slotted (is_declarator (kind_of tree)) tree (items_of_parts (trees_in rest) ++ items) slots (local-declares (kind_of tree) row.0)
        (locals-slotted rest more items (slots ++ slot ∷ []) row.1 formed.1 (local-behind tree (each role.Plain rest ++ more) slots row.0 formed.0 whole)
        (behind-one more items slots slot behind))

    locks-slotted : (children : Children) (more : List Act) (items : List Item) (slots : List ℕ) → AreInRow is_declared children
        → StandsIn program slots (names naming.Locks children ++ more) → Behind more items slots
        → Slotted program (items_of_parts (trees_in children) ++ items) slots
    unfolding names trees_in AreInRow
    locks-slotted Over more items slots row stands behind = behind-none more items slots stands behind
    locks-slotted (Absent rest) more items slots row stands behind = behind-none more items slots stands behind
    locks-slotted (Child tree rest) more items slots row stands behind =
        let slot = slot_of_name program tree in
        declarator-slotted (is_declarator (kind_of tree)) tree (items_of_parts (trees_in rest) ++ items) slots (name-declares (kind_of tree) row.0)
        (locks-slotted rest more items (slots ++ slot ∷ []) row.1
        (stands_declared program own slots (name_of tree) (spot_of tree) thing.Lock (names naming.Locks rest ++ more) stands)
        (behind-one more items slots slot behind))

    -- a part
    flat-slotted : (tree : Tree) (more : List Act) (items : List Item) (slots : List ℕ) → IsTrue (is_part (kind_of tree)) → IsFormed tree
        → StandsIn program slots (acts role.Plain tree ++ more) → Behind more items slots
        → Slotted program (items_of_parts (declarators_in (kind_of tree) tree) ++ items) slots
    unfolding acts IsFormed
    flat-slotted (Node node.Locals spot name number text children) more items slots is formed stands behind =
        locals-slotted children more items slots formed.0 formed.1 stands behind
    flat-slotted (Node node.Locks spot name number text children) more items slots is formed stands behind =
        locks-slotted children more items slots formed.0 stands behind
    flat-slotted (Node node.Globals spot name number text children) more items slots is formed stands behind = never is
    flat-slotted (Node kind spot name number text children) more items slots is formed stands behind =
        let tree = Node kind spot name number text children in
        let rest = stands_next program slots (acts role.Plain tree) more (quiet_adds tree is formed role.Plain) stands in
        part-slotted (is_declarator kind) tree items slots
        (λ no. placed program slots role.Plain tree formed (stands_first program slots (acts role.Plain tree) more stands))
        (λ declared. behind declared (stands_wider program slots (slots ++ declared) more (part_left slots declared) rest))

    -- a block's parts, where what comes behind them stands there whatever the block has declared
    pub block_slotted : (children : Children) (items : List Item) (slots : List ℕ) → AreInRow is_part children → AreFormed children
        → StandsIn program slots (each role.Plain children) → ((declared : List ℕ) → Slotted program items (slots ++ declared))
        → Slotted program (items_of_parts (flat_declarations (trees_in children)) ++ items) slots
    unfolding each flat_declarations trees_in AreInRow AreFormed
    block_slotted Over items slots row formed stands later = subst (λ (slots : List ℕ). Slotted program items slots) (append-nil slots) (later [])
    block_slotted (Absent rest) items slots row formed stands later = subst (λ (slots : List ℕ). Slotted program items slots) (append-nil slots) (later [])
    block_slotted (Child tree rest) items slots row formed stands later =
        let behind : List Item = items_of_parts (flat_declarations (trees_in rest)) in
        subst (λ (items : List Item). Slotted program items slots)
        (sym (append_assoc (items_of_parts (declarators_in (kind_of tree) tree)) behind items) ∙ ap (λ (parts : List Item). parts ++ items)
        (sym (map-append item_of_part (declarators_in (kind_of tree) tree) (flat_declarations (trees_in rest)))))
        (flat-slotted tree (each role.Plain rest) (behind ++ items) slots row.0 formed.0 stands
        (λ declared stands. block_slotted rest items (slots ++ declared) row.1 formed.1 stands
        (λ more. subst (λ (slots : List ℕ). Slotted program items slots) (sym (append_assoc slots declared more)) (later (declared ++ more)))))

  -- the end of a block leaves the slots around it
  pub leave_slotted : (items : List Item) (slots : List ℕ) (stay : ℕ) → length slots ≡ stay → Slotted program items slots → (declared : List ℕ)
      → Slotted program (Leave stay ∷ items) (slots ++ declared)
  unfolding Slotted
  leave_slotted items slots stay is now declared = subst (λ (slots : List ℕ). Slotted program items slots) (sym (take_at slots declared stay is)) now

  -- the value of a call brings no slot
  pub value_slotted : (to : Target) (number : ℤ) (items : List Item) (slots : List ℕ) → Slotted program items slots
      → Slotted program (value_items to number ++ items) slots
  unfolding Slotted
  value_slotted target.Nowhere number items slots now = now
  value_slotted (target.Cell cell) number items slots now = now
  value_slotted target.Return number items slots now = now

  -- iterations, or the next chunk
  chosen-slotted : (more : Bool) (loop : SharedLoop) (at upto : ℕ) (items : List Item) (slots : List ℕ)
      → IsPlaced program slots (loop_of loop.construct).body → Slotted program items (take loop.names slots)
      → Slotted program ((if more then Iterations loop at upto else NextChunk loop) ∷ items) slots
  unfolding Slotted
  chosen-slotted true loop at upto items slots is now = (is, now)
  chosen-slotted false loop at upto items slots is now = (is, now)

  pub iterations_slotted : (loop : SharedLoop) (at upto : ℕ) (items : List Item) (slots : List ℕ) → IsPlaced program slots (loop_of loop.construct).body
      → Slotted program items (take loop.names slots) → Slotted program (iterations_from loop at upto ∷ items) slots
  iterations_slotted loop at upto items slots is now = chosen-slotted (nat_lt at upto) loop at upto items slots is now

  -- combining
  combining-one : (around : ℕ) (one : Listed) (copying : Copying) (items : List Item) (slots : List ℕ) → Slotted program items slots
      → Slotted program (combining_of around one copying ++ items) slots
  unfolding Slotted
  combining-one around one Private items slots now = now
  combining-one around one First items slots now = now
  combining-one around one (Reduced operator) items slots now = now

  combining-all : (around : ℕ) (listed : List Listed) (items : List Item) (slots : List ℕ) → Slotted program items slots
      → Slotted program (combining_all around listed ++ items) slots
  unfolding combining_all
  combining-all around [] items slots now = now
  combining-all around (one ∷ rest) items slots now =
      subst (λ (items : List Item). Slotted program items slots) (sym (append_assoc (combining_of around one one.copying) (combining_all around rest) items))
      (combining-one around one one.copying (combining_all around rest ++ items) slots (combining-all around rest items slots now))

  pub combines_slotted : (construct : Tree) (around : ℕ) (items : List Item) (slots : List ℕ) → Slotted program items slots
      → Slotted program (combines construct around ++ items) slots
  combines_slotted construct around items slots now = combining-all around (listed_variables construct) items slots now

  -- the cells of a construct's own
  no-loop : (shares other : Bool) → (shares || other) ≡ false → IsTrue shares → ⊥
  no-loop true other none is = absurd (cc)
  no-loop false other none is = never is

  made-slotted : (has : Bool) (construct : Tree) (items : List Item) (slots : List ℕ) → has_own_cells construct ≡ has
      → ((own : List ℕ) → HasLoopSlot program own construct → Slotted program items (slots ++ own))
      → Slotted program ((if has then MakeCells construct ∷ [] else []) ++ items) slots
  unfolding Slotted
  made-slotted true construct items slots is each = each
  made-slotted false construct items slots is each =
      subst (λ (slots : List ℕ). Slotted program items slots) (append-nil slots)
      (each [] (λ shares. absurd (no-loop (is_loop construct) (not (is_empty (listed_variables construct))) is shares)))

  pub making_slotted : (construct : Tree) (items : List Item) (slots : List ℕ)
      → ((own : List ℕ) → HasLoopSlot program own construct → Slotted program items (slots ++ own)) → Slotted program (makes_cells construct ++ items) slots
  making_slotted construct items slots each = made-slotted (has_own_cells construct) construct items slots refl each
