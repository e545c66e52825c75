-- In a program that breaks no rule the slots of the file and of a function's parameters are those in scope where the function's block stands.
use Rattle.std.specs.Prelude.{ℕ, ◌≤◌, ◌≡◌, ◌&&◌, ◌==◌, nat_eq, nat_lt, if◌then◌else◌, Bool, true, false, IsTrue, List, [], ◌∷◌, ◌++◌, map, unwrap_or, refl}
use Rattle.std.specs.List.{All, Contains, IsAmong}
use Rattle.std.proofs.Common.{arith, ap, sym, ◌∙◌, append-nil, append_assoc, inl, inr, subst}
use Rattle.std.proofs.lemmas.Bool.{eqb-true}
use Rattle.std.proofs.lemmas.Bool.Decides.{nat_tests}
use Rattle.std.proofs.lemmas.List.Elements.{All-cons, All-head, All-nil, All-tail, Contains-append_left, Contains-append_right, Contains-push}
use Rattle.std.proofs.lemmas.List.Elements.{Contains-push_cases}
use Rattle.c_tokens.specs.declared.token.Spot.{Spot}
use Rattle.c_syntax.specs.declared.node.Returns.{Returns}
use Rattle.c_syntax.specs.declared.node.Returns.TheVariants as returns
use Rattle.c_syntax.specs.declared.node.NodeKind.{NodeKind}
use Rattle.c_syntax.specs.declared.node.NodeKind.TheVariants as node
use Rattle.c_syntax.specs.language.Tree.{Tree, Children, kind_of, name_of, spot_of}
use Rattle.c_syntax.specs.language.Tree.Tree.{Node}
use Rattle.c_syntax.specs.language.Tree.Children.{Over, Child, Absent}
use Rattle.c_syntax.specs.language.Numbered.{TreeView, root_tree}
use Rattle.c_check.specs.declared.acts.act.Act.{Act}
use Rattle.c_check.specs.declared.acts.act.Act.TheVariants.{Begin, Declare, End, Finish}
use Rattle.c_check.specs.declared.acts.act.Thing.{Thing}
use Rattle.c_check.specs.declared.acts.act.Thing.TheVariants as thing
use Rattle.c_check.specs.declared.acts.role.Role.TheVariants as role
use Rattle.c_check.specs.declared.acts.role.Naming.TheVariants as naming
use Rattle.c_check.specs.declared.fault.CheckFault.TheVariants as fault
use Rattle.c_check.specs.declared.scopes.declared.Declared.{Declared}
use Rattle.c_check.specs.Acts.{acts, each, function}
use Rattle.c_check.specs.Checked.{Checked, acts_of, after_all, here_after}
use Rattle.c_check.specs.Declarations.{next_of, with_next}
use Rattle.c_check.specs.Here.{Here, after, before_all, is_variable}
use Rattle.c_check.specs.Loops.{child_at}
use Rattle.c_check.specs.NameLists.{child_count, names}
use Rattle.c_check.specs.Rules.{is_odd_main, where_so, wrong_uses}
use Rattle.c_check.specs.Seen.{slot_at, slot_of_name}
use Rattle.c_model.specs.Parts.{flat_declarations, parts, trees_in}
use Rattle.c_model.specs.Program.{body_of, file_variables, function_among, is_function, is_function_named, parameters_of, variables_among}
use Rattle.c_model.specs.Loops.{is_declared}
use Rattle.c_model.specs.Formed.{AreFormed, AreInRow, HasChild, IsFormed, IsOver, IsProgramFormed, is_block, is_file_part, is_global, is_params}
use Rattle.c_model.proofs.ScopeActs.{after_both, unplaced}
use Rattle.c_model.proofs.ScopeNames.{contains_case}
use Rattle.c_slots.specs.OwnPlaces.{HasOwnPlaces}
use Rattle.c_slots.specs.Slotted.{Cover, IsPlaced, IsWellSlotted, StandsIn, file_slots}
use Rattle.c_slots.proofs.ActPlaces.{IsBelow, is_below, main_same}
use Rattle.c_slots.proofs.Adding.{Adds, adds_both, begun_is_below, items_add, names_add, scope_is_dropped}
use Rattle.c_slots.proofs.EntrySlots.{declared_slots}
use Rattle.c_slots.proofs.Parts.{never}
use Rattle.c_slots.proofs.Standing.{nothing_placed, stands_behind, stands_declared, stands_first, stands_wider}

-- what each of some trees is declared with is among these slots
abbrev HasSlots : TreeView → List ℕ → List Tree → Type 0
HasSlots program slots trees = (tree : Tree) → Contains trees tree → Contains slots (slot_of_name program tree)

has-first : (program : TreeView) (slots : List ℕ) (tree : Tree) (trees : List Tree) → HasSlots program slots (tree ∷ trees)
    → Contains slots (slot_of_name program tree)
has-first program slots tree trees has = has tree (Contains-append_left (tree ∷ []) trees tree (Contains-push [] tree))

has-rest : (program : TreeView) (slots : List ℕ) (front trees : List Tree) → HasSlots program slots (front ++ trees) → HasSlots program slots trees
has-rest program slots front trees has tree there = has tree (Contains-append_right front trees tree there)

has-front : (program : TreeView) (slots : List ℕ) (front trees : List Tree) → HasSlots program slots (front ++ trees) → HasSlots program slots front
has-front program slots front trees has tree there = has tree (Contains-append_left front trees tree there)

has-all : (program : TreeView) (trees : List Tree) → HasSlots program (map (slot_of_name program) trees) trees
has-all program [] tree there = absurd (omega (arith, there.1))
has-all program (first ∷ trees) tree there =
    elim (contains_case first tree trees there) [
      | inl here ↦ subst (λ (tree : Tree). Contains (slot_of_name program first ∷ map (slot_of_name program) trees) (slot_of_name program tree)) here
          (Contains-append_left (slot_of_name program first ∷ []) (map (slot_of_name program) trees) (slot_of_name program first)
          (Contains-push [] (slot_of_name program first)))
      | inr behind ↦ Contains-append_right (slot_of_name program first ∷ []) (map (slot_of_name program) trees) (slot_of_name program tree)
          (has-all program trees tree behind)
    ]

-- what is known of a function
record IsFunctionPlaced (program : TreeView) (slots : List ℕ) (tree : Tree) : Type 0 where
  body : IsPlaced program (slots ++ map (slot_of_name program) (parameters_of tree)) (body_of tree)
  main : name_of (child_at tree 0) ≡ program.main → parameters_of tree ≡ []

abbrev IfFunction : TreeView → List ℕ → Tree → Type 0
IfFunction program slots tree = IsTrue (is_function (kind_of tree)) → IsFunctionPlaced program slots tree

no-place : (places : List Spot) → ((spot : Spot) → IsAmong places spot → ⊥) → places ≡ []
no-place [] none = refl
no-place (spot ∷ places) none = absurd (none spot (0, (omega arith, refl)))

none-counted : (children : Children) → child_count children ≡ 0 → trees_in children ≡ []
unfolding child_count trees_in
none-counted Over is = refl
none-counted (Absent rest) is = refl
none-counted (Child tree rest) is = absurd (omega (arith, is))

no-parameters : (name main count : ℕ) (gives : Returns) (spot : Spot) → where_so (name == main && is_odd_main gives count) spot ≡ [] → name ≡ main → count ≡ 0
no-parameters name main count gives spot right is =
    let same : nat_eq name main ≡ true = grind (arith, nat_tests) in odd gives (rw same at right)
  where
    odd : (gives : Returns) → where_so (is_odd_main gives count) spot ≡ [] → count ≡ 0
    odd returns.Int right = let few : nat_lt 0 count ≡ false = unplaced (nat_lt 0 count) spot right in grind (arith, nat_tests)
    odd returns.Void right = absurd (cc)

module _ (program : TreeView) (own : HasOwnPlaces program) (checked : Checked program) where
  -- variables of the file
  known-behind : (slots : List ℕ) (name : ℕ) (spot : Spot) (what : Thing) (more : List Act) → Contains slots (unwrap_or (slot_at program spot) 0)
      → StandsIn program slots (Declare name spot what ∷ more) → StandsIn program slots more
  known-behind slots name spot what more there stands =
      stands_wider program (slots ++ unwrap_or (slot_at program spot) 0 ∷ []) slots more
      (λ slot is. elim (Contains-push_cases slots (unwrap_or (slot_at program spot) 0) slot is) [
        | inl front ↦ front
        | inr same ↦ subst
            (λ (slot : ℕ). Contains slots slot) same there
      ])
      (stands_declared program own slots name spot what more stands)

  globals-behind : (children : Children) (more : List Act) (slots : List ℕ) → AreInRow is_global children → HasSlots program slots (trees_in children)
      → StandsIn program slots (each role.Plain children ++ more) → StandsIn program slots more
  unfolding acts each trees_in AreInRow
  globals-behind Over more slots row has stands = stands
  globals-behind (Absent rest) more slots row has stands = stands
  globals-behind (Child (Node node.GlobalVar spot name number text below) rest) more slots row has stands =
      let tree = Node node.GlobalVar spot name number text below in
      globals-behind rest more slots row.1 (has-rest program slots (tree ∷ []) (trees_in rest) has)
      (known-behind slots name spot thing.Int (each role.Plain rest ++ more) (has-first program slots tree (trees_in rest) has) stands)
  globals-behind (Child (Node node.GlobalArray spot name number text below) rest) more slots row has stands =
      let tree = Node node.GlobalArray spot name number text below in
      globals-behind rest more slots row.1 (has-rest program slots (tree ∷ []) (trees_in rest) has)
      (known-behind slots name spot (thing.Array number) (each role.Plain rest ++ more) (has-first program slots tree (trees_in rest) has) stands)
  globals-behind (Child (Node (node.GlobalSet sign) spot name number text below) rest) more slots row has stands =
      let tree = Node (node.GlobalSet sign) spot name number text below in
      globals-behind rest more slots row.1 (has-rest program slots (tree ∷ []) (trees_in rest) has)
      (known-behind slots name spot thing.Int (each role.Plain rest ++ more) (has-first program slots tree (trees_in rest) has) stands)
  globals-behind (Child (Node other spot name number text below) rest) more slots row has stands = never row.0

  locks-behind : (children : Children) (more : List Act) (slots : List ℕ) → HasSlots program slots (trees_in children)
      → StandsIn program slots (names naming.Locks children ++ more) → StandsIn program slots more
  unfolding names trees_in
  locks-behind Over more slots has stands = stands
  locks-behind (Absent rest) more slots has stands = stands
  locks-behind (Child tree rest) more slots has stands =
      locks-behind rest more slots (has-rest program slots (tree ∷ []) (trees_in rest) has)
      (known-behind slots (name_of tree) (spot_of tree) thing.Lock (names naming.Locks rest ++ more)
      (has-first program slots tree (trees_in rest) has) stands)

  -- a function
  parameters-behind : (children : Children) (more : List Act) (slots : List ℕ) → StandsIn program slots (names naming.Parameters children ++ more)
      → StandsIn program (slots ++ map (slot_of_name program) (trees_in children)) more
  unfolding names trees_in
  parameters-behind Over more slots stands = subst (λ (slots : List ℕ). StandsIn program slots more) (sym (append-nil slots)) stands
  parameters-behind (Absent rest) more slots stands = subst (λ (slots : List ℕ). StandsIn program slots more) (sym (append-nil slots)) stands
  parameters-behind (Child tree rest) more slots stands =
      subst (λ (slots : List ℕ). StandsIn program slots more)
      (append_assoc slots (slot_of_name program tree ∷ []) (map (slot_of_name program) (trees_in rest)))
      (parameters-behind rest more (slots ++ slot_of_name program tree ∷ [])
      (stands_declared program own slots (name_of tree) (spot_of tree) thing.Int (names naming.Parameters rest ++ more) stands))

  function-covered : (slots : List ℕ) (here : Here) (name : ℕ) (gives : Returns) (count : ℕ) → Cover slots here.names.visible
      → Cover slots (with_next here.names name (thing.Function gives count)).visible
  function-covered slots here name gives count covered =
      All-cons (λ (it : Declared). IsTrue (is_variable it.thing) → Contains slots it.slot)
      (next_of here.names name (thing.Function gives count)) here.names.visible (λ is. never is) covered

  begin-behind : (slots : List ℕ) (name : ℕ) (spot : Spot) (gives : Returns) (count : ℕ) (more : List Act)
      → StandsIn program slots (Begin name spot gives count ∷ more) → StandsIn program slots more
  unfolding after_all after
  begin-behind slots name spot gives count more stands =
      stands_behind program slots slots (Begin name spot gives count ∷ []) more
      (λ before behind are covered. function-covered slots (here_after program before) name gives count covered) stands

  function-below : (here : Here) (name : ℕ) (gives : Returns) (count : ℕ) → IsBelow here.names
      → IsBelow (with_next here.names name (thing.Function gives count))
  function-below here name gives count below =
      All-cons (λ (it : Declared). it.level ≤ here.names.level) (next_of here.names name (thing.Function gives count)) here.names.visible (omega arith) below

  function-behind : (slots : List ℕ) (name : ℕ) (spot : Spot) (gives : Returns) (count : ℕ) (inner more : List Act) → Adds false inner
      → StandsIn program slots ((Begin name spot gives count ∷ inner ++ End ∷ []) ++ more) → StandsIn program slots more
  unfolding after_all after
  function-behind slots name spot gives count inner more adds stands =
      stands_behind program slots slots (Begin name spot gives count ∷ inner ++ End ∷ []) more
      (λ before behind are covered.
      let here = here_after program before in
      let scope = with_next here.names name (thing.Function gives count) in
      let begun = after here (Begin name spot gives count) in
      let below = function-below here name gives count (is_below program before) in
      let one = adds.adds begun (begun_is_below scope below) in
      subst (λ (new : Here). Cover slots new.names.visible) (sym (after_both begun inner (End ∷ [])))
      (subst (λ (visible : List Declared). Cover slots visible) (sym (scope_is_dropped false scope (after_all begun inner).names below one))
      (function-covered slots here name gives count covered)))
      stands

  right-main : (before behind : List Act) (name : ℕ) (spot : Spot) (gives : Returns) (count : ℕ)
      → acts_of program ≡ before ++ Begin name spot gives count ∷ behind → name ≡ program.main → count ≡ 0
  right-main before behind name spot gives count are is =
      let right : wrong_uses (here_after program before) (Begin name spot gives count) ≡ [] =
      no-place _ (λ place there. checked (fault.WrongUse place)
      (record { before = before; act = Begin name spot gives count; behind = behind; acts_are = are; there = there }))
      in
      no-parameters name (here_after program before).main count gives spot right (is ∙ sym (main_same (before_all program.main) before))

  -- the forms of a function, one child after another
  module _ (slots : List ℕ) (more : List Act) (gives : Returns) (spot : Spot) (other number : ℕ) (text : List ℕ) where
    abbrev IsDone : Children → Type 0
    IsDone children =
        StandsIn program slots (function gives children ++ more) → IsFunctionPlaced program slots
        (Node (node.Function gives) spot other number text children) × StandsIn program slots more

    third-child : (named : Tree) (params : NodeKind) (s1 : Spot) (n1 u1 : ℕ) (t1 : List ℕ) (parameters children : Children)
        → HasChild is_block IsOver children → AreFormed children → IsDone (Child named (Child (Node params s1 n1 u1 t1 parameters) children))
    unfolding function AreFormed IsFormed
    third-child named params s1 n1 u1 t1 parameters (Child (Node node.Block s2 n2 u2 t2 items) Over) form formed stands =
        let name = name_of named in
        let count = child_count parameters in
        let listed = names naming.Parameters parameters in
        let body = each role.Plain items in
        let rest = behind-begin name count (listed ++ body) stands in (
          record {
            body = record {
              around = role.Plain;
              formed = formed.0;
              stands = stands_first program (slots ++ map (slot_of_name program) (trees_in parameters)) body (End ∷ more)
                  (parameters-behind parameters (body ++ End ∷ more) slots
                  (subst (λ (acts : List Act). StandsIn program slots acts) (append_assoc listed body (End ∷ more)) rest));
            };
            main = λ is. none-counted parameters (right-main stands.before _ name (spot_of named) gives count stands.acts_are is);
          },
          function-behind slots name (spot_of named) gives count (listed ++ body) more
              (adds_both false listed body (names_add naming.Parameters parameters) (items_add items formed.0.0 formed.0.1)) stands,
        )
      where
        behind-begin : (name count : ℕ) (inner : List Act) → StandsIn program slots ((Begin name (spot_of named) gives count ∷ inner ++ End ∷ []) ++ more)
            → StandsIn program slots (inner ++ End ∷ more)
        behind-begin name count inner stands =
            subst (λ (acts : List Act). StandsIn program slots acts) (append_assoc inner (End ∷ []) more)
            (begin-behind slots name (spot_of named) gives count ((inner ++ End ∷ []) ++ more) stands)
    third-child named params s1 n1 u1 t1 parameters (Child (Node node.Block s2 n2 u2 t2 items) (Child tree rest)) form formed stands = absurd form.1
    third-child named params s1 n1 u1 t1 parameters (Child (Node node.Block s2 n2 u2 t2 items) (Absent rest)) form formed stands = absurd form.1
    third-child named params s1 n1 u1 t1 parameters (Child (Node kind s2 n2 u2 t2 items) rest) form formed stands = never form.0
    third-child named params s1 n1 u1 t1 parameters Over form formed stands = absurd form
    third-child named params s1 n1 u1 t1 parameters (Absent rest) form formed stands = absurd form

    second-child : (named : Tree) (children : Children) → HasChild is_params (HasChild is_block IsOver) children → AreFormed children
        → IsDone (Child named children)
    unfolding AreFormed
    second-child named (Child (Node params s1 n1 u1 t1 parameters) children) form formed stands =
        third-child named params s1 n1 u1 t1 parameters children form.1 formed.1 stands
    second-child named Over form formed stands = absurd form
    second-child named (Absent rest) form formed stands = absurd form

    first-child : (children : Children) → HasChild is_declared (HasChild is_params (HasChild is_block IsOver)) children → AreFormed children → IsDone children
    unfolding AreFormed
    first-child (Child named children) form formed stands = second-child named children form.1 formed.1 stands
    first-child Over form formed stands = absurd form
    first-child (Absent rest) form formed stands = absurd form

  -- the file as a whole
  file-placed : (children : Children) (slots : List ℕ) → AreInRow is_file_part children → AreFormed children
      → HasSlots program slots (flat_declarations (variables_among (trees_in children))) → StandsIn program slots (each role.Plain children)
      → All (IfFunction program slots) (trees_in children)
  unfolding acts each trees_in variables_among flat_declarations AreInRow AreFormed IsFormed
  file-placed Over slots row formed has stands = All-nil (IfFunction program slots)
  file-placed (Absent rest) slots row formed has stands = All-nil (IfFunction program slots)
  file-placed (Child (Node node.Include spot name number text children) rest) slots row formed has stands =
      All-cons (IfFunction program slots) (Node node.Include spot name number text children) (trees_in rest) (λ is. never is)
      (file-placed rest slots row.1 formed.1 has stands)
  file-placed (Child (Node node.Globals spot name number text children) rest) slots row formed has stands =
      let others = flat_declarations (variables_among (trees_in rest)) in
      All-cons (IfFunction program slots) (Node node.Globals spot name number text children) (trees_in rest) (λ is. never is)
      (file-placed rest slots row.1 formed.1 (has-rest program slots (trees_in children) others has)
      (globals-behind children (each role.Plain rest) slots formed.0.0 (has-front program slots (trees_in children) others has) stands))
  file-placed (Child (Node node.Locks spot name number text children) rest) slots row formed has stands =
      let others = flat_declarations (variables_among (trees_in rest)) in
      All-cons (IfFunction program slots) (Node node.Locks spot name number text children) (trees_in rest) (λ is. never is)
      (file-placed rest slots row.1 formed.1 (has-rest program slots (trees_in children) others has)
      (locks-behind children (each role.Plain rest) slots (has-front program slots (trees_in children) others has) stands))
  file-placed (Child (Node (node.Function gives) spot name number text children) rest) slots row formed has stands =
      let done = first-child slots (each role.Plain rest) gives spot name number text children formed.0.0 formed.0.1 stands in
      All-cons (IfFunction program slots) (Node (node.Function gives) spot name number text children) (trees_in rest) (λ is. done.0)
      (file-placed rest slots row.1 formed.1 has done.1)
  file-placed (Child (Node other spot name number text children) rest) slots row formed has stands = never row.0

  -- whichever function is named
  record IsNamedPlaced (slots : List ℕ) (name : ℕ) (tree : Tree) : Type 0 where
    body : IsPlaced program (slots ++ map (slot_of_name program) (parameters_of tree)) (body_of tree)
    main : name ≡ program.main → IsPlaced program slots (body_of tree)

  both-named : (is same : Bool) → (if is then same else false) ≡ true → (is ≡ true) × (same ≡ true)
  both-named true same found = (refl, found)
  both-named false same found = absurd (cc)

  chosen-placed : (slots : List ℕ) (name : ℕ) (tree other : Tree) (found : Bool) → is_function_named name tree ≡ found → IfFunction program slots tree
      → IsNamedPlaced slots name other → IsNamedPlaced slots name (if found then tree else other)
  chosen-placed slots name tree other false is known also = also
  chosen-placed slots name tree other true is known also =
      let both = both-named (is_function (kind_of tree)) (name_of (child_at tree 0) == name) is in
      let function = known both.0 in
      record {
        body = function.body;
        main = λ main. subst (λ (slots : List ℕ). IsPlaced program slots (body_of tree))
            (ap (λ (parameters : List Tree). slots ++ map (slot_of_name program) parameters)
            (function.main (eqb-true (name_of (child_at tree 0)) name both.1 ∙ main)) ∙ append-nil slots) function.body;
      }

  named-placed : (slots : List ℕ) (name : ℕ) (trees : List Tree) → All (IfFunction program slots) trees → IsNamedPlaced slots name (function_among name trees)
  unfolding function_among
  named-placed slots name [] are = record { body = nothing_placed program _; main = λ is. nothing_placed program slots }
  named-placed slots name (tree ∷ trees) are =
      chosen-placed slots name tree (function_among name trees) (is_function_named name tree) refl (All-head (IfFunction program slots) tree trees are)
      (named-placed slots name trees (All-tail (IfFunction program slots) tree trees are))

  file-has : HasSlots program (file_slots program) (flat_declarations (file_variables program))
  file-has tree there =
      subst (λ (slots : List ℕ). Contains slots (slot_of_name program tree))
      (sym (declared_slots program (flat_declarations (file_variables program)) (record { env = []; cells = [] })))
      (has-all program (flat_declarations (file_variables program)) tree there)

  root-placed : (root : Tree) → root_tree program ≡ root → kind_of root ≡ node.Program → IsFormed root
      → All (IfFunction program (file_slots program)) (parts root)
  unfolding acts IsFormed after_all
  root-placed (Node node.Program spot name number text children) is kind formed =
      file-placed children (file_slots program) formed.0 formed.1
      (subst (λ (root : Tree). HasSlots program (file_slots program) (flat_declarations (variables_among (parts root)))) is file-has)
      (record {
        before = [];
        behind = Finish program.end ∷ [];
        acts_are = ap (λ (root : Tree). acts role.Plain root ++ Finish program.end ∷ []) is;
        covered = All-nil (λ (it : Declared). IsTrue (is_variable it.thing) → Contains (file_slots program) it.slot);
      })
  root-placed (Node other spot name number text children) is kind formed = absurd (cc)

  pub well_slotted : IsProgramFormed program → IsWellSlotted program
  well_slotted formed =
      let functions = root-placed (root_tree program) refl formed.kind formed.formed in
      record {
        places = own;
        functions = λ name. (named-placed (file_slots program) name (parts (root_tree program)) functions).body;
        main = (named-placed (file_slots program) program.main (parts (root_tree program)) functions).main refl;
      }
