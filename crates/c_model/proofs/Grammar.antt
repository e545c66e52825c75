-- Each rule of the grammar makes nodes that have their forms.
use Rattle.std.specs.Prelude.{ℕ, ◌≡◌, Bool, true, false, IsTrue, List, [], ◌∷◌, ◌++◌, Option, Some, None, refl}
use Rattle.std.proofs.Common.{sym, append_assoc, subst}
use Rattle.c_tokens.specs.declared.token.Spot.{Spot}
use Rattle.c_syntax.specs.declared.node.Setting.{Setting}
use Rattle.c_syntax.specs.declared.node.Bump.{Bump}
use Rattle.c_syntax.specs.declared.node.Side.{Side}
use Rattle.c_syntax.specs.declared.node.BinaryOp.{BinaryOp}
use Rattle.c_syntax.specs.declared.node.NodeKind.{NodeKind}
use Rattle.c_syntax.specs.declared.node.NodeKind.TheVariants as node
use Rattle.c_syntax.specs.declared.grammar.Sort.{Sort}
use Rattle.c_syntax.specs.declared.grammar.Sort.TheVariants as sort
use Rattle.c_syntax.specs.declared.grammar.Step.{Step}
use Rattle.c_syntax.specs.declared.grammar.Step.TheVariants.{Expect, Deepen, Rise, Take, InHead, Read, Open, Make, Join, Wrap, Skip}
use Rattle.c_syntax.specs.language.Words.{Word}
use Rattle.c_syntax.specs.language.Tree.{Tree, Children, before, children_from, kind_of, over_one, over_two}
use Rattle.c_syntax.specs.language.Tree.Children.{Over, Child}
use Rattle.c_syntax.specs.workings.Derivation.{Opened, closed, joined, kept, made, opened_at, result_of, skipped, with_child, wrapped}
use Rattle.c_check.specs.Loops.{is_place}
use Rattle.c_model.specs.Loops.{is_declared}
use Rattle.c_model.specs.Formed.{AreFormed, AreInRow, HasForm, IsFormed, IsOver, is_block, is_construct_part, is_file_part, is_first_part, is_global, is_local, is_params, is_part, is_quiet}

abbrev pub is_program : NodeKind → Bool
is_program node.Program = true
is_program other = false

abbrev pub is_locks : NodeKind → Bool
is_locks node.Locks = true
is_locks other = false

abbrev pub is_locals : NodeKind → Bool
is_locals node.Locals = true
is_locals other = false

abbrev pub is_any : NodeKind → Bool
is_any kind = true

pub never : {A : Type 0} → IsTrue false → A
never is = absurd (cc)

-- children that were read, the last one first
unfoldable pub AllIn : (NodeKind → Bool) → List (Option Tree) → Type 0
AllIn test [] = Unit {0}
AllIn test (None ∷ older) = ⊥
AllIn test (Some tree ∷ older) = (IsTrue (test (kind_of tree)) × IsFormed tree) × AllIn test older

abbrev pub IsOptional : (NodeKind → Bool) → Option Tree → Type 0
IsOptional test None = Unit {0}
IsOptional test (Some tree) = IsTrue (test (kind_of tree)) × IsFormed tree

-- What a sort of text does to the nodes that are open, where this is wanted behind it: it reads one child of these kinds, one or none, any number, it
-- makes a child of the node that has just begun, or another one of the last child.
abbrev pub Pushes : (NodeKind → Bool) → List Opened → (List Opened → Type 0) → Type 0
Pushes test [] wanted = ⊥
Pushes test (top ∷ outer) wanted = (tree : Tree) → IsTrue (test (kind_of tree)) → IsFormed tree → wanted (with_child (Some tree) top ∷ outer)

abbrev pub PushesIfAny : (NodeKind → Bool) → List Opened → (List Opened → Type 0) → Type 0
PushesIfAny test [] wanted = ⊥
PushesIfAny test (top ∷ outer) wanted = (child : Option Tree) → IsOptional test child → wanted (with_child child top ∷ outer)

abbrev pub PushesMany : (NodeKind → Bool) → List Opened → (List Opened → Type 0) → Type 0
PushesMany test [] wanted = ⊥
PushesMany test (top ∷ outer) wanted = (children : List (Option Tree)) → AllIn test children → wanted (record top { children = children ++ top.children } ∷ outer)

abbrev pub Closes : (NodeKind → Bool) → List Opened → (List Opened → Type 0) → Type 0
Closes test [] wanted = ⊥
Closes test (top ∷ outer) wanted = (top.children ≡ []) × Pushes test outer wanted

abbrev pub TurnsAt : (NodeKind → Bool) → List (Option Tree) → Opened → List Opened → (List Opened → Type 0) → Type 0
TurnsAt test (Some last ∷ older) top outer wanted =
    IsTrue (test (kind_of last)) × IsFormed last × ((tree : Tree) → IsTrue (is_quiet (kind_of tree)) → IsFormed tree → wanted (record top { children = Some tree ∷ older } ∷ outer))
TurnsAt test other top outer wanted = ⊥

abbrev pub Turns : (NodeKind → Bool) → List Opened → (List Opened → Type 0) → Type 0
Turns test [] wanted = ⊥
Turns test (top ∷ outer) wanted = TurnsAt test top.children top outer wanted

abbrev pub ClosesAndTurns : List Opened → (List Opened → Type 0) → Type 0
ClosesAndTurns [] wanted = ⊥
ClosesAndTurns (top ∷ outer) wanted = (top.children ≡ []) × Turns is_place outer wanted

abbrev pub ClosesTwo : List Opened → (List Opened → Type 0) → Type 0
ClosesTwo (top ∷ next ∷ outer) wanted = (top.children ≡ []) × (next.children ≡ []) × Pushes is_file_part outer wanted
ClosesTwo other wanted = ⊥

abbrev pub Reads : Sort → List Opened → (List Opened → Type 0) → Type 0
Reads sort.Program nodes wanted = Pushes is_program nodes wanted
Reads sort.Globals nodes wanted = PushesMany is_file_part nodes wanted
Reads sort.AfterIntName nodes wanted = ClosesTwo nodes wanted
Reads sort.Body nodes wanted = Pushes is_params nodes (λ nodes. Pushes is_block nodes wanted)
Reads sort.Params nodes wanted = Pushes is_params nodes wanted
Reads sort.MoreParams nodes wanted = PushesMany is_declared nodes wanted
Reads sort.GlobalRest nodes wanted = Closes is_global nodes wanted
Reads sort.Initial nodes wanted = Closes is_global nodes wanted
Reads sort.MoreGlobals nodes wanted = PushesMany is_global nodes wanted
Reads sort.Locks nodes wanted = Pushes is_locks nodes wanted
Reads sort.MoreLocks nodes wanted = PushesMany is_declared nodes wanted
Reads sort.Block nodes wanted = Pushes is_block nodes wanted
Reads sort.Items nodes wanted = PushesMany is_part nodes wanted
Reads sort.Locals nodes wanted = Pushes is_locals nodes wanted
Reads sort.LocalRest nodes wanted = Closes is_local nodes wanted
Reads sort.MoreLocals nodes wanted = PushesMany is_local nodes wanted
Reads sort.AfterRightName nodes wanted = Closes is_quiet nodes wanted
Reads sort.AfterStatementName nodes wanted = Closes is_quiet nodes wanted
Reads sort.AfterPlace nodes wanted = Turns is_place nodes wanted
Reads sort.AssignRight nodes wanted = Turns is_place nodes wanted
Reads sort.AfterAssignName nodes wanted = ClosesAndTurns nodes wanted
Reads sort.Place nodes wanted = Pushes is_place nodes wanted
Reads sort.Args nodes wanted = PushesMany is_quiet nodes wanted
Reads sort.MoreArgs nodes wanted = PushesMany is_quiet nodes wanted
Reads sort.ElsePart nodes wanted = PushesIfAny is_quiet nodes wanted
Reads sort.InitPart nodes wanted = PushesIfAny is_first_part nodes wanted
Reads sort.CondPart nodes wanted = PushesIfAny is_quiet nodes wanted
Reads sort.StepPart nodes wanted = PushesIfAny is_quiet nodes wanted
Reads sort.StepRest nodes wanted = Turns is_place nodes wanted
Reads sort.ReturnPart nodes wanted = PushesMany is_quiet nodes wanted
Reads sort.OrTail nodes wanted = Turns is_quiet nodes wanted
Reads sort.AndTail nodes wanted = Turns is_quiet nodes wanted
Reads sort.EqualTail nodes wanted = Turns is_quiet nodes wanted
Reads sort.RelTail nodes wanted = Turns is_quiet nodes wanted
Reads sort.SumTail nodes wanted = Turns is_quiet nodes wanted
Reads sort.ProdTail nodes wanted = Turns is_quiet nodes wanted
Reads sort.IndexPart nodes wanted = PushesMany is_quiet nodes wanted
Reads (sort.AfterGetter which) nodes wanted = Closes is_quiet nodes wanted
Reads sort.ItemDirective nodes wanted = Closes is_quiet nodes wanted
Reads sort.Construct nodes wanted = Closes is_quiet nodes wanted
Reads (sort.Behind directive) nodes wanted = Closes is_quiet nodes wanted
Reads sort.AfterParallel nodes wanted = Closes is_quiet nodes wanted
Reads sort.CriticalName nodes wanted = PushesMany is_construct_part nodes wanted
Reads sort.SectionsBody nodes wanted = PushesMany is_construct_part nodes wanted
Reads sort.SectionOrConstruct nodes wanted = Closes is_quiet nodes wanted
Reads sort.MoreSections nodes wanted = PushesMany is_construct_part nodes wanted
Reads (sort.Clauses directive) nodes wanted = PushesMany is_construct_part nodes wanted
Reads (sort.Clause directive) nodes wanted = Pushes is_any nodes wanted
Reads sort.DefaultWord nodes wanted = Closes is_any nodes wanted
Reads sort.Operator nodes wanted = Closes is_any nodes wanted
Reads sort.Kind nodes wanted = Closes is_any nodes wanted
Reads sort.ChunkPart nodes wanted = PushesMany is_any nodes wanted
Reads sort.Names nodes wanted = PushesMany is_any nodes wanted
Reads sort.MoreNames nodes wanted = PushesMany is_any nodes wanted
Reads other nodes wanted = Pushes is_quiet nodes wanted

-- the tree of a program
pub record IsGood (tree : Tree) : Type 0 where
  pub kind : kind_of tree ≡ node.Program
  pub formed : IsFormed tree

-- these steps lead from these nodes to the tree of a program
unfoldable pub Leads : List Step → List Opened → Type 0
Leads [] nodes = IsGood (result_of nodes)
Leads (Expect term ∷ steps) nodes = Leads steps nodes
Leads (Deepen term ∷ steps) nodes = Leads steps nodes
Leads (Rise ∷ steps) nodes = Leads steps nodes
Leads (Take which ∷ steps) nodes = (word : Word) → Leads steps (kept which word nodes)
Leads (InHead ∷ steps) nodes = Leads steps nodes
Leads (Read what ∷ steps) nodes = Reads what nodes (Leads steps)
Leads (Open ∷ steps) nodes = (spot : Spot) → Leads steps (opened_at spot ∷ nodes)
Leads (Make kind ∷ steps) nodes = Leads steps (made kind nodes)
Leads (Join kind ∷ steps) nodes = Leads steps (joined kind nodes)
Leads (Wrap kind ∷ steps) nodes = Leads steps (wrapped kind nodes)
Leads (Skip ∷ steps) nodes = Leads steps (skipped nodes)

-- lists of children
pub all_append : (test : NodeKind → Bool) (some older : List (Option Tree)) → AllIn test some → AllIn test older → AllIn test (some ++ older)
unfolding AllIn
all_append test [] older all also = also
all_append test (None ∷ some) older all also = absurd all
all_append test (Some tree ∷ some) older all also = (all.0, all_append test some older all.1 also)

pub all_fresh : (test : NodeKind → Bool) (children : List (Option Tree)) → children ≡ [] → AllIn test children
unfolding AllIn
all_fresh test children fresh = subst (AllIn test) (sym fresh) tt

row_before : (test : NodeKind → Bool) (children : List (Option Tree)) (rest : Children) → AllIn test children → AreInRow test rest → AreFormed rest → AreInRow test (before children rest) × AreFormed (before children rest)
unfolding AllIn AreInRow AreFormed
row_before test [] rest all row formed = (row, formed)
row_before test (None ∷ older) rest all row formed = absurd all
row_before test (Some tree ∷ older) rest all row formed = row_before test older (Child tree rest) all.1 (all.0.0, row) (all.0.1, formed)

pub rows : (test : NodeKind → Bool) (some older : List (Option Tree)) → AllIn test some → AllIn test older → AreInRow test (children_from (some ++ older)) × AreFormed (children_from (some ++ older))
unfolding AreInRow AreFormed
rows test some older all also = row_before test (some ++ older) Over (all_append test some older all also) tt tt

pub fresh_over : (children : List (Option Tree)) → children ≡ [] → IsOver (children_from children) × AreFormed (children_from children)
unfolding AreFormed
fresh_over children fresh = subst (λ (children : List (Option Tree)). IsOver (children_from children) × AreFormed (children_from children)) (sym fresh) (tt, tt)

-- a node is over
module _ (test : NodeKind → Bool) where
  pub closing : (kind : NodeKind) (top : Opened) (nodes : List Opened) (wanted : List Opened → Type 0) → Pushes test nodes wanted → IsTrue (test kind) → HasForm kind (children_from top.children) → AreFormed (children_from top.children) → wanted (made kind (top ∷ nodes))
  unfolding IsFormed
  closing kind top [] wanted each is form formed = absurd each
  closing kind top (parent ∷ outer) wanted each is form formed = each (closed kind top) is (form, formed)

  pub weaker : (one : NodeKind → Bool) → ((kind : NodeKind) → IsTrue (one kind) → IsTrue (test kind)) → (nodes : List Opened) (wanted : List Opened → Type 0) → Pushes test nodes wanted → Pushes one nodes wanted
  weaker one each [] wanted pushes = pushes
  weaker one each (top ∷ outer) wanted pushes = λ tree is formed. pushes tree (each (kind_of tree) is) formed

  pub pushes_map : (nodes : List Opened) (some wanted : List Opened → Type 0) → ((nodes : List Opened) → some nodes → wanted nodes) → Pushes test nodes some → Pushes test nodes wanted
  pushes_map [] some wanted each pushes = pushes
  pushes_map (top ∷ outer) some wanted each pushes = λ tree is formed. each _ (pushes tree is formed)

  pub many_end : (nodes : List Opened) (wanted : List Opened → Type 0) → PushesMany test nodes wanted → wanted nodes
  unfolding AllIn
  many_end [] wanted many = absurd many
  many_end (top ∷ outer) wanted many = many [] tt

  pub many_one : (one : NodeKind → Bool) → ((kind : NodeKind) → IsTrue (one kind) → IsTrue (test kind)) → (nodes : List Opened) (wanted : List Opened → Type 0) → PushesMany test nodes wanted → Pushes one nodes (λ nodes. PushesMany test nodes wanted)
  unfolding AllIn
  many_one one each [] wanted many = many
  many_one one each (top ∷ outer) wanted many = λ tree is formed children all.
      subst (λ (children : List (Option Tree)). wanted (record top { children = children } ∷ outer)) (append_assoc children (Some tree ∷ []) top.children)
      (many (children ++ Some tree ∷ []) (all_append test children (Some tree ∷ []) all ((each (kind_of tree) is, formed), tt)))

  pub many_single : (one : NodeKind → Bool) → ((kind : NodeKind) → IsTrue (one kind) → IsTrue (test kind)) → (nodes : List Opened) (wanted : List Opened → Type 0) → PushesMany test nodes wanted → Pushes one nodes wanted
  unfolding AllIn
  many_single one each [] wanted many = many
  many_single one each (top ∷ outer) wanted many = λ tree is formed. many (Some tree ∷ []) ((each (kind_of tree) is, formed), tt)

  pub optional_some : (nodes : List Opened) (wanted : List Opened → Type 0) → PushesIfAny test nodes wanted → Pushes test nodes wanted
  optional_some [] wanted each = each
  optional_some (top ∷ outer) wanted each = λ tree is formed. each (Some tree) (is, formed)

  pub optional_none : (nodes : List Opened) (wanted : List Opened → Type 0) → PushesIfAny test nodes wanted → wanted (skipped nodes)
  optional_none [] wanted each = absurd each
  optional_none (top ∷ outer) wanted each = each None tt

  -- the last child is another one
  pub turning : (nodes : List Opened) (wanted : List Opened → Type 0) → Pushes is_quiet nodes wanted → Pushes test nodes (λ nodes. Turns test nodes wanted)
  turning [] wanted pushes = pushes
  turning (top ∷ outer) wanted pushes = λ tree is formed. (is, formed, λ other also formed. pushes other also formed)

  pub wrapping : (one : NodeKind → Bool) (kind : NodeKind) → ((tree : Tree) → IsTrue (one (kind_of tree)) → HasForm kind (Child tree Over)) → IsTrue (test kind) → (nodes : List Opened) (wanted : List Opened → Type 0) → Pushes test nodes wanted → Pushes one nodes (λ nodes. wanted (wrapped kind nodes))
  unfolding IsFormed AreFormed
  wrapping one kind form is [] wanted pushes = pushes
  wrapping one kind form is (top ∷ outer) wanted pushes = λ tree also formed. pushes (over_one kind tree) is (form tree also, (formed, tt))

  joining_at : (kind : NodeKind) → IsTrue (is_quiet kind) → ((left right : Tree) → IsTrue (test (kind_of left)) → IsTrue (is_quiet (kind_of right)) → HasForm kind (Child left (Child right Over)))
      → (spot : Spot) (name number : ℕ) (text : List ℕ) (children : List (Option Tree)) (outer : List Opened) (wanted : List Opened → Type 0)
      → TurnsAt test children (record { spot = spot; name = name; number = number; text = text; children = children }) outer wanted
      → Pushes is_quiet (record { spot = spot; name = name; number = number; text = text; children = children } ∷ outer) (λ nodes. wanted (joined kind nodes))
  unfolding IsFormed AreFormed
  joining_at kind is form spot name number text (Some left ∷ older) outer wanted turns = λ right also formed. turns.2 (over_two kind left right) is (form left right turns.0 also, (turns.1, (formed, tt)))
  joining_at kind is form spot name number text (None ∷ older) outer wanted turns = absurd turns
  joining_at kind is form spot name number text [] outer wanted turns = absurd turns

  pub joining : (kind : NodeKind) → IsTrue (is_quiet kind) → ((left right : Tree) → IsTrue (test (kind_of left)) → IsTrue (is_quiet (kind_of right)) → HasForm kind (Child left (Child right Over)))
      → (nodes : List Opened) (wanted : List Opened → Type 0) → Turns test nodes wanted → Pushes is_quiet nodes (λ nodes. wanted (joined kind nodes))
  joining kind is form [] wanted turns = turns
  joining kind is form (top ∷ outer) wanted turns = joining_at kind is form top.spot top.name top.number top.text top.children outer wanted turns

turn_at : (kind : NodeKind) → IsTrue (is_quiet kind) → ((left right : Tree) → IsTrue (is_quiet (kind_of left)) → IsTrue (is_quiet (kind_of right)) → HasForm kind (Child left (Child right Over)))
    → (spot : Spot) (name number : ℕ) (text : List ℕ) (children : List (Option Tree)) (outer : List Opened) (wanted : List Opened → Type 0)
    → TurnsAt is_quiet children (record { spot = spot; name = name; number = number; text = text; children = children }) outer wanted
    → Pushes is_quiet (record { spot = spot; name = name; number = number; text = text; children = children } ∷ outer) (λ nodes. Turns is_quiet (joined kind nodes) wanted)
unfolding IsFormed AreFormed
turn_at kind is form spot name number text (Some left ∷ older) outer wanted turns = λ right also formed. (is, (form left right turns.0 also, (turns.1, (formed, tt))), turns.2)
turn_at kind is form spot name number text (None ∷ older) outer wanted turns = absurd turns
turn_at kind is form spot name number text [] outer wanted turns = absurd turns

-- one operator more
pub operating : (operator : BinaryOp) (nodes : List Opened) (wanted : List Opened → Type 0) → Turns is_quiet nodes wanted → Pushes is_quiet nodes (λ nodes. Turns is_quiet (joined (node.Binary operator) nodes) wanted)
operating operator [] wanted turns = turns
operating operator (top ∷ outer) wanted turns =
    turn_at (node.Binary operator) refl (λ left right is also. (is, (also, tt))) top.spot top.name top.number top.text top.children outer wanted turns

end_at : (spot : Spot) (name number : ℕ) (text : List ℕ) (children : List (Option Tree)) (outer : List Opened) (wanted : List Opened → Type 0) → TurnsAt is_quiet children (record { spot = spot; name = name; number = number; text = text; children = children }) outer wanted
    → wanted (record { spot = spot; name = name; number = number; text = text; children = children } ∷ outer)
end_at spot name number text (Some last ∷ older) outer wanted turns = turns.2 last turns.0 turns.1
end_at spot name number text (None ∷ older) outer wanted turns = absurd turns
end_at spot name number text [] outer wanted turns = absurd turns

pub turn_end : (nodes : List Opened) (wanted : List Opened → Type 0) → Turns is_quiet nodes wanted → wanted nodes
turn_end [] wanted turns = absurd turns
turn_end (top ∷ outer) wanted turns = end_at top.spot top.name top.number top.text top.children outer wanted turns

-- assignments and bumps
pub assigning : (which : Setting) (nodes : List Opened) (wanted : List Opened → Type 0) → Turns is_place nodes wanted → Pushes is_quiet nodes (λ nodes. wanted (joined (node.Assign which) nodes))
assigning which nodes wanted turns = joining is_place (node.Assign which) refl (λ left right is also. (is, (also, tt))) nodes wanted turns

pub step_turns : (nodes : List Opened) (wanted : List Opened → Type 0) → Turns is_place nodes wanted → Turns is_place nodes (λ nodes. wanted (wrapped node.Step nodes))
unfolding IsFormed AreFormed
step_turns [] wanted turns = turns
step_turns (top ∷ outer) wanted turns = at top.spot top.name top.number top.text top.children turns
  where
    at : (spot : Spot) (name number : ℕ) (text : List ℕ) (children : List (Option Tree)) → TurnsAt is_place children (record { spot = spot; name = name; number = number; text = text; children = children }) outer wanted
        → TurnsAt is_place children (record { spot = spot; name = name; number = number; text = text; children = children }) outer (λ nodes. wanted (wrapped node.Step nodes))
    at spot name number text (Some last ∷ older) turns = (turns.0, turns.1, λ tree is formed. turns.2 (over_one node.Step tree) refl ((is, tt), (formed, tt)))
    at spot name number text (None ∷ older) turns = absurd turns
    at spot name number text [] turns = absurd turns

pub bumping : (which : Bump) (side : Side) (nodes : List Opened) (wanted : List Opened → Type 0) → Turns is_place nodes wanted → wanted (wrapped (node.Bump which side) nodes)
unfolding IsFormed AreFormed
bumping which side [] wanted turns = absurd turns
bumping which side (top ∷ outer) wanted turns = at top.spot top.name top.number top.text top.children turns
  where
    at : (spot : Spot) (name number : ℕ) (text : List ℕ) (children : List (Option Tree)) → TurnsAt is_place children (record { spot = spot; name = name; number = number; text = text; children = children }) outer wanted
        → wanted (wrapped (node.Bump which side) (record { spot = spot; name = name; number = number; text = text; children = children } ∷ outer))
    at spot name number text (Some last ∷ older) turns = turns.2 (over_one (node.Bump which side) last) refl ((turns.0, tt), (turns.1, tt))
    at spot name number text (None ∷ older) turns = absurd turns
    at spot name number text [] turns = absurd turns
