-- What a part of a tree does, with the declarations that it makes and the nodes that it consists of. The rules are shown over this, one by one.
use Rattle.std.specs.Prelude.{ℕ, ◌≡◌, Bool, true, false, List, [], ◌∷◌, ◌++◌, Some, None, refl}
use Rattle.std.proofs.Common.{subst, sym}
use Rattle.c_tokens.specs.declared.token.Spot.{Spot}
use Rattle.c_syntax.specs.declared.node.Directive.{Directive}
use Rattle.c_syntax.specs.declared.node.NodeKind.{NodeKind}
use Rattle.c_syntax.specs.declared.node.NodeKind.TheVariants as node
use Rattle.c_syntax.specs.declared.node.Returns.{Returns}
use Rattle.c_syntax.specs.language.Tree.{Tree, children_of, kind_of, spot_of}
use Rattle.c_check.specs.declared.acts.act.Act.{Act}
use Rattle.c_check.specs.declared.acts.act.Act.TheVariants.{Assign, Barrier, Begin, Close, Declare, End, Enter, Leave, Loop, Open, Print, Return, Use}
use Rattle.c_check.specs.declared.acts.act.Thing.{Thing}
use Rattle.c_check.specs.declared.acts.role.Role.TheVariants as role
use Rattle.c_check.specs.Acts.{acts}
use Rattle.c_check.specs.Clauses.{inside_acts}
use Rattle.c_check.specs.Loops.{has_form, loop_name}
use Rattle.c_check.specs.Statements.{shares_loop, statement_of}
use Rattle.check_laws.specs.Scopes.{Declaration, Position, Sort, behind, declared_as, positions}
use Rattle.check_laws.specs.LoopForm.{assigned_variable, is_loop_construct}
use Rattle.check_laws.specs.ListedNames.{Used, is_construct, positions_inside, used}
use Rattle.check_laws.proofs.Parts.{LoopParts, odd_acts, part_declared, position}
use Rattle.check_laws.proofs.Visible.{behind-nothing, sort_of}

-- a node that is no construct and assigns nothing
pub record IsStill (tree : Tree) : Type 0 where
  pub no_construct : is_construct (kind_of tree) ≡ false
  pub assigns_none : assigned_variable tree ≡ None

-- .. and uses no name
pub record IsPlain (tree : Tree) : Type 0 where
  pub still : IsStill tree
  pub uses_none : used tree ≡ []

pub still : (tree : Tree) → is_construct (kind_of tree) ≡ false → assigned_variable tree ≡ None → IsStill tree
still tree no_construct none = record { no_construct = no_construct; assigns_none = none }

pub plain : (tree : Tree) → is_construct (kind_of tree) ≡ false → assigned_variable tree ≡ None → used tree ≡ [] → IsPlain tree
plain tree no_construct none uses = record { still = still tree no_construct none; uses_none = uses }

pub no-loop : (kind : NodeKind) → is_construct kind ≡ false → is_loop_construct kind ≡ false
no-loop (node.Construct which) is = absurd (let no : true ≡ false = is in cc)
no-loop other is = refl

pub still-no-loop : (tree : Tree) → IsStill tree → is_loop_construct (kind_of tree) ≡ false
still-no-loop tree is = no-loop (kind_of tree) is.no_construct

-- acts that only look at where the program stands
abbrev pub is_silent : Act → Bool
is_silent (Print spot printed) = true
is_silent (Return spot returned) = true
is_silent (Barrier spot) = true
is_silent other = false

-- the uses of some names, in their order
abbrev pub IsUse : Act → Used → Type 0
IsUse (Use name spot usage) one = (name ≡ one.name) × (spot ≡ one.spot)
IsUse other one = ⊥

abbrev pub AreUses : List Act → List Used → Type 0
AreUses [] [] = Unit {0}
AreUses (act ∷ acts) (one ∷ more) = IsUse act one × AreUses acts more
AreUses acts more = ⊥

pub data Does : Bool → List Act → List Declaration → List Position → Type 0 where
  nothing : (file : Bool) → Does file [] [] []
  both : (file : Bool) (some more : List Act) (first second : List Declaration) (nodes others : List Position) → Does file some first nodes → Does file more second others
      → Does file (some ++ more) (second ++ first) (nodes ++ behind first others)
  front : (file : Bool) (acts : List Act) (made : List Declaration) (one : Position) (nodes others : List Position) → Does file acts made (nodes ++ one ∷ others) → Does file acts made (one ∷ (nodes ++ others))
  plainly : (file : Bool) (acts : List Act) (made : List Declaration) (nodes : List Position) (tree : Tree) (scope : List Declaration) → IsPlain tree → Does file acts made nodes
      → Does file acts made (record { node = tree; scope = scope } ∷ nodes)
  silent : (file : Bool) (act : Act) → is_silent act ≡ true → Does file (act ∷ []) [] []
  uses : (file : Bool) (acts : List Act) (tree : Tree) → IsStill tree → AreUses acts (used tree) → Does file acts [] (position tree ∷ [])
  assigns : (file : Bool) (name : ℕ) (tree : Tree) → is_construct (kind_of tree) ≡ false → assigned_variable tree ≡ Some name → used tree ≡ [] → Does file (Assign name ∷ []) [] (position tree ∷ [])
  declares : (file : Bool) (name : ℕ) (spot : Spot) (what : Thing) → Does file (Declare name spot what ∷ []) (declared_as (sort_of what) name) []
  scoped : (file : Bool) (acts : List Act) (made : List Declaration) (nodes : List Position) → Does file acts made nodes → Does file (Open ∷ acts ++ Close ∷ []) [] nodes
  function : (name : ℕ) (spot : Spot) (returns : Returns) (parameters : ℕ) (acts : List Act) (made : List Declaration) (nodes : List Position) → Does false acts made nodes
      → Does true (Begin name spot returns parameters ∷ acts ++ End ∷ []) (declared_as Sort.function name) (behind (declared_as Sort.function name) nodes)
  -- a construct that shares out no loop
  constructs : (me : Tree) (which : Directive) (critical : ℕ) (some : List Act) (nodes : List Position) → kind_of me ≡ node.Construct which → shares_loop which ≡ false
      → positions_inside (children_of me) ≡ nodes → Does false some [] nodes
      → Does false (Enter (spot_of me) which critical ∷ inside_acts (children_of me) ++ (some ++ Leave ∷ [])) [] (position me ∷ nodes)
  -- one that should, and whose statement is no loop with a variable
  misses : (me : Tree) (which : Directive) (critical : ℕ) (some : List Act) (nodes : List Position) → kind_of me ≡ node.Construct which → shares_loop which ≡ true
      → loop_name (statement_of (children_of me)) ≡ None → positions_inside (children_of me) ≡ nodes → Does false some [] nodes
      → Does false (Enter (spot_of me) which critical ∷ inside_acts (children_of me) ++ ((odd_acts (has_form (statement_of (children_of me))) ++ some) ++ Leave ∷ [])) [] (position me ∷ nodes)
  -- one that shares out a loop with a variable
  shares : (me : Tree) (which : Directive) (critical name : ℕ) (it : LoopParts (statement_of (children_of me))) → kind_of me ≡ node.Construct which → shares_loop which ≡ true
      → loop_name (statement_of (children_of me)) ≡ Some name
      → positions_inside (children_of me) ≡ position (statement_of (children_of me)) ∷ (it.head_nodes ++ behind (part_declared it.begins) (positions it.body))
      → Does false it.head_acts (part_declared it.begins) it.head_nodes → Does false (acts role.Plain it.body) [] (positions it.body)
      → Does false (Enter (spot_of me) which critical ∷ inside_acts (children_of me)
      ++ ((odd_acts (has_form (statement_of (children_of me))) ++ (Open ∷ (it.head_acts ++ Loop name ∷ acts role.Plain it.body) ++ Close ∷ [])) ++ Leave ∷ [])) []
      (position me ∷ (position (statement_of (children_of me)) ∷ (it.head_nodes ++ behind (part_declared it.begins) (positions it.body))))

pub does-of : (file : Bool) (some more : List Act) (made other : List Declaration) (nodes others : List Position) → some ≡ more → made ≡ other → nodes ≡ others → Does file some made nodes → Does file more other others
does-of file some more made other nodes others acts declarations positions it =
    subst (λ (acts : List Act). Does file acts other others) acts
    (subst (λ (made : List Declaration). Does file some made others) declarations (subst (λ (nodes : List Position). Does file some made nodes) positions it))

-- a node over children of which none is in a scope of its own
pub does-node : (file : Bool) (acts : List Act) (made : List Declaration) (nodes : List Position) (tree : Tree) → IsPlain tree → Does file acts made nodes
    → Does file acts made (record { node = tree; scope = [] } ∷ behind [] nodes)
does-node file acts made nodes tree plain it =
    subst (λ (nodes : List Position). Does file acts made (record { node = tree; scope = [] } ∷ nodes)) (sym (behind-nothing nodes)) (Does.plainly file acts made nodes tree [] plain it)
