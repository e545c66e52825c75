-- Parts of a text that declare nothing for what stands behind them: expressions, calls, lists of names, steps, clauses.
use Rattle.std.specs.Prelude.{ℕ, ◌≡◌, Bool, true, false, List, [], ◌∷◌, ◌++◌, refl}
use Rattle.std.proofs.Common.{sym, subst, append-nil}
use Rattle.c_syntax.specs.declared.head.Head.{Head}
use Rattle.c_syntax.specs.language.Words.{Word}
use Rattle.c_syntax.specs.language.Tree.{Tree, Children, name_of, spot_of}
use Rattle.c_syntax.specs.language.Tree.Children.{Over, Child}
use Rattle.c_syntax.specs.language.Productions.{ArgumentsPart, Call, IndexPart, Lock, MoreArguments, MoreNames, Names, Operand, Place, Ranked, Value, kids, name_node}
use Rattle.c_tokens.specs.declared.token.Spot.{Spot}
use Rattle.c_check.specs.declared.acts.act.Act.{Act}
use Rattle.c_check.specs.declared.acts.act.Act.TheVariants.{Use}
use Rattle.c_check.specs.declared.acts.act.Usage.{Usage}
use Rattle.c_check.specs.declared.acts.role.Role.{Role}
use Rattle.c_check.specs.declared.acts.role.Role.TheVariants as role
use Rattle.c_check.specs.declared.acts.role.Naming.{Naming}
use Rattle.c_check.specs.declared.acts.role.Naming.TheVariants as naming
use Rattle.c_check.specs.Acts.{acts, each}
use Rattle.c_check.specs.NameLists.{named, names}
use Rattle.c_check.specs.Usages.{assigned}
use Rattle.check_laws.specs.Scopes.{Declaration, Position, behind, declared, positions, positions_among}
use Rattle.check_laws.specs.ListedNames.{each_used, used}
use Rattle.check_laws.proofs.Does.{AreUses, Does, IsStill, IsUse, does-node, does-of, is_silent, plain, still}
use Rattle.check_laws.proofs.Parts.{position}

-- a part that declares nothing
pub record Quiet (around : Role) (tree : Tree) : Type 0 where
  pub does : Does false (acts around tree) [] (positions tree)
  pub none : declared tree ≡ []

pub record Row (around : Role) (children : Children) : Type 0 where
  pub does : Does false (each around children) [] (positions_among children)

pub row-end : (around : Role) → Row around Over
unfolding each positions_among
row-end around = record { does = Does.nothing false }

pub row-then : {around : Role} {tree : Tree} {rest : Children} → Quiet around tree → Row around rest → Row around (Child tree rest)
unfolding each positions_among
row-then {around} {tree} {rest} first more =
    let both = Does.both false (acts around tree) (each around rest) [] [] (positions tree) (positions_among rest) first.does more.does in
    record { does = subst (λ (scope : List Declaration). Does false (acts around tree ++ each around rest) [] (positions tree ++ behind scope (positions_among rest))) (sym first.none) both }

-- a node that uses a name, over what follows the use
pub use-node : {some : List Act} {nodes : List Position} (name : ℕ) (spot : Spot) (usage : Usage) (tree : Tree) → IsStill tree → used tree ≡ record { name = name; spot = spot } ∷ []
    → Does false some [] nodes → Does false (Use name spot usage ∷ some) [] (position tree ∷ behind [] nodes)
use-node {some} {nodes} name spot usage tree still uses more =
    Does.both false (Use name spot usage ∷ []) some [] [] (position tree ∷ []) nodes
    (Does.uses false (Use name spot usage ∷ []) tree still (subst (AreUses (Use name spot usage ∷ [])) (sym uses) ((refl, refl), tt))) more

pub then-silent : {some : List Act} {nodes : List Position} (act : Act) → is_silent act ≡ true → Does false some [] nodes → Does false (some ++ act ∷ []) [] nodes
then-silent {some} {nodes} act silent first =
    let both = Does.both false some (act ∷ []) [] [] nodes [] first (Does.silent false act silent) in
    does-of false (some ++ act ∷ []) (some ++ act ∷ []) [] [] (nodes ++ []) nodes refl refl (append-nil nodes) both

abbrev pub is_target : Role → Bool
is_target role.Target = true
is_target other = false

assigned-none : (around : Role) (used : Usage) (name : ℕ) → is_target around ≡ false → assigned around used name ≡ []
assigned-none role.Target used name calm = absurd (let wrong : true ≡ false = calm in cc)
assigned-none role.Plain used name calm = refl
assigned-none role.Used used name calm = refl
assigned-none (role.Looped loop) used name calm = refl

-- expressions
mutual
  unfolding acts each positions positions_among declared

  pub ranked : {limit rank depth : ℕ} {at : Head} {words rest : List Word} {tree : Tree} → Ranked limit rank depth at words rest tree → (around : Role) → is_target around ≡ false → Quiet around tree
  ranked (Ranked.operand one) around calm = operand one around calm
  ranked (Ranked.above less one) around calm = ranked one around calm
  ranked (Ranked.joined operator left sign right) around calm = record {
    does = does-node false _ [] _ _ (plain _ refl refl refl) (row-then (ranked left role.Plain refl) (row-then (ranked right role.Plain refl) (row-end role.Plain))).does;
    none = refl;
  }

  pub operand : {limit depth : ℕ} {at : Head} {words rest : List Word} {tree : Tree} → Operand limit depth at words rest tree → (around : Role) → is_target around ≡ false → Quiet around tree
  operand (Operand.signed operator sign deep one) around calm = record {
    does = does-node false _ [] _ _ (plain _ refl refl refl) (row-then (operand one role.Plain refl) (row-end role.Plain)).does;
    none = refl;
  }
  operand (Operand.number is) around calm = record { does = does-node false [] [] [] _ (plain _ refl refl refl) (Does.nothing false); none = refl }
  operand (Operand.placed one) around calm = place one around calm
  operand (Operand.parenthesis first deep one last) around calm = record {
    does = does-node false _ [] _ _ (plain _ refl refl refl) (row-then (ranked one role.Plain refl) (row-end role.Plain)).does;
    none = refl;
  }
  operand (Operand.getter which is first last) around calm = record { does = does-node false [] [] [] _ (plain _ refl refl refl) (Does.nothing false); none = refl }

  pub place : {limit depth : ℕ} {at : Head} {words rest : List Word} {tree : Tree} → Place limit depth at words rest tree → (around : Role) → is_target around ≡ false → Quiet around tree
  place (Place.place {word = word} {children = children} is index) around calm = record {
    does = use-node word.value word.spot _ _ (still _ refl refl) refl
        (subst (λ (some : List Act). Does false (some ++ each role.Plain children) [] (positions_among children)) (sym (assigned-none around _ word.value calm)) (index_part index).does);
    none = refl;
  }

  pub index_part : {limit depth : ℕ} {at : Head} {words rest : List Word} {children : Children} → IndexPart limit depth at words rest children → Row role.Plain children
  index_part IndexPart.bare = row-end role.Plain
  index_part (IndexPart.indexed first deep one last) = row-then (ranked one role.Plain refl) (row-end role.Plain)

-- calls
pub more_arguments : {limit depth : ℕ} {words rest : List Word} {trees : List Tree} → MoreArguments limit depth words rest trees → Row role.Plain (kids trees)
more_arguments MoreArguments.last = row-end role.Plain
more_arguments (MoreArguments.further comma one more) = row-then (ranked one role.Plain refl) (more_arguments more)

pub arguments_part : {limit depth : ℕ} {words rest : List Word} {trees : List Tree} → ArgumentsPart limit depth words rest trees → Row role.Plain (kids trees)
arguments_part ArgumentsPart.none = row-end role.Plain
arguments_part (ArgumentsPart.some one more) = row-then (ranked one role.Plain refl) (more_arguments more)

-- names that are used
abbrev pub uses : Naming → Bool
uses naming.Locked = true
uses (naming.Mentioned which) = true
uses other = false

named-use : (why : Naming) (tree : Tree) → uses why ≡ true → IsUse (named why tree) (record { name = name_of tree; spot = spot_of tree })
named-use naming.Locked tree is = (refl, refl)
named-use (naming.Mentioned which) tree is = (refl, refl)
named-use naming.Parameters tree is = absurd (let wrong : false ≡ true = is in cc)
named-use naming.Locks tree is = absurd (let wrong : false ≡ true = is in cc)
named-use (naming.Listed which) tree is = absurd (let wrong : false ≡ true = is in cc)

names-use : (why : Naming) (trees : List Tree) → uses why ≡ true → AreUses (names why (kids trees)) (each_used (kids trees))
unfolding names each_used
names-use why [] is = tt
names-use why (tree ∷ trees) is = (named-use why tree is, names-use why trees is)

-- the nodes of a list of names do nothing themselves
name-nodes : (word : Word) (trees : List Tree) → Does false [] [] (positions_among (kids trees)) → Does false [] [] (positions_among (kids (name_node word ∷ trees)))
unfolding positions positions_among declared
name-nodes word trees more =
    Does.both false [] [] [] [] (positions (name_node word)) (positions_among (kids trees)) (does-node false [] [] [] (name_node word) (plain _ refl refl refl) (Does.nothing false)) more

no-names : Does false [] [] (positions_among Over)
unfolding positions_among
no-names = Does.nothing false

more_names : {at : Head} {words rest : List Word} {trees : List Tree} → MoreNames at words rest trees → Does false [] [] (positions_among (kids trees))
more_names MoreNames.last = no-names
more_names (MoreNames.further {word = word} {trees = trees} comma named more) = name-nodes word trees (more_names more)

-- a node that uses the names that it is over
names-node : (why : Naming) (trees : List Tree) (tree : Tree) → uses why ≡ true → IsStill tree → used tree ≡ each_used (kids trees) → Does false [] [] (positions_among (kids trees))
    → Does false (names why (kids trees)) [] (position tree ∷ behind [] (positions_among (kids trees)))
names-node why trees tree is still uses nodes =
    does-of false (names why (kids trees) ++ []) (names why (kids trees)) [] [] _ _ (append-nil (names why (kids trees))) refl refl
    (Does.both false (names why (kids trees)) [] [] [] (position tree ∷ []) (positions_among (kids trees))
    (Does.uses false (names why (kids trees)) tree still (subst (AreUses (names why (kids trees))) (sym uses) (names-use why trees is))) nodes)

pub names_of : {at : Head} {words rest : List Word} {trees : List Tree} → Names at words rest trees → (why : Naming) → uses why ≡ true → (tree : Tree) → IsStill tree → used tree ≡ each_used (kids trees)
    → Does false (names why (kids trees)) [] (position tree ∷ behind [] (positions_among (kids trees)))
names_of (Names.names {word = word} {trees = trees} named more) why is tree still uses = names-node why (name_node word ∷ trees) tree is still uses (name-nodes word trees (more_names more))

pub lock_of : {words rest : List Word} {one : Tree} → Lock words rest one → (tree : Tree) → IsStill tree → used tree ≡ each_used (kids (one ∷ []))
    → Does false (names naming.Locked (kids (one ∷ []))) [] (position tree ∷ behind [] (positions_among (kids (one ∷ []))))
lock_of (Lock.lock {word = word} first second is last) tree still uses = names-node naming.Locked (name_node word ∷ []) tree refl still uses (name-nodes word [] no-names)

pub call_of : {limit depth : ℕ} {words rest : List Word} {tree : Tree} → Call limit depth words rest tree → (around : Role) → Quiet around tree
unfolding acts positions declared
call_of (Call.call {word = word} is first arguments last) around = record {
  does = use-node word.value word.spot _ _ (still _ refl refl) refl (arguments_part arguments).does;
  none = refl;
}
call_of (Call.test is locked) around = record { does = lock_of locked _ (still _ refl refl) refl; none = refl }

pub value_of : {limit depth : ℕ} {words rest : List Word} {tree : Tree} → Value limit depth words rest tree → (around : Role) → is_target around ≡ false → Quiet around tree
value_of (Value.expression one) around calm = ranked one around calm
value_of (Value.called one) around calm = call_of one around
