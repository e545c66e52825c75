-- Declarations in blocks, and locks.
use Rattle.std.specs.Prelude.{ℕ, Bool, false, List, [], ◌∷◌, ◌++◌, refl}
use Rattle.std.proofs.Common.{sym, subst, append-nil}
use Rattle.c_tokens.specs.declared.token.Spot.{Spot}
use Rattle.c_syntax.specs.declared.head.Head.{Head}
use Rattle.c_syntax.specs.language.Words.{Word}
use Rattle.c_syntax.specs.language.Tree.{Tree, Children}
use Rattle.c_syntax.specs.language.Tree.Children.{Over, Child}
use Rattle.c_syntax.specs.language.Productions.{Local, Locals, Locks, MoreLocals, MoreNames, Names, kids, name_node}
use Rattle.c_check.specs.declared.acts.act.Act.{Act}
use Rattle.c_check.specs.declared.acts.act.Act.TheVariants.{Declare}
use Rattle.c_check.specs.declared.acts.act.Thing.{Thing}
use Rattle.c_check.specs.declared.acts.act.Thing.TheVariants as thing
use Rattle.c_check.specs.declared.acts.role.Role.TheVariants as role
use Rattle.c_check.specs.declared.acts.role.Naming.TheVariants as naming
use Rattle.c_check.specs.Acts.{acts, each}
use Rattle.c_check.specs.NameLists.{names}
use Rattle.check_laws.specs.Scopes.{Declaration, Position, Sort, behind, declared, declared_among, declared_as, each_as, positions, positions_among}
use Rattle.check_laws.proofs.Does.{Does, IsPlain, does-node, does-of, plain}
use Rattle.check_laws.proofs.Parts.{position}
use Rattle.check_laws.proofs.Quiet.{row-end, row-then, value_of}
use Rattle.check_laws.proofs.Visible.{behind-nothing, sort_of}

-- declarations
pub does-named : (file : Bool) (tree : Tree) (name : ℕ) (spot : Spot) (what : Thing) → IsPlain tree → Does file (Declare name spot what ∷ []) (declared_as (sort_of what) name) (position tree ∷ behind [] [])
does-named file tree name spot what is = does-node file _ _ [] tree is (Does.declares file name spot what)

local_of : {limit depth : ℕ} {words rest : List Word} {tree : Tree} → Local limit depth words rest tree → Does false (acts role.Plain tree) (declared tree) (positions tree)
unfolding acts each declared positions positions_among
local_of (Local.plain is) = does-named false _ _ _ thing.Int (plain _ refl refl refl)
local_of (Local.array {number = number} is sized) = does-named false _ _ _ (thing.Array number) (plain _ refl refl refl)
local_of (Local.set {word = word} {tree = tree} is equals value) =
    let row = row-then (value_of value role.Used refl) (row-end role.Used) in
    let both = Does.both false (each role.Used (Child tree Over)) (Declare word.value word.spot thing.Int ∷ []) [] (declared_as Sort.variable word.value) (positions_among (Child tree Over)) [] row.does
    (Does.declares false word.value word.spot thing.Int) in
    does-node false _ _ _ _ (plain _ refl refl refl) (does-of false _ _ _ _ (positions_among (Child tree Over) ++ []) (positions_among (Child tree Over)) refl refl (append-nil (positions_among (Child tree Over))) both)

more_locals : {limit depth : ℕ} {words rest : List Word} {trees : List Tree} → MoreLocals limit depth words rest trees → Does false (each role.Plain (kids trees)) (declared_among (kids trees)) (positions_among (kids trees))
unfolding each declared_among positions_among
more_locals MoreLocals.last = Does.nothing false
more_locals (MoreLocals.further comma one more) = Does.both false _ _ _ _ _ _ (local_of one) (more_locals more)

pub locals_of : {limit depth : ℕ} {words rest : List Word} {tree : Tree} → Locals limit depth words rest tree → Does false (acts role.Plain tree) (declared tree) (positions tree)
unfolding acts each declared declared_among positions positions_among
locals_of (Locals.locals is one more last) = does-node false _ _ _ _ (plain _ refl refl refl) (Does.both false _ _ _ _ _ _ (local_of one) (more_locals more))

-- names that are declared: their positions break nothing
pub names-plain : (file : Bool) (acts : List Act) (made : List Declaration) (nodes : List Position) (word : Word) (rest : Children) → ((scope : List Declaration) → Does file acts made (behind scope (positions_among rest) ++ nodes))
    → (scope : List Declaration) → Does file acts made (behind scope (positions_among (Child (name_node word) rest)) ++ nodes)
unfolding positions positions_among declared
names-plain file acts made nodes word rest more scope =
    Does.plainly file acts made (behind scope (behind [] (positions_among rest)) ++ nodes) (name_node word) scope (plain _ refl refl refl)
    (subst (λ (some : List Position). Does file acts made (behind scope some ++ nodes)) (sym (behind-nothing (positions_among rest))) (more scope))

more-names-plain : {at : Head} {words rest : List Word} {trees : List Tree} (file : Bool) (acts : List Act) (made : List Declaration) (nodes : List Position) → MoreNames at words rest trees → Does file acts made nodes
    → (scope : List Declaration) → Does file acts made (behind scope (positions_among (kids trees)) ++ nodes)
unfolding positions_among
more-names-plain file acts made nodes MoreNames.last it scope = it
more-names-plain file acts made nodes (MoreNames.further {word = word} {trees = trees} comma is more) it scope = names-plain file acts made nodes word (kids trees) (more-names-plain file acts made nodes more it) scope

lock-names : {at : Head} {words rest : List Word} {trees : List Tree} (file : Bool) → MoreNames at words rest trees → Does file (names naming.Locks (kids trees)) (each_as Sort.lock (kids trees)) []
unfolding names each_as
lock-names file MoreNames.last = Does.nothing file
lock-names file (MoreNames.further {word = word} comma is more) = Does.both file _ _ _ _ [] [] (Does.declares file word.value word.spot thing.Lock) (lock-names file more)

pub locks_of : {words rest : List Word} {tree : Tree} (file : Bool) → Locks words rest tree → Does file (acts role.Plain tree) (declared tree) (positions tree)
unfolding acts names declared each_as positions
locks_of file (Locks.locks {word = outer} is (Names.names {word = word} {trees = trees} named more) last) =
    let told = Does.both file _ _ _ _ [] [] (Does.declares file word.value word.spot thing.Lock) (lock-names file more) in
    let with_names = names-plain file _ _ [] word (kids trees) (more-names-plain file _ _ [] more told) [] in
    Does.plainly file _ _ _ _ [] (plain _ refl refl refl) (does-of file _ _ _ _ (behind [] (positions_among (Child (name_node word) (kids trees))) ++ []) (behind [] (positions_among (Child (name_node word) (kids trees)))) refl refl (append-nil _) with_names)
