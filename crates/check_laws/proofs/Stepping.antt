-- Steps, and the parts in the head of a `for`.
use Rattle.std.specs.Prelude.{ℕ, ◌≡◌, false, List, [], ◌∷◌, ◌++◌, Option, Some, None, refl}
use Rattle.std.proofs.Common.{sym, subst, ◌∙◌, append-nil}
use Rattle.c_syntax.specs.declared.head.Head.{Head}
use Rattle.c_syntax.specs.declared.node.NodeKind.TheVariants as node
use Rattle.c_syntax.specs.language.Words.{Word}
use Rattle.c_syntax.specs.language.Tree.{Tree, Children, kind_of}
use Rattle.c_syntax.specs.language.Tree.Tree.{Node}
use Rattle.c_syntax.specs.language.Tree.Children.{Over, Child}
use Rattle.c_syntax.specs.language.Productions.{ConditionPart, FirstPart, IndexPart, Place, StepOf, StepPart, maybe, name_node, named_at}
use Rattle.c_check.specs.declared.acts.act.Act.{Act}
use Rattle.c_check.specs.declared.acts.act.Act.TheVariants.{Assign, Declare, Use}
use Rattle.c_check.specs.declared.acts.act.Thing.TheVariants as thing
use Rattle.c_check.specs.declared.acts.act.Usage.TheVariants as usage
use Rattle.c_check.specs.declared.acts.role.Role.{Role}
use Rattle.c_check.specs.declared.acts.role.Role.TheVariants as role
use Rattle.c_check.specs.Acts.{acts, each, first_part, init, second_part, target, third_part}
use Rattle.check_laws.specs.Scopes.{Declaration, Position, Sort, behind, declared, declared_as, positions, positions_among}
use Rattle.check_laws.specs.LoopForm.{assigned_variable, first_variable}
use Rattle.check_laws.specs.ListedNames.{is_construct, used}
use Rattle.check_laws.proofs.Does.{Does, does-node, does-of, plain, still}
use Rattle.check_laws.proofs.Parts.{part_acts, part_declared, part_nodes, position}
use Rattle.check_laws.proofs.Quiet.{Quiet, Row, ranked, row-end, row-then, use-node}
use Rattle.check_laws.proofs.Visible.{behind-nothing}

-- a place that a node assigns
pub place-none : {limit depth : ℕ} {at : Head} {words rest : List Word} {tree : Tree} → Place limit depth at words rest tree → declared tree ≡ []
unfolding declared
place-none (Place.place is index) = refl

pub one-target : {limit depth : ℕ} {at : Head} {words rest : List Word} {tree : Tree} (more : Children) → Place limit depth at words rest tree → first_variable (Child tree more) ≡ first_variable (Child tree Over)
one-target more (Place.place is IndexPart.bare) = refl
one-target more (Place.place is (IndexPart.indexed first deep one last)) = refl

-- what a node does with what it assigns, if that is a variable
assigning : (word : Word) (parent : Tree) → is_construct (kind_of parent) ≡ false → assigned_variable parent ≡ Some word.value → used parent ≡ []
    → let tree = named_at node.Place word Over in Does false (Use word.value word.spot usage.Plain ∷ Assign word.value ∷ []) [] (position parent ∷ position tree ∷ [])
assigning word parent no_construct assigns uses =
    let tree = named_at node.Place word Over in
    Does.front false _ [] (position parent) (position tree ∷ []) []
    (use-node word.value word.spot usage.Plain tree (still tree refl refl) refl (Does.assigns false word.value parent no_construct assigns uses))

target-does : {limit depth : ℕ} {at : Head} {words rest : List Word} {tree : Tree} → Place limit depth at words rest tree → (parent : Tree) → is_construct (kind_of parent) ≡ false
    → assigned_variable parent ≡ first_variable (Child tree Over) → used parent ≡ [] → Does false (acts role.Target tree) [] (position parent ∷ positions tree)
unfolding acts each positions positions_among
target-does (Place.place {word = word} is IndexPart.bare) parent no_construct assigns uses = assigning word parent no_construct assigns uses
target-does (Place.place {word = word} is (IndexPart.indexed first deep one last)) parent no_construct assigns uses =
    Does.plainly false _ [] _ parent [] (plain parent no_construct assigns uses)
    (use-node word.value word.spot _ _ (still _ refl refl) refl (row-then (ranked one role.Plain refl) (row-end role.Plain)).does)

pub target-then : {limit depth : ℕ} {at : Head} {words rest : List Word} {tree : Tree} (around : Role) (more : Children) (parent : Tree) → Place limit depth at words rest tree
    → is_construct (kind_of parent) ≡ false → assigned_variable parent ≡ first_variable (Child tree more) → used parent ≡ [] → Row around more
    → Does false (target around (Child tree more)) [] (position parent ∷ behind [] (positions_among (Child tree more)))
unfolding target positions_among
target-then {tree = tree} around more parent one no_construct assigns uses row =
    let first = target-does one parent no_construct (assigns ∙ one-target more one) uses in
    let both = Does.both false (acts role.Target tree) (each around more) [] [] (position parent ∷ positions tree) (positions_among more) first row.does in
    let scoped : Does false (acts role.Target tree ++ each around more) [] (position parent ∷ positions tree ++ behind (declared tree) (positions_among more)) =
    subst (λ (scope : List Declaration). Does false (acts role.Target tree ++ each around more) [] (position parent ∷ positions tree ++ behind scope (positions_among more))) (sym (place-none one)) both in
    subst (λ (nodes : List Position). Does false (acts role.Target tree ++ each around more) [] (position parent ∷ nodes)) (sym (behind-nothing (positions tree ++ behind (declared tree) (positions_among more)))) scoped

pub step_of : {limit depth : ℕ} {words rest : List Word} {tree : Tree} → StepOf limit depth words rest tree → (around : Role) → Quiet around tree
unfolding acts positions declared
step_of (StepOf.assigned which left sign right) around = record {
  does = target-then role.Plain _ _ left refl refl refl (row-then (ranked right role.Plain refl) (row-end role.Plain));
  none = refl;
}
step_of (StepOf.behind which one sign) around = record { does = target-then role.Plain Over _ one refl refl refl (row-end role.Plain); none = refl }
step_of (StepOf.before which sign one) around = record { does = target-then role.Plain Over _ one refl refl refl (row-end role.Plain); none = refl }

-- parts that may be absent
pub record QuietPart (part : Option Tree) : Type 0 where
  pub does : Does false (part_acts part) [] (part_nodes part)
  pub none : part_declared part ≡ []

no-part : QuietPart None
no-part = record { does = Does.nothing false; none = refl }

pub condition_part : {limit depth : ℕ} {words rest : List Word} {part : Option Tree} → ConditionPart limit depth words rest part → QuietPart part
condition_part ConditionPart.none = no-part
condition_part (ConditionPart.some one) = let it = ranked one role.Plain refl in record { does = it.does; none = it.none }

pub step_part : {limit depth : ℕ} {words rest : List Word} {part : Option Tree} → StepPart limit depth words rest part → QuietPart part
step_part StepPart.none = no-part
step_part (StepPart.some one) = let it = step_of one role.Plain in record { does = it.does; none = it.none }

init-does : {tree : Tree} (word name : Word) → Quiet role.Plain tree
    → let first = Node node.Init word.spot 0 0 [] (Child (name_node name) (Child tree Over)) in Does false (acts role.Plain first) (declared first) (positions first)
unfolding acts init positions positions_among declared
init-does {tree} word name quiet =
    let row = row-then quiet (row-end role.Plain) in
    let both = Does.both false (each role.Plain (Child tree Over)) (Declare name.value name.spot thing.Int ∷ []) [] (declared_as Sort.variable name.value) (positions_among (Child tree Over)) [] row.does
    (Does.declares false name.value name.spot thing.Int) in
    let one = does-of false _ _ _ _ (positions_among (Child tree Over) ++ []) (behind [] (positions_among (Child tree Over))) refl refl
    (append-nil (positions_among (Child tree Over)) ∙ sym (behind-nothing (positions_among (Child tree Over)))) both in
    does-node false _ _ _ _ (plain _ refl refl refl) (Does.plainly false _ _ _ (name_node name) [] (plain _ refl refl refl) one)

pub first_of : {limit depth : ℕ} {words rest : List Word} {part : Option Tree} → FirstPart limit depth words rest part → Does false (part_acts part) (part_declared part) (part_nodes part)
first_of FirstPart.none = Does.nothing false
first_of (FirstPart.declared {word = word} {name = name} is named equals one) = init-does word name (ranked one role.Plain refl)
first_of (FirstPart.stepped {tree = tree} one) =
    let it = step_of one role.Plain in subst (λ (made : List Declaration). Does false (acts role.Plain tree) made (positions tree)) (sym it.none) it.does

-- the acts and the positions of a part, and those behind it
pub first-acts : (mark : List Act) (part : Option Tree) (rest : Children) → first_part mark (maybe part rest) ≡ part_acts part ++ second_part mark rest
unfolding first_part
first-acts mark None rest = refl
first-acts mark (Some tree) rest = refl

pub second-acts : (mark : List Act) (part : Option Tree) (rest : Children) → second_part mark (maybe part rest) ≡ part_acts part ++ third_part mark rest
unfolding second_part
second-acts mark None rest = refl
second-acts mark (Some tree) rest = refl

pub third-acts : (mark : List Act) (part : Option Tree) (rest : Children) → third_part mark (maybe part rest) ≡ part_acts part ++ (mark ++ each role.Plain rest)
unfolding third_part
third-acts mark None rest = refl
third-acts mark (Some tree) rest = refl

pub part-positions : (part : Option Tree) (rest : Children) → positions_among (maybe part rest) ≡ part_nodes part ++ behind (part_declared part) (positions_among rest)
unfolding positions_among
part-positions None rest = sym (behind-nothing (positions_among rest))
part-positions (Some tree) rest = refl
