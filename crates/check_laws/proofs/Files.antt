-- Functions and the other parts of a file, and programs.
use Rattle.std.specs.Prelude.{ℕ, ◌≡◌, true, false, List, [], ◌∷◌, ◌++◌, refl}
use Rattle.std.proofs.Common.{sym, subst, inl, inr, append-nil}
use Rattle.c_tokens.specs.declared.token.Spot.{Spot}
use Rattle.c_syntax.specs.declared.node.Returns.{Returns}
use Rattle.c_syntax.specs.declared.node.NodeKind.TheVariants as node
use Rattle.c_syntax.specs.language.Words.{Word}
use Rattle.c_syntax.specs.language.Numbered.{TreeView, root_tree}
use Rattle.c_syntax.specs.language.Texts.{Spells}
use Rattle.c_syntax.specs.language.Tree.{Tree, Children, children_of, name_of, spot_of}
use Rattle.c_syntax.specs.language.Tree.Tree.{Node}
use Rattle.c_syntax.specs.language.Tree.Children.{Over, Child}
use Rattle.c_syntax.specs.language.Productions.{Block, FileParts, Function, IsProgram, MoreParameters, MoreVariables, Parameters, Variable, Variables, kids, made_at, name_node}
use Rattle.c_check.specs.declared.acts.act.Act.{Act}
use Rattle.c_check.specs.declared.acts.act.Act.TheVariants.{Begin, End, Finish}
use Rattle.c_check.specs.declared.acts.act.Thing.TheVariants as thing
use Rattle.c_check.specs.declared.acts.role.Role.TheVariants as role
use Rattle.c_check.specs.declared.acts.role.Naming.TheVariants as naming
use Rattle.c_check.specs.Acts.{acts, each, function}
use Rattle.c_check.specs.Checked.{IsBroken}
use Rattle.c_check.specs.Here.{before_all}
use Rattle.c_check.specs.NameLists.{child_count, names}
use Rattle.c_check.specs.Rules.{bad_loops}
use Rattle.c_check.specs.Statements.{statement_of}
use Rattle.check_laws.specs.Scopes.{Declaration, Position, Sort, behind, declared, declared_among, declared_as, each_as, positions, positions_among}
use Rattle.check_laws.specs.LoopForm.{BreaksLoopForm, IsLoopOfForm}
use Rattle.check_laws.proofs.Broken.{breaks-broken, breaks-either, breaks-left, broken-breaks}
use Rattle.check_laws.proofs.Has.{has-one, one-has}
use Rattle.check_laws.proofs.Means.{not-among}
use Rattle.check_laws.proofs.LoopRule.{does-mean}
use Rattle.check_laws.proofs.Does.{Does, does-node, does-of, plain}
use Rattle.check_laws.proofs.Standing.{IsOddAt, IsReady, Result}
use Rattle.check_laws.proofs.Declaring.{locks_of, does-named, names-plain}
use Rattle.check_laws.proofs.Statements.{items, items-then, no-items}
use Rattle.check_laws.proofs.Visible.{behind-nothing}

-- parameters
more-parameters : {words rest : List Word} {trees : List Tree} → MoreParameters words rest trees → Does false (names naming.Parameters (kids trees)) (each_as Sort.variable (kids trees)) []
unfolding names each_as
more-parameters MoreParameters.last = Does.nothing false
more-parameters (MoreParameters.further {name = name} comma is named more) = Does.both false _ _ _ _ [] [] (Does.declares false name.value name.spot thing.Int) (more-parameters more)

parameters-plain : {words rest : List Word} {trees : List Tree} (acts : List Act) (made : List Declaration) (nodes : List Position) → MoreParameters words rest trees → Does false acts made nodes
    → (scope : List Declaration) → Does false acts made (behind scope (positions_among (kids trees)) ++ nodes)
unfolding positions_among
parameters-plain acts made nodes MoreParameters.last it scope = it
parameters-plain acts made nodes (MoreParameters.further {name = name} {trees = trees} comma is named more) it scope = names-plain false acts made nodes name (kids trees) (parameters-plain acts made nodes more it) scope

parameters-of : {words rest : List Word} {tree : Tree} → Parameters words rest tree → Does false (names naming.Parameters (children_of tree)) (declared tree) (positions tree)
unfolding names declared each_as positions positions_among
parameters-of Parameters.empty = does-node false [] [] [] _ (plain _ refl refl refl) (Does.nothing false)
parameters-of (Parameters.void is) = does-node false [] [] [] _ (plain _ refl refl refl) (Does.nothing false)
parameters-of (Parameters.listed {name = name} {trees = trees} is named more) =
    let told = Does.both false _ _ _ _ [] [] (Does.declares false name.value name.spot thing.Int) (more-parameters more) in
    let with_names = names-plain false _ _ [] name (kids trees) (parameters-plain _ _ [] more told) [] in
    Does.plainly false _ _ _ _ [] (plain _ refl refl refl)
    (does-of false _ _ _ _ (behind [] (positions_among (Child (name_node name) (kids trees))) ++ []) (behind [] (positions_among (Child (name_node name) (kids trees)))) refl refl (append-nil _) with_names)

-- functions
function-acts : (gives : Returns) (named parameters : Tree) (spot : Spot) (some : Children) → function gives (Child named (Child parameters (Child (Node node.Block spot 0 0 [] some) Over)))
    ≡ Begin (name_of named) (spot_of named) gives (child_count (children_of parameters)) ∷ (names naming.Parameters (children_of parameters) ++ each role.Plain some) ++ End ∷ []
unfolding function
function-acts gives named (Node kind place name number text children) spot some = refl

function-inside : (name word : Word) (parameters : Tree) (trees : List Tree) → Does false (names naming.Parameters (children_of parameters)) (declared parameters) (positions parameters)
    → Does false (each role.Plain (kids trees)) (declared_among (kids trees)) (positions_among (kids trees))
    → Does false (names naming.Parameters (children_of parameters) ++ each role.Plain (kids trees)) (declared_among (kids trees) ++ declared parameters)
    (positions_among (kids (name_node name ∷ parameters ∷ made_at node.Block word (kids trees) ∷ [])))
unfolding positions positions_among declared
function-inside name word parameters trees params some =
    let body = does-node false _ _ _ (made_at node.Block word (kids trees)) (plain _ refl refl refl) some in
    let ended = does-of false _ _ _ _ (positions (made_at node.Block word (kids trees))) (positions (made_at node.Block word (kids trees)) ++ []) refl refl (sym (append-nil _)) body in
    let both = Does.both false _ _ _ _ (positions parameters) (positions (made_at node.Block word (kids trees)) ++ []) params ended in
    Does.plainly false _ _ _ (name_node name) [] (plain _ refl refl refl)
    (does-of false _ _ _ _ (positions parameters ++ behind (declared parameters) (positions (made_at node.Block word (kids trees)) ++ [])) _ refl refl (sym (behind-nothing _)) both)

function-of : {limit depth : ℕ} {words rest : List Word} {tree : Tree} → Function limit depth words rest tree → Does true (acts role.Plain tree) (declared tree) (positions tree)
unfolding acts declared positions
function-of (Function.function {name = name} {parameters = parameters} which is named first params last (Block.block {word = word} {trees = trees} opens deep some closes)) =
    let inside = function-inside name word parameters trees (parameters-of params) (items some) in
    let whole = Does.function name.value name.spot which (child_count (children_of parameters)) _ _ _ inside in
    Does.plainly true _ _ _ _ [] (plain _ refl refl refl)
    (subst (λ (acts : List Act). Does true acts (declared_as Sort.function name.value) (behind (declared_as Sort.function name.value) (positions_among (kids (name_node name ∷ parameters ∷ made_at node.Block word (kids trees) ∷ [])))))
    (sym (function-acts which (name_node name) parameters word.spot (kids trees))) whole)

-- variables of the file
variable-of : {words rest : List Word} {tree : Tree} → Variable words rest tree → Does true (acts role.Plain tree) (declared tree) (positions tree)
unfolding acts declared positions positions_among
variable-of (Variable.plain is) = does-named true _ _ _ thing.Int (plain _ refl refl refl)
variable-of (Variable.array {number = number} is sized) = does-named true _ _ _ (thing.Array number) (plain _ refl refl refl)
variable-of (Variable.set is equals number) = does-named true _ _ _ thing.Int (plain _ refl refl refl)
variable-of (Variable.set_below is equals minus number) = does-named true _ _ _ thing.Int (plain _ refl refl refl)

more-variables : {words rest : List Word} {trees : List Tree} → MoreVariables words rest trees → Does true (each role.Plain (kids trees)) (declared_among (kids trees)) (positions_among (kids trees))
more-variables MoreVariables.last = no-items true
more-variables (MoreVariables.further comma one more) = items-then true _ _ (variable-of one) (more-variables more)

variables-of : {words rest : List Word} {tree : Tree} → Variables words rest tree → Does true (acts role.Plain tree) (declared tree) (positions tree)
unfolding acts declared positions
variables-of (Variables.variables is one more last) = does-node true _ _ _ _ (plain _ refl refl refl) (items-then true _ _ (variable-of one) (more-variables more))

include-does : (word : Word) → let tree = made_at node.Include word Over in Does true (acts role.Plain tree) (declared tree) (positions tree)
unfolding acts declared positions positions_among
include-does word = does-node true [] [] [] _ (plain _ refl refl refl) (Does.nothing true)

parts-of : {limit depth : ℕ} {words rest : List Word} {trees : List Tree} → FileParts limit depth words rest trees → Does true (each role.Plain (kids trees)) (declared_among (kids trees)) (positions_among (kids trees))
parts-of FileParts.none = no-items true
parts-of (FileParts.include {word = word} is more) = items-then true (made_at node.Include word Over) _ (include-does word) (parts-of more)
parts-of (FileParts.function one more) = items-then true _ _ (function-of one) (parts-of more)
parts-of (FileParts.variables one more) = items-then true _ _ (variables-of one) (parts-of more)
parts-of (FileParts.locks one more) = items-then true _ _ (locks_of true one) (parts-of more)

-- programs
pub record IsTold (tree : Tree) : Type 0 where
  pub made : List Declaration
  pub does : Does true (acts role.Plain tree) made (positions tree)

pub program-told : {limit : ℕ} {words : List Word} {tree : Tree} → IsProgram limit words tree → IsTold tree
unfolding acts positions
program-told (IsProgram.program parts last) = record { made = _; does = does-node true _ _ _ _ (plain _ refl refl refl) (parts-of parts) }

pub first-ready : (main : ℕ) → IsReady true (before_all main)
first-ready main = record { names = record { levels = tt; falls = tt }; loops = tt; outside = λ is. refl }

module _ (program : TreeView) (spot : Spot) (told : IsTold (root_tree program)) where
  told-broken : Result (before_all program.main) (positions (root_tree program)) spot → IsBroken bad_loops program spot
  told-broken result =
      breaks-broken bad_loops program spot
      (breaks-left bad_loops spot (before_all program.main) (acts role.Plain (root_tree program)) (Finish program.end ∷ []) ((does-mean told.does).breaks (before_all program.main) (first-ready program.main) spot result))

  broken-told : IsBroken bad_loops program spot → Result (before_all program.main) (positions (root_tree program)) spot
  broken-told broken =
      elim (breaks-either bad_loops spot (before_all program.main) (acts role.Plain (root_tree program)) (Finish program.end ∷ []) (broken-breaks bad_loops program spot broken)) [
        | inl within ↦ (does-mean told.does).tells (before_all program.main) (first-ready program.main) spot within
        | inr end ↦ elim end [ inl finish ↦ absurd (not-among spot finish) | inr never ↦ absurd never ]
      ]

pub broken-is-odd : (text : List ℕ) (program : TreeView) (spot : Spot) → Spells text (root_tree program) → IsBroken bad_loops program spot → BreaksLoopForm (root_tree program) spot
broken-is-odd text program spot is broken =
    elim (broken-told program spot (program-told is.spelled) broken) [
      | inl odd ↦
          let one = has-one (IsOddAt [] spot) (positions (root_tree program)) odd in
          record {
            construct = one.one;
            there = one.contains;
            shares = one.is.shares;
            at = one.is.at;
            odd = λ form. one.is.odd (subst (λ (scope : List Declaration). IsLoopOfForm scope (statement_of (children_of one.one.node))) (sym (append-nil one.one.scope)) form);
          }
      | inr none ↦ absurd none
    ]

pub odd-is-broken : (text : List ℕ) (program : TreeView) (spot : Spot) → Spells text (root_tree program) → BreaksLoopForm (root_tree program) spot → IsBroken bad_loops program spot
odd-is-broken text program spot is odd =
    told-broken program spot (program-told is.spelled)
    (inl (one-has (IsOddAt [] spot) (positions (root_tree program)) odd.construct odd.there
    (record {
      shares = odd.shares;
      at = odd.at;
      odd = λ form. odd.odd (subst (λ (scope : List Declaration). IsLoopOfForm scope (statement_of (children_of odd.construct.node))) (append-nil odd.construct.scope) form);
    })))
