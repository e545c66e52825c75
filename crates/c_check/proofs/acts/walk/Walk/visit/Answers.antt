use Rattle.std.proofs.Common.{◌≡◌, ℕ, false, ◌∷◌, [], List, inl, inr, refl, sym, ap, ◌∙◌, arith}
use Rattle.std.proofs.lemmas.Bool.{true≢false}
use Rattle.std.proofs.lemmas.Result.{on_ok_weaker}
use Rattle.c_tokens.specs.declared.token.Spot.{Spot}
use Rattle.c_syntax.specs.declared.node.NodeKind.{NodeKind}
use Rattle.c_syntax.specs.declared.node.NodeKind.TheVariants as node
use Rattle.c_syntax.specs.language.Tree.{Children, spot_of, name_of, number_of, text_of, children_of}
use Rattle.c_syntax.specs.language.Tree.Tree.{Node}
use Rattle.c_syntax.specs.language.Numbered.{tree_at}
use Rattle.c_check.specs.declared.acts.act.Act.TheVariants.{Declare}
use Rattle.c_check.specs.declared.acts.act.Thing.TheVariants as thing
use Rattle.c_check.specs.declared.acts.role.Role.TheVariants as role
use Rattle.c_check.specs.declared.acts.role.Naming.TheVariants as naming
use Rattle.c_check.specs.Acts.{acts, target}
use Rattle.c_check.specs.NameLists.{names}
use Rattle.c_check.specs.Tasks.{from_place}
use Rattle.c_check.specs.Steps.{passes}
use Rattle.c_check.proofs.Putting.{acts_of, acts_passing, acts_standalone, both, keep_as, puts_as}
use Rattle.c_check.proofs.acts.walk.Walk.visit.Goals as goal

pub returns-in-Function : goal.returns-in-Function
unfolding acts from_place
returns-in-Function c =
    on_ok_weaker c.function.result
    (λ put. puts_as (acts_of c.args.role (node.Function c.in-Function.returns) (tree_at c.args.tree.now.trees c.args.node) c.in-Function.ensures) (omega arith) (put))
    c.function.ensures

pub returns-in-GlobalVar : goal.returns-in-GlobalVar
unfolding acts
returns-in-GlobalVar c =
    let tree = tree_at c.args.tree.now.trees c.args.node in
    let same : Declare (name_of tree) (spot_of tree) thing.Int ∷ [] ≡ acts c.args.role tree =
    elim c.in-GlobalVar.is [
      | inl is ↦ acts_of c.args.role node.GlobalVar tree (sym is ∙ c.kind.ensures)
      | inr other ↦ elim other [
        | inl is ↦ acts_of c.args.role (node.GlobalSet is.0) tree (sym is.1 ∙ c.kind.ensures)
        | inr is ↦ acts_of c.args.role node.LocalVar tree (sym is ∙ c.kind.ensures)
      ]
    ] in
    on_ok_weaker c.declare.result
    (λ put. puts_as (rw (c.name-name.ensures, c.spot-spot.ensures) same) (omega arith) (put c.args.tree.now.trees c.requires.there))
    c.declare.ensures

pub returns-in-GlobalArray : goal.returns-in-GlobalArray
unfolding acts
returns-in-GlobalArray c =
    let tree = tree_at c.args.tree.now.trees c.args.node in
    let same : Declare (name_of tree) (spot_of tree) (thing.Array (number_of tree)) ∷ [] ≡ acts c.args.role tree =
    elim c.in-GlobalArray.is [
      | inl is ↦ acts_of c.args.role node.GlobalArray tree (sym is ∙ c.kind.ensures)
      | inr is ↦ acts_of c.args.role node.LocalArray tree (sym is ∙ c.kind.ensures)
    ] in
    on_ok_weaker c.declare-in-GlobalArray.result
    (λ put. puts_as (rw (c.name-name.ensures, c.spot-spot.ensures, c.number_at.ensures) same) (omega arith) (put c.args.tree.now.trees c.requires.there))
    c.declare-in-GlobalArray.ensures

pub returns-in_ok-declare-in-LocalSet : goal.returns-in_ok-declare-in-LocalSet
unfolding acts from_place
returns-in_ok-declare-in-LocalSet c =
    let trees = c.args.tree.now.trees in
    on_ok_weaker c.then.result
    (λ put.
    let declared = c.in_ok-declare-in-LocalSet.ensures trees c.requires.there in
    puts_as
    (rw (c.name-name.ensures, c.spot-spot.ensures) (acts_of c.args.role node.LocalSet (tree_at trees c.args.node) c.in-LocalSet.ensures))
    (omega arith)
    (both declared (put trees c.requires.node declared.there)))
    c.then.ensures

pub returns-in-Locks : goal.returns-in-Locks
unfolding acts from_place
returns-in-Locks c =
    on_ok_weaker c.then-in-Locks.result
    (λ put. puts_as (acts_of c.args.role node.Locks (tree_at c.args.tree.now.trees c.args.node) c.in-Locks.ensures) (omega arith) (put c.args.tree.now.trees c.requires.node c.requires.there))
    c.then-in-Locks.ensures

pub returns-in-Block : goal.returns-in-Block
unfolding acts from_place
returns-in-Block c =
    on_ok_weaker c.block.result
    (λ put. puts_as (acts_of c.args.role node.Block (tree_at c.args.tree.now.trees c.args.node) c.in-Block.ensures) (omega arith) (put c.args.tree.now.trees c.requires.node c.requires.there))
    c.block.ensures

pub returns-in-For : goal.returns-in-For
unfolding acts from_place
returns-in-For c =
    on_ok_weaker c.parts.result
    (λ put. puts_as (acts_of c.args.role node.For (tree_at c.args.tree.now.trees c.args.node) c.in-For.ensures) (omega arith) (put))
    c.parts.ensures

pub returns-in-Init : goal.returns-in-Init
unfolding acts from_place
returns-in-Init c =
    on_ok_weaker c.init.result
    (λ put. puts_as (acts_of c.args.role node.Init (tree_at c.args.tree.now.trees c.args.node) c.in-Init.ensures) (omega arith) (put))
    c.init.ensures

pub returns-in-Return : goal.returns-in-Return
unfolding acts from_place
returns-in-Return c =
    on_ok_weaker c.return_.result
    (λ put. puts_as (rw c.spot-spot.ensures (acts_of c.args.role node.Return (tree_at c.args.tree.now.trees c.args.node) c.in-Return.ensures)) (omega arith) (put))
    c.return_.ensures

pub returns-in-SetCall : goal.returns-in-SetCall
unfolding acts from_place
returns-in-SetCall c =
    on_ok_weaker c.target.result
    (λ put. puts_as (acts_of c.args.role node.SetCall (tree_at c.args.tree.now.trees c.args.node) c.in-SetCall.ensures) (omega arith) (put))
    c.target.ensures

pub returns-in-Assign : goal.returns-in-Assign
unfolding acts
returns-in-Assign c =
    let tree = tree_at c.args.tree.now.trees c.args.node in
    let same : target role.Plain (children_of tree) ≡ acts c.args.role tree =
    elim c.in-Assign.is [
      | inl is ↦ acts_of c.args.role (node.Assign is.0) tree (sym is.1 ∙ c.kind.ensures)
      | inr is ↦ acts_of c.args.role (node.Bump is.0 is.1) tree (sym is.2 ∙ c.kind.ensures)
    ] in
    on_ok_weaker c.target-in-Assign.result (λ put. puts_as same (omega arith) put) c.target-in-Assign.ensures

pub returns-in-Print : goal.returns-in-Print
unfolding acts from_place
returns-in-Print c =
    on_ok_weaker c.print.result
    (λ put. puts_as (rw c.spot-spot.ensures (acts_of c.args.role node.Print (tree_at c.args.tree.now.trees c.args.node) c.in-Print.ensures)) (omega arith) (put))
    c.print.ensures

pub returns-in-LockCall : goal.returns-in-LockCall
unfolding acts from_place
returns-in-LockCall c =
    let tree = tree_at c.args.tree.now.trees c.args.node in
    let same : names naming.Locked (children_of tree) ≡ acts c.args.role tree =
    elim c.in-LockCall.is [
      | inl is ↦ acts_of c.args.role (node.LockCall is.0) tree (sym is.1 ∙ c.kind.ensures)
      | inr is ↦ acts_of c.args.role node.TestLock tree (sym is ∙ c.kind.ensures)
    ] in
    on_ok_weaker c.then-in-LockCall.result
    (λ put. puts_as same (omega arith) (put c.args.tree.now.trees c.requires.node c.requires.there))
    c.then-in-LockCall.ensures

pub returns-in-Place : goal.returns-in-Place
unfolding acts from_place
returns-in-Place c =
    on_ok_weaker c.place.result
    (λ put. puts_as (acts_of c.args.role node.Place (tree_at c.args.tree.now.trees c.args.node) c.in-Place.ensures) (omega arith) (put))
    c.place.ensures

pub returns-in-Call : goal.returns-in-Call
unfolding acts from_place
returns-in-Call c =
    on_ok_weaker c.call.result
    (λ put. puts_as (acts_of c.args.role node.Call (tree_at c.args.tree.now.trees c.args.node) c.in-Call.ensures) (omega arith) (put))
    c.call.ensures

pub returns-in-Standalone : goal.returns-in-Standalone
returns-in-Standalone c =
    on_ok_weaker c.standalone.result
    (λ put. puts_as (rw c.spot-spot.ensures (acts_standalone c.args.role c.in-Standalone.standalone (tree_at c.args.tree.now.trees c.args.node) c.in-Standalone.ensures)) (omega arith) (put c.args.tree.now.trees c.requires.there))
    c.standalone.ensures

pub returns-in-Construct : goal.returns-in-Construct
unfolding acts from_place
returns-in-Construct c =
    on_ok_weaker c.construct.result
    (λ put. puts_as (acts_of c.args.role (node.Construct c.in-Construct.directive) (tree_at c.args.tree.now.trees c.args.node) c.in-Construct.ensures) (omega arith) (put))
    c.construct.ensures

pub returns-in_default : goal.returns-in_default
unfolding from_place
returns-in_default c =
    on_ok_weaker c.then-in_default.result
    (λ put. puts_as (acts_passing c.args.role c.kind.result (tree_at c.args.tree.now.trees c.args.node) c.kind.ensures (sym c.passes_on.ensures ∙ c.if-passes_on.true)) (omega arith) (put c.args.tree.now.trees c.requires.node c.requires.there))
    c.then-in_default.ensures

pub returns-in_default-2 : goal.returns-in_default-2
unfolding acts
returns-in_default-2 c =
    let tree = tree_at c.args.tree.now.trees c.args.node in
    keep_as _ _ (sym (acts_of c.args.role c.kind.result tree c.kind.ensures) ∙ none c.kind.result refl (spot_of tree) (name_of tree) (number_of tree) (text_of tree) (children_of tree)) c.requires.there
  where
    stays : passes c.kind.result ≡ false
    stays = sym c.passes_on.ensures ∙ c.if-passes_on.false

    none : (kind : NodeKind) → kind ≡ c.kind.result → (spot : Spot) (name number : ℕ) (text : List ℕ) (children : Children) → acts c.args.role (Node kind spot name number text children) ≡ []
    none (node.Function returns) is spot name number text children = absurd (c.in_default-2.not-Function returns (sym is))
    none node.GlobalVar is spot name number text children = absurd (c.in_default-2.not-GlobalVar (sym is))
    none node.GlobalArray is spot name number text children = absurd (c.in_default-2.not-GlobalArray (sym is))
    none (node.GlobalSet sign) is spot name number text children = absurd (c.in_default-2.not-GlobalSet sign (sym is))
    none node.Locks is spot name number text children = absurd (c.in_default-2.not-Locks (sym is))
    none node.Block is spot name number text children = absurd (c.in_default-2.not-Block (sym is))
    none node.LocalVar is spot name number text children = absurd (c.in_default-2.not-LocalVar (sym is))
    none node.LocalArray is spot name number text children = absurd (c.in_default-2.not-LocalArray (sym is))
    none node.LocalSet is spot name number text children = absurd (c.in_default-2.not-LocalSet (sym is))
    none node.For is spot name number text children = absurd (c.in_default-2.not-For (sym is))
    none node.Init is spot name number text children = absurd (c.in_default-2.not-Init (sym is))
    none node.Return is spot name number text children = absurd (c.in_default-2.not-Return (sym is))
    none node.SetCall is spot name number text children = absurd (c.in_default-2.not-SetCall (sym is))
    none node.Print is spot name number text children = absurd (c.in_default-2.not-Print (sym is))
    none (node.LockCall which) is spot name number text children = absurd (c.in_default-2.not-LockCall which (sym is))
    none (node.Assign setting) is spot name number text children = absurd (c.in_default-2.not-Assign setting (sym is))
    none (node.Bump which side) is spot name number text children = absurd (c.in_default-2.not-Bump which side (sym is))
    none node.Place is spot name number text children = absurd (c.in_default-2.not-Place (sym is))
    none node.Call is spot name number text children = absurd (c.in_default-2.not-Call (sym is))
    none node.TestLock is spot name number text children = absurd (c.in_default-2.not-TestLock (sym is))
    none (node.Standalone which) is spot name number text children = absurd (c.in_default-2.not-Standalone which (sym is))
    none (node.Construct which) is spot name number text children = absurd (c.in_default-2.not-Construct which (sym is))
    none node.Program is spot name number text children = absurd (true≢false (ap passes is ∙ stays))
    none node.Globals is spot name number text children = absurd (true≢false (ap passes is ∙ stays))
    none node.Locals is spot name number text children = absurd (true≢false (ap passes is ∙ stays))
    none node.If is spot name number text children = absurd (true≢false (ap passes is ∙ stays))
    none node.While is spot name number text children = absurd (true≢false (ap passes is ∙ stays))
    none node.Step is spot name number text children = absurd (true≢false (ap passes is ∙ stays))
    none node.Called is spot name number text children = absurd (true≢false (ap passes is ∙ stays))
    none (node.Binary operator) is spot name number text children = absurd (true≢false (ap passes is ∙ stays))
    none (node.Unary operator) is spot name number text children = absurd (true≢false (ap passes is ∙ stays))
    none node.Paren is spot name number text children = absurd (true≢false (ap passes is ∙ stays))
    none node.Section is spot name number text children = absurd (true≢false (ap passes is ∙ stays))
    none other is spot name number text children = refl
