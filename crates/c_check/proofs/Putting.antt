-- Tasks that are put before the others: what they tell and weigh, one after another.
use Rattle.std.proofs.Common.{◌≡◌, ℕ, ◌+◌, ◌≤◌, true, List, [], ◌∷◌, ◌++◌, length, reverse, sum_by, refl, sym, ap, ◌∙◌, append_assoc, arith}
use Rattle.std.proofs.lemmas.Bool.{false≢true}
use Rattle.std.proofs.lemmas.List.{nil_from_length, reverse-append}
use Rattle.std.proofs.lemmas.List.Elements.{All-push, All-same}
use Rattle.std.proofs.lemmas.List.Sums.{sum_by-append}
use Rattle.c_syntax.specs.language.Tree.{Tree, Children, spot_of, name_of, number_of, text_of, children_of, kind_of}
use Rattle.c_syntax.specs.language.Tree.Tree.{Node}
use Rattle.c_syntax.specs.declared.node.Standalone.{Standalone}
use Rattle.c_syntax.specs.declared.node.Standalone.TheVariants as standalone
use Rattle.c_syntax.specs.declared.node.NodeKind.{NodeKind}
use Rattle.c_syntax.specs.declared.node.NodeKind.TheVariants as node
use Rattle.c_tokens.specs.declared.token.Spot.{Spot}
use Rattle.c_check.specs.declared.acts.act.Act.{Act}
use Rattle.c_check.specs.declared.acts.role.Role.{Role}
use Rattle.c_check.specs.declared.acts.role.Role.TheVariants as role
use Rattle.c_check.specs.declared.acts.walk.Task.{Task}
use Rattle.c_check.specs.declared.acts.walk.Walk.{Walk}
use Rattle.c_check.specs.Acts.{acts, each}
use Rattle.c_check.specs.Tasks.{told_by, told_by_all, left_of, IsThere, AreThere}
use Rattle.c_check.specs.Steps.{Puts, passes, standalone_acts, weight_by}

-- a task is put before the others
pub put : (trees : List Tree) (task : Task) (old new : Walk) → new.tasks.items ≡ old.tasks.items ++ task ∷ [] → IsThere trees task → AreThere trees old → Puts trees (told_by trees task) (weight_by trees task) old new
unfolding told_by_all
put trees task old new pushed is are = record {
  tells = ap (λ items. told_by_all trees (reverse items)) pushed ∙ ap (told_by_all trees) (reverse-append old.tasks.items (task ∷ []));
  there = All-same (IsThere trees) new.tasks.items (old.tasks.items ++ task ∷ []) pushed (All-push (IsThere trees) old.tasks.items task are is);
  weighs = omega (arith, ap (sum_by (weight_by trees)) pushed, sum_by-append (weight_by trees) old.tasks.items (task ∷ []));
}

-- nothing is put
pub keep : (trees : List Tree) (limit : ℕ) (walk : Walk) → AreThere trees walk → Puts trees [] limit walk walk
keep trees limit walk are = record { tells = refl; there = are; weighs = omega arith }

-- what is put later comes first
pub both : {trees : List Tree} {first second : List Act} {one two : ℕ} {old mid new : Walk} → Puts trees first one old mid → Puts trees second two mid new → Puts trees (second ++ first) (one + two) old new
both {trees} {first} {second} {one} {two} {old} {mid} {new} before after = record {
  tells = after.tells ∙ ap (λ rest. second ++ rest) before.tells ∙ sym (append_assoc second first (left_of trees old));
  there = after.there;
  weighs = omega (arith, before.weighs, after.weighs);
}

-- the same acts, and no more weight
pub puts_as : {trees : List Tree} {told other : List Act} {limit more : ℕ} {old new : Walk} → told ≡ other → limit ≤ more → Puts trees told limit old new → Puts trees other more old new
puts_as {trees} {told} {other} {limit} {more} {old} {new} same lighter puts = record {
  tells = puts.tells ∙ ap (λ (acts : List Act). acts ++ left_of trees old) same;
  there = puts.there;
  weighs = omega (arith, puts.weighs);
}

-- what a node of a kind does
pub acts_of : (around : Role) (kind : NodeKind) (tree : Tree) → kind ≡ kind_of tree → acts around (Node kind (spot_of tree) (name_of tree) (number_of tree) (text_of tree) (children_of tree)) ≡ acts around tree
acts_of around kind (Node other spot name number text children) at = ap (λ (one : NodeKind). acts around (Node one spot name number text children)) at

pub keep_as : {trees : List Tree} {walk : Walk} (told : List Act) (limit : ℕ) → told ≡ [] → AreThere trees walk → Puts trees told limit walk walk
keep_as {trees} {walk} told limit none are = puts_as (sym none) (omega arith) (keep trees limit walk are)

-- what a node does that does what its children do
pub acts_passing : (around : Role) (kind : NodeKind) (tree : Tree) → kind ≡ kind_of tree → passes kind ≡ true → each role.Plain (children_of tree) ≡ acts around tree
unfolding acts
acts_passing around kind tree at passing = sym (by-kind kind (spot_of tree) (name_of tree) (number_of tree) (text_of tree) (children_of tree) passing) ∙ acts_of around kind tree at
  where
    by-kind : (kind : NodeKind) (spot : Spot) (name number : ℕ) (text : List ℕ) (children : Children) → passes kind ≡ true → acts around (Node kind spot name number text children) ≡ each role.Plain children
    by-kind node.Program spot name number text children passing = refl
    by-kind node.Globals spot name number text children passing = refl
    by-kind node.Locals spot name number text children passing = refl
    by-kind node.If spot name number text children passing = refl
    by-kind node.While spot name number text children passing = refl
    by-kind node.Step spot name number text children passing = refl
    by-kind node.Called spot name number text children passing = refl
    by-kind (node.Binary operator) spot name number text children passing = refl
    by-kind (node.Unary operator) spot name number text children passing = refl
    by-kind node.Paren spot name number text children passing = refl
    by-kind node.Section spot name number text children passing = refl
    by-kind other spot name number text children passing = absurd (false≢true passing)

pub acts_standalone : (around : Role) (which : Standalone) (tree : Tree) → node.Standalone which ≡ kind_of tree → standalone_acts which (spot_of tree) ≡ acts around tree
unfolding acts
acts_standalone around standalone.Barrier tree at = acts_of around (node.Standalone standalone.Barrier) tree at
acts_standalone around standalone.Taskwait tree at = acts_of around (node.Standalone standalone.Taskwait) tree at

-- the next task is taken
module _ (trees : List Tree) (old new : Walk) (next : Task) (popped : old.tasks.items ≡ new.tasks.items ++ next ∷ []) where
  pub taken_tells : left_of trees old ≡ told_by trees next ++ left_of trees new
  unfolding told_by_all
  taken_tells = ap (λ (items : List Task). told_by_all trees (reverse items)) popped ∙ ap (told_by_all trees) (reverse-append new.tasks.items (next ∷ []))

-- no task is left
pub none_left : (trees : List Tree) (walk : Walk) → length walk.tasks.items ≡ 0 → left_of trees walk ≡ []
unfolding told_by_all
none_left trees walk none = ap (λ (items : List Task). told_by_all trees (reverse items)) (nil_from_length walk.tasks.items none)
