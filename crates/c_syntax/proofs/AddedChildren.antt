-- Children that are added to a node one after another, and the node that is made of them.
use Rattle.std.proofs.Common.{◌≡◌, List, [], ◌∷◌, ◌++◌, Option, Some, None, refl}
use Rattle.c_syntax.specs.language.Tree.{Tree, Children, before}
use Rattle.c_syntax.specs.workings.Derivation.{Opened}
use Rattle.c_syntax.specs.language.Productions.{maybe}
use Rattle.c_syntax.proofs.Pushing.{all_added, plus}

-- what is added behind others is added with them
pub added-append : (trees parts : List Tree) (nodes : List Opened) → all_added parts (all_added trees nodes) ≡ all_added (trees ++ parts) nodes
added-append [] parts nodes = refl
added-append (tree ∷ trees) parts nodes = added-append trees parts (plus (Some tree) nodes)

-- a child that may be absent goes before those behind it
pub before-maybe : (child : Option Tree) (older : List (Option Tree)) (children : Children) → before (child ∷ older) children ≡ before older (maybe child children)
before-maybe None older children = refl
before-maybe (Some tree) older children = refl
