-- The open nodes of a tree that grows.
use Rattle.std.specs.Prelude.{ℕ, ◌≤◌, List, [], ◌∷◌, map, reverse, take, drop, Option}
use Rattle.std.specs.Option.{option_map}
use Rattle.c_syntax.specs.declared.growth.OpenNode.{OpenNode}
use Rattle.c_syntax.specs.language.Tree.{Tree}
use Rattle.c_syntax.specs.workings.Derivation.{Opened}
use Rattle.c_syntax.specs.language.Numbered.{tree_at}

-- open nodes, the innermost first. Their children and the bytes that they keep lie one after another, those of the innermost last
abbrev pub opened_nodes : List Tree → List (Option ℕ) → List ℕ → List OpenNode → List Opened
opened_nodes trees children texts [] = []
opened_nodes trees children texts (node ∷ outer) =
    record { spot = node.spot; name = node.name; number = node.number; text = drop node.text texts; children = reverse (map (option_map (tree_at trees)) (drop node.children children)) }
    ∷ opened_nodes trees (take node.children children) (take node.text texts) outer

-- each begins within these, and keeps a number that is one
abbrev pub AreOpen : List OpenNode → ℕ → ℕ → Type 0
AreOpen [] children texts = Unit {0}
AreOpen (node ∷ outer) children texts = (node.children ≤ children) × ((node.text ≤ texts) × ((node.number ≤ 2147483647) × AreOpen outer node.children node.text))
