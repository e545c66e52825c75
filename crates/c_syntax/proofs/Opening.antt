-- The open nodes of a tree as nodes are made: what stays, and what a child more changes.
use Rattle.std.proofs.Common.{◌≡◌, ℕ, suc, ◌+◌, ◌≤◌, List, [], ◌∷◌, ◌++◌, length, map, reverse, take, drop, Option, Some, None, refl, sym, ap, subst, ◌∙◌, arith, length-append}
use Rattle.std.specs.Option.{option_map}
use Rattle.std.specs.List.{All}
use Rattle.std.proofs.lemmas.List.{map-append, reverse-append, take-append-le, drop-append-le, get_or_append_left, length-take-le}
use Rattle.std.proofs.lemmas.List.Elements.{All-drop, All-push, All-take}
use Rattle.std.proofs.Math.Seq.{get_or-append_seam}
use Rattle.c_syntax.specs.declared.growth.OpenNode.{OpenNode}
use Rattle.c_syntax.specs.declared.node.NodeKind.{NodeKind}
use Rattle.c_syntax.specs.language.Tree.{Tree, Children, before, children_from, nothing}
use Rattle.c_syntax.specs.language.Tree.Tree.{Node}
use Rattle.c_syntax.specs.language.Tree.Children.{Over, Child, Absent}
use Rattle.c_syntax.specs.workings.Derivation.{Opened, made, name_in}
use Rattle.c_syntax.specs.language.Numbered.{tree_at, children_at}
use Rattle.c_syntax.specs.workings.Nodes.{IsBelow}
use Rattle.c_syntax.specs.workings.Growth.{AreOpen, opened_nodes}

-- the children with these numbers, the last one first
abbrev pub newest_first : List Tree → List (Option ℕ) → List (Option Tree)
newest_first trees numbers = reverse (map (option_map (tree_at trees)) numbers)

reverse-push : {X : Type 0} (xs : List X) (x : X) → reverse (xs ++ x ∷ []) ≡ x ∷ reverse xs
reverse-push xs x = reverse-append xs (x ∷ [])

-- numbers of trees stay those of trees, and of the same ones
pub AllBelow-more : (numbers : List (Option ℕ)) (few many : ℕ) → few ≤ many → All (IsBelow few) numbers → All (IsBelow many) numbers
AllBelow-more numbers few many more below k d within = higher _ (below k d within)
  where
    higher : (child : Option ℕ) → IsBelow few child → IsBelow many child
    higher None is = tt
    higher (Some number) is = omega arith

map-stays : (trees more : List Tree) (numbers : List (Option ℕ)) → All (IsBelow (length trees)) numbers → map (option_map (tree_at (trees ++ more))) numbers ≡ map (option_map (tree_at trees)) numbers
map-stays trees more [] below = refl
map-stays trees more (None ∷ numbers) below = ap (λ rest. None ∷ rest) (map-stays trees more numbers (λ k d within. below (suc k) d (omega arith)))
map-stays trees more (Some number ∷ numbers) below =
    λ i. Some (get_or_append_left trees more nothing number (below 0 None (omega arith)) i) ∷ map-stays trees more numbers (λ k d within. below (suc k) d (omega arith)) i

opened-stays : (trees more : List Tree) (children : List (Option ℕ)) (texts : List ℕ) (nodes : List OpenNode) → All (IsBelow (length trees)) children → opened_nodes (trees ++ more) children texts nodes ≡ opened_nodes trees children texts nodes
opened-stays trees more children texts [] below = refl
opened-stays trees more children texts (node ∷ outer) below =
    λ i. record { spot = node.spot; name = node.name; number = node.number; text = drop node.text texts; children = reverse (map-stays trees more (drop node.children children) (All-drop (IsBelow (length trees)) node.children children below) i) }
    ∷ opened-stays trees more (take node.children children) (take node.text texts) outer (All-take (IsBelow (length trees)) node.children children below) i

-- the innermost node has these children more, the last one first
abbrev pub with_newer : List (Option Tree) → List Opened → List Opened
with_newer newer [] = []
with_newer newer (node ∷ outer) = record node { children = newer ++ node.children } ∷ outer

pub opened-append : (trees : List Tree) (children newer : List (Option ℕ)) (texts : List ℕ) (node : OpenNode) (outer : List OpenNode) → node.children ≤ length children → opened_nodes trees (children ++ newer) texts (node ∷ outer) ≡ with_newer (newest_first trees newer) (opened_nodes trees children texts (node ∷ outer))
opened-append trees children newer texts node outer within =
    let seen = option_map (tree_at trees) in
    rw (drop-append-le node.children children newer within, take-append-le node.children children newer within, map-append seen (drop node.children children) newer, reverse-append (map seen (drop node.children children)) (map seen newer)) refl

-- a tree is added to these, and has the number that is added to the children
pub record Puts (trees : List Tree) (tree : Tree) (children : List (Option ℕ)) (grown : List Tree) (more : List (Option ℕ)) (number : ℕ) : Type 0 where
  pub added : grown ≡ trees ++ tree ∷ []
  pub numbered : number ≡ length trees
  pub pushed : more ≡ children ++ Some number ∷ []

module _ (trees : List Tree) (tree : Tree) (children : List (Option ℕ)) (grown : List Tree) (more : List (Option ℕ)) (number : ℕ) (puts : Puts trees tree children grown more number) where
  more-is : more ≡ children ++ Some (length trees) ∷ []
  more-is = puts.pushed ∙ ap (λ (number : ℕ). children ++ Some number ∷ []) puts.numbered

  -- it is the newest child of the innermost node
  pub opened-puts : (texts : List ℕ) (node : OpenNode) (outer : List OpenNode) → node.children ≤ length children → All (IsBelow (length trees)) children → opened_nodes grown more texts (node ∷ outer) ≡ with_newer (Some tree ∷ []) (opened_nodes trees children texts (node ∷ outer))
  opened-puts texts node outer within below =
      (λ i. opened_nodes (puts.added i) (more-is i) texts (node ∷ outer))
      ∙ opened-append (trees ++ tree ∷ []) children (Some (length trees) ∷ []) texts node outer within
      ∙ (λ i. with_newer (Some (get_or-append_seam trees tree [] nothing i) ∷ []) (opened-stays trees (tree ∷ []) children texts (node ∷ outer) below i))

  pub AllBelow-puts : All (IsBelow (length trees)) children → All (IsBelow (length grown)) more
  AllBelow-puts below =
      let longer : length grown ≡ length trees + 1 = omega (arith, ap length puts.added, length-append trees (tree ∷ [])) in
      rw more-is (All-push (IsBelow (length grown)) children (Some (length trees)) (AllBelow-more children (length trees) (length grown) (omega arith) below) (omega arith))

before-append : (some others : List (Option Tree)) (children : Children) → before (some ++ others) children ≡ before others (before some children)
before-append [] others children = refl
before-append (None ∷ some) others children = before-append some others (Absent children)
before-append (Some tree ∷ some) others children = before-append some others (Child tree children)

children_from-newest_first : (trees : List Tree) (numbers : List (Option ℕ)) → children_from (newest_first trees numbers) ≡ children_at trees numbers
children_from-newest_first trees [] = refl
children_from-newest_first trees (None ∷ numbers) =
    let rest = map (option_map (tree_at trees)) numbers in
    ap children_from (reverse-append (None ∷ []) rest) ∙ before-append (reverse rest) (None ∷ []) Over ∙ ap Absent (children_from-newest_first trees numbers)
children_from-newest_first trees (Some number ∷ numbers) =
    let rest = map (option_map (tree_at trees)) numbers in
    ap children_from (reverse-append (Some (tree_at trees number) ∷ []) rest) ∙ before-append (reverse rest) (Some (tree_at trees number) ∷ []) Over ∙ ap (Child (tree_at trees number)) (children_from-newest_first trees numbers)

AreOpen-more : (nodes : List OpenNode) (children more texts most : ℕ) → children ≤ more → texts ≤ most → AreOpen nodes children texts → AreOpen nodes more most
AreOpen-more [] children more texts most above beyond are = tt
AreOpen-more (node ∷ outer) children more texts most above beyond are = (omega arith, (omega arith, (are.1.1.0, are.1.1.1)))

-- the innermost node is over
module _ (trees : List Tree) (children : List (Option ℕ)) (texts : List ℕ) (node parent : OpenNode) (outer rest : List OpenNode) (last : outer ≡ rest ++ parent ∷ []) (are : AreOpen (node ∷ reverse outer) (length children) (length texts)) where
  reversed : reverse outer ≡ parent ∷ reverse rest
  reversed = ap reverse last ∙ reverse-push rest parent

  both : AreOpen (node ∷ parent ∷ reverse rest) (length children) (length texts)
  both = subst (λ (nodes : List OpenNode). AreOpen (node ∷ nodes) (length children) (length texts)) reversed are

  pub AreOpen-without : AreOpen (node ∷ reverse rest) (length children) (length texts)
  AreOpen-without = (both.0, (both.1.0, (both.1.1.0, AreOpen-more (reverse rest) parent.children node.children parent.text node.text both.1.1.1.0 both.1.1.1.1.0 both.1.1.1.1.1.1)))

  -- the node that it becomes
  abbrev pub tree_made : NodeKind → Tree
  tree_made kind = Node kind node.spot (name_in kind node.name) node.number (drop node.text texts) (children_at trees (drop node.children children))

  module _ (kind : NodeKind) (grown : List Tree) (more : List (Option ℕ)) (number : ℕ) (text : List ℕ) (puts : Puts trees (tree_made kind) (take node.children children) grown more number) (text_is : text ≡ take node.text texts) where
    pub AreOpen-made : AreOpen (parent ∷ reverse rest) (length more) (length text)
    AreOpen-made =
        AreOpen-more (parent ∷ reverse rest) node.children (length more) node.text (length text)
        (omega (arith, ap length puts.pushed, length-append (take node.children children) (Some number ∷ []), length-take-le node.children children both.0))
        (omega (arith, ap length text_is, length-take-le node.text texts both.1.0)) both.1.1.1

    pub opened-made : (old : List Opened) → All (IsBelow (length trees)) children → opened_nodes trees children texts (node ∷ reverse outer) ≡ old → opened_nodes grown more text (parent ∷ reverse rest) ≡ made kind old
    opened-made old below seen =
        let within : parent.children ≤ length (take node.children children) = omega (arith, length-take-le node.children children both.0, both.1.1.1.0) in
        let inner = opened_nodes trees (take node.children children) (take node.text texts) (parent ∷ reverse rest) in
        ap (λ text. opened_nodes grown more text (parent ∷ reverse rest)) text_is
        ∙ opened-puts trees (tree_made kind) (take node.children children) grown more number puts (take node.text texts) parent (reverse rest) within (All-take (IsBelow (length trees)) node.children children below)
        ∙ ap (λ (own : Children). with_newer (Some (Node kind node.spot (name_in kind node.name) node.number (drop node.text texts) own) ∷ []) inner) (sym (children_from-newest_first trees (drop node.children children)))
        ∙ ap (λ (nodes : List OpenNode). made kind (opened_nodes trees children texts (node ∷ nodes))) (sym reversed)
        ∙ ap (made kind) seen
