-- What the nodes of a table stand for: a node that is added leaves what the others stand for, and each stands over its children.
use Rattle.std.proofs.Common.{◌≡◌, ℕ, zero, suc, ◌+◌, ◌-◌, ◌<◌, ◌≤◌, List, [], ◌∷◌, ◌++◌, length, get_or, take, drop, Option, Some, None, refl, sym, ap, subst, ◌∙◌, inl, inr, arith, length-append}
use Rattle.std.specs.Prelude.{slice_range, IfSome}
use Rattle.std.specs.Option.{option_map}
use Rattle.std.specs.List.{All}
use Rattle.std.proofs.lemmas.List.{length-take, take_all, take-append-le, drop-append-le, get_or_append_left, length-drop}
use Rattle.std.proofs.Math.Seq.{drop-append_seam, get_or-append_seam}
use Rattle.std.proofs.lemmas.Bool.{cases_lt}
use Rattle.std.proofs.Math.Nat.{min-le_left}
use Rattle.c_syntax.specs.declared.nodes.Node as row
use Rattle.c_syntax.specs.language.Tree.{Tree, Children, at_place, child_of, nothing}
use Rattle.c_syntax.specs.language.Tree.Tree.{Node}
use Rattle.c_syntax.specs.language.Tree.Children.{Child, Absent}
use Rattle.c_syntax.specs.language.Numbered.{tree_at, children_at}
use Rattle.c_syntax.specs.workings.Nodes.{AreNodes, IsBelow, IsNode, tree_of, trees_behind}

-- a part of a list stays where the list gets longer
part-stays : {X : Type 0} (xs ys : List X) (start end : ℕ) → start ≤ end → end ≤ length xs → slice_range (xs ++ ys) start end ≡ slice_range xs start end
part-stays xs ys start end ordered within =
    let first : start ≤ length xs = omega arith in
    let rest : end - start ≤ length (drop start xs) = omega (arith, length-drop start xs) in
    ap (take (end - start)) (drop-append-le start xs ys first) ∙ take-append-le (end - start) (drop start xs) ys rest

module _ (children more : List (Option ℕ)) (texts bytes : List ℕ) where
  -- a node stays one where the table gets longer
  IsNode-longer : (number : ℕ) (node : row.Node) → IsNode children texts number node → IsNode (children ++ more) (texts ++ bytes) number node
  IsNode-longer number node is = record {
    value = is.value;
    text_start = is.text_start;
    text_end = omega (arith, is.text_end, length-append texts bytes);
    children_start = is.children_start;
    children_end = omega (arith, is.children_end, length-append children more);
    few_children = is.few_children;
    below = rw (part-stays children more node.children.start node.children.end is.children_start is.children_end) is.below;
  }

  pub AreNodes-longer : (nodes : List row.Node) → AreNodes children texts nodes → AreNodes (children ++ more) (texts ++ bytes) nodes
  AreNodes-longer nodes are number other within = IsNode-longer number (get_or nodes number other) (are number other within)

  tree_of-longer : (trees : List Tree) (number : ℕ) (node : row.Node) → IsNode children texts number node → tree_of (children ++ more) (texts ++ bytes) trees node ≡ tree_of children texts trees node
  tree_of-longer trees number node is =
      rw (part-stays children more node.children.start node.children.end is.children_start is.children_end, part-stays texts bytes node.text.start node.text.end is.text_start is.text_end) refl

  behind-longer : (from : ℕ) (trees : List Tree) (nodes : List row.Node) → ((k : ℕ) (other : row.Node) → k < length nodes → IsNode children texts (from + k) (get_or nodes k other)) → trees_behind (children ++ more) (texts ++ bytes) trees nodes ≡ trees_behind children texts trees nodes
  behind-longer from trees [] are = refl
  behind-longer from trees (node ∷ nodes) are =
      ap (λ (tree : Tree). trees_behind (children ++ more) (texts ++ bytes) (trees ++ tree ∷ []) nodes) (tree_of-longer trees (from + 0) node (are 0 node (omega arith)))
      ∙ behind-longer (from + 1) (trees ++ tree_of children texts trees node ∷ []) nodes (λ k other within. rw (later from k) (are (suc k) other (omega arith)))
    where
      later : (from k : ℕ) → from + 1 + k ≡ from + suc k
      later from k = omega arith

  -- the trees stay where the table gets longer
  pub trees-longer : (nodes : List row.Node) → AreNodes children texts nodes → trees_behind (children ++ more) (texts ++ bytes) [] nodes ≡ trees_behind children texts [] nodes
  trees-longer nodes are = behind-longer 0 [] nodes (λ k other within. rw (zero-plus k) (are k other within))
    where
      zero-plus : (k : ℕ) → 0 + k ≡ k
      zero-plus k = omega arith

module _ (children : List (Option ℕ)) (texts : List ℕ) where
  -- one node more
  pub behind-push : (trees : List Tree) (nodes : List row.Node) (node : row.Node) → trees_behind children texts trees (nodes ++ node ∷ []) ≡ trees_behind children texts trees nodes ++ tree_of children texts (trees_behind children texts trees nodes) node ∷ []
  behind-push trees [] node = refl
  behind-push trees (first ∷ nodes) node = behind-push (trees ++ tree_of children texts trees first ∷ []) nodes node

  pub length-behind : (trees : List Tree) (nodes : List row.Node) → length (trees_behind children texts trees nodes) ≡ length trees + length nodes
  length-behind trees [] = omega arith
  length-behind trees (node ∷ nodes) =
      let rest = length-behind (trees ++ tree_of children texts trees node ∷ []) nodes in
      omega (arith, rest, length-append trees (tree_of children texts trees node ∷ []))

  -- the trees before stay
  behind-before : (trees : List Tree) (nodes : List row.Node) (number : ℕ) → number < length trees → tree_at (trees_behind children texts trees nodes) number ≡ tree_at trees number
  behind-before trees [] number within = refl
  behind-before trees (node ∷ nodes) number within =
      let tree = tree_of children texts trees node in
      behind-before (trees ++ tree ∷ []) nodes number (omega (arith, length-append trees (tree ∷ []))) ∙ get_or_append_left trees (tree ∷ []) nothing number within

-- children are the same where the trees are the same below
children_at-same : (some others : List Tree) (limit : ℕ) (numbers : List (Option ℕ)) → ((number : ℕ) → number < limit → tree_at some number ≡ tree_at others number) → All (IsBelow limit) numbers → children_at some numbers ≡ children_at others numbers
children_at-same some others limit [] same below = refl
children_at-same some others limit (None ∷ numbers) same below = ap Absent (children_at-same some others limit numbers same (λ k d within. below (suc k) d (omega arith)))
children_at-same some others limit (Some number ∷ numbers) same below =
    λ i. Child (same number (below 0 None (omega arith)) i) (children_at-same some others limit numbers same (λ k d within. below (suc k) d (omega arith)) i)

module _ (children : List (Option ℕ)) (texts : List ℕ) where
  tree_of-same : (some others : List Tree) (number : ℕ) (node : row.Node) → ((k : ℕ) → k < number → tree_at some k ≡ tree_at others k) → IsNode children texts number node → tree_of children texts some node ≡ tree_of children texts others node
  tree_of-same some others number node same is =
      ap (λ (inner : Children). Node node.label.kind node.label.spot node.label.name node.label.number (slice_range texts node.text.start node.text.end) inner)
      (children_at-same some others number (slice_range children node.children.start node.children.end) same is.below)

  behind-at : (trees : List Tree) (nodes : List row.Node) (number k : ℕ) (other : row.Node) → ((k : ℕ) (other : row.Node) → k < length nodes → IsNode children texts (length trees + k) (get_or nodes k other)) → k < length nodes → number ≡ length trees + k → tree_at (trees_behind children texts trees nodes) number ≡ tree_of children texts (trees_behind children texts trees nodes) (get_or nodes k other)
  behind-at trees [] number k other are within same = absurd (omega arith)
  behind-at trees (node ∷ nodes) number zero other are within same =
      let tree = tree_of children texts trees node in
      let all = trees_behind children texts (trees ++ tree ∷ []) nodes in
      let longer : length (trees ++ tree ∷ []) ≡ length trees + 1 = length-append trees (tree ∷ []) in
      let earlier : (j : ℕ) → j < length trees → tree_at trees j ≡ tree_at all j =
      λ j before. sym (behind-before children texts (trees ++ tree ∷ []) nodes j (omega arith) ∙ get_or_append_left trees (tree ∷ []) nothing j before) in
      let here : tree_at all (length trees) ≡ tree = behind-before children texts (trees ++ tree ∷ []) nodes (length trees) (omega arith) ∙ get_or-append_seam trees tree [] nothing in
      let at : number ≡ length trees = omega arith in
      ap (tree_at all) at ∙ here ∙ tree_of-same trees all (length trees) node earlier (rw plus-zero at (are 0 node (omega arith)))
    where
      plus-zero : (n : ℕ) → n + 0 ≡ n
      plus-zero n = omega arith
  behind-at trees (node ∷ nodes) number (suc k) other are within same =
      let tree = tree_of children texts trees node in
      let longer : length (trees ++ tree ∷ []) ≡ length trees + 1 = length-append trees (tree ∷ []) in
      behind-at (trees ++ tree ∷ []) nodes number k other (λ j d before. rw (later (length trees) (length (trees ++ tree ∷ [])) j longer) (are (suc j) d (omega arith))) (omega arith) (omega arith)
    where
      later : (n m j : ℕ) → m ≡ n + 1 → m + j ≡ n + suc j
      later n m j e = omega arith

  -- each node stands over those that its children have the numbers of
  pub trees-at : (nodes : List row.Node) (number : ℕ) (other : row.Node) → AreNodes children texts nodes → number < length nodes → tree_at (trees_behind children texts [] nodes) number ≡ tree_of children texts (trees_behind children texts [] nodes) (get_or nodes number other)
  trees-at nodes number other are within =
      behind-at [] nodes number number other (λ k d before. rw (zero-plus k) (are k d before)) within (sym (zero-plus number))
    where
      zero-plus : (k : ℕ) → 0 + k ≡ k
      zero-plus k = omega arith

  pub AreNodes-push : (nodes : List row.Node) (node : row.Node) → AreNodes children texts nodes → IsNode children texts (length nodes) node → AreNodes children texts (nodes ++ node ∷ [])
  AreNodes-push nodes node are is number other within =
      elim (cases_lt number (length nodes)) [
        | inl before ↦ rw (get_or_append_left nodes (node ∷ []) other number before) (are number other before)
        | inr past ↦ let last : number ≡ length nodes = omega (arith, length-append nodes (node ∷ [])) in rw (last, get_or-append_seam nodes node [] other) is
      ]

-- the child at a place
pub at_place-children_at : (trees : List Tree) (numbers : List (Option ℕ)) (place : ℕ) → at_place (children_at trees numbers) place ≡ option_map (tree_at trees) (get_or numbers place None)
at_place-children_at trees [] place = refl
at_place-children_at trees (None ∷ numbers) zero = refl
at_place-children_at trees (Some number ∷ numbers) zero = refl
at_place-children_at trees (None ∷ numbers) (suc place) = at_place-children_at trees numbers place
at_place-children_at trees (Some number ∷ numbers) (suc place) = at_place-children_at trees numbers place

-- what a node of the table is, where the table stands for these trees
pub record StandsAt (children : List (Option ℕ)) (texts : List ℕ) (trees : List Tree) (number : ℕ) (node : row.Node) : Type 0 where
  pub is : IsNode children texts number node
  pub tree : tree_at trees number ≡ tree_of children texts trees node

pub length-trees : (children : List (Option ℕ)) (texts : List ℕ) (nodes : List row.Node) (trees : List Tree) → trees_behind children texts [] nodes ≡ trees → length trees ≡ length nodes
length-trees children texts nodes trees same = omega (arith, length-behind children texts [] nodes, ap length same)

pub stands_at : (children : List (Option ℕ)) (texts : List ℕ) (nodes : List row.Node) (trees : List Tree) (number : ℕ) (node : row.Node) → trees_behind children texts [] nodes ≡ trees → AreNodes children texts nodes → number < length trees → node ≡ get_or nodes number node → StandsAt children texts trees number node
stands_at children texts nodes trees number node same are within found =
    let before : number < length nodes = omega (arith, length-trees children texts nodes trees same) in
    let over : (others : List Tree) → Type 0 = λ others. tree_at others number ≡ tree_of children texts others node in
    record {
      is = rw found (are number node before);
      tree = subst over same (trees-at children texts nodes number node are before ∙ ap (tree_of children texts (trees_behind children texts [] nodes)) (sym found));
    }

module _ (children : List (Option ℕ)) (texts : List ℕ) (trees : List Tree) (number : ℕ) (node : row.Node) (place : ℕ) where
  abbrev own : List (Option ℕ)
  own = slice_range children node.children.start node.children.end

  pub child-at : (child : Option ℕ) → StandsAt children texts trees number node → child ≡ get_or own place None → option_map (tree_at trees) child ≡ child_of (tree_at trees number) place
  child-at child at found =
      ap (option_map (tree_at trees)) found ∙ sym (at_place-children_at trees own place) ∙ sym (ap (λ tree. child_of tree place) at.tree)

  pub child-before : (child : Option ℕ) → StandsAt children texts trees number node → place < length own → child ≡ get_or own place None → IfSome child (λ child. child < number)
  child-before child at within found = below child (rw found (at.is.below place None within))
    where
      below : (child : Option ℕ) → IsBelow number child → IfSome child (λ child. child < number)
      below None is = tt
      below (Some child) is = is

  -- there is a place behind each child
  pub child-fits : (child : Option ℕ) → StandsAt children texts trees number node → place < length own → IfSome child (λ child. place + 1 < 4294967295)
  child-fits child at within =
      let size : length own ≤ node.children.end - node.children.start = rw (length-take (node.children.end - node.children.start) (drop node.children.start children)) (min-le_left _ _) in
      fits child (omega (arith, at.is.few_children, at.is.children_start))
    where
      fits : (child : Option ℕ) → place + 1 < 4294967295 → IfSome child (λ child. place + 1 < 4294967295)
      fits None is = tt
      fits (Some child) is = is

-- a node whose text and children lie last in the table
pub record LiesLast (children : List (Option ℕ)) (own : List (Option ℕ)) (texts text : List ℕ) (node : row.Node) : Type 0 where
  pub text_start : node.text.start ≡ length texts
  pub text_end : node.text.end ≡ length (texts ++ text)
  pub children_start : node.children.start ≡ length children
  pub children_end : node.children.end ≡ length (children ++ own)

last-part : {X : Type 0} (xs ys : List X) (start end : ℕ) → start ≡ length xs → end ≡ length (xs ++ ys) → slice_range (xs ++ ys) start end ≡ ys
last-part xs ys start end starts ends =
    let rest : drop start (xs ++ ys) ≡ ys = rw starts (drop-append_seam xs ys) in
    let whole : length ys ≤ end - start = omega (arith, length-append xs ys) in
    ap (take (end - start)) rest ∙ take_all (end - start) ys whole

module _ (children : List (Option ℕ)) (own : List (Option ℕ)) (texts text : List ℕ) (nodes : List row.Node) (node : row.Node) (lies : LiesLast children own texts text node) where
  IsNode-last : (number : ℕ) → node.label.number ≤ 2147483647 → length own < 4294967295 → All (IsBelow number) own → IsNode (children ++ own) (texts ++ text) number node
  IsNode-last number value few below = record {
    value = value;
    text_start = omega (arith, lies.text_start, lies.text_end, length-append texts text);
    text_end = omega (arith, lies.text_end);
    children_start = omega (arith, lies.children_start, lies.children_end, length-append children own);
    children_end = omega (arith, lies.children_end);
    few_children = omega (arith, lies.children_start, lies.children_end, length-append children own);
    below = rw (last-part children own node.children.start node.children.end lies.children_start lies.children_end) below;
  }

  pub AreNodes-added : AreNodes children texts nodes → node.label.number ≤ 2147483647 → length own < 4294967295 → All (IsBelow (length nodes)) own → AreNodes (children ++ own) (texts ++ text) (nodes ++ node ∷ [])
  AreNodes-added are value few below =
      AreNodes-push (children ++ own) (texts ++ text) nodes node (AreNodes-longer children own texts text nodes are) (IsNode-last (length nodes) value few below)

  pub trees-added : (trees : List Tree) → trees_behind children texts [] nodes ≡ trees → AreNodes children texts nodes → trees_behind (children ++ own) (texts ++ text) [] (nodes ++ node ∷ []) ≡ trees ++ Node node.label.kind node.label.spot node.label.name node.label.number text (children_at trees own) ∷ []
  trees-added trees same are =
      let before : trees_behind (children ++ own) (texts ++ text) [] nodes ≡ trees = trees-longer children own texts text nodes are ∙ same in
      behind-push (children ++ own) (texts ++ text) [] nodes node
      ∙ rw (before, last-part children own node.children.start node.children.end lies.children_start lies.children_end, last-part texts text node.text.start node.text.end lies.text_start lies.text_end) refl
