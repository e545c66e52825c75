-- Whether a name stands in what isn't looked at yet of an expression: nodes, each with the place of the child that is next.
use Rattle.std.proofs.Common.{◌≡◌, ℕ, Bool, ◌+◌, ◌<◌, ◌&&◌, ◌||◌, ◌==◌, true, false, List, [], ◌∷◌, ◌++◌, length, Some, None, sum_by, refl, sym, ap, ◌∙◌, arith}
use Rattle.std.specs.List.{All, list_any}
use Rattle.std.proofs.lemmas.List.Elements.{All-nil, All-pop, All-push, All-same}
use Rattle.std.proofs.lemmas.Bool.{or_right}
use Rattle.std.proofs.lemmas.List.Folds.{list_any-append}
use Rattle.std.proofs.lemmas.List.Sums.{sum_by-append}
use Rattle.c_syntax.specs.language.Tree.{Tree, Children, at_place, child_of, children_of, kind_of, name_of}
use Rattle.c_syntax.specs.language.Tree.Tree.{Node}
use Rattle.c_syntax.specs.language.Numbered.{tree_at}
use Rattle.c_check.specs.Loops.{is_place, stands_in, stands_among}
use Rattle.c_check.specs.Tasks.{from_place, children_left}
use Rattle.c_check.specs.Weights.{weight_among}
use Rattle.c_check.proofs.Weighing.{weighs_child, weight_children}
use Rattle.c_check.proofs.Behind.{behind_child, behind_none}

-- whether a node is a place with this name
abbrev pub is_named : ℕ → Tree → Bool
is_named name tree = is_place (kind_of tree) && name_of tree == name

pub stands_named : (name : ℕ) (tree : Tree) → is_named name tree ≡ true → stands_in name tree ≡ true
unfolding stands_in
stands_named name (Node kind spot other number text children) named = rw named refl

pub stands_unnamed : (name : ℕ) (tree : Tree) → is_named name tree ≡ false → stands_in name tree ≡ stands_among name (from_place 0 (children_of tree))
unfolding stands_in from_place
stands_unnamed name (Node kind spot other number text children) named = rw named refl

stands_over : (name : ℕ) (children : Children) (place : ℕ) → None ≡ at_place children place → stands_among name (from_place place children) ≡ false
unfolding stands_among
stands_over name children place at = behind_none (stands_among name) false refl (λ rest. refl) children place at

stands_child : (name : ℕ) (children : Children) (place next : ℕ) (tree : Tree) → Some tree ≡ at_place children place → next ≡ place + 1 → stands_among name (from_place place children) ≡ (stands_in name tree || stands_among name (from_place next children))
unfolding stands_among
stands_child name children place next tree at after = ap (stands_among name) (behind_child children place next tree at after)

or-false : (found : Bool) → (found || false) ≡ found
or-false true = refl
or-false false = refl

-- the last of a list
list_any-last : {X : Type 0} (test : X → Bool) (items rest : List X) (last : X) → items ≡ rest ++ last ∷ [] → list_any test items ≡ (list_any test rest || test last)
list_any-last test items rest last ends = ap (list_any test) ends ∙ list_any-append test rest (last ∷ []) ∙ ap (λ found. list_any test rest || found) (or-false (test last))

sum_by-last : {X : Type 0} (measure : X → ℕ) (items rest : List X) (last : X) → items ≡ rest ++ last ∷ [] → sum_by measure items ≡ sum_by measure rest + measure last
sum_by-last measure items rest last ends = omega (arith, ap (sum_by measure) ends, sum_by-append measure rest (last ∷ []))

module _ (trees : List Tree) (name : ℕ) where
  abbrev among : ℕ × ℕ → Bool
  among at = stands_among name (children_left trees at.0 at.1)

  abbrev IsThere : ℕ × ℕ → Type 0
  IsThere at = at.0 < length trees

  abbrev heavy : ℕ × ℕ → ℕ
  heavy at = weight_among (children_left trees at.0 at.1) + 1

  -- the expression itself
  pub looked-first : (expression : ℕ) (items rest : List (ℕ × ℕ)) → rest ≡ [] → items ≡ rest ++ (expression, 0) ∷ [] → is_named name (tree_at trees expression) ≡ false → list_any among items ≡ stands_in name (tree_at trees expression)
  looked-first expression items rest none pushed named =
      list_any-last among items rest (expression, 0) pushed ∙ rw (none, stands_unnamed name (tree_at trees expression) named) refl

  pub there-first : (expression : ℕ) (items rest : List (ℕ × ℕ)) → rest ≡ [] → items ≡ rest ++ (expression, 0) ∷ [] → expression < length trees → All IsThere items
  there-first expression items rest none pushed within =
      All-same IsThere items (rest ++ (expression, 0) ∷ []) pushed (All-push IsThere rest (expression, 0) (All-same IsThere rest [] none (All-nil IsThere)) within)

  module _ (items rest : List (ℕ × ℕ)) (node place : ℕ) (popped : items ≡ rest ++ (node, place) ∷ []) where
    -- no child is left at a node
    pub looked-over : None ≡ child_of (tree_at trees node) place → list_any among rest ≡ list_any among items
    looked-over at =
        sym (list_any-last among items rest (node, place) popped ∙ ap (λ found. list_any among rest || found) (stands_over name (children_of (tree_at trees node)) place at) ∙ or-false (list_any among rest))

    pub there-over : All IsThere items → All IsThere rest
    there-over there = (All-pop IsThere items rest (Some (node, place)) popped there).0

    pub there-node : All IsThere items → node < length trees
    there-node there = (All-pop IsThere items rest (Some (node, place)) popped there).1

    pub lighter-over : sum_by heavy rest < sum_by heavy items
    lighter-over = omega (arith, sum_by-last heavy items rest (node, place) popped)

    module _ (child : ℕ) (at : Some (tree_at trees child) ≡ child_of (tree_at trees node) place) where
      -- the child is the name
      pub looked-named : is_named name (tree_at trees child) ≡ true → list_any among items ≡ true
      looked-named named =
          list_any-last among items rest (node, place) popped
          ∙ ap (λ found. list_any among rest || found) (stands_child name (children_of (tree_at trees node)) place (place + 1) (tree_at trees child) at refl ∙ rw (stands_named name (tree_at trees child) named) refl)
          ∙ or_right (list_any among rest) true refl

      module _ (next : ℕ) (once twice : List (ℕ × ℕ)) (after : next ≡ place + 1) (first : once ≡ rest ++ (node, next) ∷ []) (second : twice ≡ once ++ (child, 0) ∷ []) where
        -- the children of the child are looked at next
        pub looked-child : is_named name (tree_at trees child) ≡ false → list_any among twice ≡ list_any among items
        looked-child named =
            let old = list_any-last among items rest (node, place) popped in
            let here = stands_child name (children_of (tree_at trees node)) place next (tree_at trees child) at after in
            let inside = stands_unnamed name (tree_at trees child) named in
            let one = list_any-last among once rest (node, next) first in
            let two = list_any-last among twice once (child, 0) second in
            two ∙ rw (one, old, here, inside) (around (list_any among rest) (among (node, next)) (among (child, 0)))
          where
            around : (a b c : Bool) → ((a || b) || c) ≡ (a || (c || b))
            around true b c = refl
            around false true true = refl
            around false true false = refl
            around false false true = refl
            around false false false = refl

        pub there-child : child < node → All IsThere items → All IsThere twice
        there-child below there =
            let within = there-node there in
            All-same IsThere twice (once ++ (child, 0) ∷ []) second
            (All-push IsThere once (child, 0) (All-same IsThere once (rest ++ (node, next) ∷ []) first (All-push IsThere rest (node, next) (there-over there) within)) (omega arith))

        pub lighter-child : sum_by heavy twice < sum_by heavy items
        lighter-child =
            let old = sum_by-last heavy items rest (node, place) popped in
            let here = weighs_child (children_of (tree_at trees node)) place next (tree_at trees child) at after in
            let one = sum_by-last heavy once rest (node, next) first in
            let two = sum_by-last heavy twice once (child, 0) second in
            omega (arith, weight_children (tree_at trees child))
