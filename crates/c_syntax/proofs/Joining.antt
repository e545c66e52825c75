-- The last children of the innermost open node become those of one node.
use Rattle.std.proofs.Common.{◌≡◌, ℕ, ◌-◌, ◌≤◌, List, [], ◌∷◌, ◌++◌, length, map, reverse, take, drop, Option, Some, None, refl, sym, ap, subst, ◌∙◌, arith, length-append}
use Rattle.std.specs.Prelude.{slice_range}
use Rattle.std.specs.Option.{option_map}
use Rattle.std.specs.List.{All}
use Rattle.std.proofs.lemmas.List.{append_assoc, length-take-le, map-append, reverse-append, reverse-reverse, take-append-drop, take_rest}
use Rattle.std.proofs.lemmas.List.Elements.{All-drop, All-take}
use Rattle.std.proofs.Math.Seq.{drop-append_seam, take-append_seam}
use Rattle.c_syntax.specs.declared.growth.OpenNode.{OpenNode}
use Rattle.c_syntax.specs.declared.node.NodeKind.{NodeKind}
use Rattle.c_syntax.specs.language.Tree.{Tree, nothing}
use Rattle.c_syntax.specs.workings.Derivation.{Opened, join_children, joined, newest, result_of, wrap_children, wrapped}
use Rattle.c_syntax.specs.workings.LastChildren.{last_of, last_two_of}
use Rattle.c_syntax.specs.language.Numbered.{tree_at}
use Rattle.c_syntax.specs.workings.Nodes.{IsBelow}
use Rattle.c_syntax.specs.workings.Growth.{AreOpen, opened_nodes}
use Rattle.c_syntax.proofs.Opening.{AllBelow-puts, Puts, newest_first, opened-append, opened-puts, with_newer}

-- a list ends with these, which are behind its start
pub record EndsWith (start : ℕ) (xs ends : List (Option ℕ)) : Type 0 where
  pub whole : xs ≡ take (length xs - length ends) xs ++ ends
  pub behind : start ≤ length (take (length xs - length ends) xs)

ends_with : (start : ℕ) (xs front ends : List (Option ℕ)) → start ≤ length xs → drop start xs ≡ front ++ ends → EndsWith start xs ends
ends_with start xs front ends within split =
    let before = take start xs ++ front in
    let whole : xs ≡ before ++ ends = sym (take-append-drop start xs) ∙ ap (λ rest. take start xs ++ rest) split ∙ sym (append_assoc (take start xs) front ends) in
    let count : length xs - length ends ≡ length before = omega (arith, ap length whole, length-append before ends) in
    let kept : take (length xs - length ends) xs ≡ before = (λ i. take (count i) (whole i)) ∙ take-append_seam before ends in
    record {
      whole = whole ∙ ap (λ front. front ++ ends) (sym kept);
      behind = omega (arith, ap length kept, length-append (take start xs) front, length-take-le start xs within);
    }

-- what holds of all holds of those
pub All-ends : (P : Option ℕ → Type 0) (start : ℕ) (xs ends : List (Option ℕ)) → EndsWith start xs ends → All P xs → All P ends
All-ends P start xs ends at all =
    let front = take (length xs - length ends) xs in
    let rest : drop (length front) xs ≡ ends = ap (drop (length front)) at.whole ∙ drop-append_seam front ends in
    subst (λ (ys : List (Option ℕ)). All P ys) rest (All-drop P (length front) xs all)

last_of-some : (newest : List (Option ℕ)) (last : ℕ) → Some last ≡ last_of newest → (older : List (Option ℕ)) × (newest ≡ Some last ∷ older)
last_of-some [] last is = cc
last_of-some (None ∷ older) last is = cc
last_of-some (Some first ∷ older) last is = (older, cc)

last_two_of-some : (newest : List (Option ℕ)) (left right : ℕ) → Some (left, right) ≡ last_two_of newest → (older : List (Option ℕ)) × (newest ≡ Some right ∷ Some left ∷ older)
last_two_of-some [] left right is = cc
last_two_of-some (None ∷ older) left right is = cc
last_two_of-some (Some first ∷ []) left right is = cc
last_two_of-some (Some first ∷ None ∷ older) left right is = cc
last_two_of-some (Some first ∷ Some second ∷ older) left right is =
    let same : ◌≡◌ {A = ℕ × ℕ} (left, right) (second, first) = cc in
    let here : left ≡ second = ap (λ pair. pair.0) same in
    let there : right ≡ first = ap (λ pair. pair.1) same in
    (older, cc)

-- the rest of a list from a start on, as a slice has it
abbrev rest_from : ℕ → List (Option ℕ) → List (Option ℕ)
rest_from start xs = slice_range xs start (length xs)

rest_from-is : (start : ℕ) (xs now : List (Option ℕ)) → now ≡ xs → rest_from start now ≡ drop start xs
rest_from-is start xs now same = take_rest now start ∙ ap (drop start) same

pub ends-one : (start : ℕ) (xs now : List (Option ℕ)) (last : ℕ) → now ≡ xs → start ≤ length xs → Some last ≡ last_of (reverse (rest_from start now)) → EndsWith start xs (Some last ∷ [])
ends-one start xs now last same within is =
    let some = last_of-some (reverse (drop start xs)) last (is ∙ ap (λ own. last_of (reverse own)) (rest_from-is start xs now same)) in
    ends_with start xs (reverse some.0) (Some last ∷ []) within (sym (reverse-reverse (drop start xs)) ∙ ap reverse some.1 ∙ reverse-append (Some last ∷ []) some.0)

pub ends-two : (start : ℕ) (xs now : List (Option ℕ)) (left right : ℕ) → now ≡ xs → start ≤ length xs → Some (left, right) ≡ last_two_of (reverse (rest_from start now)) → EndsWith start xs (Some left ∷ Some right ∷ [])
ends-two start xs now left right same within is =
    let some = last_two_of-some (reverse (drop start xs)) left right (is ∙ ap (λ own. last_two_of (reverse own)) (rest_from-is start xs now same)) in
    ends_with start xs (reverse some.0) (Some left ∷ Some right ∷ []) within (sym (reverse-reverse (drop start xs)) ∙ ap reverse some.1 ∙ reverse-append (Some right ∷ Some left ∷ []) some.0)

module _ (trees : List Tree) (children ends : List (Option ℕ)) (texts : List ℕ) (node : OpenNode) (outer : List OpenNode) (at : EndsWith node.children children ends) where
  abbrev front : List (Option ℕ)
  front = take (length children - length ends) children

  -- a tree takes their place
  module _ (tree : Tree) (grown : List Tree) (more : List (Option ℕ)) (number : ℕ) (puts : Puts trees tree front grown more number) where
    pub still-open : AreOpen (node ∷ outer) (length children) (length texts) → All (IsBelow (length trees)) children → AreOpen (node ∷ outer) (length more) (length texts) × All (IsBelow (length grown)) more
    still-open are below = (
      (omega (arith, at.behind, ap length puts.pushed, length-append front (Some number ∷ [])), are.1),
      AllBelow-puts trees tree front grown more number puts (All-take (IsBelow (length trees)) (length children - length ends) children below),
    )

    -- the change of the open nodes that makes it of them
    pub opened-over : (change : List Opened → List Opened) (old : List Opened) → with_newer (Some tree ∷ []) (opened_nodes trees front texts (node ∷ outer)) ≡ change (with_newer (newest_first trees ends) (opened_nodes trees front texts (node ∷ outer))) → All (IsBelow (length trees)) children → opened_nodes trees children texts (node ∷ outer) ≡ old → opened_nodes grown more texts (node ∷ outer) ≡ change old
    opened-over change old changes below seen =
        opened-puts trees tree front grown more number puts texts node outer at.behind (All-take (IsBelow (length trees)) (length children - length ends) children below)
        ∙ changes
        ∙ ap change (sym (opened-append trees front ends texts node outer at.behind))
        ∙ ap (λ (whole : List (Option ℕ)). change (opened_nodes trees whole texts (node ∷ outer))) (sym at.whole)
        ∙ ap change seen

newest_first-is : (trees : List Tree) (numbers : List (Option ℕ)) → newest_first trees numbers ≡ map (option_map (tree_at trees)) (reverse numbers)
newest_first-is trees [] = refl
newest_first-is trees (number ∷ numbers) =
    let seen = option_map (tree_at trees) in
    reverse-append (seen number ∷ []) (map seen numbers)
    ∙ ap (λ (older : List (Option Tree)). older ++ seen number ∷ []) (newest_first-is trees numbers)
    ∙ sym (map-append seen (reverse numbers) (number ∷ []))
    ∙ ap (map seen) (sym (reverse-append (number ∷ []) numbers))

-- nothing is done where a child is absent, or there are too few
join_children-none : (trees : List Tree) (kind : NodeKind) (numbers : List (Option ℕ)) → None ≡ last_two_of numbers → map (option_map (tree_at trees)) numbers ≡ join_children kind (map (option_map (tree_at trees)) numbers)
join_children-none trees kind [] is = refl
join_children-none trees kind (None ∷ older) is = refl
join_children-none trees kind (Some last ∷ []) is = refl
join_children-none trees kind (Some last ∷ None ∷ older) is = refl
join_children-none trees kind (Some last ∷ Some left ∷ older) is = cc

wrap_children-none : (trees : List Tree) (kind : NodeKind) (numbers : List (Option ℕ)) → None ≡ last_of numbers → map (option_map (tree_at trees)) numbers ≡ wrap_children kind (map (option_map (tree_at trees)) numbers)
wrap_children-none trees kind [] is = refl
wrap_children-none trees kind (None ∷ older) is = refl
wrap_children-none trees kind (Some last ∷ older) is = cc

newest-some : (trees : List Tree) (numbers : List (Option ℕ)) (last : ℕ) → Some last ≡ last_of numbers → tree_at trees last ≡ newest (map (option_map (tree_at trees)) numbers)
newest-some trees numbers last is = ap (λ (numbers : List (Option ℕ)). newest (map (option_map (tree_at trees)) numbers)) (sym (last_of-some numbers last is).1)

newest-none : (trees : List Tree) (numbers : List (Option ℕ)) → None ≡ last_of numbers → nothing ≡ newest (map (option_map (tree_at trees)) numbers)
newest-none trees [] is = refl
newest-none trees (None ∷ older) is = refl
newest-none trees (Some last ∷ older) is = cc

module _ (trees : List Tree) (children : List (Option ℕ)) (texts : List ℕ) (node : OpenNode) (outer : List OpenNode) (old : List Opened) (seen : opened_nodes trees children texts (node ∷ outer) ≡ old) where
  abbrev own : List (Option ℕ)
  own = drop node.children children

  abbrev with_own : List (Option Tree) → List Opened
  with_own own = record { spot = node.spot; name = node.name; number = node.number; text = drop node.text texts; children = own } ∷ opened_nodes trees (take node.children children) (take node.text texts) outer

  unchanged : (change : List (Option Tree) → List (Option Tree)) → map (option_map (tree_at trees)) (reverse own) ≡ change (map (option_map (tree_at trees)) (reverse own)) → with_own (newest_first trees own) ≡ with_own (change (newest_first trees own))
  unchanged change same =
      let is = newest_first-is trees own in
      ap with_own (is ∙ same ∙ ap change (sym is))

  module _ (now : List (Option ℕ)) (same : now ≡ children) where
    last-is : last_of (reverse (rest_from node.children now)) ≡ last_of (reverse own)
    last-is = ap (λ own. last_of (reverse own)) (rest_from-is node.children children now same)

    pub joined-none : (kind : NodeKind) → None ≡ last_two_of (reverse (rest_from node.children now)) → old ≡ joined kind old
    joined-none kind is =
        let two = is ∙ ap (λ own. last_two_of (reverse own)) (rest_from-is node.children children now same) in
        sym seen ∙ unchanged (join_children kind) (join_children-none trees kind (reverse own) two) ∙ ap (joined kind) seen

    pub wrapped-none : (kind : NodeKind) → None ≡ last_of (reverse (rest_from node.children now)) → old ≡ wrapped kind old
    wrapped-none kind is = sym seen ∙ unchanged (wrap_children kind) (wrap_children-none trees kind (reverse own) (is ∙ last-is)) ∙ ap (wrapped kind) seen

    pub result-some : (last : ℕ) → Some last ≡ last_of (reverse (rest_from node.children now)) → tree_at trees last ≡ result_of old
    result-some last is = newest-some trees (reverse own) last (is ∙ last-is) ∙ ap newest (sym (newest_first-is trees own)) ∙ ap result_of seen

    pub result-none : None ≡ last_of (reverse (rest_from node.children now)) → nothing ≡ result_of old
    result-none is = newest-none trees (reverse own) (is ∙ last-is) ∙ ap newest (sym (newest_first-is trees own)) ∙ ap result_of seen
