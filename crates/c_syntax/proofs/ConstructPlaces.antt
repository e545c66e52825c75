-- No more constructs stand at a spot than heads of directives. So no two constructs stand at one spot.
use Rattle.std.proofs.Common.{ℕ, ◌≡◌, ◌+◌, ◌<◌, ◌≤◌, Bool, true, false, ◌||◌, IsTrue, List, [], ◌∷◌, ◌++◌, Option, Some, None, length, refl, ap, subst, ◌∙◌, arith, length-append}
use Rattle.std.proofs.lemmas.Bool.{false≢true}
use Rattle.c_tokens.specs.declared.token.Spot.{Spot}
use Rattle.c_tokens.proofs.Law.{reads-tokens}
use Rattle.c_syntax.specs.declared.node.NodeKind.{NodeKind}
use Rattle.c_syntax.specs.declared.term.Term.{Term}
use Rattle.c_syntax.specs.declared.grammar.Class.{Class}
use Rattle.c_syntax.specs.declared.grammar.Class.TheVariants as class
use Rattle.c_syntax.specs.declared.grammar.Step.{Step}
use Rattle.c_syntax.specs.declared.grammar.Step.TheVariants.{Expect, Deepen, Rise, Take, InHead, Read, Open, Make, Join, Wrap, Skip}
use Rattle.c_syntax.specs.declared.head.Head.{Head}
use Rattle.c_syntax.specs.language.Words.{Word, words_of}
use Rattle.c_syntax.specs.language.Tree.{Tree, Children, before, children_from, spot_of, nothing}
use Rattle.c_syntax.specs.language.Tree.Tree.{Node}
use Rattle.c_syntax.specs.language.Tree.Children.{Over, Child, Absent}
use Rattle.c_syntax.specs.workings.Derivation.{Derives, Opened, SpellsWithin, closed, join_children, joined, kept, made, name_in, newest, opened_at, outermost, program_steps, result_of, skipped, wrap_children, wrapped}
use Rattle.c_syntax.specs.language.Productions.{depth_limit}
use Rattle.c_syntax.specs.language.Texts.{Spells}
use Rattle.c_syntax.specs.language.Places.{HasOneConstructAPlace, is_construct, nodes_below, nodes_of}
use Rattle.c_syntax.proofs.Terms.{negated, negated-true, both-left, both-right}
use Rattle.c_syntax.proofs.Leading.{IsFresh, is_led, is_open, is_pragma, led-append, led-behind, led-choice, led-fresh}
use Rattle.c_syntax.proofs.ProgramWords.{program_derives}
use Rattle.c_syntax.proofs.Fates.{are_right, are_right-append, before_word, ended_by, fates, fates-append, first_of, is_right, is_some, is_within, length-before_word, length-rest, length-within, may-become, rest_of, right-choice}
use Rattle.c_syntax.proofs.WordSpots.{words-own}
use Rattle.c_syntax.proofs.SpotCounts.{at_spot, at_spot-less, constructs-apart, constructs_at, constructs_at-append, heads_at, heads_at-one}

-- What is so before each step: the steps fit the open nodes, of which one more is there than end, and a node that was just opened stands
-- where the next word does.
record Suits (fresh : Bool) (steps : List Step) (words : List Word) (nodes : List Opened) : Type 0 where
  led : IsTrue (is_led fresh steps)
  at_word : IsFresh fresh words nodes
  right : IsTrue (are_right steps)
  fewer : length (fates steps) < length nodes

suits-behind : {fresh : Bool} {words : List Word} {nodes : List Opened} (step : Step) (steps : List Step) (more : List Word) (next : List Opened) → is_open step ≡ false → Suits fresh (step ∷ steps) words nodes → length (fates steps) < length next → Suits false steps more next
suits-behind {fresh} step steps more next closes suits fewer = record {
  led = subst (λ opening. IsTrue (is_led opening steps)) closes (led-behind fresh step steps suits.led);
  at_word = tt;
  right = both-right (is_right step (fates steps)) (are_right steps) suits.right;
  fewer = fewer;
}

length-kept : (which : Class) (word : Word) (nodes : List Opened) → length (kept which word nodes) ≡ length nodes
length-kept which word [] = refl
length-kept which word (one ∷ outer) = refl

length-joined : (kind : NodeKind) (nodes : List Opened) → length (joined kind nodes) ≡ length nodes
length-joined kind [] = refl
length-joined kind (one ∷ outer) = refl

length-wrapped : (kind : NodeKind) (nodes : List Opened) → length (wrapped kind nodes) ≡ length nodes
length-wrapped kind [] = refl
length-wrapped kind (one ∷ outer) = refl

length-skipped : (nodes : List Opened) → length (skipped nodes) ≡ length nodes
length-skipped [] = refl
length-skipped (one ∷ outer) = refl

length-made : (kind : NodeKind) (nodes : List Opened) (count : ℕ) → count + 1 < length nodes → count < length (made kind nodes)
length-made kind [] count less = omega arith
length-made kind (one ∷ []) count less = omega arith
length-made kind (one ∷ parent ∷ outer) count less = omega arith

module _ (place : Spot) where
  -- the constructs of a tree, of its children and of the children of an open node
  in_tree : Tree → ℕ
  in_tree tree = constructs_at place (nodes_of tree)

  in_children : Children → ℕ
  in_children children = constructs_at place (nodes_below children)

  abbrev in_made : List (Option Tree) → ℕ
  in_made [] = 0
  in_made (None ∷ older) = in_made older
  in_made (Some tree ∷ older) = in_tree tree + in_made older

  -- the constructs that the open nodes have and become, by their fates
  abbrev held : List Bool → List Opened → ℕ
  held fates [] = 0
  held fates (node ∷ outer) = at_spot place (first_of fates) node.spot + (in_made node.children + held (rest_of fates) outer)

  in_node : (kind : NodeKind) (spot : Spot) (name number : ℕ) (text : List ℕ) (children : Children) → in_tree (Node kind spot name number text children) ≡ at_spot place (is_construct kind) spot + in_children children
  unfolding in_tree in_children nodes_of nodes_below
  in_node kind spot name number text children = refl

  in_over : in_children Over ≡ 0
  unfolding in_children nodes_of nodes_below
  in_over = refl

  in_child : (tree : Tree) (rest : Children) → in_children (Child tree rest) ≡ in_tree tree + in_children rest
  unfolding in_tree in_children nodes_of nodes_below
  in_child tree rest = constructs_at-append place (nodes_of tree) (nodes_below rest)

  in_absent : (rest : Children) → in_children (Absent rest) ≡ in_children rest
  unfolding in_children nodes_of nodes_below
  in_absent rest = refl

  in_before : (newest : List (Option Tree)) (children : Children) → in_children (before newest children) ≡ in_made newest + in_children children
  in_before [] children = omega arith
  in_before (None ∷ older) children = omega (arith, in_before older (Absent children), in_absent children)
  in_before (Some tree ∷ older) children = omega (arith, in_before older (Child tree children), in_child tree children)

  in_closed : (kind : NodeKind) (one : Opened) → in_tree (closed kind one) ≡ at_spot place (is_construct kind) one.spot + in_made one.children
  in_closed kind one = omega (arith, in_node kind one.spot (name_in kind one.name) one.number one.text (children_from one.children), in_before one.children Over, in_over)

  in_join : (kind : NodeKind) (children : List (Option Tree)) → is_construct kind ≡ false → in_made (join_children kind children) ≡ in_made children
  in_join kind [] none = refl
  in_join kind (None ∷ older) none = refl
  in_join kind (Some right ∷ []) none = refl
  in_join kind (Some right ∷ None ∷ older) none = refl
  in_join kind (Some right ∷ Some left ∷ older) none =
      let root : at_spot place (is_construct kind) (spot_of left) ≡ 0 = ap (λ (counts : Bool). at_spot place counts (spot_of left)) none in
      omega (arith, in_node kind (spot_of left) 0 0 [] (Child left (Child right Over)), root, in_child left (Child right Over), in_child right Over, in_over)

  in_wrap : (kind : NodeKind) (children : List (Option Tree)) → is_construct kind ≡ false → in_made (wrap_children kind children) ≡ in_made children
  in_wrap kind [] none = refl
  in_wrap kind (None ∷ older) none = refl
  in_wrap kind (Some inner ∷ older) none =
      let root : at_spot place (is_construct kind) (spot_of inner) ≡ 0 = ap (λ (counts : Bool). at_spot place counts (spot_of inner)) none in
      omega (arith, in_node kind (spot_of inner) 0 0 [] (Child inner Over), root, in_child inner Over, in_over)

  in_nothing : in_tree nothing ≡ 0
  unfolding in_tree nodes_of nodes_below
  in_nothing = refl

  in_result : (nodes : List Opened) → in_tree (result_of nodes) ≤ held [] nodes
  in_result [] = omega (arith, in_nothing)
  in_result (one ∷ outer) = omega (arith, in_newest one.children)
    where
      in_newest : (children : List (Option Tree)) → in_tree (newest children) ≤ in_made children + held [] outer
      in_newest [] = omega (arith, in_nothing)
      in_newest (None ∷ older) = omega (arith, in_nothing)
      in_newest (Some tree ∷ older) = omega arith

  -- the steps, each with no more constructs behind it than before

  held-word : (pragma fresh : Bool) (some : List Bool) (word : Word) (words : List Word) (nodes : List Opened) → (pragma ≡ true → fresh ≡ true) → IsFresh fresh (word ∷ words) nodes → held some nodes ≤ held (before_word pragma some) nodes + at_spot place pragma word.spot
  held-word false fresh some word words nodes opened is_fresh = omega arith
  held-word true false some word words nodes opened is_fresh = absurd (false≢true (opened refl))
  held-word true true some word words [] opened is_fresh = absurd is_fresh
  held-word true true [] word words (one ∷ outer) opened is_fresh = omega arith
  held-word true true (fate ∷ some) word words (one ∷ outer) opened is_fresh =
      let less = at_spot-less place fate true one.spot (λ same. refl) in
      let here : at_spot place true one.spot ≡ at_spot place true word.spot = ap (at_spot place true) is_fresh in
      omega (arith, less, here)

  -- a word that is read, which is no `#` or that for which the innermost node was opened
  held-read : (term : Term) (fresh : Bool) (some : List Bool) (word : Word) (words : List Word) (nodes : List Opened) → word.term ≡ term → (is_pragma term ≡ true → fresh ≡ true) → IsFresh fresh (word ∷ words) nodes → held some nodes + heads_at place words ≤ held (before_word (is_pragma term) some) nodes + heads_at place (word ∷ words)
  held-read term fresh some word words nodes fit opened is_fresh =
      let same : at_spot place (is_pragma word.term) word.spot ≡ at_spot place (is_pragma term) word.spot = ap (λ (which : Term). at_spot place (is_pragma which) word.spot) fit in
      omega (arith, held-word (is_pragma term) fresh some word words nodes opened is_fresh, same)

  held-kept : (which : Class) (word : Word) (some : List Bool) (nodes : List Opened) → held some (kept which word nodes) ≡ held some nodes
  held-kept which word some [] = refl
  held-kept class.Number word some (one ∷ outer) = refl
  held-kept class.Text word some (one ∷ outer) = refl
  held-kept class.Name word some (one ∷ outer) = refl
  held-kept (class.Routine which) word some (one ∷ outer) = refl

  held-within : (few many more : List Bool) (nodes : List Opened) → IsTrue (is_within few many) → held (few ++ more) nodes ≤ held (many ++ more) nodes
  held-within few many more [] within = omega arith
  held-within [] [] more (one ∷ outer) within = omega arith
  held-within [] (other ∷ many) more (one ∷ outer) fails = absurd (false≢true fails)
  held-within (fate ∷ few) [] more (one ∷ outer) fails = absurd (false≢true fails)
  held-within (fate ∷ few) (other ∷ many) more (one ∷ outer) within =
      let less = at_spot-less place fate other one.spot (may-become fate other (both-left (negated fate || other) (is_within few many) within)) in
      omega (arith, less, held-within few many more outer (both-right (negated fate || other) (is_within few many) within))

  held-opened : (some : List Bool) (spot : Spot) (nodes : List Opened) → first_of some ≡ false → held some (opened_at spot ∷ nodes) ≡ held (rest_of some) nodes
  held-opened some spot nodes none =
      let here : at_spot place (first_of some) spot ≡ 0 = ap (λ (counts : Bool). at_spot place counts spot) none in
      omega (arith, here)

  held-made : (kind : NodeKind) (some : List Bool) (nodes : List Opened) → length some + 1 < length nodes → held some (made kind nodes) ≡ held (is_construct kind ∷ some) nodes
  held-made kind some [] less = absurd (omega arith)
  held-made kind some (one ∷ []) less = absurd (omega arith)
  held-made kind some (one ∷ parent ∷ outer) less = omega (arith, in_closed kind one)

  held-joined : (kind : NodeKind) (some : List Bool) (nodes : List Opened) → is_construct kind ≡ false → held some (joined kind nodes) ≡ held some nodes
  held-joined kind some [] none = refl
  held-joined kind some (one ∷ outer) none = omega (arith, in_join kind one.children none)

  held-wrapped : (kind : NodeKind) (some : List Bool) (nodes : List Opened) → is_construct kind ≡ false → held some (wrapped kind nodes) ≡ held some nodes
  held-wrapped kind some [] none = refl
  held-wrapped kind some (one ∷ outer) none = omega (arith, in_wrap kind one.children none)

  held-skipped : (some : List Bool) (nodes : List Opened) → held some (skipped nodes) ≡ held some nodes
  held-skipped some [] = refl
  held-skipped some (one ∷ outer) = refl

  -- a program has no more constructs than its open nodes hold and heads of directives are still to be read
  derives-held : {limit depth : ℕ} {at : Head} {steps : List Step} {words : List Word} {nodes : List Opened} {tree : Tree} → Derives limit steps depth at words nodes tree → (fresh : Bool) → Suits fresh steps words nodes → in_tree tree ≤ held (fates steps) nodes + heads_at place words
  derives-held (Derives.over {nodes = nodes} same) fresh suits = subst (λ tree. in_tree tree ≤ held [] nodes + 0) same (omega (arith, in_result nodes))
  derives-held (Derives.expect {steps = steps} {word = word} {words = words} {nodes = nodes} {term = term} fit rest) fresh suits =
      let fewer : length (fates steps) < length nodes = omega (arith, suits.fewer, length-before_word (is_pragma term) (fates steps)) in
      let further = derives-held rest false (suits-behind (Expect term) steps words nodes refl suits fewer) in
      omega (arith, further, held-read term fresh (fates steps) word words nodes fit (led-fresh fresh (Expect term) steps suits.led) suits.at_word)
  derives-held (Derives.deepen {steps = steps} {word = word} {words = words} {nodes = nodes} {term = term} fit low rest) fresh suits =
      let fewer : length (fates steps) < length nodes = omega (arith, suits.fewer, length-before_word (is_pragma term) (fates steps)) in
      let further = derives-held rest false (suits-behind (Deepen term) steps words nodes refl suits fewer) in
      omega (arith, further, held-read term fresh (fates steps) word words nodes fit (led-fresh fresh (Deepen term) steps suits.led) suits.at_word)
  derives-held (Derives.rise {steps = steps} {words = words} {nodes = nodes} rest) fresh suits = derives-held rest false (suits-behind Rise steps words nodes refl suits suits.fewer)
  derives-held (Derives.take {steps = steps} {word = word} {words = words} {nodes = nodes} {which = which} fit rest) fresh suits =
      let fewer : length (fates steps) < length (kept which word nodes) = omega (arith, suits.fewer, length-kept which word nodes) in
      let further = derives-held rest false (suits-behind (Take which) steps words (kept which word nodes) refl suits fewer) in
      omega (arith, further, held-kept which word (fates steps) nodes)
  derives-held (Derives.in_head {steps = steps} {words = words} {nodes = nodes} inside rest) fresh suits = derives-held rest false (suits-behind InHead steps words nodes refl suits suits.fewer)
  derives-held (Derives.read {steps = steps} {chosen = chosen} {word = word} {words = words} {nodes = nodes} {what = what} same rest) fresh suits =
      let each = right-choice what word.term chosen same in
      let within = both-left (is_within (fates chosen) (ended_by what)) (are_right chosen) each in
      let right = both-right (is_within (fates chosen) (ended_by what)) (are_right chosen) each in
      let joined = fates-append chosen steps right in
      let counts : length (fates (chosen ++ steps)) ≡ length (fates chosen) + length (fates steps) = ap (λ (some : List Bool). length some) joined ∙ length-append (fates chosen) (fates steps) in
      let next : Suits false (chosen ++ steps) (word ∷ words) nodes = record {
        led = led-append false chosen steps (led-choice what word.term chosen same) (led-behind fresh (Read what) steps suits.led);
        at_word = tt;
        right = are_right-append chosen steps right (both-right (is_right (Read what) (fates steps)) (are_right steps) suits.right);
        fewer = omega (arith, suits.fewer, counts, length-within (fates chosen) (ended_by what) within, length-append (ended_by what) (fates steps));
      } in
      let further = derives-held rest false next in
      let now : held (fates (chosen ++ steps)) nodes ≡ held (fates chosen ++ fates steps) nodes = ap (λ (some : List Bool). held some nodes) joined in
      omega (arith, further, now, held-within (fates chosen) (ended_by what) (fates steps) nodes within)
  derives-held (Derives.open_node {steps = steps} {word = word} {words = words} {nodes = nodes} rest) fresh suits =
      let first = both-left (is_right Open (fates steps)) (are_right steps) suits.right in
      let none = negated-true (first_of (fates steps)) (both-right (is_some (fates steps)) (negated (first_of (fates steps))) first) in
      let next : Suits true steps (word ∷ words) (opened_at word.spot ∷ nodes) = record {
        led = led-behind fresh Open steps suits.led;
        at_word = refl;
        right = both-right (is_right Open (fates steps)) (are_right steps) suits.right;
        fewer = omega (arith, suits.fewer, length-rest (fates steps));
      } in
      omega (arith, derives-held rest true next, held-opened (fates steps) word.spot nodes none)
  derives-held (Derives.make {steps = steps} {words = words} {nodes = nodes} {kind = kind} rest) fresh suits =
      let less : length (fates steps) + 1 < length nodes = omega (arith, suits.fewer) in
      let further = derives-held rest false (suits-behind (Make kind) steps words (made kind nodes) refl suits (length-made kind nodes (length (fates steps)) less)) in
      omega (arith, further, held-made kind (fates steps) nodes less)
  derives-held (Derives.join {steps = steps} {words = words} {nodes = nodes} {kind = kind} rest) fresh suits =
      let none = negated-true (is_construct kind) (both-left (is_right (Join kind) (fates steps)) (are_right steps) suits.right) in
      let fewer : length (fates steps) < length (joined kind nodes) = omega (arith, suits.fewer, length-joined kind nodes) in
      let further = derives-held rest false (suits-behind (Join kind) steps words (joined kind nodes) refl suits fewer) in
      omega (arith, further, held-joined kind (fates steps) nodes none)
  derives-held (Derives.wrap {steps = steps} {words = words} {nodes = nodes} {kind = kind} rest) fresh suits =
      let none = negated-true (is_construct kind) (both-left (is_right (Wrap kind) (fates steps)) (are_right steps) suits.right) in
      let fewer : length (fates steps) < length (wrapped kind nodes) = omega (arith, suits.fewer, length-wrapped kind nodes) in
      let further = derives-held rest false (suits-behind (Wrap kind) steps words (wrapped kind nodes) refl suits fewer) in
      omega (arith, further, held-wrapped kind (fates steps) nodes none)
  derives-held (Derives.skip {steps = steps} {words = words} {nodes = nodes} rest) fresh suits =
      let fewer : length (fates steps) < length (skipped nodes) = omega (arith, suits.fewer, length-skipped nodes) in
      let further = derives-held rest false (suits-behind Skip steps words (skipped nodes) refl suits fewer) in
      omega (arith, further, held-skipped (fates steps) nodes)

  -- no more constructs of a program stand at a spot than heads of directives
  spells-heads : (words : List Word) (tree : Tree) → SpellsWithin depth_limit words tree → constructs_at place (nodes_of tree) ≤ heads_at place words
  unfolding in_tree
  spells-heads words tree spells =
      let beginning : Suits false program_steps words outermost = record { led = refl; at_word = tt; right = refl; fewer = omega arith } in
      omega (arith, derives-held spells false beginning)

pub one-construct : (text : List ℕ) (tree : Tree) → Spells text tree → HasOneConstructAPlace tree
one-construct text tree is =
    let words : List Word = words_of text is.tokens in
    constructs-apart (nodes_of tree) (λ place. omega (arith, spells-heads place words tree (program_derives depth_limit words tree is.spelled), heads_at-one place words (words-own text is.tokens (reads-tokens text is.tokens is.read))))
