-- Each construct of a program stands where the head of a directive does. So what is so of the places of heads is so of those of constructs.
use Rattle.std.proofs.Common.{ℕ, zero, suc, ◌≡◌, ◌++◌, Bool, true, false, IsTrue, List, [], ◌∷◌, Option, Some, None, refl, sym, ap, ◌∙◌, subst, inl, inr, arith}
use Rattle.std.specs.List.{Contains}
use Rattle.std.proofs.lemmas.Bool.{and_parts, false≢true}
use Rattle.std.proofs.lemmas.List.Elements.{Contains-append_cases}
use Rattle.c_tokens.specs.declared.token.Spot.{Spot}
use Rattle.c_syntax.specs.declared.node.NodeKind.{NodeKind}
use Rattle.c_syntax.specs.declared.node.NodeKind.TheVariants as node
use Rattle.c_syntax.specs.declared.term.Term.{Term}
use Rattle.c_syntax.specs.declared.grammar.Class.{Class}
use Rattle.c_syntax.specs.declared.grammar.Class.TheVariants as class
use Rattle.c_syntax.specs.declared.grammar.Step.{Step}
use Rattle.c_syntax.specs.declared.grammar.Step.TheVariants.{Expect, Deepen, Rise, Take, InHead, Read, Open, Make, Join, Wrap, Skip}
use Rattle.c_syntax.specs.declared.head.Head.{Head}
use Rattle.c_syntax.specs.language.Words.{Word}
use Rattle.c_syntax.specs.language.Tree.{Tree, Children, before, kind_of, nothing, spot_of}
use Rattle.c_syntax.specs.language.Tree.Tree.{Node}
use Rattle.c_syntax.specs.language.Tree.Children.{Over, Child, Absent}
use Rattle.c_syntax.specs.language.Places.{is_construct, nodes_below, nodes_of}
use Rattle.c_syntax.specs.workings.Derivation.{Derives, Opened, SpellsWithin, closed, join_children, joined, kept, made, newest, opened_at, result_of, skipped, wrap_children, wrapped}
use Rattle.c_syntax.proofs.Leading.{IsFresh, is_led, is_open, is_pragma, led-append, led-behind, led-choice, led-fresh}
use Rattle.c_syntax.proofs.Fates.{are_right, are_right-append, before_word, ended_by, fates, fates-append, is_right, is_within, may-become, rest_of, right-choice}

-- this is so of the place of each construct of a tree, and of those below some nodes
unfoldable mutual
  pub EachPlaced : (Spot → Type 0) → Tree → Type 0
  EachPlaced P (Node kind spot name number text children) = (is_construct kind ≡ true → P spot) × AllPlaced P children

  pub AllPlaced : (Spot → Type 0) → Children → Type 0
  AllPlaced P Over = Unit {0}
  AllPlaced P (Absent rest) = AllPlaced P rest
  AllPlaced P (Child tree rest) = EachPlaced P tree × AllPlaced P rest

-- the steps fit the open nodes, and a node that was just opened stands where the next word does
record Suits (fresh : Bool) (steps : List Step) (words : List Word) (nodes : List Opened) : Type 0 where
  led : IsTrue (is_led fresh steps)
  at_word : IsFresh fresh words nodes
  right : IsTrue (are_right steps)

suits-behind : {fresh : Bool} {words : List Word} {nodes : List Opened} (step : Step) (steps : List Step) (more : List Word) (next : List Opened) → is_open step ≡ false →
    Suits fresh (step ∷ steps) words nodes → Suits false steps more next
suits-behind {fresh} step steps more next closes suits =
    record {
      led = subst (λ opening. IsTrue (is_led opening steps)) closes (led-behind fresh step steps suits.led);
      at_word = tt;
      right = (and_parts (is_right step (fates steps)) (are_right steps) suits.right).1;
    }

join-none : (kind : NodeKind) (some : List Bool) → IsTrue (is_right (Join kind) some) → is_construct kind ≡ false
join-none (node.Construct directive) some fails = absurd (false≢true fails)
join-none other some right = refl

wrap-none : (kind : NodeKind) (some : List Bool) → IsTrue (is_right (Wrap kind) some) → is_construct kind ≡ false
wrap-none (node.Construct directive) some fails = absurd (false≢true fails)
wrap-none other some right = refl

module _ (P : Spot → Type 0) where
  -- each construct among the nodes
  mutual
    unfolding nodes_of nodes_below EachPlaced AllPlaced

    pub at-each : (tree : Tree) → EachPlaced P tree → (one : Tree) → Contains (nodes_of tree) one → is_construct (kind_of one) ≡ true → P (spot_of one)
    at-each (Node kind spot name number text children) each one (zero, within, is) construct =
        subst (λ (one : Tree). is_construct (kind_of one) ≡ true → P (spot_of one)) is each.0 construct
    at-each (Node kind spot name number text children) each one (suc k, within, is) construct =
        at-below children each.1 one (k, omega (arith, within), is) construct

    at-below : (children : Children) → AllPlaced P children → (one : Tree) → Contains (nodes_below children) one → is_construct (kind_of one) ≡ true → P (spot_of one)
    at-below Over each one (k, within, is) construct = absurd (omega (arith, within))
    at-below (Absent rest) each one at construct = at-below rest each one at construct
    at-below (Child tree rest) each one at construct =
        elim (Contains-append_cases (nodes_of tree) (nodes_below rest) one at) [
          | inl here ↦ at-each tree each.0 one here construct
          | inr there ↦ at-below rest each.1 one there construct
        ]

  -- of the heads of directives among some words
  abbrev pub AreHeads : List Word → Type 0
  AreHeads [] = Unit {0}
  AreHeads (word ∷ words) = (is_pragma word.term ≡ true → P word.spot) × AreHeads words

  -- of the constructs that an open node has as its children, the last one first
  abbrev Made : List (Option Tree) → Type 0
  Made [] = Unit {0}
  Made (None ∷ older) = Made older
  Made (Some tree ∷ older) = EachPlaced P tree × Made older

  -- and of open nodes, where those that may become constructs are told
  abbrev Held : List Bool → List Opened → Type 0
  Held [] [] = Unit {0}
  Held (fate ∷ some) [] = ⊥
  Held [] (one ∷ outer) = Made one.children × Held [] outer
  Held (fate ∷ some) (one ∷ outer) = (fate ≡ true → P one.spot) × Made one.children × Held some outer

  -- ---- trees

  unplaced-nothing : EachPlaced P nothing
  unfolding EachPlaced AllPlaced
  unplaced-nothing = (λ is. absurd (false≢true is), tt)

  from-made : (newest : List (Option Tree)) (children : Children) → Made newest → AllPlaced P children → AllPlaced P (before newest children)
  unfolding AllPlaced
  from-made [] children made each = each
  from-made (None ∷ older) children made each = from-made older (Absent children) made each
  from-made (Some tree ∷ older) children made each = from-made older (Child tree children) made.1 (made.0, each)

  placed-closed : (kind : NodeKind) (one : Opened) → (is_construct kind ≡ true → P one.spot) → Made one.children → EachPlaced P (closed kind one)
  unfolding EachPlaced AllPlaced
  placed-closed kind one at made = (at, from-made one.children Over made tt)

  made-join : (kind : NodeKind) (children : List (Option Tree)) → is_construct kind ≡ false → Made children → Made (join_children kind children)
  unfolding EachPlaced AllPlaced
  made-join kind [] none made = made
  made-join kind (None ∷ older) none made = made
  made-join kind (Some right ∷ []) none made = made
  made-join kind (Some right ∷ None ∷ older) none made = made
  made-join kind (Some right ∷ Some left ∷ older) none made =
      ((λ is. absurd (false≢true (sym none ∙ is)), (made.1.0, (made.0, tt))), made.1.1)

  made-wrap : (kind : NodeKind) (children : List (Option Tree)) → is_construct kind ≡ false → Made children → Made (wrap_children kind children)
  unfolding EachPlaced AllPlaced
  made-wrap kind [] none made = made
  made-wrap kind (None ∷ older) none made = made
  made-wrap kind (Some inner ∷ older) none made = ((λ is. absurd (false≢true (sym none ∙ is)), (made.0, tt)), made.1)

  placed-newest : (children : List (Option Tree)) → Made children → EachPlaced P (newest children)
  placed-newest [] made = unplaced-nothing
  placed-newest (None ∷ older) made = unplaced-nothing
  placed-newest (Some tree ∷ older) made = made.0

  placed-result : (nodes : List Opened) → Held [] nodes → EachPlaced P (result_of nodes)
  placed-result [] held = unplaced-nothing
  placed-result (one ∷ outer) held = placed-newest one.children held.0

  -- ---- the steps

  held-word : (pragma fresh : Bool) (some : List Bool) (word : Word) (words : List Word) (nodes : List Opened) → (pragma ≡ true → fresh ≡ true) →
      IsFresh fresh (word ∷ words) nodes → (pragma ≡ true → P word.spot) → Held (before_word pragma some) nodes → Held some nodes
  held-word false fresh some word words nodes opened is_fresh head held = held
  held-word true false some word words nodes opened is_fresh head held = absurd (false≢true (opened refl))
  held-word true true some word words [] opened is_fresh head held = absurd is_fresh
  held-word true true [] word words (one ∷ outer) opened is_fresh head held = held
  held-word true true (fate ∷ some) word words (one ∷ outer) opened is_fresh head held =
      (λ _. subst P (sym is_fresh) (head refl), held.1, held.2)

  -- a word that is read, which is no `#` or that for which the innermost node was opened
  held-read : (term : Term) (fresh : Bool) (some : List Bool) (word : Word) (words : List Word) (nodes : List Opened) → word.term ≡ term →
      (is_pragma term ≡ true → fresh ≡ true) → IsFresh fresh (word ∷ words) nodes → (is_pragma word.term ≡ true → P word.spot) →
      Held (before_word (is_pragma term) some) nodes → Held some nodes
  held-read term fresh some word words nodes fit opened is_fresh head held =
      held-word (is_pragma term) fresh some word words nodes opened is_fresh (λ is. head (ap is_pragma fit ∙ is)) held

  held-kept : (which : Class) (word : Word) (some : List Bool) (nodes : List Opened) → Held some nodes → Held some (kept which word nodes)
  held-kept which word some [] held = held
  held-kept class.Number word [] (one ∷ outer) held = held
  held-kept class.Number word (fate ∷ some) (one ∷ outer) held = held
  held-kept class.Text word [] (one ∷ outer) held = held
  held-kept class.Text word (fate ∷ some) (one ∷ outer) held = held
  held-kept class.Name word [] (one ∷ outer) held = held
  held-kept class.Name word (fate ∷ some) (one ∷ outer) held = held
  held-kept (class.Routine which) word [] (one ∷ outer) held = held
  held-kept (class.Routine which) word (fate ∷ some) (one ∷ outer) held = held

  held-within : (few many more : List Bool) (nodes : List Opened) → IsTrue (is_within few many) → Held (many ++ more) nodes → Held (few ++ more) nodes
  held-within [] [] more nodes within held = held
  held-within [] (other ∷ many) more nodes fails held = absurd (false≢true fails)
  held-within (fate ∷ few) [] more nodes fails held = absurd (false≢true fails)
  held-within (fate ∷ few) (other ∷ many) more [] within held = absurd held
  held-within (fate ∷ few) (other ∷ many) more (one ∷ outer) within held =
      let both = and_parts _ (is_within few many) within in
      (λ is. held.0 (may-become fate other both.0 is), held.1, held-within few many more outer both.1 held.2)

  held-opened : (some : List Bool) (spot : Spot) (nodes : List Opened) → IsTrue (is_right Open some) → Held (rest_of some) nodes → Held some (opened_at spot ∷ nodes)
  held-opened [] spot nodes fails held = absurd (false≢true fails)
  held-opened (true ∷ some) spot nodes fails held = absurd (false≢true fails)
  held-opened (false ∷ some) spot nodes right held = (λ is. absurd (false≢true is), tt, held)

  held-made : (kind : NodeKind) (some : List Bool) (nodes : List Opened) → Held (is_construct kind ∷ some) nodes → Held some (made kind nodes)
  held-made kind some [] held = absurd held
  held-made kind [] (one ∷ []) held = (held.1, tt)
  held-made kind (fate ∷ some) (one ∷ []) held = absurd held.2
  held-made kind [] (one ∷ parent ∷ outer) held = ((placed-closed kind one held.0 held.1, held.2.0), held.2.1)
  held-made kind (fate ∷ some) (one ∷ parent ∷ outer) held =
      (held.2.0, (placed-closed kind one held.0 held.1, held.2.1), held.2.2)

  held-joined : (kind : NodeKind) (some : List Bool) (nodes : List Opened) → is_construct kind ≡ false → Held some nodes → Held some (joined kind nodes)
  held-joined kind some [] none held = held
  held-joined kind [] (one ∷ outer) none held = (made-join kind one.children none held.0, held.1)
  held-joined kind (fate ∷ some) (one ∷ outer) none held = (held.0, made-join kind one.children none held.1, held.2)

  held-wrapped : (kind : NodeKind) (some : List Bool) (nodes : List Opened) → is_construct kind ≡ false → Held some nodes → Held some (wrapped kind nodes)
  held-wrapped kind some [] none held = held
  held-wrapped kind [] (one ∷ outer) none held = (made-wrap kind one.children none held.0, held.1)
  held-wrapped kind (fate ∷ some) (one ∷ outer) none held = (held.0, made-wrap kind one.children none held.1, held.2)

  held-skipped : (some : List Bool) (nodes : List Opened) → Held some nodes → Held some (skipped nodes)
  held-skipped some [] held = held
  held-skipped [] (one ∷ outer) held = held
  held-skipped (fate ∷ some) (one ∷ outer) held = held

  derives-each : {limit depth : ℕ} {at : Head} {steps : List Step} {words : List Word} {nodes : List Opened} {tree : Tree} →
      Derives limit steps depth at words nodes tree → (fresh : Bool) → Suits fresh steps words nodes → AreHeads words → Held (fates steps) nodes → EachPlaced P tree
  derives-each (Derives.over {nodes = nodes} same) fresh suits heads held = subst (EachPlaced P) same (placed-result nodes held)
  derives-each (Derives.expect {steps = steps} {word = word} {words = words} {nodes = nodes} {term = term} fit rest) fresh suits heads held =
      derives-each rest false (suits-behind (Expect term) steps words nodes refl suits) heads.1
      (held-read term fresh (fates steps) word words nodes fit (led-fresh fresh (Expect term) steps suits.led) suits.at_word heads.0 held)
  derives-each (Derives.deepen {steps = steps} {word = word} {words = words} {nodes = nodes} {term = term} fit low rest) fresh suits heads held =
      derives-each rest false (suits-behind (Deepen term) steps words nodes refl suits) heads.1
      (held-read term fresh (fates steps) word words nodes fit (led-fresh fresh (Deepen term) steps suits.led) suits.at_word heads.0 held)
  derives-each (Derives.rise {steps = steps} {words = words} {nodes = nodes} rest) fresh suits heads held =
      derives-each rest false (suits-behind Rise steps words nodes refl suits) heads held
  derives-each (Derives.take {steps = steps} {word = word} {words = words} {nodes = nodes} {which = which} fit rest) fresh suits heads held =
      derives-each rest false (suits-behind (Take which) steps words (kept which word nodes) refl suits) heads.1
      (held-kept which word (fates steps) nodes held)
  derives-each (Derives.in_head {steps = steps} {words = words} {nodes = nodes} inside rest) fresh suits heads held =
      derives-each rest false (suits-behind InHead steps words nodes refl suits) heads held
  derives-each (Derives.read {steps = steps} {chosen = chosen} {word = word} {words = words} {nodes = nodes} {what = what} same rest) fresh suits heads held =
      let each = and_parts (is_within (fates chosen) (ended_by what)) (are_right chosen) (right-choice what word.term chosen same) in
      let next : Suits false (chosen ++ steps) (word ∷ words) nodes = record {
        led = led-append false chosen steps (led-choice what word.term chosen same) (led-behind fresh (Read what) steps suits.led);
        at_word = tt;
        right = are_right-append chosen steps each.1 (and_parts (is_right (Read what) (fates steps)) (are_right steps) suits.right).1;
      } in
      derives-each rest false next heads
      (subst (λ some. Held some nodes) (sym (fates-append chosen steps each.1)) (held-within (fates chosen) (ended_by what) (fates steps) nodes each.0 held))
  derives-each (Derives.open_node {steps = steps} {word = word} {words = words} {nodes = nodes} rest) fresh suits heads held =
      let right = and_parts (is_right Open (fates steps)) (are_right steps) suits.right in
      let next : Suits true steps (word ∷ words) (opened_at word.spot ∷ nodes) = record {
        led = led-behind fresh Open steps suits.led;
        at_word = refl;
        right = right.1;
      } in
      derives-each rest true next heads (held-opened (fates steps) word.spot nodes right.0 held)
  derives-each (Derives.make {steps = steps} {words = words} {nodes = nodes} {kind = kind} rest) fresh suits heads held =
      derives-each rest false (suits-behind (Make kind) steps words (made kind nodes) refl suits) heads (held-made kind (fates steps) nodes held)
  derives-each (Derives.join {steps = steps} {words = words} {nodes = nodes} {kind = kind} rest) fresh suits heads held =
      let none = join-none kind (fates steps) (and_parts (is_right (Join kind) (fates steps)) (are_right steps) suits.right).0 in
      derives-each rest false (suits-behind (Join kind) steps words (joined kind nodes) refl suits) heads (held-joined kind (fates steps) nodes none held)
  derives-each (Derives.wrap {steps = steps} {words = words} {nodes = nodes} {kind = kind} rest) fresh suits heads held =
      let none = wrap-none kind (fates steps) (and_parts (is_right (Wrap kind) (fates steps)) (are_right steps) suits.right).0 in
      derives-each rest false (suits-behind (Wrap kind) steps words (wrapped kind nodes) refl suits) heads (held-wrapped kind (fates steps) nodes none held)
  derives-each (Derives.skip {steps = steps} {words = words} {nodes = nodes} rest) fresh suits heads held =
      derives-each rest false (suits-behind Skip steps words (skipped nodes) refl suits) heads (held-skipped (fates steps) nodes held)

  -- so of each construct of a program
  pub spells-each : (limit : ℕ) (words : List Word) (tree : Tree) → SpellsWithin limit words tree → AreHeads words → EachPlaced P tree
  spells-each limit words tree spells heads = derives-each spells false (record { led = refl; at_word = tt; right = refl }) heads (tt, tt)
