-- The name of a node is that of the word that stands at its spot. So nodes with a name at one spot have the same name.
use Rattle.std.proofs.Common.{ℕ, ◌≡◌, ◌≢◌, ◌⊎◌, Bool, true, false, IsTrue, List, [], ◌∷◌, Option, Some, None, refl, sym, ap, subst, ◌∙◌, inl, inr}
use Rattle.std.specs.Prelude.{All}
use Rattle.std.proofs.lemmas.Bool.{false≢true}
use Rattle.std.proofs.lemmas.List.Elements.{All-append, All-cons, All-contains, All-head, All-nil, All-tail, All-weaker}
use Rattle.c_tokens.specs.declared.token.Spot.{Spot}
use Rattle.c_tokens.proofs.Law.{reads-tokens}
use Rattle.c_syntax.specs.declared.node.NodeKind.{NodeKind}
use Rattle.c_syntax.specs.declared.node.NodeKind.TheVariants as node
use Rattle.c_syntax.specs.declared.grammar.Class.{Class}
use Rattle.c_syntax.specs.declared.grammar.Class.TheVariants as class
use Rattle.c_syntax.specs.declared.grammar.Step.{Step}
use Rattle.c_syntax.specs.declared.grammar.Step.TheVariants.{Expect, Deepen, Rise, Take, InHead, Read, Open, Make, Join, Wrap, Skip}
use Rattle.c_syntax.specs.declared.head.Head.{Head}
use Rattle.c_syntax.specs.language.Words.{Word, words_of}
use Rattle.c_syntax.specs.language.Tree.{Tree, Children, before, children_from, name_of, spot_of, nothing}
use Rattle.c_syntax.specs.language.Tree.Tree.{Node}
use Rattle.c_syntax.specs.language.Tree.Children.{Over, Child, Absent}
use Rattle.c_syntax.specs.workings.Derivation.{Derives, Opened, closed, fits, join_children, joined, kept, made, name_in, newest, result_of, skipped, wrap_children, wrapped}
use Rattle.c_syntax.specs.language.Places.{HasOneNameAPlace, nodes_below, nodes_of}
use Rattle.c_syntax.specs.language.Productions.{depth_limit}
use Rattle.c_syntax.specs.language.Texts.{Spells}
use Rattle.c_syntax.proofs.ProgramWords.{program_derives}
use Rattle.c_syntax.proofs.Leading.{IsFresh, is_led, is_naming, led-append, led-behind, led-choice, led-fresh}
use Rattle.c_syntax.proofs.WordSpots.{HaveOwnSpots, IsIn, all-themselves, getter-bytes, has_bytes, name_at-bytes, same-word, words-own}

-- a node has no name, or the one that is said to stand at its spot
abbrev IsNamed : (Spot → ℕ → Type 0) → Spot → ℕ → Type 0
IsNamed IsNameAt spot name = (name ≡ 0) ⊎ IsNameAt spot name

abbrev AreNamed : (Spot → ℕ → Type 0) → List Tree → Type 0
AreNamed IsNameAt nodes = All (λ one. IsNamed IsNameAt (spot_of one) (name_of one)) nodes

-- so it is with the children of an open node
abbrev MadeNamed : (Spot → ℕ → Type 0) → List (Option Tree) → Type 0
MadeNamed IsNameAt [] = Unit {0}
MadeNamed IsNameAt (None ∷ older) = MadeNamed IsNameAt older
MadeNamed IsNameAt (Some tree ∷ older) = AreNamed IsNameAt (nodes_of tree) × MadeNamed IsNameAt older

-- and with the open nodes
abbrev OpenNamed : (Spot → ℕ → Type 0) → List Opened → Type 0
OpenNamed IsNameAt [] = Unit {0}
OpenNamed IsNameAt (node ∷ outer) = IsNamed IsNameAt node.spot node.name × MadeNamed IsNameAt node.children × OpenNamed IsNameAt outer

module _ (IsNameAt : Spot → ℕ → Type 0) where
  Named : Tree → Type 0
  Named one = IsNamed IsNameAt (spot_of one) (name_of one)

  root-named : (kind : NodeKind) (spot : Spot) (name number : ℕ) (text : List ℕ) (children : Children) → IsNamed IsNameAt spot name → AreNamed IsNameAt (nodes_below children) → AreNamed IsNameAt (nodes_of (Node kind spot name number text children))
  unfolding nodes_of nodes_below Named
  root-named kind spot name number text children named below = All-cons Named (Node kind spot name number text children) (nodes_below children) named below

  before-named : (newest : List (Option Tree)) (children : Children) → MadeNamed IsNameAt newest → AreNamed IsNameAt (nodes_below children) → AreNamed IsNameAt (nodes_below (before newest children))
  unfolding nodes_of nodes_below Named
  before-named [] children named below = below
  before-named (None ∷ older) children named below = before-named older (Absent children) named below
  before-named (Some tree ∷ older) children (named, others) below = before-named older (Child tree children) others (All-append Named (nodes_of tree) (nodes_below children) named below)

  none-named : AreNamed IsNameAt (nodes_below Over)
  unfolding nodes_of nodes_below Named
  none-named = All-nil Named

  one-named : (tree : Tree) (rest : Children) → AreNamed IsNameAt (nodes_of tree) → AreNamed IsNameAt (nodes_below rest) → AreNamed IsNameAt (nodes_below (Child tree rest))
  unfolding nodes_of nodes_below Named
  one-named tree rest named others = All-append Named (nodes_of tree) (nodes_below rest) named others

  name_in-named : (kind : NodeKind) (spot : Spot) (name : ℕ) → IsNamed IsNameAt spot name → IsNamed IsNameAt spot (name_in kind name)
  name_in-named (node.Getter which) spot name named = inl refl
  name_in-named other spot name named = named

  closed-named : (kind : NodeKind) (one : Opened) → IsNamed IsNameAt one.spot one.name → MadeNamed IsNameAt one.children → AreNamed IsNameAt (nodes_of (closed kind one))
  closed-named kind one named below =
      root-named kind one.spot (name_in kind one.name) one.number one.text (children_from one.children) (name_in-named kind one.spot one.name named) (before-named one.children Over below none-named)

  made-named : (kind : NodeKind) (nodes : List Opened) → OpenNamed IsNameAt nodes → OpenNamed IsNameAt (made kind nodes)
  made-named kind [] named = named
  made-named kind (one ∷ []) named = named
  made-named kind (one ∷ parent ∷ outer) (named, below, (outside, around, others)) = (outside, (closed-named kind one named below, around), others)

  join-named : (kind : NodeKind) (children : List (Option Tree)) → MadeNamed IsNameAt children → MadeNamed IsNameAt (join_children kind children)
  join-named kind (Some right ∷ Some left ∷ older) (last, (first, others)) =
      (root-named kind (spot_of left) 0 0 [] (Child left (Child right Over)) (inl refl) (one-named left (Child right Over) first (one-named right Over last none-named)), others)
  join-named kind [] named = named
  join-named kind (None ∷ older) named = named
  join-named kind (Some right ∷ []) named = named
  join-named kind (Some right ∷ None ∷ older) named = named

  joined-named : (kind : NodeKind) (nodes : List Opened) → OpenNamed IsNameAt nodes → OpenNamed IsNameAt (joined kind nodes)
  joined-named kind [] named = named
  joined-named kind (one ∷ outer) (named, below, others) = (named, join-named kind one.children below, others)

  wrap-named : (kind : NodeKind) (children : List (Option Tree)) → MadeNamed IsNameAt children → MadeNamed IsNameAt (wrap_children kind children)
  wrap-named kind [] named = named
  wrap-named kind (None ∷ older) named = named
  wrap-named kind (Some inner ∷ older) (last, others) =
      (root-named kind (spot_of inner) 0 0 [] (Child inner Over) (inl refl) (one-named inner Over last none-named), others)

  wrapped-named : (kind : NodeKind) (nodes : List Opened) → OpenNamed IsNameAt nodes → OpenNamed IsNameAt (wrapped kind nodes)
  wrapped-named kind [] named = named
  wrapped-named kind (one ∷ outer) (named, below, others) = (named, wrap-named kind one.children below, others)

  skipped-named : (nodes : List Opened) → OpenNamed IsNameAt nodes → OpenNamed IsNameAt (skipped nodes)
  skipped-named [] named = named
  skipped-named (one ∷ outer) (named, below, others) = (named, below, others)

  nothing-named : AreNamed IsNameAt (nodes_of nothing)
  nothing-named = root-named node.Program (record { line = 0; column = 0 }) 0 0 [] Over (inl refl) none-named

  newest-named : (nodes : List Opened) → OpenNamed IsNameAt nodes → AreNamed IsNameAt (nodes_of (result_of nodes))
  newest-named [] named = nothing-named
  newest-named (one ∷ outer) (named, below, others) = last-named one.children below
    where
      last-named : (children : List (Option Tree)) → MadeNamed IsNameAt children → AreNamed IsNameAt (nodes_of (newest children))
      last-named [] none = nothing-named
      last-named (None ∷ older) absent = nothing-named
      last-named (Some tree ∷ older) (last, rest) = last

  -- the name that an open node keeps is that of the word at its spot
  name-kept : (fresh : Bool) (word : Word) (words : List Word) (nodes : List Opened) → fresh ≡ true → IsFresh fresh (word ∷ words) nodes → IsNameAt word.spot word.value → OpenNamed IsNameAt nodes → OpenNamed IsNameAt (kept class.Name word nodes)
  name-kept true word words [] opened fresh is named = absurd fresh
  name-kept true word words (one ∷ outer) opened fresh is (old, below, others) = (inr (subst (λ spot. IsNameAt spot word.value) (sym fresh) is), below, others)
  name-kept false word words nodes opened fresh is named = absurd (false≢true opened)

  kept-named : (which : Class) (fresh : Bool) (at : Head) (word : Word) (words : List Word) (nodes : List Opened) → (is_naming which ≡ true → fresh ≡ true) → IsTrue (fits at which word.term) → IsFresh fresh (word ∷ words) nodes → (IsTrue (has_bytes word.term) → IsNameAt word.spot word.value) → OpenNamed IsNameAt nodes → OpenNamed IsNameAt (kept which word nodes)
  kept-named class.Name fresh at word words nodes opened fit is_fresh is named = name-kept fresh word words nodes (opened refl) is_fresh (is (name_at-bytes at word.term fit)) named
  kept-named (class.Routine which) fresh at word words nodes opened fit is_fresh is named = routine-kept nodes (name-kept fresh word words nodes (opened refl) is_fresh (is (getter-bytes which word.term fit)) named)
    where
      routine-kept : (nodes : List Opened) → OpenNamed IsNameAt (kept class.Name word nodes) → OpenNamed IsNameAt (kept (class.Routine which) word nodes)
      routine-kept [] named = named
      routine-kept (one ∷ outer) named = named
  kept-named class.Number fresh at word words [] opened fit is_fresh is named = named
  kept-named class.Number fresh at word words (one ∷ outer) opened fit is_fresh is named = named
  kept-named class.Text fresh at word words [] opened fit is_fresh is named = named
  kept-named class.Text fresh at word words (one ∷ outer) opened fit is_fresh is named = named

  Says : Word → Type 0
  Says word = IsTrue (has_bytes word.term) → IsNameAt word.spot word.value

  -- so it stays with each step
  derives-named : {limit depth : ℕ} {at : Head} {steps : List Step} {words : List Word} {nodes : List Opened} {tree : Tree} → Derives limit steps depth at words nodes tree → (fresh : Bool) → IsTrue (is_led fresh steps) → IsFresh fresh words nodes → All Says words → OpenNamed IsNameAt nodes → AreNamed IsNameAt (nodes_of tree)
  unfolding Says
  derives-named (Derives.over {nodes = nodes} same) fresh led is_fresh says named = subst (λ tree. AreNamed IsNameAt (nodes_of tree)) same (newest-named nodes named)
  derives-named (Derives.expect {steps = steps} {word = word} {words = words} {term = term} fit rest) fresh led is_fresh says named =
      derives-named rest false (led-behind fresh (Expect term) steps led) tt (All-tail Says word words says) named
  derives-named (Derives.deepen {steps = steps} {word = word} {words = words} {term = term} fit low rest) fresh led is_fresh says named =
      derives-named rest false (led-behind fresh (Deepen term) steps led) tt (All-tail Says word words says) named
  derives-named (Derives.rise {steps = steps} rest) fresh led is_fresh says named = derives-named rest false (led-behind fresh Rise steps led) tt says named
  derives-named (Derives.take {at = at} {steps = steps} {word = word} {words = words} {nodes = nodes} {which = which} fit rest) fresh led is_fresh says named =
      derives-named rest false (led-behind fresh (Take which) steps led) tt (All-tail Says word words says)
      (kept-named which fresh at word words nodes (led-fresh fresh (Take which) steps led) fit is_fresh (All-head Says word words says) named)
  derives-named (Derives.in_head {steps = steps} inside rest) fresh led is_fresh says named = derives-named rest false (led-behind fresh InHead steps led) tt says named
  derives-named (Derives.read {steps = steps} {chosen = chosen} {word = word} {what = what} same rest) fresh led is_fresh says named =
      derives-named rest false (led-append false chosen steps (led-choice what word.term chosen same) (led-behind fresh (Read what) steps led)) tt says named
  derives-named (Derives.open_node {steps = steps} rest) fresh led is_fresh says named = derives-named rest true (led-behind fresh Open steps led) refl says (inl refl, tt, named)
  derives-named (Derives.make {steps = steps} {nodes = nodes} {kind = kind} rest) fresh led is_fresh says named = derives-named rest false (led-behind fresh (Make kind) steps led) tt says (made-named kind nodes named)
  derives-named (Derives.join {steps = steps} {nodes = nodes} {kind = kind} rest) fresh led is_fresh says named = derives-named rest false (led-behind fresh (Join kind) steps led) tt says (joined-named kind nodes named)
  derives-named (Derives.wrap {steps = steps} {nodes = nodes} {kind = kind} rest) fresh led is_fresh says named = derives-named rest false (led-behind fresh (Wrap kind) steps led) tt says (wrapped-named kind nodes named)
  derives-named (Derives.skip {steps = steps} {nodes = nodes} rest) fresh led is_fresh says named = derives-named rest false (led-behind fresh Skip steps led) tt says (skipped-named nodes named)

-- a word with bytes stands at the spot, and has this value
record IsWordAt (words : List Word) (spot : Spot) (value : ℕ) : Type 0 where
  word : Word
  among : IsIn word words
  full : IsTrue (has_bytes word.term)
  here : word.spot ≡ spot
  valued : word.value ≡ value

values-same : (words : List Word) (spot place : Spot) (name other : ℕ) → HaveOwnSpots words → spot ≡ place → IsWordAt words spot name → IsWordAt words place other → name ≡ other
values-same words spot place name other own same one two =
    let word : one.word ≡ two.word = same-word words own one.word two.word one.among two.among one.full two.full (one.here ∙ (same ∙ sym two.here)) in
    sym one.valued ∙ (ap (λ (it : Word). it.value) word ∙ two.valued)

names-same : (words : List Word) (spot place : Spot) (name other : ℕ) → HaveOwnSpots words → spot ≡ place → name ≢ 0 → other ≢ 0 → IsNamed (IsWordAt words) spot name → IsNamed (IsWordAt words) place other → name ≡ other
names-same words spot place name other own same some also (inl none) two = absurd (some none)
names-same words spot place name other own same some also one (inl none) = absurd (also none)
names-same words spot place name other own same some also (inr one) (inr two) = values-same words spot place name other own same one two

pub one-name : (text : List ℕ) (tree : Tree) → Spells text tree → HasOneNameAPlace tree
unfolding Says
one-name text tree is one other there here some also same =
    let words : List Word = words_of text is.tokens in
    let says : All (λ word. IsTrue (has_bytes word.term) → IsWordAt words word.spot word.value) words =
    All-weaker (λ word. IsIn word words) (λ word. IsTrue (has_bytes word.term) → IsWordAt words word.spot word.value) (λ word among full. record { word = word; among = among; full = full; here = refl; valued = refl }) words (all-themselves words) in
    let named = derives-named (IsWordAt words) (program_derives depth_limit words tree is.spelled) false refl tt says (inl refl, tt, tt) in
    let P : Tree → Type 0 = λ it. IsNamed (IsWordAt words) (spot_of it) (name_of it) in
    names-same words (spot_of one) (spot_of other) (name_of one) (name_of other) (words-own text is.tokens (reads-tokens text is.tokens is.read)) same some also
    (All-contains P (nodes_of tree) one named there) (All-contains P (nodes_of tree) other named here)
