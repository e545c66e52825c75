-- What the sorts of expressions mean by the productions, and that the table's rules of these sorts do no more than that.
use Rattle.std.proofs.Common.{ℕ, ◌≡◌, ◌<◌, ◌+◌, ◌-◌, ◌⊎◌, if◌then◌else◌, IsTrue, false, List, [], ◌∷◌, Option, Some, None, refl, sym, ap, subst, ◌∙◌, inl, inr, arith, lit<}
use Rattle.std.proofs.lemmas.Bool.{false≢true}
use Rattle.c_syntax.specs.declared.grammar.Class.TheVariants as class
use Rattle.c_syntax.specs.declared.head.Head.{Head}
use Rattle.c_syntax.specs.declared.head.Head.TheVariants as head
use Rattle.c_syntax.specs.declared.node.BinaryOp.{BinaryOp}
use Rattle.c_syntax.specs.declared.node.UnaryOp.{UnaryOp}
use Rattle.c_syntax.specs.declared.node.Getter.{Getter}
use Rattle.c_syntax.specs.declared.node.Getter.TheVariants as getter
use Rattle.c_syntax.specs.declared.node.NodeKind.TheVariants as kind
use Rattle.c_syntax.specs.declared.term.Term.{Term}
use Rattle.c_syntax.specs.declared.term.Term.TheVariants as term
use Rattle.c_syntax.specs.language.Heads.{behind}
use Rattle.c_syntax.specs.language.Words.{Word}
use Rattle.c_syntax.specs.language.Tree.{Tree, Children, over_two}
use Rattle.c_syntax.specs.language.Tree.Children.{Over}
use Rattle.c_syntax.specs.language.WordClasses.{is_name, is_word, is_outside, is_name_at, is_getter}
use Rattle.c_syntax.specs.workings.Derivation.{Opened, keep, opened_at, with_child, closed}
use Rattle.c_syntax.specs.language.Productions.{IndexPart, Is, Operand, Place, Ranked, kids, made_at, rank_of, sign_of, unary_sign}
use Rattle.c_syntax.proofs.Pushing.{is_steady, pushed, tree_with, closed-pushed}
use Rattle.c_syntax.proofs.Expressions.{around, getter-inner, inside_of, name-inner, rank-low, sign-inner, stays, unary-inner}
use Rattle.c_syntax.proofs.Effects.{expected, Effect, Expects, Deepens, Rises, Takes, InHeads, Opens, Makes, Joins}

-- ---- what they mean

-- operators of this rank and what they join, behind a tree, from the left
pub data Tailed : (limit rank depth : ℕ) → Head → Tree → List Word → List Word → Tree → Type 0 where
  over : {limit rank depth : ℕ} {at : Head} {tree : Tree} {rest : List Word} → Tailed limit rank depth at tree rest rest tree
  further : {limit depth : ℕ} {at : Head} {left right tree : Tree} {word : Word} {words behind rest : List Word} → (operator : BinaryOp) → Is (sign_of operator) word
      → Ranked limit (rank_of operator + 1) depth at words behind right → Tailed limit (rank_of operator) depth at (over_two (kind.Binary operator) left right) behind rest tree
      → Tailed limit (rank_of operator) depth at left (word ∷ words) rest tree

-- a tree of this rank becomes a child; nothing is said of a head that is none for expressions, and where no node is open
abbrev pub ReadsRanked : (limit rank : ℕ) → Effect → Effect
ReadsRanked limit rank next depth at words [] = Unit {0}
ReadsRanked limit rank next depth at words (node ∷ outer) =
    IsTrue (is_steady at) → (rest : List Word) × (tree : Tree) × Ranked limit rank depth at words rest tree × next depth at rest (with_child (Some tree) node ∷ outer)

-- the newest child becomes the left part of what follows
abbrev pub ReadsTailOf : (limit rank : ℕ) → Effect → ℕ → Head → List Word → Opened → List Opened → List (Option Tree) → Type 0
ReadsTailOf limit rank next depth at words node outer (Some left ∷ older) =
    IsTrue (is_steady at) → (rest : List Word) × (tree : Tree) × Tailed limit rank depth at left words rest tree × next depth at rest (record node { children = Some tree ∷ older } ∷ outer)
ReadsTailOf limit rank next depth at words node outer other = Unit {0}

-- .. of the innermost open node
abbrev pub ReadsTail : (limit rank : ℕ) → Effect → Effect
ReadsTail limit rank next depth at words [] = Unit {0}
ReadsTail limit rank next depth at words (node ∷ outer) = ReadsTailOf limit rank next depth at words node outer node.children

-- an index, or none
abbrev pub ReadsIndex : ℕ → Effect → Effect
ReadsIndex limit next depth at words [] = Unit {0}
ReadsIndex limit next depth at words (node ∷ outer) =
    IsTrue (is_steady at) → (rest : List Word) × (trees : List Tree) × IndexPart limit depth at words rest (kids trees) × next depth at rest (pushed trees node ∷ outer)

-- a place becomes a child
abbrev pub ReadsPlace : ℕ → Effect → Effect
ReadsPlace limit next depth at words [] = Unit {0}
ReadsPlace limit next depth at words (node ∷ outer) =
    IsTrue (is_steady at) → (rest : List Word) × (tree : Tree) × Place limit depth at words rest tree × next depth at rest (with_child (Some tree) node ∷ outer)

-- parentheses behind the name of a routine, or in a head what follows a name
abbrev pub ReadsAfterGetter : ℕ → Getter → Effect → Effect
ReadsAfterGetter limit which next depth at words [] = Unit {0}
ReadsAfterGetter limit which next depth at words (node ∷ []) = Unit {0}
ReadsAfterGetter limit which next depth at words (node ∷ parent ∷ outer) =
    IsTrue (is_steady at) →
    ((opened last : Word) × (rest : List Word) × (words ≡ opened ∷ last ∷ rest) × Is term.OpenParen opened × Is term.CloseParen last
    × next depth at rest (with_child (Some (closed (kind.Getter which) node)) parent ∷ outer))
    ⊎ ((is_outside at ≡ false) × (rest : List Word) × (trees : List Tree) × IndexPart limit depth at words rest (kids trees)
    × next depth at rest (with_child (Some (tree_with kind.Place trees node)) parent ∷ outer))

-- ---- chains and tails

-- what is joined behind a tree of a rank is of that rank with it
tailed-joined : {limit rank depth : ℕ} {at : Head} {left tree : Tree} {middle rest words : List Word} → Tailed limit rank depth at left middle rest tree
    → Ranked limit rank depth at words middle left → Ranked limit rank depth at words rest tree
tailed-joined Tailed.over ranked = ranked
tailed-joined (Tailed.further operator is right more) ranked = tailed-joined more (Ranked.joined operator ranked is right)

-- a chain is what is of the next rank, and a tail
pub chain-folds : (limit rank : ℕ) (next : Effect) (depth : ℕ) (at : Head) (words : List Word) (nodes : List Opened) → rank < 6
    → ReadsRanked limit (rank + 1) (ReadsTail limit rank next) depth at words nodes → ReadsRanked limit rank next depth at words nodes
chain-folds limit rank next depth at words [] low reads = reads
chain-folds limit rank next depth at words (node ∷ outer) low reads = λ steady.
    let left = reads steady in
    let tail = left.3 steady in
    (tail.0, tail.1, tailed-joined tail.2 (Ranked.above low left.2), tail.3)

-- a tail may be over
pub tail-over : (limit rank : ℕ) (next : Effect) (depth : ℕ) (at : Head) (words : List Word) (nodes : List Opened) → next depth at words nodes → ReadsTail limit rank next depth at words nodes
tail-over limit rank next depth at words [] goes = tt
tail-over limit rank next depth at words (node ∷ outer) goes = by node.children goes
  where
    by : (children : List (Option Tree)) → next depth at words (record node { children = children } ∷ outer) → ReadsTailOf limit rank next depth at words node outer children
    by [] goes = tt
    by (None ∷ older) goes = tt
    by (Some left ∷ older) goes = λ steady. (words, left, Tailed.over, goes)

-- and it may go on by an operator
pub tail-further : (limit : ℕ) (next : Effect) (depth : ℕ) (at : Head) (words : List Word) (nodes : List Opened) → (operator : BinaryOp)
    → Expects (sign_of operator) (ReadsRanked limit (rank_of operator + 1) (Joins (kind.Binary operator) (ReadsTail limit (rank_of operator) next))) depth at words nodes
    → ReadsTail limit (rank_of operator) next depth at words nodes
tail-further limit next depth at [] nodes operator reads = absurd reads
tail-further limit next depth at (word ∷ words) [] operator reads = tt
tail-further limit next depth at (word ∷ words) (node ∷ outer) operator (is, reads) = by node.children (λ steady. subst At (stays at (sign_of operator) steady (sign-inner operator)) reads)
  where
    At : Head → Type 0
    At here = ReadsRanked limit (rank_of operator + 1) (Joins (kind.Binary operator) (ReadsTail limit (rank_of operator) next)) depth here words (node ∷ outer)

    by : (children : List (Option Tree))
        → (IsTrue (is_steady at) → ReadsRanked limit (rank_of operator + 1) (Joins (kind.Binary operator) (ReadsTail limit (rank_of operator) next)) depth at words (record node { children = children } ∷ outer))
        → ReadsTailOf limit (rank_of operator) next depth at (word ∷ words) node outer children
    by [] goes = tt
    by (None ∷ older) goes = tt
    by (Some left ∷ older) goes = λ steady.
        let right = goes steady steady in
        let more = right.3 steady in
        (more.0, more.1, Tailed.further operator is right.2 more.2, more.3)

-- ---- operands

-- what is spelled in one head is spelled in another where the same words are names
mutual
  -- what is of a rank
  ranked-elsewhere : {limit rank depth : ℕ} {at there : Head} {words rest : List Word} {tree : Tree} → is_outside there ≡ is_outside at → Ranked limit rank depth at words rest tree → Ranked limit rank depth there words rest tree
  ranked-elsewhere same (Ranked.operand operand) = Ranked.operand (operand-elsewhere same operand)
  ranked-elsewhere same (Ranked.above low ranked) = Ranked.above low (ranked-elsewhere same ranked)
  ranked-elsewhere same (Ranked.joined operator left is right) = Ranked.joined operator (ranked-elsewhere same left) is (ranked-elsewhere same right)

  -- .. an operand
  operand-elsewhere : {limit depth : ℕ} {at there : Head} {words rest : List Word} {tree : Tree} → is_outside there ≡ is_outside at → Operand limit depth at words rest tree → Operand limit depth there words rest tree
  operand-elsewhere same (Operand.signed operator is low inner) = Operand.signed operator is low (operand-elsewhere same inner)
  operand-elsewhere same (Operand.number is) = Operand.number is
  operand-elsewhere same (Operand.placed spot) = Operand.placed (place-elsewhere same spot)
  operand-elsewhere same (Operand.parenthesis opens low inner closes) = Operand.parenthesis opens low (ranked-elsewhere same inner) closes
  operand-elsewhere same (Operand.getter which is opens closes) = Operand.getter which is opens closes

  -- .. a place
  place-elsewhere : {limit depth : ℕ} {at there : Head} {words rest : List Word} {tree : Tree} → is_outside there ≡ is_outside at → Place limit depth at words rest tree → Place limit depth there words rest tree
  place-elsewhere same (Place.place {word = word} is index) =
      Place.place (subst (λ outside. IsTrue (if outside then is_name word.term else is_word word.term)) (sym same) is) (index-elsewhere same index)

  -- .. and an index
  index-elsewhere : {limit depth : ℕ} {at there : Head} {words rest : List Word} {children : Children} → is_outside there ≡ is_outside at → IndexPart limit depth at words rest children → IndexPart limit depth there words rest children
  index-elsewhere same IndexPart.bare = IndexPart.bare
  index-elsewhere same (IndexPart.indexed opens low inner closes) = IndexPart.indexed opens low (ranked-elsewhere same inner) closes

-- what is of the last rank is an operand
operand-of : {limit rank depth : ℕ} {at : Head} {words rest : List Word} {tree : Tree} → rank ≡ 6 → Ranked limit rank depth at words rest tree → Operand limit depth at words rest tree
operand-of last (Ranked.operand operand) = operand
operand-of last (Ranked.above low ranked) = absurd (omega arith)
operand-of last (Ranked.joined operator left is right) = let low = rank-low operator in absurd (omega arith)

-- a head is the same behind what leaves it so
moved : (next : Effect) (depth : ℕ) (here there : Head) (words : List Word) (nodes : List Opened) → here ≡ there → next depth here words nodes → next depth there words nodes
moved next depth here there words nodes same goes = subst (λ at. next depth at words nodes) same goes

-- a depth is the same behind what counts for it
pub lowered : (next : Effect) (depth : ℕ) (at : Head) (words : List Word) (nodes : List Opened) → next (depth + 1 - 1) at words nodes → next depth at words nodes
lowered next depth at words nodes goes = subst (λ level. next level at words nodes) (back depth) goes
  where
    back : (depth : ℕ) → depth + 1 - 1 ≡ depth
    back depth = omega arith

-- an operand with a sign
pub sign-folds : (limit : ℕ) (next : Effect) (depth : ℕ) (at : Head) (word : Word) (words : List Word) (nodes : List Opened) → (operator : UnaryOp)
    → Opens (Deepens limit (unary_sign operator) (ReadsRanked limit 6 (Makes (kind.Unary operator) (Rises next)))) depth at (word ∷ words) nodes → ReadsRanked limit 6 next depth at (word ∷ words) nodes
sign-folds limit next depth at word words [] operator reads = tt
sign-folds limit next depth at word words (node ∷ outer) operator (is, low, reads) = λ steady.
    let inner = subst At (stays at (unary_sign operator) steady (unary-inner operator)) reads steady in
    (inner.0, _, Ranked.operand (Operand.signed operator is low (operand-of refl inner.2)), lowered next depth at inner.0 _ inner.3)
  where
    At : Head → Type 0
    At here = ReadsRanked limit 6 (Makes (kind.Unary operator) (Rises next)) (depth + 1) here words (opened_at word.spot ∷ node ∷ outer)

-- a number
pub number-folds : (limit : ℕ) (next : Effect) (depth : ℕ) (at : Head) (word : Word) (words : List Word) (nodes : List Opened) → Is term.Number word
    → Opens (Takes class.Number (Makes kind.Number next)) depth at (word ∷ words) nodes → ReadsRanked limit 6 next depth at (word ∷ words) nodes
number-folds limit next depth at word words [] is reads = tt
number-folds limit next depth at word words (node ∷ outer) is (fit, reads) = λ steady.
    (words, _, Ranked.operand (Operand.number is), moved next depth (behind at word.term) at words _ (ap (behind at) is ∙ stays at term.Number steady refl) reads)

-- an expression in parentheses
pub parenthesis-folds : (limit : ℕ) (next : Effect) (depth : ℕ) (at : Head) (word : Word) (words : List Word) (nodes : List Opened)
    → Opens (Deepens limit term.OpenParen (ReadsRanked limit 0 (Expects term.CloseParen (Makes kind.Paren (Rises next))))) depth at (word ∷ words) nodes → ReadsRanked limit 6 next depth at (word ∷ words) nodes
parenthesis-folds limit next depth at word words [] reads = tt
parenthesis-folds limit next depth at word words (node ∷ outer) (opens, low, reads) = λ steady.
    let within = around at steady in
    let inner = subst At within.opened reads within.steady in
    let (last, rest, same, closes, goes) = expected term.CloseParen (Makes kind.Paren (Rises next)) (depth + 1) (inside_of at) inner.0 _ inner.3 in (
      rest,
      _,
      Ranked.operand (Operand.parenthesis opens low (ranked-elsewhere (sym within.outside) (subst (λ behind_it. Ranked limit 0 (depth + 1) (inside_of at) words behind_it inner.1) same inner.2)) closes),
      lowered next depth at rest _ (moved next (depth + 1 - 1) (behind (inside_of at) term.CloseParen) at rest _ within.closed goes),
    )
  where
    At : Head → Type 0
    At here = ReadsRanked limit 0 (Expects term.CloseParen (Makes kind.Paren (Rises next))) (depth + 1) here words (opened_at word.spot ∷ node ∷ outer)

-- ---- places

-- no index
pub index-over : (limit : ℕ) (next : Effect) (depth : ℕ) (at : Head) (words : List Word) (nodes : List Opened) → next depth at words nodes → ReadsIndex limit next depth at words nodes
index-over limit next depth at words [] goes = tt
index-over limit next depth at words (node ∷ outer) goes = λ steady. (words, [], IndexPart.bare, goes)

-- an index
pub index-folds : (limit : ℕ) (next : Effect) (depth : ℕ) (at : Head) (words : List Word) (nodes : List Opened)
    → Deepens limit term.OpenBracket (ReadsRanked limit 0 (Expects term.CloseBracket (Rises next))) depth at words nodes → ReadsIndex limit next depth at words nodes
index-folds limit next depth at words [] reads = tt
index-folds limit next depth at [] (node ∷ outer) reads = absurd reads
index-folds limit next depth at (word ∷ words) (node ∷ outer) (opens, low, reads) = λ steady.
    let inner = subst At (stays at term.OpenBracket steady refl) reads steady in
    let (last, rest, same, closes, goes) = expected term.CloseBracket (Rises next) (depth + 1) at inner.0 _ inner.3 in (
      rest,
      inner.1 ∷ [],
      IndexPart.indexed opens low (subst (λ behind_it. Ranked limit 0 (depth + 1) at words behind_it inner.1) same inner.2) closes,
      lowered next depth at rest _ (moved next (depth + 1 - 1) (behind at term.CloseBracket) at rest _ (stays at term.CloseBracket steady refl) goes),
    )
  where
    At : Head → Type 0
    At here = ReadsRanked limit 0 (Expects term.CloseBracket (Rises next)) (depth + 1) here words (node ∷ outer)

-- the node of a place is made over its index
pub place-folds : (limit : ℕ) (next : Effect) (depth : ℕ) (at : Head) (word : Word) (words : List Word) (nodes : List Opened)
    → Opens (Takes class.Name (ReadsIndex limit (Makes kind.Place next))) depth at (word ∷ words) nodes → ReadsPlace limit next depth at (word ∷ words) nodes
place-folds limit next depth at word words [] reads = tt
place-folds limit next depth at word words (node ∷ outer) (is, reads) = λ steady.
    let index = subst At (stays at word.term steady (name-inner at word.term is)) reads steady in
    (index.0, _, Place.place is index.2, subst (λ tree. next depth at index.0 (with_child (Some tree) node ∷ outer)) (closed-pushed kind.Place index.1 begun) index.3)
  where
    begun : Opened
    begun = record (opened_at word.spot) { name = word.value }

    At : Head → Type 0
    At here = ReadsIndex limit (Makes kind.Place next) depth here words (begun ∷ node ∷ outer)

-- a place is an operand
pub placed-folds : (limit : ℕ) (next : Effect) (depth : ℕ) (at : Head) (words : List Word) (nodes : List Opened) → ReadsPlace limit next depth at words nodes → ReadsRanked limit 6 next depth at words nodes
placed-folds limit next depth at words [] reads = tt
placed-folds limit next depth at words (node ∷ outer) reads = λ steady. let spot = reads steady in (spot.0, spot.1, Ranked.operand (Operand.placed spot.2), spot.3)

-- ---- routines

-- parentheses behind the name of a routine
pub called-folds : (limit : ℕ) (which : Getter) (next : Effect) (depth : ℕ) (at : Head) (words : List Word) (nodes : List Opened)
    → Expects term.OpenParen (Expects term.CloseParen (Makes (kind.Getter which) next)) depth at words nodes → ReadsAfterGetter limit which next depth at words nodes
called-folds limit which next depth at words [] reads = tt
called-folds limit which next depth at words (node ∷ []) reads = tt
called-folds limit which next depth at [] (node ∷ parent ∷ outer) reads = absurd reads
called-folds limit which next depth at (word ∷ words) (node ∷ parent ∷ outer) (opens, reads) = λ steady.
    let within = around at steady in
    let (last, rest, same, closes, goes) = expected term.CloseParen (Makes (kind.Getter which) next) depth (inside_of at) words _ (subst At within.opened reads) in
    inl (word, last, rest, ap (λ more. word ∷ more) same, opens, closes, moved next depth (behind (inside_of at) term.CloseParen) at rest _ within.closed goes)
  where
    At : Head → Type 0
    At here = Expects term.CloseParen (Makes (kind.Getter which) next) depth here words (node ∷ parent ∷ outer)

-- what follows such a name in a head
pub named-folds : (limit : ℕ) (which : Getter) (next : Effect) (depth : ℕ) (at : Head) (words : List Word) (nodes : List Opened)
    → InHeads (ReadsIndex limit (Makes kind.Place next)) depth at words nodes → ReadsAfterGetter limit which next depth at words nodes
named-folds limit which next depth at words [] reads = tt
named-folds limit which next depth at words (node ∷ []) reads = tt
named-folds limit which next depth at words (node ∷ parent ∷ outer) (inside, reads) = λ steady.
    let index = reads steady in
    inr (inside, index.0, index.1, index.2, subst (λ tree. next depth at index.0 (with_child (Some tree) parent ∷ outer)) (closed-pushed kind.Place index.1 node) index.3)

-- the names of routines are words
getter-word : (which : Getter) (word : Term) → IsTrue (is_getter which word) → IsTrue (is_word word)
getter-word getter.ThreadNum term.GetThreadNum is = refl
getter-word getter.NumThreads term.GetNumThreads is = refl
getter-word getter.MaxThreads term.GetMaxThreads is = refl
getter-word which other fails = absurd (false≢true fails)

-- the name of a routine is a name in a head
getter-named : (at : Head) (which : Getter) (word : Term) → is_outside at ≡ false → IsTrue (is_getter which word) → IsTrue (is_name_at at word)
getter-named at which word inside is = subst (λ outside. IsTrue (if outside then is_name word else is_word word)) (sym inside) (getter-word which word is)

-- what begins with the name of a routine
pub getter-folds : (limit : ℕ) (which : Getter) (next : Effect) (depth : ℕ) (at : Head) (word : Word) (words : List Word) (nodes : List Opened)
    → Opens (Takes (class.Routine which) (ReadsAfterGetter limit which next)) depth at (word ∷ words) nodes → ReadsRanked limit 6 next depth at (word ∷ words) nodes
getter-folds limit which next depth at word words [] reads = tt
getter-folds limit which next depth at word words (node ∷ outer) (is, reads) = λ steady. by (subst At (stays at word.term steady (getter-inner which word.term is)) reads steady)
  where
    begun : Opened
    begun = record (opened_at word.spot) { name = word.value }

    At : Head → Type 0
    At here = ReadsAfterGetter limit which next depth here words (begun ∷ node ∷ outer)

    by : ((opened last : Word) × (rest : List Word) × (words ≡ opened ∷ last ∷ rest) × Is term.OpenParen opened × Is term.CloseParen last
        × next depth at rest (with_child (Some (closed (kind.Getter which) begun)) node ∷ outer))
        ⊎ ((is_outside at ≡ false) × (rest : List Word) × (trees : List Tree) × IndexPart limit depth at words rest (kids trees)
        × next depth at rest (with_child (Some (tree_with kind.Place trees begun)) node ∷ outer))
        → (rest : List Word) × (tree : Tree) × Ranked limit 6 depth at (word ∷ words) rest tree × next depth at rest (with_child (Some tree) node ∷ outer)
    by (inl (opened, last, rest, same, opens, closes, goes)) =
        (rest, _, subst (λ more. Ranked limit 6 depth at (word ∷ more) rest (made_at (kind.Getter which) word Over)) (sym same) (Ranked.operand (Operand.getter which is opens closes)), goes)
    by (inr (inside, rest, trees, index, goes)) = (rest, _, Ranked.operand (Operand.placed (Place.place (getter-named at which word.term inside is) index)), goes)

-- ---- whole expressions

-- an operand and all tails are an expression
pub expression-read : (limit : ℕ) (next : Effect) (depth : ℕ) (at : Head) (words : List Word) (nodes : List Opened)
    → ReadsRanked limit 6 (ReadsTail limit 5 (ReadsTail limit 4 (ReadsTail limit 3 (ReadsTail limit 2 (ReadsTail limit 1 (ReadsTail limit 0 next)))))) depth at words nodes
    → ReadsRanked limit 0 next depth at words nodes
expression-read limit next depth at words nodes reads =
    chain-folds limit 0 next depth at words nodes (lit< tt)
    (chain-folds limit 1 (ReadsTail limit 0 next) depth at words nodes (lit< tt)
    (chain-folds limit 2 (ReadsTail limit 1 (ReadsTail limit 0 next)) depth at words nodes (lit< tt)
    (chain-folds limit 3 (ReadsTail limit 2 (ReadsTail limit 1 (ReadsTail limit 0 next))) depth at words nodes (lit< tt)
    (chain-folds limit 4 (ReadsTail limit 3 (ReadsTail limit 2 (ReadsTail limit 1 (ReadsTail limit 0 next)))) depth at words nodes (lit< tt)
    (chain-folds limit 5 (ReadsTail limit 4 (ReadsTail limit 3 (ReadsTail limit 2 (ReadsTail limit 1 (ReadsTail limit 0 next))))) depth at words nodes (lit< tt) reads)))))

-- behind a name that a node keeps, its index makes the place
pub place-behind_name : (limit : ℕ) (next : Effect) (depth : ℕ) (word : Word) (words : List Word) (nodes : List Opened) → IsTrue (is_name word.term)
    → ReadsIndex limit (Makes kind.Place next) depth head.Outside words (keep class.Name word (opened_at word.spot) ∷ nodes) → ReadsPlace limit next depth head.Outside (word ∷ words) nodes
place-behind_name limit next depth word words nodes is reads =
    place-folds limit next depth head.Outside word words nodes (is, moved (ReadsIndex limit (Makes kind.Place next)) depth head.Outside (behind head.Outside word.term) words (keep class.Name word (opened_at word.spot) ∷ nodes) (sym (stays head.Outside word.term refl (name-inner head.Outside word.term is))) reads)

-- and with all tails an expression
pub expression-behind_name : (limit : ℕ) (next : Effect) (depth : ℕ) (word : Word) (words : List Word) (nodes : List Opened) → IsTrue (is_name word.term)
    → ReadsIndex limit (Makes kind.Place (ReadsTail limit 5 (ReadsTail limit 4 (ReadsTail limit 3 (ReadsTail limit 2 (ReadsTail limit 1 (ReadsTail limit 0 next))))))) depth head.Outside words
    (keep class.Name word (opened_at word.spot) ∷ nodes)
    → ReadsRanked limit 0 next depth head.Outside (word ∷ words) nodes
expression-behind_name limit next depth word words nodes is reads =
    let tails : Effect = ReadsTail limit 5 (ReadsTail limit 4 (ReadsTail limit 3 (ReadsTail limit 2 (ReadsTail limit 1 (ReadsTail limit 0 next))))) in
    expression-read limit next depth head.Outside (word ∷ words) nodes (placed-folds limit tails depth head.Outside (word ∷ words) nodes (place-behind_name limit tails depth word words nodes is reads))
