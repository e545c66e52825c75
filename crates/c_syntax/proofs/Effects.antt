-- What steps do with the words and the open nodes that they find, where it is known what goes on behind them. A sort is read by what it means; a table's rule folds what
-- its steps do into that.
use Rattle.std.proofs.Common.{ℕ, ◌≡◌, ◌<◌, ◌+◌, ◌-◌, false, List, [], ◌∷◌, ◌++◌, Option, Some, None, IsTrue, refl, ap, subst}
use Rattle.c_syntax.specs.declared.node.NodeKind.{NodeKind}
use Rattle.c_syntax.specs.declared.term.Term.{Term}
use Rattle.c_syntax.specs.declared.grammar.Class.{Class}
use Rattle.c_syntax.specs.declared.grammar.Sort.{Sort}
use Rattle.c_syntax.specs.declared.grammar.Step.{Step}
use Rattle.c_syntax.specs.declared.grammar.Step.TheVariants.{Expect, Deepen, Rise, Take, InHead, Read, Open, Make, Join, Wrap, Skip}
use Rattle.c_syntax.specs.declared.head.Head.{Head}
use Rattle.c_syntax.specs.language.Heads.{behind}
use Rattle.c_syntax.specs.language.Words.{Word}
use Rattle.c_syntax.specs.language.Tree.{Tree}
use Rattle.c_syntax.specs.workings.Grammar.{choice}
use Rattle.c_syntax.specs.language.WordClasses.{is_outside}
use Rattle.c_syntax.specs.workings.Derivation.{Derives, Opened, fits, kept, made, joined, wrapped, skipped, opened_at, result_of}

-- what is to hold at a depth, a head, words and open nodes
abbrev pub Effect : Type 1
Effect = ℕ → Head → List Word → List Opened → Type 0

-- each kind of step
abbrev pub Expects : Term → Effect → Effect
Expects which next depth at [] nodes = ⊥
Expects which next depth at (word ∷ words) nodes = (word.term ≡ which) × next depth (behind at which) words nodes

abbrev pub Deepens : ℕ → Term → Effect → Effect
Deepens limit which next depth at [] nodes = ⊥
Deepens limit which next depth at (word ∷ words) nodes = (word.term ≡ which) × (depth < limit) × next (depth + 1) (behind at which) words nodes

abbrev pub Rises : Effect → Effect
Rises next depth at words nodes = next (depth - 1) at words nodes

abbrev pub Takes : Class → Effect → Effect
Takes which next depth at [] nodes = ⊥
Takes which next depth at (word ∷ words) nodes = IsTrue (fits at which word.term) × next depth (behind at word.term) words (kept which word nodes)

abbrev pub InHeads : Effect → Effect
InHeads next depth at words nodes = (is_outside at ≡ false) × next depth at words nodes

abbrev pub Opens : Effect → Effect
Opens next depth at [] nodes = ⊥
Opens next depth at (word ∷ words) nodes = next depth at (word ∷ words) (opened_at word.spot ∷ nodes)

abbrev pub Makes : NodeKind → Effect → Effect
Makes kind next depth at words nodes = next depth at words (made kind nodes)

abbrev pub Joins : NodeKind → Effect → Effect
Joins kind next depth at words nodes = next depth at words (joined kind nodes)

abbrev pub Wraps : NodeKind → Effect → Effect
Wraps kind next depth at words nodes = next depth at words (wrapped kind nodes)

abbrev pub Skips : Effect → Effect
Skips next depth at words nodes = next depth at words (skipped nodes)

-- what steps do, where it is told what each sort does
abbrev pub Runs : (limit : ℕ) → (Sort → Effect → Effect) → List Step → Effect → Effect
Runs limit reads [] next = next
Runs limit reads (Expect which ∷ steps) next = Expects which (Runs limit reads steps next)
Runs limit reads (Deepen which ∷ steps) next = Deepens limit which (Runs limit reads steps next)
Runs limit reads (Rise ∷ steps) next = Rises (Runs limit reads steps next)
Runs limit reads (Take which ∷ steps) next = Takes which (Runs limit reads steps next)
Runs limit reads (InHead ∷ steps) next = InHeads (Runs limit reads steps next)
Runs limit reads (Read what ∷ steps) next = reads what (Runs limit reads steps next)
Runs limit reads (Open ∷ steps) next = Opens (Runs limit reads steps next)
Runs limit reads (Make kind ∷ steps) next = Makes kind (Runs limit reads steps next)
Runs limit reads (Join kind ∷ steps) next = Joins kind (Runs limit reads steps next)
Runs limit reads (Wrap kind ∷ steps) next = Wraps kind (Runs limit reads steps next)
Runs limit reads (Skip ∷ steps) next = Skips (Runs limit reads steps next)

-- behind the last step nothing is left to be read, and the tree is made
abbrev pub Over : Tree → Effect
Over tree depth at words nodes = (words ≡ []) × (result_of nodes ≡ tree)

-- each rule does no more than what its sort means
abbrev pub Folds : (limit : ℕ) → (Sort → Effect → Effect) → Sort → Type 1
Folds limit reads what = (word : Word) → (chosen : List Step) → choice what word.term ≡ Some chosen → (next : Effect) → (depth : ℕ) → (at : Head) → (words : List Word) → (nodes : List Opened)
    → Runs limit reads chosen next depth at (word ∷ words) nodes → reads what next depth at (word ∷ words) nodes

-- steps behind others go on behind what those do
runs-append : (limit : ℕ) (reads : Sort → Effect → Effect) (front steps : List Step) (next : Effect) → Runs limit reads (front ++ steps) next ≡ Runs limit reads front (Runs limit reads steps next)
runs-append limit reads [] steps next = refl
runs-append limit reads (Expect which ∷ front) steps next = ap (Expects which) (runs-append limit reads front steps next)
runs-append limit reads (Deepen which ∷ front) steps next = ap (Deepens limit which) (runs-append limit reads front steps next)
runs-append limit reads (Rise ∷ front) steps next = ap Rises (runs-append limit reads front steps next)
runs-append limit reads (Take which ∷ front) steps next = ap (Takes which) (runs-append limit reads front steps next)
runs-append limit reads (InHead ∷ front) steps next = ap InHeads (runs-append limit reads front steps next)
runs-append limit reads (Read what ∷ front) steps next = ap (reads what) (runs-append limit reads front steps next)
runs-append limit reads (Open ∷ front) steps next = ap Opens (runs-append limit reads front steps next)
runs-append limit reads (Make kind ∷ front) steps next = ap (Makes kind) (runs-append limit reads front steps next)
runs-append limit reads (Join kind ∷ front) steps next = ap (Joins kind) (runs-append limit reads front steps next)
runs-append limit reads (Wrap kind ∷ front) steps next = ap (Wraps kind) (runs-append limit reads front steps next)
runs-append limit reads (Skip ∷ front) steps next = ap Skips (runs-append limit reads front steps next)

-- what is derived is what the steps do
pub derived-runs : {limit depth : ℕ} {at : Head} {steps : List Step} {words : List Word} {nodes : List Opened} {tree : Tree} → (reads : Sort → Effect → Effect) → ((what : Sort) → Folds limit reads what)
    → Derives limit steps depth at words nodes tree → Runs limit reads steps (Over tree) depth at words nodes
derived-runs reads folds (Derives.over same) = (refl, same)
derived-runs {limit} {depth} {at} {tree = tree} reads folds (Derives.expect {steps = steps} {words = words} {nodes = nodes} same rest) =
    (same, subst (λ one. Runs limit reads steps (Over tree) depth (behind at one) words nodes) same (derived-runs reads folds rest))
derived-runs {limit} {depth} {at} {tree = tree} reads folds (Derives.deepen {steps = steps} {words = words} {nodes = nodes} same low rest) =
    (same, low, subst (λ one. Runs limit reads steps (Over tree) (depth + 1) (behind at one) words nodes) same (derived-runs reads folds rest))
derived-runs reads folds (Derives.rise rest) = derived-runs reads folds rest
derived-runs reads folds (Derives.take fit rest) = (fit, derived-runs reads folds rest)
derived-runs reads folds (Derives.in_head inside rest) = (inside, derived-runs reads folds rest)
derived-runs {limit} {depth} {at} {tree = tree} reads folds (Derives.read {steps = steps} {chosen = chosen} {word = word} {words = words} {nodes = nodes} {what = what} same rest) =
    folds what word chosen same (Runs limit reads steps (Over tree)) depth at words nodes
    (subst (λ (effect : Effect). effect depth at (word ∷ words) nodes) (runs-append limit reads chosen steps (Over tree)) (derived-runs reads folds rest))
derived-runs reads folds (Derives.open_node rest) = derived-runs reads folds rest
derived-runs reads folds (Derives.make rest) = derived-runs reads folds rest
derived-runs reads folds (Derives.join rest) = derived-runs reads folds rest
derived-runs reads folds (Derives.wrap rest) = derived-runs reads folds rest
derived-runs reads folds (Derives.skip rest) = derived-runs reads folds rest

-- what is done by what a rule chooses is what its sort means
abbrev pub IsFolded : (limit : ℕ) → (Sort → Effect → Effect) → Sort → Effect → ℕ → Head → List Word → List Opened → Option (List Step) → Type 0
IsFolded limit reads what next depth at words nodes None = Unit {0}
IsFolded limit reads what next depth at words nodes (Some chosen) = Runs limit reads chosen next depth at words nodes → reads what next depth at words nodes

pub folds-by : (limit : ℕ) (reads : Sort → Effect → Effect) (what : Sort)
    → ((word : Word) → (next : Effect) → (depth : ℕ) → (at : Head) → (words : List Word) → (nodes : List Opened) → IsFolded limit reads what next depth at (word ∷ words) nodes (choice what word.term))
    → Folds limit reads what
folds-by limit reads what folded word chosen same next depth at words nodes =
    subst (IsFolded limit reads what next depth at (word ∷ words) nodes) same (folded word next depth at words nodes)

-- the word that is expected stands there
pub expected : (which : Term) (next : Effect) (depth : ℕ) (at : Head) (words : List Word) (nodes : List Opened) → Expects which next depth at words nodes
    → (word : Word) × (rest : List Word) × (words ≡ word ∷ rest) × (word.term ≡ which) × next depth (behind at which) rest nodes
expected which next depth at [] nodes fails = absurd fails
expected which next depth at (word ∷ rest) nodes (is, goes) = (word, rest, refl, is, goes)
