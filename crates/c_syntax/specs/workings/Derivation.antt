-- The table at work: which words its steps read one after another, and the tree that they make on the way. It serves the reader and proofs: what a program
-- is stands in `Productions`, and that the table derives the same trees is proved.
use Rattle.std.specs.Prelude.{ℕ, ◌≡◌, ◌<◌, ◌+◌, ◌-◌, Bool, true, false, IsTrue, List, [], ◌∷◌, ◌++◌, Option, Some, None}
use Rattle.c_tokens.specs.declared.token.Spot.{Spot}
use Rattle.c_tokens.specs.language.Faults.{nowhere}
use Rattle.c_syntax.specs.declared.node.NodeKind.{NodeKind}
use Rattle.c_syntax.specs.declared.node.NodeKind.TheVariants as node
use Rattle.c_syntax.specs.declared.term.Term.{Term}
use Rattle.c_syntax.specs.declared.term.Term.TheVariants as term
use Rattle.c_syntax.specs.declared.grammar.Class.{Class}
use Rattle.c_syntax.specs.declared.grammar.Class.TheVariants as class
use Rattle.c_syntax.specs.declared.grammar.Sort.{Sort}
use Rattle.c_syntax.specs.declared.grammar.Sort.TheVariants as sort
use Rattle.c_syntax.specs.declared.grammar.Step.{Step}
use Rattle.c_syntax.specs.declared.grammar.Step.TheVariants.{Expect, Deepen, Rise, Take, InHead, Read, Open, Make, Join, Wrap, Skip}
use Rattle.c_syntax.specs.declared.head.Head.{Head}
use Rattle.c_syntax.specs.declared.head.Head.TheVariants as head
use Rattle.c_syntax.specs.language.Heads.{behind}
use Rattle.c_syntax.specs.language.Words.{Word}
use Rattle.c_syntax.specs.language.WordClasses.{is_getter, is_name_at, is_outside}
use Rattle.c_syntax.specs.language.Tree.{Tree, children_from, nothing, over_one, over_two}
use Rattle.c_syntax.specs.language.Tree.Tree.{Node}
use Rattle.c_syntax.specs.workings.Grammar.{choice}

abbrev pub is_number : Term → Bool
is_number term.Number = true
is_number other = false

abbrev pub is_text : Term → Bool
is_text term.Text = true
is_text other = false

-- the words of a class
abbrev pub fits : Head → Class → Term → Bool
fits at class.Name word = is_name_at at word
fits at (class.Routine which) word = is_getter which word
fits at class.Number word = is_number word
fits at class.Text word = is_text word

-- A node that has begun: the place of its first word, what it keeps, and its children so far, the last one first
pub record Opened : Type 0 where
  pub spot : Spot
  pub name : ℕ
  pub number : ℕ
  pub text : List ℕ
  pub children : List (Option Tree)

abbrev pub opened_at : Spot → Opened
opened_at spot = record { spot = spot; name = 0; number = 0; text = []; children = [] }

-- the innermost open node keeps what a word of a class has
abbrev pub keep : Class → Word → Opened → Opened
keep class.Number word node = record node { number = word.value }
keep class.Text word node = record node { text = word.text }
keep _ word node = record node { name = word.value }

abbrev pub kept : Class → Word → List Opened → List Opened
kept which word [] = []
kept which word (node ∷ outer) = keep which word node ∷ outer

-- a routine that gives a number has no name
abbrev pub name_in : NodeKind → ℕ → ℕ
name_in (node.Getter which) name = 0
name_in other name = name

abbrev pub with_child : Option Tree → Opened → Opened
with_child child node = record node { children = child ∷ node.children }

abbrev pub closed : NodeKind → Opened → Tree
closed kind node = Node kind node.spot (name_in kind node.name) node.number node.text (children_from node.children)

-- the innermost open node is over, and becomes a child of the next
abbrev pub made : NodeKind → List Opened → List Opened
made kind [] = []
made kind (node ∷ []) = node ∷ []
made kind (node ∷ parent ∷ outer) = with_child (Some (closed kind node)) parent ∷ outer

abbrev pub join_children : NodeKind → List (Option Tree) → List (Option Tree)
join_children kind (Some right ∷ Some left ∷ older) = Some (over_two kind left right) ∷ older
join_children kind other = other

abbrev pub wrap_children : NodeKind → List (Option Tree) → List (Option Tree)
wrap_children kind (Some inner ∷ older) = Some (over_one kind inner) ∷ older
wrap_children kind other = other

abbrev pub joined : NodeKind → List Opened → List Opened
joined kind [] = []
joined kind (node ∷ outer) = record node { children = join_children kind node.children } ∷ outer

abbrev pub wrapped : NodeKind → List Opened → List Opened
wrapped kind [] = []
wrapped kind (node ∷ outer) = record node { children = wrap_children kind node.children } ∷ outer

abbrev pub skipped : List Opened → List Opened
skipped [] = []
skipped (node ∷ outer) = with_child None node ∷ outer

-- the tree that was made last in the innermost open node, which for a program is the one that takes its tree
abbrev pub newest : List (Option Tree) → Tree
newest (Some tree ∷ older) = tree
newest other = nothing

abbrev pub result_of : List Opened → Tree
result_of [] = nothing
result_of (node ∷ outer) = newest node.children

-- These steps, at this depth, behind words that left off so, and with these open nodes, read these words, all of them, and make this
-- tree. Nothing is deeper than the limit.
pub data Derives : ℕ → List Step → ℕ → Head → List Word → List Opened → Tree → Type 0 where
  over : {limit depth : ℕ} {at : Head} {nodes : List Opened} {tree : Tree} → result_of nodes ≡ tree → Derives limit [] depth at [] nodes tree
  expect : {limit depth : ℕ} {at : Head} {steps : List Step} {word : Word} {words : List Word} {nodes : List Opened} {tree : Tree} {term : Term} → word.term ≡ term → Derives limit steps depth (behind at word.term) words nodes tree → Derives limit (Expect term ∷ steps) depth at (word ∷ words) nodes tree
  deepen : {limit depth : ℕ} {at : Head} {steps : List Step} {word : Word} {words : List Word} {nodes : List Opened} {tree : Tree} {term : Term} → word.term ≡ term → depth < limit → Derives limit steps (depth + 1) (behind at word.term) words nodes tree → Derives limit (Deepen term ∷ steps) depth at (word ∷ words) nodes tree
  rise : {limit depth : ℕ} {at : Head} {steps : List Step} {words : List Word} {nodes : List Opened} {tree : Tree} → Derives limit steps (depth - 1) at words nodes tree → Derives limit (Rise ∷ steps) depth at words nodes tree
  take : {limit depth : ℕ} {at : Head} {steps : List Step} {word : Word} {words : List Word} {nodes : List Opened} {tree : Tree} {which : Class} → IsTrue (fits at which word.term) → Derives limit steps depth (behind at word.term) words (kept which word nodes) tree → Derives limit (Take which ∷ steps) depth at (word ∷ words) nodes tree
  in_head : {limit depth : ℕ} {at : Head} {steps : List Step} {words : List Word} {nodes : List Opened} {tree : Tree} → is_outside at ≡ false → Derives limit steps depth at words nodes tree → Derives limit (InHead ∷ steps) depth at words nodes tree
  read : {limit depth : ℕ} {at : Head} {steps : List Step} {chosen : List Step} {word : Word} {words : List Word} {nodes : List Opened} {tree : Tree} {what : Sort} → choice what word.term ≡ Some chosen → Derives limit (chosen ++ steps) depth at (word ∷ words) nodes tree → Derives limit (Read what ∷ steps) depth at (word ∷ words) nodes tree
  open_node : {limit depth : ℕ} {at : Head} {steps : List Step} {word : Word} {words : List Word} {nodes : List Opened} {tree : Tree} → Derives limit steps depth at (word ∷ words) (opened_at word.spot ∷ nodes) tree → Derives limit (Open ∷ steps) depth at (word ∷ words) nodes tree
  make : {limit depth : ℕ} {at : Head} {steps : List Step} {words : List Word} {nodes : List Opened} {tree : Tree} {kind : NodeKind} → Derives limit steps depth at words (made kind nodes) tree → Derives limit (Make kind ∷ steps) depth at words nodes tree
  join : {limit depth : ℕ} {at : Head} {steps : List Step} {words : List Word} {nodes : List Opened} {tree : Tree} {kind : NodeKind} → Derives limit steps depth at words (joined kind nodes) tree → Derives limit (Join kind ∷ steps) depth at words nodes tree
  wrap : {limit depth : ℕ} {at : Head} {steps : List Step} {words : List Word} {nodes : List Opened} {tree : Tree} {kind : NodeKind} → Derives limit steps depth at words (wrapped kind nodes) tree → Derives limit (Wrap kind ∷ steps) depth at words nodes tree
  skip : {limit depth : ℕ} {at : Head} {steps : List Step} {words : List Word} {nodes : List Opened} {tree : Tree} → Derives limit steps depth at words (skipped nodes) tree → Derives limit (Skip ∷ steps) depth at words nodes tree

-- the steps of a whole program, and the node that takes its tree
abbrev pub program_steps : List Step
program_steps = Read sort.Program ∷ []

abbrev pub outermost : List Opened
outermost = opened_at nowhere ∷ []

-- the words are a program with this tree, and no node of it is deeper than the limit
abbrev pub SpellsWithin : ℕ → List Word → Tree → Type 0
SpellsWithin limit words tree = Derives limit program_steps 0 head.Outside words outermost tree

-- some words more make the words a program
abbrev pub CanGoOn : ℕ → List Word → Type 0
CanGoOn limit words = (more : List Word) × (tree : Tree) × SpellsWithin limit (words ++ more) tree
