-- What a reading has come to: a state, and what it says of the words that were read.
use Rattle.std.specs.Prelude.{ℕ, ◌≡◌, ◌≤◌, ◌+◌, Bool, true, if◌then◌else◌, is_none, List, [], ◌∷◌, ◌++◌}
use Rattle.c_syntax.specs.declared.head.Head.{Head}
use Rattle.c_syntax.specs.declared.head.Head.TheVariants as head
use Rattle.c_syntax.specs.declared.term.Term.TheVariants as term
use Rattle.c_syntax.specs.declared.grammar.Sort.{Sort}
use Rattle.c_syntax.specs.declared.grammar.Sort.TheVariants as sort
use Rattle.c_syntax.specs.declared.grammar.Step.{Step}
use Rattle.c_syntax.specs.declared.grammar.Step.TheVariants.{Expect, Deepen, Take, Read}
use Rattle.c_syntax.specs.language.Words.{Word}
use Rattle.c_syntax.specs.language.Tree.{Tree}
use Rattle.c_syntax.specs.language.Productions.{depth_limit}
use Rattle.c_syntax.specs.workings.Derivation.{CanGoOn, Derives, Opened, SpellsWithin}
use Rattle.c_syntax.specs.language.Faults.{left_off}
use Rattle.c_syntax.specs.workings.Closing.{IsLeft, IsReady, last_step, opener}

-- the steps that are left, the next one first; how many things that count for the depth are open; where the words left off; the open nodes
pub record State : Type 0 where
  pub steps : List Step
  pub depth : ℕ
  pub at : Head
  pub nodes : List Opened

abbrev pub From : ℕ → State → List Word → Tree → Type 0
From limit state words tree = Derives limit state.steps state.depth state.at words state.nodes tree

-- whatever completes the words, with any limit from the one of programs on, goes on from the state, and the other way round
pub record Leaves (before ahead : List Word) (state : State) : Type 0 where
  pub onward : (limit : ℕ) (more : List Word) (tree : Tree) → depth_limit ≤ limit → SpellsWithin limit (before ++ (ahead ++ more)) tree → From limit state (ahead ++ more) tree
  pub back : (limit : ℕ) (more : List Word) (tree : Tree) → depth_limit ≤ limit → From limit state (ahead ++ more) tree → SpellsWithin limit (before ++ (ahead ++ more)) tree
  pub at : state.at ≡ left_off head.Outside before

-- The state right behind these words. Behind the word for the end of the text only the tree is left to be made.
pub record Reaches (before : List Word) (state : State) : Type 0 where
  pub leaves : Leaves before [] state
  pub steps : IsLeft state.steps
  pub ended : (front : List Word) (word : Word) → before ≡ front ++ word ∷ [] → word.term ≡ term.End → state.steps ≡ last_step

-- The state behind these words, before a word that was seen and not yet read: some steps may have been done since.
pub record Faces (before : List Word) (word : Word) (state : State) : Type 0 where
  pub leaves : Leaves before (word ∷ []) state
  pub goes_on : CanGoOn depth_limit before
  pub steps : IsReady state.steps

-- the sorts of which a text may have no word
abbrev pub may_be_empty : Sort → Bool
may_be_empty (sort.AfterGetter _) = true
may_be_empty other = is_none (opener other)

-- how many steps it takes at most until a sort has read a word or refused it, or is done
abbrev pub rank : Sort → ℕ
rank sort.Program = 7
rank sort.Globals = 4
rank sort.AfterIntName = 6
rank sort.Body = 5
rank sort.Locks = 3
rank sort.Params = 3
rank sort.Block = 3
rank sort.Items = 5
rank sort.Locals = 3
rank sort.Right = 4
rank sort.AfterRightName = 16
rank sort.Statement = 5
rank sort.PlainStatement = 4
rank sort.InitPart = 4
rank sort.CondPart = 10
rank sort.StepPart = 4
rank sort.ReturnPart = 5
rank sort.AfterStatementName = 6
rank sort.AssignRight = 4
rank sort.AfterAssignName = 18
rank sort.Place = 3
rank sort.Args = 10
rank sort.Expr = 9
rank sort.AndChain = 8
rank sort.EqualChain = 7
rank sort.RelChain = 6
rank sort.SumChain = 5
rank sort.ProdChain = 4
rank sort.Unary = 3
rank (sort.AfterGetter _) = 5
rank (sort.Behind _) = 7
rank sort.AfterParallel = 6
rank sort.FirstSection = 5
rank sort.SectionOrConstruct = 3
rank sort.MoreSections = 3
rank (sort.Clauses _) = 4
rank (sort.Clause _) = 3
rank sort.Names = 3
rank other = 2

-- how many steps are done at most until a word that was seen is read or refused
abbrev pub weight : List Step → ℕ
weight [] = 0
weight (Expect term ∷ steps) = 1
weight (Deepen term ∷ steps) = 1
weight (Take which ∷ steps) = 1
weight (Read what ∷ steps) = rank what + (if may_be_empty what then weight steps else 0)
weight (_ ∷ steps) = weight steps + 1
