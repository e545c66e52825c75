-- How a short text completes what was read: by which word each sort of text can begin so that no word of it counts for the depth, and
-- which steps are left while a program is read.
use Rattle.std.specs.Prelude.{◌≡◌, ◌⊎◌, Bool, true, false, List, [], ◌∷◌, Option, Some, None, unwrap_or, IsTrue}
use Rattle.c_syntax.specs.declared.term.Term.{Term}
use Rattle.c_syntax.specs.declared.term.Term.TheVariants as term
use Rattle.c_syntax.specs.declared.node.Getter.TheVariants as getter
use Rattle.c_syntax.specs.declared.node.Directive.TheVariants as directive
use Rattle.c_syntax.specs.declared.node.NodeKind.TheVariants as node
use Rattle.c_syntax.specs.declared.grammar.Class.{Class}
use Rattle.c_syntax.specs.declared.grammar.Class.TheVariants as class
use Rattle.c_syntax.specs.declared.grammar.Sort.{Sort}
use Rattle.c_syntax.specs.declared.grammar.Sort.TheVariants as sort
use Rattle.c_syntax.specs.declared.grammar.Step.{Step}
use Rattle.c_syntax.specs.declared.grammar.Step.TheVariants.{Expect, Deepen, Rise, Take, InHead, Read, Open, Make, Join, Wrap, Skip}
use Rattle.c_syntax.specs.workings.Derivation.{program_steps}

-- the word with which a short text of a sort begins; none where the shortest has no word
abbrev pub opener : Sort → Option Term
opener sort.Program = Some term.End
opener sort.AfterIntName = Some term.Semicolon
opener sort.Body = Some term.CloseParen
opener sort.Initial = Some term.Number
opener sort.Locks = Some term.LockType
opener sort.Block = Some term.OpenBrace
opener sort.ItemDirective = Some term.Barrier
opener sort.Locals = Some term.Int
opener sort.Right = Some term.Number
opener sort.Statement = Some term.Semicolon
opener sort.PlainStatement = Some term.Semicolon
opener sort.StepRest = Some term.PlusPlus
opener sort.AfterStatementName = Some term.PlusPlus
opener sort.AfterPlace = Some term.PlusPlus
opener sort.AssignRight = Some term.Number
opener sort.Place = Some term.Name
opener sort.Expr = Some term.Number
opener sort.AndChain = Some term.Number
opener sort.EqualChain = Some term.Number
opener sort.RelChain = Some term.Number
opener sort.SumChain = Some term.Number
opener sort.ProdChain = Some term.Number
opener sort.Unary = Some term.Number
opener (sort.AfterGetter _) = Some term.OpenParen
opener sort.Construct = Some term.Masked
opener (sort.Behind _) = Some term.PragmaEnd
opener sort.AfterParallel = Some term.PragmaEnd
opener sort.SectionsBody = Some term.OpenBrace
opener sort.FirstSection = Some term.Semicolon
opener sort.SectionOrConstruct = Some term.Section
opener (sort.Clause _) = Some term.Private
opener sort.DefaultWord = Some term.None
opener sort.Operator = Some term.Plus
opener sort.Kind = Some term.Static
opener sort.Names = Some term.Name
opener other = None

-- a word of a class
abbrev pub sample : Class → Term
sample class.Name = term.Name
sample (class.Routine getter.ThreadNum) = term.GetThreadNum
sample (class.Routine getter.NumThreads) = term.GetNumThreads
sample (class.Routine getter.MaxThreads) = term.GetMaxThreads
sample class.Number = term.Number
sample class.Text = term.Text

-- the word with which a short text of some steps begins, where this word follows them
abbrev pub opens : Term → List Step → Term
opens follower [] = follower
opens follower (Expect term ∷ steps) = term
opens follower (Deepen term ∷ steps) = term
opens follower (Take which ∷ steps) = sample which
opens follower (Read what ∷ steps) = unwrap_or (opener what) (opens follower steps)
opens follower (_ ∷ steps) = opens follower steps

-- The words that may begin the short text of what follows a sort. First those of the file and its functions, then of statements, of
-- directives and clauses, and last of expressions.
abbrev pub followers : Sort → List Term
followers sort.Program = []
followers sort.Globals = term.End ∷ []
followers sort.AfterIntName = term.End ∷ []
followers sort.Body = term.End ∷ []
followers sort.GlobalRest = term.Semicolon ∷ []
followers sort.Initial = term.Semicolon ∷ []
followers sort.MoreGlobals = term.Semicolon ∷ []
followers sort.Locks = term.CloseBrace ∷ term.End ∷ []
followers sort.MoreLocks = term.Semicolon ∷ []
followers sort.Params = term.CloseParen ∷ []
followers sort.MoreParams = term.CloseParen ∷ []
followers sort.Block = term.CloseBrace ∷ []
followers sort.Items = term.CloseBrace ∷ []
followers sort.ItemDirective = term.CloseBrace ∷ []
followers sort.Locals = term.CloseBrace ∷ []
followers sort.LocalRest = term.Semicolon ∷ []
followers sort.MoreLocals = term.Semicolon ∷ []
followers sort.Right = term.Semicolon ∷ []
followers sort.AfterRightName = term.Semicolon ∷ []
followers sort.Statement = term.CloseBrace ∷ []
followers sort.PlainStatement = term.CloseBrace ∷ []
followers sort.ElsePart = term.CloseBrace ∷ []
followers sort.InitPart = term.Semicolon ∷ []
followers sort.CondPart = term.Semicolon ∷ []
followers sort.StepPart = term.CloseParen ∷ []
followers sort.StepRest = term.CloseParen ∷ term.Semicolon ∷ []
followers sort.ReturnPart = term.Semicolon ∷ []
followers sort.AfterStatementName = term.CloseBrace ∷ []
followers sort.AfterPlace = term.CloseBrace ∷ []
followers sort.AssignRight = term.Semicolon ∷ []
followers sort.AfterAssignName = term.Semicolon ∷ []
followers sort.Place = term.CloseParen ∷ term.Semicolon ∷ term.PlusPlus ∷ []
followers sort.Args = term.CloseParen ∷ []
followers sort.MoreArgs = term.CloseParen ∷ []
followers sort.Construct = term.CloseBrace ∷ []
followers (sort.Behind _) = term.CloseBrace ∷ []
followers sort.AfterParallel = term.CloseBrace ∷ []
followers sort.CriticalName = term.PragmaEnd ∷ []
followers sort.SectionsBody = term.CloseBrace ∷ []
followers sort.FirstSection = term.CloseBrace ∷ []
followers sort.SectionOrConstruct = term.CloseBrace ∷ []
followers sort.MoreSections = term.CloseBrace ∷ []
followers (sort.Clauses directive.Masked) = []
followers (sort.Clauses directive.Master) = []
followers (sort.Clauses directive.Critical) = []
followers (sort.Clauses _) = term.PragmaEnd ∷ []
followers (sort.Clause directive.Masked) = []
followers (sort.Clause directive.Master) = []
followers (sort.Clause directive.Critical) = []
followers (sort.Clause _) = term.PragmaEnd ∷ []
followers sort.DefaultWord = term.PragmaEnd ∷ []
followers sort.Operator = term.PragmaEnd ∷ []
followers sort.Kind = term.PragmaEnd ∷ []
followers sort.ChunkPart = term.CloseParen ∷ []
followers sort.Names = term.CloseParen ∷ []
followers sort.MoreNames = term.CloseParen ∷ []
followers sort.IndexPart = term.CloseParen ∷ term.CloseBracket ∷ term.Semicolon ∷ term.PlusPlus ∷ []
followers expression = term.CloseParen ∷ term.CloseBracket ∷ term.Semicolon ∷ []

-- a word of a list
abbrev pub IsAmong : Term → List Term → Type 0
IsAmong word [] = ⊥
IsAmong word (first ∷ rest) = (word ≡ first) ⊎ IsAmong word rest

-- each block counts for the depth, and no other sort has to
abbrev pub is_shallow : Sort → Bool
is_shallow sort.Block = false
is_shallow other = true

abbrev pub is_end : Term → Bool
is_end term.End = true
is_end other = false

-- the steps that read no word and refuse none
abbrev pub is_plain : Step → Bool
is_plain Rise = true
is_plain Open = true
is_plain (Make _) = true
is_plain (Join _) = true
is_plain (Wrap _) = true
is_plain Skip = true
is_plain other = false

-- the steps that end each program
abbrev pub last_step : List Step
last_step = Make node.Program ∷ []

abbrev pub last_steps : List Step
last_steps = Expect term.End ∷ last_step

-- the steps that may be left behind a word: a short text completes them
pub data IsHeld : List Step → Type 0 where
  ending : IsHeld last_steps
  expects : {term : Term} {steps : List Step} → is_end term ≡ false → IsHeld steps → IsHeld (Expect term ∷ steps)
  takes : {which : Class} {steps : List Step} → IsHeld steps → IsHeld (Take which ∷ steps)
  reads : {what : Sort} {steps : List Step} → IsTrue (is_shallow what) → IsAmong (opens term.End steps) (followers what) → IsHeld steps → IsHeld (Read what ∷ steps)
  plain : {step : Step} {steps : List Step} → IsTrue (is_plain step) → IsHeld steps → IsHeld (step ∷ steps)

-- the same with the beginning and the end of a program
pub data IsLeft : List Step → Type 0 where
  beginning : IsLeft program_steps
  under_way : {steps : List Step} → IsHeld steps → IsLeft steps
  finished : IsLeft last_step

-- the steps that may be left before a word that was seen: once it is read they can be completed
pub data IsReady : List Step → Type 0 where
  over : IsReady []
  beginning : IsReady program_steps
  ending : IsReady last_steps
  expects : {term : Term} {steps : List Step} → is_end term ≡ false → IsHeld steps → IsReady (Expect term ∷ steps)
  deepens : {term : Term} {steps : List Step} → is_end term ≡ false → IsHeld steps → IsReady (Deepen term ∷ steps)
  takes : {which : Class} {steps : List Step} → IsHeld steps → IsReady (Take which ∷ steps)
  in_head : {steps : List Step} → IsReady steps → IsReady (InHead ∷ steps)
  reads : {what : Sort} {steps : List Step} → IsAmong (opens term.End steps) (followers what) → IsHeld steps → IsReady (Read what ∷ steps)
  plain : {step : Step} {steps : List Step} → IsTrue (is_plain step) → IsReady steps → IsReady (step ∷ steps)
