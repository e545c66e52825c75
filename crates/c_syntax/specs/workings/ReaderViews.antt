-- What a step of the reader does with the next word.
use Rattle.std.specs.Prelude.{◌≡◌, ◌≤◌, ◌<◌, ◌+◌, ⊤, List, [], ◌∷◌, ◌++◌, Result, Ok, Err}
use Rattle.c_syntax.specs.declared.fault.SyntaxFault.{SyntaxFault}
use Rattle.c_syntax.specs.declared.fault.SyntaxFault.TheVariants as fault
use Rattle.c_syntax.specs.declared.head.Head.{Head}
use Rattle.c_syntax.specs.declared.head.Head.TheVariants as head
use Rattle.c_syntax.specs.declared.grammar.Step.{Step}
use Rattle.c_syntax.specs.declared.reader.Progress.{Progress}
use Rattle.c_syntax.specs.declared.reader.Progress.TheVariants.{Stays, Takes}
use Rattle.c_syntax.specs.declared.reader.Reader.{Reader}
use Rattle.c_syntax.specs.declared.word.Word.{Word as Code}
use Rattle.c_syntax.specs.language.Words.{Word}
use Rattle.c_syntax.specs.language.Heads.{parentheses_of}
use Rattle.c_syntax.specs.workings.Derivation.{outermost, program_steps}
use Rattle.c_syntax.specs.language.Faults.{IsFault}
use Rattle.c_syntax.specs.workings.Reading.{Faces, Reaches, State, weight}

-- what a reader stands for
abbrev pub state_of : Reader → State
state_of reader = record { steps = reader.plan; depth = reader.depth; at = reader.at; nodes = reader.growth }

-- before the first word
abbrev pub beginning : State
beginning = record { steps = program_steps; depth = 0; at = head.Outside; nodes = outermost }

abbrev pub with_step : Step → State → State
with_step step state = record state { steps = step ∷ state.steps }

-- the words are at fault so, unless it was memory that was wanting
abbrev pub MayFault : List Word → SyntaxFault → Type 0
MayFault words fault.Memory = ⊤
MayFault words found = IsFault words found

-- A step left the word: what was said of the words before it still holds, and there is less to do. Or it took the word. Or the word is
-- at fault.
pub record Goes (word : Word) (old new : State) : Type 0 where
  pub faces : (before : List Word) → Faces before word old → Faces before word new
  pub nearer : weight new.steps < weight old.steps

abbrev pub Does : Word → State → State → Result Progress SyntaxFault → Type 0
Does word old new (Ok Stays) = Goes word old new
Does word old new (Ok Takes) = (before : List Word) → Faces before word old → Reaches (before ++ word ∷ []) new
Does word old new (Err found) = (before after : List Word) → Faces before word old → MayFault (before ++ word ∷ after) found

-- a word, as far as most steps look at it
pub record IsSeen (next : Word) (word : Code) : Type 0 where
  pub term : next.term ≡ word.term
  pub spot : next.spot ≡ word.spot

-- a step that leaves the word leaves where the words left off, and one that takes it opens one parenthesis at most
abbrev pub HeadsOn : Head → Head → Result Progress SyntaxFault → Type 0
HeadsOn old new (Ok Stays) = new ≡ old
HeadsOn old new (Ok Takes) = parentheses_of new ≤ parentheses_of old + 1
HeadsOn old new (Err found) = new ≡ old
