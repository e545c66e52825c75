-- Which answers are given to what a task asks. What the definitions say of others has no meaning.
use Rattle.std.specs.Prelude.{ℕ, ◌<◌, ◌≤◌, ◌+◌, List, [], ◌∷◌, length, Some, None}
use Rattle.c_model.specs.declared.question.Answer.{Answer}
use Rattle.c_model.specs.declared.question.Answer.TheVariants as answer
use Rattle.c_model.specs.declared.question.Ask.TheVariants as ask
use Rattle.c_model.specs.declared.view.View.{View}
use Rattle.c_model.specs.Clauses.{sections_of}
use Rattle.c_model.specs.Task.{Item, Outcome, Task}
use Rattle.c_model.specs.Task.Item.{NextChunk, NextSection, TestLock}
use Rattle.c_model.specs.Task.Outcome.{Asks}
use Rattle.c_model.specs.Step.{settled_task}

-- a chunk that is given has an iteration, and lies within the iterations of the loop, counted from 0
unfoldable pub IsChunkAnswer : ℕ → Answer → Type 0
IsChunkAnswer count (answer.Chunk None) = Unit {0}
IsChunkAnswer count (answer.Chunk (Some chunk)) = (0 < chunk.1) × (chunk.0 + chunk.1 ≤ count)
IsChunkAnswer count other = ⊥

-- a section that is given, counted from 0, is one of the construct's
unfoldable pub IsSectionAnswer : ℕ → Answer → Type 0
IsSectionAnswer count (answer.Section None) = Unit {0}
IsSectionAnswer count (answer.Section (Some section)) = section < count
IsSectionAnswer count other = ⊥

unfoldable pub IsLockAnswer : Answer → Type 0
IsLockAnswer (answer.Free free) = Unit {0}
IsLockAnswer other = ⊥

-- an answer to what stands next
unfoldable pub AnswersItem : Item → Answer → Type 0
AnswersItem (NextChunk loop) given = IsChunkAnswer loop.count given
AnswersItem (NextSection construct names) given = IsSectionAnswer (length (sections_of construct)) given
AnswersItem (TestLock call id to) given = IsLockAnswer given
AnswersItem other given = ⊥

unfoldable pub AnswersFirst : List Item → Answer → Type 0
AnswersFirst [] given = ⊥
AnswersFirst (item ∷ items) given = AnswersItem item given

-- an answer is given to what a task asks
abbrev pub Answers : View → Task → Answer → Type 0
Answers view task given = AnswersFirst (settled_task view task).todo given

-- a step asks for an answer of this kind
unfoldable pub AsksFor : Outcome → Answer → Type 0
AsksFor (Asks ask.Chunk tree) (answer.Chunk chunk) = Unit {0}
AsksFor (Asks ask.Section tree) (answer.Section section) = Unit {0}
AsksFor (Asks (ask.LockFree id) tree) (answer.Free free) = Unit {0}
AsksFor other given = ⊥
