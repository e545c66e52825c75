-- Answers that fit what is asked.
use Rattle.std.proofs.Common.{◌+◌, ◌<◌, ◌≤◌, ℕ, Bool, List, [], ◌∷◌, Option, Some, None, IfSome}
use Rattle.c_syntax.specs.language.Tree.{Tree}
use Rattle.c_model.specs.declared.question.Answer.TheVariants as answer
use Rattle.c_model.specs.declared.question.Ask.TheVariants as ask
use Rattle.c_model.specs.Answers.{AnswersFirst, AnswersItem, IsChunkAnswer, IsLockAnswer, IsSectionAnswer}
use Rattle.c_model.specs.Asked.{count_asked, sections_asked}
use Rattle.c_model.specs.Occurring.{IsAskOf, IsAskOfNext}
use Rattle.c_model.specs.Task.{Item}
use Rattle.c_model.specs.Task.Item.{TestLock}
use Rattle.c_steps.proofs.Asked.{chunk_answers, section_answers}

fits-chunk : (count : ℕ) (chunk : Option (ℕ × ℕ)) → IfSome chunk (λ (chunk : ℕ × ℕ). (0 < chunk.1) × (chunk.0 + chunk.1 ≤ count)) → IsChunkAnswer count (answer.Chunk chunk)
unfolding IsChunkAnswer
fits-chunk count None within = tt
fits-chunk count (Some chunk) within = within

fits-section : (count : ℕ) (section : Option ℕ) → IfSome section (λ (section : ℕ). section < count) → IsSectionAnswer count (answer.Section section)
unfolding IsSectionAnswer
fits-section count None within = tt
fits-section count (Some section) within = within

module _ (items : List Item) (tree : Tree) where
  -- a chunk within the loop's iterations, or none
  pub chunk_replies : (chunk : Option (ℕ × ℕ)) → IsAskOfNext ask.Chunk tree items → IfSome chunk (λ (chunk : ℕ × ℕ). (0 < chunk.1) × (chunk.0 + chunk.1 ≤ count_asked items)) → AnswersFirst items (answer.Chunk chunk)
  chunk_replies chunk is within = chunk_answers items tree (answer.Chunk chunk) is (fits-chunk (count_asked items) chunk within)

  -- a section of the construct, or none
  pub section_replies : (section : Option ℕ) → IsAskOfNext ask.Section tree items → IfSome section (λ (section : ℕ). section < sections_asked items) → AnswersFirst items (answer.Section section)
  section_replies section is within = section_answers items tree (answer.Section section) is (fits-section (sections_asked items) section within)

-- whether a lock is free
pub lock_replies : (items : List Item) (tree : Tree) (id : ℕ) (free : Bool) → IsAskOfNext (ask.LockFree id) tree items → AnswersFirst items (answer.Free free)
unfolding IsAskOfNext IsAskOf AnswersFirst AnswersItem IsLockAnswer
lock_replies [] tree id free is = absurd is
lock_replies (TestLock call wait_id to ∷ items) tree id free is = tt
lock_replies (other ∷ items) tree id free is = absurd is
