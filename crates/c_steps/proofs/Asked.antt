-- Answers within what there is of the shared work that asks.
use Rattle.std.proofs.Common.{◌≡◌, ℕ, List, [], ◌∷◌, slice_get, Option, sym, ap, ◌∙◌}
use Rattle.c_syntax.specs.language.Tree.{Tree}
use Rattle.c_model.specs.declared.question.Answer.{Answer}
use Rattle.c_model.specs.declared.question.Ask.TheVariants as ask
use Rattle.c_model.specs.Answers.{AnswersFirst, AnswersItem, IsChunkAnswer, IsSectionAnswer}
use Rattle.c_model.specs.Occurring.{IsAskOf, IsAskOfNext}
use Rattle.c_model.specs.Task.{Item}
use Rattle.c_model.specs.Task.Item.{NextChunk, NextSection}
use Rattle.c_model.specs.declared.view.View.{View}
use Rattle.c_model.specs.Step.{items_from_next}
use Rattle.c_model.specs.Asked.{count_asked, count_of_item, sections_asked, sections_of_item}
use Rattle.c_steps.proofs.Giving.{nothing_past}

pub chunk_answers : (items : List Item) (tree : Tree) (given : Answer) → IsAskOfNext ask.Chunk tree items → IsChunkAnswer (count_asked items) given → AnswersFirst items given
unfolding IsAskOfNext IsAskOf AnswersFirst AnswersItem
chunk_answers [] tree given is fits = absurd is
chunk_answers (NextChunk loop ∷ items) tree given is fits = fits
chunk_answers (other ∷ items) tree given is fits = absurd is

pub section_answers : (items : List Item) (tree : Tree) (given : Answer) → IsAskOfNext ask.Section tree items → IsSectionAnswer (sections_asked items) given → AnswersFirst items given
unfolding IsAskOfNext IsAskOf AnswersFirst AnswersItem
section_answers [] tree given is fits = absurd is
section_answers (NextSection construct names ∷ items) tree given is fits = fits
section_answers (other ∷ items) tree given is fits = absurd is

-- member 0 goes past nothing, so that what it comes to stands first
first-stands : (view : View) (items : List Item) (first : Option Item) → view.index ≡ 0 → slice_get (items_from_next view items) 0 ≡ first → slice_get items 0 ≡ first
first-stands view items first index is = sym (ap (λ (items : List Item). slice_get items 0) (nothing_past view items index)) ∙ is

pub count_stands : (view : View) (items : List Item) (first : Option Item) (number : ℕ) → view.index ≡ 0 → slice_get (items_from_next view items) 0 ≡ first → number ≡ count_of_item first → number ≡ count_asked items
count_stands view items first number index is count = count ∙ sym (ap count_of_item (first-stands view items first index is))

pub sections_stand : (view : View) (items : List Item) (first : Option Item) (number : ℕ) → view.index ≡ 0 → slice_get (items_from_next view items) 0 ≡ first → number ≡ sections_of_item first → number ≡ sections_asked items
sections_stand view items first number index is count = count ∙ sym (ap sections_of_item (first-stands view items first index is))
