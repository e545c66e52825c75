-- How a control goes on after an answer.
use Rattle.std.proofs.Common.{◌≡◌, ◌==◌, ◌&&◌, true, false, not, List, [], ◌∷◌, refl, sym, ap, ◌∙◌, subst, arith}
use Rattle.c_syntax.specs.language.Numbered.{TreeView}
use Rattle.c_syntax.specs.language.Tree.{kind_of}
use Rattle.c_model.specs.declared.question.Answer.{Answer}
use Rattle.c_model.specs.declared.view.View.{View}
use Rattle.c_model.specs.Answers.{AnswersFirst, AnswersItem}
use Rattle.c_model.specs.AfterEvents.{after_answer, answered_at, cells_answered, items_answered, settled_after_answer}
use Rattle.c_model.specs.Step.{is_masked, skips_masked, items_from_next, settled_task}
use Rattle.c_model.specs.Task.{Item as SeenItem, Moment, Store, Task}
use Rattle.c_model.specs.Task.Item.{Start}
use Rattle.c_model.specs.Width.{IsWithin}
use Rattle.c_model.proofs.WidthGoing.{answer_is_within}
use Rattle.c_steps.specs.declared.item.Item.{Item}
use Rattle.c_steps.specs.ControlView.{ControlView, moment_at, task_at}
use Rattle.c_steps.specs.Items.{begun, item_at, todo_at}
use Rattle.c_steps.specs.Passing.{replaced}
use Rattle.c_steps.specs.OfProgram.{IsMadeFor}
use Rattle.c_steps.specs.Ready.{AreFrames, IsFront}

-- member 0 goes past nothing
masked-past : (is : _) (view : View) → view.index ≡ 0 → (is && not (view.index == 0)) ≡ false
masked-past true view first = rw first refl
masked-past false view first = refl

no-past : (it : SeenItem) (view : View) → view.index ≡ 0 → skips_masked it view ≡ false
no-past (Start tree) view first = masked-past (is_masked (kind_of tree)) view first
no-past it view first = refl

pub nothing_past : (view : View) (items : List SeenItem) → view.index ≡ 0 → items_from_next view items ≡ items
unfolding items_from_next
nothing_past view [] first = refl
nothing_past view (it ∷ items) first = rw (no-past it view first) refl

pub same_task : (view : View) (task : Task) → view.index ≡ 0 → settled_task view task ≡ task
same_task view task first = ap (λ (items : List SeenItem). record task { todo = items }) (nothing_past view task.todo first)

module _ (program : TreeView) (view : View) (old settled : ControlView) (first : view.index ≡ 0) (so : task_at program settled ≡ settled_task view (task_at program old)) where
  pub settled_same : task_at program settled ≡ task_at program old
  settled_same = so ∙ same_task view (task_at program old) first

  pub none_stands : todo_at program settled.frames ≡ [] → todo_at program old.frames ≡ []
  none_stands none = sym (ap (λ (task : Task). task.todo) settled_same) ∙ none

  pub found_stands : (found : Item) → IsFront program settled.frames found → todo_at program old.frames ≡ item_at program found ∷ todo_at program (begun settled.frames)
  found_stands found front = sym (ap (λ (task : Task). task.todo) settled_same) ∙ front.todo

  pub answers_none : (given : Answer) → todo_at program settled.frames ≡ [] → AnswersFirst (todo_at program old.frames) given → ⊥
  unfolding AnswersFirst
  answers_none given none asked = subst (λ items. AnswersFirst items given) (none_stands none) asked

  pub answers_found : (given : Answer) (found : Item) → IsFront program settled.frames found → AnswersFirst (todo_at program old.frames) given → AnswersItem (item_at program found) given
  unfolding AnswersFirst
  answers_found given found front asked = subst (λ items. AnswersFirst items given) (found_stands found front) asked

  module _ (given : Answer) (found : Item) (new : ControlView) (before after : Store) (front : IsFront program settled.frames found) (task : task_at program new ≡ replaced program (items_answered given (item_at program found)) settled) (cells : after ≡ record before { cells = cells_answered given (item_at program found) before.cells }) where
    pub gave : moment_at program new after ≡ settled_after_answer given (moment_at program old before)
    gave =
        rw (task, cells) refl
        ∙ ap (λ items. answered_at items given (moment_at program settled before)) (sym front.todo)
        ∙ ap (λ (task : Task). answered_at task.todo given (record { task = task; store = before })) settled_same

    pub gave_within : IsWithin program (task_at program old) → IsWithin program (task_at program new)
    gave_within is =
        let now = moment_at program old before in
        let same : after_answer view given now ≡ settled_after_answer given now = ap (λ (task : Task). settled_after_answer given (record { task = task; store = before })) (same_task view (task_at program old) first) in
        subst (λ (now : Moment). IsWithin program now.task) (same ∙ sym gave) (answer_is_within program view given now is)

-- it stays made for the program
pub made_still : (program : TreeView) (old settled new : ControlView) → settled ≡ record old { frames = settled.frames } → new.step_names ≡ settled.step_names → new.room ≡ settled.room → IsMadeFor program old → AreFrames program new.frames → IsWithin program (task_at program new) → IsMadeFor program new
made_still program old settled new rest brings room made are within =
    record {
      are_frames = are;
      brings = brings ∙ ap (λ (held : ControlView). held.step_names) rest ∙ made.brings;
      fits = let same : new.room ≡ old.room = room ∙ ap (λ (held : ControlView). held.room) rest in let fits = made.fits in omega arith;
      is_within = within;
    }

pub ruleset given_answers_cases = (answers_none, answers_found, gave, gave_within)
