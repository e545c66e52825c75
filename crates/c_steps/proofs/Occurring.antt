-- What an event is of, and what asks a question, where an advance answers one.
use Rattle.std.proofs.Common.{◌≡◌, ℕ, List, ◌∷◌, sym, subst}
use Rattle.c_syntax.specs.language.Numbered.{TreeView, tree_at}
use Rattle.c_model.specs.declared.point.Point.{Point}
use Rattle.c_model.specs.declared.question.Ask.{Ask}
use Rattle.c_model.specs.declared.view.View.{View}
use Rattle.c_model.specs.Occurring.{IsAskOf, IsAskOfNext}
use Rattle.c_model.specs.Step.{step_of}
use Rattle.c_model.specs.Task.{Item as SeenItem, Store}
use Rattle.c_model.proofs.Asking.{question_is_of_item}
use Rattle.c_model.proofs.Occurring.{event_is_at_item, event_is_of_item}
use Rattle.c_steps.specs.declared.item.Item.{Item}
use Rattle.c_steps.specs.declared.next.Next.{Next}
use Rattle.c_steps.specs.declared.next.Next.TheVariants as next
use Rattle.c_steps.specs.Advancing.{IsNamed}
use Rattle.c_steps.specs.ControlView.{ControlView, here_at, moment_at, outcome_at}
use Rattle.c_steps.specs.Items.{begun, item_at, todo_at}
use Rattle.c_steps.specs.Passing.{IsEventOf, IsEventOfNext}
use Rattle.c_steps.specs.Ready.{FitsProgram, IsFront, IsSettled}

event-first : (program : TreeView) (point : Point) (node : ℕ) (it : SeenItem) (items : List SeenItem) → IsEventOf program point node it → IsEventOfNext program point node (it ∷ items)
unfolding IsEventOfNext
event-first program point node it items is = is

ask-first : (ask : Ask) (program : TreeView) (node : ℕ) (it : SeenItem) (items : List SeenItem) → IsAskOf ask (tree_at program.trees node) it → IsAskOfNext ask (tree_at program.trees node) (it ∷ items)
unfolding IsAskOfNext
ask-first ask program node it items is = is

module _ (program : TreeView) (view : View) (settled new : ControlView) (store after : Store) (it : Item) (front : IsFront program settled.frames it) where
  -- the step of what stands next
  pub named_front : (result : Next) → outcome_at program result (moment_at program new after) ≡ step_of (item_at program it) (here_at program view settled store) → IsSettled result settled store new after → FitsProgram program result → IsNamed program result new
  named_front (next.Event point node) step left fits =
      let here = here_at program view settled store in
      let is : IsEventOf program point node (item_at program it) = record {
        of_item = event_is_of_item (item_at program it) here point (tree_at program.trees node) (sym step);
        is_there = fits.0;
        is_node = event_is_at_item (item_at program it) here point (tree_at program.trees node) (sym step);
        numbers = fits.1;
      } in
      subst (λ (held : ControlView). IsEventOfNext program point node (todo_at program held.frames)) (sym left.0)
      (subst (IsEventOfNext program point node) (sym front.todo) (event-first program point node (item_at program it) (todo_at program (begun settled.frames)) is))
  named_front (next.Ask ask node) step left fits =
      let here = here_at program view settled store in
      let is = question_is_of_item (item_at program it) here ask (tree_at program.trees node) (sym step) in
      subst (λ (held : ControlView). IsAskOfNext ask (tree_at program.trees node) (todo_at program held.frames)) (sym left.0)
      (subst (IsAskOfNext ask (tree_at program.trees node)) (sym front.todo) (ask-first ask program node (item_at program it) (todo_at program (begun settled.frames)) is))
  named_front next.Quiet step left fits = tt
  named_front (next.Ended number) step left fits = tt
  named_front (next.Trap trap) step left fits = tt
  named_front (next.Limit limit) step left fits = tt
