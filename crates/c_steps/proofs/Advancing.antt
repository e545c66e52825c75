-- What an advance comes to, when the task has left out what it goes past.
use Rattle.std.proofs.Common.{◌≡◌, [], pos, unwrap_or, refl, sym, ap, ◌∙◌, subst, arith}
use Rattle.c_syntax.specs.language.Numbered.{TreeView}
use Rattle.c_model.specs.declared.view.View.{View}
use Rattle.c_model.specs.Step.{items_from_next, settled_task, silent, step_at, step_of}
use Rattle.c_model.specs.Task.{Store, Task}
use Rattle.c_model.specs.Task.Outcome.{Ends}
use Rattle.c_model.specs.Width.{IsWithin}
use Rattle.c_model.proofs.WidthSettled.{settled_is_within}
use Rattle.c_model.proofs.WidthSteps.{step_is_within}
use Rattle.c_steps.specs.declared.item.Item.{Item}
use Rattle.c_steps.specs.declared.next.Next.{Next}
use Rattle.c_steps.specs.declared.next.Next.TheVariants as next
use Rattle.c_steps.specs.ControlView.{ControlView, here_at, moment_at, outcome_at, task_at}
use Rattle.c_steps.specs.Items.{begun, item_at, todo_at}
use Rattle.c_steps.specs.OfProgram.{IsMadeFor}
use Rattle.c_steps.specs.Advancing.{IsKept, IsLeft}
use Rattle.c_steps.specs.Ready.{AreFrames, IsFront, IsSettled, IsUnchanging}

module _ (program : TreeView) (view : View) (old settled : ControlView) (store : Store) (same : task_at program settled ≡ settled_task view (task_at program old)) where
  next_items : items_from_next view (todo_at program old.frames) ≡ todo_at program settled.frames
  next_items = sym (ap Task.todo same)

  -- the step is that of the item that stands next
  pub silent_front : (it : Item) → IsFront program settled.frames it → silent program view (moment_at program old store) ≡ step_of (item_at program it) (here_at program view settled store)
  unfolding silent
  silent_front it front =
      ap (λ items. step_at items program view (moment_at program old store)) (next_items ∙ front.todo)
      ∙ ap (λ (task : Task). step_of (item_at program it) (record { program = program; view = view; task = record task { todo = todo_at program (begun settled.frames) }; store = store })) (sym same)

  -- nothing stands next
  pub silent_none : todo_at program settled.frames ≡ [] → silent program view (moment_at program old store) ≡ Ends (unwrap_or settled.returned (pos 0))
  unfolding silent
  silent_none none =
      ap (λ items. step_at items program view (moment_at program old store)) (next_items ∙ none)
      ∙ ap (λ (task : Task). Ends (unwrap_or task.returned (pos 0))) (sym same)

  pub made_settled : IsMadeFor program old → settled ≡ record old { frames = settled.frames } → AreFrames program settled.frames → IsMadeFor program settled
  made_settled made rest frames = record {
    are_frames = frames;
    brings = ap ControlView.step_names rest ∙ made.brings;
    fits = omega (arith, made.fits, ap ControlView.room rest);
    is_within = subst (IsWithin program) (sym same) (settled_is_within program view (task_at program old) made.is_within);
  }

  pub made_after : (new : ControlView) (after : Store) (result : Next) → IsMadeFor program old → settled ≡ record old { frames = settled.frames } → AreFrames program settled.frames → AreFrames program new.frames → IsSettled result settled store new after → outcome_at program result (moment_at program new after) ≡ silent program view (moment_at program old store) → IsMadeFor program new
  made_after new after next.Quiet made rest before frames left step = record {
    are_frames = frames;
    brings = left.step_names ∙ ap ControlView.step_names rest ∙ made.brings;
    fits = omega (arith, made.fits, left.room, ap ControlView.room rest);
    is_within = step_is_within program view (moment_at program old store) (moment_at program new after) made.is_within (sym step);
  }
  made_after new after (next.Ask ask node) made rest before frames left step = subst (IsMadeFor program) (sym left.0) (made_settled made rest before)
  made_after new after (next.Event point node) made rest before frames left step = subst (IsMadeFor program) (sym left.0) (made_settled made rest before)
  made_after new after (next.Ended number) made rest before frames left step = subst (IsMadeFor program) (sym left.0) (made_settled made rest before)
  made_after new after (next.Trap trap) made rest before frames left step = subst (IsMadeFor program) (sym left.0) (made_settled made rest before)
  made_after new after (next.Limit limit) made rest before frames left step = subst (IsMadeFor program) (sym left.0) (made_settled made rest before)

  left_settled : settled ≡ record old { frames = settled.frames } → IsLeft program view old store settled store
  left_settled rest = record {
    task = same;
    store = refl;
    spare = ap ControlView.spare rest;
    passes = ap ControlView.passes rest;
    step_names = ap ControlView.step_names rest;
    room = ap ControlView.room rest;
  }

  pub kept_unchanging : (result : Next) → settled ≡ record old { frames = settled.frames } → IsUnchanging result → IsKept program view result old store settled store
  kept_unchanging next.Quiet rest unchanging = absurd (omega (arith, (unchanging settled store).spare))
  kept_unchanging (next.Ask ask node) rest unchanging = left_settled rest
  kept_unchanging (next.Event point node) rest unchanging = left_settled rest
  kept_unchanging (next.Ended number) rest unchanging = left_settled rest
  kept_unchanging (next.Trap trap) rest unchanging = left_settled rest
  kept_unchanging (next.Limit limit) rest unchanging = left_settled rest
