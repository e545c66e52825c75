-- A step that was tried of what stands next.
use Rattle.std.proofs.Common.{◌≡◌, ◌==◌, ◌&&◌, not, Bool, true, false, refl, arith, sym, ap, ◌∙◌, subst, rules}
use Rattle.c_syntax.specs.declared.node.NodeKind.{NodeKind}
use Rattle.c_syntax.specs.declared.node.NodeKind.TheVariants as node
use Rattle.c_syntax.specs.language.Tree.{Tree, kind_of}
use Rattle.c_syntax.specs.language.Numbered.{TreeView}
use Rattle.c_model.specs.declared.upcoming.Upcoming.TheVariants as upcoming
use Rattle.c_model.specs.declared.view.View.{View}
use Rattle.c_model.proofs.Fitting.{Fits}
use Rattle.c_model.specs.Step.{is_event, is_event_statement, is_masked, skips_masked, settled_task, silent, step_of}
use Rattle.c_model.specs.Task.{StepStart, Item as SeenItem, Moment, Outcome, Store, Task}
use Rattle.c_model.specs.Task.Item.{Start}
use Rattle.c_model.specs.Task.Outcome.{StepsTo}
use Rattle.c_model.specs.Upcoming.{upcoming_among, upcoming_item}
use Rattle.c_model.specs.Width.{IsWithin}
use Rattle.c_model.proofs.Standing.{fits-item}
use Rattle.c_steps.specs.declared.next.Next.TheVariants as next
use Rattle.c_steps.specs.declared.look.Plain.{Plain}
use Rattle.c_steps.specs.declared.look.Plain.TheVariants as plain
use Rattle.c_steps.specs.ControlView.{ControlView, here_at, moment_at, task_at}
use Rattle.c_steps.specs.Items.{item_at}
use Rattle.c_steps.specs.OfProgram.{IsMadeFor}
use Rattle.c_steps.specs.Ready.{AreFrames, IsFront}
use Rattle.c_steps.specs.Trying.{ComesTo, IsAttempt, IsTried, item_of}
use Rattle.c_steps.proofs.Advancing.{made_after, silent_front}
use Rattle.c_steps.proofs.Settling.{settled_at_front, settles_none}

-- what comes to a silent step is no event by its form
step_fits : (now : Moment) (stands : Bool) → Fits (StepsTo now) stands → stands ≡ false
unfolding Fits
step_fits now true fits = absurd fits
step_fits now false fits = refl

no_event : (it : SeenItem) (here : StepStart) (now : Moment) → step_of it here ≡ StepsTo now → is_event it ≡ false
no_event it here now step = step_fits now (is_event it) (subst (λ (outcome : Outcome). Fits outcome (is_event it)) step (fits-item it here))

-- .. so the task doesn't go past it
no_masked : (kind : NodeKind) (tree : Tree) → is_event_statement kind tree ≡ false → is_masked kind ≡ false
no_masked (node.Construct which) tree none = absurd (search rules)
no_masked other tree none = refl

stays : (it : SeenItem) (view : View) → is_event it ≡ false → skips_masked it view ≡ false
stays (Start tree) view none = ap (λ (masked : Bool). masked && not (view.index == 0)) (no_masked (kind_of tree) tree none)
stays other view none = refl

-- .. and a step comes next
next_is_step : (program : TreeView) (it : Plain) → is_event (item_at program (item_of it)) ≡ false → upcoming_item (item_at program (item_of it)) ≡ upcoming.Step
next_is_step program (plain.Start node) none = rw none refl
next_is_step program (plain.Declare node) none = refl
next_is_step program (plain.Leave names) none = refl
next_is_step program (plain.Test node names) none = refl
next_is_step program (plain.Third node names) none = refl
next_is_step program (plain.Return number) none = refl
next_is_step program plain.FallOff none = refl

-- the control where what stands next stands first
module _ (program : TreeView) (old shown : ControlView) (rest : shown ≡ record old { frames = shown.frames }) (same : task_at program shown ≡ task_at program old) where
  pub untouched : (view : View) (before : Store) → IsTried program view false old before shown before
  untouched view before = record {
    task = same;
    store = refl;
    spare = ap ControlView.spare rest;
    passes = ap ControlView.passes rest;
    step_names = ap ControlView.step_names rest;
    room = ap ControlView.room rest;
  }

  pub made_shown : IsMadeFor program old → AreFrames program shown.frames → IsMadeFor program shown
  made_shown made frames = record {
    are_frames = frames;
    brings = ap ControlView.step_names rest ∙ made.brings;
    fits = omega (arith, made.fits, ap ControlView.room rest);
    is_within = subst (IsWithin program) (sym same) made.is_within;
  }

  module _ (view : View) (it : Plain) (front : IsFront program shown.frames (item_of it)) (are : AreFrames program shown.frames) (before : Store) where
    abbrev seen : SeenItem
    seen = item_at program (item_of it)

    abbrev outcome : Outcome
    outcome = step_of seen (here_at program view shown before)

    settled_shown : is_event seen ≡ false → task_at program shown ≡ settled_task view (task_at program old)
    settled_shown none =
        settled_at_front program view shown shown (item_of it) refl (settles_none program view shown.frames are) front (stays seen view none)
        ∙ ap (settled_task view) same

    module _ (new : ControlView) (after : Store) (step : ComesTo program outcome shown new after) where
      none : is_event seen ≡ false
      none = no_event seen (here_at program view shown before) (moment_at program new after) step.step

      silent_step : silent program view (moment_at program old before) ≡ StepsTo (moment_at program new after)
      silent_step = silent_front program view old shown before (settled_shown none) (item_of it) front ∙ step.step

      pub step_made : IsTried program view true old before new after
      step_made = record {
        step = silent_step;
        kept = record {
          spare = step.kept.spare ∙ ap ControlView.spare rest;
          passes = step.kept.passes ∙ ap ControlView.passes rest;
          step_names = step.kept.step_names ∙ ap ControlView.step_names rest;
          room = step.kept.room ∙ ap ControlView.room rest;
        };
        upcoming = ap upcoming_among (sym (ap Task.todo (settled_shown none)) ∙ front.todo) ∙ next_is_step program it none;
      }

      pub made_new : IsMadeFor program old → IsMadeFor program new
      made_new made =
          made_after program view old shown before (settled_shown none) new after next.Quiet made rest are step.frames step.kept (sym silent_step)

    -- it was made, or not
    pub tried : (result : Bool) (new : ControlView) (after : Store) → IsAttempt program result shown before new after outcome → IsTried program view result old before new after
    tried true new after step = step_made new after step
    tried false new after same = subst (λ (new : ControlView). IsTried program view false old before new after) (sym same.0)
        (subst (λ (after : Store). IsTried program view false old before shown after) (sym same.1) (untouched view before))

    pub made_tried : (result : Bool) (new : ControlView) (after : Store) → IsMadeFor program old → IsAttempt program result shown before new after outcome → IsMadeFor program new
    made_tried true new after made step = made_new new after step made
    made_tried false new after made same = subst (IsMadeFor program) (sym same.0) (made_shown made are)
