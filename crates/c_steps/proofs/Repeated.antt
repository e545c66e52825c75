-- Steps that are tried one after another.
use Rattle.std.proofs.Common.{◌≡◌, ◌+◌, ℕ, zero, suc, true, false, refl, arith, sym, ap, ◌∙◌, subst}
use Rattle.c_syntax.specs.language.Numbered.{TreeView}
use Rattle.c_model.specs.declared.view.View.{View}
use Rattle.c_model.specs.Task.{Store}
use Rattle.c_model.specs.Task.Outcome.{StepsTo}
use Rattle.c_steps.specs.ControlView.{ControlView}
use Rattle.c_steps.specs.Trying.{HaveStepsMade, IsStepMade, IsTried, IsUntouched}

-- nothing was done, twice
untouched_twice : (program : TreeView) (old new last : ControlView) (before after end : Store) → IsUntouched program old before new after → IsUntouched program new after last end → IsUntouched program old before last end
untouched_twice program old new last before after end first then = record {
  task = then.task ∙ first.task;
  store = then.store ∙ first.store;
  spare = then.spare ∙ first.spare;
  passes = then.passes ∙ first.passes;
  step_names = then.step_names ∙ first.step_names;
  room = then.room ∙ first.room;
}

-- a step was made, and then nothing was done
made_untouched : (program : TreeView) (view : View) (old new last : ControlView) (before after end : Store) → IsStepMade program view old before new after → IsUntouched program new after last end → IsStepMade program view old before last end
made_untouched program view old new last before after end step then = record {
  step = step.step ∙ ap StepsTo (rw (then.task, then.store) refl);
  kept = record {
    spare = ap (λ (spare : ℕ). spare + 1) then.spare ∙ step.kept.spare;
    passes = then.passes ∙ step.kept.passes;
    step_names = then.step_names ∙ step.kept.step_names;
    room = then.room ∙ step.kept.room;
  };
  upcoming = step.upcoming;
}

-- at first none was made
pub none_made : (program : TreeView) (view : View) (old : ControlView) (before : Store) → HaveStepsMade program view 0 old before old before
none_made program view old before = record { task = refl; store = refl; spare = refl; passes = refl; step_names = refl; room = refl }

-- so many were made, and then nothing was done
pub made_then_not : (program : TreeView) (view : View) (count : ℕ) (old new last : ControlView) (before after end : Store) → HaveStepsMade program view count old before new after → IsTried program view false new after last end → HaveStepsMade program view count old before last end
made_then_not program view zero old new last before after end steps then = untouched_twice program old new last before after end steps then
made_then_not program view (suc count) old new last before after end steps then =
    (steps.0, steps.1, steps.2, made_untouched program view steps.0 new last steps.1 after end steps.3 then)

-- one more was made
pub made_one_more : (program : TreeView) (view : View) (count : ℕ) (old new last : ControlView) (before after end : Store) → HaveStepsMade program view count old before new after → IsTried program view true new after last end → HaveStepsMade program view (count + 1) old before last end
made_one_more program view count old new last before after end steps then =
    let more : count + 1 ≡ suc count = omega arith in
    subst (λ (count : ℕ). HaveStepsMade program view count old before last end) (sym more) (new, after, steps, then)

pub ruleset made_cases = (none_made, made_then_not, made_one_more)
