-- A step that is tried.
use Rattle.std.proofs.Common.{Result, Ok, Err, is_ok, sym}
use Rattle.c_syntax.specs.language.Numbered.{TreeView}
use Rattle.c_model.specs.Task.{Outcome, Store}
use Rattle.c_steps.specs.declared.next.Refusal.{Refusal}
use Rattle.c_steps.specs.declared.next.Refusal.TheVariants as refusal
use Rattle.c_steps.specs.ControlView.{ControlView}
use Rattle.c_steps.specs.Steps.{Makes}
use Rattle.c_steps.specs.Trying.{IsAttempt}

-- what a step comes to, told by whether it was made
pub attempt_of : (program : TreeView) (outcome : Outcome) (result : Result (Unit {0}) Refusal) (old new : ControlView) (before after : Store) →
    Makes program result old before new after outcome → IsAttempt program (is_ok result) old before new after outcome
attempt_of program outcome (Ok it) old new before after is = record { step = sym is.step; kept = is.settled; frames = is.frames }
attempt_of program outcome (Err (refusal.Trap trap)) old new before after is = is.settled
attempt_of program outcome (Err (refusal.Limit limit)) old new before after is = is.settled
attempt_of program outcome (Err (refusal.Test call codeptr wait_id to)) old new before after is = is.settled
