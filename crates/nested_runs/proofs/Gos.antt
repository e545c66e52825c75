-- What the Go of an event changes.
use Rattle.std.proofs.Common.{ℕ, ◌≡◌, ◌≤◌, refl, subst}
use Rattle.c_model.specs.Step.{silent}
use Rattle.c_model.specs.Task.{Outcome}
use Rattle.c_model.specs.Task.Outcome.{Asks, Ends, Limits, Occurs, StepsTo, Traps}
use Rattle.c_brackets.specs.Returns.{HasReturnsOutside}
use Rattle.omp_model.specs.declared.event.Event.{Event}
use Rattle.omp_model.specs.State.{Run, World}
use Rattle.omp_model.specs.Conditions.{AreOrderly}
use Rattle.omp_model.specs.EventEffects.{Happens, effect_of, effect_of_point, event_of_point, fault_of, fault_of_point, going_by, go_of_code, past_point, told}
use Rattle.omp_model.specs.MadeWorld.{IsMadeWorld}
use Rattle.omp_model.specs.Members.{current, view_of}
use Rattle.omp_model.proofs.Touching.{TouchesWorld}
use Rattle.omp_model.proofs.Arriving.{Arrives, arrives}
use Rattle.omp_model.proofs.MadeEvents.{current-below}
use Rattle.omp_model.proofs.Turning.{Beside, GoOf, OfCode}
use Rattle.omp_model.proofs.Gos.{touches-world, unless-goes}
use Rattle.nested_runs.proofs.Coming.{Comes}
use Rattle.nested_runs.proofs.Touching.{AreCodes, Touches}
use Rattle.nested_runs.proofs.GosBeside.{codes-effect, touches-beside}
use Rattle.nested_runs.proofs.GosInCode.{touches-point}

module _ (run : Run) (W after : World) (t : ℕ) (e : Event) (returns : HasReturnsOutside run.program) (codes : AreCodes W) (made : IsMadeWorld W) where
  by-outcome : 1 ≤ current W t → (outcome : Outcome) → silent run.program (view_of W t) (told W t) ≡ outcome →
      going_by run W t (told W t) outcome ≡ Happens e after → TouchesWorld W after t e → Touches W after t e
  by-outcome some (Occurs what tree) occurs is world =
      unless-goes (λ which next. TouchesWorld W next t which → Touches W next t which) (fault_of_point W t (told W t).task what) (event_of_point W t what) e
      (past_point W (effect_of_point run W t (told W t) what) t (told W t) what) after
      (λ fine. touches-point run W t tree returns codes made some (current-below W t made) what occurs) is world
  by-outcome some (StepsTo next) occurs is world = cc
  by-outcome some (Asks ask tree) occurs is world = cc
  by-outcome some (Ends number) occurs is world = cc
  by-outcome some (Traps trap) occurs is world = cc
  by-outcome some (Limits limit) occurs is world = cc

  in-code : 1 ≤ current W t → go_of_code run W t ≡ Happens e after → TouchesWorld W after t e → Touches W after t e
  unfolding go_of_code
  in-code some is = by-outcome some (silent run.program (view_of W t) (told W t)) refl is

  of-go : AreOrderly W → GoOf run W t e after → Comes W t e → TouchesWorld W after t e → Touches W after t e
  of-go orderly (OfCode comes-to happens) comes = in-code ((subst (Arrives W t) comes-to (arrives W t)).within.some) happens
  of-go orderly (Beside meets happens) comes =
      unless-goes (λ which next. Comes W t which → TouchesWorld W next t which → Touches W next t which) (fault_of W t e) e e (effect_of W t e) after
      (λ fine so world. touches-beside W (effect_of W t e) t e world
      (codes-effect W t e made orderly codes (subst (Arrives W t) meets (arrives W t)) so)) happens comes

pub touches : (run : Run) (W after : World) (t : ℕ) (e : Event) → HasReturnsOutside run.program → AreCodes W → IsMadeWorld W → AreOrderly W →
    GoOf run W t e after → Comes W t e →
    Touches W after t e
touches run W after t e returns codes made orderly go comes =
    of-go run W after t e returns codes made orderly go comes (touches-world run W after t e made orderly go)
