-- What is so of a world in which a thread has come to an event that occurs.
use Rattle.std.proofs.Common.{ℕ, ◌≡◌, true, List, refl, sym, ◌∙◌, subst}
use Rattle.std.specs.Prelude.{Option, Some, None}
use Rattle.c_syntax.specs.language.Tree.{Tree}
use Rattle.c_model.specs.declared.point.Point.{Point}
use Rattle.c_model.specs.declared.point.Point.TheVariants as point
use Rattle.c_model.specs.declared.point.Work.{Work}
use Rattle.c_model.specs.declared.point.Work.TheVariants as work
use Rattle.c_model.specs.declared.question.Answer.TheVariants as answer
use Rattle.c_model.specs.AfterEvents.{after_event}
use Rattle.c_model.specs.Step.{silent}
use Rattle.c_model.specs.Task.{Outcome}
use Rattle.c_model.specs.Task.Outcome.{Asks, Ends, Limits, Occurs, StepsTo, Traps}
use Rattle.c_brackets.specs.Effects.{Effect, LeadsTo, effect_of}
use Rattle.c_brackets.specs.Effects.Effect.{Opens, Closes, Leaves}
use Rattle.c_brackets.specs.Opened.{Open, open_task}
use Rattle.c_brackets.specs.Orderly.{IsOrderly}
use Rattle.c_brackets.specs.Returns.{HasReturnsOutside}
use Rattle.omp_model.specs.declared.event.Event.{Event}
use Rattle.omp_model.specs.declared.event.Halt.{Halt}
use Rattle.omp_model.specs.State.{Run, World}
use Rattle.omp_model.specs.Members.{current, moment_of, view_of}
use Rattle.omp_model.specs.Conditions.{AreOrderly}
use Rattle.omp_model.specs.EventEffects.{Happens, effect_of_point, event_of_point, executes_point, fault_of_point, going_by, go_of_code, past_point, told, unless}
use Rattle.omp_model.specs.MadeWorld.{IsMadeWorld}
use Rattle.omp_model.proofs.Arriving.{Arrives, IsAtCode, arrives}
use Rattle.omp_model.proofs.MadeEvents.{current-below}
use Rattle.omp_model.proofs.Turning.{Beside, GoOf, OfCode}
use Rattle.nested_runs.proofs.Coming.{Comes, ComesInCode, Tells}
use Rattle.nested_runs.proofs.Effects.{EndsNewest, effect_of_event}
use Rattle.nested_runs.proofs.Touching.{AreCodes}
use Rattle.nested_runs.proofs.Codes.{answer-open, answer-orderly, event-open}
use Rattle.nested_runs.proofs.ComingArrivals.{comes-beside}
use Rattle.nested_runs.proofs.ComingTells.{gate, tells}
use Rattle.nested_runs.proofs.Courses.{course-occurs, course-told}
use Rattle.nested_runs.proofs.Stands.{effect-is, stand-occurs, stand-told}

ends-newest : (effect : Effect) (before behind : List Open) → LeadsTo effect before behind → EndsNewest effect before
ends-newest (Opens one) before behind leads = tt
ends-newest (Closes one) before behind leads = (behind, leads)
ends-newest Leaves before behind leads = tt

-- an event of the code, and what it tells
both-work : (W : World) (t codeptr : ℕ) (begun : Work) → ComesInCode W t (event_of_point W t (point.WorkBegin codeptr begun))
    → Tells W t (event_of_point W t (point.WorkBegin codeptr begun))
    → Comes W t (event_of_point W t (point.WorkBegin codeptr begun))
both-work W t codeptr (work.Loop start count step how) within told = (within, told)
both-work W t codeptr (work.Sections count) within told = (within, told)
both-work W t codeptr work.Single within told = (within, told)

both : (W : World) (t : ℕ) (what : Point) → ComesInCode W t (event_of_point W t what) → Tells W t (event_of_point W t what)
    → Comes W t (event_of_point W t what)
both W t (point.WorkBegin codeptr begun) within told = both-work W t codeptr begun within told
both W t other within told = (within, told)

module _ (run : Run) (W : World) (t : ℕ) (returns : HasReturnsOutside run.program) (codes : AreCodes W) (made : IsMadeWorld W) (at : IsAtCode W t) where
  told-orderly : IsOrderly (told W t).task
  told-orderly = answer-orderly (view_of W t) (answer.Free true) (moment_of W t) (codes.orderly (current W t))

  in-code : (what : Point) (tree : Tree) → silent run.program (view_of W t) (told W t) ≡ Occurs what tree → ComesInCode W t (event_of_point W t what)
  in-code what tree is =
      let view = view_of W t in
      let executes = executes_point W t what in
      let leads : LeadsTo (effect_of what executes) (open_task (told W t).task) (open_task (after_event view what executes (told W t).task)) =
      event-open run.program returns view what executes (told W t) tree told-orderly is in
      record {
        within = at.within;
        stand = sym (stand-told view (moment_of W t) (codes.orderly (current W t)))
            ∙ stand-occurs W t run.program view (told W t) what tree returns told-orderly is;
        ends = subst (λ (opened : List Open). EndsNewest (effect_of_event (event_of_point W t what)) opened)
            (answer-open view (answer.Free true) (moment_of W t) (codes.orderly (current W t)))
            (subst (λ (effect : Effect). EndsNewest effect (open_task (told W t).task)) (effect-is W t what)
            (ends-newest (effect_of what executes) (open_task (told W t).task) (open_task (after_event view what executes (told W t).task)) leads));
        course = λ implicit.
            let keeps = course-told view (moment_of W t) (codes.orderly (current W t)) (codes.course (current W t) implicit (current-below W t made)) in
            sym keeps.behind ∙ course-occurs W t run.program view (told W t) what tree told-orderly keeps.course is;
      }

  by-fault : (what : Point) (tree : Tree) (e : Event) (after happened : World) (halt : Option Halt)
      → silent run.program (view_of W t) (told W t) ≡ Occurs what tree
      → fault_of_point W t (told W t).task what ≡ halt → unless halt (event_of_point W t what) happened ≡ Happens e after → Comes W t e
  by-fault what tree e after happened (Some halt) is fault happens = absurd (cc)
  by-fault what tree e after happened None is fault happens =
      let same : event_of_point W t what ≡ e = cc in
      subst (λ (e : Event). Comes W t e) same
      (both W t what (in-code what tree is) (tells W t (told W t).task what fault (gate run.program W t what tree at.gate is)))

  by-outcome : (outcome : Outcome) (e : Event) (after : World) → silent run.program (view_of W t) (told W t) ≡ outcome
      → going_by run W t (told W t) outcome ≡ Happens e after → Comes W t e
  by-outcome (Occurs what tree) e after is happens =
      by-fault what tree e after (past_point W (effect_of_point run W t (told W t) what) t (told W t) what)
      (fault_of_point W t (told W t).task what) is refl happens
  by-outcome (StepsTo next) e after is happens = absurd (cc)
  by-outcome (Asks what tree) e after is happens = absurd (cc)
  by-outcome (Ends number) e after is happens = absurd (cc)
  by-outcome (Traps trap) e after is happens = absurd (cc)
  by-outcome (Limits limit) e after is happens = absurd (cc)

  comes-in-code : (e : Event) (after : World) → go_of_code run W t ≡ Happens e after → Comes W t e
  unfolding go_of_code
  comes-in-code e after happens = by-outcome (silent run.program (view_of W t) (told W t)) e after refl happens

pub comes : (run : Run) (W after : World) (t : ℕ) (e : Event) → HasReturnsOutside run.program → AreCodes W → IsMadeWorld W → AreOrderly W → GoOf run W t e after
    → Comes W t e
comes run W after t e returns codes made orderly (OfCode is happens) =
    comes-in-code run W t returns codes made (subst (Arrives W t) is (arrives W t)) e after happens
comes run W after t e returns codes made orderly (Beside is happens) =
    comes-beside run W t returns codes made orderly e (subst (Arrives W t) is (arrives W t))
