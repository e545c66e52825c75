-- What the Go of an event changes of the world, but for the code of tasks.
use Rattle.std.proofs.Common.{ℕ, ◌≡◌, ◌≤◌, true, slice_index_or, ap, refl, sym, subst, subst₂, ◌∙◌}
use Rattle.std.specs.Prelude.{Option, Some, None}
use Rattle.std.proofs.lemmas.Bool.{true≢false}
use Rattle.c_model.specs.Step.{silent}
use Rattle.c_model.specs.Task.{Outcome}
use Rattle.c_model.specs.Task.Outcome.{Asks, Ends, Limits, Occurs, StepsTo, Traps}
use Rattle.omp_model.specs.declared.event.Event.{Event}
use Rattle.omp_model.specs.declared.event.Event.TheVariants.{InitialTaskBegin, InitialTaskEnd, MemberBegin, MemberEnd, TaskBegin, TaskEnd}
use Rattle.omp_model.specs.declared.event.Halt.{Halt}
use Rattle.omp_model.specs.State.{Run, Thread, World, thread_at}
use Rattle.omp_model.specs.Conditions.{AreOrderly}
use Rattle.omp_model.specs.EventEffects.{Happens, effect_of, effect_of_point, event_of_point, fault_of, fault_of_point, going_by, go_of_code, past_point, told, unless}
use Rattle.omp_model.specs.MadeWorld.{IsMadeWorld}
use Rattle.omp_model.specs.Members.{current, view_of}
use Rattle.omp_model.proofs.Touching.{TouchesWorld, is_of_code, thread_after}
use Rattle.omp_model.specs.Turn.{goes_on}
use Rattle.omp_model.proofs.Arriving.{Arrives, arrives, thread-goes}
use Rattle.omp_model.proofs.GosBeside.{touches-effect}
use Rattle.omp_model.proofs.GosInCode.{touches-point}
use Rattle.omp_model.proofs.MadeEvents.{current-below}
use Rattle.omp_model.proofs.Turning.{Beside, GoOf, OfCode}

-- an event that meets no trap and no limit
pub unless-goes : (P : Event → World → Type 0) (halt : Option Halt) (which e : Event) (between after : World) → (halt ≡ None → P which between) →
    unless halt which between ≡ Happens e after → P e after
unless-goes P (Some halt) which e between after holds is = cc
unless-goes P None which e between after holds is =
    let same : which ≡ e = cc in
    let next : between ≡ after = cc in
    subst₂ P same next (holds refl)

by-outcome : (run : Run) (W after : World) (t : ℕ) (e : Event) → IsMadeWorld W → 1 ≤ current W t → (outcome : Outcome) →
    going_by run W t (told W t) outcome ≡ Happens e after → TouchesWorld W after t e
by-outcome run W after t e made some (Occurs what tree) is =
    unless-goes (λ which next. TouchesWorld W next t which) (fault_of_point W t (told W t).task what) (event_of_point W t what) e
    (past_point W (effect_of_point run W t (told W t) what) t (told W t) what) after (touches-point run W t made some (current-below W t made) what) is
by-outcome run W after t e made some (StepsTo next) is = cc
by-outcome run W after t e made some (Asks ask tree) is = cc
by-outcome run W after t e made some (Ends number) is = cc
by-outcome run W after t e made some (Traps trap) is = cc
by-outcome run W after t e made some (Limits limit) is = cc

in-code : (run : Run) (W after : World) (t : ℕ) (e : Event) → IsMadeWorld W → 1 ≤ current W t →
    go_of_code run W t ≡ Happens e after → TouchesWorld W after t e
unfolding go_of_code
in-code run W after t e made some is = by-outcome run W after t e made some (silent run.program (view_of W t) (told W t)) is

pub touches-world : (run : Run) (W after : World) (t : ℕ) (e : Event) → IsMadeWorld W → AreOrderly W → GoOf run W t e after → TouchesWorld W after t e
touches-world run W after t e made orderly (OfCode comes happens) = in-code run W after t e made ((subst (Arrives W t) comes (arrives W t)).within.some) happens
touches-world run W after t e made orderly (Beside meets happens) =
    unless-goes (λ which next. TouchesWorld W next t which) (fault_of W t e) e e (effect_of W t e) after
    (λ fine. touches-effect W t e (thread-goes W t (ap goes_on meets)) made orderly (subst (Arrives W t) meets (arrives W t))) happens

-- an event of the code keeps the current task
current-code : (e : Event) (thread : Thread) → is_of_code e ≡ true → (thread_after e thread).stack ≡ thread.stack
current-code InitialTaskBegin thread of_code = absurd (true≢false (sym of_code))
current-code InitialTaskEnd thread of_code = absurd (true≢false (sym of_code))
current-code (MemberBegin r k) thread of_code = absurd (true≢false (sym of_code))
current-code (MemberEnd r k) thread of_code = absurd (true≢false (sym of_code))
current-code (TaskBegin prior task) thread of_code = absurd (true≢false (sym of_code))
current-code (TaskEnd task) thread of_code = absurd (true≢false (sym of_code))
current-code e thread of_code = refl

pub current-kept : (W after : World) (t : ℕ) (e : Event) → is_of_code e ≡ true → TouchesWorld W after t e → current after t ≡ current W t
current-kept W after t e of_code touches =
    ap (λ (x : Thread). slice_index_or x.stack 0 0) touches.own ∙ ap (λ stack. slice_index_or stack 0 0) (current-code e (thread_at W t) of_code)
