-- Traps and limits have their numbers.
use Rattle.std.proofs.Common.{◌≡◌, ◌≤◌, ℕ, zero, suc, ◌+◌, Bool, true, false, if◌then◌else◌, nat_le, nat_lt, List, [], ◌∷◌, length, Some, None, Ok, Err, Option, Result, inl, inr, sym, subst, arith}
use Rattle.c_model.specs.declared.point.MutexKind.{MutexKind}
use Rattle.c_model.specs.declared.point.MutexKind.TheVariants as mutex
use Rattle.c_model.specs.declared.point.Point.{Point}
use Rattle.c_model.specs.declared.point.Point.TheVariants as point
use Rattle.c_model.specs.declared.point.SyncKind.{SyncKind}
use Rattle.c_model.specs.declared.point.SyncStage.{SyncStage}
use Rattle.c_model.specs.declared.point.SyncStage.TheVariants as stage
use Rattle.c_model.specs.TrapsAndLimits.{IsKnown, IsLimit}
use Rattle.c_model.specs.Step.{silent}
use Rattle.c_model.specs.Task.{Moment, Outcome as Code_outcome, Task as Code}
use Rattle.c_model.specs.Task.Outcome.{Asks, Ends, Limits, Occurs, StepsTo, Traps}
use Rattle.c_model.proofs.KnownOutcomes.{known_silent}
use Rattle.task_pool.specs.declared.task.Full.{Full}
use Rattle.task_pool.specs.View.{answer_to_add}
use Rattle.team_parts.specs.declared.meeting.Meeting.{Meeting}
use Rattle.team_parts.specs.declared.meeting.Mismatch.{Mismatch}
use Rattle.sync_objects.specs.declared.lock_fault.LockFault.{LockFault}
use Rattle.sync_objects.specs.declared.lock_fault.LockFault.TheVariants as fault
use Rattle.omp_model.specs.declared.limits.TheConstants.{NESTING, STACK_LIMIT, STEPS, STEPS_OF_A_TURN, TEAM_SIZE, TURNS, TURN_LIMIT}
use Rattle.omp_model.specs.declared.event.Arrival.{Arrival}
use Rattle.omp_model.specs.declared.event.Arrival.TheVariants.{CodeEvent, RuntimeEvent, Steps, Waits}
use Rattle.omp_model.specs.declared.event.Event.{Event}
use Rattle.omp_model.specs.declared.event.Event.TheVariants as event
use Rattle.omp_model.specs.declared.event.Halt.{Halt}
use Rattle.omp_model.specs.declared.event.Halt.TheVariants.{Limit}
use Rattle.omp_model.specs.declared.event.Outcome.{Outcome}
use Rattle.omp_model.specs.declared.event.Outcome.TheVariants as outcome
use Rattle.omp_model.specs.declared.history.What.{What}
use Rattle.omp_model.specs.declared.history.What.TheVariants.{Back, Go, Put}
use Rattle.omp_model.specs.declared.history.Entry.{Entry}
use Rattle.omp_model.specs.State.{Run, State, World, first, thread_at}
use Rattle.omp_model.specs.Members.{current, is_explicit_task, moment_of, view_of}
use Rattle.omp_model.specs.Gates.{arrival, is_barrier}
use Rattle.omp_model.specs.Changes.{with_masked_skipped}
use Rattle.omp_model.specs.Silent.{Goes, Silence, Stops, silence_of, silent_step}
use Rattle.omp_model.specs.EventEffects.{Going, Halts, Happens, Nothing, acquire_fault, barrier_met, effect_of, fault_of, fault_of_meeting, fault_of_point, first_fault, full_fault, go_of_runtime, going_by, go_of_code, lock_fault, meeting_at, meeting_fault, stack_fault, sync_fault, task_fault, told, trap_if, unless}
use Rattle.omp_model.specs.Turn.{Turn, Walk, after_steps, after_walk, counted, state_past_masked, halted, stepped, turn, unlimited, walk, walk_by, walk_on, walked, with_going, without_event}
use Rattle.omp_model.specs.Legal.{Legal, after, does}
use Rattle.omp_model.proofs.Recording.{put_all-halt}
use Rattle.omp_model.proofs.Turning.{of-entries}
use Rattle.omp_model.proofs.Turns.{Leaves, back-halt, leaves-turn}
use Rattle.run_trace.proofs.Sensible.{IsKnownHalt}

-- What a halt comes from, where there is one.

abbrev KnownIfAny : Option Halt → Type 0
KnownIfAny None = Unit {0}
KnownIfAny (Some halt) = IsKnownHalt halt

abbrev KnownSilence : Silence → Type 0
KnownSilence (Goes after) = Unit {0}
KnownSilence (Stops halt) = IsKnownHalt halt

abbrev KnownGoing : Going → Type 0
KnownGoing Nothing = Unit {0}
KnownGoing (Happens event after) = Unit {0}
KnownGoing (Halts halt) = IsKnownHalt halt

abbrev KnownOutcome : Outcome → Type 0
KnownOutcome (outcome.Halts halt) = IsKnownHalt halt
KnownOutcome other = Unit {0}

-- The code of a task.

limit-known : (limit : ℕ) → IsLimit limit → IsKnownHalt (Limit limit)
limit-known limit (inl is) = (omega arith, omega arith)
limit-known limit (inr (inl is)) = (omega arith, omega arith)
limit-known limit (inr (inr is)) = (omega arith, omega arith)

silence-of-known : (W : World) (t : ℕ) (came : Code_outcome) → IsKnown came → KnownSilence (silence_of W t came)
unfolding IsKnown
silence-of-known W t (StepsTo now) known = tt
silence-of-known W t (Asks ask tree) known = tt
silence-of-known W t (Occurs point tree) known = tt
silence-of-known W t (Ends number) known = tt
silence-of-known W t (Traps trap) known = (known.0, omega (arith, known.1))
silence-of-known W t (Limits limit) known = limit-known limit known

silence-known : (run : Run) (W : World) (t : ℕ) → KnownSilence (silent_step run W t)
unfolding silent_step
silence-known run W t = silence-of-known W t (silent run.program (view_of W t) (moment_of W t)) (known_silent run.program (view_of W t) (moment_of W t))

-- The faults of events.

trap-known : (is_broken : Bool) (number : ℕ) → 1 ≤ number → number ≤ 10 → KnownIfAny (trap_if is_broken number)
trap-known true number some few = (some, few)
trap-known false number some few = tt

meeting-of-known : (is_badly_nested : Bool) (answer : Result Bool Mismatch) → KnownIfAny (fault_of_meeting is_badly_nested answer)
meeting-of-known is_badly_nested (Err mismatch) = (omega arith, omega arith)
meeting-of-known is_badly_nested (Ok is_first) = trap-known is_badly_nested NESTING (omega arith) (omega arith)

either-known : (choice : Bool) (one other : Option Halt) → KnownIfAny one → KnownIfAny other → KnownIfAny (if choice then one else other)
either-known true one other first second = first
either-known false one other first second = second

meeting-known : (W : World) (t : ℕ) (code : Code) (what : Meeting) → KnownIfAny (meeting_fault W t code what)
meeting-known W t code what = either-known (is_explicit_task W (current W t)) _ _ (omega arith, omega arith) (meeting-of-known _ (meeting_at W t what))

sync-known : (W : World) (t : ℕ) (code : Code) (codeptr : ℕ) (which : SyncKind) (at : SyncStage) → KnownIfAny (sync_fault W t code codeptr which at)
sync-known W t code codeptr which stage.RegionBegin = either-known (is_barrier which) _ _ (meeting-known W t code (barrier_met codeptr which)) tt
sync-known W t code codeptr which other = tt

lock-known : {A : Type 0} (answer : Result A LockFault) → KnownIfAny (lock_fault answer)
lock-known (Ok answer) = tt
lock-known (Err fault.NotInitialised) = (omega arith, omega arith)
lock-known (Err fault.NotOwner) = (omega arith, omega arith)
lock-known (Err fault.StillHeld) = (omega arith, omega arith)
lock-known (Err fault.AlreadyInitialised) = (omega arith, omega arith)

acquire-known : (W : World) (code : Code) (which : MutexKind) (wait_id : ℕ) → KnownIfAny (acquire_fault W code which wait_id)
acquire-known W code mutex.Critical wait_id = trap-known _ NESTING (omega arith) (omega arith)
acquire-known W code other wait_id = lock-known _

full-known : (answer : Result ℕ Full) → KnownIfAny (full_fault answer)
full-known (Ok task) = tt
full-known (Err full) = (omega arith, omega arith)

stack-known : (W : World) (t : ℕ) → KnownIfAny (stack_fault W t)
stack-known W t = either-known (nat_le STACK_LIMIT (length (thread_at W t).stack)) _ _ (omega arith, omega arith) tt

first-known : (one other : Option Halt) → KnownIfAny one → KnownIfAny other → KnownIfAny (first_fault one other)
first-known (Some halt) other known next = known
first-known None other known next = next

point-known : (W : World) (t : ℕ) (code : Code) (what : Point) → KnownIfAny (fault_of_point W t code what)
unfolding fault_of_point
point-known W t code (point.ParallelBegin codeptr requested) = trap-known _ TEAM_SIZE (omega arith) (omega arith)
point-known W t code (point.TaskCreate codeptr undeferred) = full-known (answer_to_add W.pool.tasks)
point-known W t code (point.WorkBegin codeptr what) = meeting-known W t code _
point-known W t code (point.MaskedBegin codeptr) = trap-known _ NESTING (omega arith) (omega arith)
point-known W t code (point.Sync codeptr which at) = sync-known W t code codeptr which at
point-known W t code (point.MutexAcquire codeptr wait_id which to) = acquire-known W code which wait_id
point-known W t code (point.MutexAcquired codeptr wait_id which) = lock-known _
point-known W t code (point.MutexReleased codeptr wait_id which) = lock-known _
point-known W t code (point.LockInit codeptr wait_id) = lock-known _
point-known W t code (point.LockDestroy codeptr wait_id) = lock-known _
point-known W t code other = tt

event-known : (W : World) (t : ℕ) (which : Event) → KnownIfAny (fault_of W t which)
unfolding fault_of
event-known W t event.InitialTaskBegin = stack-known W t
event-known W t (event.MemberBegin r k) = first-known (task_fault W) (stack_fault W t) (full-known (answer_to_add W.pool.tasks)) (stack-known W t)
event-known W t (event.TaskBegin prior task) = stack-known W t
event-known W t other = tt

-- The Go of an event.

unless-known : (halt : Option Halt) (which : Event) (after : World) → KnownIfAny halt → KnownGoing (unless halt which after)
unless-known (Some halt) which after known = known
unless-known None which after known = tt

by-known : (run : Run) (W : World) (t : ℕ) (now : Moment) (came : Code_outcome) → IsKnown came → KnownGoing (going_by run W t now came)
unfolding IsKnown
by-known run W t now (StepsTo next) known = tt
by-known run W t now (Asks ask tree) known = tt
by-known run W t now (Occurs what tree) known = unless-known (fault_of_point W t now.task what) _ _ (point-known W t now.task what)
by-known run W t now (Ends number) known = tt
by-known run W t now (Traps trap) known = (known.0, omega (arith, known.1))
by-known run W t now (Limits limit) known = limit-known limit known

in_code-known : (run : Run) (W : World) (t : ℕ) → KnownGoing (go_of_code run W t)
unfolding go_of_code
in_code-known run W t = by-known run W t (told W t) (silent run.program (view_of W t) (told W t)) (known_silent run.program (view_of W t) (told W t))

beside-known : (W : World) (t : ℕ) (which : Event) → KnownGoing (go_of_runtime W t which)
beside-known W t which = unless-known (fault_of W t which) which (effect_of W t which) (event-known W t which)

-- A turn.

by-walk-known : (S : State) (made : ℕ) (silence : Silence) (more : World → Walk) → KnownSilence silence → ((W : World) → KnownIfAny (more W).stop) → KnownIfAny (walk_by S made silence more).stop
by-walk-known S made (Goes after) more known each = each after
by-walk-known S made (Stops halt) more known each = known

step-known : (run : Run) (S : State) (t made : ℕ) (over : Bool) (more : World → Walk) → ((W : World) → KnownIfAny (more W).stop) →
    KnownIfAny (if over then walked S made (Some (Limit STEPS)) else walk_by (state_past_masked S t) made (silent_step run S.world t) more).stop
step-known run S t made true more each = (omega arith, omega arith)
step-known run S t made false more each = by-walk-known (state_past_masked S t) made (silent_step run S.world t) more (silence-known run S.world t) each

on-walk-known : (run : Run) (S : State) (t made : ℕ) (next : Arrival) (more : World → Walk) → ((W : World) → KnownIfAny (more W).stop) → KnownIfAny (walk_on run S t made next more).stop
on-walk-known run S t made Steps more each = step-known run S t made (nat_le run.steps S.steps) more each
on-walk-known run S t made other more each = tt

walk-known : (run : Run) (left made : ℕ) (S : State) (t : ℕ) → KnownIfAny (walk run left made S t).stop
unfolding walk
walk-known run zero made S t = tt
walk-known run (suc left) made S t =
    on-walk-known run S t made (arrival S.world t) (λ after. walk run left (made + 1) (stepped S after) t) (λ W. walk-known run left (made + 1) (stepped S W) t)

without-known : (S : State) (made : ℕ) → KnownOutcome (without_event S made).outcome
without-known S made =
    elim (nat_lt 0 made) as (λ b. let T : Turn = if b then record { outcome = outcome.Quiet; state = counted S } else record { outcome = outcome.Idle; state = S } in KnownOutcome T.outcome) [ true ↦ tt | false ↦ tt ]

going-known : (S : State) (made t : ℕ) (going : Going) → KnownGoing going → KnownOutcome (with_going S made t going).outcome
going-known S made t Nothing known = without-known S made
going-known S made t (Happens event after) known = tt
going-known S made t (Halts halt) known = known

steps-known : (run : Run) (S : State) (made t : ℕ) (next : Arrival) → KnownOutcome (after_steps run S made t next).outcome
steps-known run S made t Waits = without-known S made
steps-known run S made t Steps = without-known S made
steps-known run S made t CodeEvent = going-known (state_past_masked S t) made t (go_of_code run (with_masked_skipped S.world t) t) (in_code-known run (with_masked_skipped S.world t) t)
steps-known run S made t (RuntimeEvent event) = going-known S made t (go_of_runtime S.world t event) (beside-known S.world t event)

stop-known : (run : Run) (it : Walk) (t : ℕ) (stop : Option Halt) → KnownIfAny stop → KnownOutcome (after_walk run it t stop).outcome
stop-known run it t (Some halt) known = known
stop-known run it t None known = steps-known run it.state it.made t (arrival it.state.world t)

unlimited-known : (run : Run) (S : State) (t : ℕ) → KnownOutcome (unlimited run S t).outcome
unfolding unlimited
unlimited-known run S t = let it = walk run STEPS_OF_A_TURN 0 S t in stop-known run it t it.stop (walk-known run STEPS_OF_A_TURN 0 S t)

turn-known : (run : Run) (S : State) (t : ℕ) → KnownOutcome (turn run S t).outcome
unfolding turn
turn-known run S t =
    elim (nat_le TURN_LIMIT (S.turns + 1)) as (λ b. let T : Turn = if b then halted S (Limit TURNS) else unlimited run S t in KnownOutcome T.outcome) [ true ↦ (omega arith, omega arith) | false ↦ unlimited-known run S t ]

-- Histories.

leaves-known : (S after : State) (t : ℕ) (came : Outcome) → KnownIfAny S.halt → KnownOutcome came → Leaves S t after came → KnownIfAny after.halt
leaves-known S after t outcome.Idle before known leaves = subst KnownIfAny (sym leaves.1) before
leaves-known S after t outcome.Quiet before known leaves = subst KnownIfAny (sym leaves.1) before
leaves-known S after t (outcome.Happens event) before known leaves = subst KnownIfAny (sym leaves.1) before
leaves-known S after t (outcome.Halts halt) before known leaves = subst KnownIfAny (sym leaves.1) known

does-known : (run : Run) (S : State) (t : ℕ) (what : What) → KnownIfAny S.halt → KnownIfAny (does run S t what).halt
does-known run S t Go before = leaves-known S (turn run S t).state t (turn run S t).outcome before (turn-known run S t) (leaves-turn run S t)
does-known run S t (Put target word) before = subst KnownIfAny (sym (put_all-halt S t (record { target = target; word = word } ∷ []))) before
does-known run S t Back before = subst KnownIfAny (sym (back-halt S t)) before

pub halts-known : (run : Run) (history : List Entry) (halt : Halt) → 1 ≤ run.threads → Legal run history → (after run history).halt ≡ Some halt → IsKnownHalt halt
halts-known run history halt some legal is =
    subst KnownIfAny is (of-entries run (λ S. KnownIfAny S.halt) (λ S entry known. does-known run S entry.thread entry.what known) (first run) history tt)
