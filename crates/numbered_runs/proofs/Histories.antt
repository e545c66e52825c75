-- Turns, histories and causes are the same in runs of alike programs.
use Rattle.std.proofs.Common.{ℕ, zero, suc, ◌+◌, ℤ, Bool, nat_le, ◌≡◌, List, [], ◌∷◌, Option, Some, None, ap, refl, subst, sym, ◌∙◌, if◌then◌else◌}
use Rattle.std.specs.Prelude.{IsTrue}
use Rattle.c_syntax.specs.language.Numbered.{TreeView}
use Rattle.c_check.specs.Seen.{critical_count}
use Rattle.c_model.specs.Begin.{created_construct, first_store, main_task}
use Rattle.c_model.specs.Step.{settled_task, silent}
use Rattle.c_model.specs.Task.{Moment, Outcome as CodeOutcome, Store, Task as Code}
use Rattle.c_model.specs.Task.Outcome.{Occurs}
use Rattle.c_model.specs.declared.point.Point.{Point}
use Rattle.c_model.specs.declared.point.Point.TheVariants as point
use Rattle.ompt_calls.specs.declared.snapshot.Target.{Target}
use Rattle.omp_model.specs.declared.event.Callback.{Callback}
use Rattle.omp_model.specs.declared.event.Halt.{Halt}
use Rattle.omp_model.specs.declared.event.Halt.TheVariants.{Limit}
use Rattle.omp_model.specs.declared.history.Entry.{Entry}
use Rattle.omp_model.specs.declared.history.What.{What}
use Rattle.omp_model.specs.declared.history.What.TheVariants.{Back, Go, Put}
use Rattle.omp_model.specs.declared.limits.TheConstants.{STEPS, STEPS_OF_A_TURN, TURNS, TURN_LIMIT}
use Rattle.omp_model.specs.declared.event.Arrival.{Arrival}
use Rattle.omp_model.specs.declared.event.Arrival.TheVariants.{CodeEvent, RuntimeEvent, Steps, Waits}
use Rattle.omp_model.specs.Changes.{with_masked_skipped, task_made}
use Rattle.omp_model.specs.Gates.{arrival}
use Rattle.omp_model.specs.Members.{current, current_region, moment_of, view_of}
use Rattle.omp_model.specs.Turn.{with_going}
use Rattle.omp_model.specs.Cause.{cause_by_halt, cause_in, cause_of, cause_of_whole, whole_value}
use Rattle.omp_model.specs.EventEffects.{Going, after_creation, effect_of_point, event_of_point, fault_of_point, going_by, go_of_code, going_to_point, kind_of_task, past_point, told, unless}
use Rattle.omp_model.specs.Legal.{AllowsFrom, Legal, after, after_from, does, entered, may, may_put}
use Rattle.omp_model.specs.Silent.{Silence, silence_of, silent_step}
use Rattle.omp_model.specs.Silent.Silence.{Goes, Stops}
use Rattle.omp_model.specs.State.{Run, State, World, first, no_task, pending_at, task_with}
use Rattle.sync_objects.specs.Owners.{critical_locks}
use Rattle.omp_model.specs.Turn.{Turn, Walk, after_steps, after_walk, state_past_masked, halted, stepped, turn, unlimited, walk, walk_by, walk_on, walked}
use Rattle.numbered_runs.specs.Alike.{AreAlike}
use Rattle.numbered_runs.proofs.Names.{same_criticals, same_explicit_task, same_main_task, same_store}
use Rattle.numbered_runs.proofs.Steps.{same_silent}

-- the run of another program
abbrev of_program : Run → TreeView → Run
of_program run program = record run { program = program }

module _ (run : Run) (other : TreeView) (same : AreAlike run.program other) where
  abbrev alike : Run
  alike = of_program run other

  -- the first state
  first_same : first run ≡ first alike
  first_same =
      ap (λ (code : Code). with_parts code (first_store run.program) (critical_count run.program)) (same_main_task run.program other same)
      ∙ ap (λ (store : Store). with_parts (main_task other) store (critical_count run.program)) (same_store run.program other same)
      ∙ ap (λ (count : ℕ). with_parts (main_task other) (first_store other) count) (same_criticals run.program other same)
    where
      with_parts : Code → Store → ℕ → State
      with_parts code store count = record (first run) {
        world = record (first run).world {
          tasks = no_task ∷ task_with code ∷ [];
          store = store;
          locks = record { locks = critical_locks count; room = 0 };
        };
      }

  -- ---- silent steps
  step_same : (W : World) (t : ℕ) → silent_step run W t ≡ silent_step alike W t
  unfolding silent_step
  step_same W t = ap (silence_of W t) (same_silent run.program other same (view_of W t) (moment_of W t))

  by_same : (S : State) (made : ℕ) (silence : Silence) (one more : World → Walk) → ((after : World) → one after ≡ more after) → walk_by S made silence one ≡ walk_by S made silence more
  by_same S made (Goes after) one more is = is after
  by_same S made (Stops halt) one more is = refl

  on_same : (S : State) (t made : ℕ) (to : Arrival) (one more : World → Walk) → ((after : World) → one after ≡ more after) → walk_on run S t made to one ≡ walk_on alike S t made to more
  on_same S t made Steps one more is =
      ap (λ (walk : Walk). if nat_le run.steps S.steps then walked S made (Some (Limit STEPS)) else walk)
      (by_same (state_past_masked S t) made (silent_step run S.world t) one more is ∙ ap (λ (silence : Silence). walk_by (state_past_masked S t) made silence more) (step_same S.world t))
  on_same S t made Waits one more is = refl
  on_same S t made CodeEvent one more is = refl
  on_same S t made (RuntimeEvent event) one more is = refl

  walk_same : (left made : ℕ) (S : State) (t : ℕ) → walk run left made S t ≡ walk alike left made S t
  unfolding walk
  walk_same zero made S t = refl
  walk_same (suc left) made S t = on_same S t made (arrival S.world t) _ _ (λ after. walk_same left (made + 1) (stepped S after) t)

  -- ---- events
  creation_same : (W : World) (t : ℕ) (now : Moment) (undeferred : Bool) → after_creation run W t now undeferred ≡ after_creation alike W t now undeferred
  creation_same W t now undeferred =
      ap (λ (created : Moment). record (task_made W (current W t) (current_region W t) (kind_of_task undeferred) created.task) { store = created.store })
      (same_explicit_task run.program other same (created_construct (settled_task (view_of W t) now.task).todo) now)

  effect_same : (W : World) (t : ℕ) (now : Moment) (what : Point) → effect_of_point run W t now what ≡ effect_of_point alike W t now what
  unfolding effect_of_point
  effect_same W t now (point.TaskCreate codeptr undeferred) = creation_same W t now undeferred
  effect_same W t now what = refl

  point_same : (W : World) (t : ℕ) (now : Moment) (what : Point) → going_to_point run W t now what ≡ going_to_point alike W t now what
  point_same W t now what =
      ap (λ (after : World). unless (fault_of_point W t now.task what) (event_of_point W t what) (past_point W after t now what)) (effect_same W t now what)

  outcome_same : (W : World) (t : ℕ) (now : Moment) (outcome : CodeOutcome) → going_by run W t now outcome ≡ going_by alike W t now outcome
  outcome_same W t now (Occurs what tree) = point_same W t now what
  outcome_same W t now outcome = refl

  going_same : (W : World) (t : ℕ) → go_of_code run W t ≡ go_of_code alike W t
  unfolding go_of_code
  going_same W t =
      outcome_same W t (told W t) (silent run.program (view_of W t) (told W t))
      ∙ ap (λ (outcome : CodeOutcome). going_by alike W t (told W t) outcome) (same_silent run.program other same (view_of W t) (told W t))

  -- ---- turns
  arrived_same : (S : State) (made t : ℕ) (to : Arrival) → after_steps run S made t to ≡ after_steps alike S made t to
  arrived_same S made t CodeEvent = ap (λ (going : Going). with_going (state_past_masked S t) made t going) (going_same (with_masked_skipped S.world t) t)
  arrived_same S made t Waits = refl
  arrived_same S made t Steps = refl
  arrived_same S made t (RuntimeEvent event) = refl

  stopped_same : (steps : Walk) (t : ℕ) (stop : Option Halt) → after_walk run steps t stop ≡ after_walk alike steps t stop
  stopped_same steps t (Some halt) = refl
  stopped_same steps t None = arrived_same steps.state steps.made t (arrival steps.state.world t)

  unlimited_same : (S : State) (t : ℕ) → unlimited run S t ≡ unlimited alike S t
  unfolding unlimited
  unlimited_same S t =
      let steps : Walk = walk run STEPS_OF_A_TURN 0 S t in
      stopped_same steps t steps.stop ∙ ap (λ (steps : Walk). after_walk alike steps t steps.stop) (walk_same STEPS_OF_A_TURN 0 S t)

  turn_same : (S : State) (t : ℕ) → turn run S t ≡ turn alike S t
  unfolding turn
  turn_same S t = ap (λ (rest : Turn). if nat_le TURN_LIMIT (S.turns + 1) then halted S (Limit TURNS) else rest) (unlimited_same S t)

  -- ---- histories
  does_same : (S : State) (t : ℕ) (what : What) → does run S t what ≡ does alike S t what
  does_same S t Go = ap (λ (turn : Turn). turn.state) (turn_same S t)
  does_same S t (Put target word) = refl
  does_same S t Back = refl

  put_same : (S : State) (target : Target) (inside : Option Callback) → may_put run S target inside ≡ may_put alike S target inside
  put_same S target None = refl
  put_same S target (Some callback) = refl

  may_same : (S : State) (t : ℕ) (what : What) → may run S t what ≡ may alike S t what
  may_same S t Go = refl
  may_same S t (Put target word) = put_same S target (pending_at S t)
  may_same S t Back = refl

  allows_same : (history : List Entry) (S : State) → AllowsFrom run S history → AllowsFrom alike S history
  allows_same [] S allows = tt
  allows_same (entry ∷ rest) S allows = (
    subst IsTrue (may_same S entry.thread entry.what) allows.0,
    subst (λ (state : State). AllowsFrom alike state rest) (does_same S entry.thread entry.what) (allows_same rest (entered run S entry) allows.1),
  )

  after_same : (history : List Entry) (S : State) → after_from run S history ≡ after_from alike S history
  after_same [] S = refl
  after_same (entry ∷ rest) S = after_same rest (entered run S entry) ∙ ap (λ (state : State). after_from alike state rest) (does_same S entry.thread entry.what)

  -- ---- causes
  whole_same : (S : State) (value : Option ℤ) → cause_of_whole run S value ≡ cause_of_whole alike S value
  whole_same S (Some value) = refl
  whole_same S None = refl

  cause_same : (S : State) (halt : Option Halt) → cause_by_halt run S halt ≡ cause_by_halt alike S halt
  cause_same S (Some halt) = refl
  cause_same S None = whole_same S (whole_value S.world)

  pub same_legal : (history : List Entry) → Legal run history → Legal alike history
  same_legal history legal = subst (λ (state : State). AllowsFrom alike state history) first_same (allows_same history (first run) legal)

  pub same_cause : (history : List Entry) → cause_of alike history ≡ cause_of run history
  same_cause history =
      sym (cause_same (after run history) (after run history).halt
      ∙ ap (cause_in alike) (after_same history (first run) ∙ ap (λ (state : State). after_from alike state history) first_same))
