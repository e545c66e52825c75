-- What a run comes to doesn't hang on the callbacks that are registered: a legal history is one with all of them.
use Rattle.std.proofs.Common.{ℕ, zero, suc, ◌≡◌, ◌≤◌, ◌+◌, ◌&&◌, Bool, true, false, nat_le, nat_lt, if◌then◌else◌, List, [], ◌∷◌, Option, Some, None, refl, sym, ap, ◌∙◌, subst}
use Rattle.std.proofs.lemmas.Bool.{and_from, and_parts}
use Rattle.c_check.specs.Checked.{Checked}
use Rattle.c_model.specs.declared.point.Point.{Point}
use Rattle.c_model.specs.declared.point.Point.TheVariants as point
use Rattle.c_model.specs.Formed.{IsProgramFormed}
use Rattle.c_model.specs.Step.{silent}
use Rattle.c_model.specs.Task.{Moment, Outcome}
use Rattle.c_model.specs.Task.Outcome.{Asks, Ends, Limits, Occurs, StepsTo, Traps}
use Rattle.c_brackets.proofs.ReturnPrograms.{returns_outside}
use Rattle.omp_codes.specs.declared.callbacks.TheConstants.{PROFILE_MASK}
use Rattle.ompt_calls.specs.declared.snapshot.Target.{Target}
use Rattle.omp_model.specs.declared.event.Arrival.{Arrival}
use Rattle.omp_model.specs.declared.event.Arrival.TheVariants.{CodeEvent, RuntimeEvent, Steps, Waits}
use Rattle.omp_model.specs.declared.event.Callback.{Callback}
use Rattle.omp_model.specs.declared.event.Halt.{Halt}
use Rattle.omp_model.specs.declared.event.Halt.TheVariants.{Limit}
use Rattle.omp_model.specs.declared.history.Entry.{Entry}
use Rattle.omp_model.specs.declared.history.What.{What}
use Rattle.omp_model.specs.declared.history.What.TheVariants.{Back, Go, Put}
use Rattle.omp_model.specs.declared.limits.TheConstants.{STEPS, STEPS_OF_A_TURN, STORE_LIMIT, TURNS, TURN_LIMIT}
use Rattle.omp_model.specs.Changes.{with_masked_skipped}
use Rattle.omp_model.specs.Gates.{arrival}
use Rattle.omp_model.specs.EventEffects.{effect_of_point, event_of_point, fault_of_point, going_by, go_of_code, past_point, told, unless}
use Rattle.omp_model.specs.Legal.{AllowsFrom, Legal, after, after_from, does, entered, is_told, may, may_put}
use Rattle.omp_model.specs.Members.{view_of}
use Rattle.omp_model.specs.Silent.{Goes, Silence, Stops, silent_step}
use Rattle.omp_model.specs.State.{Run, State, World, first, pending_at}
use Rattle.omp_model.specs.Turn.{Turn, Walk, after_steps, after_walk, state_past_masked, halted, stepped, turn, unlimited, walk, walk_by, walk_on, walked, with_going}
use Rattle.omp_model.specs.Words.{is_made}
use Rattle.nested_runs.proofs.Knows.{IsWholeRun}
use Rattle.nested_runs.proofs.Histories.{registered}

-- the same run with all callbacks of the profile registered
abbrev pub all_told : Run → Run
all_told run = record run { mask = PROFILE_MASK }

pub whole-told : (run : Run) → 1 ≤ run.threads → run.threads ≤ 16 → Checked run.program → IsProgramFormed run.program → IsWholeRun (all_told run)
whole-told run some few checked formed = record { some = some; few = few; whole = refl; returns = returns_outside run.program checked formed }

module _ (run : Run) where
  told-silent : (W : World) (t : ℕ) → silent_step (all_told run) W t ≡ silent_step run W t
  unfolding silent_step
  told-silent W t = refl

  told-effect : (W : World) (t : ℕ) (now : Moment) (what : Point) → effect_of_point (all_told run) W t now what ≡ effect_of_point run W t now what
  unfolding effect_of_point
  told-effect W t now what = by what
    where
      by : (what : Point) → effect_of_point (all_told run) W t now what ≡ effect_of_point run W t now what
      by (point.TaskCreate codeptr undeferred) = refl
      by other = refl

  told-by : (W : World) (t : ℕ) (now : Moment) (came : Outcome) → going_by (all_told run) W t now came ≡ going_by run W t now came
  told-by W t now (Occurs what tree) =
      ap (λ (after : World). unless (fault_of_point W t now.task what) (event_of_point W t what) (past_point W after t now what)) (told-effect W t now what)
  told-by W t now (Traps trap) = refl
  told-by W t now (Limits limit) = refl
  told-by W t now (StepsTo next) = refl
  told-by W t now (Asks ask tree) = refl
  told-by W t now (Ends number) = refl

  told-in_code : (W : World) (t : ℕ) → go_of_code (all_told run) W t ≡ go_of_code run W t
  unfolding go_of_code
  told-in_code W t = let now = told W t in told-by W t now (silent run.program (view_of W t) now)

  told-walk_by : (S : State) (made : ℕ) (silence : Silence) (more less : World → Walk) → ((W : World) → more W ≡ less W) → walk_by S made silence more ≡ walk_by S made silence less
  told-walk_by S made (Goes after) more less same = same after
  told-walk_by S made (Stops halt) more less same = refl

  told-step : (S : State) (t made : ℕ) (over : Bool) (more less : World → Walk) → ((W : World) → more W ≡ less W) →
      (if over then walked S made (Some (Limit STEPS)) else walk_by (state_past_masked S t) made (silent_step (all_told run) S.world t) more)
      ≡ (if over then walked S made (Some (Limit STEPS)) else walk_by (state_past_masked S t) made (silent_step run S.world t) less)
  told-step S t made true more less same = refl
  told-step S t made false more less same =
      ap (λ (silence : Silence). walk_by (state_past_masked S t) made silence more) (told-silent S.world t)
      ∙ told-walk_by (state_past_masked S t) made (silent_step run S.world t) more less same

  told-walk_on : (S : State) (t made : ℕ) (next : Arrival) (more less : World → Walk) → ((W : World) → more W ≡ less W) →
      walk_on (all_told run) S t made next more ≡ walk_on run S t made next less
  told-walk_on S t made Steps more less same = told-step S t made (nat_le run.steps S.steps) more less same
  told-walk_on S t made Waits more less same = refl
  told-walk_on S t made CodeEvent more less same = refl
  told-walk_on S t made (RuntimeEvent event) more less same = refl

  pub told-walk : (left made : ℕ) (S : State) (t : ℕ) → walk (all_told run) left made S t ≡ walk run left made S t
  unfolding walk
  told-walk zero made S t = refl
  told-walk (suc left) made S t =
      told-walk_on S t made (arrival S.world t) (λ after. walk (all_told run) left (made + 1) (stepped S after) t) (λ after. walk run left (made + 1) (stepped S after) t)
      (λ W. told-walk left (made + 1) (stepped S W) t)

  told-after_steps : (S : State) (made t : ℕ) (next : Arrival) → after_steps (all_told run) S made t next ≡ after_steps run S made t next
  told-after_steps S made t CodeEvent = ap (with_going (state_past_masked S t) made t) (told-in_code (with_masked_skipped S.world t) t)
  told-after_steps S made t Waits = refl
  told-after_steps S made t Steps = refl
  told-after_steps S made t (RuntimeEvent event) = refl

  told-after_walk : (w : Walk) (t : ℕ) (stop : Option Halt) → after_walk (all_told run) w t stop ≡ after_walk run w t stop
  told-after_walk w t (Some halt) = refl
  told-after_walk w t None = told-after_steps w.state w.made t (arrival w.state.world t)

  told-unlimited : (S : State) (t : ℕ) → unlimited (all_told run) S t ≡ unlimited run S t
  unfolding unlimited
  told-unlimited S t =
      let w = walk run STEPS_OF_A_TURN 0 S t in
      ap (λ (w : Walk). after_walk (all_told run) w t w.stop) (told-walk STEPS_OF_A_TURN 0 S t) ∙ told-after_walk w t w.stop

  pub told-turn : (S : State) (t : ℕ) → turn (all_told run) S t ≡ turn run S t
  unfolding turn
  told-turn S t = ap (λ (one : Turn). if nat_le TURN_LIMIT (S.turns + 1) then halted S (Limit TURNS) else one) (told-unlimited S t)

  pub told-does : (S : State) (t : ℕ) (what : What) → does (all_told run) S t what ≡ does run S t what
  told-does S t Go = ap (λ (one : Turn). one.state) (told-turn S t)
  told-does S t (Put target word) = refl
  told-does S t Back = refl

  told-from : (S : State) (history : List Entry) → after_from (all_told run) S history ≡ after_from run S history
  told-from S [] = refl
  told-from S (entry ∷ rest) =
      ap (λ (S : State). after_from (all_told run) S rest) (told-does S entry.thread entry.what) ∙ told-from (entered run S entry) rest

  pub told-after : (history : List Entry) → after (all_told run) history ≡ after run history
  told-after history = told-from (first run) history

  -- the turn after a history
  pub told-next : (history : List Entry) (t : ℕ) → turn (all_told run) (after (all_told run) history) t ≡ turn run (after run history) t
  told-next history t = ap (λ (S : State). turn (all_told run) S t) (told-after history) ∙ told-turn (after run history) t

  module _ (whole : IsWholeRun (all_told run)) where
    put-told : (S : State) (target : Target) (inside : Option Callback) → may_put run S target inside ≡ true → may_put (all_told run) S target inside ≡ true
    put-told S target None may = may
    put-told S target (Some callback) may =
        let parts = and_parts (is_told run callback && nat_lt callback.stores STORE_LIMIT) (is_made S.world target) may in
        let few = (and_parts (is_told run callback) (nat_lt callback.stores STORE_LIMIT) parts.0).1 in
        and_from _ _ (and_from _ _ (registered (all_told run) callback.event whole) few) parts.1

    may-told : (S : State) (t : ℕ) (what : What) → may run S t what ≡ true → may (all_told run) S t what ≡ true
    may-told S t Go goes = goes
    may-told S t (Put target word) goes = put-told S target (pending_at S t) goes
    may-told S t Back goes = goes

    allows-told : (S : State) (history : List Entry) → AllowsFrom run S history → AllowsFrom (all_told run) S history
    allows-told S [] allows = tt
    allows-told S (entry ∷ rest) allows = (
      may-told S entry.thread entry.what allows.0,
      subst (λ (S : State). AllowsFrom (all_told run) S rest) (sym (told-does S entry.thread entry.what)) (allows-told (entered run S entry) rest allows.1),
    )

    pub legal-told : (history : List Entry) → Legal run history → Legal (all_told run) history
    legal-told history legal = allows-told (first run) history legal
