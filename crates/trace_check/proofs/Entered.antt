-- What waits is the task that its thread runs.
use Rattle.std.proofs.Common.{◌≡◌, ℕ, ◌==◌, ◌&&◌, ◌||◌, Bool, true, false, cond, not, List, [], ◌∷◌, Option, Some, None, refl, sym, ◌∙◌, ap, subst}
use Rattle.std.proofs.lemmas.Bool.{eqb-true}
use Rattle.ompt_calls.specs.declared.event.EventRecord.{EventRecord}
use Rattle.trace_check.specs.declared.bracket.Bracket.{Bracket}
use Rattle.trace_check.specs.declared.bracket.Bracket.TheVariants.{Parallel, Implicit, Explicit, Worksharing, Masking, Syncing, Waiting}
use Rattle.trace_check.specs.declared.change.Change.{Change}
use Rattle.trace_check.specs.declared.change.Change.TheVariants.{Opens, Closes, Stays}
use Rattle.trace_check.specs.declared.things.Current.{Current}
use Rattle.trace_check.specs.Brackets.{change_of, changed, current_in, is_innermost}
use Rattle.trace_check.specs.Before.{current, is_barrier, is_just, joins, opened}
use Rattle.trace_check.specs.Rules.{has_no_child, may_change, may_open, may_pass}
use Rattle.trace_check.specs.Checking.{Unbroken, current_with, running}
use Rattle.trace_check.proofs.Kept12.{KeepsAll, keeps_all}
use Rattle.trace_check.proofs.Joined.{running_task}
use Rattle.trace_check.proofs.Tests.{left}

-- a wait was begun by the current task
abbrev IsEntered : Bracket → Option ℕ → Type 0
IsEntered (Waiting task kind) running = running ≡ Some task
IsEntered (Parallel region) running = Unit {0}
IsEntered (Implicit task) running = Unit {0}
IsEntered (Explicit prior next) running = Unit {0}
IsEntered (Worksharing region task kind count) running = Unit {0}
IsEntered (Masking task) running = Unit {0}
IsEntered (Syncing task kind) running = Unit {0}

abbrev SoundStack : List Bracket → Type 0
SoundStack [] = Unit {0}
SoundStack (bracket ∷ brackets) = IsEntered bracket (current_in brackets) × SoundStack brackets

just_is : (task : ℕ) (found : Option ℕ) → is_just task found ≡ true → found ≡ Some task
just_is task None is = absurd (cc)
just_is task (Some other) is = ap (λ (n : ℕ). Some n) (eqb-true other task is)

enters : (past : List EventRecord) (t : ℕ) (bracket : Bracket) → may_open past t bracket ≡ true → IsEntered bracket (current t past)
enters past t (Waiting task kind) may = just_is task (current t past) may
enters past t (Parallel region) may = tt
enters past t (Implicit task) may = tt
enters past t (Explicit prior next) may = tt
enters past t (Worksharing region task kind count) may = tt
enters past t (Masking task) may = tt
enters past t (Syncing task kind) may = tt

pop : (brackets : List Bracket) → SoundStack brackets → SoundStack (changed (Closes (Parallel 0)) brackets)
pop [] sound = tt
pop (bracket ∷ brackets) sound = sound.1

sound_stack : (t : ℕ) (past : List EventRecord) → Unbroken past → SoundStack (opened t past)
sound_stack t [] unbroken = tt
sound_stack t (event ∷ past) unbroken =
    let all : KeepsAll past event = keeps_all past event unbroken.0 in
    by-thread (event.thread == t) refl (left (may_change past event.thread (change_of event.call)) _ all.brackets) (sound_stack t past unbroken.1)
  where
    by-change : (u : ℕ) (change : Change) → may_change past u change ≡ true → SoundStack (opened u past) → SoundStack (changed change (opened u past))
    by-change u (Opens bracket) may sound = (enters past u bracket may, sound)
    by-change u (Closes bracket) may sound = pop (opened u past) sound
    by-change u Stays may sound = sound

    by-thread : (b : Bool) → (event.thread == t) ≡ b → may_change past event.thread (change_of event.call) ≡ true → SoundStack (opened t past) → SoundStack (cond b (changed (change_of event.call) (opened t past)) (opened t past))
    by-thread true same may sound = by-change t (change_of event.call) (subst (λ (u : ℕ). may_change past u (change_of event.call) ≡ true) (eqb-true event.thread t same) may) sound
    by-thread false same may sound = sound

waits_current : (brackets : List Bracket) (task kind : ℕ) → SoundStack brackets → is_innermost brackets (Waiting task kind) ≡ true → current_in brackets ≡ Some task
waits_current [] task kind sound is = absurd (cc)
waits_current (Waiting other like ∷ brackets) task kind sound is = sound.0 ∙ ap (λ (n : ℕ). Some n) (eqb-true other task (left (other == task) (like == kind) is))
waits_current (Parallel region ∷ brackets) task kind sound is = absurd (cc)
waits_current (Implicit other ∷ brackets) task kind sound is = absurd (cc)
waits_current (Explicit prior next ∷ brackets) task kind sound is = absurd (cc)
waits_current (Worksharing region other like count ∷ brackets) task kind sound is = absurd (cc)
waits_current (Masking other ∷ brackets) task kind sound is = absurd (cc)
waits_current (Syncing other like ∷ brackets) task kind sound is = absurd (cc)

-- at the end of a wait its task is the current one
pub waiting_current : (past : List EventRecord) (t task kind endpoint : ℕ) (e : Bool) → Unbroken past → endpoint ≡ 2
    → (may_change past t (cond (endpoint == 1) (Opens (Waiting task kind)) (cond (endpoint == 2) (Closes (Waiting task kind)) Stays)) && e) ≡ true → current_in (opened t past) ≡ Some task
waiting_current past t task kind endpoint e unbroken ends keeps =
    waits_current (opened t past) task kind (sound_stack t past unbroken) (left (is_innermost (opened t past) (Waiting task kind)) e (rw ends at keeps))

-- a thread that runs nothing is in no wait
pub none_runs : (t task : ℕ) (past : List EventRecord) → running (joins past) (opened t past) ≡ None → current_in (opened t past) ≡ Some task → ⊥
none_runs t task past none runs = by-task (current_in (opened t past)) runs none
  where
    by-task : (found : Option ℕ) → found ≡ Some task → current_with (joins past) found ≡ None → ⊥
    by-task None found none = absurd (cc)
    by-task (Some other) found none = absurd (cc)

-- what the end of a wait asks of its task is asked of the current one
pub wait_ends : (t task kind endpoint : ℕ) (past : List EventRecord) (found : Current) (result : Bool) → endpoint ≡ 2 → running (joins past) (opened t past) ≡ Some found → current_in (opened t past) ≡ Some task
    → result ≡ ((not (is_barrier kind) || may_pass past found.task) && (not (kind == 5) || has_no_child past found.task))
    → result ≡ (not (endpoint == 2) || ((not (is_barrier kind) || may_pass past task) && (not (kind == 5) || has_no_child past task)))
wait_ends t task kind endpoint past found result ends run runs is =
    let e : Some found.task ≡ Some task = sym (running_task (joins past) (opened t past) found run).0 ∙ runs in
    let f : found.task ≡ task = cc in
    rw ends (subst (λ (n : ℕ). result ≡ ((not (is_barrier kind) || may_pass past n) && (not (kind == 5) || has_no_child past n))) f is)
