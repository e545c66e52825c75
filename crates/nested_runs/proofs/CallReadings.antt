-- What the call of an event tells is what is read off the event, and how what the events so far tell grows by it.
use Rattle.std.proofs.Common.{ℕ, ◌≡◌, ◌+◌, ◌||◌, if◌then◌else◌, List, ◌∷◌, refl, sym, ap, ◌∙◌, arith}
use Rattle.std.specs.Prelude.{Option, Some}
use Rattle.std.proofs.lemmas.Bool.{eq-eqb, ne_eqb}
use Rattle.std.proofs.lemmas.List.Sums.{sum_by-cons}
use Rattle.c_model.specs.declared.point.SyncKind.TheVariants as sync
use Rattle.c_model.specs.declared.point.SyncStage.TheVariants as stage
use Rattle.ompt_calls.specs.declared.event.EventRecord.{EventRecord}
use Rattle.omp_model.specs.declared.event.Endpoint.TheVariants.{Begin, End}
use Rattle.omp_model.specs.declared.event.Event.{Event}
use Rattle.omp_model.specs.declared.event.Event.TheVariants.{Dispatch, InitialTaskEnd, Masked, MemberBegin, MemberEnd, MutexAcquired, MutexReleased, ParallelBegin, ParallelEnd, Sync, TaskBegin, TaskCreate, TaskEnd, Work}
use Rattle.omp_model.specs.declared.event.Share.TheVariants.{Chunk, Section}
use Rattle.omp_model.specs.State.{World}
use Rattle.omp_model.specs.Calls.{call_of}
use Rattle.trace_check.specs.Brackets.{change_of, changed}
use Rattle.trace_check.specs.Before.{creation_of, events_of, has_ended, held_after, is_end, is_of, join_of, latest, left_task, opened, region_begun, region_ended, region_made, task_completed, task_made, task_started, waiter}
use Rattle.nested_runs.proofs.Readings.{begun_by, change_by, completed_by, created_by, ended_by, held_by, joined_by, left_by, region_by, started_by, task_by, waiting_by}
use Rattle.nested_runs.proofs.Recorded.{recorded}

-- ---- one call

pub change-is : (W : World) (t : ℕ) (e : Event) → change_of (call_of W t e) ≡ change_by W t e
unfolding call_of
change-is W t (Sync which stage.RegionBegin codeptr) = refl
change-is W t (Sync which stage.WaitBegin codeptr) = refl
change-is W t (Sync which stage.WaitEnd codeptr) = refl
change-is W t (Sync which stage.RegionEnd codeptr) = refl
change-is W t (Work Begin which count codeptr) = refl
change-is W t (Work End which count codeptr) = refl
change-is W t (Masked Begin codeptr) = refl
change-is W t (Masked End codeptr) = refl
change-is W t (Dispatch (Chunk start count)) = refl
change-is W t (Dispatch (Section codeptr)) = refl
change-is W t other = refl

pub begun-is : (W : World) (t : ℕ) (e : Event) → region_begun (call_of W t e) ≡ begun_by e
unfolding call_of
begun-is W t (Sync which stage.RegionBegin codeptr) = refl
begun-is W t (Sync which stage.WaitBegin codeptr) = refl
begun-is W t (Sync which stage.WaitEnd codeptr) = refl
begun-is W t (Sync which stage.RegionEnd codeptr) = refl
begun-is W t (ParallelBegin r requested codeptr) = refl
begun-is W t (Dispatch (Chunk start count)) = refl
begun-is W t (Dispatch (Section codeptr)) = refl
begun-is W t other = refl

pub ended-is : (W : World) (t : ℕ) (e : Event) → region_ended (call_of W t e) ≡ ended_by e
unfolding call_of
ended-is W t (Sync which stage.RegionBegin codeptr) = refl
ended-is W t (Sync which stage.WaitBegin codeptr) = refl
ended-is W t (Sync which stage.WaitEnd codeptr) = refl
ended-is W t (Sync which stage.RegionEnd codeptr) = refl
ended-is W t (ParallelEnd r codeptr) = refl
ended-is W t (Dispatch (Chunk start count)) = refl
ended-is W t (Dispatch (Section codeptr)) = refl
ended-is W t other = refl

pub join-is : (W : World) (t : ℕ) (e : Event) → join_of (call_of W t e) ≡ joined_by W t e
unfolding call_of
join-is W t (Sync which stage.RegionBegin codeptr) = refl
join-is W t (Sync which stage.WaitBegin codeptr) = refl
join-is W t (Sync which stage.WaitEnd codeptr) = refl
join-is W t (Sync which stage.RegionEnd codeptr) = refl
join-is W t (MemberBegin r k) = refl
join-is W t (Dispatch (Chunk start count)) = refl
join-is W t (Dispatch (Section codeptr)) = refl
join-is W t other = refl

pub left-is : (W : World) (t : ℕ) (e : Event) → left_task (call_of W t e) ≡ left_by e
unfolding call_of
left-is W t (Sync which stage.RegionBegin codeptr) = refl
left-is W t (Sync which stage.WaitBegin codeptr) = refl
left-is W t (Sync which stage.WaitEnd codeptr) = refl
left-is W t (Sync which stage.RegionEnd codeptr) = refl
left-is W t InitialTaskEnd = refl
left-is W t (MemberEnd r k) = refl
left-is W t (Dispatch (Chunk start count)) = refl
left-is W t (Dispatch (Section codeptr)) = refl
left-is W t other = refl

pub waiter-is : (W : World) (t : ℕ) (e : Event) → waiter (call_of W t e) ≡ waiting_by W t e
unfolding call_of
waiter-is W t (Sync which stage.RegionBegin codeptr) = refl
waiter-is W t (Sync sync.Barrier stage.WaitBegin codeptr) = refl
waiter-is W t (Sync sync.Taskwait stage.WaitBegin codeptr) = refl
waiter-is W t (Sync sync.Worksharing stage.WaitBegin codeptr) = refl
waiter-is W t (Sync sync.Parallel stage.WaitBegin codeptr) = refl
waiter-is W t (Sync which stage.WaitEnd codeptr) = refl
waiter-is W t (Sync which stage.RegionEnd codeptr) = refl
waiter-is W t (Dispatch (Chunk start count)) = refl
waiter-is W t (Dispatch (Section codeptr)) = refl
waiter-is W t other = refl

pub region-is : (W : World) (t : ℕ) (e : Event) → region_made (call_of W t e) ≡ region_by e
unfolding call_of
region-is W t (Sync which stage.RegionBegin codeptr) = refl
region-is W t (Sync which stage.WaitBegin codeptr) = refl
region-is W t (Sync which stage.WaitEnd codeptr) = refl
region-is W t (Sync which stage.RegionEnd codeptr) = refl
region-is W t (ParallelBegin r requested codeptr) = refl
region-is W t (Dispatch (Chunk start count)) = refl
region-is W t (Dispatch (Section codeptr)) = refl
region-is W t other = refl

pub task-is : (W : World) (t : ℕ) (e : Event) → task_made (call_of W t e) ≡ task_by e
unfolding call_of
task-is W t (Sync which stage.RegionBegin codeptr) = refl
task-is W t (Sync which stage.WaitBegin codeptr) = refl
task-is W t (Sync which stage.WaitEnd codeptr) = refl
task-is W t (Sync which stage.RegionEnd codeptr) = refl
task-is W t (MemberBegin r k) = refl
task-is W t (TaskCreate task undeferred codeptr) = refl
task-is W t (Dispatch (Chunk start count)) = refl
task-is W t (Dispatch (Section codeptr)) = refl
task-is W t other = refl

pub creation-is : (W : World) (t : ℕ) (e : Event) → creation_of (call_of W t e) ≡ created_by W t e
unfolding call_of
creation-is W t (Sync which stage.RegionBegin codeptr) = refl
creation-is W t (Sync which stage.WaitBegin codeptr) = refl
creation-is W t (Sync which stage.WaitEnd codeptr) = refl
creation-is W t (Sync which stage.RegionEnd codeptr) = refl
creation-is W t (TaskCreate task undeferred codeptr) = refl
creation-is W t (Dispatch (Chunk start count)) = refl
creation-is W t (Dispatch (Section codeptr)) = refl
creation-is W t other = refl

pub started-is : (W : World) (t : ℕ) (e : Event) → task_started (call_of W t e) ≡ started_by e
unfolding call_of
started-is W t (Sync which stage.RegionBegin codeptr) = refl
started-is W t (Sync which stage.WaitBegin codeptr) = refl
started-is W t (Sync which stage.WaitEnd codeptr) = refl
started-is W t (Sync which stage.RegionEnd codeptr) = refl
started-is W t (TaskBegin prior task) = refl
started-is W t (Dispatch (Chunk start count)) = refl
started-is W t (Dispatch (Section codeptr)) = refl
started-is W t other = refl

pub completed-is : (W : World) (t : ℕ) (e : Event) → task_completed (call_of W t e) ≡ completed_by e
unfolding call_of
completed-is W t (Sync which stage.RegionBegin codeptr) = refl
completed-is W t (Sync which stage.WaitBegin codeptr) = refl
completed-is W t (Sync which stage.WaitEnd codeptr) = refl
completed-is W t (Sync which stage.RegionEnd codeptr) = refl
completed-is W t (TaskEnd task) = refl
completed-is W t (Dispatch (Chunk start count)) = refl
completed-is W t (Dispatch (Section codeptr)) = refl
completed-is W t other = refl

pub held-is : (W : World) (t id : ℕ) (e : Event) (before : Option ℕ) → held_after id t (call_of W t e) before ≡ held_by id t e before
unfolding call_of
held-is W t id (Sync which stage.RegionBegin codeptr) before = refl
held-is W t id (Sync which stage.WaitBegin codeptr) before = refl
held-is W t id (Sync which stage.WaitEnd codeptr) before = refl
held-is W t id (Sync which stage.RegionEnd codeptr) before = refl
held-is W t id (MutexAcquired which wait_id codeptr) before = refl
held-is W t id (MutexReleased which wait_id codeptr) before = refl
held-is W t id (Dispatch (Chunk start count)) before = refl
held-is W t id (Dispatch (Section codeptr)) before = refl
held-is W t id other before = refl

-- ---- what is told of this thread, and of another

module _ (position t : ℕ) (W : World) (e : Event) (past : List EventRecord) where
  pub opened-own : opened t (recorded position t W e ∷ past) ≡ changed (change_by W t e) (opened t past)
  opened-own = rw (eq-eqb t t refl) (ap (λ c. changed c (opened t past)) (change-is W t e))

  pub opened-other : (u : ℕ) → (u ≡ t → ⊥) → opened u (recorded position t W e ∷ past) ≡ opened u past
  opened-other u other = rw (ne_eqb t u (λ is. other (sym is))) refl

  pub events-own : events_of t (recorded position t W e ∷ past) ≡ events_of t past + 1
  events-own = sum_by-cons (λ (event : EventRecord). if is_of t event then 1 else 0) (recorded position t W e) past ∙ rw (eq-eqb t t refl) (omega arith)

  pub events-other : (u : ℕ) → (u ≡ t → ⊥) → events_of u (recorded position t W e ∷ past) ≡ events_of u past
  events-other u other =
      sum_by-cons (λ (event : EventRecord). if is_of u event then 1 else 0) (recorded position t W e) past
      ∙ rw (ne_eqb t u (λ is. other (sym is))) (omega arith)

  pub ended-own : has_ended t (recorded position t W e ∷ past) ≡ (is_end (call_of W t e) || has_ended t past)
  ended-own = rw (eq-eqb t t refl) refl

  pub ended-other : (u : ℕ) → (u ≡ t → ⊥) → has_ended u (recorded position t W e ∷ past) ≡ has_ended u past
  ended-other u other = rw (ne_eqb t u (λ is. other (sym is))) refl

  pub latest-own : latest t (recorded position t W e ∷ past) ≡ Some (call_of W t e)
  latest-own = rw (eq-eqb t t refl) refl

  pub latest-other : (u : ℕ) → (u ≡ t → ⊥) → latest u (recorded position t W e ∷ past) ≡ latest u past
  latest-other u other = rw (ne_eqb t u (λ is. other (sym is))) refl
