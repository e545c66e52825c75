-- Gos, Backs and stores keep what is named made.
use Rattle.std.proofs.Common.{◌≡◌, ℕ, ℤ, pos, negsuc, int_lt, nat_abs, zero, suc, ◌+◌, ◌<◌, ◌≤◌, ◌==◌, min, Bool, true, false, if◌then◌else◌, List, [], ◌∷◌, slice_index_or, length, refl, sym, ◌∙◌, subst, arith}
use Rattle.std.specs.Prelude.{All, Option, Some, None}
use Rattle.std.proofs.lemmas.List.{length-set, length-replicate, length_push}
use Rattle.std.proofs.lemmas.List.Elements.{All-head, All-tail}
use Rattle.std.proofs.lemmas.Bool.{and_parts, eqb-true, true≢false}
use Rattle.c_model.specs.declared.point.Point.{Point}
use Rattle.c_model.specs.declared.point.Point.TheVariants as point
use Rattle.c_model.specs.declared.point.SyncKind.{SyncKind}
use Rattle.c_model.specs.declared.point.SyncStage.{SyncStage}
use Rattle.c_model.specs.declared.point.SyncStage.TheVariants as stage
use Rattle.c_model.specs.declared.point.Work.{Work}
use Rattle.c_model.specs.declared.point.Work.TheVariants as work
use Rattle.c_model.specs.Begin.{blank_task, explicit_task}
use Rattle.c_model.specs.AfterEvents.{after_event}
use Rattle.c_model.specs.Step.{silent}
use Rattle.c_model.specs.Task.{Moment, Outcome, Task as Code}
use Rattle.c_model.specs.Task.Outcome.{Occurs}
use Rattle.task_pool.specs.Allowed.{is_allowed, last_where, later_of}
use Rattle.task_pool.specs.declared.task.TaskKind.{TaskKind}
use Rattle.task_pool.specs.declared.task.TaskKind.TheVariants as kind
use Rattle.team_parts.specs.declared.meeting.Meeting.{Meeting}
use Rattle.team_parts.specs.Meetings.{TeamMeeting}
use Rattle.team_parts.specs.Team.{TeamView, after_meeting, new_member, with_place}
use Rattle.ompt_calls.specs.declared.snapshot.Target.{Target}
use Rattle.omp_model.specs.declared.limits.TheConstants.{IMPLICIT_REGION, INITIAL_TASK, TEAM_SIZE}
use Rattle.omp_model.specs.declared.event.Event.{Event}
use Rattle.omp_model.specs.declared.event.Event.TheVariants as event
use Rattle.omp_model.specs.declared.event.Halt.{Halt}
use Rattle.omp_model.specs.State.{Run, Thread, World, fresh_region, region_at, task_at, task_with, thread_at, unmade}
use Rattle.omp_model.specs.Members.{current, current_index, current_region, current_team, is_member, is_outermost, member_index, region_of, view_of}
use Rattle.omp_model.specs.Gates.{held_tasks, is_barrier, next_task}
use Rattle.omp_model.specs.Changes.{with_wait_begun, without_code, with_finished_task, member_begun, with_member_meeting, with_barrier_passed, without_current_task, region_made, with_started_task, taken_up, task_made, with_code}
use Rattle.omp_model.specs.EventEffects.{Going, Nothing, Happens, Halts, after_creation, after_fork, after_meeting_at, after_member, after_sync, barrier_met, effect_of, effect_of_point, event_of_point, executes_point, fault_of, fault_of_point, go_of_runtime, going_by, go_of_code, kind_of_task, member_code, past_point, team_size, told, trap_if, unless, work_begin, work_met}
use Rattle.omp_model.specs.Returning.{after_created, at_back}
use Rattle.omp_model.specs.Words.{is_made_thread, stored}
use Rattle.omp_model.specs.MadeWorld.{HasOccurred, IsMadeWorld, IsRegion, IsRegionOf, IsTask, IsTaskOf, IsThread, MadeEvent, MadeMember, MadeRegion}
use Rattle.omp_model.proofs.AlikeWorlds.{alike-stored, made-alike}
use Rattle.omp_model.proofs.Arriving.{AtEnd, Begins, Ready, Reached, Undeferred, ready-within}
use Rattle.omp_model.proofs.Later.{Later, region-later, region-of-later, task-later, task-of-later}
use Rattle.omp_model.proofs.MadeWords.{MadeAfter, after-code, after-detained, after-either, after-finished, after-head, after-opened, after-own, after-popped, after-readied, after-region_made, after-same, after-started, after-store, after-taken_up, after-task, after-task_made, after-team, after-then, last-region}

-- Where a thread comes to.

-- the thread joins the region, with the task that is made next
pub record ComingMember (W : World) (t r k : ℕ) : Type 0 where
  pub region : IsRegionOf W t r
  pub task : k ≡ length W.tasks

-- the thread goes to a task in a region of its own
pub record ComingSwitch (W : World) (t prior k : ℕ) : Type 0 where
  pub before : prior < length W.tasks
  pub task : IsTaskOf W t k

-- what the event beside all code names, to which a thread has come
abbrev pub Coming : World → ℕ → Event → Type 0
Coming W t event.InitialTaskBegin = t ≡ 0
Coming W t (event.MemberBegin r k) = ComingMember W t r k
Coming W t (event.MemberEnd r k) = MadeMember W r k
Coming W t (event.TaskBegin prior task) = ComingSwitch W t prior task
Coming W t (event.TaskEnd task) = IsTask W task
Coming W t (event.ParallelBegin r requested codeptr) = ⊥
Coming W t (event.ParallelEnd r codeptr) = ⊥
Coming W t (event.TaskCreate task undeferred codeptr) = ⊥
Coming W t other = Unit {0}

-- what is so of the one that is found, if one is
abbrev pub Found : (ℕ → Type 0) → Option ℕ → Type 0
Found P None = Unit {0}
Found P (Some k) = P k

found-later : (P : ℕ → Type 0) (earlier later : Option ℕ) → Found P earlier → Found P later → Found P (later_of earlier later)
found-later P earlier None first next = first
found-later P earlier (Some later) first next = next

found-if : (P : ℕ → Type 0) (k : ℕ) (b : Bool) → (b ≡ true → P k) → Found P (if b then Some k else None)
found-if P k true holds = holds refl
found-if P k false holds = tt

pub found-last : (P Q : ℕ → Type 0) (test : ℕ → Bool) (ks : List ℕ) → All P ks → ((k : ℕ) → P k → test k ≡ true → Q k) → Found Q (last_where test ks)
unfolding last_where
found-last P Q test [] all holds = tt
found-last P Q test (k ∷ rest) all holds =
    found-later Q (if test k then Some k else None) (last_where test rest) (found-if Q k (test k) (holds k (All-head P k rest all))) (found-last P Q test rest (All-tail P k rest all) holds)

-- the first of a list, where it isn't the default
pub first-of : (P : ℕ → Type 0) (ks : List ℕ) → All P ks → 1 ≤ slice_index_or ks 0 0 → P (slice_index_or ks 0 0)
first-of P [] all some = absurd (omega arith)
first-of P (k ∷ rest) all some = All-head P k rest all

first-below : (W : World) (t : ℕ) (ks : List ℕ) → IsMadeWorld W → All (IsTaskOf W t) ks → slice_index_or ks 0 0 < length W.tasks
first-below W t [] made all = omega (arith, made.initial.below)
first-below W t (k ∷ rest) made all = (All-head (IsTaskOf W t) k rest all).made.below

module _ (W : World) (t : ℕ) (made : IsMadeWorld W) where
  pub current-made : 1 ≤ current W t → IsTaskOf W t (current W t)
  current-made some = first-of (IsTaskOf W t) (thread_at W t).stack (made.threads t).stacked some

  pub current-below : current W t < length W.tasks
  current-below = first-below W t (thread_at W t).stack made (made.threads t).stacked

  -- a ready task of the thread's region
  allowed : IsTaskOf W t (current W t) → (k : ℕ) → IsTask W k → is_allowed W.pool.tasks (current_region W t) (held_tasks W t) k ≡ true → IsTaskOf W t k
  allowed one k there allows =
      let same : region_of W k ≡ current_region W t = eqb-true (region_of W k) (current_region W t) (and_parts (region_of W k == current_region W t) _ allows).0 in
      record { made = there; within = subst (IsRegionOf W t) (sym same) one.within }

  next-task : IsTaskOf W t (current W t) → (k : ℕ) → next_task W t ≡ Some k → IsTaskOf W t k
  next-task one k is =
      subst (Found (IsTaskOf W t)) is
      (found-last (IsTask W) (IsTaskOf W t) (is_allowed W.pool.tasks (current_region W t) (held_tasks W t)) W.pool.ready made.ready (allowed one))

  begins : (k : ℕ) → Begins W t k → IsTaskOf W t k
  begins k (Undeferred uninvited is some) = subst (IsTaskOf W t) (sym is) ((made.threads t).starts (rw (← is) some))
  begins k (Ready may is) = next-task (current-made (ready-within W t may).some) k is

  ending : (k : ℕ) → AtEnd W t k → IsTaskOf W t k
  ending k at = subst (IsTaskOf W t) (sym at.task) (current-made (rw (← at.task) at.some))

  pub coming : (e : Event) → Reached W t e → Coming W t e
  coming event.InitialTaskBegin at = at.thread
  coming (event.MemberBegin r k) at = record { region = subst (IsRegionOf W t) (sym at.region) ((made.threads t).joins (rw (← at.region) at.some)); task = at.task }
  coming (event.MemberEnd r k) at = let one = ending k at.end in record { region = subst (IsRegion W) (sym at.region) one.within.made; task = one.made }
  coming (event.TaskBegin prior task) at = record { before = rw at.before current-below; task = begins task at.task }
  coming (event.TaskEnd task) at = (ending task at.end).made
  coming (event.ParallelBegin r requested codeptr) at = absurd at
  coming (event.ParallelEnd r codeptr) at = absurd at
  coming (event.TaskCreate task undeferred codeptr) at = absurd at
  coming other at = tt

-- What events name.

-- it was made in later worlds too
pub event-later : (W after : World) (t : ℕ) (e : Event) → IsMadeWorld W → Later W after → MadeEvent W t e → MadeEvent after t e
event-later W after t (event.ParallelBegin r requested codeptr) made later one = record { made = region-later W after made later r one.made; forked = one.forked }
event-later W after t (event.ParallelEnd r codeptr) made later one = omega (arith, later.regions)
event-later W after t (event.MemberBegin r k) made later one = record { region = region-later W after made later r one.region; task = task-later W after made later k one.task }
event-later W after t (event.MemberEnd r k) made later one = record { region = region-later W after made later r one.region; task = task-later W after made later k one.task }
event-later W after t (event.TaskCreate task undeferred codeptr) made later one = task-of-later W after made later t task one
event-later W after t (event.TaskBegin prior task) made later one = record { before = omega (arith, one.before, later.tasks); task = task-later W after made later task one.task }
event-later W after t (event.TaskEnd task) made later one = task-later W after made later task one
event-later W after t other made later one = tt

pub occurred-later : (W after : World) (t : ℕ) (e : Event) → IsMadeWorld W → Later W after → HasOccurred W t e → HasOccurred after t e
occurred-later W after t e made later one = record { thread = later.stages t one.thread; named = event-later W after t e made later one.named }

-- an event has occurred, and all that is named was made
pub record MadeGo (W after : World) (t : ℕ) (e : Event) : Type 0 where
  pub whole : MadeAfter W after
  pub occurred : HasOccurred after t e

-- The Go of an event beside all code.

-- thread 0 has number 0 in every team
zero-member : (W : World) (r : ℕ) → IsMadeWorld W → IsRegion W r → IsRegionOf W 0 r
zero-member W r made one =
    let region = made.regions r one in
    let number : member_index W 0 r ≡ 0 = elim (is_outermost W r) as (λ (b : Bool). (if◌then◌else◌ {A = ℕ} b 0 0) ≡ 0) [ true ↦ refl | false ↦ refl ] in
    record { made = one; member = rw (number, region.team) region.some }

after-initial : (W : World) (t : ℕ) → IsMadeWorld W → t ≡ 0 → MadeAfter W (effect_of W t event.InitialTaskBegin)
unfolding effect_of
after-initial W t made is =
    let one : IsTaskOf W t INITIAL_TASK = record { made = made.initial; within = subst (λ u. IsRegionOf W u (region_of W INITIAL_TASK)) (sym is) (zero-member W (region_of W INITIAL_TASK) made (made.placed INITIAL_TASK made.initial)) } in
    let W1 = taken_up W t INITIAL_TASK in
    let W2 = with_started_task W1 INITIAL_TASK in
    let up = after-taken_up W t INITIAL_TASK made one in
    let on = after-then W W1 W2 made up (after-started W1 INITIAL_TASK up.world) in
    after-then W W2 (effect_of W t event.InitialTaskBegin) made on (after-head W2 IMPLICIT_REGION _ on.world refl refl)

-- the task that a member begins with
member-task : (W : World) (t parent r k : ℕ) (which : TaskKind) (code : Code) → IsMadeWorld W → IsRegionOf W t r → k ≡ length W.tasks → IsTaskOf (task_made W parent r which code) t k
member-task W t parent r k which code made one is =
    let after = task_made W parent r which code in
    let created = after-task_made W parent r which code made one.made in
    record {
      made = record { some = omega (arith, is, made.initial.below); below = omega (arith, is, length_push W.tasks (task_with code)) };
      within = subst (IsRegionOf after t) (sym (last-region W parent r which code k made is)) (region-of-later W after made created.later t r one);
    }

-- it starts on the thread, and the region has it
after-joined : (W : World) (t r i k : ℕ) → IsMadeWorld W → IsTaskOf W t k → MadeAfter W (member_begun (taken_up (with_started_task W k) t k) r i k)
after-joined W t r i k made one =
    let W2 = with_started_task W k in
    let W3 = taken_up W2 t k in
    let on = after-started W k made in
    let up = after-then W W2 W3 made on (after-taken_up W2 t k on.world (task-of-later W W2 made on.later t k one)) in
    after-then W W3 (member_begun W3 r i k) made up (after-head W3 r _ up.world refl refl)

go-member : (W : World) (t r k : ℕ) → IsMadeWorld W → IsThread W t → ComingMember W t r k → MadeGo W (after_member W t r k) t (event.MemberBegin r k)
go-member W t r k made there comes =
    let parent = (region_at W r).head.task in
    let code = member_code (task_at W parent).code in
    let W1 = task_made W parent r kind.Implicit code in
    let after = after_member W t r k in
    let created = after-task_made W parent r kind.Implicit code made comes.region.made in
    let one = member-task W t parent r k kind.Implicit code made comes.region comes.task in
    let joined = after-joined W1 t r (member_index W t r) k created.world one in
    let whole = after-then W W1 after made created joined in
    record {
      whole = whole;
      occurred = record {
        thread = whole.later.stages t there;
        named = record { region = region-later W after made whole.later r comes.region.made; task = task-later W1 after created.world joined.later k one.made };
      };
    }

-- a Go that makes nothing
go-named : (W after : World) (t : ℕ) (e : Event) → IsMadeWorld W → IsThread W t → MadeAfter W after → MadeEvent W t e → MadeGo W after t e
go-named W after t e made there whole named =
    record { whole = whole; occurred = record { thread = whole.later.stages t there; named = event-later W after t e made whole.later named } }

after-popped-then : (W after : World) (t : ℕ) → IsMadeWorld W → (IsMadeWorld (without_current_task W t) → MadeAfter (without_current_task W t) after) → MadeAfter W after
after-popped-then W after t made more = let off = after-popped W t made in after-then W (without_current_task W t) after made off (more off.world)

go-beside : (W : World) (t : ℕ) (e : Event) → IsMadeWorld W → IsThread W t → Coming W t e → MadeGo W (effect_of W t e) t e
unfolding effect_of
go-beside W t event.ThreadBegin made there comes = go-named W _ t event.ThreadBegin made there (after-own W t _ made refl refl refl (λ is. refl)) tt
go-beside W t event.InitialTaskBegin made there comes = go-named W _ t event.InitialTaskBegin made there (after-initial W t made comes) tt
go-beside W t event.InitialTaskEnd made there comes =
    go-named W _ t event.InitialTaskEnd made there (after-popped-then W (with_finished_task (without_current_task W t) INITIAL_TASK) t made (after-finished (without_current_task W t) INITIAL_TASK)) tt
go-beside W t (event.MemberBegin r k) made there comes = go-member W t r k made there comes
go-beside W t (event.MemberEnd r k) made there comes =
    let W2 = with_finished_task (without_current_task W t) k in
    go-named W _ t (event.MemberEnd r k) made there
    (after-popped-then W (without_code W2 k) t made (λ off. let over = after-finished (without_current_task W t) k off in after-then (without_current_task W t) W2 (without_code W2 k) off over (after-code W2 k blank_task over.world))) comes
go-beside W t (event.TaskBegin prior task) made there comes =
    let up = after-taken_up W t task made comes.task in
    go-named W _ t (event.TaskBegin prior task) made there
    (after-then W (taken_up W t task) (with_started_task (taken_up W t task) task) made up (after-started (taken_up W t task) task up.world)) (record { before = comes.before; task = comes.task.made })
go-beside W t (event.TaskEnd task) made there comes =
    go-named W _ t (event.TaskEnd task) made there (after-popped-then W (without_code (without_current_task W t) task) t made (after-code (without_current_task W t) task blank_task)) comes
go-beside W t (event.Dispatch share) made there comes = go-named W _ t (event.Dispatch share) made there (after-own W t _ made refl refl refl (λ is. is)) tt
go-beside W t (event.ParallelBegin r requested codeptr) made there comes = absurd comes
go-beside W t (event.ParallelEnd r codeptr) made there comes = absurd comes
go-beside W t (event.TaskCreate task undeferred codeptr) made there comes = absurd comes
go-beside W t other made there comes = record { whole = after-same W made; occurred = record { thread = there; named = tt } }

-- The Go of an event of the code.

-- a thread that was made is one of those that there are
some-thread : (threads : List Thread) (t : ℕ) → is_made_thread (slice_index_or threads t unmade).stage ≡ true → 1 ≤ length threads
some-thread [] t there = absurd (true≢false (sym there))
some-thread (thread ∷ threads) t there = omega arith

-- a region has members: what is asked for is at least 1
asked-some : (requested : ℤ) → trap_if (int_lt requested (pos 1)) TEAM_SIZE ≡ None → 1 ≤ nat_abs requested
asked-some (pos zero) fine = cc
asked-some (pos (suc n)) fine = omega arith
asked-some (negsuc n) fine = omega arith

size-some : (outermost : Bool) (requested threads : ℕ) → 1 ≤ requested → 1 ≤ threads → 1 ≤ (if outermost then min requested threads else 1)
size-some true requested threads some there = omega arith
size-some false requested threads some there = omega arith

size-fits : (outermost : Bool) (requested threads : ℕ) → 1 ≤ threads → (if outermost then min requested threads else 1) ≤ threads
size-fits true requested threads there = omega arith
size-fits false requested threads there = omega arith

go-fork : (W : World) (t requested : ℕ) (codeptr : ℕ) → IsMadeWorld W → IsThread W t → IsTask W (current W t) → 1 ≤ requested → MadeGo W (after_fork W t requested) t (event.ParallelBegin (length W.regions) requested codeptr)
go-fork W t requested codeptr made there one some =
    let size = team_size W t requested in
    let region = fresh_region (current W t) size in
    let threads = some-thread W.threads t there in
    let fresh : MadeRegion (length W.tasks) (length W.threads) region = record {
      task = one.below;
      team = length-replicate size new_member;
      some = size-some (current_region W t == IMPLICIT_REGION) requested (length W.threads) some threads;
      fits = size-fits (current_region W t == IMPLICIT_REGION) requested (length W.threads) threads;
    } in
    let W1 = region_made W region in
    let grows : length W1.regions ≡ length W.regions + 1 = length_push W.regions region in
    let opened = after-region_made W region made fresh one.some in
    let forked : MadeAfter W1 (after_fork W t requested) = after-task W1 (current W t) (record (task_at W (current W t)) { forked = length W.regions }) opened.world (omega (arith, grows)) in
    let whole = after-then W W1 (after_fork W t requested) made opened forked in
    record { whole = whole; occurred = record { thread = whole.later.stages t there; named = record { made = record { some = omega (arith, made.implicit.below); below = omega (arith, grows) }; forked = omega (arith, made.implicit.below) } } }

go-creation : (run : Run) (W : World) (t codeptr : ℕ) (now : Moment) (undeferred : Bool) → IsMadeWorld W → IsThread W t → IsTaskOf W t (current W t) → MadeGo W (after_creation run W t now undeferred) t (event.TaskCreate (length W.tasks) undeferred codeptr)
go-creation run W t codeptr now undeferred made there one =
    let new = explicit_task run.program (view_of W t) now in
    let r = current_region W t in
    let which = kind_of_task undeferred in
    let W1 = task_made W (current W t) r which new.task in
    let after = after_creation run W t now undeferred in
    let created = after-task_made W (current W t) r which new.task made one.within.made in
    let stored = after-store W1 new.store W1.locks created.world in
    let whole = after-then W W1 after made created stored in
    let task = member-task W t (current W t) r (length W.tasks) which new.task made one.within refl in
    record { whole = whole; occurred = record { thread = whole.later.stages t there; named = task-of-later W1 after created.world stored.later t (length W.tasks) task } }

-- what a member meets leaves as many members
placed-members : (team : TeamView) (place : Option TeamMeeting) (what : Meeting) → length (with_place team place what).members ≡ length team.members
placed-members team None what = refl
placed-members team (Some met) what = refl

met-members : (team : TeamView) (i : ℕ) (what : Meeting) → length (after_meeting team i what).members ≡ length team.members
met-members team i what = length-set _ _ _ ∙ placed-members team _ what

after-met : (W : World) (t : ℕ) (what : Meeting) → IsMadeWorld W → MadeAfter W (after_meeting_at W t what)
after-met W t what made =
    after-either W (with_member_meeting W (current_region W t) (current_index W t) what) W (is_member W t)
    (after-team W (current_region W t) _ made (met-members (current_team W t) (current_index W t) what)) (after-same W made)

after-synced : (W : World) (t codeptr : ℕ) (which : SyncKind) (at : SyncStage) → IsMadeWorld W → MadeAfter W (after_sync W t codeptr which at)
after-synced W t codeptr which stage.RegionBegin made =
    after-either W (after_meeting_at W t (barrier_met codeptr which)) W (is_barrier which) (after-met W t (barrier_met codeptr which) made) (after-same W made)
after-synced W t codeptr which stage.WaitEnd made =
    after-either W (with_barrier_passed W (current_region W t) (current_index W t)) W (is_barrier which)
    (after-team W (current_region W t) _ made (length-set _ _ _)) (after-same W made)
after-synced W t codeptr which other made = after-same W made

work-named : (W V : World) (t codeptr : ℕ) (what : Work) → MadeEvent V t (work_begin W t codeptr what)
work-named W V t codeptr (work.Loop start count step how) = tt
work-named W V t codeptr (work.Sections count) = tt
work-named W V t codeptr work.Single = tt

go-effect : (run : Run) (W : World) (t : ℕ) (now : Moment) (what : Point) → IsMadeWorld W → IsThread W t → IsTaskOf W t (current W t) → fault_of_point W t now.task what ≡ None → MadeGo W (effect_of_point run W t now what) t (event_of_point W t what)
unfolding effect_of_point fault_of_point
go-effect run W t now (point.ParallelBegin codeptr requested) made there one fine = go-fork W t (nat_abs requested) codeptr made there one.made (asked-some requested fine)
go-effect run W t now (point.ParallelEnd codeptr) made there one fine =
    let r = (task_at W (current W t)).forked in
    go-named W _ t (event.ParallelEnd r codeptr) made there (after-head W r _ made refl refl) (made.forked (current W t))
go-effect run W t now (point.TaskCreate codeptr undeferred) made there one fine = go-creation run W t codeptr now undeferred made there one
go-effect run W t now (point.WorkBegin codeptr what) made there one fine =
    go-named W _ t (work_begin W t codeptr what) made there (after-met W t (work_met codeptr what) made) (work-named W W t codeptr what)
go-effect run W t now (point.Sync codeptr which at) made there one fine = go-named W _ t (event.Sync which at codeptr) made there (after-synced W t codeptr which at made) tt
go-effect run W t now (point.MutexAcquired codeptr id which) made there one fine = go-named W _ t (event.MutexAcquired which id codeptr) made there (after-store W W.store _ made) tt
go-effect run W t now (point.MutexReleased codeptr id which) made there one fine = go-named W _ t (event.MutexReleased which id codeptr) made there (after-store W W.store _ made) tt
go-effect run W t now (point.LockInit codeptr id) made there one fine = go-named W _ t (event.LockInit id codeptr) made there (after-store W W.store _ made) tt
go-effect run W t now (point.LockDestroy codeptr id) made there one fine = go-named W _ t (event.LockDestroy id codeptr) made there (after-store W W.store _ made) tt
go-effect run W t now other made there one fine = record { whole = after-same W made; occurred = record { thread = there; named = tt } }

-- the code goes past the event
go-past : (W between : World) (t k : ℕ) (code : Code) (e : Event) → IsMadeWorld W → MadeGo W between t e → MadeGo W (with_code between k code) t e
go-past W between t k code e made go =
    let past = after-code between k code go.whole.world in
    record { whole = after-then W between (with_code between k code) made go.whole past; occurred = occurred-later between (with_code between k code) t e go.whole.world past.later go.occurred }

abbrev pub MadeGoing : World → ℕ → Going → Type 0
MadeGoing W t Nothing = Unit {0}
MadeGoing W t (Halts halt) = Unit {0}
MadeGoing W t (Happens e after) = MadeGo W after t e

going-unless : (W after : World) (t : ℕ) (halt : Option Halt) (e : Event) → (halt ≡ None → MadeGo W after t e) → MadeGoing W t (unless halt e after)
going-unless W after t (Some halt) e go = tt
going-unless W after t None e go = go refl

going-outcome : (run : Run) (W : World) (t : ℕ) (now : Moment) (outcome : Outcome) → IsMadeWorld W → IsThread W t → IsTaskOf W t (current W t) → MadeGoing W t (going_by run W t now outcome)
going-outcome run W t now (Occurs what tree) made there one =
    let between = effect_of_point run W t now what in
    going-unless W (past_point W between t now what) t (fault_of_point W t now.task what) (event_of_point W t what)
    (λ fine. go-past W between t (current between t) (after_event (view_of W t) what (executes_point W t what) now.task) (event_of_point W t what) made (go-effect run W t now what made there one fine))
going-outcome run W t now other made there one = tt

pub in_code-made : (run : Run) (W : World) (t : ℕ) → IsMadeWorld W → IsThread W t → IsTaskOf W t (current W t) → MadeGoing W t (go_of_code run W t)
unfolding go_of_code
in_code-made run W t made there one = going-outcome run W t (told W t) (silent run.program (view_of W t) (told W t)) made there one

pub beside-made : (W : World) (t : ℕ) (e : Event) → IsMadeWorld W → IsThread W t → Coming W t e → MadeGoing W t (go_of_runtime W t e)
beside-made W t e made there comes = going-unless W (effect_of W t e) t (fault_of W t e) e (λ fine. go-beside W t e made there comes)

-- What takes hold at a Back.

after-created : (W : World) (t task : ℕ) (undeferred : Bool) → IsMadeWorld W → IsTaskOf W t task → MadeAfter W (after_created W t task undeferred)
after-created W t task true made one = after-detained W t task made one
after-created W t task false made one = after-readied W task made one.made

pub back-made : (W : World) (t : ℕ) (e : Event) → IsMadeWorld W → MadeEvent W t e → MadeAfter W (at_back W t e)
unfolding at_back
back-made W t event.ThreadEnd made named = after-own W t _ made refl refl refl (λ there. refl)
back-made W t (event.ParallelBegin r requested codeptr) made named = after-opened W t r made named
back-made W t (event.ParallelEnd r codeptr) made named = after-task W (current W t) _ made (omega (arith, made.implicit.below))
back-made W t (event.MemberEnd r k) made named = after-head W r _ made refl refl
back-made W t (event.TaskCreate task undeferred codeptr) made named = after-created W t task undeferred made named
back-made W t (event.TaskEnd task) made named = after-finished W task made
back-made W t (event.Sync which stage.WaitBegin codeptr) made named =
    after-either W (with_wait_begun W (current_region W t) (current_index W t)) W (is_barrier which) (after-team W (current_region W t) _ made (length-set _ _ _)) (after-same W made)
back-made W t other made named = after-same W made

-- What a tool stores.
pub stored-made : (W : World) (place : Target) (word : ℕ) → IsMadeWorld W → MadeAfter W (stored W place word)
stored-made W place word made = made-alike W (stored W place word) (alike-stored W place word) made
