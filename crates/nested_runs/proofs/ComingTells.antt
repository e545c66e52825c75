-- What an event of the code tells that occurs: its gate was open, and none of its traps was met.
use Rattle.std.proofs.Common.{◌≡◌, ℕ, ℤ, pos, negsuc, int_lt, nat_abs, zero, suc, ◌≤◌, ◌==◌, not, Bool, true, false, if◌then◌else◌, List, [], ◌∷◌, refl, ap, subst, arith}
use Rattle.std.specs.Prelude.{Option, Some, None, Result, Ok, Err}
use Rattle.std.proofs.lemmas.Bool.{eqb-true}
use Rattle.c_syntax.specs.language.Numbered.{TreeView}
use Rattle.c_syntax.specs.language.Tree.{Tree}
use Rattle.c_model.specs.declared.point.MutexKind.{MutexKind}
use Rattle.c_model.specs.declared.point.MutexKind.TheVariants as mutex
use Rattle.c_model.specs.declared.point.Point.{Point}
use Rattle.c_model.specs.declared.point.Point.TheVariants as point
use Rattle.c_model.specs.declared.point.SyncKind.{SyncKind}
use Rattle.c_model.specs.declared.point.SyncStage.{SyncStage}
use Rattle.c_model.specs.declared.point.SyncStage.TheVariants as stage
use Rattle.c_model.specs.declared.point.Work.{Work}
use Rattle.c_model.specs.declared.point.Work.TheVariants as work
use Rattle.c_model.specs.declared.question.Answer.TheVariants as answer
use Rattle.c_model.specs.declared.view.View.{View}
use Rattle.c_model.specs.AfterEvents.{answered_at}
use Rattle.c_model.specs.Occurring.{IsFirstStage, IsOfItem}
use Rattle.c_model.specs.Program.{place_of}
use Rattle.c_model.specs.Step.{items_from_next, settled_moment, silent, step_at}
use Rattle.c_model.specs.Task.{Item, Moment, Task as Code}
use Rattle.c_model.specs.Task.Item.{Acquire, Forked, Start, Sync, Tested, TestLock}
use Rattle.c_model.specs.Task.Outcome.{Occurs}
use Rattle.c_model.specs.Upcoming.{upcoming_among, upcoming_of}
use Rattle.c_model.proofs.Occurring.{event_is_of_item}
use Rattle.c_model.proofs.Settled.{next_once}
use Rattle.c_brackets.proofs.TurningTasks.{here_at}
use Rattle.sync_objects.specs.declared.lock.Lock.{Lock}
use Rattle.sync_objects.specs.declared.lock_fault.LockFault.{LockFault}
use Rattle.sync_objects.specs.declared.lock_fault.LockFault.TheVariants as fault
use Rattle.sync_objects.specs.Answers.{destroy_of, destroy_owned, give_of, init_of, may_take_of, owns}
use Rattle.sync_objects.specs.Owners.{look_up}
use Rattle.team_parts.specs.declared.meeting.Meeting.{Meeting}
use Rattle.omp_model.specs.declared.limits.TheConstants.{NESTING, TEAM_SIZE}
use Rattle.omp_model.specs.declared.event.Arrival.TheVariants as arrival
use Rattle.omp_model.specs.declared.event.Halt.{Halt}
use Rattle.omp_model.specs.declared.event.Halt.TheVariants.{Trap}
use Rattle.omp_model.specs.State.{World, task_at}
use Rattle.omp_model.specs.Members.{code_of, current, is_explicit_task, moment_of, view_of}
use Rattle.omp_model.specs.Gates.{all_left, arrival_at_sync, arrival_in, comes_if, is_barrier, is_owned, is_owned_by, is_owned_lock, may_end, next_task, starts_if}
use Rattle.omp_model.specs.EventEffects.{barrier_met, event_of_point, fault_of_meeting, fault_of_point, lock_fault, meeting_at, meeting_fault, sync_fault, told, trap_if, work_met}
use Rattle.c_model.specs.Upcoming.{is_in_exclusive}
use Rattle.nested_runs.proofs.Coming.{HasLock, IsPlain, SyncsAt, Tells}

-- The gate of an event.
abbrev SyncGate : World → ℕ → SyncKind → SyncStage → Type 0
SyncGate W t which stage.WaitEnd = may_end W t which ≡ true
SyncGate W t which other = Unit {0}

abbrev pub Gate : World → ℕ → Point → Type 0
Gate W t (point.ParallelEnd codeptr) = all_left W (task_at W (current W t)).forked ≡ true
Gate W t (point.Sync codeptr which at) = SyncGate W t which at
Gate W t (point.MutexAcquired codeptr id which) = is_owned W id ≡ false
Gate W t other = Unit {0}

-- what stands next when the thread has been told that a lock is free
abbrev told_items : List Item → List Item
told_items (TestLock call id to ∷ items) = Acquire call mutex.TestLock id ∷ Tested to ∷ items
told_items other = other

told-next : (view : View) (items : List Item) (now : Moment) → now.task.todo ≡ items → items_from_next view items ≡ items
    → items_from_next view (answered_at items (answer.Free true) now).task.todo ≡ told_items items
unfolding items_from_next
told-next view [] now same once = ap (items_from_next view) same
told-next view (TestLock call id to ∷ items) now same once = refl
told-next view (item ∷ items) now same once = once

told-first : (program : TreeView) (W : World) (t : ℕ) (what : Point) (tree : Tree) → silent program (view_of W t) (told W t) ≡ Occurs what tree
    → step_at (told_items (items_from_next (view_of W t) (code_of W t).todo)) program (view_of W t) (told W t) ≡ Occurs what tree
unfolding silent
told-first program W t what tree is =
    let items = items_from_next (view_of W t) (code_of W t).todo in
    subst (λ (items : List Item). step_at items program (view_of W t) (told W t) ≡ Occurs what tree)
    (told-next (view_of W t) items (settled_moment (view_of W t) (moment_of W t)) refl (next_once (view_of W t) (code_of W t).todo)) is

-- items whose event needs no more than itself
abbrev is_gated : Item → Bool
is_gated (Forked construct) = true
is_gated (Sync tree kind at) = true
is_gated (Acquire tree kind id) = true
is_gated (TestLock tree id to) = true
is_gated other = false

form-ended : (codeptr : ℕ) (item : Item) → IsOfItem (point.ParallelEnd codeptr) item → is_gated item ≡ false → ⊥
unfolding IsOfItem
form-ended codeptr (Forked construct) is none = cc
form-ended codeptr item is none = is

form-acquired : (codeptr id : ℕ) (which : MutexKind) (item : Item) → IsOfItem (point.MutexAcquired codeptr id which) item → is_gated item ≡ false → ⊥
unfolding IsOfItem
form-acquired codeptr id which (Acquire tree kind of) is none = cc
form-acquired codeptr id which item is none = is

first-gate : (W : World) (t : ℕ) (which : SyncKind) (at : SyncStage) → IsFirstStage at → SyncGate W t which at
unfolding IsFirstStage
first-gate W t which stage.WaitEnd is = absurd is
first-gate W t which other is = tt

form-sync : (W : World) (t codeptr : ℕ) (which : SyncKind) (at : SyncStage) (item : Item) → IsOfItem (point.Sync codeptr which at) item → is_gated item ≡ false
    → SyncGate W t which at
unfolding IsOfItem
form-sync W t codeptr which at (Start tree) is none = first-gate W t which at is
form-sync W t codeptr which at (Sync tree kind now) is none = absurd (cc)
form-sync W t codeptr which at item is none = absurd is

form-gate : (W : World) (t : ℕ) (what : Point) (item : Item) → IsOfItem what item → is_gated item ≡ false → Gate W t what
form-gate W t (point.ParallelEnd codeptr) item is none = absurd (form-ended codeptr item is none)
form-gate W t (point.Sync codeptr which at) item is none = form-sync W t codeptr which at item is none
form-gate W t (point.MutexAcquired codeptr id which) item is none = absurd (form-acquired codeptr id which item is none)
form-gate W t other item is none = tt

came : (b : Bool) → comes_if b ≡ arrival.CodeEvent → b ≡ true
came true is = refl
came false is = absurd (cc)

came-free : (b : Bool) → comes_if (not b) ≡ arrival.CodeEvent → b ≡ false
came-free true is = absurd (cc)
came-free false is = refl

came-tested : (b : Bool) → (if b then arrival.Steps else arrival.CodeEvent) ≡ arrival.CodeEvent → b ≡ false
came-tested true is = absurd (cc)
came-tested false is = refl

started-none : (W : World) (t : ℕ) (next : Option ℕ) → starts_if W t next ≡ arrival.CodeEvent → ⊥
started-none W t None is = cc
started-none W t (Some task) is = cc

came-waiting : (W : World) (t : ℕ) (b : Bool) → (if b then arrival.CodeEvent else starts_if W t (next_task W t)) ≡ arrival.CodeEvent → b ≡ true
came-waiting W t true is = refl
came-waiting W t false is = absurd (started-none W t (next_task W t) is)

sync-gate : (W : World) (t : ℕ) (which : SyncKind) (at : SyncStage) → arrival_at_sync W t which at ≡ arrival.CodeEvent → SyncGate W t which at
sync-gate W t which stage.WaitEnd is = came-waiting W t (may_end W t which) is
sync-gate W t which other is = tt

gate-at : (program : TreeView) (view : View) (now : Moment) (W : World) (t : ℕ) (what : Point) (tree : Tree) (items : List Item)
    → arrival_in W t (current W t) (upcoming_among items) ≡ arrival.CodeEvent → step_at (told_items items) program view now ≡ Occurs what tree → Gate W t what
gate-at program view now W t what tree [] comes is = absurd (cc)
gate-at program view now W t what tree (Forked construct ∷ items) comes is =
    let same : point.ParallelEnd (place_of construct) ≡ what = cc in
    subst (λ (what : Point). Gate W t what) same (came (all_left W (task_at W (current W t)).forked) comes)
gate-at program view now W t what tree (Sync at-tree kind at ∷ items) comes is =
    let same : point.Sync (place_of at-tree) kind at ≡ what = cc in
    subst (λ (what : Point). Gate W t what) same (sync-gate W t kind at comes)
gate-at program view now W t what tree (Acquire at-tree kind id ∷ items) comes is =
    let same : point.MutexAcquired (place_of at-tree) id kind ≡ what = cc in
    subst (λ (what : Point). Gate W t what) same (came-free (is_owned W id) comes)
gate-at program view now W t what tree (TestLock call id to ∷ items) comes is =
    let same : point.MutexAcquired (place_of call) id mutex.TestLock ≡ what = cc in
    subst (λ (what : Point). Gate W t what) same (came-tested (is_owned W id) comes)
gate-at program view now W t what tree (item ∷ items) comes is =
    form-gate W t what item (event_is_of_item item (here_at program view now items) what tree is) refl

pub gate : (program : TreeView) (W : World) (t : ℕ) (what : Point) (tree : Tree)
    → arrival_in W t (current W t) (upcoming_of (view_of W t) (code_of W t)) ≡ arrival.CodeEvent
    → silent program (view_of W t) (told W t) ≡ Occurs what tree → Gate W t what
gate program W t what tree comes is =
    gate-at program (view_of W t) (told W t) W t what tree (items_from_next (view_of W t) (code_of W t).todo) comes (told-first program W t what tree is)

-- No trap was met.
asked-some : (requested : ℤ) → trap_if (int_lt requested (pos 1)) TEAM_SIZE ≡ None → 1 ≤ nat_abs requested
asked-some (pos zero) fine = cc
asked-some (pos (suc n)) fine = omega arith
asked-some (negsuc n) fine = omega arith

plain-if : (explicit : Bool) (other : Option Halt) → (if explicit then Some (Trap NESTING) else other) ≡ None → explicit ≡ false
plain-if true other fine = absurd (cc)
plain-if false other fine = refl

meets-plain : (W : World) (t : ℕ) (code : Code) (what : Meeting) → meeting_fault W t code what ≡ None → IsPlain W t
meets-plain W t code what fine = plain-if (is_explicit_task W (current W t)) (fault_of_meeting (is_in_exclusive code) (meeting_at W t what)) fine

barrier-plain : (W : World) (t : ℕ) (code : Code) (what : Meeting) (barrier : Bool) → (if barrier then meeting_fault W t code what else None) ≡ None
    → barrier ≡ true → IsPlain W t
barrier-plain W t code what true fine is = meets-plain W t code what fine
barrier-plain W t code what false fine is = absurd (cc)

syncs : (W : World) (t : ℕ) (code : Code) (codeptr : ℕ) (which : SyncKind) (at : SyncStage) → sync_fault W t code codeptr which at ≡ None
    → SyncGate W t which at → SyncsAt W t which at
syncs W t code codeptr which stage.RegionBegin fine open-gate = λ barrier. barrier-plain W t code (barrier_met codeptr which) (is_barrier which) fine barrier
syncs W t code codeptr which stage.WaitEnd fine open-gate = open-gate
syncs W t code codeptr which stage.WaitBegin fine open-gate = tt
syncs W t code codeptr which stage.RegionEnd fine open-gate = tt

-- locks
unowned : (owner : Option ℕ) → is_owned_by owner ≡ false → owner ≡ None
unowned None is = refl
unowned (Some owner) is = absurd (cc)

has-free : (W : World) (id : ℕ) (found : Option Lock) → look_up W.locks.locks id ≡ found → lock_fault (may_take_of found) ≡ None → is_owned_lock found ≡ false
    → HasLock W id None
has-free W id None is fine free = absurd (cc)
has-free W id (Some lock) is fine free = record { lock = lock; found = is; owner_is = unowned lock.owner free }

abbrev given_back : Bool → Result (Unit {0}) LockFault
given_back owner = if owner then Ok tt else Err fault.NotOwner

same-owner : (task owner : ℕ) (is : Bool) → (owner == task) ≡ is → lock_fault (given_back is) ≡ None → Some owner ≡ Some task
same-owner task owner true is fine = ap Some (eqb-true owner task is)
same-owner task owner false is fine = absurd (cc)

owned-by : (task : ℕ) (owner : Option ℕ) → lock_fault (given_back (owns task owner)) ≡ None → owner ≡ Some task
owned-by task None fine = absurd (cc)
owned-by task (Some owner) fine = same-owner task owner (owner == task) refl fine

has-owner : (W : World) (id task : ℕ) (found : Option Lock) → look_up W.locks.locks id ≡ found → lock_fault (give_of task found) ≡ None
    → HasLock W id (Some task)
has-owner W id task None is fine = absurd (cc)
has-owner W id task (Some lock) is fine = record { lock = lock; found = is; owner_is = owned-by task lock.owner fine }

destroyed-free : (owner : Option ℕ) → lock_fault (destroy_owned owner) ≡ None → owner ≡ None
destroyed-free None fine = refl
destroyed-free (Some owner) fine = absurd (cc)

has-none : (W : World) (id : ℕ) (found : Option Lock) → look_up W.locks.locks id ≡ found → lock_fault (destroy_of found) ≡ None → HasLock W id None
has-none W id None is fine = absurd (cc)
has-none W id (Some lock) is fine = record { lock = lock; found = is; owner_is = destroyed-free lock.owner fine }

made-none : (W : World) (id : ℕ) (found : Option Lock) → look_up W.locks.locks id ≡ found → lock_fault (init_of found) ≡ None → look_up W.locks.locks id ≡ None
made-none W id None is fine = is
made-none W id (Some lock) is fine = absurd (cc)

work-tells : (W : World) (t codeptr : ℕ) (code : Code) (begun : Work) → meeting_fault W t code (work_met codeptr begun) ≡ None
    → Tells W t (event_of_point W t (point.WorkBegin codeptr begun))
work-tells W t codeptr code (work.Loop start count step how) fine = meets-plain W t code (work_met codeptr (work.Loop start count step how)) fine
work-tells W t codeptr code (work.Sections count) fine = meets-plain W t code (work_met codeptr (work.Sections count)) fine
work-tells W t codeptr code work.Single fine = meets-plain W t code (work_met codeptr work.Single) fine

pub tells : (W : World) (t : ℕ) (code : Code) (what : Point) → fault_of_point W t code what ≡ None → Gate W t what → Tells W t (event_of_point W t what)
unfolding fault_of_point
tells W t code (point.ParallelBegin codeptr requested) fine open-gate = record { region = refl; some = asked-some requested fine }
tells W t code (point.ParallelEnd codeptr) fine open-gate = record { region = refl; left = open-gate }
tells W t code (point.TaskCreate codeptr undeferred) fine open-gate = refl
tells W t code (point.WorkBegin codeptr begun) fine open-gate = work-tells W t codeptr code begun fine
tells W t code (point.Sync codeptr which at) fine open-gate = syncs W t code codeptr which at fine open-gate
tells W t code (point.MutexAcquired codeptr id which) fine open-gate = has-free W id (look_up W.locks.locks id) refl fine open-gate
tells W t code (point.MutexReleased codeptr id which) fine open-gate = has-owner W id (current W t) (look_up W.locks.locks id) refl fine
tells W t code (point.LockInit codeptr id) fine open-gate = made-none W id (look_up W.locks.locks id) refl fine
tells W t code (point.LockDestroy codeptr id) fine open-gate = has-none W id (look_up W.locks.locks id) refl fine
tells W t code other fine open-gate = tt
