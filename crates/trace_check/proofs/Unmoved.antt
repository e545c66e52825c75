-- Events that tell nothing of regions and tasks.
use Rattle.std.proofs.Common.{◌≡◌, ℕ, ◌==◌, ◌&&◌, Bool, true, false, cond, List, ◌∷◌, Option, Some, None, refl, sym, ◌∙◌, ap, subst}
use Rattle.std.specs.Ordering.{nat_cmp}
use Rattle.std.specs.BTreeMap.{BTreeMap, Updates, get}
use Rattle.std.proofs.lemmas.Bool.{eqb-true}
use Rattle.ompt_calls.specs.declared.call.Call.{Call}
use Rattle.ompt_calls.specs.declared.call.Call.TheVariants.{ThreadBegin, ParallelBegin, ParallelEnd, TaskCreate, TaskSchedule, ImplicitTask, SyncRegionWait, MutexReleased, MutexAcquired}
use Rattle.ompt_calls.specs.declared.call.Frame.{Frame}
use Rattle.ompt_calls.specs.declared.call.Word.{Word}
use Rattle.ompt_calls.specs.declared.event.EventRecord.{EventRecord}
use Rattle.trace_check.specs.declared.bracket.Bracket.{Bracket}
use Rattle.trace_check.specs.declared.bracket.Bracket.TheVariants.{Explicit, Implicit, Waiting}
use Rattle.trace_check.specs.declared.change.Change.TheVariants.{Opens, Closes, Stays}
use Rattle.trace_check.specs.declared.kept.Kept.{Kept}
use Rattle.trace_check.specs.Brackets.{at_endpoint, at_status, change_of}
use Rattle.trace_check.specs.Before.{Creation, Join, creation_of, held_after, holder, is_barrier, is_begin, join_of, left_task, region_begun, region_ended, region_made, task_completed, task_made, task_started, waiter}
use Rattle.trace_check.specs.Checking.{KnownHeld, KnownThings, is_closing, is_opening}
use Rattle.trace_check.proofs.RegionParts.{beside_key}
use Rattle.trace_check.proofs.Untouched.{children_same, created_same, held_same, members_same, region_same, regions_same, task_same}

-- what an event tells of regions and tasks
pub record Tells : Type 0 where
  pub begun : Option ℕ
  pub ended : Option ℕ
  pub joined : Option Join
  pub gone : Option ℕ
  pub waits : Option ℕ
  pub creates : Option Creation
  pub starts : Option ℕ
  pub completes : Option ℕ
  pub region : ℕ
  pub task : ℕ

abbrev pub told : Call → Tells
told call = record {
  begun = region_begun call;
  ended = region_ended call;
  joined = join_of call;
  gone = left_task call;
  waits = waiter call;
  creates = creation_of call;
  starts = task_started call;
  completes = task_completed call;
  region = region_made call;
  task = task_made call;
}

abbrev pub nothing : Tells
nothing = record {
  begun = None;
  ended = None;
  joined = None;
  gone = None;
  waits = None;
  creates = None;
  starts = None;
  completes = None;
  region = 0;
  task = 0;
}

-- one that tells nothing of them, and nothing of what is held
abbrev TellsNothing : Call → Type 0
TellsNothing call = told call ≡ nothing

abbrev HoldsSame : Call → Type 0
HoldsSame call = (id t : ℕ) (before : Option ℕ) → held_after id t call before ≡ before

abbrev pub IsSilent : Call → Type 0
IsSilent call = TellsNothing call × HoldsSame call

-- what is kept stays, with the wait identifiers that are held after it
things_but_held : (kept : Kept) (held : BTreeMap ℕ ℕ) (past : List EventRecord) (event : EventRecord) → TellsNothing event.call
    → KnownHeld held (event ∷ past) → KnownThings kept past → KnownThings (record kept { held = held }) (event ∷ past)
things_but_held kept held past event none holds known =
    let begun : region_begun event.call ≡ None = ap (λ (tells : Tells). tells.begun) none in
    let ended : region_ended event.call ≡ None = ap (λ (tells : Tells). tells.ended) none in
    let joined : join_of event.call ≡ None = ap (λ (tells : Tells). tells.joined) none in
    let gone : left_task event.call ≡ None = ap (λ (tells : Tells). tells.gone) none in
    let waits : waiter event.call ≡ None = ap (λ (tells : Tells). tells.waits) none in
    let creates : creation_of event.call ≡ None = ap (λ (tells : Tells). tells.creates) none in
    let starts : task_started event.call ≡ None = ap (λ (tells : Tells). tells.starts) none in
    let completes : task_completed event.call ≡ None = ap (λ (tells : Tells). tells.completes) none in
    record {
      regions = regions_same kept.regions past event begun ended joined known.regions;
      members = members_same kept.members past event begun ended joined gone waits creates completes known.members;
      created = created_same kept.created past event joined creates starts completes known.created;
      held = holds;
      greatest_region = region_same kept.greatest_region past event (ap (λ (tells : Tells). tells.region) none) known.greatest_region;
      greatest_task = task_same kept.greatest_task past event (ap (λ (tells : Tells). tells.task) none) known.greatest_task;
      children = children_same kept.children past event creates completes known.children;
    }

-- and all of it stays where these stay too
pub things_same : (kept : Kept) (past : List EventRecord) (event : EventRecord) → IsSilent event.call → KnownThings kept past
    → KnownThings kept (event ∷ past)
things_same kept past event silent known =
    things_but_held kept kept.held past event silent.0 (held_same kept.held past event silent.1 known.held) known

-- what is kept after an event on a wait identifier
held_things : (kept : Kept) (held : BTreeMap ℕ ℕ) (past : List EventRecord) (event : EventRecord) (key : ℕ) (after : Option ℕ) → TellsNothing event.call
    → ((id : ℕ) → held_after id event.thread event.call (holder id past) ≡ cond (key == id) after (holder id past))
    → Updates nat_cmp kept.held held key after → KnownThings kept past → KnownThings (record kept { held = held }) (event ∷ past)
held_things kept held past event key after none is updates known =
    things_but_held kept held past event none (λ id. by-test id (key == id) refl ∙ sym (is id)) known
  where
    by-test : (id : ℕ) (b : Bool) → (key == id) ≡ b → get nat_cmp held id ≡ cond b after (holder id past)
    by-test id true same = subst (λ (n : ℕ). get nat_cmp held n ≡ after) (eqb-true key id same) updates.1
    by-test id false other = updates.2 id (beside_key key id other) ∙ known.held id

-- one is held from now on, or free
pub acquired_things : (kept : Kept) (held : BTreeMap ℕ ℕ) (past : List EventRecord) (event : EventRecord) (kind wait_id codeptr : ℕ)
    → event.call ≡ MutexAcquired kind wait_id codeptr → Updates nat_cmp kept.held held wait_id (Some event.thread)
    → KnownThings kept past → KnownThings (record kept { held = held }) (event ∷ past)
acquired_things kept held past event kind wait_id codeptr is =
    held_things kept held past event wait_id (Some event.thread) (ap told is)
    (λ id. ap (λ (call : Call). held_after id event.thread call (holder id past)) is)

pub released_things : (kept : Kept) (held : BTreeMap ℕ ℕ) (past : List EventRecord) (event : EventRecord) (kind wait_id codeptr : ℕ)
    → event.call ≡ MutexReleased kind wait_id codeptr → Updates nat_cmp kept.held held wait_id None
    → KnownThings kept past → KnownThings (record kept { held = held }) (event ∷ past)
released_things kept held past event kind wait_id codeptr is =
    held_things kept held past event wait_id None (ap told is) (λ id. ap (λ (call : Call). held_after id event.thread call (holder id past)) is)

-- ---- which events those are

-- the endpoint of what opens, of what closes, and of what does neither
pub opens_at : (endpoint : ℕ) (bracket : Bracket) → is_opening (at_endpoint endpoint bracket) ≡ true → endpoint ≡ 1
opens_at endpoint bracket opens = by-test (endpoint == 1) (endpoint == 2) (eqb-true endpoint 1) opens
  where
    by-test : (a b : Bool) → (a ≡ true → endpoint ≡ 1) → is_opening (cond a (Opens bracket) (cond b (Closes bracket) Stays)) ≡ true → endpoint ≡ 1
    by-test true b is opens = is refl
    by-test false true is opens = absurd (cc)
    by-test false false is opens = absurd (cc)

pub closes_at : (endpoint : ℕ) (bracket : Bracket) → is_closing (at_endpoint endpoint bracket) ≡ true → endpoint ≡ 2
closes_at endpoint bracket closes = by-test (endpoint == 1) (endpoint == 2) (eqb-true endpoint 2) closes
  where
    by-test : (a b : Bool) → (b ≡ true → endpoint ≡ 2) → is_closing (cond a (Opens bracket) (cond b (Closes bracket) Stays)) ≡ true → endpoint ≡ 2
    by-test true b is closes = absurd (cc)
    by-test false true is closes = is refl
    by-test false false is closes = absurd (cc)

pub stays_at : (endpoint : ℕ) (bracket : Bracket) → at_endpoint endpoint bracket ≡ Stays → ((endpoint == 1) ≡ false) × ((endpoint == 2) ≡ false)
stays_at endpoint bracket stays = by-test (endpoint == 1) (endpoint == 2) stays
  where
    by-test : (a b : Bool) → cond a (Opens bracket) (cond b (Closes bracket) Stays) ≡ Stays → (a ≡ false) × (b ≡ false)
    by-test true b stays = absurd (cc)
    by-test false true stays = absurd (cc)
    by-test false false stays = (refl, refl)

stays_with : (status prior next : ℕ) → at_status status prior next ≡ Stays → ((status == 7) ≡ false) × ((status == 1) ≡ false)
stays_with status prior next stays = by-test (status == 7) (status == 1) stays
  where
    by-test : (a b : Bool) → cond a (Opens (Explicit prior next)) (cond b (Closes (Explicit next prior)) Stays) ≡ Stays → (a ≡ false) × (b ≡ false)
    by-test true b stays = absurd (cc)
    by-test false true stays = absurd (cc)
    by-test false false stays = (refl, refl)

-- the begin of the initial task
pub initial_tells : (endpoint : ℕ) (region task : Word) (actual index flags : ℕ) → endpoint ≡ 1 → flags ≡ 1
    → IsSilent (ImplicitTask endpoint region task actual index flags)
initial_tells endpoint region task actual index flags begins initial = (rw (begins, initial) refl, λ id t before. refl)

-- a wait that is not at a barrier, or no begin
pub wait_tells : (kind endpoint : ℕ) (region task : Word) (codeptr : ℕ) → ((endpoint == 1) && is_barrier kind) ≡ false
    → IsSilent (SyncRegionWait kind endpoint region task codeptr)
wait_tells kind endpoint region task codeptr apart = (rw apart refl, λ id t before. refl)

pub no_barrier : (a b : Bool) → b ≡ false → (a && b) ≡ false
no_barrier true b is = is
no_barrier false b is = refl

-- what opens a bracket and is none of these
pub opening_tells : (call : Call) → is_opening (change_of call) ≡ true
    → ((task : Word) (frame : Frame) (region : Word) (requested flags codeptr : ℕ) → call ≡ ParallelBegin task frame region requested flags codeptr → ⊥)
    → ((endpoint : ℕ) (region task : Word) (actual index flags : ℕ) → call ≡ ImplicitTask endpoint region task actual index flags → ⊥)
    → ((prior : Word) (status : ℕ) (next : Word) → call ≡ TaskSchedule prior status next → ⊥)
    → ((kind endpoint : ℕ) (region task : Word) (codeptr : ℕ) → call ≡ SyncRegionWait kind endpoint region task codeptr → ⊥)
    → IsSilent call
opening_tells (ParallelBegin task frame region requested flags codeptr) opens no-region no-task no-schedule no-wait = absurd (no-region _ _ _ _ _ _ refl)
opening_tells (ParallelEnd region task flags codeptr) opens no-region no-task no-schedule no-wait = absurd (cc)
opening_tells (TaskCreate task frame fresh flags has_dependences codeptr) opens no-region no-task no-schedule no-wait = absurd (cc)
opening_tells (TaskSchedule prior status next) opens no-region no-task no-schedule no-wait = absurd (no-schedule _ _ _ refl)
opening_tells (ImplicitTask endpoint region task actual index flags) opens no-region no-task no-schedule no-wait = absurd (no-task _ _ _ _ _ _ refl)
opening_tells (SyncRegionWait kind endpoint region task codeptr) opens no-region no-task no-schedule no-wait = absurd (no-wait _ _ _ _ _ refl)
opening_tells (MutexReleased kind wait_id codeptr) opens no-region no-task no-schedule no-wait = absurd (cc)
opening_tells (MutexAcquired kind wait_id codeptr) opens no-region no-task no-schedule no-wait = absurd (cc)
opening_tells other opens no-region no-task no-schedule no-wait = (refl, λ id t before. refl)

-- what closes one and is none of these
pub closing_tells : (call : Call) → is_closing (change_of call) ≡ true
    → ((region task : Word) (flags codeptr : ℕ) → call ≡ ParallelEnd region task flags codeptr → ⊥)
    → ((endpoint : ℕ) (region task : Word) (actual index flags : ℕ) → call ≡ ImplicitTask endpoint region task actual index flags → ⊥)
    → ((prior : Word) (status : ℕ) (next : Word) → call ≡ TaskSchedule prior status next → ⊥)
    → ((kind endpoint : ℕ) (region task : Word) (codeptr : ℕ) → call ≡ SyncRegionWait kind endpoint region task codeptr → ⊥)
    → IsSilent call
closing_tells (ParallelBegin task frame region requested flags codeptr) closes no-region no-task no-schedule no-wait = absurd (cc)
closing_tells (ParallelEnd region task flags codeptr) closes no-region no-task no-schedule no-wait = absurd (no-region _ _ _ _ refl)
closing_tells (TaskCreate task frame fresh flags has_dependences codeptr) closes no-region no-task no-schedule no-wait = absurd (cc)
closing_tells (TaskSchedule prior status next) closes no-region no-task no-schedule no-wait = absurd (no-schedule _ _ _ refl)
closing_tells (ImplicitTask endpoint region task actual index flags) closes no-region no-task no-schedule no-wait = absurd (no-task _ _ _ _ _ _ refl)
closing_tells (SyncRegionWait kind endpoint region task codeptr) closes no-region no-task no-schedule no-wait = absurd (no-wait _ _ _ _ _ refl)
closing_tells (MutexReleased kind wait_id codeptr) closes no-region no-task no-schedule no-wait = absurd (cc)
closing_tells (MutexAcquired kind wait_id codeptr) closes no-region no-task no-schedule no-wait = absurd (cc)
closing_tells other closes no-region no-task no-schedule no-wait = (refl, λ id t before. refl)

-- what leaves the brackets and is none of these
pub staying_tells : (call : Call) → change_of call ≡ Stays
    → ((task : Word) (frame : Frame) (fresh : Word) (flags has_dependences codeptr : ℕ) → call ≡ TaskCreate task frame fresh flags has_dependences codeptr
    → ⊥)
    → ((kind wait_id codeptr : ℕ) → call ≡ MutexAcquired kind wait_id codeptr → ⊥)
    → ((kind wait_id codeptr : ℕ) → call ≡ MutexReleased kind wait_id codeptr → ⊥)
    → IsSilent call
staying_tells (ParallelBegin task frame region requested flags codeptr) stays no-create no-acquired no-released = absurd (cc)
staying_tells (ParallelEnd region task flags codeptr) stays no-create no-acquired no-released = absurd (cc)
staying_tells (TaskCreate task frame fresh flags has_dependences codeptr) stays no-create no-acquired no-released = absurd (no-create _ _ _ _ _ _ refl)
staying_tells (TaskSchedule prior status next) stays no-create no-acquired no-released =
    let none = stays_with status prior.identity next.identity stays in (rw none.0 (rw none.1 refl), λ id t before. refl)
staying_tells (ImplicitTask endpoint region task actual index flags) stays no-create no-acquired no-released =
    let none = stays_at endpoint (Implicit task.identity) stays in (rw none.0 (rw none.1 refl), λ id t before. refl)
staying_tells (SyncRegionWait kind endpoint region task codeptr) stays no-create no-acquired no-released =
    wait_tells kind endpoint region task codeptr (rw (stays_at endpoint (Waiting task.identity kind) stays).0 refl)
staying_tells (MutexReleased kind wait_id codeptr) stays no-create no-acquired no-released = absurd (no-released _ _ _ refl)
staying_tells (MutexAcquired kind wait_id codeptr) stays no-create no-acquired no-released = absurd (no-acquired _ _ _ refl)
staying_tells other stays no-create no-acquired no-released = (refl, λ id t before. refl)

-- the begin of a thread
pub begin_tells : (call : Call) → is_begin call ≡ true → IsSilent call × (change_of call ≡ Stays)
begin_tells (ThreadBegin kind thread) begins = ((refl, λ id t before. refl), refl)
begin_tells other begins = absurd (cc)
