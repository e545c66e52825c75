-- How the code of tasks differs from that of the world before: after the Go of an event, and after what is no event.
use Rattle.std.specs.Prelude.{ℕ, ◌≡◌, ◌≤◌, ◌<◌, ◌≢◌, ◌+◌, ◌⊎◌, true, false, List, [], ◌∷◌, length, Option, Some, None}
use Rattle.c_model.specs.declared.point.SyncKind.{SyncKind}
use Rattle.c_model.specs.declared.point.SyncStage.{SyncStage}
use Rattle.c_model.specs.declared.point.WorkKind.TheVariants as work_kind
use Rattle.c_brackets.specs.Opened.{Open}
use Rattle.c_brackets.specs.Opened.Open.{Works}
use Rattle.c_brackets.specs.Orderly.{IsOrderly as IsOrderlyCode}
use Rattle.task_pool.specs.declared.task.TaskKind.TheVariants as kind
use Rattle.omp_model.specs.declared.event.Event.{Event}
use Rattle.omp_model.specs.declared.event.Event.TheVariants.{MemberBegin}
use Rattle.omp_model.specs.declared.event.Share.{Share}
use Rattle.omp_model.specs.declared.event.Share.TheVariants.{Chunk, Section}
use Rattle.omp_model.specs.State.{World, pooled_at, region_at, task_at, thread_at}
use Rattle.omp_model.proofs.Alike.{AlikeWorld}
use Rattle.omp_model.proofs.Touching.{TouchesWorld, is_of_code}
use Rattle.omp_model.specs.Members.{current}
use Rattle.nested_runs.proofs.Effects.{behind_after, effect_of_event, opens_after, stand_after}
use Rattle.nested_runs.proofs.Shown.{opens_at}
use Rattle.nested_runs.proofs.Standing.{HasCourse, Stand, is_behind, stand_at}
use Rattle.nested_runs.proofs.Standing.Stand.{Free, AtFork, AtSync}

-- ---- codes

-- the code of each task stands in order, and that of each member has its course; there is none where there is no task
pub record AreCodes (W : World) : Type 0 where
  pub none : (task_at W 0).code.todo ≡ []
  pub orderly : (k : ℕ) → IsOrderlyCode (task_at W k).code
  pub course : (k : ℕ) → (pooled_at W k).kind ≡ kind.Implicit → k < length W.tasks → HasCourse (task_at W k).code

-- ---- the Go of an event

-- the code of a member begins ahead, where the end of its region stands next in the task that has forked it
abbrev pub BeginsAhead : World → World → Event → Type 0
BeginsAhead W after (MemberBegin r k) = stand_at W (region_at W r).head.task ≡ AtFork → is_behind (task_at after k).code ≡ false
BeginsAhead W after other = Unit {0}

pub record Touches (W after : World) (t : ℕ) (event : Event) : Type 0 where
  pub world : TouchesWorld W after t event
  -- the code of the current task, at an event of it, and that of others
  pub opens_own : is_of_code event ≡ true → opens_at after (current W t) ≡ opens_after (effect_of_event event) (opens_at W (current W t))
  pub stand_own : is_of_code event ≡ true → stand_at after (current W t) ≡ stand_after event
  pub opens : (k : ℕ) → (is_of_code event ≡ true → k ≡ current W t → ⊥) → opens_at after k ≡ opens_at W k
  pub stands : (k : ℕ) → (is_of_code event ≡ true → k ≡ current W t → ⊥) → stand_at after k ≡ stand_at W k
  pub codes : AreCodes after
  pub behind : (k : ℕ) → k < length W.tasks → (pooled_at W k).kind ≡ kind.Implicit →
      is_behind (task_at after k).code ≡ behind_after W t event k (is_behind (task_at W k).code)
  pub begins_ahead : BeginsAhead W after event

-- ---- what is no event: silent steps, what a task goes past, and what a tool stores

-- a share lies within the work that is the newest of what the code has open
pub record FitsLoop (start count : ℕ) (opened : List Open) : Type 0 where
  pub whole : ℕ
  pub older : List Open
  pub are : opened ≡ Works work_kind.Loop whole ∷ older
  pub within : start + count ≤ whole

pub record FitsSections (opened : List Open) : Type 0 where
  pub whole : ℕ
  pub older : List Open
  pub are : opened ≡ Works work_kind.Sections whole ∷ older

abbrev pub Fits : Share → List Open → Type 0
Fits (Chunk start count) opened = FitsLoop start count opened
Fits (Section codeptr) opened = FitsSections opened

-- a share that a thread has taken, which was to do nothing else
pub record TakesShare (W : World) (t : ℕ) (share : Share) : Type 0 where
  pub some : 1 ≤ current W t
  pub fits : Fits share (opens_at W (current W t))
  pub stand : stand_at W (current W t) ≡ Free
  pub invited : (thread_at W t).invited ≡ 0
  pub undeferred : (thread_at W t).undeferred ≡ 0

abbrev pub MayTake : World → ℕ → Option Share → Type 0
MayTake W t None = Unit {0}
MayTake W t (Some share) = TakesShare W t share

-- the code stands where it stood; or it was at no event, or before a lock that is owned, and is at none
pub record ComesFree (before after : Stand) : Type 0 where
  pub forked : before ≢ AtFork
  pub synced : (which : SyncKind) (at : SyncStage) → before ≢ AtSync which at
  pub free : after ≡ Free

pub record Alike (W after : World) : Type 0 where
  pub world : AlikeWorld W after
  pub taken : (u : ℕ) → ((thread_at after u).taken ≡ (thread_at W u).taken) ⊎ MayTake after u (thread_at after u).taken
  pub opens : (k : ℕ) → opens_at after k ≡ opens_at W k
  pub stands : (k : ℕ) → (stand_at after k ≡ stand_at W k) ⊎ ComesFree (stand_at W k) (stand_at after k)
  pub behind : (k : ℕ) → k < length W.tasks → (pooled_at W k).kind ≡ kind.Implicit → is_behind (task_at after k).code ≡ is_behind (task_at W k).code
  pub codes : AreCodes after
