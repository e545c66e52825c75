-- Each word that a call and a snapshot name is of what was made, or of none.
use Rattle.std.proofs.Common.{◌≡◌, ℕ, zero, suc, ◌+◌, ◌-◌, ◌<◌, ◌≤◌, ◌==◌, true, false, nat_lt, if◌then◌else◌, List, [], ◌∷◌, slice_get, option_map, length, subst, lt-ltb, arith}
use Rattle.std.specs.Prelude.{All, Some}
use Rattle.std.proofs.lemmas.List.Elements.{All-append, All-cons, All-head, All-nil, All-tail, All-weaker}
use Rattle.std.proofs.lemmas.Bool.{and_from}
use Rattle.c_model.specs.declared.point.SyncKind.{SyncKind}
use Rattle.c_model.specs.declared.point.SyncKind.TheVariants as sync
use Rattle.c_model.specs.declared.point.SyncStage.{SyncStage}
use Rattle.c_model.specs.declared.point.SyncStage.TheVariants as stage
use Rattle.ompt_calls.specs.declared.snapshot.RegionLevel.{RegionLevel}
use Rattle.ompt_calls.specs.declared.snapshot.TaskLevel.{TaskLevel}
use Rattle.ompt_calls.specs.declared.reply.WordAt.{WordAt}
use Rattle.ompt_calls.specs.declared.reply.WordAt.TheVariants as at
use Rattle.ompt_calls.specs.declared.snapshot.Target.{Target}
use Rattle.ompt_calls.specs.declared.snapshot.Target.TheVariants as target
use Rattle.ompt_calls.specs.Snapshot.{target_of}
use Rattle.omp_model.specs.declared.limits.TheConstants.{IMPLICIT_REGION, INITIAL_TASK}
use Rattle.omp_model.specs.declared.event.Event.{Event}
use Rattle.omp_model.specs.declared.event.Event.TheVariants as event
use Rattle.omp_model.specs.declared.event.Outcome.TheVariants.{Happens}
use Rattle.omp_model.specs.declared.event.Share.{Share}
use Rattle.omp_model.specs.declared.event.Share.TheVariants.{Chunk, Section}
use Rattle.omp_model.specs.declared.history.Entry.{Entry}
use Rattle.omp_model.specs.State.{Run, World, region_at, thread_at}
use Rattle.omp_model.specs.Members.{current, current_region, region_of}
use Rattle.omp_model.specs.Calls.{call_of, dispatch_call, own_region_word, own_task_word, sync_call, synced_region}
use Rattle.omp_model.specs.Snapshots.{down_from, fresh_of, levels_from, lowest_of, outer_tasks, regions_after, snap_of, task_levels}
use Rattle.omp_model.specs.Turn.{turn}
use Rattle.omp_model.specs.Legal.{after}
use Rattle.omp_model.specs.Words.{is_made_identity, null_word, region_word, task_word, thread_word}
use Rattle.omp_model.specs.MadeWorld.{HasOccurred, IsIdentity, IsMadeWorld, IsTask, IsTaskOf, IsThread, MadeEvent}
use Rattle.omp_model.specs.Named.{AreWords, IsMade, IsMadeCall, IsMadeFresh, IsMadeLevel, IsMadeRegionLevel, IsMadeSnapshot, IsRegionWord, IsTaskWord, IsThreadWord}
use Rattle.omp_model.proofs.MadeEvents.{MadeGo, current-below}
use Rattle.omp_model.proofs.MadeRuns.{MadeTurn, made-after, turn-made}

-- one of so many
identity-made : (k count : ℕ) → IsIdentity k count → is_made_identity k count ≡ true
identity-made k count one = and_from (nat_lt 0 k) (nat_lt k count) (lt-ltb 0 k (omega arith)) (lt-ltb k count one.below)

null-region : (W : World) → IsRegionWord W null_word
null-region W some = absurd (omega arith)

thread-word : (W : World) (t : ℕ) → IsThread W t → IsThreadWord W (thread_word W t)
thread-word W t there = let same : t ≡ t + 1 - 1 = omega arith in record { some = omega arith; made = subst (IsThread W) same there }

module _ (W : World) (made : IsMadeWorld W) where
  task-below : (k : ℕ) → k < length W.tasks → IsTaskWord W (task_word W k)
  task-below k below some = identity-made k (length W.tasks) (record { some = some; below = below })

  region-below : (r : ℕ) → r < length W.regions → IsRegionWord W (region_word W r)
  region-below r below some = identity-made r (length W.regions) (record { some = some; below = below })

  -- the region of a task, or of none
  region-of-below : (k : ℕ) → k < length W.tasks → region_of W k < length W.regions
  region-of-below zero below = omega (arith, made.implicit.below)
  region-of-below (suc k) below = (made.placed (suc k) (record { some = omega arith; below = below })).below

  module _ (t : ℕ) where
    own-task : IsTaskWord W (own_task_word W t)
    own-task = task-below (current W t) (current-below W t made)

    own-region : IsRegionWord W (own_region_word W t)
    own-region = region-below (current_region W t) (region-of-below (current W t) (current-below W t made))

    own : AreWords W (own_region_word W t) (own_task_word W t)
    own = record { region = own-region; task = own-task }

    synced : (which : SyncKind) (at : SyncStage) → AreWords W (synced_region W t which at) (own_task_word W t)
    synced sync.Parallel stage.WaitEnd = record { region = null-region W; task = own-task }
    synced sync.Parallel stage.RegionEnd = record { region = null-region W; task = own-task }
    synced which at = own

    sync-made : (which : SyncKind) (codeptr : ℕ) (at : SyncStage) → IsMadeCall W (sync_call W t which codeptr at)
    sync-made which codeptr stage.RegionBegin = synced which stage.RegionBegin
    sync-made which codeptr stage.WaitBegin = synced which stage.WaitBegin
    sync-made which codeptr stage.WaitEnd = synced which stage.WaitEnd
    sync-made which codeptr stage.RegionEnd = synced which stage.RegionEnd

    share-made : (share : Share) → IsMadeCall W (dispatch_call W t share)
    share-made (Chunk start count) = own
    share-made (Section codeptr) = own

    -- a call
    pub call-made : (e : Event) → HasOccurred W t e → IsMadeCall W (call_of W t e)
    unfolding call_of
    call-made event.ThreadBegin so = thread-word W t so.thread
    call-made event.ThreadEnd so = thread-word W t so.thread
    call-made event.InitialTaskBegin so = record { region = region-below IMPLICIT_REGION made.implicit.below; task = task-below INITIAL_TASK made.initial.below }
    call-made event.InitialTaskEnd so = record { region = null-region W; task = task-below INITIAL_TASK made.initial.below }
    call-made (event.ParallelBegin r requested codeptr) so = record { region = region-below r so.named.made.below; task = own-task }
    call-made (event.ParallelEnd r codeptr) so = record { region = region-below r so.named; task = own-task }
    call-made (event.MemberBegin r k) so = record { region = region-below r so.named.region.below; task = task-below k so.named.task.below }
    call-made (event.MemberEnd r k) so = record { region = null-region W; task = task-below k so.named.task.below }
    call-made (event.TaskCreate task undeferred codeptr) so = record { first = own-task; second = task-below task so.named.made.below }
    call-made (event.TaskBegin prior task) so = record { first = task-below prior so.named.before; second = task-below task so.named.task.below }
    call-made (event.TaskEnd task) so = record { first = task-below task so.named.below; second = own-task }
    call-made (event.Work at which count codeptr) so = own
    call-made (event.Dispatch share) so = share-made share
    call-made (event.Masked at codeptr) so = own
    call-made (event.Sync which at codeptr) so = sync-made which codeptr at
    call-made other so = tt

  -- the levels of a stack
  levels-made : (t : ℕ) (e : Event) (u : ℕ) (stack : List ℕ) → All (IsTask W) stack → All (IsMadeLevel W) (levels_from W t e u stack)
  unfolding levels_from
  levels-made t e u [] all = All-nil (IsMadeLevel W)
  levels-made t e u (k ∷ below) all =
      let one = All-head (IsTask W) k below all in
      All-cons (IsMadeLevel W) _ (levels_from W t e u below) (record { task = identity-made k (length W.tasks) one; region = identity-made (region_of W k) (length W.regions) (made.placed k one) })
      (levels-made t e u below (All-tail (IsTask W) k below all))

  stack-made : (t : ℕ) → All (IsTask W) (thread_at W t).stack
  stack-made t = All-weaker (IsTaskOf W t) (IsTask W) (λ k one. one.made) (thread_at W t).stack (made.threads t).stacked

  down-made : (k : ℕ) (stack : List ℕ) → All (IsTask W) stack → All (IsTask W) (down_from k stack)
  unfolding down_from
  down-made k [] all = all
  down-made k (task ∷ below) all =
      elim (task == k) as (λ b. All (IsTask W) (if◌then◌else◌ {A = List ℕ} b (task ∷ below) (down_from k below))) [ true ↦ all | false ↦ down-made k below (All-tail (IsTask W) task below all) ]

  outer-made : (lowest : ℕ) → All (IsTask W) (outer_tasks W lowest)
  outer-made lowest =
      let beyond = down_from (region_at W (region_of W lowest)).head.task (thread_at W 0).stack in
      elim (lowest == 0) as (λ b. All (IsTask W) (if◌then◌else◌ {A = List ℕ} b [] (if lowest == INITIAL_TASK then [] else beyond))) [
        | true ↦ All-nil (IsTask W)
        | false ↦ elim (lowest == INITIAL_TASK) as (λ b. All (IsTask W) (if◌then◌else◌ {A = List ℕ} b [] beyond)) [ true ↦ All-nil (IsTask W) | false ↦ down-made _ (thread_at W 0).stack (stack-made 0) ]
      ]

  task-levels-made : (t : ℕ) (e : Event) → All (IsMadeLevel W) (task_levels W t e)
  task-levels-made t e =
      let stack = (thread_at W t).stack in
      All-append (IsMadeLevel W) (levels_from W t e t stack) (levels_from W t e 0 (outer_tasks W (lowest_of stack)))
      (levels-made t e t stack (stack-made t)) (levels-made t e 0 (outer_tasks W (lowest_of stack)) (outer-made (lowest_of stack)))

  -- the levels of regions
  regions-made : (last : ℕ) (levels : List TaskLevel) → All (IsMadeLevel W) levels → All (IsMadeRegionLevel W) (regions_after W last levels)
  unfolding regions_after
  regions-made last [] all = All-nil (IsMadeRegionLevel W)
  regions-made last (level ∷ rest) all =
      let here : RegionLevel = record { word = level.region; team = (region_at W level.region.identity).head.size } in
      let more = All-tail (IsMadeLevel W) level rest all in
      elim (level.region.identity == last) as (λ b. All (IsMadeRegionLevel W) (if◌then◌else◌ {A = List RegionLevel} b (regions_after W last rest) (here ∷ regions_after W level.region.identity rest))) [
        | true ↦ regions-made last rest more
        | false ↦ All-cons (IsMadeRegionLevel W) here (regions_after W level.region.identity rest) (All-head (IsMadeLevel W) level rest all).region (regions-made level.region.identity rest more)
      ]

  fresh-made : (t : ℕ) (e : Event) → MadeEvent W t e → IsMadeFresh W (fresh_of e)
  fresh-made t (event.ParallelBegin r requested codeptr) named = identity-made r (length W.regions) named.made
  fresh-made t (event.TaskCreate task undeferred codeptr) named = identity-made task (length W.tasks) named.made
  fresh-made t other named = tt

  -- a snapshot
  pub snapshot-made : (t : ℕ) (e : Event) → HasOccurred W t e → IsMadeSnapshot W (snap_of W t e)
  snapshot-made t e so =
      let levels = task-levels-made t e in
      record { thread = thread-word W t so.thread; tasks = levels; regions = regions-made 0 (task_levels W t e) levels; fresh = fresh-made t e so.named }

-- where an event has just occurred
module _ (run : Run) (history : List Entry) (t : ℕ) (e : Event) (there : 1 ≤ run.threads) (happens : (turn run (after run history) t).outcome ≡ Happens e) where
  abbrev pub W : World
  W = (turn run (after run history) t).state.world

  pub just : MadeGo (after run history).world W t e
  just = let S = after run history in subst (MadeTurn S.world t W) happens (turn-made run S t (made-after run history there).world)

  pub heard-call : IsMadeCall W (call_of W t e)
  heard-call = call-made W just.whole.world t e just.occurred

  pub heard-snapshot : IsMadeSnapshot W (snap_of W t e)
  heard-snapshot = snapshot-made W just.whole.world t e just.occurred

  -- the word at a place of the snapshot, if there is one
  task-at : (levels : List TaskLevel) (i : ℕ) → All (IsMadeLevel W) levels → IsMadeFresh W (option_map (λ (found : TaskLevel). target.Task found.word.identity) (slice_get levels i))
  task-at [] i all = tt
  task-at (level ∷ rest) zero all = (All-head (IsMadeLevel W) level rest all).task
  task-at (level ∷ rest) (suc i) all = task-at rest i (All-tail (IsMadeLevel W) level rest all)

  region-at : (levels : List RegionLevel) (i : ℕ) → All (IsMadeRegionLevel W) levels → IsMadeFresh W (option_map (λ (found : RegionLevel). target.Parallel found.word.identity) (slice_get levels i))
  region-at [] i all = tt
  region-at (level ∷ rest) zero all = All-head (IsMadeRegionLevel W) level rest all
  region-at (level ∷ rest) (suc i) all = region-at rest i (All-tail (IsMadeRegionLevel W) level rest all)

  place-made : (place : WordAt) → IsMadeFresh W (target_of (snap_of W t e) place)
  place-made at.Thread = heard-snapshot.thread.made
  place-made (at.Parallel level) = region-at (snap_of W t e).regions level heard-snapshot.regions
  place-made (at.Task level) = task-at (snap_of W t e).tasks level heard-snapshot.tasks
  place-made at.Fresh = heard-snapshot.fresh

  pub heard-place : (place : WordAt) (found : Target) → target_of (snap_of W t e) place ≡ Some found → IsMade W found
  heard-place place found is = subst (IsMadeFresh W) is (place-made place)
