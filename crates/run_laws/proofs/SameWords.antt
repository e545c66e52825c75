-- A turn and the return of a callback keep the words of all threads, regions and tasks.
use Rattle.std.proofs.Common.{ℕ, zero, suc, ◌≡◌, Bool, true, false, if◌then◌else◌, List, [], ◌∷◌, Option, Some, None, slice_index_or, length, refl, subst, ap, ◌∙◌}
use Rattle.ompt_calls.specs.declared.snapshot.Target.{Target}
use Rattle.ompt_calls.specs.declared.snapshot.Target.TheVariants as target
use Rattle.c_syntax.specs.language.Tree.{Tree}
use Rattle.c_model.specs.declared.question.Ask.{Ask}
use Rattle.c_model.specs.declared.point.Point.{Point}
use Rattle.c_model.specs.declared.point.Point.TheVariants as point
use Rattle.c_model.specs.declared.point.SyncKind.{SyncKind}
use Rattle.c_model.specs.declared.point.SyncStage.{SyncStage}
use Rattle.c_model.specs.declared.point.SyncStage.TheVariants as stage
use Rattle.c_model.specs.Begin.{blank_task, explicit_task}
use Rattle.c_model.specs.AfterEvents.{after_answer}
use Rattle.c_model.specs.Step.{silent}
use Rattle.c_model.specs.Task.{Moment, Outcome as Came, Task as Code}
use Rattle.c_model.specs.Task.Outcome.{Asks, Ends, Limits, Occurs, StepsTo, Traps}
use Rattle.task_pool.specs.declared.task.TaskKind.{TaskKind}
use Rattle.task_pool.specs.declared.task.TaskKind.TheVariants as kind
use Rattle.task_pool.specs.Tasks.{is_finished}
use Rattle.task_pool.specs.View.{PoolView, with_finished, with_ready, with_started}
use Rattle.sync_objects.specs.View.{LocksView}
use Rattle.team_parts.specs.declared.meeting.Meeting.{Meeting}
use Rattle.team_parts.specs.Team.{TeamView}
use Rattle.omp_model.specs.declared.event.Event.{Event}
use Rattle.omp_model.specs.declared.event.Event.TheVariants as event
use Rattle.omp_model.specs.declared.event.Halt.{Halt}
use Rattle.omp_model.specs.declared.event.Outcome.{Outcome}
use Rattle.omp_model.specs.declared.event.Outcome.TheVariants as outcome
use Rattle.omp_model.specs.Changes.{with_invitations, without_lock, without_code, with_finished_task, with_forked_region, with_initialised_lock, is_fresh, member_begun, with_members_invited, owned_by, with_current_task, without_current_task, with_ready_task, region_made, with_started_task, with_invitation, taken_up, task_made, with_code, with_team}
use Rattle.omp_model.specs.Gates.{is_barrier}
use Rattle.omp_model.specs.EventEffects.{Going, Halts, Happens, Nothing, after_creation, after_fork, after_member, after_meeting_at, after_sync, effect_of, effect_of_point, event_of_point, fault_of, fault_of_point, going_by, go_of_code, kind_of_task, member_code, past_point, team_size, told, unless}
use Rattle.omp_model.specs.Members.{current, current_region, is_member, is_outermost, moment_of, view_of}
use Rattle.omp_model.specs.Returning.{after_created, after_wait_begun, at_back}
use Rattle.omp_model.specs.Silent.{answer_to, answered, share_taken, silence_of, silent_step, team_after}
use Rattle.omp_model.specs.State.{Region, Run, State, Task, Thread, World, fresh_region, is_under_way, no_region, no_task, pooled_at, region_at, task_at, task_with, thread_at, unmade, with_region, with_task, with_thread}
use Rattle.omp_model.specs.Turn.{turn}
use Rattle.omp_model.proofs.Reading.{read-more, read-same}
use Rattle.omp_model.proofs.Turning.{AfterSilence, Beside, GoOf, OfCode, Turned, of-turn}
use Rattle.omp_model.specs.Changes.{with_masked_skipped, gone_to, with_taken_share}
use Rattle.run_laws.specs.LastStored.{word_of}

-- the words of all threads, regions and tasks are the same
abbrev pub SameWords : World → World → Type 0
SameWords W after = (target : Target) → word_of after target ≡ word_of W target

same-then : (W between after : World) → SameWords W between → SameWords between after → SameWords W after
same-then W between after first next target = next target ∙ first target

same-either : (W one other : World) (b : Bool) → SameWords W one → SameWords W other → SameWords W (if b then one else other)
same-either W one other true first second = first
same-either W one other false first second = second

-- What is changed: none of the lists, or a thread, a task or a region in all but its word.

same-lists : (W after : World) → after.threads ≡ W.threads → after.tasks ≡ W.tasks → after.regions ≡ W.regions → SameWords W after
same-lists W after threads tasks regions (target.Thread t) = ap (λ (threads : List Thread). (slice_index_or threads t unmade).word) threads
same-lists W after threads tasks regions (target.Parallel r) = ap (λ (regions : List Region). (slice_index_or regions r no_region).head.word) regions
same-lists W after threads tasks regions (target.Task k) = ap (λ (tasks : List Task). (slice_index_or tasks k no_task).word) tasks

same-pool : (W : World) (pool : PoolView) → SameWords W (record W { pool = pool })
same-pool W pool = same-lists W (record W { pool = pool }) refl refl refl

same-locks : (W : World) (locks : LocksView) → SameWords W (record W { locks = locks })
same-locks W locks = same-lists W (record W { locks = locks }) refl refl refl

same-same : (W : World) → SameWords W W
same-same W = same-lists W W refl refl refl

same-thread : (W : World) (t : ℕ) (thread : Thread) → thread.word ≡ (thread_at W t).word → SameWords W (with_thread W t thread)
same-thread W t thread same (target.Thread u) = read-same (λ (x : Thread). x.word) unmade W.threads t u thread same
same-thread W t thread same (target.Parallel r) = refl
same-thread W t thread same (target.Task k) = refl

same-task : (W : World) (k : ℕ) (task : Task) → task.word ≡ (task_at W k).word → SameWords W (with_task W k task)
same-task W k task same (target.Thread t) = refl
same-task W k task same (target.Parallel r) = refl
same-task W k task same (target.Task j) = read-same (λ (x : Task). x.word) no_task W.tasks k j task same

same-region : (W : World) (r : ℕ) (region : Region) → region.head.word ≡ (region_at W r).head.word → SameWords W (with_region W r region)
same-region W r region same (target.Thread t) = refl
same-region W r region same (target.Parallel q) = read-same (λ (x : Region). x.head.word) no_region W.regions r q region same
same-region W r region same (target.Task k) = refl

same-code : (W : World) (k : ℕ) (code : Code) → SameWords W (with_code W k code)
same-code W k code = same-task W k (record (task_at W k) { code = code }) refl

same-forked : (W : World) (k r : ℕ) → SameWords W (with_forked_region W k r)
same-forked W k r = same-task W k (record (task_at W k) { forked = r }) refl

same-team : (W : World) (r : ℕ) (team : TeamView) → SameWords W (with_team W r team)
same-team W r team = same-region W r (record (region_at W r) { team = team }) refl

same-taken_up : (W : World) (t k : ℕ) → SameWords W (taken_up W t k)
same-taken_up W t k = same-then W (with_current_task W t k) (taken_up W t k) (same-thread W t _ refl) (same-task (with_current_task W t k) k (record (task_at W k) { thread = t }) refl)

same-popped : (W : World) (t : ℕ) → SameWords W (without_current_task W t)
same-popped W t = same-thread W t _ refl

same-started : (W : World) (k : ℕ) → SameWords W (with_started_task W k)
same-started W k = same-either W _ _ (is_finished (pooled_at W k).condition) (same-same W) (same-pool W (with_started W.pool k))

same-finished : (W : World) (k : ℕ) → SameWords W (with_finished_task W k)
same-finished W k = same-either W _ _ (is_under_way (pooled_at W k).condition) (same-pool W (with_finished W.pool k)) (same-same W)

same-readied : (W : World) (k : ℕ) → SameWords W (with_ready_task W k)
same-readied W k = same-either W _ _ (is_fresh (pooled_at W k).condition) (same-pool W (with_ready W.pool k)) (same-same W)

-- a task or a region that is made has the word 0, as there is where there is none
same-task_made : (W : World) (parent r : ℕ) (kind : TaskKind) (code : Code) → SameWords W (task_made W parent r kind code)
same-task_made W parent r kind code (target.Thread t) = refl
same-task_made W parent r kind code (target.Parallel q) = refl
same-task_made W parent r kind code (target.Task k) = read-more (λ (x : Task). x.word) no_task W.tasks k (task_with code) refl

same-region_made : (W : World) (task size : ℕ) → SameWords W (region_made W (fresh_region task size))
same-region_made W task size (target.Thread t) = refl
same-region_made W task size (target.Parallel q) = read-more (λ (x : Region). x.head.word) no_region W.regions q (fresh_region task size) refl
same-region_made W task size (target.Task k) = refl

-- threads that are to join a region
summoned-word : (r size : ℕ) (threads : List Thread) (u : ℕ) → (slice_index_or (with_invitations r size threads) u unmade).word ≡ (slice_index_or threads u unmade).word
unfolding with_invitations
summoned-word r zero threads u = refl
summoned-word r (suc size) [] u = refl
summoned-word r (suc size) (thread ∷ threads) zero = refl
summoned-word r (suc size) (thread ∷ threads) (suc u) = summoned-word r size threads u

same-all_summoned : (W : World) (r size : ℕ) → SameWords W (record W { threads = with_invitations r size W.threads })
same-all_summoned W r size (target.Thread u) = summoned-word r size W.threads u
same-all_summoned W r size (target.Parallel q) = refl
same-all_summoned W r size (target.Task k) = refl

same-opened : (W : World) (t r : ℕ) → SameWords W (with_members_invited W t r)
same-opened W t r = same-either W _ _ (is_outermost W r) (same-all_summoned W r (region_at W r).head.size) (same-thread W t (with_invitation r (thread_at W t)) refl)

-- The return of a callback.

same-created : (W : World) (t task : ℕ) (undeferred : Bool) → SameWords W (after_created W t task undeferred)
same-created W t task true = same-thread W t _ refl
same-created W t task false = same-readied W task

same-wait_begun : (W : World) (t : ℕ) (kind : SyncKind) → SameWords W (after_wait_begun W t kind)
same-wait_begun W t kind = same-either W _ _ (is_barrier kind) (same-team W (current_region W t) _) (same-same W)

pub same-back : (W : World) (t : ℕ) (e : Event) → SameWords W (at_back W t e)
unfolding at_back
same-back W t event.ThreadEnd = same-thread W t _ refl
same-back W t (event.ParallelBegin r requested codeptr) = same-opened W t r
same-back W t (event.ParallelEnd r codeptr) = same-forked W (current W t) 0
same-back W t (event.MemberEnd r k) = same-region W r _ refl
same-back W t (event.TaskCreate task undeferred codeptr) = same-created W t task undeferred
same-back W t (event.TaskEnd task) = same-finished W task
same-back W t (event.Sync kind stage.WaitBegin codeptr) = same-wait_begun W t kind
same-back W t other = same-same W

-- The Go of an event beside all code.

same-member : (W : World) (t r k : ℕ) → SameWords W (after_member W t r k)
same-member W t r k =
    let parent = (region_at W r).head.task in
    let one = task_made W parent r kind.Implicit (member_code (task_at W parent).code) in
    let two = with_started_task one k in
    let three = taken_up two t k in
    same-then W one (after_member W t r k) (same-task_made W parent r kind.Implicit (member_code (task_at W parent).code))
    (same-then one two (after_member W t r k) (same-started one k)
    (same-then two three (after_member W t r k) (same-taken_up two t k) (same-region three r _ refl)))

same-beside : (W : World) (t : ℕ) (e : Event) → SameWords W (effect_of W t e)
unfolding effect_of
same-beside W t event.ThreadBegin = same-thread W t _ refl
same-beside W t event.InitialTaskBegin =
    let one = taken_up W t 1 in
    let two = with_started_task one 1 in
    let after = member_begun two 1 0 1 in
    same-then W one after (same-taken_up W t 1) (same-then one two after (same-started one 1) (same-region two 1 _ refl))
same-beside W t event.InitialTaskEnd = let one = without_current_task W t in same-then W one (with_finished_task one 1) (same-popped W t) (same-finished one 1)
same-beside W t (event.MemberBegin r k) = same-member W t r k
same-beside W t (event.MemberEnd r k) =
    let one = without_current_task W t in
    let two = with_finished_task one k in
    let after = without_code two k in
    same-then W one after (same-popped W t) (same-then one two after (same-finished one k) (same-code two k blank_task))
same-beside W t (event.TaskBegin prior task) = let one = taken_up W t task in same-then W one (with_started_task one task) (same-taken_up W t task) (same-started one task)
same-beside W t (event.TaskEnd task) = let one = without_current_task W t in same-then W one (without_code one task) (same-popped W t) (same-code one task blank_task)
same-beside W t (event.Dispatch share) = same-thread W t _ refl
same-beside W t other = same-same W

-- The Go of an event of the code.

same-meeting : (W : World) (t : ℕ) (what : Meeting) → SameWords W (after_meeting_at W t what)
same-meeting W t what = same-either W _ _ (is_member W t) (same-team W (current_region W t) _) (same-same W)

same-sync : (W : World) (t codeptr : ℕ) (which : SyncKind) (at : SyncStage) → SameWords W (after_sync W t codeptr which at)
same-sync W t codeptr which stage.RegionBegin = same-either W _ _ (is_barrier which) (same-meeting W t _) (same-same W)
same-sync W t codeptr which stage.WaitEnd = same-either W _ _ (is_barrier which) (same-team W (current_region W t) _) (same-same W)
same-sync W t codeptr which other = same-same W

same-creation : (run : Run) (W : World) (t : ℕ) (now : Moment) (undeferred : Bool) → SameWords W (after_creation run W t now undeferred)
same-creation run W t now undeferred =
    let created = explicit_task run.program (view_of W t) now in
    let one = task_made W (current W t) (current_region W t) (kind_of_task undeferred) created.task in
    same-then W one (after_creation run W t now undeferred) (same-task_made W (current W t) (current_region W t) (kind_of_task undeferred) created.task)
    (same-lists one (after_creation run W t now undeferred) refl refl refl)

same-fork : (W : World) (t requested : ℕ) → SameWords W (after_fork W t requested)
same-fork W t requested =
    let one = with_forked_region W (current W t) (length W.regions) in
    same-then W one (after_fork W t requested) (same-forked W (current W t) (length W.regions)) (same-region_made one (current W t) (team_size W t requested))

same-point : (run : Run) (W : World) (t : ℕ) (now : Moment) (what : Point) → SameWords W (effect_of_point run W t now what)
unfolding effect_of_point
same-point run W t now (point.ParallelBegin codeptr requested) = same-fork W t _
same-point run W t now (point.ParallelEnd codeptr) = same-region W _ _ refl
same-point run W t now (point.TaskCreate codeptr undeferred) = same-creation run W t now undeferred
same-point run W t now (point.WorkBegin codeptr what) = same-meeting W t _
same-point run W t now (point.Sync codeptr which at) = same-sync W t codeptr which at
same-point run W t now (point.MutexAcquired codeptr wait_id which) = same-locks W (owned_by W wait_id (Some (current W t))).locks
same-point run W t now (point.MutexReleased codeptr wait_id which) = same-locks W (owned_by W wait_id None).locks
same-point run W t now (point.LockInit codeptr wait_id) = same-locks W (with_initialised_lock W wait_id).locks
same-point run W t now (point.LockDestroy codeptr wait_id) = same-locks W (without_lock W wait_id).locks
same-point run W t now other = same-same W

-- where the event happens, all words are the same in the world after it
abbrev SameGoing : World → Going → Type 0
SameGoing W Nothing = Unit {0}
SameGoing W (Happens e after) = SameWords W after
SameGoing W (Halts halt) = Unit {0}

same-unless : (W after : World) (halt : Option Halt) (which : Event) → SameWords W after → SameGoing W (unless halt which after)
same-unless W after (Some halt) which same = tt
same-unless W after None which same = same

same-by : (run : Run) (W : World) (t : ℕ) (now : Moment) (came : Came) → SameGoing W (going_by run W t now came)
same-by run W t now (Occurs what tree) =
    let one = effect_of_point run W t now what in
    let after = past_point W one t now what in
    same-unless W after (fault_of_point W t now.task what) (event_of_point W t what) (same-then W one after (same-point run W t now what) (same-code one (current one t) _))
same-by run W t now (Traps trap) = tt
same-by run W t now (Limits limit) = tt
same-by run W t now (StepsTo next) = tt
same-by run W t now (Asks ask tree) = tt
same-by run W t now (Ends number) = tt

same-in_code : (run : Run) (W : World) (t : ℕ) → SameGoing W (go_of_code run W t)
unfolding go_of_code
same-in_code run W t = let now = told W t in same-by run W t now (silent run.program (view_of W t) now)

same-go : (run : Run) (W after : World) (t : ℕ) (e : Event) → GoOf run W t e after → SameWords W after
same-go run W after t e (OfCode comes happens) = subst (SameGoing W) happens (same-in_code run W t)
same-go run W after t e (Beside meets happens) = subst (SameGoing W) happens (same-unless W (effect_of W t e) (fault_of W t e) e (same-beside W t e))

-- Silent steps.

same-past : (W : World) (t : ℕ) → SameWords W (with_masked_skipped W t)
same-past W t = same-code W (current W t) _

same-gone : (W : World) (k : ℕ) (now : Moment) → SameWords W (gone_to W k now)
same-gone W k now = let one = with_code W k now.task in same-then W one (gone_to W k now) (same-code W k now.task) (same-lists one (gone_to W k now) refl refl refl)

same-answered : (W : World) (t : ℕ) (what : Ask) (tree : Tree) → SameWords W (answered W t what tree)
same-answered W t what tree =
    let given = answer_to W t what in
    let now = after_answer (view_of W t) given (moment_of W t) in
    let one = gone_to W (current W t) now in
    let two = with_taken_share one t (share_taken tree given) in
    let after = answered W t what tree in
    same-then W one after (same-gone W (current W t) now) (same-then one two after (same-thread one t _ refl) (same-team two (current_region W t) (team_after W t what)))

same-silence : (W before : World) (t : ℕ) (came : Came) → SameWords before W → AfterSilence (SameWords before) (silence_of W t came)
same-silence W before t (StepsTo next) so = same-then before W (gone_to W (current W t) next) so (same-gone W (current W t) next)
same-silence W before t (Asks what tree) so = same-then before W (answered W t what tree) so (same-answered W t what tree)
same-silence W before t (Occurs what tree) so = so
same-silence W before t (Ends number) so = so
same-silence W before t (Traps trap) so = tt
same-silence W before t (Limits limit) so = tt

same-step : (run : Run) (W before : World) (t : ℕ) → SameWords before W → AfterSilence (SameWords before) (silent_step run W t)
unfolding silent_step
same-step run W before t so = same-silence W before t (silent run.program (view_of W t) (moment_of W t)) so

-- A turn.

same-turned : (run : Run) (W after : World) (t : ℕ) (came : Outcome) → Turned run (SameWords W) t after came → SameWords W after
same-turned run W after t (outcome.Happens e) so = same-then W so.before after so.holds (same-go run so.before after t e so.go)
same-turned run W after t outcome.Idle so = so
same-turned run W after t outcome.Quiet so = so
same-turned run W after t (outcome.Halts halt) so = so

pub same-turn : (run : Run) (S : State) (t : ℕ) → SameWords S.world (turn run S t).state.world
same-turn run S t =
    same-turned run S.world (turn run S t).state.world t (turn run S t).outcome
    (of-turn run t (SameWords S.world) (λ W so. same-then S.world W (with_masked_skipped W t) so (same-past W t))
    (λ W steps so. same-step run W S.world t so) S (same-same S.world))
