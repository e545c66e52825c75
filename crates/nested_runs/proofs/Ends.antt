-- Where main returned and all threads have ended, nothing is open (rule 13).
use Rattle.std.proofs.Common.{ℕ, ◌≡◌, ◌≢◌, ◌<◌, ◌≤◌, ◌+◌, ◌==◌, ◌&&◌, ◌||◌, not, nat_le, Bool, true, false, if◌then◌else◌, List, [], ◌∷◌, length, get_or, refl, sym, ap, ◌∙◌, subst, inl, inr, arith}
use Rattle.std.specs.Prelude.{Some, None, ◌-◌, nat_lt, take}
use Rattle.std.specs.List.{list_any}
use Rattle.std.proofs.lemmas.Bool.{and_parts, cases_Bool, cases_eq, cases_lt, cond-false, cond-true, eq-eqb, eqb-false, eqb-true, false≢true, leb-true, ltb-true, ne_eqb, not-false, not-true, not_from_false, or_left, or_right}
use Rattle.std.proofs.lemmas.List.{get_or-take, get_or_past, length-take}
use Rattle.std.proofs.lemmas.List.Folds.{list_any_at, sum_by-zero}
use Rattle.std.proofs.lemmas.List.Sums.{AllPass-from_list_all, list_all-from_AllPass, sum_by-cons}
use Rattle.ompt_calls.specs.declared.call.Call.{Call}
use Rattle.ompt_calls.specs.declared.call.Call.TheVariants.{ParallelBegin}
use Rattle.ompt_calls.specs.declared.event.EventRecord.{EventRecord}
use Rattle.task_pool.specs.declared.task.Condition.{Condition}
use Rattle.task_pool.specs.declared.task.Condition.TheVariants as condition
use Rattle.task_pool.specs.declared.task.Task.{Task as PoolTask}
use Rattle.task_pool.specs.Tasks.{is_explicit, is_finished, is_open, no_task as no_pooled}
use Rattle.omp_model.specs.declared.parts.ThreadStage.{ThreadStage}
use Rattle.omp_model.specs.declared.parts.ThreadStage.TheVariants as thread_stage
use Rattle.omp_model.specs.State.{Run, State, Thread, World, pooled_at, region_at, task_at, thread_at, unmade}
use Rattle.omp_model.specs.Cause.{none_pending, threads_over}
use Rattle.omp_model.specs.Gates.{is_out}
use Rattle.omp_model.specs.MadeWorld.{IsTask}
use Rattle.omp_model.specs.Members.{is_explicit_task, region_of}
use Rattle.trace_check.specs.Before.{Creation, creations, events_of, has_begun_region, has_ended as was_ended, has_ended_region, is_begin, is_complete, is_created, is_just, is_of, region_begun}
use Rattle.trace_check.specs.Checking.{Unbroken}
use Rattle.trace_check.specs.Nested.{are_regions_over, are_tasks_complete, has_begun, have_ended, is_closed, is_region_over}
use Rattle.trace_check.specs.Rules.{first_broken, keeps_threads}
use Rattle.nested_runs.proofs.Recorded.{inside}
use Rattle.nested_runs.proofs.Known.{HasNoTasks, has_left_region, is_begun, is_ending, is_over, is_running, stands_on}
use Rattle.nested_runs.proofs.Knows.{Knows}

-- ---- what is told of a thread

-- an event that breaks no rule keeps the one of threads
threads-kept : (past : List EventRecord) (event : EventRecord) → first_broken past event ≡ None → keeps_threads past event ≡ true
threads-kept past event none =
    elim (cases_Bool (keeps_threads past event)) [
      | inl kept ↦ kept
      | inr broken ↦ let is : first_broken past event ≡ Some 2 =
          cond-true (not (keeps_threads past event)) (Some 2) _ (not_from_false (keeps_threads past event) broken) in cc
    ]

-- a thread that has had an event has begun
begun-next : (mine begins : Bool) (t : ℕ) (event : EventRecord) (past : List EventRecord) → is_of t event ≡ mine → is_begin event.call ≡ begins
    → first_broken past event ≡ None →
    (1 ≤ events_of t past → list_any (λ (one : EventRecord). is_of t one && is_begin one.call) past ≡ true) → 1 ≤ events_of t (event ∷ past) →
    (mine && begins || list_any (λ (one : EventRecord). is_of t one && is_begin one.call) past) ≡ true
begun-next true true t event past own call none rest some = refl
begun-next true false t event past own call none rest some =
    let kept : (not (events_of event.thread past == 0) && not (was_ended event.thread past)) ≡ true =
    sym (ap (λ b. if b then events_of event.thread past == 0 else not (events_of event.thread past == 0) && not (was_ended event.thread past)) call)
    ∙ threads-kept past event none in
    let parts = and_parts (not (events_of event.thread past == 0)) _ kept in
    let more : events_of event.thread past ≡ 0 → ⊥ = eqb-false (events_of event.thread past) 0 (not-true (events_of event.thread past == 0) parts.0) in
    rest (elim (cases_lt 0 (events_of t past)) [
      | inl less ↦ omega (arith, less)
      | inr zeroth ↦ absurd (more (ap (λ u. events_of u past) (eqb-true event.thread t own) ∙ omega (arith, zeroth)))
    ])
begun-next false begins t event past own call none rest some =
    rest (omega (arith, some, sum_by-cons (λ (one : EventRecord). if is_of t one then 1 else 0) event past, ap {B = ℕ} (λ b. if b then 1 else 0) own))

-- .. among all events
begun-there : (t : ℕ) (past : List EventRecord) → Unbroken past → 1 ≤ events_of t past
    → list_any (λ (one : EventRecord). is_of t one && is_begin one.call) past ≡ true
begun-there t [] unbroken some = let none : 1 ≤ 0 = some in absurd (omega (arith, none))
begun-there t (event ∷ past) unbroken some =
    begun-next (is_of t event) (is_begin event.call) t event past refl refl unbroken.0 (λ more. begun-there t past unbroken.1 more) some

-- an event is one of its thread
one-of : (past : List EventRecord) (n : ℕ) (d : EventRecord) → n < length past → 1 ≤ events_of (get_or past n d).thread past
one-of past n d within =
    elim (cases_lt 0 (events_of (get_or past n d).thread past)) [
      | inl more ↦ omega (arith, more)
      | inr none ↦
          let event : EventRecord = get_or past n d in
          let all = AllPass-from_list_all (λ (one : EventRecord). (if is_of event.thread one then 1 else 0) == 0) past
          (sym (sum_by-zero (λ (one : EventRecord). if is_of event.thread one then 1 else 0) past) ∙ eq-eqb (events_of event.thread past) 0
          (omega (arith, none))) in
          let here : ((if is_of event.thread event then 1 else 0) == 0) ≡ true = all n d within in
          let is : ((if true then 1 else 0) == 0) ≡ true = sym (ap (λ b. (if b then 1 else 0) == 0) (eq-eqb event.thread event.thread refl)) ∙ here in
          absurd (false≢true is)
    ]

-- the stages of a thread that isn't there any more
out-begun : (now : ThreadStage) → is_out now ≡ true → is_begun now ≡ true → now ≡ thread_stage.Ended
out-begun thread_stage.Unmade out begun = cc
out-begun thread_stage.Made out begun = cc
out-begun thread_stage.Begun out begun = cc
out-begun thread_stage.Ended out begun = refl

out-made : (now : ThreadStage) → is_out now ≡ true → now ≢ thread_stage.Unmade → now ≡ thread_stage.Ended
out-made thread_stage.Unmade out made = absurd (made refl)
out-made thread_stage.Made out made = cc
out-made thread_stage.Begun out made = cc
out-made thread_stage.Ended out made = refl

out-running : (now : ThreadStage) → is_out now ≡ true → is_running now ≡ false
out-running thread_stage.Unmade out = refl
out-running thread_stage.Made out = refl
out-running thread_stage.Begun out = cc
out-running thread_stage.Ended out = refl

-- ---- regions and tasks

-- what an event begins, read off its call
over-call : (past : List EventRecord) (seq thread state wait_id : ℕ) (call : Call) → ((r : ℕ) → region_begun call ≡ Some r → has_ended_region r past ≡ true) →
    is_region_over past (record { seq = seq; thread = thread; state = state; wait_id = wait_id; call = call }) ≡ true
over-call past seq thread state wait_id (ParallelBegin task frame region requested flags codeptr) ends = ends region.identity refl
over-call past seq thread state wait_id other ends = refl

-- the last condition
finished-is : (now : Condition) → is_finished now ≡ true → now ≡ condition.Finished
finished-is condition.Made is = cc
finished-is condition.Ready is = cc
finished-is condition.Started is = cc
finished-is condition.Finished is = refl

-- an explicit task that isn't unfinished has finished
shut-finished : (task : PoolTask) → is_explicit task.kind ≡ true → is_open task ≡ false → task.condition ≡ condition.Finished
shut-finished task explicit shut =
    finished-is task.condition (not-false (is_finished task.condition) (sym (ap (λ b. b && not (is_finished task.condition)) explicit) ∙ shut))

-- .. and it was made
explicit-made : (W : World) (k : ℕ) → length W.tasks ≡ length W.pool.tasks + 1 → is_explicit_task W k ≡ true → IsTask W k
explicit-made W k pooled explicit =
    elim (cases_eq k 0) [
      | inl zeroth ↦ absurd (false≢true (sym (ap (λ (task : PoolTask). is_explicit task.kind) (cond-true (k == 0) _ _ (eq-eqb k 0 zeroth))) ∙ explicit))
      | inr some ↦
          elim (cases_lt (k - 1) (length W.pool.tasks)) [
            | inl within ↦ record { some = omega (arith, some); below = omega (arith, within, pooled, some) }
            | inr past ↦ absurd (false≢true (
                sym (ap (λ (task : PoolTask). is_explicit task.kind)
                (cond-false (k == 0) _ _ (ne_eqb k 0 some) ∙ get_or_past W.pool.tasks (k - 1) no_pooled past)) ∙ explicit))
          ]
    ]

-- no thread is there any more
module _ (run : Run) (S : State) (past : List EventRecord) (knows : Knows run S.world (inside S) past) (unbroken : Unbroken past) (none : none_pending S ≡ true)
    (over : threads_over S.world ≡ true) where
  out : (t : ℕ) → is_out (thread_at S.world t).stage ≡ true
  out t =
      elim (cases_lt t (length S.world.threads)) [
        | inl within ↦ AllPass-from_list_all (λ (thread : Thread). is_out thread.stage) S.world.threads over t unmade within
        | inr past ↦ ap (λ (thread : Thread). is_out thread.stage) (get_or_past S.world.threads t unmade past)
      ]

  -- thread 0 was made, and so has ended
  zeroth : (thread_at S.world 0).stage ≡ thread_stage.Ended
  zeroth = out-made (thread_at S.world 0).stage (out 0) knows.first.made

  -- a thread that has had an event has had its end
  ended-thread : (t : ℕ) → 1 ≤ events_of t past → was_ended t past ≡ true
  ended-thread t some =
      let apart : (events_of t past == 0) ≡ false = ne_eqb (events_of t past) 0 (λ is. omega (arith, some, is)) in
      let begun = not-false (is_begun (thread_at S.world t).stage) (sym (knows.threads t).none ∙ apart) in
      let stage = out-begun (thread_at S.world t).stage (out t) begun in
      (knows.threads t).ended ∙ or_left (is_over (thread_at S.world t).stage) (is_ending (inside S t)) (ap is_over stage)

  -- rule 13 part by part
  begun-zeroth : has_begun past ≡ true
  begun-zeroth =
      begun-there 0 past unbroken (elim (cases_lt 0 (events_of 0 past)) [
        | inl more ↦ omega (arith, more)
        | inr none ↦ absurd (false≢true (sym (ap (λ now. not (is_begun now)) zeroth) ∙ sym (knows.threads 0).none ∙ eq-eqb (events_of 0 past) 0
            (omega (arith, none))))
      ])

  all-ended : have_ended past ≡ true
  all-ended =
      list_all-from_AllPass (λ (event : EventRecord). not (is_begin event.call) || was_ended event.thread past) past
      (λ n d within. or_right (not (is_begin (get_or past n d).call)) (was_ended (get_or past n d).thread past)
      (ended-thread (get_or past n d).thread (one-of past n d within)))

  -- a region that was forked is over, since its task stands on no stack
  ended-region : (r : ℕ) → 2 ≤ r → r < length S.world.regions → (region_at S.world r).head.ended ≡ true
  ended-region r forked made =
      elim (cases_Bool (region_at S.world r).head.ended) [
        | inl is ↦ is
        | inr not ↦
            let holds = knows.seats.holds r (record { forked = forked; made = made; open_still = not }) in
            let k : ℕ = (region_at S.world r).head.task in
            let u : ℕ = (task_at S.world k).thread in
            let none = knows.seats.idle u (out-running (thread_at S.world u).stage (out u)) in
            absurd (false≢true (sym (ap (λ (stack : List ℕ). stands_on k stack) none) ∙ holds.stacked))
      ]

  regions-over : are_regions_over past ≡ true
  regions-over =
      list_all-from_AllPass (is_region_over past) past (λ n d within.
      let event : EventRecord = get_or past n d in
      over-call past event.seq event.thread event.state event.wait_id event.call (λ r is.
      let begun : has_begun_region r past ≡ true =
      list_any_at (λ (one : EventRecord). is_just r (region_begun one.call)) past n d within (ap (is_just r) is ∙ eq-eqb r r refl) in
      let made = and_parts (nat_le 2 r) (nat_lt r (length S.world.regions)) (sym (knows.members.begun r) ∙ begun) in
      knows.members.ended r ∙ ended-region r (leb-true 2 r made.0) (ltb-true r (length S.world.regions) made.1)))

  -- no explicit task is unfinished: of the first region since its task has finished, of another one since its members have left it
  no-tasks : (r : ℕ) → 1 ≤ r → r < length S.world.regions → HasNoTasks S.world r
  no-tasks r some made =
      elim (cases_lt r 2) [
        | inl first ↦ subst (HasNoTasks S.world) (omega (arith, some, first)) (knows.lasts.initial
            (knows.first.over (or_left (is_over (thread_at S.world 0).stage) (is_ending (inside S 0)) (ap is_over zeroth))))
        | inr forked ↦
            let region = knows.sound.made.regions r (record { some = some; below = made }) in
            let told = knows.members.region r forked made in
            let head = (region_at S.world r).head in
            let left = AllPass-from_list_all (λ (flag : Bool). flag) (take head.size head.left) (told.ended (ended-region r forked made)) 0 false
            (omega (arith, length-take head.size head.left, region.some, told.left)) in
            let first : has_left_region S.world r 0 ≡ true = sym (get_or-take head.size head.left 0 false (omega (arith, region.some))) ∙ left in
            (knows.lasts.region r forked made).no_tasks 0 ((knows.lasts.region r forked made).gone 0 first)
      ]

  tasks-complete : are_tasks_complete past ≡ true
  tasks-complete =
      list_all-from_AllPass (λ (creation : Creation). is_complete creation.task past) (creations past) (λ n d within.
      let k : ℕ = (get_or (creations past) n d).task in
      let created : is_created k past ≡ true = list_any_at (λ (creation : Creation). creation.task == k) (creations past) n d within (eq-eqb k k refl) in
      let explicit : is_explicit_task S.world k ≡ true = sym (knows.tasks.created k) ∙ created in
      let made = explicit-made S.world k knows.sound.made.pooled explicit in
      let region = knows.sound.made.placed k made in
      knows.tasks.finished k explicit (shut-finished (pooled_at S.world k) explicit (no-tasks (region_of S.world k) region.some region.below k refl)))

  pub closed : is_closed past ≡ true
  closed = rw (begun-zeroth, all-ended, regions-over, tasks-complete) refl
