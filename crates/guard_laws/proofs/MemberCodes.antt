-- A member that has just begun has its code from the code of the task that has forked its region.
use Rattle.std.proofs.Common.{ℕ, ◌≡◌, ◌≤◌, ◌<◌, Bool, true, false, if◌then◌else◌, List, [], ◌∷◌, length, slice_index_or, slice_set, refl, sym, ap, ◌∙◌, subst}
use Rattle.std.specs.Prelude.{Option, Some, None}
use Rattle.std.proofs.lemmas.List.{get_or_append_left, get_or_push}
use Rattle.c_model.specs.declared.point.Point.{Point}
use Rattle.c_model.specs.declared.point.Point.TheVariants as point
use Rattle.c_model.specs.declared.point.Work.{Work}
use Rattle.c_model.specs.declared.point.Work.TheVariants as work
use Rattle.c_model.specs.Begin.{blank_task, member_task}
use Rattle.c_model.specs.Step.{silent}
use Rattle.c_model.specs.Task.{Moment, Outcome as Came, Task as Code}
use Rattle.c_model.specs.Task.Outcome.{Asks, Ends, Limits, Occurs, StepsTo, Traps}
use Rattle.task_pool.specs.declared.task.TaskKind.TheVariants as kind
use Rattle.task_pool.specs.Tasks.{is_finished}
use Rattle.task_pool.specs.View.{with_started}
use Rattle.omp_model.specs.declared.event.Event.{Event}
use Rattle.omp_model.specs.declared.event.Event.TheVariants.{MemberBegin}
use Rattle.omp_model.specs.declared.event.Halt.{Halt}
use Rattle.omp_model.specs.declared.event.Outcome.TheVariants.{Happens}
use Rattle.omp_model.specs.declared.history.Entry.{Entry}
use Rattle.omp_model.proofs.Alike.{QuietWorld}
use Rattle.omp_model.specs.Changes.{with_started_task, taken_up, task_made}
use Rattle.omp_model.specs.EventEffects.{Going, after_member, effect_of, event_of_point, fault_of, fault_of_point, going_by, go_of_code, has_forked, member_code, past_point, effect_of_point, told, unless}
use Rattle.omp_model.specs.EventEffects.{Halts, Nothing}
use Rattle.omp_model.specs.EventEffects.{Happens as Goes}
use Rattle.omp_model.specs.Legal.{after}
use Rattle.omp_model.specs.MadeWorld.{IsMadeWorld, IsRegionOf}
use Rattle.omp_model.specs.Members.{member_index, view_of}
use Rattle.omp_model.specs.State.{Region, Run, Task, World, no_region, no_task, pooled_at, region_at, task_at, task_with}
use Rattle.omp_model.specs.Turn.{turn}
use Rattle.omp_model.proofs.AlikeWorlds.{made-alike, quiet-turn}
use Rattle.omp_model.proofs.Arriving.{Arrives, AtMember, arrives}
use Rattle.omp_model.proofs.MadeRuns.{made-after}
use Rattle.omp_model.proofs.Reading.{read-same}
use Rattle.omp_model.proofs.Turning.{Beside, GoFrom, GoOf, OfCode, Turned}

-- Of the code comes no begin of a member.

abbrev is_member_begin : Event → Bool
is_member_begin (MemberBegin r k) = true
is_member_begin other = false

work-apart : (W : World) (t codeptr : ℕ) (what : Work) → is_member_begin (event_of_point W t (point.WorkBegin codeptr what)) ≡ false
work-apart W t codeptr (work.Loop start count step how) = refl
work-apart W t codeptr (work.Sections count) = refl
work-apart W t codeptr work.Single = refl

point-apart : (W : World) (t : ℕ) (what : Point) → is_member_begin (event_of_point W t what) ≡ false
point-apart W t (point.WorkBegin codeptr what) = work-apart W t codeptr what
point-apart W t other = refl

-- where the event happens, it is none
abbrev GoesApart : Going → Type 0
GoesApart Nothing = Unit {0}
GoesApart (Goes e after) = is_member_begin e ≡ false
GoesApart (Halts halt) = Unit {0}

unless-apart : (halt : Option Halt) (e : Event) (after : World) → is_member_begin e ≡ false → GoesApart (unless halt e after)
unless-apart (Some halt) e after apart = tt
unless-apart None e after apart = apart

by-apart : (run : Run) (W : World) (t : ℕ) (now : Moment) (came : Came) → GoesApart (going_by run W t now came)
by-apart run W t now (Occurs what tree) =
    unless-apart (fault_of_point W t now.task what) (event_of_point W t what) (past_point W (effect_of_point run W t now what) t now what) (point-apart W t what)
by-apart run W t now (Traps trap) = tt
by-apart run W t now (Limits limit) = tt
by-apart run W t now (StepsTo next) = tt
by-apart run W t now (Asks ask tree) = tt
by-apart run W t now (Ends number) = tt

in_code-apart : (run : Run) (W : World) (t : ℕ) → GoesApart (go_of_code run W t)
unfolding go_of_code
in_code-apart run W t = let now = told W t in by-apart run W t now (silent run.program (view_of W t) now)

-- What the begin of a member makes.

started-tasks : (W : World) (k : ℕ) → (with_started_task W k).tasks ≡ W.tasks
started-tasks W k = by (is_finished (pooled_at W k).condition)
  where
    by : (b : Bool) → (if b then W else record W { pool = with_started W.pool k }).tasks ≡ W.tasks
    by true = refl
    by false = refl

started-regions : (W : World) (k : ℕ) → (with_started_task W k).regions ≡ W.regions
started-regions W k = by (is_finished (pooled_at W k).condition)
  where
    by : (b : Bool) → (if b then W else record W { pool = with_started W.pool k }).regions ≡ W.regions
    by true = refl
    by false = refl

module _ (W : World) (t r : ℕ) where
  abbrev parent : ℕ
  parent = (region_at W r).head.task

  abbrev fresh : World
  fresh = task_made W parent r kind.Implicit (member_code (task_at W parent).code)

  -- the codes are those of the tasks that there are now
  codes-made : (k j : ℕ) → (task_at (after_member W t r k) j).code ≡ (task_at fresh j).code
  codes-made k j =
      read-same (λ (x : Task). x.code) no_task (with_started_task fresh k).tasks k j (record (task_at (with_started_task fresh k) k) { thread = t }) refl
      ∙ ap (λ (tasks : List Task). (slice_index_or tasks j no_task).code) (started-tasks fresh k)

  -- the region has the same encountering task
  parent-kept : (k : ℕ) → (region_at (after_member W t r k) r).head.task ≡ parent
  parent-kept k =
      let begun = taken_up (with_started_task fresh k) t k in
      read-same (λ (x : Region). x.head.task) no_region begun.regions r r
      (record (region_at begun r) { head = record (region_at begun r).head { members = slice_set (region_at begun r).head.members (member_index W t r) k } }) refl
      ∙ ap (λ (regions : List Region). (slice_index_or regions r no_region).head.task) (started-regions fresh k)

  own-code : (k : ℕ) → k ≡ length W.tasks → (task_at (after_member W t r k) k).code ≡ member_code (task_at W parent).code
  own-code k is = codes-made k k ∙ ap (λ (x : Task). x.code) (get_or_push W.tasks (task_with (member_code (task_at W parent).code)) no_task k (sym is))

  parent-code : (k : ℕ) → parent < length W.tasks → (task_at (after_member W t r k) (region_at (after_member W t r k) r).head.task).code ≡ (task_at W parent).code
  parent-code k within =
      ap (λ (j : ℕ). (task_at (after_member W t r k) j).code) (parent-kept k) ∙ codes-made k parent
      ∙ ap (λ (x : Task). x.code) (get_or_append_left W.tasks (task_with (member_code (task_at W parent).code) ∷ []) no_task parent within)

  member-coded : (k : ℕ) → AtMember W t r k → IsMadeWorld W → has_forked (task_at (after_member W t r k) (region_at (after_member W t r k) r).head.task).code.todo ≡ true →
      (task_at (after_member W t r k) k).code ≡ member_task (task_at (after_member W t r k) (region_at (after_member W t r k) r).head.task).code
  member-coded k at made forked =
      let joins = made.threads t in
      let region = (subst (λ (i : ℕ). 1 ≤ i → IsRegionOf W t i) (sym at.region) joins.joins at.some).made in
      let code = parent-code k (made.regions r region).task in
      let has : has_forked (task_at W parent).code.todo ≡ true = ap (λ (code : Code). has_forked code.todo) (sym code) ∙ forked in
      own-code k at.task ∙ ap (λ (b : Bool). if b then member_task (task_at W parent).code else blank_task) has ∙ ap member_task (sym code)

-- The turn in which a member begins.

unless-effect : (halt : Option Halt) (e other : Event) (one after : World) → unless halt e one ≡ Goes other after → one ≡ after
unless-effect (Some halt) e other one after same = cc
unless-effect None e other one after same = cc

-- where the end of the region stands next in the code of the task that has forked it
abbrev pub HasCode : World → ℕ → ℕ → Type 0
HasCode W r k = has_forked (task_at W (region_at W r).head.task).code.todo ≡ true → (task_at W k).code ≡ member_task (task_at W (region_at W r).head.task).code

coded-go : (run : Run) (W after : World) (t r k : ℕ) → GoOf run W t (MemberBegin r k) after → IsMadeWorld W → HasCode after r k
unfolding effect_of
coded-go run W after t r k (OfCode comes happens) made = absurd (let wrong : true ≡ false = subst GoesApart happens (in_code-apart run W t) in cc)
coded-go run W after t r k (Beside meets happens) made =
    subst (λ (after : World). HasCode after r k)
    (unless-effect (fault_of W t (MemberBegin r k)) (MemberBegin r k) (MemberBegin r k) (effect_of W t (MemberBegin r k)) after happens)
    (member-coded W t r k (subst (Arrives W t) meets (arrives W t)) made)

pub code-after : (run : Run) (history : List Entry) (t r k : ℕ) → 1 ≤ run.threads → (turn run (after run history) t).outcome ≡ Happens (MemberBegin r k) →
    HasCode (turn run (after run history) t).state.world r k
code-after run history t r k some happens =
    let S = after run history in
    let next = (turn run S t).state.world in
    let from : GoFrom run (QuietWorld t S.world) t (MemberBegin r k) next = subst (Turned run (QuietWorld t S.world) t next) happens (quiet-turn run t S) in
    let made = (made-alike S.world from.before from.holds.alike (made-after run history some).world).world in
    coded-go run from.before next t r k from.go made
