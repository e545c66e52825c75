-- What the tasks that are kept are seen as, where one of them is written.
use Rattle.std.proofs.Common.{◌≡◌, ℕ, zero, suc, ◌+◌, ◌-◌, ◌<◌, List, [], ◌∷◌, ◌++◌, length, slice_set, slice_index_or, Some, refl, sym, ap, ◌∙◌, subst, arith}
use Rattle.std.proofs.Math.ListN.{get_or-map}
use Rattle.std.proofs.lemmas.List.{get_or-set_same, length-set, map-set, map_push, set-get_or}
use Rattle.c_syntax.specs.language.Numbered.{TreeView}
use Rattle.c_model.specs.declared.view.View.{View}
use Rattle.c_model.specs.Step.{settled_moment, silent}
use Rattle.c_model.specs.Task.{Moment, Store, Task as Code}
use Rattle.c_model.specs.Task.Outcome.{StepsTo}
use Rattle.c_model.specs.Upcoming.{upcoming_of}
use Rattle.c_model.specs.declared.upcoming.Upcoming.TheVariants as upcoming
use Rattle.c_steps.specs.declared.next.Next.{Next}
use Rattle.c_steps.specs.declared.next.Next.TheVariants as next
use Rattle.c_steps.specs.Advancing.{IsKept as IsAfterAdvance, IsLeft, IsNamed}
use Rattle.c_steps.specs.ControlView.{ControlView, moment_at, outcome_at, task_at}
use Rattle.c_steps.specs.Trying.{HaveStepsMade, IsStepMade, IsUntouched}
use Rattle.omp_model.specs.State.{Task as Seen, no_task, task_with}
use Rattle.omp_board.specs.declared.task.Task.{Task}
use Rattle.omp_board.specs.Keeping.{control_at, kept_nothing, seen_task, seen_tasks}
use Rattle.omp_board.specs.declared.tasks.TaskRoom.{TaskRoom}
use Rattle.omp_board.specs.Tasks.{HasSteppedIn, HaveSteppedIn, IsNamedIn, IsStill, TasksView, code_in, code_of, gone_in, moment_in, one_step_less, room_after, task_in, with_code_in, with_one_more, with_task_in}

-- what the parts are seen as
abbrev pub seen : TreeView → List Task → Store → TaskRoom → TasksView
seen program tasks store room = record { program = program; tasks = seen_tasks program tasks; store = store; room = room }

pub seen_at : (program : TreeView) (tasks : List Task) (k : ℕ) → slice_index_or (seen_tasks program tasks) k no_task ≡ seen_task program (slice_index_or tasks k kept_nothing)
seen_at program tasks k = get_or-map (seen_task program) tasks k kept_nothing

module _ (program : TreeView) (tasks : List Task) (store : Store) (room : TaskRoom) (view : TasksView) (is : seen program tasks store room ≡ view) where
  pub code_at : (k : ℕ) → code_of program (control_at tasks k) ≡ code_in view k
  code_at k = sym (ap (λ (task : Seen). task.code) (seen_at program tasks k)) ∙ ap (λ (view : TasksView). code_in view k) is

  -- one more task is made
  pub one_more_seen : (task : Task) (now : List Task) (code : Code) → now ≡ tasks ++ task ∷ [] → seen_task program task ≡ task_with code → seen program now store (record room { tasks = 0 }) ≡ with_one_more view code
  one_more_seen task now code pushed made =
      ap (λ (all : List Seen). record (seen program tasks store room) { tasks = all; room = record room { tasks = 0 } })
      (ap (seen_tasks program) pushed ∙ map_push (seen_task program) tasks task ∙ ap (λ (last : Seen). seen_tasks program tasks ++ last ∷ []) made)
      ∙ ap (λ (view : TasksView). with_one_more view code) is

-- no step was made, so that the control is left alone
left_by : (program : TreeView) (sight : View) (of : Next) (old : ControlView) (before : Store) (new : ControlView) (after : Store) → IsStill of → IsAfterAdvance program sight of old before new after → IsLeft program sight old before new after
left_by program sight next.Quiet old before new after still kept = absurd still
left_by program sight (next.Ask ask node) old before new after still kept = kept
left_by program sight (next.Event point node) old before new after still kept = kept
left_by program sight (next.Ended number) old before new after still kept = kept
left_by program sight (next.Trap trap) old before new after still kept = kept
left_by program sight (next.Limit limit) old before new after still kept = kept

named_by : (program : TreeView) (of : Next) (new : ControlView) → IsNamed program of new → IsNamedIn program of (task_at program new).todo
named_by program next.Quiet new named = tt
named_by program (next.Ask ask node) new named = named
named_by program (next.Event point node) new named = named
named_by program (next.Ended number) new named = tt
named_by program (next.Trap trap) new named = tt
named_by program (next.Limit limit) new named = tt

pub same_room : (of : Next) (room : TaskRoom) → (of ≡ next.Quiet → ⊥) → room_after of room ≡ room
same_room next.Quiet room not = absurd (not refl)
same_room (next.Ask ask node) room not = refl
same_room (next.Event point node) room not = refl
same_room (next.Ended number) room not = refl
same_room (next.Trap trap) room not = refl
same_room (next.Limit limit) room not = refl

module _ (program : TreeView) (tasks : List Task) (store : Store) (room : TaskRoom) (view : TasksView) (is : seen program tasks store room ≡ view) (k : ℕ) (kept : Task) (found : kept ≡ slice_index_or tasks k kept_nothing) where
  pub task_found : seen_task program kept ≡ task_in view k
  task_found = ap (seen_task program) found ∙ sym (seen_at program tasks k) ∙ ap (λ (view : TasksView). task_in view k) is

  -- the task is changed
  pub wrote : (new : Task) (change : Seen → Seen) → seen_task program new ≡ change (seen_task program kept) → seen program (slice_set tasks k new) store room ≡ with_task_in view k (change (task_in view k))
  wrote new change so =
      ap (λ (now : List Seen). record (seen program tasks store room) { tasks = now }) (map-set (seen_task program) tasks k new ∙ ap (slice_set (seen_tasks program tasks) k) (so ∙ ap change task_found))
      ∙ ap (λ (before : TasksView). with_task_in before k (change (task_in view k))) is

  module _ (control new : ControlView) (after : Store) (is_kept : kept.control ≡ Some control) where
    pub moment_found : moment_at program control store ≡ moment_in view k
    moment_found =
        let code : task_at program control ≡ code_in view k = sym (ap (code_of program) is_kept) ∙ ap (λ (task : Seen). task.code) task_found in
        λ i. record { task = code i; store = (is i).store }

    abbrev changed : Task
    changed = record kept { control = Some new }

    -- the task's code has gone on
    pub gone : (now : Moment) (change : TaskRoom → TaskRoom) → moment_at program new after ≡ now → seen program (slice_set tasks k changed) after (change room) ≡ record (gone_in view k now) { room = change view.room }
    gone now change went =
        ap (λ (view : TasksView). record view { store = after; room = change room }) (wrote changed (λ (task : Seen). record task { code = task_at program new }) refl)
        ∙ ap (λ (before : TasksView). record (with_code_in view k (task_at program new)) { store = after; room = change before.room }) is
        ∙ ap (λ (now : Moment). record (gone_in view k now) { room = change view.room }) went

    module _ (within : k < length tasks) where
      abbrev behind : TasksView
      behind = seen program (slice_set tasks k changed) after room

      moment_now : moment_in behind k ≡ moment_at program new after
      moment_now =
          ap (λ (task : Seen). record { task = task.code; store = after })
          (seen_at program (slice_set tasks k changed) k ∙ ap (seen_task program) (get_or-set_same tasks k changed kept_nothing within))

      pub stepped : (of : Next) (sight : View) → outcome_at program of (moment_at program new after) ≡ silent program sight (moment_at program control store) → outcome_at view.program of (moment_in behind k) ≡ silent view.program sight (moment_in view k)
      stepped of sight so =
          subst (λ (program : TreeView). outcome_at program of (moment_in behind k) ≡ silent program sight (moment_in view k)) (ap (λ (view : TasksView). view.program) is)
          (ap (outcome_at program of) moment_now ∙ so ∙ ap (silent program sight) moment_found)

      pub gone_on : (change : TaskRoom → TaskRoom) (room_now : TaskRoom) → room_now ≡ change room → record behind { room = room_now } ≡ record (gone_in view k (moment_in behind k)) { room = change view.room }
      gone_on change room_now is_room =
          ap (λ (room : TaskRoom). seen program (slice_set tasks k changed) after room) is_room ∙ gone (moment_in behind k) change (sym moment_now)

      pub stays : (of : Next) (sight : View) → IsAfterAdvance program sight of control store new after → IsStill of → moment_in behind k ≡ settled_moment sight (moment_in view k)
      stays of sight kept still =
          let left = left_by program sight of control store new after still kept in
          moment_now ∙ (λ i. record { task = left.task i; store = left.store i }) ∙ ap (settled_moment sight) moment_found

      pub named_so : (of : Next) → IsNamed program of new → IsNamedIn view.program of (code_in behind k).todo
      named_so of named =
          let so = named_by program of new named in
          subst (λ (program : TreeView). IsNamedIn program of (code_in behind k).todo) (ap (λ (view : TasksView). view.program) is)
          (subst (λ (now : Moment). IsNamedIn program of now.task.todo) (sym moment_now) so)

      -- a step that was tried was made ..
      pub has_stepped : (change : TaskRoom → TaskRoom) (room_now : TaskRoom) (sight : View) → room_now ≡ change room → IsStepMade program sight control store new after →
          (silent view.program sight (moment_in view k) ≡ StepsTo (moment_in behind k)) × (upcoming_of sight (code_in view k) ≡ upcoming.Step) × (record behind { room = room_now } ≡ record (gone_in view k (moment_in behind k)) { room = change view.room })
      has_stepped change room_now sight is_room made = (
        sym (stepped next.Quiet sight (sym made.step)),
        sym (ap (λ (now : Moment). upcoming_of sight now.task) moment_found) ∙ made.upcoming,
        gone_on change room_now is_room,
      )

    same_task : task_at program new ≡ task_at program control → seen_task program changed ≡ seen_task program kept
    same_task same i = record (seen_task program kept) { code = (same ∙ sym (ap (code_of program) is_kept)) i }

    -- .. or nothing was done
    pub untouched : IsUntouched program control store new after → seen program (slice_set tasks k changed) after room ≡ view
    untouched left =
        ap (λ (now : Store). seen program (slice_set tasks k changed) now room) left.store
        ∙ wrote changed (λ (task : Seen). task) (same_task left.task)
        ∙ ap (λ (now : List Seen). record view { tasks = now }) (set-get_or view.tasks k no_task)

-- where one of them is written twice, the first time leaves nothing
set_twice : (tasks : List Task) (k : ℕ) (first second : Task) → slice_set (slice_set tasks k first) k second ≡ slice_set tasks k second
set_twice [] k first second = refl
set_twice (it ∷ tasks) zero first second = refl
set_twice (it ∷ tasks) (suc k) first second = ap (λ (rest : List Task). it ∷ rest) (set_twice tasks k first second)

-- the room when so many steps were made
abbrev pub fewer : ℕ → TaskRoom → TaskRoom
fewer count room = record room { steps = room.steps - count }

-- what a control has left
pub spare_left : (program : TreeView) (sight : View) (count : ℕ) (old new : ControlView) (before after : Store) → HaveStepsMade program sight count old before new after → new.spare + count ≡ old.spare
spare_left program sight zero old new before after left = let same = left.spare in omega (arith, same)
spare_left program sight (suc count) old new before after (between, middle, so, last) =
    let earlier = spare_left program sight count old between before middle so in
    let made = last.kept.spare in
    omega (arith, earlier, made)

pub passes_left : (program : TreeView) (sight : View) (count : ℕ) (old new : ControlView) (before after : Store) → HaveStepsMade program sight count old before new after → new.passes ≡ old.passes
passes_left program sight zero old new before after left = left.passes
passes_left program sight (suc count) old new before after (between, middle, so, last) = last.kept.passes ∙ passes_left program sight count old between before middle so

-- steps that were made one after another
module _ (program : TreeView) (tasks : List Task) (store : Store) (room : TaskRoom) (view : TasksView) (is : seen program tasks store room ≡ view) (k : ℕ) (kept : Task) (found : kept ≡ slice_index_or tasks k kept_nothing) (control : ControlView) (is_kept : kept.control ≡ Some control) (within : k < length tasks) where
  abbrev held : ControlView → Task
  held control = record kept { control = Some control }

  abbrev pub after_steps : ℕ → ControlView → Store → TasksView
  after_steps count new after = seen program (slice_set tasks k (held new)) after (fewer count room)

  one_more : (count : ℕ) (between new : ControlView) (middle after : Store) (sight : View) → IsStepMade program sight between middle new after → HasSteppedIn (after_steps count between middle) sight k (after_steps (suc count) new after)
  one_more count between new middle after sight last =
      let list : List Task = slice_set tasks k (held between) in
      let inside : k < length list = subst (λ (n : ℕ). k < n) (sym (length-set tasks k (held between))) within in
      let steps : room.steps - suc count ≡ room.steps - count - 1 = omega arith in
      let so = has_stepped program list middle (fewer count room) (after_steps count between middle) refl k (held between) (sym (get_or-set_same tasks k (held between) kept_nothing within)) between new after refl inside one_step_less (fewer (suc count) room) sight (λ i. record room { steps = steps i }) last in
      subst (λ (list : List Task). HasSteppedIn (after_steps count between middle) sight k (seen program list after (fewer (suc count) room))) (set_twice tasks k (held between) (held new))
      (record { step = so.0; upcoming = so.1; rest = so.2 })

  pub have_stepped : (count : ℕ) (new : ControlView) (after : Store) (sight : View) → HaveStepsMade program sight count control store new after → HaveSteppedIn count view sight k (after_steps count new after)
  have_stepped zero new after sight left =
      let none : room.steps - zero ≡ room.steps = omega arith in
      ap (λ (steps : ℕ). seen program (slice_set tasks k (held new)) after (record room { steps = steps })) none ∙ untouched program tasks store room view is k kept found control new after is_kept left
  have_stepped (suc count) new after sight (between, middle, so, last) =
      (after_steps count between middle, (have_stepped count between middle sight so, one_more count between new middle after sight last))
