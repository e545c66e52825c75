-- How tasks stay kept.
use Rattle.std.proofs.Common.{◌≡◌, ℕ, zero, suc, ◌<◌, ◌≤◌, ◌+◌, ◌-◌, ◌++◌, List, [], ◌∷◌, length, slice_index_or, slice_set, Option, None, Some, IfSome, sym, ap, ◌∙◌, subst, arith}
use Rattle.std.specs.List.{All}
use Rattle.std.proofs.lemmas.List.{get_or-set_same, get_or_append_left, length-append, length-set}
use Rattle.std.proofs.lemmas.List.Elements.{All-cons, All-head, All-nil, All-push, All-set, All-tail}
use Rattle.std.proofs.lemmas.Option.{IfSome_then}
use Rattle.c_syntax.specs.language.Numbered.{TreeView}
use Rattle.c_steps.specs.ControlView.{ControlView}
use Rattle.c_steps.specs.OfProgram.{IsMadeFor}
use Rattle.omp_board.specs.declared.task.Task.{Task}
use Rattle.omp_board.specs.Keeping.{HasRoomIn, IsKept, IsOfProgram, control_at, kept_nothing}
use Rattle.omp_board.specs.declared.tasks.TaskRoom.{TaskRoom}
use Rattle.omp_board.specs.Tasks.{no_task_room}

-- a task keeps no code any more
without : (tasks : List Task) (k j : ℕ) (new : Task) (P : ControlView → Type 0) → new.control ≡ None → IfSome (control_at tasks j) P → IfSome (control_at (slice_set tasks k new) j) P
without [] k j new P none some = some
without (task ∷ tasks) zero zero new P none some = subst (λ (control : Option ControlView). IfSome control P) (sym none) tt
without (task ∷ tasks) zero (suc j) new P none some = some
without (task ∷ tasks) (suc k) zero new P none some = some
without (task ∷ tasks) (suc k) (suc j) new P none some = without tasks k j new P none some

-- the control of a task is of the program
pub made_at : (program : TreeView) (tasks : List Task) (k : ℕ) (control : ControlView) → All (IsOfProgram program) tasks → Some control ≡ control_at tasks k → IsMadeFor program control
made_at program [] k control all is = absurd cc
made_at program (task ∷ tasks) zero control all is = subst (λ (control : Option ControlView). IfSome control (IsMadeFor program)) (sym is) (All-head (IsOfProgram program) task tasks all)
made_at program (task ∷ tasks) (suc k) control all is = made_at program tasks k control (All-tail (IsOfProgram program) task tasks all) is

module _ (program : TreeView) (tasks : List Task) (capacity : ℕ) (blanks : List ControlView) (room : TaskRoom) (kept : IsKept program tasks capacity blanks room) where
  -- one more task
  pub kept_more : (task : Task) → IfSome task.control (IsMadeFor program) → (now : List Task) (capacity_now : ℕ) (blanks_now : List ControlView) → 0 < room.tasks → now ≡ tasks ++ task ∷ [] → capacity ≤ capacity_now → All (IsMadeFor program) blanks_now → IsKept program now capacity_now blanks_now (record room { tasks = 0 })
  kept_more task made now capacity_now blanks_now some is more blanks_made =
      let there = kept.there in
      let longer : length now ≡ length tasks + 1 = ap length is ∙ length-append tasks (task ∷ []) in
      let slots = kept.slots in
      let few = kept.few in
      let same : control_at now room.task ≡ control_at tasks room.task =
      ap (λ (tasks : List Task). control_at tasks room.task) is ∙ ap (λ (task : Task). task.control) (get_or_append_left tasks (task ∷ []) kept_nothing room.task there) in
      record {
        controls = subst (All (IsOfProgram program)) (sym is) (All-push (IsOfProgram program) tasks task kept.controls made);
        blanks_made = blanks_made;
        spare = omega arith;
        slots = omega arith;
        few = omega arith;
        there = omega arith;
        steps = subst (λ (control : Option ControlView). IfSome control (HasRoomIn (record room { tasks = 0 }))) (sym same) (IfSome_then (control_at tasks room.task) kept.steps (λ held has. record { steps = has.steps; passes = has.passes }));
      }

  -- a task keeps no code, and no fewer controls without code are kept
  pub kept_blank : (k : ℕ) (task : Task) (blanks_now : List ControlView) → task.control ≡ None → All (IsMadeFor program) blanks_now → length blanks ≤ length blanks_now → IsKept program (slice_set tasks k task) capacity blanks_now room
  kept_blank k task blanks_now none made more =
      let there = kept.there in
      let many : length (slice_set tasks k task) ≡ length tasks = length-set tasks k task in
      let slots = kept.slots in
      let few = kept.few in
      let spare = kept.spare in
      record {
        controls = All-set (IsOfProgram program) tasks k task (subst (λ (control : Option ControlView). IfSome control (IsMadeFor program)) (sym none) tt) kept.controls;
        blanks_made = made;
        spare = omega arith;
        slots = omega arith;
        few = omega arith;
        there = omega arith;
        steps = without tasks k room.task task (HasRoomIn room) none kept.steps;
      }

  -- steps of a task's code were made, for which there was room
  pub kept_stepped : (k made : ℕ) (task : Task) (control new : ControlView) → task ≡ slice_index_or tasks k kept_nothing → task.control ≡ Some control → k < length tasks → room.task ≡ k → new.spare + made ≡ control.spare → new.passes ≡ control.passes → IsMadeFor program new →
      IsKept program (slice_set tasks k (record task { control = Some new })) capacity blanks (record room { steps = room.steps - made })
  kept_stepped k made task control new found is within of_task spare passes made_for =
      let changed : Task = record task { control = Some new } in
      let there = kept.there in
      let many : length (slice_set tasks k changed) ≡ length tasks = length-set tasks k changed in
      let slots = kept.slots in
      let few = kept.few in
      let before : control_at tasks room.task ≡ Some control = ap (control_at tasks) of_task ∙ sym (ap (λ (task : Task). task.control) found) ∙ is in
      let after : control_at (slice_set tasks k changed) room.task ≡ Some new =
      ap (control_at (slice_set tasks k changed)) of_task ∙ ap (λ (task : Task). task.control) (get_or-set_same tasks k changed kept_nothing within) in
      let has : HasRoomIn room control = subst (λ (control : Option ControlView). IfSome control (HasRoomIn room)) before kept.steps in
      let enough = has.steps in
      let passing = has.passes in
      record {
        controls = All-set (IsOfProgram program) tasks k changed made_for kept.controls;
        blanks_made = kept.blanks_made;
        spare = kept.spare;
        slots = omega arith;
        few = omega arith;
        there = omega arith;
        steps = subst (λ (control : Option ControlView). IfSome control (HasRoomIn (record room { steps = room.steps - made }))) (sym after) (record { steps = omega (arith, enough, spare); passes = omega (arith, passing, passes) });
      }

-- the first two tasks, one of them without code
pub kept_first : (program : TreeView) (first second : Task) (now : List Task) (capacity : ℕ) (blanks : List ControlView) → first.control ≡ None → IfSome second.control (IsMadeFor program) → now ≡ first ∷ second ∷ [] → length now ≤ capacity → All (IsMadeFor program) blanks → IsKept program now capacity blanks no_task_room
kept_first program first second now capacity blanks none made is room blanks_made =
    let two : length now ≡ 2 = ap length is in
    let same : control_at now 0 ≡ None = ap (λ (tasks : List Task). control_at tasks 0) is ∙ none in
    record {
      controls =
          subst (All (IsOfProgram program)) (sym is)
          (All-cons (IsOfProgram program) first (second ∷ []) (subst (λ (control : Option ControlView). IfSome control (IsMadeFor program)) (sym none) tt) (All-cons (IsOfProgram program) second [] made (All-nil (IsOfProgram program))));
      blanks_made = blanks_made;
      spare = omega arith;
      slots = omega arith;
      few = omega arith;
      there = omega arith;
      steps = subst (λ (control : Option ControlView). IfSome control (HasRoomIn no_task_room)) (sym same) tt;
    }
