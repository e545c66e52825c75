-- A thread's task whose code asks whether a lock is owned, which isn't: it comes to own the lock.
use Rattle.std.proofs.Common.{◌≡◌, ℕ, true, false, List, [], ◌∷◌, refl, sym, ap, ◌∙◌, subst}
use Rattle.std.specs.Prelude.{Option, Some, None, Result, Ok, Err}
use Rattle.std.proofs.lemmas.List.{get_or-set_same}
use Rattle.c_syntax.specs.language.Tree.{Tree}
use Rattle.c_syntax.specs.language.Numbered.{TreeView}
use Rattle.c_model.specs.declared.point.MutexKind.TheVariants as mutex
use Rattle.c_model.specs.declared.point.Point.{Point}
use Rattle.c_model.specs.declared.point.Point.TheVariants as point
use Rattle.c_model.specs.declared.question.Answer.TheVariants as answer
use Rattle.c_model.specs.declared.question.Ask.TheVariants as ask
use Rattle.c_model.specs.declared.view.View.{View}
use Rattle.c_model.specs.AfterEvents.{after_event, answered_at, settled_after_answer}
use Rattle.c_model.specs.Occurring.{IsAskOf, IsAskOfNext}
use Rattle.c_model.specs.Program.{place_of}
use Rattle.c_model.specs.Step.{items_from_next, settled_task, silent}
use Rattle.c_model.specs.Task.{Item, Moment, Store, Task as Code}
use Rattle.c_model.specs.Task.Item.{TestLock}
use Rattle.c_model.specs.Task.Outcome.{Occurs}
use Rattle.c_steps.specs.declared.next.Next.{Next}
use Rattle.c_steps.specs.declared.next.Next.TheVariants as next
use Rattle.c_steps.specs.ControlView.{outcome_at}
use Rattle.sync_objects.specs.Answers.{answer_to_may_take}
use Rattle.omp_model.specs.declared.event.Event.{Event}
use Rattle.omp_model.specs.declared.event.Halt.{Halt}
use Rattle.omp_model.specs.State.{Task, World, no_task, task_at, with_task}
use Rattle.omp_model.specs.Members.{code_of, current, moment_of, view_of}
use Rattle.omp_model.specs.Changes.{gone_to, owned_by, with_code}
use Rattle.omp_model.specs.EventEffects.{Going, Happens, Halts, effect_of_point, event_of_point, fault_of_point, going_by, go_of_code, going_to_point, lock_fault, past_point, unless}
use Rattle.omp_model.specs.MadeWorld.{IsMadeWorld}
use Rattle.omp_model.proofs.GonePast.{last-written}
use Rattle.omp_model.proofs.MadeEvents.{current-below}
use Rattle.omp_model.proofs.MadeWords.{after-code, after-store}
use Rattle.omp_board.specs.Board.{IsGoing, IsGoingBy, IsGoingTo, run_of}
use Rattle.omp_board.specs.Answering.{IsSettled}
use Rattle.omp_board.proofs.ToldFree.{told-settled}

-- the event that stands next then
abbrev pub acquired : Tree → ℕ → Point
acquired tree id = point.MutexAcquired (place_of tree) id mutex.TestLock

record IsTold (program : TreeView) (view : View) (now told : Moment) (tree : Tree) (id : ℕ) : Type 0 where
  store : told.store ≡ now.store
  settled : settled_task view told.task ≡ told.task
  occurs : silent program view told ≡ Occurs (acquired tree id) tree

module _ (program : TreeView) (view : View) (tree : Tree) (id : ℕ) where
  told-first : (items : List Item) (now : Moment) → IsAskOfNext (ask.LockFree id) tree items → IsTold program view now (answered_at items (answer.Free true) now) tree id
  unfolding IsAskOfNext IsAskOf items_from_next silent
  told-first [] now asks = absurd asks
  told-first (TestLock call wait to ∷ rest) now asks =
      record { store = refl; settled = refl; occurs = λ i. Occurs (acquired (sym asks.0 i) (sym asks.1 i)) (sym asks.0 i) }
  told-first (other ∷ rest) now asks = absurd asks

-- what stands next is the event that the code comes to
pub some_event : (program : TreeView) (of : Next) (now : Moment) (what : Point) (tree : Tree) → outcome_at program of now ≡ Occurs what tree → ((at : Point) (node : ℕ) → of ≡ next.Event at node → ⊥) → ⊥
some_event program (next.Event at node) now what tree is none = none at node refl
some_event program next.Quiet now what tree is none = cc
some_event program (next.Ask ask node) now what tree is none = cc
some_event program (next.Ended number) now what tree is none = cc
some_event program (next.Trap trap) now what tree is none = cc
some_event program (next.Limit limit) now what tree is none = cc

-- where an event happens, its Go tells nothing of the world before
same-before : (going : Going) (which : Event) (other V W after : World) (result : Result Event Halt) → going ≡ Happens which other → IsGoingBy going V result after → IsGoingBy going W result after
same-before going which other V W after (Ok event) happens by = by
same-before going which other V W after (Err halt) happens by = let halts : going ≡ Halts halt = by.0 in cc

module _ (program : TreeView) (W : World) (t : ℕ) (settled : IsSettled W t) (made : IsMadeWorld W) (tree : Tree) (id : ℕ) (asks : IsAskOfNext (ask.LockFree id) tree (code_of W t).todo) where
  abbrev pub now_told : Moment
  now_told = settled_after_answer (answer.Free true) (moment_of W t)

  abbrev pub world_told : World
  world_told = gone_to W (current W t) now_told

  is-told : IsTold program (view_of W t) (moment_of W t) now_told tree id
  is-told = told-first program (view_of W t) tree id (code_of W t).todo (moment_of W t) asks

  task-told : task_at world_told (current W t) ≡ record (task_at W (current W t)) { code = now_told.task }
  task-told = get_or-set_same W.tasks (current W t) _ no_task (current-below W t made)

  moment-told : moment_of world_told t ≡ now_told
  moment-told = ap (λ (task : Task). record now_told { task = task.code }) task-told

  pub settled_told : IsSettled world_told t
  settled_told = subst (λ (code : Code). settled_task (view_of W t) code ≡ code) (sym (ap (λ (now : Moment). now.task) moment-told)) is-told.settled

  pub made_told : IsMadeWorld world_told
  made_told =
      let coded = (after-code W (current W t) now_told.task made).world in
      (after-store (with_code W (current W t) now_told.task) now_told.store W.locks coded).world

  pub occurs_told : silent program (view_of world_told t) (moment_of world_told t) ≡ Occurs (acquired tree id) tree
  occurs_told = ap (silent program (view_of W t)) moment-told ∙ is-told.occurs

  -- what the code comes to then, where the thread looks at it
  pub come_told : (what : Point) (other : Tree) → Occurs what other ≡ silent program (view_of world_told t) (moment_of world_told t) → what ≡ acquired tree id
  come_told what other comes = let occurs : Occurs what other ≡ Occurs (acquired tree id) tree = comes ∙ occurs_told in cc

  -- the Go of the event
  going-told : go_of_code (run_of program) W t ≡ going_to_point (run_of program) W t now_told (acquired tree id)
  unfolding go_of_code
  going-told =
      ap (λ (now : Moment). going_by (run_of program) W t now (silent program (view_of W t) now)) (told-settled program W t settled)
      ∙ ap (going_by (run_of program) W t now_told) is-told.occurs

  pub halts_told : (halt : Halt) → lock_fault (answer_to_may_take W.locks.locks id) ≡ Some halt → go_of_code (run_of program) W t ≡ Halts halt
  unfolding fault_of_point
  halts_told halt fault =
      going-told ∙ ap (λ (fault : Option Halt). unless fault (event_of_point W t (acquired tree id)) (past_point W (effect_of_point (run_of program) W t now_told (acquired tree id)) t now_told (acquired tree id))) fault

  module _ (fault : lock_fault (answer_to_may_take W.locks.locks id) ≡ None) where
    abbrev which : Event
    which = event_of_point W t (acquired tree id)

    abbrev code : Code
    code = after_event (view_of W t) (acquired tree id) false now_told.task

    abbrev behind : World
    behind = with_code (owned_by W id (Some (current W t))) (current W t) code

    abbrev behind-told : World
    behind-told = with_code (owned_by world_told id (Some (current W t))) (current W t) (after_event (view_of W t) (acquired tree id) false (moment_of world_told t).task)

    same-behind : behind-told ≡ behind
    same-behind =
        ap (λ (now : Moment). with_code (owned_by world_told id (Some (current W t))) (current W t) (after_event (view_of W t) (acquired tree id) false now.task)) moment-told
        ∙ ap (λ (task : Task). with_task (owned_by world_told id (Some (current W t))) (current W t) (record task { code = code })) task-told
        ∙ ap (λ (tasks : List Task). record (owned_by world_told id (Some (current W t))) { tasks = tasks }) (last-written W.tasks (current W t) _ _)
        ∙ ap (λ (store : Store). record behind { store = store }) is-told.store

    happens-told : go_of_code (run_of program) W t ≡ Happens which behind
    unfolding fault_of_point effect_of_point
    happens-told = going-told ∙ ap (λ (fault : Option Halt). unless fault which behind) fault

    happens-behind : going_to_point (run_of program) world_told t (moment_of world_told t) (acquired tree id) ≡ Happens which behind
    unfolding fault_of_point effect_of_point
    happens-behind = ap (λ (fault : Option Halt). unless fault which behind-told) fault ∙ ap (Happens which) same-behind

    pub went_told : (result : Result Event Halt) (after : World) → IsGoingTo program world_told t (moment_of world_told t) (acquired tree id) result after → IsGoing program W t result after
    went_told result after going =
        same-before (go_of_code (run_of program) W t) which behind world_told W after result happens-told
        (subst (λ (by : Going). IsGoingBy by world_told result after) (happens-behind ∙ sym happens-told) going)
