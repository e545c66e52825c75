-- What the code of a thread's task comes to, when it has been told that the lock isn't owned for which it may ask.
use Rattle.std.proofs.Common.{◌≡◌, ℕ, ◌≤◌, true, List, [], ◌∷◌, refl, sym, ap, ◌∙◌, subst}
use Rattle.std.specs.Prelude.{Result}
use Rattle.std.proofs.lemmas.List.{set-get_or}
use Rattle.c_syntax.specs.language.Numbered.{TreeView, tree_at}
use Rattle.c_model.specs.declared.point.Point.{Point}
use Rattle.c_model.specs.declared.question.Answer.TheVariants as answer
use Rattle.c_model.specs.declared.question.Ask.TheVariants as ask
use Rattle.c_model.specs.declared.view.View.{View}
use Rattle.c_model.specs.AfterEvents.{answered_at, settled_after_answer}
use Rattle.c_model.proofs.Fitting.{Fits}
use Rattle.c_model.specs.Step.{settled_task, silent, step_at}
use Rattle.c_model.specs.Task.{Item, Moment, Outcome, Task as Code}
use Rattle.c_model.specs.Task.Item.{TestLock}
use Rattle.c_model.specs.Task.Outcome.{Asks, Ends, Limits, Occurs, StepsTo, Traps}
use Rattle.c_steps.specs.Passing.{IsEventOfNext}
use Rattle.omp_model.specs.declared.event.Arrival.{Arrival}
use Rattle.omp_model.specs.declared.event.Arrival.TheVariants.{CodeEvent}
use Rattle.omp_model.specs.declared.event.Event.{Event}
use Rattle.omp_model.specs.declared.event.Halt.{Halt}
use Rattle.omp_model.specs.State.{Task, World, no_task}
use Rattle.omp_model.specs.Members.{code_of, current, moment_of, view_of}
use Rattle.omp_model.specs.Changes.{with_masked_skipped, with_code}
use Rattle.omp_model.specs.Gates.{arrival}
use Rattle.omp_model.specs.EventEffects.{Going, going_by, go_of_code, told}
use Rattle.omp_model.proofs.Arriving.{Arrives, arrives}
use Rattle.omp_model.proofs.Coming.{comes-told-past}
use Rattle.omp_model.proofs.GonePast.{code-past, settled-once, silent-past}
use Rattle.omp_board.specs.Board.{BoardView, IsGoingBy, IsGoingTo, IsGoing, run_of}
use Rattle.omp_board.specs.Answering.{IsSettled}
use Rattle.omp_board.specs.Events.{HasComeTo}

-- a code that has left out what it goes past has left it out
pub past_settled : (W : World) (t : ℕ) → IsSettled (with_masked_skipped W t) t
past_settled W t =
    ap (settled_task (view_of W t)) (code-past W t) ∙ (settled-once (view_of W t) (code_of W t) ∙ sym (code-past W t))

-- .. and needs not do so again
pub past_same : (W : World) (t : ℕ) → IsSettled W t → with_masked_skipped W t ≡ W
past_same W t settled =
    ap (λ (code : Code). with_code W (current W t) code) settled
    ∙ ap (λ (tasks : List Task). record W { tasks = tasks }) (set-get_or W.tasks (current W t) no_task)

-- it doesn't ask for a lock
abbrev pub AsksNoLock : Outcome → Type 0
AsksNoLock (Asks (ask.LockFree id) tree) = ⊥
AsksNoLock other = Unit {0}

module _ (program : TreeView) (view : View) where
  told-items : (items : List Item) (now : Moment) → now.task.todo ≡ items → AsksNoLock (step_at items program view now) → answered_at items (answer.Free true) now ≡ now
  told-items [] now is none = refl
  told-items (TestLock call id to ∷ rest) now is none = absurd none
  told-items (other ∷ rest) now is none = ap (λ (items : List Item). record now { task = record now.task { todo = items } }) (sym is)

module _ (program : TreeView) (W : World) (t : ℕ) (settled : IsSettled W t) where
  -- what stands first stands next
  silent-first : silent program (view_of W t) (moment_of W t) ≡ step_at (code_of W t).todo program (view_of W t) (moment_of W t)
  unfolding silent
  silent-first = ap (λ (code : Code). step_at code.todo program (view_of W t) (moment_of W t)) settled

  pub told-settled : told W t ≡ settled_after_answer (answer.Free true) (moment_of W t)
  told-settled = ap (λ (code : Code). settled_after_answer (answer.Free true) (record (moment_of W t) { task = code })) settled

  module _ (outcome : Outcome) (comes : silent program (view_of W t) (moment_of W t) ≡ outcome) (none : AsksNoLock outcome) where
    told-same : told W t ≡ moment_of W t
    told-same =
        told-settled
        ∙ told-items program (view_of W t) (code_of W t).todo (moment_of W t) refl (subst AsksNoLock (sym comes ∙ silent-first) none)

    -- the Go of what the code comes to
    pub going_of : go_of_code (run_of program) W t ≡ going_by (run_of program) W t (moment_of W t) outcome
    unfolding go_of_code
    going_of =
        ap (λ (now : Moment). going_by (run_of program) W t now (silent program (view_of W t) now)) told-same
        ∙ ap (going_by (run_of program) W t (moment_of W t)) comes

    pub fits_of : Fits (silent program (view_of W t) (told W t)) true → Fits outcome true
    fits_of fits = subst (λ (outcome : Outcome). Fits outcome true) (ap (silent program (view_of W t)) told-same ∙ comes) fits

-- an event occurs, or there is a trap or a limit
abbrev pub IsGo : Outcome → Type 0
IsGo (StepsTo next) = ⊥
IsGo (Asks ask tree) = ⊥
IsGo (Ends number) = ⊥
IsGo other = Unit {0}

go-fits : (outcome : Outcome) → Fits outcome true → IsGo outcome
unfolding Fits
go-fits (StepsTo next) fits = fits
go-fits (Asks ask tree) fits = fits
go-fits (Ends number) fits = fits
go-fits (Occurs what tree) fits = tt
go-fits (Traps trap) fits = tt
go-fits (Limits limit) fits = tt

-- The thread's task has left out what it goes past, before which its code comes to this.
module _ (program : TreeView) (W : World) (t : ℕ) (outcome : Outcome) (comes : outcome ≡ silent program (view_of W t) (moment_of W t)) (none : AsksNoLock outcome) where
  pub going_past : go_of_code (run_of program) (with_masked_skipped W t) t ≡ going_by (run_of program) (with_masked_skipped W t) t (moment_of (with_masked_skipped W t) t) outcome
  going_past = going_of program (with_masked_skipped W t) t (past_settled W t) outcome (silent-past W t program ∙ sym comes) none

  pub goes_past : arrival W t ≡ CodeEvent → IsGo outcome
  goes_past is = go-fits outcome (fits_of program (with_masked_skipped W t) t (past_settled W t) outcome (silent-past W t program ∙ sym comes) none (comes-told-past W t program is))

-- A board before and after a look at what stands next, which is an event.
module _ (board now : BoardView) (t : ℕ) (what : Point) (node : ℕ) (still : now ≡ record board { world = with_masked_skipped board.world t }) (occurs : Occurs what (tree_at board.program.trees node) ≡ silent board.program (view_of board.world t) (moment_of board.world t)) where
  pub come_past : 1 ≤ current board.world t → IsEventOfNext board.program what node (code_of now.world t).todo → HasComeTo now.program now.world t what node
  come_past some named =
      subst (λ (now : BoardView). HasComeTo now.program now.world t what node) (sym still) (record {
        some = some;
        settled = past_settled board.world t;
        occurs = silent-past board.world t board.program ∙ sym occurs;
        event = subst (λ (now : BoardView). IsEventOfNext board.program what node (code_of now.world t).todo) still named;
      })

  pub went_past : (result : Result Event Halt) (after : World) → IsGoingTo now.program now.world t (moment_of now.world t) what result after → IsGoing board.program (with_masked_skipped board.world t) t result after
  went_past result after going =
      let past = with_masked_skipped board.world t in
      subst (λ (by : Going). IsGoingBy by past result after) (sym (going_past board.program board.world t (Occurs what (tree_at board.program.trees node)) occurs tt))
      (subst (λ (now : BoardView). IsGoingTo now.program now.world t (moment_of now.world t) what result after) still going)

some-of : (W : World) (t : ℕ) (came : Arrival) → came ≡ CodeEvent → Arrives W t came → 1 ≤ current W t
some-of W t came is at = (subst (Arrives W t) is at).within.some

-- a thread that comes to an event of its code has a task
pub some_comes : (W : World) (t : ℕ) → arrival W t ≡ CodeEvent → 1 ≤ current W t
some_comes W t is = some-of W t (arrival W t) is (arrives W t)
