-- The stores of replies may stand in turn.
use Rattle.std.proofs.Common.{ℕ, ◌≡◌, ◌≤◌, Bool, true, false, if◌then◌else◌, List, [], refl, sym, subst}
use Rattle.ompt_calls.specs.Number.{is_registered}
use Rattle.ompt_calls.specs.Snapshot.{Stored, stores_of}
use Rattle.omp_model.specs.declared.event.Outcome.{Outcome}
use Rattle.omp_model.specs.Calls.{callback_of}
use Rattle.omp_model.specs.Legal.{after}
use Rattle.omp_model.specs.Snapshots.{snap_of}
use Rattle.omp_model.specs.State.{Run, State}
use Rattle.omp_model.specs.Storing.{MayStore}
use Rattle.omp_model.specs.Turn.{turn}
use Rattle.omp_model.proofs.Replies.{may-store}
use Rattle.run_laws.specs.Answers.{MayAnswer, Replying, stores_of_reply, stores_told}

-- those of an event of which a tool is told, and none
told-or-none : (run : Run) (S : State) (t : ℕ) (told : Bool) (stores : List Stored) → (told ≡ true → MayStore run S t stores) → MayStore run S t (if told then stores else [])
told-or-none run S t true stores may = may refl
told-or-none run S t false stores may = tt

pub replies-may : (run : Run) (reply : Replying) → 1 ≤ run.threads → MayAnswer run (stores_told run reply)
replies-may run reply there front t event legal goes happens =
    let S = (turn run (after run front) t).state in
    subst (λ (came : Outcome). MayStore run S t (stores_of_reply run S.world t (reply front t) came)) (sym happens)
    (told-or-none run S t (is_registered run.mask (callback_of event)) (stores_of (reply front t) (snap_of S.world t event))
    (λ told. may-store run front t event there happens (reply front t) told))
