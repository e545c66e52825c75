-- Each chunk that a thread has taken has an iteration, after each history.
use Rattle.std.proofs.Common.{ℕ, zero, suc, ◌≡◌, ◌≤◌, ◌==◌, ◌-◌, Bool, true, false, if◌then◌else◌, List, slice_index_or, refl, sym, subst, inl, inr}
use Rattle.std.specs.Prelude.{Option, Some, None}
use Rattle.std.proofs.lemmas.Bool.{cases_eq}
use Rattle.ompt_calls.specs.declared.snapshot.Target.{Target}
use Rattle.omp_model.specs.declared.event.Callback.{Callback}
use Rattle.omp_model.specs.declared.event.Event.{Event}
use Rattle.omp_model.specs.declared.event.Event.TheVariants.{Dispatch, ParallelBegin, TaskCreate, ThreadEnd}
use Rattle.omp_model.specs.declared.event.Outcome.{Outcome as Came}
use Rattle.omp_model.specs.declared.event.Outcome.TheVariants as came
use Rattle.omp_model.specs.declared.history.Entry.{Entry}
use Rattle.omp_model.specs.declared.history.What.{What}
use Rattle.omp_model.specs.declared.history.What.TheVariants.{Go, Put, Back}
use Rattle.omp_model.specs.declared.parts.ThreadStage.TheVariants as thread_stage
use Rattle.omp_model.specs.State.{Run, State, Thread, World, first, first_world, pending_at, thread_at, unmade}
use Rattle.omp_model.proofs.Alike.{HasSomeShare, QuietWorld}
use Rattle.omp_model.specs.Changes.{with_invitation}
use Rattle.omp_model.specs.Conditions.{AreOrderly, PendingOrderly}
use Rattle.omp_model.specs.Legal.{after, back_from, does, put_from}
use Rattle.omp_model.specs.MadeWorld.{IsMadeWorld, MadePending}
use Rattle.omp_model.proofs.Touching.{is_summoned, thread_after, thread_back}
use Rattle.omp_model.specs.Turn.{turn}
use Rattle.omp_model.proofs.AlikeWorlds.{made-alike, quiet-turn, still-alike, taken-stored}
use Rattle.omp_model.proofs.Backs.{returns}
use Rattle.omp_model.proofs.Conditions.{orderly-still}
use Rattle.omp_model.proofs.Gos.{touches-world}
use Rattle.omp_model.proofs.MadeRuns.{at-replicate}
use Rattle.omp_model.proofs.OrderlyRuns.{IsSound, first-sound, sound-does}
use Rattle.omp_model.proofs.Turning.{GoOf, Turned, of-entries}

-- each share that one of these threads has taken, if one was
abbrev pub AreSome : List Thread → Type 0
AreSome threads = (u : ℕ) → HasSomeShare (slice_index_or threads u unmade).taken

-- silent steps of a thread
pub some-quiet : (t : ℕ) (W after : World) → QuietWorld t W after → AreSome W.threads → AreSome after.threads
some-quiet t W after quiet all = λ u. elim (cases_eq u t) [
  | inl is ↦ subst (λ v. HasSomeShare (thread_at after v).taken) (sym is) (elim quiet.own [ inl same ↦ rw same (all t) | inr some ↦ some ])
  | inr other ↦ rw (quiet.others u other) (all u)
]

-- the Go of an event
own-taken : (e : Event) (thread : Thread) → HasSomeShare thread.taken → HasSomeShare (thread_after e thread).taken
own-taken (Dispatch share) thread some = tt
own-taken other thread some = some

some-go : (run : Run) (W after : World) (t : ℕ) (e : Event) → IsMadeWorld W → AreOrderly W → AreSome W.threads → GoOf run W t e after → AreSome after.threads
some-go run W after t e made orderly all go =
    let touches = touches-world run W after t e made orderly go in
    λ u. elim (cases_eq u t) [
      | inl is ↦ subst (λ v. HasSomeShare (thread_at after v).taken) (sym is)
          (subst (λ (x : Thread). HasSomeShare x.taken) (sym touches.own) (own-taken e (thread_at W t) (all t)))
      | inr other ↦ subst (λ (x : Thread). HasSomeShare x.taken) (sym (touches.others u other)) (all u)
    ]

some-turned : (run : Run) (t : ℕ) (W after : World) (how : Came) → IsMadeWorld W → AreOrderly W → AreSome W.threads → Turned run (QuietWorld t W) t after how →
    AreSome after.threads
some-turned run t W after (came.Happens e) made orderly all from =
    let alike = from.holds.alike in
    some-go run from.before after t e (made-alike W from.before alike made).world (orderly-still W from.before (still-alike W from.before alike) orderly)
    (some-quiet t W from.before from.holds all) from.go
some-turned run t W after came.Idle made orderly all quiet = some-quiet t W after quiet all
some-turned run t W after came.Quiet made orderly all quiet = some-quiet t W after quiet all
some-turned run t W after (came.Halts halt) made orderly all quiet = some-quiet t W after quiet all

-- its Back
either-taken : (b : Bool) (one other : Thread) → one.taken ≡ other.taken → (if b then one else other).taken ≡ other.taken
either-taken true one other same = same
either-taken false one other same = refl

back-taken : (W : World) (t : ℕ) (e : Event) (u : ℕ) → (thread_back W t e u).taken ≡ (thread_at W u).taken
back-taken W t ThreadEnd u = either-taken (u == t) (record (thread_at W u) { stage = thread_stage.Ended }) (thread_at W u) refl
back-taken W t (ParallelBegin r requested codeptr) u = either-taken (is_summoned W t r u) (with_invitation r (thread_at W u)) (thread_at W u) refl
back-taken W t (TaskCreate task true codeptr) u = either-taken (u == t) (record (thread_at W u) { undeferred = task }) (thread_at W u) refl
back-taken W t other u = refl

some-back : (S : State) (t : ℕ) (callback : Option Callback) → IsMadeWorld S.world → AreOrderly S.world → MadePending S.world t callback →
    PendingOrderly S.world t callback → AreSome S.world.threads → AreSome (back_from S t callback).world.threads
some-back S t None made orderly was so all = all
some-back S t (Some callback) made orderly was so all =
    let back = returns S.world t callback.event made orderly was so in
    λ u. subst (λ (x : Thread). HasSomeShare x.taken) (sym (back.thread u)) (subst HasSomeShare (sym (back-taken S.world t callback.event u)) (all u))

-- what a tool stores
some-put : (S : State) (t : ℕ) (place : Target) (word : ℕ) (callback : Option Callback) → AreSome S.world.threads → AreSome (put_from S t place word callback).world.threads
some-put S t place word None all = all
some-put S t place word (Some callback) all = λ u. subst HasSomeShare (sym (taken-stored S.world place word u)) (all u)

-- Histories.

record IsWhole (run : Run) (S : State) : Type 0 where
  sound : IsSound run S
  some : AreSome S.world.threads

some-does : (run : Run) (S : State) (t : ℕ) (what : What) → IsWhole run S → AreSome (does run S t what).world.threads
some-does run S t Go so =
    some-turned run t S.world (turn run S t).state.world (turn run S t).outcome so.sound.made.world so.sound.orderly.world so.some (quiet-turn run t S)
some-does run S t (Put place word) so = some-put S t place word (pending_at S t) so.some
some-does run S t Back so =
    some-back S t (pending_at S t) so.sound.made.world so.sound.orderly.world (so.sound.made.pending t) (so.sound.orderly.pending t) so.some

first-some : (run : Run) → AreSome (first_world run).threads
first-some run zero = tt
first-some run (suc u) = at-replicate (λ (x : Thread). HasSomeShare x.taken) (run.threads - 1) u unmade tt

pub some-after : (run : Run) (history : List Entry) → 1 ≤ run.threads → AreSome (after run history).world.threads
some-after run history there =
    (of-entries run (IsWhole run)
    (λ S entry so. record { sound = sound-does run S so.sound entry.thread entry.what; some = some-does run S entry.thread entry.what so })
    (first run) history (record { sound = first-sound run there; some = first-some run })).some
