-- Histories with more entries, and what stays made in them.
use Rattle.std.proofs.Common.{◌≡◌, ℕ, ◌≤◌, true, nat_lt, List, [], ◌∷◌, ◌++◌, Option, Some, None, refl, ltb-true, lt-ltb, arith}
use Rattle.std.proofs.lemmas.Bool.{and_parts}
use Rattle.ompt_calls.specs.declared.snapshot.Target.{Target}
use Rattle.ompt_calls.specs.declared.snapshot.Target.TheVariants as target
use Rattle.omp_model.specs.declared.event.Callback.{Callback}
use Rattle.omp_model.specs.declared.event.Outcome.{Outcome}
use Rattle.omp_model.specs.declared.event.Outcome.TheVariants as outcome
use Rattle.omp_model.specs.declared.history.Entry.{Entry}
use Rattle.omp_model.specs.declared.history.What.{What}
use Rattle.omp_model.specs.declared.history.What.TheVariants.{Go, Put, Back}
use Rattle.omp_model.specs.State.{Run, State, World, pending_at}
use Rattle.omp_model.specs.Legal.{AllowsFrom, after_from, back_from, does, entered, put_from}
use Rattle.omp_model.specs.MadeWorld.{IsMadeState, MadePending}
use Rattle.omp_model.specs.Turn.{turn}
use Rattle.omp_model.specs.Words.{is_made, is_made_identity}
use Rattle.omp_model.proofs.Later.{Later}
use Rattle.omp_model.proofs.MadeEvents.{back-made, stored-made}
use Rattle.omp_model.proofs.MadeRuns.{MadeTurn, state-does, turn-made}

-- the state after more entries
pub after-append : (run : Run) (S : State) (xs ys : List Entry) → after_from run S (xs ++ ys) ≡ after_from run (after_from run S xs) ys
after-append run S [] ys = refl
after-append run S (entry ∷ xs) ys = after-append run (entered run S entry) xs ys

-- they are allowed where each part is
pub legal-append : (run : Run) (S : State) (xs ys : List Entry) → AllowsFrom run S xs → AllowsFrom run (after_from run S xs) ys → AllowsFrom run S (xs ++ ys)
legal-append run S [] ys first next = next
legal-append run S (entry ∷ xs) ys first next = (first.0, legal-append run (entered run S entry) xs ys first.1 next)

-- one of more
identity-later : (i n m : ℕ) → n ≤ m → is_made_identity i n ≡ true → is_made_identity i m ≡ true
identity-later i n m more one =
    let parts = and_parts (nat_lt 0 i) (nat_lt i n) one in
    rw (parts.0, lt-ltb i m (omega (arith, ltb-true i n parts.1))) refl

-- what was made was made in a later world too
place-later : (W later : World) (so : Later W later) (place : Target) → is_made W place ≡ true → is_made later place ≡ true
place-later W later so (target.Thread t) made = so.stages t made
place-later W later so (target.Parallel r) made = identity-later r _ _ so.regions made
place-later W later so (target.Task k) made = identity-later k _ _ so.tasks made

-- what was made is still made
abbrev pub StaysMade : World → World → Type 0
StaysMade W later = (place : Target) → is_made W place ≡ true → is_made later place ≡ true

turn-stays : (W later : World) (t : ℕ) (came : Outcome) → MadeTurn W t later came → StaysMade W later
turn-stays W later t (outcome.Happens event) so = place-later W later so.whole.later
turn-stays W later t outcome.Idle so = place-later W later so.later
turn-stays W later t outcome.Quiet so = place-later W later so.later
turn-stays W later t (outcome.Halts halt) so = place-later W later so.later

module _ (run : Run) (S : State) (all : IsMadeState run S) where
  put-stays : (t : ℕ) (place : Target) (word : ℕ) (callback : Option Callback) → StaysMade S.world (put_from S t place word callback).world
  put-stays t place word None = λ other made. made
  put-stays t place word (Some callback) = place-later S.world _ (stored-made S.world place word all.world).later

  back-stays : (t : ℕ) (callback : Option Callback) → MadePending S.world t callback → StaysMade S.world (back_from S t callback).world
  back-stays t None one = λ other made. made
  back-stays t (Some callback) one = place-later S.world _ (back-made S.world t callback.event all.world one.named).later

  does-stays : (t : ℕ) (what : What) → StaysMade S.world (does run S t what).world
  does-stays t Go = turn-stays S.world (turn run S t).state.world t (turn run S t).outcome (turn-made run S t all.world)
  does-stays t (Put place word) = put-stays t place word (pending_at S t)
  does-stays t Back = back-stays t (pending_at S t) (all.pending t)

-- whatever entries follow
pub entries-stay : (run : Run) (S : State) (entries : List Entry) → IsMadeState run S → StaysMade S.world (after_from run S entries).world
entries-stay run S [] all = λ place made. made
entries-stay run S (entry ∷ rest) all = λ place made.
    entries-stay run (entered run S entry) rest (state-does run S all entry.thread entry.what) place (does-stays run S all entry.thread entry.what place made)
