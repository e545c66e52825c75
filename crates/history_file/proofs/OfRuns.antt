-- Each legal history of a run that ends in a cause makes a file, which is a certificate of the run.
use Rattle.std.proofs.Common.{ℕ, zero, suc, ◌≡◌, ◌≤◌, ◌<◌, ◌&&◌, true, is_some, is_none, nat_lt, List, [], ◌∷◌, All, length, slice_index_or, refl, subst, arith}
use Rattle.std.specs.Prelude.{Option, Some, None}
use Rattle.std.proofs.lemmas.Bool.{and_parts, ltb-true}
use Rattle.ompt_calls.specs.declared.snapshot.Target.{Target}
use Rattle.ompt_calls.specs.declared.snapshot.Target.TheVariants as target
use Rattle.omp_model.specs.declared.cause.Cause.{Cause}
use Rattle.omp_model.specs.declared.event.Callback.{Callback}
use Rattle.omp_model.specs.declared.history.Entry.{Entry}
use Rattle.omp_model.specs.declared.history.What.{What}
use Rattle.omp_model.specs.declared.history.What.TheVariants.{Back, Go, Put}
use Rattle.omp_model.specs.State.{Run, State, Thread, World, first, pending_at, unmade}
use Rattle.omp_model.specs.Gates.{arrival}
use Rattle.omp_model.specs.Turn.{enabled, goes_on}
use Rattle.omp_model.specs.Words.{is_made, is_made_identity, is_made_thread}
use Rattle.omp_model.specs.Cause.{cause_of}
use Rattle.omp_model.specs.Legal.{AllowsFrom, Legal, after, entered, is_told, may, may_put}
use Rattle.omp_model.specs.MadeWorld.{IsMadeState, IsThread}
use Rattle.omp_model.specs.declared.limits.TheConstants.{STORE_LIMIT}
use Rattle.omp_model.proofs.Arriving.{thread-goes}
use Rattle.omp_model.proofs.MadeRuns.{made-after, state-does}
use Rattle.tool_api.specs.Registering.{AreAlways}
use Rattle.run_trace.specs.TraceOf.{FitsCause}
use Rattle.run_trace.proofs.Counted.{few-entries}
use Rattle.run_trace.proofs.Halts.{halts-known}
use Rattle.history_file.specs.declared.file.TheConstants.{STEP_LIMIT, TEXT_LIMIT, THREAD_LIMIT}
use Rattle.history_file.specs.Certificates.{IsCertificate, file_of}
use Rattle.history_file.specs.Fitting.{FitsEntry, FitsFile, FitsWhat, HasThread, HasThreadIn, HasThreadOf}
use Rattle.history_file.specs.Validity.{IsEntry, IsHistoryFile, IsTarget, IsWhat}
use Rattle.history_file.proofs.Backwards.{each_more}
use Rattle.history_file.proofs.Endings.{AnyStands, cause_stands}

-- a thread that was made is one of those that there are
made_below : (W : World) (t : ℕ) → IsThread W t → t < length W.threads
made_below W t made = below W.threads t made
  where
    below : (threads : List Thread) (t : ℕ) → is_made_thread (slice_index_or threads t unmade).stage ≡ true → t < length threads
    below [] t made = cc
    below (thread ∷ threads) zero made = omega arith
    below (thread ∷ threads) (suc t) made = let less = below threads t made in omega arith

-- .. and so is one that is inside a callback
pending_below : (pending : List (Option Callback)) (t : ℕ) → is_some (slice_index_or pending t None) ≡ true → t < length pending
pending_below [] t inside = cc
pending_below (callback ∷ pending) zero inside = omega arith
pending_below (callback ∷ pending) (suc t) inside = let less = pending_below pending t inside in omega arith

goes : (S : State) (t : ℕ) → enabled S t ≡ true → goes_on (arrival S.world t) ≡ true
unfolding enabled
goes S t is = (and_parts (is_none (pending_at S t) && is_none S.halt) (goes_on (arrival S.world t)) is).1

identity_stands : (n count : ℕ) → is_made_identity n count ≡ true → 1 ≤ n
identity_stands n count made = let some = ltb-true 0 n (and_parts (nat_lt 0 n) (nat_lt n count) made).0 in omega arith

target_stands : (run : Run) (S : State) (place : Target) (word : ℕ) → IsMadeState run S → is_made S.world place ≡ true → FitsWhat (Put place word) → IsTarget run.threads place
target_stands run S (target.Thread t) word made is fits = let below = made_below S.world t is in let count = made.threads in omega arith
target_stands run S (target.Parallel r) word made is fits = (identity_stands r (length S.world.regions) is, fits.0)
target_stands run S (target.Task k) word made is fits = (identity_stands k (length S.world.tasks) is, fits.0)

-- where a store may stand, its thread is inside a callback, and its target was made
put_parts : (run : Run) (S : State) (place : Target) (callback : Option Callback) → may_put run S place callback ≡ true → (is_some callback ≡ true) × (is_made S.world place ≡ true)
put_parts run S place None is = cc
put_parts run S place (Some callback) is = (refl, (and_parts (is_told run callback && nat_lt callback.stores STORE_LIMIT) (is_made S.world place) is).1)

entry_stands : (run : Run) (S : State) (t : ℕ) (what : What) → IsMadeState run S → may run S t what ≡ true → FitsWhat what → (t < run.threads) × IsWhat run.threads what
entry_stands run S t Go made is fits =
    let below = made_below S.world t (thread-goes S.world t (goes S t is)) in
    let count = made.threads in
    (omega arith, tt)
entry_stands run S t (Put place word) made is fits =
    let parts = put_parts run S place (pending_at S t) is in
    let below = pending_below S.pending t parts.0 in
    let count = made.places in
    (omega arith, (target_stands run S place word made parts.1 fits, fits.1))
entry_stands run S t Back made is fits =
    let below = pending_below S.pending t is in
    let count = made.places in
    (omega arith, tt)

entries_stand : (run : Run) (S : State) (history : List Entry) → IsMadeState run S → AllowsFrom run S history → All FitsEntry history → All (IsEntry run.threads) history
entries_stand run S [] made allows fits = λ k d less. absurd (omega arith)
entries_stand run S (entry ∷ rest) made allows fits =
    each_more run.threads entry rest (entry_stands run S entry.thread entry.what made allows.0 (fits 0 entry (omega arith)))
    (entries_stand run (entered run S entry) rest (state-does run S made entry.thread entry.what) allows.1 (λ k d less. fits (suc k) d (omega arith)))

pub files_of_runs : (run : Run) (text : List ℕ) (history : List Entry) (cause : Cause) → 1 ≤ run.threads → run.threads ≤ THREAD_LIMIT → 1 ≤ run.steps → run.steps ≤ STEP_LIMIT → AreAlways run.mask
    → length text ≤ TEXT_LIMIT → Legal run history → cause_of run history ≡ Some cause → FitsFile (file_of text run cause history) → FitsCause cause
    → IsHistoryFile (file_of text run cause history) × IsCertificate run (file_of text run cause history)
files_of_runs run text history cause some few steps bounded always short legal ends fits fits_cause =
    let S = after run history in
    let end = subst AnyStands ends (cause_stands run S S.halt (λ halt is. halts-known run history halt some legal is)) in (
      record {
        some = some;
        few = few;
        long = fits.mask;
        always = always;
        steps = steps;
        bounded = bounded;
        text = short;
        entries = entries_stand run (first run) history (made-after run [] some) legal fits.entries;
        few_entries = few-entries run history legal;
        end = end fits_cause;
      },
      record { cause = cause; legal = legal; ends = ends; status_is = refl; detail_is = refl },
    )

-- a store into the word of a thread names one that a run can have, since it was made
target_named : (run : Run) (S : State) (place : Target) → run.threads ≤ THREAD_LIMIT → IsMadeState run S → is_made S.world place ≡ true → HasThreadOf place
target_named run S (target.Thread t) few made is = let below = made_below S.world t is in let count = made.threads in omega arith
target_named run S (target.Parallel r) few made is = tt
target_named run S (target.Task k) few made is = tt

entry_named : (run : Run) (S : State) (t : ℕ) (what : What) → run.threads ≤ THREAD_LIMIT → IsMadeState run S → may run S t what ≡ true → HasThreadIn what
entry_named run S t Go few made is = tt
entry_named run S t (Put place word) few made is = target_named run S place few made (put_parts run S place (pending_at S t) is).1
entry_named run S t Back few made is = tt

entries_named : (run : Run) (S : State) (history : List Entry) → run.threads ≤ THREAD_LIMIT → IsMadeState run S → AllowsFrom run S history → All HasThread history
entries_named run S [] few made allows = λ k d less. absurd (omega arith)
entries_named run S (entry ∷ rest) few made allows =
    each_named entry rest (entry_named run S entry.thread entry.what few made allows.0) (entries_named run (entered run S entry) rest few (state-does run S made entry.thread entry.what) allows.1)
  where
    each_named : (entry : Entry) (rest : List Entry) → HasThread entry → All HasThread rest → All HasThread (entry ∷ rest)
    each_named entry rest one more zero d less = one
    each_named entry rest one more (suc k) d less = more k d (omega (arith, less))

-- the stores of a legal history name threads that a run can have
pub threads_named : (run : Run) (history : List Entry) → 1 ≤ run.threads → run.threads ≤ THREAD_LIMIT → Legal run history → All HasThread history
threads_named run history some few legal = entries_named run (first run) history few (made-after run [] some) legal
