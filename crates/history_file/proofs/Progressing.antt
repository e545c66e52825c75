-- Each step of a rerun takes its entry.
use Rattle.std.proofs.Common.{◌≡◌, ℕ, ◌+◌, ◌<◌, ◌≤◌, zero, ◌&&◌, ◌||◌, not, nat_lt, Bool, true, false, cond, if◌then◌else◌, List, [], ◌∷◌, ◌++◌, length, map, take, drop, replicate, suc, Option, Some, None, slice_index_or, slice_set, is_some, refl, sym, ap, ap₂, subst, ◌∙◌, inl, inr, arith}
use Rattle.std.proofs.lemmas.Bool.{cases_Bool}
use Rattle.std.specs.Prelude.{filter}
use Rattle.std.proofs.Math.Seq.{split_at}
use Rattle.std.proofs.lemmas.List.{length_push, take_more}
use Rattle.ompt_calls.specs.declared.snapshot.Target.{Target}
use Rattle.ompt_calls.specs.Number.{is_registered}
use Rattle.omp_model.specs.declared.event.Halt.{Halt}
use Rattle.omp_model.specs.declared.event.Halt.TheVariants as halt
use Rattle.omp_model.specs.declared.event.Outcome.{Outcome}
use Rattle.omp_model.specs.declared.event.Outcome.TheVariants.{Idle, Quiet, Happens, Halts}
use Rattle.omp_model.specs.declared.history.Entry.{Entry}
use Rattle.omp_model.specs.declared.history.What.TheVariants.{Back, Go, Put}
use Rattle.omp_model.specs.Calls.{call_of, callback_of}
use Rattle.omp_model.specs.Heard.{heard}
use Rattle.omp_model.specs.declared.limits.TheConstants.{STORE_LIMIT}
use Rattle.omp_model.specs.Legal.{back, may, may_put, put}
use Rattle.omp_model.specs.Snapshots.{snap_of}
use Rattle.omp_model.specs.State.{Run, State, first, pending_at}
use Rattle.omp_model.specs.Turn.{enabled, turn}
use Rattle.omp_model.specs.Words.{is_made}
use Rattle.omp_model.proofs.MadeRuns.{at-replicate}
use Rattle.omp_model.proofs.Turns.{turn-not_idle}
use Rattle.omp_machine.specs.declared.went.Went.{Went}
use Rattle.omp_machine.specs.declared.went.Went.TheVariants.{Told, Untold}
use Rattle.omp_machine.specs.MachineView.{MachineView, went_after, went_of, went_of_halt}
use Rattle.history_file.specs.declared.file.HistoryFile.{HistoryFile}
use Rattle.history_file.specs.declared.progress.Progress.{Progress}
use Rattle.history_file.specs.declared.verdict.HeardCall.{HeardCall}
use Rattle.history_file.specs.declared.verdict.Verdict.TheVariants as verdict
use Rattle.history_file.specs.declared.waiting.Waiting.{Waiting}
use Rattle.history_file.specs.RerunProgress.{EndsAs, HasCome, IsWaiting, entry_of, is_kept, waits}
use Rattle.history_file.specs.Progressing.{IsAt, Steps, Stops, Takes, calls_after, waiting_after}
use Rattle.history_file.specs.Verdicts.{IsVerdict, heard_call}
use Rattle.history_file.proofs.Entering.{after_back, after_halt, after_put, after_quiet, after_told, after_untold}
use Rattle.history_file.proofs.Inside.{may_store, none_inside}
use Rattle.history_file.proofs.Judging.{at_first, certified, heard_so_far, not_certified, stopped}

module _ (run : Run) (done : List Entry) (S : State) (waiting : List (Option Waiting)) (calls : List HeardCall) (come : HasCome run done S waiting calls) where
  -- what a turn that tells this comes to
  abbrev AfterGo : ℕ → Went → Type 0
  AfterGo t told =
      HasCome run (done ++ entry_of t Go ∷ []) (turn run S t).state (waiting_after waiting t (length done) told) (calls_after calls t (length done) told)

  by_halt : (t : ℕ) (h : Halt) → enabled S t ≡ true → (turn run S t).outcome ≡ Halts h → AfterGo t (went_of_halt h)
  by_halt t (halt.Trap number) goes is = after_halt run done S waiting calls come t (halt.Trap number) goes is
  by_halt t (halt.Limit number) goes is = after_halt run done S waiting calls come t (halt.Limit number) goes is

  by_outcome : (t : ℕ) (o : Outcome) → t < run.threads → enabled S t ≡ true → (turn run S t).outcome ≡ o → AfterGo t (went_after run (turn run S t).state t o)
  by_outcome t Idle one goes is = absurd (turn-not_idle run S t goes is)
  by_outcome t Quiet one goes is = after_quiet run done S waiting calls come t goes is
  by_outcome t (Halts h) one goes is = by_halt t h goes is
  by_outcome t (Happens event) one goes is =
      let after = (turn run S t).state in
      let told : Went = Told (call_of after.world t event) (snap_of after.world t event) in
      elim (cases_Bool (is_registered run.mask (callback_of event))) [
        | inl registered ↦
            subst (λ (b : Bool). AfterGo t (if b then told else Untold)) (sym registered) (after_told run done S waiting calls come t event one goes is registered)
        | inr unregistered ↦
            subst (λ (b : Bool). AfterGo t (if b then told else Untold)) (sym unregistered) (after_untold run done S waiting calls come t event one goes is unregistered)
      ]

  after_go : (t : ℕ) (told : Went) → t < run.threads → enabled S t ≡ true → told ≡ went_of run S t → AfterGo t told
  after_go t told one goes is = subst (AfterGo t) (sym is) (by_outcome t (turn run S t).outcome one goes refl)

-- an entry more, where the parts are known
takes : (old new : Progress) (entry : Entry) (S : State) (waiting : List (Option Waiting)) (calls : List HeardCall) → new.machine ≡ record old.machine { state = S }
    → new.waiting ≡ waiting → new.calls.items ≡ calls → new.seq ≡ old.seq + 1
    → ((done : List Entry) → IsAt done old → HasCome old.machine.run (done ++ entry ∷ []) S waiting calls) → Takes old entry new
takes old new entry S waiting calls machine_is waiting_is calls_is seq_is comes = record {
  run_is = ap (λ (machine : MachineView). machine.run) machine_is;
  at = λ done at.
      let now = done ++ entry ∷ [] in
      record {
        come =
            subst (λ (machine : MachineView). HasCome machine.run now machine.state new.waiting new.calls.items) (sym machine_is)
            (subst (λ (all : List (Option Waiting)). HasCome old.machine.run now S all new.calls.items) (sym waiting_is)
            (subst (HasCome old.machine.run now S waiting) (sym calls_is) (comes done at)));
        seq_is = seq_is ∙ ap (λ (place : ℕ). place + 1) at.seq_is ∙ sym (length_push done entry);
      };
}

pub takes_go : (old new : Progress) (t : ℕ) (told : Went) → t < old.machine.run.threads → enabled old.machine.state t ≡ true → told ≡ went_of old.machine.run old.machine.state t
    → new.machine ≡ record old.machine { state = (turn old.machine.run old.machine.state t).state } → new.waiting ≡ waiting_after old.waiting t old.seq told
    → new.calls.items ≡ calls_after old.calls.items t old.seq told → new.seq ≡ old.seq + 1 → Takes old (entry_of t Go) new
takes_go old new t told one goes told_is machine_is waiting_is calls_is seq_is =
    let run = old.machine.run in
    let S = old.machine.state in
    takes old new (entry_of t Go) (turn run S t).state (waiting_after old.waiting t old.seq told) (calls_after old.calls.items t old.seq told) machine_is waiting_is calls_is seq_is
    (λ done at.
    subst (λ (place : ℕ). HasCome run (done ++ entry_of t Go ∷ []) (turn run S t).state (waiting_after old.waiting t place told) (calls_after old.calls.items t place told)) (sym at.seq_is)
    (after_go run done S old.waiting old.calls.items at.come t told one goes told_is))

pub takes_put : (old new : Progress) (t : ℕ) (place : Target) (word : ℕ) (inside : Waiting) → t < old.machine.run.threads → slice_index_or old.waiting t None ≡ Some inside
    → may old.machine.run old.machine.state t (Put place word) ≡ true → new.machine ≡ record old.machine { state = put old.machine.state t place word }
    → new.waiting ≡ slice_set old.waiting t (Some (record inside { stores = inside.stores + 1 })) → new.calls.items ≡ old.calls.items → new.seq ≡ old.seq + 1 → Takes old (entry_of t (Put place word)) new
takes_put old new t place word inside one is allowed machine_is waiting_is calls_is seq_is =
    takes old new (entry_of t (Put place word)) (put old.machine.state t place word) (slice_set old.waiting t (Some (record inside { stores = inside.stores + 1 }))) old.calls.items
    machine_is waiting_is calls_is seq_is (λ done at. after_put old.machine.run done old.machine.state old.waiting old.calls.items at.come t place word inside one is allowed)

pub takes_back : (old new : Progress) (t : ℕ) → t < old.machine.run.threads → is_some (pending_at old.machine.state t) ≡ true → new.machine ≡ record old.machine { state = back old.machine.state t }
    → new.waiting ≡ slice_set old.waiting t None → new.calls.items ≡ old.calls.items → new.seq ≡ old.seq + 1 → Takes old (entry_of t Back) new
takes_back old new t one inside machine_is waiting_is calls_is seq_is =
    takes old new (entry_of t Back) (back old.machine.state t) (slice_set old.waiting t None) old.calls.items machine_is waiting_is calls_is seq_is
    (λ done at. after_back old.machine.run done old.machine.state old.waiting old.calls.items at.come t one inside)

-- Going through a history.

pub goes_next : (history : List Entry) (i : ℕ) (d : Entry) (old new : Progress) → i < length history → IsAt (take i history) old → Takes old (slice_index_or history i d) new → IsAt (take (i + 1) history) new
goes_next history i d old new within at takes = subst (λ (done : List Entry). IsAt done new) (sym (take_more history i d within)) (takes.at (take i history) at)

pub stops_at : (history : List Entry) (i : ℕ) (d : Entry) (old new : Progress) → i < length history → IsAt (take i history) old → Steps old (slice_index_or history i d) new false → Stops history new
stops_at history i d old new within at step = record {
  done = take i history;
  entry = slice_index_or history i d;
  rest = drop (suc i) history;
  whole = split_at history i d within;
  at = subst (IsAt (take i history)) (sym step.0) at;
  refused =
      let entry = slice_index_or history i d in
      subst (λ (progress : Progress). may progress.machine.run progress.machine.state entry.thread entry.what ≡ false) (sym step.0) step.1;
}

take_none : (n : ℕ) → take {A = Entry} n [] ≡ []
take_none zero = refl
take_none (suc n) = refl

take_whole : (xs : List Entry) (n : ℕ) → length xs ≤ n → take n xs ≡ xs
take_whole [] n few = take_none n
take_whole (x ∷ xs) zero few = absurd (omega arith)
take_whole (x ∷ xs) (suc n) few = ap (λ (rest : List Entry). x ∷ rest) (take_whole xs n (omega arith))

pub goes_through : (history : List Entry) (i : ℕ) (progress : Progress) → length history ≤ i → IsAt (take i history) progress → IsAt history progress
goes_through history i progress all at = subst (λ (done : List Entry). IsAt done progress) (take_whole history i all) at

-- Before the first entry.
pub starts : (progress : Progress) (run : Run) → run.threads ≤ 16 → progress.machine ≡ record { run = run; state = first run } → progress.waiting ≡ replicate 16 None → progress.calls.items ≡ []
    → progress.seq ≡ 0 → IsAt [] progress
starts progress run few machine_is waiting_is calls_is seq_is = record {
  come =
      subst (λ (machine : MachineView). HasCome machine.run [] machine.state progress.waiting progress.calls.items) (sym machine_is)
      (subst (λ (waiting : List (Option Waiting)). HasCome run [] (first run) waiting progress.calls.items) (sym waiting_is)
      (subst (HasCome run [] (first run) (replicate 16 None)) (sym calls_is)
      (at_first run (replicate 16 None) few (λ t. at-replicate (λ (o : Option Waiting). o ≡ None) 16 t None refl))));
  seq_is = seq_is;
}

-- After the last: the calls whose callbacks have returned are those that are heard.

or_false : (b : Bool) → b ≡ (b || false)
or_false true = refl
or_false false = refl

kept_at_end : (waiting : List (Option Waiting)) (calls : List HeardCall) → filter (λ (call : HeardCall). not (waits waiting call)) calls ≡ filter (is_kept waiting []) calls
kept_at_end waiting [] = refl
kept_at_end waiting (call ∷ calls) = ap₂ (λ (b : Bool) (kept : List HeardCall). cond b (call ∷ kept) kept) (or_false (not (waits waiting call))) (kept_at_end waiting calls)

pub heard_at_end : (progress : Progress) (done : List Entry) (kept : List HeardCall) → IsAt done progress
    → kept ≡ filter (λ (call : HeardCall). not (waits progress.waiting call)) progress.calls.items → kept ≡ map heard_call (heard progress.machine.run done)
heard_at_end progress done kept at is =
    is ∙ kept_at_end progress.waiting progress.calls.items
    ∙ heard_so_far progress.machine.run done progress.machine.state progress.waiting progress.calls.items at.come

-- What a rerun says.

pub illegal_stopped : (file : HistoryFile) (progress : Progress) → Stops file.history progress → IsVerdict progress.machine.run file (verdict.Illegal progress.seq)
illegal_stopped file progress it =
    let run = progress.machine.run in
    subst (λ (place : ℕ). IsVerdict run file (verdict.Illegal place)) (sym it.at.seq_is)
    (stopped run it.done progress.machine.state progress.waiting progress.calls.items it.at.come file it.entry it.rest it.whole it.refused)

pub illegal_ended : (file : HistoryFile) (progress : Progress) → IsAt file.history progress → (EndsAs progress.machine.run progress.machine.state file → ⊥)
    → IsVerdict progress.machine.run file (verdict.Illegal progress.seq)
illegal_ended file progress at other =
    let run = progress.machine.run in
    subst (λ (place : ℕ). IsVerdict run file (verdict.Illegal place)) (sym at.seq_is)
    (not_certified run file progress.machine.state progress.waiting progress.calls.items at.come other)

pub legal_ended : (file : HistoryFile) (progress : Progress) (calls : List HeardCall) → IsAt file.history progress → EndsAs progress.machine.run progress.machine.state file
    → calls ≡ map heard_call (heard progress.machine.run file.history) → IsVerdict progress.machine.run file (verdict.Legal calls)
legal_ended file progress calls at ends heard_is = (certified progress.machine.run file progress.machine.state progress.waiting progress.calls.items at.come ends, heard_is)

-- Where a store may stand, and where not.

and_false : (b : Bool) → (b && false) ≡ false
and_false true = refl
and_false false = refl

module _ (progress : Progress) (done : List Entry) (at : IsAt done progress) (t : ℕ) (place : Target) (word : ℕ) where
  -- what is known of the thread
  known : (now : Option Waiting) → slice_index_or progress.waiting t None ≡ now → IsWaiting progress.machine.run now (pending_at progress.machine.state t)
  known now is = subst (λ (o : Option Waiting). IsWaiting progress.machine.run o (pending_at progress.machine.state t)) is (at.come.inside t)

  pub store_is : (inside : Waiting) → slice_index_or progress.waiting t None ≡ Some inside →
      may progress.machine.run progress.machine.state t (Put place word) ≡ ((is_some inside.told && nat_lt inside.stores STORE_LIMIT) && is_made progress.machine.state.world place)
  store_is inside is = may_store progress.machine.run progress.machine.state place inside (pending_at progress.machine.state t) (known (Some inside) is)

  pub store_allowed : (inside : Waiting) → slice_index_or progress.waiting t None ≡ Some inside → (is_some inside.told && nat_lt inside.stores STORE_LIMIT) ≡ true
      → is_made progress.machine.state.world place ≡ true → may progress.machine.run progress.machine.state t (Put place word) ≡ true
  store_allowed inside is few made = store_is inside is ∙ ap₂ (λ (a b : Bool). a && b) few made

  pub store_refused : (inside : Waiting) → slice_index_or progress.waiting t None ≡ Some inside → (is_some inside.told && nat_lt inside.stores STORE_LIMIT) ≡ false
      → may progress.machine.run progress.machine.state t (Put place word) ≡ false
  store_refused inside is many = store_is inside is ∙ ap (λ (b : Bool). b && is_made progress.machine.state.world place) many

  pub store_unmade : (inside : Waiting) → slice_index_or progress.waiting t None ≡ Some inside → is_made progress.machine.state.world place ≡ false
      → may progress.machine.run progress.machine.state t (Put place word) ≡ false
  store_unmade inside is unmade =
      let few = is_some inside.told && nat_lt inside.stores STORE_LIMIT in
      store_is inside is ∙ ap (λ (b : Bool). few && b) unmade ∙ and_false few

  pub no_store : slice_index_or progress.waiting t None ≡ None → may progress.machine.run progress.machine.state t (Put place word) ≡ false
  no_store is =
      ap (may_put progress.machine.run progress.machine.state place) (none_inside progress.machine.run (pending_at progress.machine.state t) (known None is))
