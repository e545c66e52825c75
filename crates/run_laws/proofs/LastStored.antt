-- After a legal history each word is the last one that was put there, or 0.
use Rattle.std.proofs.Common.{ℕ, zero, suc, ◌≡◌, ◌<◌, ◌-◌, ◌==◌, ◌&&◌, Bool, true, false, if◌then◌else◌, List, [], ◌∷◌, length, Option, Some, None, refl, ap, ◌∙◌}
use Rattle.std.specs.Prelude.{unwrap_or, nat_lt}
use Rattle.std.proofs.lemmas.Bool.{and_parts, ltb-true}
use Rattle.ompt_calls.specs.declared.snapshot.Target.{Target}
use Rattle.ompt_calls.specs.declared.snapshot.Target.TheVariants as target
use Rattle.omp_model.specs.declared.event.Callback.{Callback}
use Rattle.omp_model.specs.declared.history.Entry.{Entry}
use Rattle.omp_model.specs.declared.history.What.{What}
use Rattle.omp_model.specs.declared.history.What.TheVariants.{Back, Go, Put}
use Rattle.omp_model.specs.declared.limits.TheConstants.{STORE_LIMIT}
use Rattle.omp_model.specs.Legal.{AllowsFrom, Legal, after, after_from, back_from, does, entered, is_told, may, may_put, put_from}
use Rattle.omp_model.specs.Serial.{or_else}
use Rattle.omp_model.specs.State.{Region, Run, State, Task, Thread, World, first, first_world, no_region, no_task, pending_at, region_at, task_at, thread_at, unmade}
use Rattle.omp_model.specs.Turn.{turn}
use Rattle.omp_model.specs.Words.{is_made, is_made_identity, stored}
use Rattle.omp_model.proofs.MadeRuns.{at-replicate}
use Rattle.omp_model.proofs.Moves.{thread-within}
use Rattle.omp_model.proofs.Reading.{read-set}
use Rattle.run_laws.specs.LastStored.{last_put, last_stored, put_in, word_of}
use Rattle.run_laws.proofs.SameWords.{same-back, same-turn}

-- an identity that was given out
identity-below : (identity count : ℕ) → is_made_identity identity count ≡ true → identity < count
identity-below identity count made = ltb-true identity count (and_parts (nat_lt 0 identity) (nat_lt identity count) made).1

-- what was put, or else the word as it was
new-word : (b : Bool) (word old : ℕ) → (if b then word else old) ≡ unwrap_or (if b then Some word else None) old
new-word true word old = refl
new-word false word old = refl

-- a store changes the word that it names, where that was made, and no other
put-word : (W : World) (place other : Target) (word : ℕ) → is_made W place ≡ true →
    word_of (stored W place word) other ≡ unwrap_or (put_in other (Put place word)) (word_of W other)
put-word W (target.Thread t) (target.Thread u) word made =
    read-set (λ (x : Thread). x.word) unmade W.threads t u (record (thread_at W t) { word = word }) (thread-within W.threads t made) ∙ new-word (u == t) word (thread_at W u).word
put-word W (target.Parallel r) (target.Parallel q) word made =
    let region : Region = record (region_at W r) { head = record (region_at W r).head { word = word } } in
    read-set (λ (x : Region). x.head.word) no_region W.regions r q region (identity-below r (length W.regions) made) ∙ new-word (q == r) word (region_at W q).head.word
put-word W (target.Task k) (target.Task j) word made =
    read-set (λ (x : Task). x.word) no_task W.tasks k j (record (task_at W k) { word = word }) (identity-below k (length W.tasks) made) ∙ new-word (j == k) word (task_at W j).word
put-word W (target.Thread t) (target.Parallel q) word made = refl
put-word W (target.Thread t) (target.Task k) word made = refl
put-word W (target.Parallel r) (target.Thread u) word made = refl
put-word W (target.Parallel r) (target.Task k) word made = refl
put-word W (target.Task k) (target.Thread u) word made = refl
put-word W (target.Task k) (target.Parallel q) word made = refl

put-entry : (run : Run) (S : State) (t : ℕ) (place other : Target) (word : ℕ) (inside : Option Callback) → may_put run S place inside ≡ true →
    word_of (put_from S t place word inside).world other ≡ unwrap_or (put_in other (Put place word)) (word_of S.world other)
put-entry run S t place other word None may = cc
put-entry run S t place other word (Some callback) may =
    put-word S.world place other word (and_parts (is_told run callback && nat_lt callback.stores STORE_LIMIT) (is_made S.world place) may).1

back-entry : (S : State) (t : ℕ) (other : Target) (inside : Option Callback) → word_of (back_from S t inside).world other ≡ word_of S.world other
back-entry S t other None = refl
back-entry S t other (Some callback) = same-back S.world t callback.event other

-- an entry changes a word only where it puts something there
word-entry : (run : Run) (S : State) (t : ℕ) (what : What) (other : Target) → may run S t what ≡ true →
    word_of (does run S t what).world other ≡ unwrap_or (put_in other what) (word_of S.world other)
word-entry run S t Go other may = same-turn run S t other
word-entry run S t (Put place word) other may = put-entry run S t place other word (pending_at S t) may
word-entry run S t Back other may = back-entry S t other (pending_at S t)

-- the later one of two goes before
later-first : (later earlier : Option ℕ) (old : ℕ) → unwrap_or later (unwrap_or earlier old) ≡ unwrap_or (or_else later earlier) old
later-first None earlier old = refl
later-first (Some word) earlier old = refl

word-from : (run : Run) (S : State) (history : List Entry) (other : Target) → AllowsFrom run S history →
    word_of (after_from run S history).world other ≡ unwrap_or (last_put other history) (word_of S.world other)
word-from run S [] other allows = refl
word-from run S (entry ∷ rest) other allows =
    word-from run (entered run S entry) rest other allows.1
    ∙ ap (unwrap_or (last_put other rest)) (word-entry run S entry.thread entry.what other allows.0)
    ∙ later-first (last_put other rest) (put_in other entry.what) (word_of S.world other)

-- nothing is stored at first
first-thread : (run : Run) (t : ℕ) → (thread_at (first_world run) t).word ≡ 0
first-thread run zero = refl
first-thread run (suc t) = at-replicate (λ (thread : Thread). thread.word ≡ 0) (run.threads - 1) t unmade refl

first-region : (run : Run) (r : ℕ) → (region_at (first_world run) r).head.word ≡ 0
first-region run zero = refl
first-region run (suc zero) = refl
first-region run (suc (suc r)) = refl

first-task : (run : Run) (k : ℕ) → (task_at (first_world run) k).word ≡ 0
first-task run zero = refl
first-task run (suc zero) = refl
first-task run (suc (suc k)) = refl

first-word : (run : Run) (other : Target) → word_of (first_world run) other ≡ 0
first-word run (target.Thread t) = first-thread run t
first-word run (target.Parallel r) = first-region run r
first-word run (target.Task k) = first-task run k

pub word-after : (run : Run) (history : List Entry) (other : Target) → Legal run history → word_of (after run history).world other ≡ last_stored other history
word-after run history other legal = word-from run (first run) history other legal ∙ ap (unwrap_or (last_put other history)) (first-word run other)

pub word-told : (run : Run) (history : List Entry) (t : ℕ) (other : Target) → Legal run history →
    word_of (turn run (after run history) t).state.world other ≡ last_stored other history
word-told run history t other legal = same-turn run (after run history) t other ∙ word-after run history other legal
