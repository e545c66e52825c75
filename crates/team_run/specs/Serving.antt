-- What the parts of a run are called for: each registered event of its thread, and the first of them also for the start and the
-- end of the run.
use Rattle.std.specs.Prelude.{ℕ, ◌≡◌, ◌≢◌, ◌<◌, ◌==◌, if◌then◌else◌, Bool, false, List, ◌++◌, length, slice_index_or, Option}
use Rattle.omp_model.specs.declared.cause.Cause.TheVariants as causes
use Rattle.tool_api.specs.Record.{finalized}
use Rattle.team_run.specs.Names.{Call, Snapshot, Reply, Item, item_of, stores_of, Record, initialized, told, mask_of, Cause, Entry, Run, heard_of, event_reply}
use Rattle.team_run.specs.Unheard.{AreUnheard, IsUnheard, is_of, unheard_if, unheard_on}

-- part k, whatever it stood for before, stands afterwards for what this makes of it
abbrev pub Becomes : {P : Type 0} → (P → Record → Type 0) → List P → List P → ℕ → (Record → Record) → Type 0
Becomes {P} stands_for parts after k more =
    (d : P) (h : Record) → stands_for (slice_index_or parts k d) h → stands_for (slice_index_or after k d) (more h)

-- the record after the calls of these items
abbrev pub served : Record → List Item → Record
served h items = record h { calls = h.calls ++ items }

-- the record after the calls of these items, and then one more that found no memory, if there was one
abbrev pub called_for : List Item → Bool → Record → Record
called_for items unheard h = unheard_if unheard (served h items)

-- each part that stood for what its thread had heard of one history stands for what it has heard of the other, and this
-- thread's, if any, found no memory in one call
pub record Serves {P : Type 0} (stands_for : P → Record → Type 0) (run : Run) (parts : List P) (history : List Entry)
    (unheard : Option ℕ) (after : List P) (longer : List Entry) : Type 0 where
  pub as_many : length after ≡ length parts
  pub each : (k : ℕ) (d : P) (h : Record) → k < length parts → stands_for (slice_index_or parts k d) (served h (heard_of run history k)) →
      stands_for (slice_index_or after k d) (called_for (heard_of run longer k) (is_of unheard k) h)

-- the same, where the longer history says which thread's part found no memory
pub record ServesTo {P : Type 0} (stands_for : P → Record → Type 0) (run : Run) (parts : List P) (history : List Entry)
    (after : List P) (longer : List Entry) : Type 0 where
  pub unheard : Option ℕ
  pub is_unheard : IsUnheard run longer unheard
  pub serves : Serves stands_for run parts history unheard after longer

-- the record of part k where the part of thread t was called for this item
abbrev pub told_on : ℕ → ℕ → Item → Record → Record
told_on t k item h = if t == k then told h item else h

-- the callback of thread t's event was answered with this reply: its stores, the return, and the call of the thread's part
pub record Answers {P : Type 0} (stands_for : P → Record → Type 0) (seq t : ℕ) (call : Call) (snapshot : Snapshot)
    (parts : List P) (history : List Entry) (others : List P) (longer : List Entry) : Type 0 where
  pub reply : Reply
  pub history_is : longer ≡ history ++ event_reply t (stores_of reply snapshot)
  pub as_many : length others ≡ length parts
  pub each : (k : ℕ) → k < length parts → Becomes stands_for parts others k (told_on t k (item_of seq t call snapshot reply))

-- each part stands for what it stood for, but that this thread's, if any, found no memory in one call
pub record OnlyUnheard {P : Type 0} (stands_for : P → Record → Type 0) (unheard : Option ℕ) (parts others : List P) : Type 0 where
  pub as_many : length others ≡ length parts
  pub each : (k : ℕ) → k < length parts → Becomes stands_for parts others k (unheard_on unheard k)

-- each part is the same as before, by a relation of its own
pub record AreSame {P : Type 0} (Same : P → P → Type 0) (parts others : List P) : Type 0 where
  pub each : (k : ℕ) (d : P) → k < length parts → Same (slice_index_or parts k d) (slice_index_or others k d)

-- an active part is finished at the end
abbrev pub finished_by : ℕ → Record → Record
finished_by answer h = if answer == 0 then h else finalized h

-- the first part's record after a run: it was started with this answer and this registered, then called as the others are, and
-- at the end finished where it is active
abbrev pub record_of_first : ℕ → ℕ → List Item → Bool → Record → Record
record_of_first answer registered items unheard h = finished_by answer (called_for items unheard (initialized h answer registered))

-- the first part has come to what this makes of its record, and the others are as they were. Each is the same as before
pub record ChangesFirst {P : Type 0} (stands_for : P → Record → Type 0) (Same : P → P → Type 0) (more : Record → Record)
    (parts others : List P) : Type 0 where
  pub as_many : length others ≡ length parts
  pub same : AreSame Same parts others
  pub first : Becomes stands_for parts others 0 more
  pub others_are : (k : ℕ) (d : P) → 0 < k → slice_index_or others k d ≡ slice_index_or parts k d

-- The parts of a run that ended in this cause with this history, serially or by threads: the first was started, and at the end
-- finished where it is active, and each was called for what its thread heard, in order. Beside that a part may have been called for one
-- event more, in which it found no memory: that call went unheard, and the cause says so.
pub record RunsParts {P : Type 0} (stands_for : P → Record → Type 0) (serial : Bool) (run : Run) (cause : Cause) (history : List Entry)
    (parts others : List P) : Type 0 where
  pub as_many : length others ≡ length parts
  pub answer : ℕ
  pub registered : ℕ
  pub mask_is : run.mask ≡ mask_of answer registered
  pub unheard : ℕ → Bool
  pub are_unheard : AreUnheard serial run cause history unheard
  pub all_heard : cause ≢ causes.Memory → (k : ℕ) → k < run.threads → unheard k ≡ false
  pub first : Becomes stands_for parts others 0 (record_of_first answer registered (heard_of run history 0) (unheard 0))
  pub each : (k : ℕ) → 0 < k → k < length parts → Becomes stands_for parts others k (called_for (heard_of run history k) (unheard k))
