-- The calls that went unheard: the part of a thread was called for an event, and found no memory. And what that adds to the parts' records.
use Rattle.std.specs.Prelude.{ℕ, ◌≡◌, ◌≢◌, ◌<◌, ◌==◌, Bool, true, false, IsTrue, if◌then◌else◌, List, [], ◌∷◌, ◌++◌, Option, Some, None}
use Rattle.omp_model.specs.declared.cause.Cause.TheVariants as causes
use Rattle.omp_model.specs.Legal.{is_told}
use Rattle.team_run.specs.Names.{Call, Snapshot, Record, one_unheard, Cause, Entry, Callback, Run, pending_at, after, none_pending, go_at, Owes}

-- the history ends with this thread's Go, and the thread is inside a callback that is registered: it was called, and has not
-- returned
pub record EndsInside (run : Run) (history : List Entry) (t : ℕ) : Type 0 where
  pub before : List Entry
  pub last : history ≡ before ++ go_at t ∷ []
  pub callback : Callback
  pub inside : pending_at (after run history) t ≡ Some callback
  pub registered : IsTrue (is_told run callback)

-- the thread whose callback found no memory is the one inside whose callback the history ends. Where there is none, nobody is
-- inside a callback at the end
abbrev pub IsUnheard : Run → List Entry → Option ℕ → Type 0
IsUnheard run history None = IsTrue (none_pending (after run history))
IsUnheard run history (Some t) = EndsInside run history t

-- the thread owes the answer to a registered event: its part was called for it, and found no memory
pub record OwesStill (run : Run) (history : List Entry) (t : ℕ) : Type 0 where
  pub seq : ℕ
  pub call : Call
  pub snapshot : Snapshot
  pub owes : Owes run history t seq call snapshot

-- how a thread is left at the end of a history: where its part found no memory in a call, the answer is owed still, and else the thread is
-- inside no callback
abbrev pub LeftAt : Run → List Entry → ℕ → Bool → Type 0
LeftAt run history t true = OwesStill run history t
LeftAt run history t false = pending_at (after run history) t ≡ None

-- there is a number, and it is that of this thread
abbrev pub is_of : Option ℕ → ℕ → Bool
is_of None k = false
is_of (Some t) k = t == k

-- after a serial run the one call that went unheard, if one did, is that of the thread inside whose callback the history ends
pub record IsOneUnheard (run : Run) (cause : Cause) (history : List Entry) (unheard : ℕ → Bool) : Type 0 where
  pub one : Option ℕ
  pub is_unheard : IsUnheard run history one
  pub all_heard : cause ≢ causes.Memory → one ≡ None
  pub unheard_is : (k : ℕ) → unheard k ≡ is_of one k

-- the threads a call of whose parts went unheard: after a run by threads those that owe an answer still
abbrev pub AreUnheard : Bool → Run → Cause → List Entry → (ℕ → Bool) → Type 0
AreUnheard true run cause history unheard = IsOneUnheard run cause history unheard
AreUnheard false run cause history unheard = (k : ℕ) → k < run.threads → LeftAt run history k (unheard k)

-- the record after one more call that found no memory, if there was one
abbrev pub unheard_if : Bool → Record → Record
unheard_if unheard h = if unheard then one_unheard h else h

-- the record of part k where the part of this thread, if of any, found no memory in one call
abbrev pub unheard_on : Option ℕ → ℕ → Record → Record
unheard_on unheard k h = unheard_if (is_of unheard k) h
