-- What guests stand for after a run: guest t was the part of thread t.
use Rattle.std.specs.Prelude.{ℕ, ◌≡◌, ◌≢◌, ◌<◌, ◌≤◌, ◌||◌, Bool, false, List, [], ◌∷◌, length, slice_index_or}
use Rattle.std.specs.declared.{alloc.Global.Global, dyn_box.DynBox.DynBox}
use Rattle.tool_api.specs.declared.handed.Handed.TheVariants as held
use Rattle.omp_model.specs.declared.cause.Cause.TheVariants as causes
use Rattle.ompt_words.specs.declared.settings.RunOutput.TheVariants as output
use Rattle.team_run.specs.{Serving.Becomes, Serving.called_for, Serving.record_of_first, Standing.AreSilent, Unheard.AreUnheard}
use Rattle.ompt_cli.specs.Names.{PROFILE_MASK, is_registered, IsUncalled, Record, Handed, Cause, Entry, Run, heard_of, mask_of, HasHeard, HasStarted, Command, Running}
use Rattle.ompt_cli.specs.{declared.report.Report.Report, Commands.run_of}

-- guest 0 was started, with this answer and these callbacks registered, called for what thread 0 heard, and finished after all
-- that where it is active; guest t was called for what thread t heard; those past the threads are as they were. Beside that a guest
-- may have been called for one event more, in which it found no memory: that call went unheard, and the cause says so. Where there is no
-- guest, nothing is registered, and nothing is stored on a thread without a guest. Each is of the type that was handed in
pub record GuestsServe {B : Type 0} (stands_for : B → Record → Type 0) (Same : B → B → Type 0) (serial : Bool) (run : Run) (cause : Cause)
    (history : List Entry) (guests after : List B) : Type 0 where
  pub as_many : length after ≡ length guests
  pub answer : ℕ
  pub registered : ℕ
  pub mask_is : run.mask ≡ mask_of answer registered
  pub nobody : length guests ≡ 0 → answer ≡ 0
  pub unheard : ℕ → Bool
  pub are_unheard : AreUnheard serial run cause history unheard
  pub all_heard : cause ≢ causes.Memory → (k : ℕ) → k < run.threads → unheard k ≡ false
  pub first : 0 < length guests → Becomes stands_for guests after 0 (record_of_first answer registered (heard_of run history 0) (unheard 0))
  pub others : (k : ℕ) → 0 < k → k < run.threads → k < length guests →
      Becomes stands_for guests after k (called_for (heard_of run history k) (unheard k))
  pub rest : (k : ℕ) (d : B) → run.threads ≤ k → slice_index_or after k d ≡ slice_index_or guests k d
  pub same_types : (k : ℕ) (d : B) → k < length guests → Same (slice_index_or guests k d) (slice_index_or after k d)
  pub guestless : (k : ℕ) → length guests ≤ k → k < run.threads → AreSilent (heard_of run history k)

-- what guest k comes to in a run before which it wasn't called
abbrev pub ComesTo : {B : Type 0} → (B → Record → Type 0) → List B → List B → ℕ → (B → Type 0) → Type 0
ComesTo {B} stands_for guests after k Has = (d : B) (h : Record) → IsUncalled h → stands_for (slice_index_or guests k d) h →
    Has (slice_index_or after k d)

-- The same after a run beside profiles, of guests that weren't called before: guest 0 was started, with this answer and these callbacks
-- registered, and no other guest was. What the run has registered is what guest 0 did, where it is active, and the profile. Where the run
-- found memory, guest t was called for exactly those items of what thread t heard that are in the guests' mask, and guest 0 finished
-- after all that where it is active. Those past the threads are as they were, and nothing is stored on a thread without a guest. Each is
-- of the type that was handed in
pub record GuestsJoin {B : Type 0} (stands_for : B → Record → Type 0) (Same : B → B → Type 0) (run : Run) (cause : Cause)
    (history : List Entry) (guests after : List B) : Type 0 where
  pub as_many : length after ≡ length guests
  pub answer : ℕ
  pub registered : ℕ
  pub mask_is : (number : ℕ) → is_registered run.mask number ≡
      (is_registered (mask_of answer registered) number || is_registered PROFILE_MASK number)
  pub nobody : length guests ≡ 0 → answer ≡ 0
  pub begun : 0 < length guests →
      ComesTo stands_for guests after 0 (λ guest. HasStarted stands_for guest (record { answer = answer; mask = registered } ∷ []))
  pub unbegun : (k : ℕ) → 0 < k → k < run.threads → k < length guests →
      ComesTo stands_for guests after k (λ guest. HasStarted stands_for guest [])
  pub first : cause ≢ causes.Memory → 0 < length guests →
      ComesTo stands_for guests after 0
      (λ guest. HasHeard stands_for guest (record { answer = answer; mask = registered } ∷ []) answer (mask_of answer registered)
      (heard_of run history 0))
  pub others : cause ≢ causes.Memory → (k : ℕ) → 0 < k → k < run.threads → k < length guests →
      ComesTo stands_for guests after k (λ guest. HasHeard stands_for guest [] 0 (mask_of answer registered) (heard_of run history k))
  pub rest : (k : ℕ) (d : B) → run.threads ≤ k → slice_index_or after k d ≡ slice_index_or guests k d
  pub same_types : (k : ℕ) (d : B) → k < length guests → Same (slice_index_or guests k d) (slice_index_or after k d)
  pub guestless : (k : ℕ) → length guests ≤ k → k < run.threads → AreSilent (heard_of run history k)

-- what guests stand for after a command: all but `run` leave them as they were
abbrev pub AfterCommand : {B : Type 0} → (B → Record → Type 0) → (B → B → Type 0) → Command → Bool → Run → Cause → List Entry → List B →
    List B → Type 0
AfterCommand stands_for Same (Running output.Profile) serial run cause history guests after =
    GuestsJoin stands_for Same run cause history guests after
AfterCommand stands_for Same (Running other) serial run cause history guests after =
    GuestsServe stands_for Same serial run cause history guests after
AfterCommand stands_for Same other serial run cause history guests after = after ≡ guests

-- `AfterCommand` for the guests that a report has. Before its run they were `guests`, and each is still of the type that was handed in.
abbrev pub GuestsAfter : {Table : Type 0} {Behind : Table → Type 0} → (DynBox Table Global Behind → Record → Type 0) →
    List (DynBox Table Global Behind) → Report Table Behind → Type 0
GuestsAfter stands_for guests report =
    AfterCommand stands_for (λ guest other. guest.vtable ≡ other.vtable) report.command report.serial
    (run_of report) report.cause report.history guests report.guests.items

-- the guests that these parts hold, in order
abbrev pub guests_of : {G : Type 0} {B : Type 0} → (G → B) → List (Handed G) → List B
guests_of box [] = []
guests_of box (held.Guest guest ∷ parts) = box guest ∷ guests_of box parts
guests_of box (held.Quiet quiet ∷ parts) = guests_of box parts

-- the parts hold the first of these guests, in order, and where there are no more, none; and these are left
abbrev pub HandOut : {G : Type 0} {B : Type 0} → (G → B) → List B → List (Handed G) → List B → Type 0
HandOut box guests [] rest = guests ≡ rest
HandOut box [] (held.Guest guest ∷ parts) rest = ⊥
HandOut box (b ∷ guests) (held.Guest guest ∷ parts) rest = (box guest ≡ b) × HandOut box guests parts rest
HandOut box [] (held.Quiet quiet ∷ parts) rest = HandOut box [] parts rest
HandOut box (b ∷ guests) (held.Quiet quiet ∷ parts) rest = ⊥
