-- The drivers of a run, while they are started, and once they have come back.
use Rattle.std.specs.Prelude.{ℕ, ◌≡◌, ◌≢◌, ◌<◌, ◌≤◌, false, List, [], length, get_or, vec_capacity, Some, MatchResult}
use Rattle.std.specs.Global.{Vec}
use Rattle.omp_model.specs.declared.cause.Cause.TheVariants as causes
use Rattle.team_run.specs.{Names.Record, Names.Cause, Names.Run, Names.Closed, Names.PassView, Program.HaveServed}
use Rattle.thread_run.specs.{declared.team.Slot.Slot, Driving.IsDriven}

-- the driver of a thread, whose part was this one at first
pub record IsDriver {P : Type 0} (stands_for : P → Record → Type 0) (Same : P → P → Type 0) (run : Run) (t : ℕ) (first : P)
    (pass : PassView) (part : P) : Type 0 where
  pub thread : pass.thread ≡ t
  pub driven : IsDriven stands_for Same run first pass part

-- a driver that runs on a thread of its own, as it was when it was started, or that the caller has
abbrev pub IsSlot : {K P : Type 0} → (P → Record → Type 0) → (P → P → Type 0) → Run → ℕ → P → Slot K P → Type 0
IsSlot stands_for Same run t first slot = MatchResult slot.driver
    (λ running. IsDriver stands_for Same run t first running.promise.0.value running.promise.1.value)
    (λ here. IsDriver stands_for Same run t first here.0 here.1)

-- each of these is what this says of its place and of the part that was there at first
abbrev pub AreFor : {P L : Type 0} → (ℕ → P → L → Type 0) → List P → List L → Type 0
AreFor {P = P} {L = L} is parts slots = (k : ℕ) (d : L) (e : P) → k < length slots → is k (get_or parts k e) (get_or slots k d)

-- the passes and parts of all threads, in order
abbrev pub AreDrivers : {P : Type 0} → (P → Record → Type 0) → (P → P → Type 0) → Run → List P → List PassView → List P → Type 0
AreDrivers {P = P} stands_for Same run first passes parts = (k : ℕ) (d : PassView) (e f : P) → k < length passes →
    IsDriver stands_for Same run k (get_or first k e) (get_or passes k d) (get_or parts k f)

-- what is so of a list of slots is so of the other, which is as long
pub record AreKept {P L : Type 0} (is : ℕ → P → L → Type 0) (slots others : List L) : Type 0 where
  pub as_many : length others ≡ length slots
  pub each : (k : ℕ) (d : L) (t : ℕ) (first : P) → k < length slots → is t first (get_or slots k d) → is t first (get_or others k d)

-- nothing is in this list, and there is room for so many
pub record HasRoom {A : Type 0} (count : ℕ) (list : Vec A) : Type 0 where
  pub empty : list.items ≡ []
  pub enough : count ≤ vec_capacity list

-- These passes and parts can be driven: there are as many, at most 16, and there is room for what drives them and for what comes back.
pub record CanDrive {P L : Type 0} (passes : List PassView) (parts : List P) (slots : Vec L) (passes_back : Vec PassView)
    (parts_back : Vec P) : Type 0 where
  pub few : length passes ≤ 16
  pub each : length passes ≡ length parts
  pub slot_room : HasRoom (length passes) slots
  pub pass_room : HasRoom (length passes) passes_back
  pub part_room : HasRoom (length passes) parts_back

-- What has come back of passes and parts that were driven: as many of both, and where all were drivers in order they still are.
pub record HaveComeBack {P : Type 0} (stands_for : P → Record → Type 0) (Same : P → P → Type 0) (run : Run) (driven : List PassView)
    (first : List P) (later : List PassView) (others : List P) : Type 0 where
  pub passes : length later ≡ length driven
  pub parts : length others ≡ length driven
  pub drivers : AreDrivers stands_for Same run first driven first → AreDrivers stands_for Same run first later others

-- What a run by threads has come to, of which this is the cause, where that is known, or else want of memory. Then the history has an entry
abbrev pub HasServed : {P : Type 0} → (P → Record → Type 0) → (P → P → Type 0) → Run → Closed → List P → List P → Type 0
HasServed stands_for Same run closed parts others =
    (cause : Cause) → (cause ≢ causes.Memory → closed.cause ≡ Some cause) → (cause ≡ causes.Memory → closed.history ≢ []) →
    HaveServed stands_for Same false run cause closed.history closed.text.items parts others
