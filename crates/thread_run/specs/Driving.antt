-- What the driver of a thread has come to.
use Rattle.std.specs.Prelude.{Bool, true, false, ◌||◌, ◌≡◌, [], Result, Ok, Err}
use Rattle.team_run.specs.Names.{Record, Run, heard_of, Step, Told, entries_of, AddsHold, PassView}
use Rattle.team_run.specs.{Serving.called_for, Serving.served, Unheard.LeftAt}

-- the run is over for a pass: it has ended it, or its last visit told it so
abbrev pub is_over : PassView → Bool
is_over pass = pass.ended || pass.told_over

-- The driver of a pass: its part, which was this one at first, was called for what the pass's thread hears of what the pass has seen.
pub record IsDriven {P : Type 0} (stands_for : P → Record → Type 0) (Same : P → P → Type 0) (run : Run) (first : P) (pass : PassView)
    (part : P) : Type 0 where
  pub unheard : Bool
  pub left : LeftAt run (entries_of pass.seen) pass.thread unheard
  pub over : unheard ≡ true → pass.ended ≡ true
  pub hears : (h : Record) → stands_for first h → stands_for part (called_for (heard_of run (entries_of pass.seen) pass.thread) unheard h)
  pub same_is : Same first part

-- The same while the pass's thread is inside a callback: its part was called for what the thread had heard before.
pub record IsInside {P : Type 0} (stands_for : P → Record → Type 0) (Same : P → P → Type 0) (run : Run) (first : P) (pass : PassView)
    (part : P) : Type 0 where
  pub hears : (h : Record) → stands_for first h → stands_for part (served h (heard_of run (entries_of pass.seen) pass.thread))
  pub same_is : Same first part

-- what a driver has come to that was told this step last: where an event was told, its part is still to be called for it
abbrev pub HasStep : {P : Type 0} → (P → Record → Type 0) → (P → P → Type 0) → Run → P → PassView → P → Step → Type 0
HasStep stands_for Same run first pass part (Told seq call snapshot) = (pass.ended ≡ false) × IsInside stands_for Same run first pass part
HasStep stands_for Same run first pass part other = IsDriven stands_for Same run first pass part

-- what a driver has come to between two visits: where it found no memory, it is still to end the run
abbrev pub HasCome : {P E : Type 0} → (P → Record → Type 0) → (P → P → Type 0) → Run → P → PassView → P → Result Step E → Type 0
HasCome stands_for Same run first pass part (Ok step) = HasStep stands_for Same run first pass part step
HasCome stands_for Same run first pass part (Err e) = (later : PassView) → AddsHold pass later [] → later.ended ≡ true →
    IsDriven stands_for Same run first later part

-- a driver goes on from this pass and part to those: the thread is the same, and what was so of it is so still
pub record GoesOn {P : Type 0} (stands_for : P → Record → Type 0) (Same : P → P → Type 0) (run : Run) (pass : PassView) (part : P)
    (later : PassView) (next : P) : Type 0 where
  pub thread : later.thread ≡ pass.thread
  pub driven : (first : P) → IsDriven stands_for Same run first pass part → IsDriven stands_for Same run first later next
