-- Recorded traces are nested.
use Rattle.std.proofs.Common.{ℕ, ◌≡◌, ◌≤◌, ◌==◌, ◌&&◌, ◌||◌, Bool, true, false, if◌then◌else◌, List, refl, sym, ap, ◌∙◌, subst, inl, inr}
use Rattle.std.specs.Prelude.{Option, Some, None, reverse}
use Rattle.omp_codes.specs.declared.callbacks.TheConstants.{PROFILE_MASK}
use Rattle.c_check.specs.Checked.{Checked}
use Rattle.c_model.specs.Formed.{IsProgramFormed}
use Rattle.omp_model.specs.declared.cause.Cause.{Cause}
use Rattle.omp_model.specs.declared.cause.Cause.TheVariants as cause
use Rattle.omp_model.specs.declared.event.Halt.{Halt}
use Rattle.omp_model.specs.declared.event.Halt.TheVariants.{Limit, Trap}
use Rattle.omp_model.specs.declared.history.Entry.{Entry}
use Rattle.omp_model.specs.State.{Run, State}
use Rattle.omp_model.specs.Cause.{cause_by_halt, cause_of, cause_of_halt, cause_of_whole, is_stuck, main_value, none_pending, threads_over}
use Rattle.omp_model.specs.Gates.{main_returned}
use Rattle.omp_model.specs.Legal.{Legal, after}
use Rattle.omp_model.specs.Records.{records_of}
use Rattle.ompt_calls.specs.declared.event.EventRecord.{EventRecord}
use Rattle.c_brackets.proofs.ReturnPrograms.{returns_outside}
use Rattle.trace_check.specs.Checking.{Unbroken}
use Rattle.trace_check.specs.Nested.{Broken, BrokenAt, Nested, is_whole_mask}
use Rattle.trace_check.proofs.Firsts.{breaks_in, keeps_each, unbroken_at}
use Rattle.run_trace.specs.TraceOf.{status_of, trace_of}
use Rattle.nested_runs.proofs.Ends.{closed}
use Rattle.nested_runs.proofs.Histories.{Stands, stands}

-- the end mark says that main returned
abbrev returns : Cause → Bool
returns of = (status_of of == 0) || (status_of of == 1)

-- of a trap, a limit and a deadlock it doesn't
halt-returns : (halt : Halt) → returns (cause_of_halt halt) ≡ false
halt-returns (Trap number) = refl
halt-returns (Limit number) = refl

deadlock-returns : (stuck : Bool) (of : Cause) → (if stuck then Some cause.Deadlock else None) ≡ Some of → returns of ≡ true → ⊥
deadlock-returns true of same returned =
    let told : cause.Deadlock ≡ of = cc in
    let wrong : false ≡ true = ap returns told ∙ returned in cc
deadlock-returns false of same returned = absurd cc

-- so where it says so, all threads have ended
over-whole : (run : Run) (S : State) (of : Cause) (over main : Bool) → cause_of_whole run S (if over && main then Some (main_value S.world) else None) ≡ Some of
    → returns of ≡ true → over ≡ true
over-whole run S of true main same returned = refl
over-whole run S of false main same returned = absurd (deadlock-returns (is_stuck run S) of same returned)

over-halt : (run : Run) (S : State) (of : Cause) (halt : Option Halt) → cause_by_halt run S halt ≡ Some of → returns of ≡ true → threads_over S.world ≡ true
over-halt run S of (Some halt) same returned =
    let told : cause_of_halt halt ≡ of = cc in
    let wrong : false ≡ true = sym (halt-returns halt) ∙ (ap returns told ∙ returned) in
    absurd cc
over-halt run S of None same returned = over-whole run S of (threads_over S.world) (main_returned S.world) same returned

over : (run : Run) (history : List Entry) (of : Cause) → cause_of run history ≡ Some of → returns of ≡ true → threads_over (after run history).world ≡ true
over run history of same returned = over-halt run (after run history) of (after run history).halt same returned

-- the mask is the whole one
whole-mask : (run : Run) (history : List Entry) (of : Cause) → run.mask ≡ PROFILE_MASK → is_whole_mask (trace_of run of history).header ≡ true
whole-mask run history of whole = rw whole refl

-- no event of events that break none breaks a rule
none-at : (events : List EventRecord) (rule seq : ℕ) → Unbroken (reverse events) → BrokenAt events rule seq → ⊥
none-at events rule seq unbroken at =
    let breaks = breaks_in events rule seq at in
    keeps_each breaks.older breaks.event rule (unbroken_at breaks.newer breaks.older breaks.event (subst Unbroken breaks.past_is unbroken)) breaks.breaks

pub nested : (run : Run) (history : List Entry) (of : Cause) → 1 ≤ run.threads → run.threads ≤ 16 → run.mask ≡ PROFILE_MASK → Checked run.program → IsProgramFormed run.program
    → Legal run history → cause_of run history ≡ Some of → none_pending (after run history) ≡ true
    → Nested (trace_of run of history).header (trace_of run of history).events (trace_of run of history).end
nested run history of some few whole checked formed legal is none rule seq broken = by broken
  where
    all : Stands run (after run history) (reverse (records_of run history))
    all = stands run history (record { some = some; few = few; whole = whole; returns = returns_outside run.program checked formed }) legal none

    by : Broken (trace_of run of history).header (trace_of run of history).events (trace_of run of history).end rule seq → ⊥
    by (inl mask) = let wrong : true ≡ false = sym (whole-mask run history of whole) ∙ mask.partial in cc
    by (inr (inl at)) = none-at (records_of run history) rule seq all.unbroken at
    by (inr (inr last)) =
        let ends = closed run (after run history) (reverse (records_of run history)) all.knows all.unbroken none (over run history of is last.returned) in
        let wrong : true ≡ false = sym ends ∙ last.open_still in
        cc
