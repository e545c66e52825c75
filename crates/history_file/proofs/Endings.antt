-- What is told of the end of a run in each cause.
use Rattle.std.proofs.Common.{ℕ, ℤ, pos, negsuc, zero, suc, ◌≡◌, ◌≤◌, ◌<◌, ◌-◌, ◌^◌, Bool, true, false, if◌then◌else◌, refl, arith}
use Rattle.std.specs.Prelude.{Option, Some, None}
use Rattle.omp_model.specs.declared.cause.Cause.{Cause}
use Rattle.omp_model.specs.declared.cause.Cause.TheVariants as cause
use Rattle.omp_model.specs.declared.event.Halt.{Halt}
use Rattle.omp_model.specs.declared.event.Halt.TheVariants.{Limit, Trap}
use Rattle.omp_model.specs.State.{Run, State}
use Rattle.omp_model.specs.Cause.{cause_by_halt, cause_of_halt, cause_of_value, cause_of_whole, is_stuck, whole_value}
use Rattle.trace_format.specs.Validity.{IsDetail}
use Rattle.run_trace.proofs.Sensible.{IsKnownHalt}
use Rattle.run_trace.specs.TraceOf.{FitsCause, detail_of, status_of}

-- what is told of the end in this cause
abbrev pub EndStands : Cause → Type 0
EndStands cause = FitsCause cause → IsDetail (status_of cause) (detail_of cause)

-- main returned another number than 0
returned-stands : (detail : ℕ) → 1 ≤ detail → detail < 2 ^ 32 → IsDetail 1 detail
returned-stands detail some short =
    record {
      status_is = refl;
      short = short;
      none = λ is. absurd cc;
      some = λ is. some;
      trap = λ is. absurd (omega arith);
      limit = λ is. absurd (omega arith);
    }

value-stands : (value : ℤ) → EndStands (cause_of_value value)
value-stands (pos zero) fits =
    record {
      status_is = refl;
      short = omega arith;
      none = λ is. refl;
      some = λ is. absurd cc;
      trap = λ is. omega arith;
      limit = λ is. omega arith;
    }
value-stands (pos (suc n)) fits = returned-stands (suc n) (omega arith) (omega arith)
value-stands (negsuc n) fits = returned-stands (2 ^ 32 - suc n) (omega arith) (omega arith)

halt-stands : (halt : Halt) → IsKnownHalt halt → EndStands (cause_of_halt halt)
halt-stands (Trap number) known fits =
    record {
      status_is = refl;
      short = omega arith;
      none = λ is. absurd cc;
      some = λ is. known.0;
      trap = λ is. known.1;
      limit = λ is. absurd (omega arith);
    }
halt-stands (Limit number) known fits =
    record {
      status_is = refl;
      short = omega arith;
      none = λ is. absurd cc;
      some = λ is. known.0;
      trap = λ is. absurd (omega arith);
      limit = λ is. known.1;
    }

-- .. in a cause, if there is one
abbrev pub AnyStands : Option Cause → Type 0
AnyStands None = Unit {0}
AnyStands (Some cause) = EndStands cause

stuck-stands : (stuck : Bool) → AnyStands (if stuck then Some cause.Deadlock else None)
stuck-stands true = λ fits.
    record {
      status_is = refl;
      short = omega arith;
      none = λ is. refl;
      some = λ is. absurd cc;
      trap = λ is. omega arith;
      limit = λ is. omega arith;
    }
stuck-stands false = tt

whole-stands : (run : Run) (S : State) (value : Option ℤ) → AnyStands (cause_of_whole run S value)
whole-stands run S (Some value) = value-stands value
whole-stands run S None = stuck-stands (is_stuck run S)

pub cause_stands : (run : Run) (S : State) (halt : Option Halt) → ((known : Halt) → halt ≡ Some known → IsKnownHalt known) → AnyStands (cause_by_halt run S halt)
cause_stands run S (Some halt) known = halt-stands halt (known halt refl)
cause_stands run S None known = whole-stands run S (whole_value S.world)
