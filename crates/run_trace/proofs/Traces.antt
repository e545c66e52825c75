-- The trace of each run is one: its header, its events and its end mark are those of the format.
use Rattle.std.proofs.Common.{ℕ, ℤ, pos, negsuc, zero, suc, ◌≡◌, ◌≤◌, ◌<◌, ◌+◌, ◌-◌, ◌^◌, Bool, true, false, if◌then◌else◌, List, [], ◌∷◌, refl, sym, ap, ◌∙◌, subst, arith}
use Rattle.std.specs.Prelude.{Option, Some, None}
use Rattle.std.specs.List.{All}
use Rattle.std.proofs.lemmas.List.Elements.{All-head, All-tail}
use Rattle.omp_codes.specs.declared.callbacks.TheConstants.{PROFILE_MASK}
use Rattle.omp_codes.specs.States.{states}
use Rattle.ompt_calls.specs.declared.event.EventRecord.{EventRecord}
use Rattle.ompt_calls.specs.Number.{is_registered, number_of}
use Rattle.omp_model.specs.declared.cause.Cause.{Cause}
use Rattle.omp_model.specs.declared.cause.Cause.TheVariants as cause
use Rattle.omp_model.specs.declared.event.Halt.{Halt}
use Rattle.omp_model.specs.declared.event.Halt.TheVariants.{Limit, Trap}
use Rattle.omp_model.specs.declared.history.Entry.{Entry}
use Rattle.omp_model.specs.State.{Run, State}
use Rattle.omp_model.specs.Calls.{callback_of}
use Rattle.omp_model.specs.Cause.{cause_by_halt, cause_of, cause_of_halt, cause_of_value, cause_of_whole, is_stuck, whole_value}
use Rattle.omp_model.specs.Legal.{Legal, after}
use Rattle.omp_model.specs.Records.{records_of}
use Rattle.omp_model.specs.Turn.{turn}
use Rattle.omp_model.proofs.Callbacks.{number_of_call}
use Rattle.trace_format.specs.declared.trace.Header.{Header}
use Rattle.trace_format.specs.declared.trace.TheConstants.{RECORDED, SEQ_LIMIT, VERSION}
use Rattle.trace_format.specs.Fitting.{FitsCall, FitsFields}
use Rattle.trace_format.specs.Validity.{AreEvents, IsAmong, IsCall, IsDetail, IsEvent, IsHeader, IsTrace}
use Rattle.trace_format.proofs.Profile.{profile_bits}
use Rattle.run_trace.proofs.Sensible.{IsKnownHalt}
use Rattle.run_trace.specs.TraceOf.{FitsCause, detail_of, status_of, trace_of}
use Rattle.run_trace.proofs.Events.{call-stands, events-sensible, state-known}
use Rattle.run_trace.proofs.Halts.{halts-known}
use Rattle.run_trace.proofs.Heard.{AreBelow, IsOccurred, all-occurred, places-below}
use Rattle.run_trace.proofs.Nulls.{nulls-turn}

-- The header.

abbrev header_with : ℕ → ℕ → Header
header_with threads mask = record { version = VERSION; threads = threads; origin = RECORDED; mask = mask }

header-stands : (threads mask : ℕ) → 1 ≤ threads → threads ≤ 16 → mask ≡ PROFILE_MASK → IsHeader (header_with threads mask)
header-stands threads mask some few is =
    record {
      version = refl;
      some = some;
      few = few;
      origin = (refl, λ version. refl);
      mask = record {
        long = omega (arith, is);
        profile = λ number registered. sym (profile_bits number) ∙ subst (λ m. is_registered m number ≡ true) is registered;
        dispatch = λ registered. (refl, refl);
      };
    }

-- The events.

module _ (run : Run) (some : 1 ≤ run.threads) where
  abbrev header : Header
  header = header_with run.threads run.mask

  event-stands : (event : EventRecord) → IsOccurred run event → FitsFields event → IsEvent header event
  event-stands event one fits =
      let t = event.thread in
      let W = (turn run (after run one.before) t).state.world in
      let number : number_of event.call ≡ callback_of one.happened = ap number_of one.call ∙ number_of_call W t one.happened in
      record {
        registered = subst (λ n. is_registered run.mask n ≡ true) (sym number) one.registered;
        thread = one.thread;
        state = subst (IsAmong states) (sym one.state) (state-known W t one.happened);
        wait_id = fits.0;
        call = subst IsCall (sym one.call) (call-stands W t one.happened
            (nulls-turn run one.before t one.happened some one.legal one.happens)
            (events-sensible run one.before t one.happened some one.legal one.happens)
            (subst FitsCall one.call fits.1));
      }

  events-stand : (limit least : ℕ) (events : List EventRecord) → AreBelow limit least events → All (IsOccurred run) events → All FitsFields events → AreEvents limit header least events
  events-stand limit least [] below occurred fits = tt
  events-stand limit least (event ∷ rest) below occurred fits = (
    below.0,
    below.1,
    event-stands event (All-head (IsOccurred run) event rest occurred) (All-head FitsFields event rest fits),
    events-stand limit (event.seq + 1) rest below.2 (All-tail (IsOccurred run) event rest occurred) (All-tail FitsFields event rest fits),
  )

-- The end mark.

-- what is told of the end in this cause
abbrev EndStands : Cause → Type 0
EndStands cause = FitsCause cause → IsDetail (status_of cause) (detail_of cause)

-- main returned another number than 0
returned-stands : (detail : ℕ) → 1 ≤ detail → detail < 2 ^ 32 → IsDetail 1 detail
returned-stands detail some short =
    record {
      status_is = refl;
      short = short;
      none = λ is. absurd cc;
      some = λ is. some;
      trap = λ is. absurd (omega arith);
      limit = λ is. absurd (omega arith);
    }

value-stands : (value : ℤ) → EndStands (cause_of_value value)
value-stands (pos zero) fits =
    record {
      status_is = refl;
      short = omega arith;
      none = λ is. refl;
      some = λ is. absurd cc;
      trap = λ is. omega arith;
      limit = λ is. omega arith;
    }
value-stands (pos (suc n)) fits = returned-stands (suc n) (omega arith) (omega arith)
value-stands (negsuc n) fits = returned-stands (2 ^ 32 - suc n) (omega arith) (omega arith)

halt-stands : (halt : Halt) → IsKnownHalt halt → EndStands (cause_of_halt halt)
halt-stands (Trap number) known fits =
    record {
      status_is = refl;
      short = omega arith;
      none = λ is. absurd cc;
      some = λ is. known.0;
      trap = λ is. known.1;
      limit = λ is. absurd (omega arith);
    }
halt-stands (Limit number) known fits =
    record {
      status_is = refl;
      short = omega arith;
      none = λ is. absurd cc;
      some = λ is. known.0;
      trap = λ is. absurd (omega arith);
      limit = λ is. known.1;
    }

-- .. in a cause, if there is one
abbrev AnyStands : Option Cause → Type 0
AnyStands None = Unit {0}
AnyStands (Some cause) = EndStands cause

stuck-stands : (stuck : Bool) → AnyStands (if stuck then Some cause.Deadlock else None)
stuck-stands true = λ fits.
    record {
      status_is = refl;
      short = omega arith;
      none = λ is. refl;
      some = λ is. absurd cc;
      trap = λ is. omega arith;
      limit = λ is. omega arith;
    }
stuck-stands false = tt

whole-stands : (run : Run) (S : State) (value : Option ℤ) → AnyStands (cause_of_whole run S value)
whole-stands run S (Some value) = value-stands value
whole-stands run S None = stuck-stands (is_stuck run S)

cause-stands : (run : Run) (S : State) (halt : Option Halt) → ((known : Halt) → halt ≡ Some known → IsKnownHalt known) → AnyStands (cause_by_halt run S halt)
cause-stands run S (Some halt) known = halt-stands halt (known halt refl)
cause-stands run S None known = whole-stands run S (whole_value S.world)

pub traces_of_runs : (run : Run) (history : List Entry) (cause : Cause) → 1 ≤ run.threads → run.threads ≤ 16 → run.mask ≡ PROFILE_MASK → Legal run history → cause_of run history ≡ Some cause → All FitsFields (records_of run history) → FitsCause cause → IsTrace (trace_of run cause history)
traces_of_runs run history cause some few mask legal ends fits fits_cause =
    let S = after run history in
    let end = subst AnyStands ends (cause-stands run S S.halt (λ halt is. halts-known run history halt some legal is)) in
    record {
      header = header-stands run.threads run.mask some few mask;
      events = events-stand run some SEQ_LIMIT 0 (records_of run history) (places-below run history some legal) (all-occurred run history some legal) fits;
      detail = end fits_cause;
      count = refl;
    }
