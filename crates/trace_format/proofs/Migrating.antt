-- What was migrated is a trace of the second version of the format, and migrating it again changes nothing.
use Rattle.std.proofs.Common.{ℕ, ◌≡◌, ◌+◌, ◌==◌, if◌then◌else◌, Bool, true, false, List, [], ◌∷◌, refl, ap, arith}
use Rattle.std.proofs.lemmas.Bool.{eqb-true}
use Rattle.ompt_calls.specs.declared.event.EventRecord.{EventRecord}
use Rattle.trace_format.specs.declared.trace.Header.{Header}
use Rattle.trace_format.specs.declared.trace.Trace.{Trace}
use Rattle.trace_format.specs.declared.trace.TheConstants.{FIRST_VERSION, VERSION, MIGRATED}
use Rattle.trace_format.specs.Validity.{AreEvents, IsAmong, IsHeader, IsTrace}
use Rattle.trace_format.specs.Migrating.{migrated_header, migrated_trace}

-- the header that is written, by whether it is one of the first version
abbrev chosen : Bool → Header → Header
chosen first header = if first then record header { version = VERSION; origin = MIGRATED } else header

-- it is of the second version
second_chosen :
    (first : Bool) (header : Header) → (header.version == FIRST_VERSION) ≡ first → IsAmong (FIRST_VERSION ∷ VERSION ∷ []) header.version
    → (chosen first header).version ≡ VERSION
second_chosen true header is among = refl
second_chosen false header is among = grind (arith, is, among)

-- it is a header: one of the first version had no dispatch in its mask, so the mask may stand in the second one, whatever the origin is
is_chosen : (first : Bool) (header : Header) → (header.version == FIRST_VERSION) ≡ first → IsHeader header → IsHeader (chosen first header)
is_chosen true header is good =
    let version : header.version ≡ FIRST_VERSION = eqb-true header.version FIRST_VERSION is in
    record {
      version = refl;
      some = good.some;
      few = good.few;
      origin = (refl, λ other. absurd (omega (arith, other)));
      mask =
          record {
            long = good.mask.long;
            profile = good.mask.profile;
            dispatch = λ registered. absurd (omega (arith, version, (good.mask.dispatch registered).0));
          };
    }
is_chosen false header is good = good

-- the events of a trace may stand under it
events_chosen :
    (first : Bool) (limit : ℕ) (header : Header) (least : ℕ) (events : List EventRecord) → AreEvents limit header least events
    → AreEvents limit (chosen first header) least events
events_chosen false limit header least events are = are
events_chosen true limit header least [] are = tt
events_chosen true limit header least (event ∷ events) (above, below, is, more) = (
  above,
  below,
  record { registered = is.registered; thread = is.thread; state = is.state; wait_id = is.wait_id; call = is.call },
  events_chosen true limit header (event.seq + 1) events more,
)

-- a header of the second version stays as it is
again_same : (header : Header) → header.version ≡ VERSION → migrated_header header ≡ header
again_same header is = ap (λ (version : ℕ). chosen (version == FIRST_VERSION) header) is

-- what was migrated is a trace of the second version, and migrating it again changes nothing
pub migrated_trace_once :
    (trace : Trace) → IsTrace trace
    → IsTrace (migrated_trace trace) × ((migrated_trace trace).header.version ≡ VERSION)
    × (migrated_trace (migrated_trace trace) ≡ migrated_trace trace)
migrated_trace_once trace is_trace =
    let first : Bool = trace.header.version == FIRST_VERSION in
    let second : (migrated_header trace.header).version ≡ VERSION = second_chosen first trace.header refl is_trace.header.version in (
      record {
        header = is_chosen first trace.header refl is_trace.header;
        events = events_chosen first _ trace.header 0 trace.events is_trace.events;
        detail = is_trace.detail;
        count = is_trace.count;
      },
      second,
      ap (λ (header : Header). record trace { header = header }) (again_same (migrated_header trace.header) second),
    )
