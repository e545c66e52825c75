-- Two headers whose masks are both whole, or both not, and the traces under them: what a trace is migrated to is one.
use Rattle.std.proofs.Common.{ℕ, ◌≡◌, ◌==◌, ◌&&◌, if◌then◌else◌, Bool, true, false, List, inl, inr, refl, sym, ap, ◌∙◌, ◌↔◌}
use Rattle.std.proofs.lemmas.Bool.{eqb-true}
use Rattle.omp_codes.specs.declared.callbacks.TheConstants.{PROFILE_MASK}
use Rattle.ompt_calls.specs.declared.event.EventRecord.{EventRecord}
use Rattle.trace_format.specs.declared.trace.EndMark.{EndMark}
use Rattle.trace_format.specs.declared.trace.Header.{Header}
use Rattle.trace_format.specs.declared.trace.Trace.{Trace}
use Rattle.trace_format.specs.declared.trace.TheConstants.{FIRST_VERSION, VERSION, RECORDED, MIGRATED}
use Rattle.trace_format.specs.Migrating.{migrated_header, migrated_trace}
use Rattle.trace_check.specs.declared.breach.Breach.{Breach}
use Rattle.trace_check.specs.Nested.{Broken, IsFirstBreach, Nested, first_mask, is_whole_mask}

-- the header that is written, by whether it is one of the first version
abbrev chosen : Bool → Header → Header
chosen first header = if first then record header { version = VERSION; origin = MIGRATED } else header

-- its mask is whole where that of the header is: what is migrated has no dispatch, and neither has the first version
chosen-alike : (first : Bool) (header : Header) → (header.version == FIRST_VERSION) ≡ first → is_whole_mask header ≡ is_whole_mask (chosen first header)
chosen-alike false header is = refl
chosen-alike true header is =
    ap (λ (version : ℕ). header.mask == (if (version == VERSION) && (header.origin == RECORDED) then PROFILE_MASK else first_mask))
    (eqb-true header.version FIRST_VERSION is)

migrated-mask : (header : Header) → is_whole_mask header ≡ is_whole_mask (migrated_header header)
migrated-mask header = chosen-alike (header.version == FIRST_VERSION) header refl

-- what breaks a rule under one header breaks it under the other
broken-alike :
    (one other : Header) (events : List EventRecord) (end : EndMark) (rule seq : ℕ) → is_whole_mask one ≡ is_whole_mask other
    → Broken one events end rule seq → Broken other events end rule seq
broken-alike one other events end rule seq same (inl mask) = inl (record { rule_is = mask.rule_is; partial = sym same ∙ mask.partial; seq_is = mask.seq_is })
broken-alike one other events end rule seq same (inr broken) = inr broken

nested-alike :
    (one other : Header) (events : List EventRecord) (end : EndMark) → is_whole_mask one ≡ is_whole_mask other → Nested one events end
    → Nested other events end
nested-alike one other events end same nested rule seq broken = nested rule seq (broken-alike other one events end rule seq (sym same) broken)

first-alike :
    (one other : Header) (events : List EventRecord) (end : EndMark) (breach : Breach) → is_whole_mask one ≡ is_whole_mask other
    → IsFirstBreach one events end breach → IsFirstBreach other events end breach
first-alike one other events end breach same first = record {
  broken = broken-alike one other events end breach.rule breach.seq same first.broken;
  least = λ rule seq broken. first.least rule seq (broken-alike other one events end rule seq (sym same) broken);
}

-- a trace and what it is migrated to are nested both
pub migrated_nested :
    (trace : Trace) → Nested trace.header trace.events trace.end
    ↔ Nested (migrated_trace trace).header (migrated_trace trace).events (migrated_trace trace).end
migrated_nested trace =
    let same = migrated-mask trace.header in (
      nested-alike trace.header (migrated_header trace.header) trace.events trace.end same,
      nested-alike (migrated_header trace.header) trace.header trace.events trace.end (sym same),
    )

-- .. or have the same first breach
pub migrated_first :
    (trace : Trace) (breach : Breach) → IsFirstBreach trace.header trace.events trace.end breach
    ↔ IsFirstBreach (migrated_trace trace).header (migrated_trace trace).events (migrated_trace trace).end breach
migrated_first trace breach =
    let same = migrated-mask trace.header in (
      first-alike trace.header (migrated_header trace.header) trace.events trace.end breach same,
      first-alike (migrated_header trace.header) trace.header trace.events trace.end breach (sym same),
    )
