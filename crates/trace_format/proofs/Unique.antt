-- A trace is written in one way, and no trace's bytes begin another's.
use Rattle.std.proofs.Common.{◌≡◌, ℕ, List, [], ◌∷◌, ◌++◌, map, refl, sym, ap, ap₂, ◌∙◌}
use Rattle.ompt_calls.specs.declared.event.EventRecord.{EventRecord}
use Rattle.trace_format.specs.declared.item.Item.{Item}
use Rattle.trace_format.specs.declared.item.Item.TheVariants as item
use Rattle.trace_format.specs.declared.trace.EndMark.{EndMark}
use Rattle.trace_format.specs.declared.trace.Header.{Header}
use Rattle.trace_format.specs.declared.trace.Trace.{Trace}
use Rattle.trace_format.specs.declared.trace.TheConstants.{SEQ_LIMIT}
use Rattle.trace_format.specs.Items.{items_bytes, items_of}
use Rattle.trace_format.specs.Taking.{first_stage}
use Rattle.trace_format.specs.Validity.{Writes}
use Rattle.trace_format.proofs.Completed.{good_first}
use Rattle.trace_format.proofs.Following.{items_over}
use Rattle.trace_format.proofs.Places.{Compared, compare}
use Rattle.trace_format.proofs.Places.Compared.{before, here, behind}
use Rattle.trace_format.proofs.Stopping.{never_over, trace_place, written_items}

-- the items of a trace tell it
same_events : (one other : List EventRecord) (a b : EndMark) → map item.Event one ++ item.End a ∷ [] ≡ map item.Event other ++ item.End b ∷ [] → (one ≡ other) × (a ≡ b)
same_events [] [] a b same = let end : a ≡ b = cc in (refl, end)
same_events [] (event ∷ other) a b same = absurd (cc)
same_events (event ∷ one) [] a b same = absurd (cc)
same_events (event ∷ one) (that ∷ other) a b same =
    let first : event ≡ that = cc in
    let rest : map item.Event one ++ item.End a ∷ [] ≡ map item.Event other ++ item.End b ∷ [] = cc in
    let parts = same_events one other a b rest in
    (ap₂ (λ (e : EventRecord) (es : List EventRecord). e ∷ es) first parts.0, parts.1)

same_trace : (t u : Trace) → t.header ≡ u.header → t.events ≡ u.events → t.end ≡ u.end → t ≡ u
same_trace t u header events end =
    let first : ◌≡◌ {A = Trace} (record { header = t.header; events = t.events; end = t.end }) (record { header = u.header; events = u.events; end = t.end }) = ap₂ (λ (h : Header) (es : List EventRecord). record { header = h; events = es; end = t.end }) header events in
    let last : ◌≡◌ {A = Trace} (record { header = u.header; events = u.events; end = t.end }) (record { header = u.header; events = u.events; end = u.end }) = ap (λ (e : EndMark). record { header = u.header; events = u.events; end = e }) end in
    first ∙ last

trace_of_items : (t u : Trace) → items_of t ≡ items_of u → t ≡ u
trace_of_items t u same =
    let header : t.header ≡ u.header = cc in
    let rest : map item.Event t.events ++ item.End t.end ∷ [] ≡ map item.Event u.events ++ item.End u.end ∷ [] = cc in
    let parts = same_events t.events u.events t.end u.end rest in
    same_trace t u header parts.0 parts.1

pub one_spelling : (t u : Trace) (a b x y : List ℕ) → Writes t a → Writes u b → a ++ x ≡ b ++ y → (t ≡ u) × (a ≡ b)
one_spelling t u a b x y is_t is_u same =
    which (compare first_stage (items_of t) [] x (items_of u) [] y good_first (trace_place t a is_t) (trace_place u b is_u) (ap (λ (bs : List ℕ). bs ++ x) (sym written_t) ∙ same ∙ ap (λ (bs : List ℕ). bs ++ y) written_u))
  where
    written_t : a ≡ items_bytes (items_of t)
    written_t = written_items t a is_t

    written_u : b ≡ items_bytes (items_of u)
    written_u = written_items u b is_u

    which : Compared first_stage (items_of t) [] x (items_of u) [] y → (t ≡ u) × (a ≡ b)
    which (before ahead) = absurd (never_over (items_of t) [] ahead.bytes (items_over SEQ_LIMIT t is_t.is_trace) ahead.accepted)
    which (here its fs rest) = (trace_of_items t u its, written_t ∙ ap (λ (i : List Item). items_bytes i) its ∙ sym written_u)
    which (behind ahead) = absurd (never_over (items_of u) [] ahead.bytes (items_over SEQ_LIMIT u is_u.is_trace) ahead.accepted)
