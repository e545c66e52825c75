-- Bytes that are a trace are refused nowhere, and don't end too early.
use Rattle.std.proofs.Common.{◌≡◌, ℕ, ◌<◌, true, List, [], ◌++◌, Some, refl, sym, subst, ◌∙◌, append-nil}
use Rattle.trace_format.specs.declared.refusal.Refusal.{Refusal}
use Rattle.trace_format.specs.declared.trace.Trace.{Trace}
use Rattle.trace_format.specs.declared.trace.TheConstants.{SEQ_LIMIT}
use Rattle.trace_format.specs.Accepting.{Next, next_of}
use Rattle.trace_format.specs.Items.{items_bytes, items_of}
use Rattle.trace_format.specs.Reached.{bytes_at, stage_of}
use Rattle.trace_format.specs.Refusing.{IsRefused, IsTruncated}
use Rattle.trace_format.specs.Validity.{Writes}
use Rattle.trace_format.proofs.Beginning.{none_over}
use Rattle.trace_format.proofs.Following.{items_over}
use Rattle.trace_format.proofs.SameBytes.{no_next}
use Rattle.trace_format.proofs.Stopping.{trace_place, unrefused, written_items}

-- behind the items of a trace no field comes next, and no bytes are left
pub never_refused : (trace : Trace) (bytes : List ℕ) (refusal : Refusal) → Writes trace bytes → IsRefused bytes refusal → ⊥
never_refused trace bytes refusal writes refused = unrefused (items_of trace) [] [] (trace_place trace bytes writes) short (λ over. refl) refusal (subst (λ (bs : List ℕ). IsRefused bs refusal) same refused)
  where
    over : (stage_of (items_of trace)).over ≡ true
    over = items_over SEQ_LIMIT trace writes.is_trace

    short : (next : Next) → next_of (stage_of (items_of trace)) [] ≡ Some next → 0 < next.width
    short next comes = absurd (no_next next (next_of (stage_of (items_of trace)) []) comes (none_over (stage_of (items_of trace)) [] over))

    same : bytes ≡ bytes_at (items_of trace) [] ++ []
    same = written_items trace bytes writes ∙ sym (append-nil (items_bytes (items_of trace))) ∙ sym (append-nil (bytes_at (items_of trace) []))

pub never_refused_trace : (trace : Trace) (bytes : List ℕ) (refusal : Refusal) → Writes trace bytes → (IsRefused bytes refusal → ⊥) × (IsTruncated bytes refusal → ⊥)
never_refused_trace trace bytes refusal writes = (λ refused. never_refused trace bytes refusal writes refused, λ truncated. truncated.not_whole trace writes)
