-- What stops at a place is refused there; and there is one refusal at most.
use Rattle.std.proofs.Common.{◌≡◌, ℕ, ◌⊎◌, true, List, [], ◌∷◌, ◌++◌, length, Some, inl, inr, refl, sym, ap, ap₂, subst, subst₂, ◌∙◌, append-nil}
use Rattle.trace_format.specs.declared.item.Item.{Item}
use Rattle.trace_format.specs.declared.refusal.Reason.{Reason}
use Rattle.trace_format.specs.declared.refusal.Reason.TheVariants.{AfterEnd}
use Rattle.trace_format.specs.declared.refusal.Refusal.{Refusal}
use Rattle.trace_format.specs.declared.trace.TheConstants.{SEQ_LIMIT}
use Rattle.trace_format.specs.Accepting.{Next, next_of}
use Rattle.trace_format.specs.Fields.{Spelt, spelling}
use Rattle.trace_format.specs.Items.{items_bytes}
use Rattle.trace_format.specs.Reached.{IsAccepted, IsReached, bytes_at, flat, stage_of}
use Rattle.trace_format.specs.Refusing.{ComesNext, EndsAfterEnd, EndsRefused, IsRefused, reason_of}
use Rattle.trace_format.specs.Taking.{first_stage}
use Rattle.trace_format.proofs.Beginning.{fields_at, none_over, place_next}
use Rattle.trace_format.proofs.Beyond.{stands_next}
use Rattle.trace_format.proofs.Coming.{comes_here}
use Rattle.trace_format.proofs.Completed.{follow_of, good_first}
use Rattle.trace_format.proofs.Following.{fields_are, trace_of}
use Rattle.trace_format.proofs.Lists.{items_fields, spelling_from, spelling_items, split_same}
use Rattle.trace_format.proofs.Places.{Compared, compare}
use Rattle.trace_format.proofs.Places.Compared.{before, here, behind}
use Rattle.trace_format.proofs.Permitted.{all_stand}
use Rattle.trace_format.proofs.SameBytes.{no_next, one_next}
use Rattle.trace_format.proofs.Stopping.{HasBadByte, HasBadField, StopsAt, never_stopped, stops_at}

-- a field that isn't accepted
pub refuses_field :
    (items : List Item) (fields : List (List ℕ)) (next : Next) (value : List ℕ) → IsReached items fields → next_of (stage_of items) fields ≡ Some next → length value ≡ next.width → (IsAccepted (stage_of items) fields value → ⊥)
    → EndsRefused (bytes_at items fields ++ value) (record { reason = reason_of next.field value; offset = length (bytes_at items fields) })
refuses_field items fields next value reached comes width never =
    let spelt : Spelt = record { field = next.field; bytes = value } in
    let same = sym (spelling_from first_stage items fields) in
    record {
      before = fields_at items fields;
      refused = spelt;
      bytes_are = ap (λ (bs : List ℕ). bs ++ value) same;
      stand = all_stand items fields reached;
      comes = subst (λ (n : ℕ). ComesNext (fields_at items fields) next.field n) (sym width) (comes_here items fields next reached comes);
      none = λ stands. never (stands_next items fields spelt (place_next items fields next reached comes) stands).accepted;
      reason = refl;
      offset = ap (λ (bs : List ℕ). length bs) same;
    }

-- a byte behind the end mark
pub refuses_after : (items : List Item) (byte : ℕ) → IsReached items [] → (stage_of items).over ≡ true → EndsAfterEnd (bytes_at items [] ++ byte ∷ []) (record { reason = AfterEnd; offset = length (bytes_at items []) })
refuses_after items byte reached over =
    let t = trace_of SEQ_LIMIT items (follow_of items reached.first) over in
    record {
      trace = t.trace;
      written = bytes_at items [];
      writes =
          record {
            is_trace = t.is_trace;
            bytes_are = append-nil (items_bytes items) ∙ sym (spelling_items items) ∙ ap (λ (its : List Item). spelling (items_fields its)) (sym t.items_are) ∙ ap (λ (ss : List Spelt). spelling ss) (sym (fields_are t.trace));
          };
      byte = byte;
      bytes_are = refl;
      reason = refl;
      offset = refl;
    }

-- one refusal
same_refusal : (r s : Refusal) → r.reason ≡ s.reason → r.offset ≡ s.offset → r ≡ s
same_refusal r s reason offset = let both : ◌≡◌ {A = Refusal} (record { reason = r.reason; offset = r.offset }) (record { reason = s.reason; offset = s.offset }) = ap₂ (λ (a : Reason) (b : ℕ). record { reason = a; offset = b }) reason offset in both

module _ (items : List Item) (fields : List (List ℕ)) (x : List ℕ) (r s : Reason) where
  two_fields : HasBadField items fields x r → HasBadField items fields x s → r ≡ s
  two_fields one other =
      let next = one_next one.next other.next (sym one.comes ∙ other.comes) in
      let long : length one.value ≡ length other.value = one.width ∙ ap (λ (n : Next). n.width) next ∙ sym other.width in
      let parts = split_same one.value other.value one.rest other.rest long (sym one.x_is ∙ other.x_is) in
      one.reason_is ∙ ap₂ (λ (n : Next) (v : List ℕ). reason_of n.field v) next parts.0 ∙ sym other.reason_is

  no_two : HasBadField items fields x r → HasBadByte items fields x s → ⊥
  no_two one other = no_next one.next (next_of (stage_of items) fields) one.comes (none_over (stage_of items) fields other.over)

same_reason : (items : List Item) (fields : List (List ℕ)) (x : List ℕ) (r s : Reason) → HasBadField items fields x r ⊎ HasBadByte items fields x r → HasBadField items fields x s ⊎ HasBadByte items fields x s → r ≡ s
same_reason items fields x r s (inl one) (inl other) = two_fields items fields x r s one other
same_reason items fields x r s (inl one) (inr other) = absurd (no_two items fields x r s one other)
same_reason items fields x r s (inr one) (inl other) = absurd (no_two items fields x s r other one)
same_reason items fields x r s (inr one) (inr other) = one.reason_is ∙ sym other.reason_is

reason_there :
    (items other : List Item) (fields gs : List (List ℕ)) (x y : List ℕ) (r s : Reason) → items ≡ other → fields ≡ gs → x ≡ y → HasBadField items fields x r ⊎ HasBadByte items fields x r → HasBadField other gs y s ⊎ HasBadByte other gs y s → r ≡ s
reason_there items other fields gs x y r s same_items same_fields same one two =
    let moved = subst₂ (λ (a : List Item) (b : List (List ℕ)). HasBadField a b x r ⊎ HasBadByte a b x r) same_items same_fields one in
    same_reason other gs y r s (subst (λ (z : List ℕ). HasBadField other gs z r ⊎ HasBadByte other gs z r) same moved) two

pub one_refusal : (bytes : List ℕ) (r s : Refusal) → IsRefused bytes r → IsRefused bytes s → r ≡ s
one_refusal bytes r s is_r is_s = go (stops_at bytes r is_r) (stops_at bytes s is_s)
  where
    which : (a : StopsAt bytes r) (b : StopsAt bytes s) → Compared first_stage a.items a.fields a.x b.items b.fields b.x → r ≡ s
    which a b (before ahead) = absurd (never_stopped bytes r a ahead.bytes ahead.left ahead.accepted ahead.x_is)
    which a b (here its fs x) =
        let reason = reason_there a.items b.items a.fields b.fields a.x b.x r.reason s.reason its fs x a.bad b.bad in
        let offset = a.offset ∙ ap₂ (λ (i : List Item) (f : List (List ℕ)). length (items_bytes i ++ flat f)) its fs ∙ sym b.offset in
        same_refusal r s reason offset
    which a b (behind ahead) = absurd (never_stopped bytes s b ahead.bytes ahead.left ahead.accepted ahead.x_is)

    go : (a : StopsAt bytes r) (b : StopsAt bytes s) → r ≡ s
    go a b = which a b (compare first_stage a.items a.fields a.x b.items b.fields b.x good_first a.place b.place (sym a.bytes_are ∙ b.bytes_are))
