-- Where bytes are refused: at a place, with a field that isn't accepted there, or with a byte behind the end mark.
use Rattle.std.proofs.Common.{◌≡◌, ℕ, ◌+◌, ◌<◌, ◌⊎◌, true, List, [], ◌∷◌, ◌++◌, length, length-append, Option, Some, inl, inr, ⊎_elim, refl, sym, ap, subst, subst₂, ◌∙◌, append_assoc, append-nil, arith}
use Rattle.trace_format.specs.declared.field.Field.{Field}
use Rattle.trace_format.specs.declared.item.Item.{Item}
use Rattle.trace_format.specs.declared.refusal.Reason.{Reason}
use Rattle.trace_format.specs.declared.refusal.Reason.TheVariants.{AfterEnd}
use Rattle.trace_format.specs.declared.refusal.Refusal.{Refusal}
use Rattle.trace_format.specs.declared.trace.Trace.{Trace}
use Rattle.trace_format.specs.declared.trace.TheConstants.{SEQ_LIMIT}
use Rattle.trace_format.specs.Accepting.{Next, next_of}
use Rattle.trace_format.specs.Fields.{Spelt, spelling}
use Rattle.trace_format.specs.Items.{items_bytes, items_of}
use Rattle.trace_format.specs.Reached.{IsAccepted, bytes_at, flat, stage_of}
use Rattle.trace_format.specs.Refusing.{Begins, EndsAfterEnd, EndsRefused, IsRefused, Stands, reason_of}
use Rattle.trace_format.specs.Taking.{first_stage}
use Rattle.trace_format.specs.Validity.{Writes}
use Rattle.trace_format.proofs.Beginning.{none_over, place_over}
use Rattle.trace_format.proofs.Beyond.{told_of}
use Rattle.trace_format.proofs.Completed.{good_first}
use Rattle.trace_format.proofs.Following.{fields_are, items_follow, items_over}
use Rattle.trace_format.proofs.Lists.{spelling_from, spelling_items, split_same}
use Rattle.trace_format.proofs.Places.{Compared, IsPlace, compare}
use Rattle.trace_format.proofs.Places.Compared.{before, here, behind}
use Rattle.trace_format.proofs.Rows.{spelt_next}
use Rattle.trace_format.proofs.Permitted.{stands_here}
use Rattle.trace_format.proofs.SameBytes.{no_next, one_next}
use Rattle.trace_format.proofs.Walking.{IsWalked, walk}

-- a field that isn't accepted at the place
pub record HasBadField (items : List Item) (fields : List (List ℕ)) (x : List ℕ) (reason : Reason) : Type 0 where
  pub next : Next
  pub comes : next_of (stage_of items) fields ≡ Some next
  pub value : List ℕ
  pub rest : List ℕ
  pub x_is : x ≡ value ++ rest
  pub width : length value ≡ next.width
  pub never : IsAccepted (stage_of items) fields value → ⊥
  pub reason_is : reason ≡ reason_of next.field value

-- a byte behind the end mark
pub record HasBadByte (items : List Item) (fields : List (List ℕ)) (x : List ℕ) (reason : Reason) : Type 0 where
  pub over : (stage_of items).over ≡ true
  pub byte : ℕ
  pub rest : List ℕ
  pub x_is : x ≡ byte ∷ rest
  pub reason_is : reason ≡ AfterEnd

pub record StopsAt (bytes : List ℕ) (refusal : Refusal) : Type 0 where
  pub items : List Item
  pub fields : List (List ℕ)
  pub place : IsPlace first_stage items fields
  pub x : List ℕ
  pub bytes_are : bytes ≡ items_bytes items ++ (flat fields ++ x)
  pub offset : refusal.offset ≡ length (items_bytes items ++ flat fields)
  pub bad : HasBadField items fields x refusal.reason ⊎ HasBadByte items fields x refusal.reason

-- what is refused stops somewhere
spelt_as : (spelt : Spelt) (field : Field) → spelt.field ≡ field → record { field = field; bytes = spelt.bytes } ≡ spelt
spelt_as spelt field same = ap (λ (f : Field). record { field = f; bytes = spelt.bytes }) (sym same)

never_accepted :
    (done : List Spelt) (refused : Spelt) (walked : IsWalked done) (next : Next) → next_of (stage_of walked.items) walked.fields ≡ Some next → refused.field ≡ next.field → (Stands done refused → ⊥)
    → IsAccepted (stage_of walked.items) walked.fields refused.bytes → ⊥
never_accepted done refused walked next comes field none accepted =
    let stands = stands_here walked.items walked.fields refused.bytes walked.reached accepted in
    let spelt : spelt_next (next_of (stage_of walked.items) walked.fields) refused.bytes ≡ refused = ap (λ (o : Option Next). spelt_next o refused.bytes) comes ∙ spelt_as refused next.field field in
    none (subst (λ (s : Spelt). Stands done s) spelt (subst (λ (ss : List Spelt). Stands ss (spelt_next (next_of (stage_of walked.items) walked.fields) refused.bytes)) walked.fields_are stands))

field_stops : (bytes front rest : List ℕ) (refusal : Refusal) → bytes ≡ front ++ rest → EndsRefused front refusal → StopsAt bytes refusal
field_stops bytes front rest refusal whole ends =
    let walked = walk ends.before ends.stand in
    let comes = ends.comes in
    let field : Spelt = record { field = ends.refused.field; bytes = comes.bytes } in
    let told = told_of walked.items walked.fields field walked.place (subst (λ (ss : List Spelt). Begins (SEQ_LIMIT + 1) (ss ++ field ∷ [])) (sym walked.fields_are) comes.begins) in
    let spelt : spelling ends.before ≡ items_bytes walked.items ++ flat walked.fields = ap (λ (ss : List Spelt). spelling ss) (sym walked.fields_are) ∙ spelling_from first_stage walked.items walked.fields in
    record {
      items = walked.items;
      fields = walked.fields;
      place = walked.place;
      x = ends.refused.bytes ++ rest;
      bytes_are = whole ∙ ap (λ (bs : List ℕ). bs ++ rest) (ends.bytes_are ∙ ap (λ (bs : List ℕ). bs ++ ends.refused.bytes) spelt) ∙ simp append_assoc;
      offset = ends.offset ∙ ap (λ (bs : List ℕ). length bs) spelt;
      bad = inl (record {
        next = told.next;
        comes = told.comes;
        value = ends.refused.bytes;
        rest = rest;
        x_is = refl;
        width = sym comes.width_is ∙ told.width;
        never = never_accepted ends.before ends.refused walked told.next told.comes told.field ends.none;
        reason_is = ends.reason ∙ ap (λ (f : Field). reason_of f ends.refused.bytes) told.field;
      });
    }

pub written_items : (trace : Trace) (written : List ℕ) → Writes trace written → written ≡ items_bytes (items_of trace)
written_items trace written writes = writes.bytes_are ∙ ap (λ (ss : List Spelt). spelling ss) (fields_are trace) ∙ spelling_items (items_of trace)

pub trace_place : (trace : Trace) (written : List ℕ) → Writes trace written → IsPlace first_stage (items_of trace) []
trace_place trace written writes = place_over (items_of trace) (items_follow SEQ_LIMIT trace writes.is_trace) (items_over SEQ_LIMIT trace writes.is_trace)

byte_stops : (bytes front rest : List ℕ) (refusal : Refusal) → bytes ≡ front ++ rest → EndsAfterEnd front refusal → StopsAt bytes refusal
byte_stops bytes front rest refusal whole ends =
    let written = written_items ends.trace ends.written ends.writes in
    record {
      items = items_of ends.trace;
      fields = [];
      place = trace_place ends.trace ends.written ends.writes;
      x = ends.byte ∷ rest;
      bytes_are = whole ∙ ap (λ (bs : List ℕ). bs ++ rest) ends.bytes_are ∙ append_assoc ends.written (ends.byte ∷ []) rest ∙ ap (λ (bs : List ℕ). bs ++ ends.byte ∷ rest) written;
      offset = ends.offset ∙ ap (λ (bs : List ℕ). length bs) (written ∙ sym (append-nil (items_bytes (items_of ends.trace))));
      bad = inr (record { over = items_over SEQ_LIMIT ends.trace ends.writes.is_trace; byte = ends.byte; rest = rest; x_is = refl; reason_is = ends.reason });
    }

pub stops_at : (bytes : List ℕ) (refusal : Refusal) → IsRefused bytes refusal → StopsAt bytes refusal
stops_at bytes refusal refused =
    ⊎_elim (λ (ends : EndsRefused refused.front refusal). field_stops bytes refused.front refused.rest refusal refused.whole ends)
    (λ (ends : EndsAfterEnd refused.front refusal). byte_stops bytes refused.front refused.rest refusal refused.whole ends) refused.refuses

-- no field is accepted there
never_field : (items : List Item) (fields : List (List ℕ)) (x : List ℕ) (reason : Reason) (bytes left : List ℕ) → HasBadField items fields x reason → IsAccepted (stage_of items) fields bytes → x ≡ bytes ++ left → ⊥
never_field items fields x reason bytes left bad accepted same =
    let next = one_next accepted.next bad.next (sym accepted.comes ∙ bad.comes) in
    let long : length bad.value ≡ length bytes = bad.width ∙ ap (λ (n : Next). n.width) (sym next) ∙ sym accepted.width in
    let parts = split_same bad.value bytes bad.rest left long (sym bad.x_is ∙ same) in
    bad.never (subst (λ (bs : List ℕ). IsAccepted (stage_of items) fields bs) (sym parts.0) accepted)

pub never_over : (items : List Item) (fields : List (List ℕ)) (bytes : List ℕ) → (stage_of items).over ≡ true → IsAccepted (stage_of items) fields bytes → ⊥
never_over items fields bytes over accepted = no_next accepted.next (next_of (stage_of items) fields) accepted.comes (none_over (stage_of items) fields over)

pub never_stopped : (bytes : List ℕ) (refusal : Refusal) (at : StopsAt bytes refusal) (value left : List ℕ) → IsAccepted (stage_of at.items) at.fields value → at.x ≡ value ++ left → ⊥
never_stopped bytes refusal at value left accepted same =
    ⊎_elim (λ (bad : HasBadField at.items at.fields at.x refusal.reason). never_field at.items at.fields at.x refusal.reason value left bad accepted same)
    (λ (bad : HasBadByte at.items at.fields at.x refusal.reason). never_over at.items at.fields value bad.over accepted) at.bad

-- Bytes that end at a place, or in its next field, aren't refused.
module _ (items : List Item) (fields : List (List ℕ)) (part : List ℕ) (place : IsPlace first_stage items fields) (short : (next : Next) → next_of (stage_of items) fields ≡ Some next → length part < next.width) (ended : (stage_of items).over ≡ true → part ≡ []) where
  pub never_more : (value left : List ℕ) → IsAccepted (stage_of items) fields value → part ≡ value ++ left → ⊥
  never_more value left accepted same =
      let less = short accepted.next accepted.comes in
      let long = ap (λ (bs : List ℕ). length bs) same in
      absurd (omega (arith, less, long, length-append value left, accepted.width))

  never_short : (x : List ℕ) (reason : Reason) → HasBadField items fields x reason → x ≡ part → ⊥
  never_short x reason bad same =
      let less = short bad.next bad.comes in
      let long = ap (λ (bs : List ℕ). length bs) (sym same ∙ bad.x_is) in
      absurd (omega (arith, less, long, length-append bad.value bad.rest, bad.width))

  never_byte : (x : List ℕ) (reason : Reason) → HasBadByte items fields x reason → x ≡ part → ⊥
  never_byte x reason bad same = let never : bad.byte ∷ bad.rest ≡ [] = sym bad.x_is ∙ same ∙ ended bad.over in absurd (cc)

  pub unrefused : (refusal : Refusal) → IsRefused (bytes_at items fields ++ part) refusal → ⊥
  unrefused refusal refused = go (stops_at (bytes_at items fields ++ part) refusal refused)
    where
      bad_here : (its : List Item) (fs : List (List ℕ)) (x : List ℕ) → HasBadField its fs x refusal.reason ⊎ HasBadByte its fs x refusal.reason → its ≡ items → fs ≡ fields → x ≡ part → ⊥
      bad_here its fs x bad same_items same_fields same =
          let moved = subst₂ (λ (a : List Item) (b : List (List ℕ)). HasBadField a b x refusal.reason ⊎ HasBadByte a b x refusal.reason) same_items same_fields bad in
          ⊎_elim (λ (b : HasBadField items fields x refusal.reason). never_short x refusal.reason b same) (λ (b : HasBadByte items fields x refusal.reason). never_byte x refusal.reason b same) moved

      which : (at : StopsAt (bytes_at items fields ++ part) refusal) → Compared first_stage at.items at.fields at.x items fields part → ⊥
      which at (before ahead) = never_stopped (bytes_at items fields ++ part) refusal at ahead.bytes ahead.left ahead.accepted ahead.x_is
      which at (here its fs x) = bad_here at.items at.fields at.x at.bad its fs x
      which at (behind ahead) = never_more ahead.bytes ahead.left ahead.accepted ahead.x_is

      go : StopsAt (bytes_at items fields ++ part) refusal → ⊥
      go at = which at (compare first_stage at.items at.fields at.x items fields part good_first at.place place (sym at.bytes_are ∙ append_assoc (items_bytes items) (flat fields) part))
