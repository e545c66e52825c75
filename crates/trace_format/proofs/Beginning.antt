-- Which field may come next at a place: one that a trace has there is accepted there.
use Rattle.std.proofs.Common.{◌≡◌, ℕ, ◌⊎◌, cond, Bool, true, false, List, [], ◌∷◌, ◌++◌, Some, None, inl, inr, ⊎_elim, refl, sym, ap, ap₂, subst, ◌∙◌, append_assoc, append-nil, true≢false}
use Rattle.std.proofs.lemmas.List.{append_cancel_left}
use Rattle.trace_format.specs.declared.item.Item.{Item}
use Rattle.trace_format.specs.declared.trace.TheConstants.{SEQ_LIMIT}
use Rattle.trace_format.specs.Accepting.{Next, next_in, next_of}
use Rattle.trace_format.specs.Fields.{Spelt, spelling}
use Rattle.trace_format.specs.Items.{items_bytes, items_of}
use Rattle.trace_format.specs.Reached.{IsAccepted, IsReached, flat, stage_of}
use Rattle.trace_format.specs.Refusing.{Begins}
use Rattle.trace_format.specs.Taking.{Stage, first_stage}
use Rattle.trace_format.proofs.Completed.{follow_of, good_first}
use Rattle.trace_format.proofs.Following.{Follow, fields_are, items_follow, items_over}
use Rattle.trace_format.proofs.Lists.{fields_from, items_fields, spelling-append, spelling_from, spelt_bytes}
use Rattle.trace_format.proofs.Places.{Ahead, Compared, IsPlace, compare}
use Rattle.trace_format.proofs.Places.Compared.{before, here, behind}
use Rattle.trace_format.proofs.Rows.{spelt_next}
use Rattle.trace_format.proofs.SameBytes.{no_next}

abbrev pub fields_at : List Item → List (List ℕ) → List Spelt
fields_at items fields = fields_from first_stage items fields

-- nothing comes next behind the end mark
pub none_over : (stage : Stage) (fields : List (List ℕ)) → stage.over ≡ true → next_of stage fields ≡ None
none_over stage fields over = ap (λ (b : Bool). cond b None (next_in stage stage.header fields)) over

pub goes_of : (stage : Stage) (fields : List (List ℕ)) (next : Next) → next_of stage fields ≡ Some next → stage.over ≡ false
goes_of stage fields next comes = go stage.over refl
  where
    go : (b : Bool) → stage.over ≡ b → stage.over ≡ false
    go true over = absurd (no_next next (next_of stage fields) comes (none_over stage fields over))
    go false over = over

pub place_reached : (items : List Item) (fields : List (List ℕ)) → IsReached items fields → ((stage_of items).over ≡ false → next_of (stage_of items) fields ≡ None → ⊥) → IsPlace first_stage items fields
place_reached items fields reached settled = record { follow = follow_of items reached.first; accepted = reached.accepted; settled = settled }

pub place_next : (items : List Item) (fields : List (List ℕ)) (next : Next) → IsReached items fields → next_of (stage_of items) fields ≡ Some next → IsPlace first_stage items fields
place_next items fields next reached comes = place_reached items fields reached (λ goes none. no_next next (next_of (stage_of items) fields) comes none)

-- the place behind an end mark
pub place_over : (items : List Item) → Follow SEQ_LIMIT first_stage items → (stage_of items).over ≡ true → IsPlace first_stage items []
place_over items all over = record { follow = all; accepted = tt; settled = λ goes none. true≢false (sym over ∙ goes) }

-- the field is accepted at the place, under its name
pub record IsNext (items : List Item) (fields : List (List ℕ)) (spelt : Spelt) : Type 0 where
  pub accepted : IsAccepted (stage_of items) fields spelt.bytes
  pub names : spelt_next (next_of (stage_of items) fields) spelt.bytes ≡ spelt

ahead_next :
    (items : List Item) (fields : List (List ℕ)) (x : List ℕ) (all r rest : List Spelt) (spelt : Spelt) → Ahead first_stage items fields x all → all ++ r ≡ (fields_at items fields ++ spelt ∷ []) ++ rest
    → IsNext items fields spelt
ahead_next items fields x all r rest spelt ahead same =
    let at = fields_at items fields in
    let o = next_of (stage_of items) fields in
    let field = spelt_next o ahead.bytes in
    let parts = append_cancel_left at (field ∷ (ahead.more ++ r)) (spelt ∷ rest) (sym (append_assoc at (field ∷ ahead.more) r) ∙ ap (λ (ss : List Spelt). ss ++ r) (sym ahead.fields_are) ∙ same ∙ append_assoc at (spelt ∷ []) rest) in
    let one : field ≡ spelt = cc in
    let bytes : ahead.bytes ≡ spelt.bytes = sym (spelt_bytes o ahead.bytes) ∙ ap (λ (s : Spelt). s.bytes) one in
    record {
      accepted = subst (λ (bs : List ℕ). IsAccepted (stage_of items) fields bs) bytes ahead.accepted;
      names = ap (λ (bs : List ℕ). spelt_next o bs) (sym bytes) ∙ one;
    }

-- Fields that go on from another place with a tail that isn't accepted there: the field is accepted at this place, or it begins that tail at the same place.
pub record BeginsTail (items : List Item) (fields : List (List ℕ)) (other : List Item) (gs : List (List ℕ)) (tail rest : List Spelt) (spelt : Spelt) : Type 0 where
  pub items_are : items ≡ other
  pub fields_same : fields ≡ gs
  pub tail_is : tail ≡ spelt ∷ rest

bytes_at_tail : (items : List Item) (fields : List (List ℕ)) (tail : List Spelt) → spelling (fields_at items fields ++ tail) ≡ items_bytes items ++ (flat fields ++ spelling tail)
bytes_at_tail items fields tail =
    spelling-append (fields_at items fields) tail ∙ ap (λ (bs : List ℕ). bs ++ spelling tail) (spelling_from first_stage items fields) ∙ append_assoc (items_bytes items) (flat fields) (spelling tail)

pub next_or_tail :
    (items : List Item) (fields : List (List ℕ)) (other : List Item) (gs : List (List ℕ)) (tail rest : List Spelt) (spelt : Spelt) → IsPlace first_stage items fields → IsPlace first_stage other gs
    → fields_at other gs ++ tail ≡ (fields_at items fields ++ spelt ∷ []) ++ rest → ((bytes left : List ℕ) → IsAccepted (stage_of other) gs bytes → spelling tail ≡ bytes ++ left → ⊥)
    → IsNext items fields spelt ⊎ BeginsTail items fields other gs tail rest spelt
next_or_tail items fields other gs tail rest spelt place that same never =
    let at = fields_at items fields in
    let behind_at = append_assoc at (spelt ∷ []) rest in
    let bytes = sym (bytes_at_tail items fields (spelt ∷ rest)) ∙ ap (λ (ss : List Spelt). spelling ss) (sym behind_at ∙ sym same) ∙ bytes_at_tail other gs tail in
    go (compare first_stage items fields (spelling (spelt ∷ rest)) other gs (spelling tail) good_first place that bytes)
  where
    go : Compared first_stage items fields (spelling (spelt ∷ rest)) other gs (spelling tail) → IsNext items fields spelt ⊎ BeginsTail items fields other gs tail rest spelt
    go (before ahead) = inl (ahead_next items fields (spelling (spelt ∷ rest)) (fields_at other gs) tail rest spelt ahead same)
    go (here its fs x) =
        let at = fields_at items fields in
        let moved : fields_at other gs ≡ at = ap₂ (λ (a : List Item) (b : List (List ℕ)). fields_at a b) (sym its) (sym fs) in
        inr (record { items_are = its; fields_same = fs; tail_is = append_cancel_left at tail (spelt ∷ rest) (ap (λ (ss : List Spelt). ss ++ tail) (sym moved) ∙ same ∙ append_assoc at (spelt ∷ []) rest) })
    go (behind ahead) = absurd (never ahead.bytes ahead.left ahead.accepted ahead.x_is)

-- a trace has the field there
pub next_followed :
    (items : List Item) (fields : List (List ℕ)) (spelt : Spelt) (rest : List Spelt) (all : List Item) → IsPlace first_stage items fields → Follow SEQ_LIMIT first_stage all → (stage_of all).over ≡ true
    → items_fields all ≡ (fields_at items fields ++ spelt ∷ []) ++ rest → IsNext items fields spelt
next_followed items fields spelt rest all place follow over same =
    ⊎_elim (λ (n : IsNext items fields spelt). n) (λ (t : BeginsTail items fields all [] [] rest spelt). absurd (nothing t.tail_is))
    (next_or_tail items fields all [] [] rest spelt place (place_over all follow over) (append-nil (items_fields all ++ []) ∙ append-nil (items_fields all) ∙ same)
    (λ bytes left accepted x. no_next accepted.next (next_of (stage_of all) []) accepted.comes (none_over (stage_of all) [] over)))
  where
    nothing : [] ≡ spelt ∷ rest → ⊥
    nothing same = cc

pub begins_below : (items : List Item) (fields : List (List ℕ)) (spelt : Spelt) → IsPlace first_stage items fields → Begins SEQ_LIMIT (fields_at items fields ++ spelt ∷ []) → IsNext items fields spelt
begins_below items fields spelt place begins =
    next_followed items fields spelt begins.rest (items_of begins.trace) place (items_follow SEQ_LIMIT begins.trace begins.is_trace) (items_over SEQ_LIMIT begins.trace begins.is_trace) (sym (fields_are begins.trace) ∙ begins.whole)
