-- The number of an event with the sequence number behind the last is let pass: its sequence number comes next, and isn't accepted.
use Rattle.std.proofs.Common.{◌≡◌, ℕ, ◌+◌, ◌<◌, ◌≤◌, ◌^◌, ◌⊎◌, cond, Bool, false, List, [], ◌∷◌, ◌++◌, length, Option, Some, None, inl, inr, ⊎_elim, refl, sym, ap, ap₂, subst, ◌∙◌, append_assoc, arith}
use Rattle.std.proofs.lemmas.Bool.{cases_lt}
use Rattle.byteorder.specs.Endian.{big_bytes, big_number}
use Rattle.byteorder.specs.Numbers.{big_number-reads_back}
use Rattle.ompt_calls.specs.declared.event.EventRecord.{EventRecord}
use Rattle.trace_format.specs.declared.field.Field.{Field}
use Rattle.trace_format.specs.declared.field.Field.TheVariants.{Magic, Version, Number, Seq, Numbered}
use Rattle.trace_format.specs.declared.item.Item.{Item}
use Rattle.trace_format.specs.declared.item.Item.TheVariants as item
use Rattle.trace_format.specs.declared.trace.Header.{Header}
use Rattle.trace_format.specs.declared.trace.TheConstants.{SEQ_LIMIT}
use Rattle.trace_format.specs.Accepting.{Next, next_in, next_of}
use Rattle.trace_format.specs.Fields.{Spelt, spelling}
use Rattle.trace_format.specs.Items.{item_fields, items_of}
use Rattle.trace_format.specs.Reached.{IsAccepted, stage_of}
use Rattle.trace_format.specs.Refusing.{Begins, Stands, limit_at}
use Rattle.trace_format.specs.Taking.{Stage, first_stage, next_stage, stage_from}
use Rattle.trace_format.proofs.Beginning.{BeginsTail, IsNext, begins_below, fields_at, next_followed, next_or_tail}
use Rattle.trace_format.proofs.Completed.{open_at}
use Rattle.trace_format.proofs.Following.{Follow, fields_are, items_follow, items_over}
use Rattle.trace_format.proofs.Lists.{items_fields, items_fields-append, split_same}
use Rattle.trace_format.proofs.Places.{IsPlace}
use Rattle.trace_format.proofs.Rows.{IsItemBelow, IsOpen, ReadsNumber, can_be_here, named, reads_number, spelt_next}
use Rattle.trace_format.proofs.SameBytes.{accepted_more, no_next, one_next}

-- items up to the first event that has the sequence number behind the last
record IsBeyond (stage : Stage) (items : List Item) : Type 0 where
  good : List Item
  event : EventRecord
  rest : List Item
  items_are : items ≡ good ++ item.Event event ∷ rest
  follow : Follow SEQ_LIMIT stage good
  goes : (stage_from stage good).over ≡ false
  is_item : IsItemBelow (SEQ_LIMIT + 1) (stage_from stage good) (item.Event event)
  high : SEQ_LIMIT ≤ event.seq

low_or_high : (stage : Stage) (it : Item) → IsItemBelow (SEQ_LIMIT + 1) stage it → IsItemBelow SEQ_LIMIT stage it ⊎ ((event : EventRecord) × (it ≡ item.Event event) × (SEQ_LIMIT ≤ event.seq))
low_or_high stage item.More is_item = absurd is_item
low_or_high stage (item.Header header) is_item = inl is_item
low_or_high stage (item.Event event) is_item = ⊎_elim (λ low. inl (is_item.0, is_item.1, is_item.2, low, is_item.4)) (λ high. inr (event, refl, high)) (cases_lt event.seq SEQ_LIMIT)
low_or_high stage (item.End end) is_item = inl is_item

beyond_first : (stage : Stage) (it : Item) (items : List Item) → stage.over ≡ false → IsItemBelow SEQ_LIMIT stage it → IsBeyond (next_stage stage it) items → IsBeyond stage (it ∷ items)
beyond_first stage it items goes is_item more =
    record {
      good = it ∷ more.good;
      event = more.event;
      rest = more.rest;
      items_are = ap (λ (its : List Item). it ∷ its) more.items_are;
      follow = (goes, is_item, more.follow);
      goes = more.goes;
      is_item = more.is_item;
      high = more.high;
    }

beyond_here : (stage : Stage) (it : Item) (items : List Item) (event : EventRecord) → stage.over ≡ false → IsItemBelow (SEQ_LIMIT + 1) stage it → it ≡ item.Event event → SEQ_LIMIT ≤ event.seq → IsBeyond stage (it ∷ items)
beyond_here stage it items event goes is_item same high =
    record {
      good = [];
      event = event;
      rest = items;
      items_are = ap (λ (h : Item). h ∷ items) same;
      follow = tt;
      goes = goes;
      is_item = subst (λ (h : Item). IsItemBelow (SEQ_LIMIT + 1) stage h) same is_item;
      high = high;
    }

cut_beyond : (stage : Stage) (items : List Item) → Follow (SEQ_LIMIT + 1) stage items → Follow SEQ_LIMIT stage items ⊎ IsBeyond stage items
cut_beyond stage [] all = inl tt
cut_beyond stage (it ∷ items) all =
    ⊎_elim
    (λ (low : IsItemBelow SEQ_LIMIT stage it).
    ⊎_elim (λ (rest : Follow SEQ_LIMIT (next_stage stage it) items). inl (all.0, low, rest)) (λ (more : IsBeyond (next_stage stage it) items). inr (beyond_first stage it items all.0 low more))
    (cut_beyond (next_stage stage it) items all.2))
    (λ (high : (event : EventRecord) × (it ≡ item.Event event) × (SEQ_LIMIT ≤ event.seq)). inr (beyond_here stage it items high.0 all.0 all.1 high.1 high.2))
    (low_or_high stage it all.1)

-- an event begins with its number
pub number_first : (stage : Stage) (header : Header) (bytes : List ℕ) → stage.over ≡ false → stage.header ≡ Some header → spelt_next (next_of stage []) bytes ≡ record { field = Number; bytes = bytes }
number_first stage header bytes goes same =
    ap (λ (b : Bool). spelt_next (cond b None (next_in stage stage.header [])) bytes) goes ∙ ap (λ (h : Option Header). spelt_next (next_in stage h []) bytes) same

-- the second field tells the sequence number
abbrev second : List Spelt → Spelt
second (first ∷ other ∷ rest) = other
second other = record { field = Magic; bytes = [] }

same_seq : (a b : ℕ) → a < 2 ^ 32 → b < 2 ^ 32 → big_bytes 4 a ≡ big_bytes 4 b → a ≡ b
same_seq a b less_a less_b same = sym (big_number-reads_back 4 a [] less_a) ∙ ap (λ (bs : List ℕ). big_number 4 (bs ++ [])) same ∙ big_number-reads_back 4 b [] less_b

seq_low : (stage : Stage) (it : Item) (n : ℕ) → IsItemBelow SEQ_LIMIT stage it → n ≤ SEQ_LIMIT → second (item_fields it) ≡ record { field = Seq; bytes = big_bytes 4 n } → n < SEQ_LIMIT
seq_low stage item.More n is_item less same = absurd is_item
seq_low stage (item.Header header) n is_item less same = let never : Version ≡ Seq = ap (λ (s : Spelt). s.field) same in absurd (cc)
seq_low stage (item.Event event) n is_item less same =
    let one = same_seq event.seq n (omega (arith, is_item.3)) (omega arith) (ap (λ (s : Spelt). s.bytes) same) in
    omega (arith, is_item.3)
seq_low stage (item.End end) n is_item less same = let never : Numbered 1 ≡ Seq = ap (λ (s : Spelt). s.field) same in absurd (cc)

-- so it isn't accepted
seq_refused : (stage : Stage) (event : EventRecord) (number : ReadsNumber stage event) → IsOpen stage → SEQ_LIMIT ≤ event.seq → event.seq < SEQ_LIMIT + 1 → IsAccepted stage (number.bytes ∷ []) number.seq → ⊥
seq_refused stage event number goes high less accepted =
    let all = accepted_more stage [] (number.bytes ∷ []) number.seq number.accepted accepted in
    let whole = can_be_here stage (number.bytes ∷ number.seq ∷ []) goes all (λ one. absurd (omega arith)) in
    let field : spelt_next (next_of stage (number.bytes ∷ [])) number.seq ≡ record { field = Seq; bytes = number.seq } =
    ap (λ (o : Option Next). spelt_next o number.seq) number.comes ∙ ap (λ (f : Field). record { field = f; bytes = number.seq }) number.field in
    let same : second (item_fields whole.it) ≡ record { field = Seq; bytes = number.seq } = ap second whole.names ∙ field in
    let bytes : ◌≡◌ {A = Spelt} (record { field = Seq; bytes = big_bytes 4 event.seq }) (record { field = Seq; bytes = number.seq }) = ap second number.fields in
    let low : event.seq < SEQ_LIMIT = seq_low stage whole.it event.seq whole.is_item (omega arith) (same ∙ sym bytes) in
    omega arith

-- what comes next at a place, and whether a field that comes there is accepted
pub record IsTold (items : List Item) (fields : List (List ℕ)) (spelt : Spelt) : Type 0 where
  pub next : Next
  pub comes : next_of (stage_of items) fields ≡ Some next
  pub field : spelt.field ≡ next.field
  pub width : length spelt.bytes ≡ next.width
  pub accepted : (spelt.field ≡ Seq → ⊥) → IsNext items fields spelt

told_next : (items : List Item) (fields : List (List ℕ)) (spelt : Spelt) → IsNext items fields spelt → IsTold items fields spelt
told_next items fields spelt is_next =
    let accepted = is_next.accepted in
    let names : spelt_next (Some accepted.next) spelt.bytes ≡ spelt = ap (λ (o : Option Next). spelt_next o spelt.bytes) (sym accepted.comes) ∙ is_next.names in
    record { next = accepted.next; comes = accepted.comes; field = ap (λ (s : Spelt). s.field) (sym names); width = accepted.width; accepted = λ other. is_next }

pub head_same : {X : Type 0} {a b : X} {us vs : List X} → a ∷ us ≡ b ∷ vs → a ≡ b
head_same same = cc

-- a trace with such an event has the field there
tail_of : (stage : Stage) (event : EventRecord) → ReadsNumber stage event → List Item → List Spelt
tail_of stage event number rest = record { field = Seq; bytes = number.seq } ∷ (number.rest ++ items_fields rest)

beyond_fields : (good rest : List Item) (event : EventRecord) (number : ReadsNumber (stage_of good) event) (header : Header) → (stage_of good).over ≡ false → (stage_of good).header ≡ Some header → fields_at good (number.bytes ∷ []) ++ tail_of (stage_of good) event number rest ≡ items_fields (good ++ item.Event event ∷ rest)
unfolding tail_of
beyond_fields good rest event number header goes same =
    let tail = tail_of (stage_of good) event number rest in
    append_assoc (items_fields good) (named (stage_of good) (number.bytes ∷ [])) tail
    ∙ ap (λ (s : Spelt). items_fields good ++ (s ∷ tail)) (number_first (stage_of good) header number.bytes goes same)
    ∙ ap (λ (ss : List Spelt). items_fields good ++ (ss ++ items_fields rest)) (sym number.fields)
    ∙ sym (items_fields-append good (item.Event event ∷ rest))

beyond_place : (good : List Item) (event : EventRecord) (number : ReadsNumber (stage_of good) event) → Follow SEQ_LIMIT first_stage good → IsPlace first_stage good (number.bytes ∷ [])
beyond_place good event number follow = record { follow = follow; accepted = number.accepted; settled = λ goes none. no_next number.next (next_of (stage_of good) (number.bytes ∷ [])) number.comes none }

told_beyond :
    (items : List Item) (fields : List (List ℕ)) (spelt : Spelt) (rest : List Spelt) (all : List Item) → IsPlace first_stage items fields → IsBeyond first_stage all → items_fields all ≡ (fields_at items fields ++ spelt ∷ []) ++ rest
    → IsTold items fields spelt
unfolding tail_of
told_beyond items fields spelt rest all place beyond same =
    ⊎_elim (λ (n : IsNext items fields spelt). told_next items fields spelt n) here
    (next_or_tail items fields good (number.bytes ∷ []) (tail_of stage event number beyond.rest) rest spelt place (beyond_place good event number beyond.follow)
    (beyond_fields good beyond.rest event number beyond.is_item.0 beyond.goes beyond.is_item.1 ∙ ap (λ (its : List Item). items_fields its) (sym beyond.items_are) ∙ same) never)
  where
    good : List Item
    good = beyond.good

    stage : Stage
    stage = stage_of beyond.good

    event : EventRecord
    event = beyond.event

    goes : IsOpen (stage_of beyond.good)
    goes = open_at beyond.good beyond.follow beyond.goes

    number : ReadsNumber (stage_of beyond.good) beyond.event
    number = reads_number (stage_of beyond.good) beyond.event (open_at beyond.good beyond.follow beyond.goes) beyond.is_item

    never : (bytes left : List ℕ) → IsAccepted stage (number.bytes ∷ []) bytes → spelling (tail_of stage event number beyond.rest) ≡ bytes ++ left → ⊥
    never bytes left accepted x =
        let next = one_next accepted.next number.next (sym accepted.comes ∙ number.comes) in
        let long : length bytes ≡ length number.seq = accepted.width ∙ ap (λ (n : Next). n.width) next ∙ number.width in
        let parts = split_same bytes number.seq left (spelling (number.rest ++ items_fields beyond.rest)) long (sym x) in
        seq_refused stage event number goes beyond.high beyond.is_item.3 (subst (λ (bs : List ℕ). IsAccepted stage (number.bytes ∷ []) bs) parts.0 accepted)

    here : BeginsTail items fields good (number.bytes ∷ []) (tail_of stage event number beyond.rest) rest spelt → IsTold items fields spelt
    here t =
        let one : record { field = Seq; bytes = number.seq } ≡ spelt = head_same t.tail_is in
        record {
          next = number.next;
          comes = ap₂ (λ (a : List Item) (b : List (List ℕ)). next_of (stage_of a) b) t.items_are t.fields_same ∙ number.comes;
          field = ap (λ (s : Spelt). s.field) (sym one) ∙ sym number.field;
          width = ap (λ (s : Spelt). length s.bytes) (sym one) ∙ sym number.width;
          accepted = λ other. absurd (other (ap (λ (s : Spelt). s.field) (sym one)));
        }

pub told_of : (items : List Item) (fields : List (List ℕ)) (spelt : Spelt) → IsPlace first_stage items fields → Begins (SEQ_LIMIT + 1) (fields_at items fields ++ spelt ∷ []) → IsTold items fields spelt
told_of items fields spelt place begins =
    let all = items_of begins.trace in
    let same = sym (fields_are begins.trace) ∙ begins.whole in
    ⊎_elim
    (λ (low : Follow SEQ_LIMIT first_stage all). told_next items fields spelt (next_followed items fields spelt begins.rest all place low (items_over (SEQ_LIMIT + 1) begins.trace begins.is_trace) same))
    (λ (beyond : IsBeyond first_stage all). told_beyond items fields spelt begins.rest all place beyond same)
    (cut_beyond first_stage all (items_follow (SEQ_LIMIT + 1) begins.trace begins.is_trace))

-- a field that may stand at a place is accepted there
pub stands_next : (items : List Item) (fields : List (List ℕ)) (spelt : Spelt) → IsPlace first_stage items fields → Stands (fields_at items fields) spelt → IsNext items fields spelt
stands_next items fields spelt place stands = go spelt.field refl
  where
    go : (f : Field) → spelt.field ≡ f → IsNext items fields spelt
    go Number same =
        let told = told_of items fields spelt place (subst (λ (f : Field). Begins (limit_at f) (fields_at items fields ++ spelt ∷ [])) same stands) in
        told.accepted (λ seq. let never : Number ≡ Seq = sym same ∙ seq in absurd (cc))
    go other same = begins_below items fields spelt place (subst (λ (f : Field). Begins (limit_at f) (fields_at items fields ++ spelt ∷ [])) same stands)
