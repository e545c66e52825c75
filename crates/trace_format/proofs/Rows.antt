-- The laws of one item: its fields are accepted one after the other, fields that were accepted can be made whole, and what is whole is an item.
use Rattle.std.proofs.Common.{ℕ, ◌≡◌, ◌≢◌, ◌<◌, ◌+◌, ◌^◌, ◌==◌, Bool, true, false, List, [], ◌∷◌, ◌++◌, length, Option, Some, None, inl, inr, refl, sym, ap, ◌∙◌, subst, arith}
use Rattle.std.proofs.lemmas.Bool.{cases_eq}
use Rattle.byteorder.specs.Endian.{big_bytes, big_number}
use Rattle.ompt_calls.specs.declared.event.EventRecord.{EventRecord}
use Rattle.ompt_calls.specs.Number.{number_of}
use Rattle.trace_format.specs.declared.field.Field.TheVariants.{Number, Seq}
use Rattle.trace_format.specs.declared.item.Item.{Item}
use Rattle.trace_format.specs.declared.item.Item.TheVariants as item
use Rattle.trace_format.specs.declared.trace.Header.{Header}
use Rattle.trace_format.specs.declared.trace.TheConstants.{SEQ_LIMIT}
use Rattle.trace_format.specs.Accepting.{Next, next_of, record_next}
use Rattle.trace_format.specs.Decoding.{end_in}
use Rattle.trace_format.specs.Fields.{Spelt}
use Rattle.trace_format.specs.Items.{item_fields}
use Rattle.trace_format.specs.Reached.{AreAccepted, flat}
use Rattle.trace_format.specs.Taking.{Stage}
use Rattle.trace_format.specs.Validity.{IsEvent, IsHeader}
use Rattle.trace_format.proofs.Decoded.{event_in, item_in}
use Rattle.trace_format.proofs.ArgumentLists.{fits}
use Rattle.trace_format.proofs.Ends.{end_again, end_goes, end_read, end_starts, end_written}
use Rattle.trace_format.proofs.EventFields.{event_comes, event_read, not_zero, number_fitting, number_reads}
use Rattle.trace_format.proofs.EventWhole.{behind_number_of, bytes_of, event_again, event_begins, event_goes, event_room, event_written, fields_bytes}
use Rattle.trace_format.proofs.Headers.{header_again, header_goes, header_read, header_written}
use Rattle.trace_format.proofs.Naming.{CanGoOn, IsWritten, accepts_fit, named_both, opened}
use Rattle.trace_format.proofs.Profile.{in_its_profile}
use Rattle.trace_format.proofs.Spelling.{length_spelt}
pub use Rattle.trace_format.proofs.Naming.{IsItemBelow, IsOpen, ReadsItem, bytes_in, named, named_from, spelt_next}

abbrev staged : Option Header → ℕ → ℕ → Bool → Stage
staged header count least over = record { header = header; count = count; least = least; over = over }

-- a stage before the end mark is told by its parts
as_opened : (stage : Stage) (header : Option Header) → stage.over ≡ false → stage.header ≡ header → opened header stage.count stage.least ≡ stage
as_opened stage header not_over same =
    ap (λ (h : Option Header). staged h stage.count stage.least false) (sym same) ∙ ap (λ (b : Bool). staged stage.header stage.count stage.least b) (sym not_over)

small_count : (stage : Stage) → IsOpen stage → stage.count < 2 ^ 32
small_count stage goes = let count = goes.count in let least = goes.least in omega (arith, count, least)

pub reads_item : (stage : Stage) (it : Item) → IsOpen stage → IsItemBelow SEQ_LIMIT stage it → ReadsItem stage it
reads_item stage item.More goes is_item = absurd is_item
reads_item stage (item.Header header) goes is_item =
    subst (λ (s : Stage). ReadsItem s (item.Header header)) (as_opened stage None goes.not_over is_item.0) (header_read stage.count stage.least header is_item.1)
reads_item stage (item.Event event) goes is_item =
    subst (λ (s : Stage). ReadsItem s (item.Event event)) (as_opened stage (Some is_item.0) goes.not_over is_item.1)
    (event_read is_item.0 stage.count stage.least event (goes.header is_item.0 is_item.1) is_item.2 is_item.3 is_item.4)
reads_item stage (item.End end) goes is_item =
    subst (λ (s : Stage). ReadsItem s (item.End end)) (as_opened stage (Some is_item.0) goes.not_over is_item.1)
    (end_read is_item.0 stage.count stage.least end (small_count stage goes) is_item.2 is_item.3)

-- The same of an event that may have one sequence number more: its number is accepted, its sequence number comes next, and it has the fields that come.
pub record ReadsNumber (stage : Stage) (event : EventRecord) : Type 0 where
  pub bytes : List ℕ
  pub seq : List ℕ
  pub rest : List Spelt
  pub fields : item_fields (item.Event event) ≡ record { field = Number; bytes = bytes } ∷ record { field = Seq; bytes = seq } ∷ rest
  pub accepted : AreAccepted stage [] (bytes ∷ [])
  pub next : Next
  pub comes : next_of stage (bytes ∷ []) ≡ Some next
  pub field : next.field ≡ Seq
  pub width : next.width ≡ length seq

number_read : (header : Header) (count least : ℕ) (event : EventRecord) → IsEvent header event → ReadsNumber (opened (Some header) count least) event
number_read header count least event is =
    let stage = opened (Some header) count least in
    let a = big_bytes 1 (number_of event.call) in
    record {
      bytes = a;
      seq = big_bytes 4 event.seq;
      rest = _;
      fields = refl;
      accepted = (accepts_fit stage [] a _ refl (number_fitting header count least event.call is.registered), tt);
      next = _;
      comes = event_comes header count least a (number_of event.call) [] (number_reads event.call) (not_zero (number_of event.call) (in_its_profile event.call));
      field = refl;
      width = sym (length_spelt 4 event.seq);
    }

pub reads_number : (stage : Stage) (event : EventRecord) → IsOpen stage → IsItemBelow (SEQ_LIMIT + 1) stage (item.Event event) → ReadsNumber stage event
reads_number stage event goes is_item =
    subst (λ (s : Stage). ReadsNumber s event) (as_opened stage (Some is_item.0) goes.not_over is_item.1) (number_read is_item.0 stage.count stage.least event is_item.4)

-- fields that were accepted, where none comes, are those of an item
by_number :
    (header : Header) (count least : ℕ) (fields : List (List ℕ)) → AreAccepted (opened (Some header) count least) [] fields
    → next_of (opened (Some header) count least) fields ≡ None → IsWritten (opened (Some header) count least) fields
by_number header count least [] accepted none = absurd cc
by_number header count least (a ∷ rest) accepted none = elim (cases_eq (big_number 1 a) 0) [
  | inl ends ↦ end_written header count least a rest ends accepted none
  | inr some ↦ event_written header count least a rest some accepted none
]

written : (stage : Stage) (fields : List (List ℕ)) → IsOpen stage → AreAccepted stage [] fields → next_of stage fields ≡ None → IsWritten stage fields
written stage fields goes = by_header stage.header refl
  where
    by_header : (header : Option Header) → stage.header ≡ header → AreAccepted stage [] fields → next_of stage fields ≡ None → IsWritten stage fields
    by_header None same =
        subst (λ (s : Stage). AreAccepted s [] fields → next_of s fields ≡ None → IsWritten s fields) (as_opened stage None goes.not_over same)
        (header_written stage.count stage.least fields)
    by_header (Some header) same =
        subst (λ (s : Stage). AreAccepted s [] fields → next_of s fields ≡ None → IsWritten s fields) (as_opened stage (Some header) goes.not_over same)
        (by_number header stage.count stage.least fields)

pub event_chosen : (header : Header) (bytes : List ℕ) → (big_number 1 bytes == 0) ≡ false → item_in (Some header) bytes ≡ item.Event (event_in bytes)
event_chosen header bytes some = rw some refl

pub end_chosen : (header : Header) (bytes : List ℕ) → (big_number 1 bytes == 0) ≡ true → item_in (Some header) bytes ≡ item.End (end_in bytes)
end_chosen header bytes none = rw none refl

-- an item is read again from its bytes
again : (stage : Stage) (it : Item) → IsOpen stage → IsItemBelow SEQ_LIMIT stage it → item_in stage.header (flat (bytes_in (item_fields it))) ≡ it
again stage item.More goes is_item = absurd is_item
again stage (item.Header header) goes is_item =
    ap (λ (o : Option Header). item_in o (flat (bytes_in (item_fields (item.Header header))))) is_item.0 ∙ ap item.Header (header_again header is_item.1)
again stage (item.Event event) goes is_item =
    let header = is_item.0 in
    let same : bytes_in (item_fields (item.Event event)) ≡ bytes_of event =
    fields_bytes event in
    ap (λ (l : List (List ℕ)). item_in stage.header (flat l)) same
    ∙ ap (λ (o : Option Header). item_in o (flat (bytes_of event))) is_item.1
    ∙ event_chosen header (flat (bytes_of event)) (event_begins event)
    ∙ ap item.Event (event_again header event (goes.header header is_item.1) is_item.3 is_item.4)
again stage (item.End end) goes is_item =
    let small = small_count stage goes in
    let same = is_item.3 in
    ap (λ (o : Option Header). item_in o (flat (bytes_in (item_fields (item.End end))))) is_item.1
    ∙ end_chosen is_item.0 (flat (bytes_in (item_fields (item.End end)))) refl
    ∙ ap item.End (end_again end is_item.2 (omega (arith, small, same)))

-- fields that were accepted, and none comes behind them: they are those of an item
pub record IsItemOf (stage : Stage) (fields : List (List ℕ)) (it : Item) : Type 0 where
  pub is_item : IsItemBelow SEQ_LIMIT stage it
  pub names : item_fields it ≡ named stage fields

pub item_whole : (stage : Stage) (fields : List (List ℕ)) → IsOpen stage → AreAccepted stage [] fields → next_of stage fields ≡ None → IsItemOf stage fields (item_in stage.header (flat fields))
item_whole stage fields goes accepted none =
    let found = written stage fields goes accepted none in
    let reads = reads_item stage found.it goes found.is_item in
    let back : item_in stage.header (flat fields) ≡ found.it =
    ap (λ (l : List (List ℕ)). item_in stage.header (flat l)) (sym found.bytes_are) ∙ again stage found.it goes found.is_item in
    let is : IsItemOf stage fields found.it = record { is_item = found.is_item; names = reads.names ∙ ap (named stage) found.bytes_are } in
    subst (λ (it : Item). IsItemOf stage fields it) (sym back) is

-- Fields that were accepted can be made whole, below this limit.
pub record CanBeWhole (limit : ℕ) (stage : Stage) (fields : List (List ℕ)) : Type 0 where
  pub it : Item
  pub is_item : IsItemBelow limit stage it
  pub rest : List Spelt
  pub names : item_fields it ≡ named stage fields ++ rest

-- fields that go on are those of a front of an item
from_going : (stage : Stage) (fields : List (List ℕ)) → IsOpen stage → CanGoOn stage fields → CanBeWhole SEQ_LIMIT stage fields
from_going stage fields goes can =
    let found = written stage (fields ++ can.more) goes can.accepted can.none in
    let reads = reads_item stage found.it goes found.is_item in
    record {
      it = found.it;
      is_item = found.is_item;
      rest = named_from stage fields can.more;
      names = reads.names ∙ ap (named stage) found.bytes_are ∙ named_both stage [] fields can.more;
    }

behind_number :
    (header : Header) (count least : ℕ) (fields : List (List ℕ)) → IsHeader header → count < 2 ^ 32 → (length fields ≡ 1 → least < SEQ_LIMIT)
    → AreAccepted (opened (Some header) count least) [] fields → CanGoOn (opened (Some header) count least) fields
behind_number header count least [] is_header small room accepted = end_starts header count least small
behind_number header count least (a ∷ []) is_header small room accepted = elim (cases_eq (big_number 1 a) 0) [
  | inl ends ↦ end_goes header count least a [] small ends accepted
  | inr some ↦ event_room header count least a is_header (room refl) some accepted
]
behind_number header count least (a ∷ b ∷ rest) is_header small room accepted = elim (cases_eq (big_number 1 a) 0) [
  | inl ends ↦ end_goes header count least a (b ∷ rest) small ends accepted
  | inr some ↦ event_goes header count least a b rest is_header some accepted
]

goes_on : (stage : Stage) (fields : List (List ℕ)) → IsOpen stage → (length fields ≡ 1 → stage.least < SEQ_LIMIT) → AreAccepted stage [] fields → CanGoOn stage fields
goes_on stage fields goes room = by_header stage.header refl
  where
    by_header : (header : Option Header) → stage.header ≡ header → AreAccepted stage [] fields → CanGoOn stage fields
    by_header None same =
        subst (λ (s : Stage). AreAccepted s [] fields → CanGoOn s fields) (as_opened stage None goes.not_over same) (header_goes stage.count stage.least fields)
    by_header (Some header) same =
        subst (λ (s : Stage). AreAccepted s [] fields → CanGoOn s fields) (as_opened stage (Some header) goes.not_over same)
        (behind_number header stage.count stage.least fields (goes.header header same) (small_count stage goes) room)

-- an item below a limit lies below one more
one_higher : (stage : Stage) (it : Item) → IsItemBelow SEQ_LIMIT stage it → IsItemBelow (SEQ_LIMIT + 1) stage it
one_higher stage item.More is_item = is_item
one_higher stage (item.Header header) is_item = is_item
one_higher stage (item.Event event) is_item = let below = is_item.3 in (is_item.0, is_item.1, is_item.2, omega (arith, below), is_item.4)
one_higher stage (item.End end) is_item = is_item

higher : (stage : Stage) (fields : List (List ℕ)) → CanBeWhole SEQ_LIMIT stage fields → CanBeWhole (SEQ_LIMIT + 1) stage fields
higher stage fields can = record { it = can.it; is_item = one_higher stage can.it can.is_item; rest = can.rest; names = can.names }

-- an event with this number
record HasNumber (header : Header) (a : List ℕ) : Type 0 where
  event : EventRecord
  is_event : IsEvent header event
  number : big_bytes 1 (number_of event.call) ≡ a

has_number : (header : Header) (a : List ℕ) (rest : List (List ℕ)) (it : Item) → big_number 1 a ≢ 0 → IsItemBelow SEQ_LIMIT (opened (Some header) 0 0) it → bytes_in (item_fields it) ≡ a ∷ rest → HasNumber header a
has_number header a rest item.More some is_item bytes = absurd is_item
has_number header a rest (item.Header other) some is_item bytes = let e = is_item.0 in absurd cc
has_number header a rest (item.End end) some is_item bytes =
    let first : big_bytes 1 0 ≡ a = cc in
    absurd (some (ap (big_number 1) (sym first)))
has_number header a rest (item.Event event) some is_item bytes =
    let e = is_item.1 in
    let same : is_item.0 ≡ header = cc in
    let first : big_bytes 1 (number_of event.call) ≡ a = cc in
    record { event = event; is_event = subst (λ (h : Header). IsEvent h event) same is_item.4; number = first }

-- an event whose sequence number is the limit
at_limit : (stage : Stage) (header : Header) (a : List ℕ) → IsOpen stage → stage.header ≡ Some header → HasNumber header a → CanBeWhole (SEQ_LIMIT + 1) stage (a ∷ [])
at_limit stage header a goes same has =
    let event : EventRecord = record has.event { seq = SEQ_LIMIT } in
    let is = has.is_event in
    let comes : next_of stage [] ≡ record_next header (opened (Some header) stage.count stage.least) [] =
    ap (λ (s : Stage). next_of s []) (sym (as_opened stage (Some header) goes.not_over same)) in
    let is_event : IsEvent header event = record { registered = is.registered; thread = is.thread; state = is.state; wait_id = is.wait_id; call = is.call } in
    let name : record { field = Number; bytes = big_bytes 1 (number_of event.call) } ≡ spelt_next (next_of stage []) a =
    ap (spelt_next (record_next header (opened (Some header) stage.count stage.least) [])) has.number ∙ ap (λ (o : Option Next). spelt_next o a) (sym comes) in
    record {
      it = item.Event event;
      is_item = (header, same, goes.least, omega arith, is_event);
      rest = behind_number_of event;
      names = ap (λ (first : Spelt). first ∷ behind_number_of event) name;
    }

event_at_limit : (stage : Stage) (header : Header) (a : List ℕ) → IsOpen stage → stage.header ≡ Some header → big_number 1 a ≢ 0 → AreAccepted (opened (Some header) stage.count stage.least) [] (a ∷ []) → CanBeWhole (SEQ_LIMIT + 1) stage (a ∷ [])
event_at_limit stage header a goes same some accepted =
    let first = opened (Some header) 0 0 in
    let fitting = fits (opened (Some header) stage.count stage.least) [] a (record_next header first []) accepted.0 refl in
    let can = event_room header 0 0 a (goes.header header same) (omega arith) some (accepts_fit first [] a _ refl fitting, tt) in
    let found = event_written header 0 0 a can.more some can.accepted can.none in
    at_limit stage header a goes same (has_number header a can.more found.it some found.is_item found.bytes_are)

-- Only where the last sequence number was used and an event has begun its sequence number must lie one higher.
pub can_be_whole : (stage : Stage) (fields : List (List ℕ)) → IsOpen stage → AreAccepted stage [] fields → CanBeWhole (SEQ_LIMIT + 1) stage fields
can_be_whole stage [] goes accepted = higher stage [] (from_going stage [] goes (goes_on stage [] goes (λ one. absurd (omega arith)) accepted))
can_be_whole stage (a ∷ b ∷ rest) goes accepted =
    higher stage (a ∷ b ∷ rest) (from_going stage (a ∷ b ∷ rest) goes (goes_on stage (a ∷ b ∷ rest) goes (λ one. absurd (omega arith)) accepted))
can_be_whole stage (a ∷ []) goes accepted = by_header stage.header refl
  where
    by_header : (header : Option Header) → stage.header ≡ header → CanBeWhole (SEQ_LIMIT + 1) stage (a ∷ [])
    by_header None same =
        higher stage (a ∷ [])
        (from_going stage (a ∷ []) goes
        (subst (λ (s : Stage). AreAccepted s [] (a ∷ []) → CanGoOn s (a ∷ [])) (as_opened stage None goes.not_over same) (header_goes stage.count stage.least (a ∷ [])) accepted))
    by_header (Some header) same =
        let here = as_opened stage (Some header) goes.not_over same in
        let opened_accepted = subst (λ (s : Stage). AreAccepted s [] (a ∷ [])) (sym here) accepted in
        elim (cases_eq (big_number 1 a) 0) [
          | inl ends ↦
              higher stage (a ∷ [])
              (from_going stage (a ∷ []) goes
              (subst (λ (s : Stage). CanGoOn s (a ∷ [])) here (end_goes header stage.count stage.least a [] (small_count stage goes) ends opened_accepted)))
          | inr some ↦ event_at_limit stage header a goes same some opened_accepted
        ]

pub can_be_below : (stage : Stage) (fields : List (List ℕ)) → IsOpen stage → AreAccepted stage [] fields → length fields ≡ 1 → stage.least < SEQ_LIMIT → CanBeWhole SEQ_LIMIT stage fields
can_be_below stage fields goes accepted one room = from_going stage fields goes (goes_on stage fields goes (λ same. room) accepted)

-- .. and with two fields or more it lies below already, and with none the end mark may come
pub can_be_here : (stage : Stage) (fields : List (List ℕ)) → IsOpen stage → AreAccepted stage [] fields → (length fields ≡ 1 → ⊥) → CanBeWhole SEQ_LIMIT stage fields
can_be_here stage fields goes accepted other = from_going stage fields goes (goes_on stage fields goes (λ one. absurd (other one)) accepted)
