-- The terms of the laws of one item, and how fields follow one another.
use Rattle.std.proofs.Common.{ℕ, ◌≡◌, ◌<◌, ◌≤◌, ◌+◌, true, false, List, [], ◌∷◌, ◌++◌, length, map, Option, Some, None, refl, sym, ap, ◌∙◌, arith, append_assoc, length-append}
use Rattle.std.proofs.lemmas.List.{append-nil}
use Rattle.trace_format.specs.declared.field.Field.TheVariants.{Magic}
use Rattle.trace_format.specs.declared.item.Item.{Item}
use Rattle.trace_format.specs.declared.item.Item.TheVariants as item
use Rattle.trace_format.specs.declared.kind.Kind.{Kind}
use Rattle.trace_format.specs.declared.trace.Header.{Header}
use Rattle.trace_format.specs.declared.trace.TheConstants.{SEQ_LIMIT}
use Rattle.trace_format.specs.Accepting.{Next, argument_next, next_of}
use Rattle.trace_format.specs.Fields.{Spelt, numbered_from}
use Rattle.trace_format.specs.Items.{item_fields}
use Rattle.trace_format.specs.Reached.{AreAccepted, IsAccepted}
use Rattle.trace_format.specs.Taking.{Stage}
use Rattle.trace_format.specs.Validity.{IsDetail, IsEvent, IsHeader}
use Rattle.byteorder.specs.Endian.{big_bytes}
use Rattle.trace_format.proofs.Spelling.{length_spelt, spelt_bytes}
use Rattle.trace_format.proofs.ArgumentLists.{AreArguments, Comes, Fits, comes_later, comes_now, fits_none}

-- the item may come next at this stage, in a trace whose sequence numbers lie below the limit
abbrev pub IsItemBelow : ℕ → Stage → Item → Type 0
IsItemBelow limit stage item.More = ⊥
IsItemBelow limit stage (item.Header header) = (stage.header ≡ None) × IsHeader header
IsItemBelow limit stage (item.Event event) =
    (header : Header) × (stage.header ≡ Some header) × (stage.least ≤ event.seq) × (event.seq < limit) × IsEvent header event
IsItemBelow limit stage (item.End end) =
    (header : Header) × (stage.header ≡ Some header) × IsDetail end.status end.detail × (end.count ≡ stage.count)

-- a stage before the end mark
pub record IsOpen (stage : Stage) : Type 0 where
  pub not_over : stage.over ≡ false
  pub header : (header : Header) → stage.header ≡ Some header → IsHeader header
  pub least : stage.least ≤ SEQ_LIMIT
  pub count : stage.count ≤ stage.least

-- the bytes of fields
abbrev pub bytes_in : List Spelt → List (List ℕ)
bytes_in fields = map (λ (spelt : Spelt). spelt.bytes) fields

-- the field that comes next has this name
abbrev pub spelt_next : Option Next → List ℕ → Spelt
spelt_next None bytes = record { field = Magic; bytes = bytes }
spelt_next (Some next) bytes = record { field = next.field; bytes = bytes }

-- these bytes with the names of the fields that come next, behind those
abbrev pub named_from : Stage → List (List ℕ) → List (List ℕ) → List Spelt
named_from stage before [] = []
named_from stage before (bytes ∷ rest) = spelt_next (next_of stage before) bytes ∷ named_from stage (before ++ bytes ∷ []) rest

abbrev pub named : Stage → List (List ℕ) → List Spelt
named stage fields = named_from stage [] fields

-- a stage before the end mark, by its parts
abbrev pub opened : Option Header → ℕ → ℕ → Stage
opened header count least = record { header = header; count = count; least = least; over = false }

pub accepts_fit : (stage : Stage) (before : List (List ℕ)) (bytes : List ℕ) (next : Option Next) → next_of stage before ≡ next → Fits next bytes → IsAccepted stage before bytes
accepts_fit stage before bytes None comes fitting = absurd (fits_none bytes fitting)
accepts_fit stage before bytes (Some next) comes fitting =
    record { next = next; comes = comes; width = fitting.width; is_bytes = fitting.is_bytes; accepted = fitting.accepted }

-- fields behind fields
pub accepted_both : (stage : Stage) (before a b : List (List ℕ)) → AreAccepted stage before a → AreAccepted stage (before ++ a) b → AreAccepted stage before (a ++ b)
accepted_both stage before [] b of_a of_b = rw append-nil at of_b
accepted_both stage before (bytes ∷ a) b of_a of_b =
    (of_a.0, accepted_both stage (before ++ bytes ∷ []) a b of_a.1 (rw (← append_assoc before (bytes ∷ []) a) at of_b))

pub accepted_more : (stage : Stage) (fields : List (List ℕ)) (bytes : List ℕ) (next : Option Next) → AreAccepted stage [] fields → next_of stage fields ≡ next → Fits next bytes → AreAccepted stage [] (fields ++ bytes ∷ [])
accepted_more stage fields bytes next accepted comes fitting =
    accepted_both stage [] fields (bytes ∷ []) accepted (accepts_fit stage fields bytes next comes fitting, tt)

pub named_both : (stage : Stage) (before a b : List (List ℕ)) → named_from stage before (a ++ b) ≡ named_from stage before a ++ named_from stage (before ++ a) b
named_both stage before [] b = ap (λ (l : List (List ℕ)). named_from stage l b) (sym (append-nil before))
named_both stage before (bytes ∷ a) b =
    ap (λ (l : List Spelt). spelt_next (next_of stage before) bytes ∷ l)
    (named_both stage (before ++ bytes ∷ []) a b
    ∙ ap (λ (l : List (List ℕ)). named_from stage (before ++ bytes ∷ []) a ++ named_from stage l b) (append_assoc before (bytes ∷ []) a))

-- a number is spelled as bytes that fit
pub number_fits : (width n : ℕ) (next : Next) → next.width ≡ width → next.accepts (big_bytes width n) ≡ true → Fits (Some next) (big_bytes width n)
number_fits width n next wide accepted = record { width = length_spelt width n ∙ sym wide; is_bytes = spelt_bytes width n; accepted = accepted }

-- the bytes of arguments
pub bytes_numbered : (place : ℕ) (args : List (List ℕ)) → bytes_in (numbered_from place args) ≡ args
bytes_numbered place [] = refl
bytes_numbered place (bytes ∷ rest) = ap (λ (l : List (List ℕ)). bytes ∷ l) (bytes_numbered (place + 1) rest)

-- arguments have the names of the fields that come
pub numbered_named : (stage : Stage) (front before : List (List ℕ)) (kinds : List Kind) (args : List (List ℕ)) → Comes stage front before kinds → AreArguments before kinds args → numbered_from (5 + length before) args ≡ named_from stage front args
numbered_named stage front before [] [] comes are = refl
numbered_named stage front before [] (bytes ∷ rest) comes are = absurd are
numbered_named stage front before (which ∷ kinds) [] comes are = absurd are
numbered_named stage front before (which ∷ kinds) (bytes ∷ rest) comes are =
    let later = numbered_named stage (front ++ bytes ∷ []) (before ++ bytes ∷ []) kinds rest (comes_later stage front before which kinds bytes comes) are.1 in
    let place : 5 + length before + 1 ≡ 5 + length (before ++ bytes ∷ []) = omega (arith, length-append before (bytes ∷ [])) in
    ap (λ (l : List Spelt). spelt_next (argument_next before (which ∷ kinds) []) bytes ∷ l) (ap (λ (p : ℕ). numbered_from p rest) place ∙ later)
    ∙ ap (λ (o : Option Next). spelt_next o bytes ∷ named_from stage (front ++ bytes ∷ []) rest) (sym (comes_now stage front before (which ∷ kinds) comes))

-- Each field of an item is accepted, and none comes behind its last.
pub record ReadsItem (stage : Stage) (it : Item) : Type 0 where
  pub accepted : AreAccepted stage [] (bytes_in (item_fields it))
  pub names : item_fields it ≡ named stage (bytes_in (item_fields it))
  pub none : next_of stage (bytes_in (item_fields it)) ≡ None

-- the same by the bytes of its fields
pub reads_by : (stage : Stage) (it : Item) (fields : List (List ℕ)) → bytes_in (item_fields it) ≡ fields → AreAccepted stage [] fields → item_fields it ≡ named stage fields → next_of stage fields ≡ None → ReadsItem stage it
reads_by stage it fields same accepted names none =
    record { accepted = rw same accepted; names = names ∙ ap (named stage) (sym same); none = ap (next_of stage) same ∙ none }

-- the item that these fields are
pub record IsWritten (stage : Stage) (fields : List (List ℕ)) : Type 0 where
  pub it : Item
  pub is_item : IsItemBelow SEQ_LIMIT stage it
  pub bytes_are : bytes_in (item_fields it) ≡ fields

-- Fields that were accepted and some more are all those of an item.
pub record CanGoOn (stage : Stage) (fields : List (List ℕ)) : Type 0 where
  pub more : List (List ℕ)
  pub accepted : AreAccepted stage [] (fields ++ more)
  pub none : next_of stage (fields ++ more) ≡ None

pub whole_now : (stage : Stage) (fields : List (List ℕ)) → AreAccepted stage [] fields → next_of stage fields ≡ None → CanGoOn stage fields
whole_now stage fields accepted none = record { more = []; accepted = rw append-nil accepted; none = ap (next_of stage) (append-nil fields) ∙ none }

pub one_more : (stage : Stage) (fields : List (List ℕ)) (bytes : List ℕ) → CanGoOn stage (fields ++ bytes ∷ []) → CanGoOn stage fields
one_more stage fields bytes can =
    let e = append_assoc fields (bytes ∷ []) can.more in
    record { more = bytes ∷ can.more; accepted = rw e at can.accepted; none = ap (next_of stage) (sym e) ∙ can.none }
