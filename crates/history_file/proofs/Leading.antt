-- Fields that lead through a shape to a value: what is read of their bytes, and where else bytes lead.
use Rattle.std.proofs.Common.{◌≡◌, ◌<◌, ◌≤◌, ℕ, ◌^◌, Bool, true, List, [], ◌∷◌, ◌++◌, length, take, drop, Ok, Err, inl, inr, refl, sym, ap, ap₂, subst, ◌∙◌, append_assoc, arith}
use Rattle.std.proofs.lemmas.Bool.{cases_lt, le-ltb, lt-ltb}
use Rattle.std.proofs.lemmas.List.{length-take, take-append-drop}
use Rattle.byteorder.specs.Endian.{big_bytes, big_number}
use Rattle.trace_format.specs.Reached.{IsBytes}
use Rattle.trace_format.proofs.Spelling.{drop_bytes, number_small, reads_first, spells, take_bytes}
use Rattle.history_file.specs.declared.reason.HistoryReason.TheVariants as reason
use Rattle.history_file.specs.Fields.{Field, Spelt, number, spelling}
use Rattle.history_file.specs.Fields.Field.{Text}
use Rattle.history_file.specs.Reading.{Shape, and_then, field_at, plain_at, run, text_at}
use Rattle.history_file.specs.Reading.Shape.{Done, Reads, Takes}
use Rattle.history_file.proofs.Runs.{bind_ok, field_ok, ok_is}

-- a field that is this number of so many bytes, and may be it
pub record IsNumber (field : Field) (width : ℕ) (accepts : ℕ → Bool) (spelt : Spelt) (n : ℕ) : Type 0 where
  pub spelt_is : spelt ≡ number field width n
  pub small : n < 256 ^ width
  pub accepted : accepts n ≡ true

-- a text of so many bytes
pub record IsText (width : ℕ) (spelt : Spelt) : Type 0 where
  pub field_is : spelt.field ≡ Text
  pub width_is : length spelt.bytes ≡ width

abbrev pub Leads : {A : Type 0} → Shape A → List Spelt → A → Type 0
Leads (Done x) [] y = x ≡ y
Leads (Done x) (spelt ∷ fields) y = ⊥
Leads (Reads field width accepts next) [] y = ⊥
Leads (Reads field width accepts next) (spelt ∷ fields) y = (n : ℕ) × IsNumber field width accepts spelt n × Leads (next n) fields y
Leads (Takes width next) [] y = ⊥
Leads (Takes width next) (spelt ∷ fields) y = IsText width spelt × Leads (next spelt.bytes) fields y

-- one shape behind another
pub leads_then : {A B : Type 0} (S : Shape A) (more : A → Shape B) (fields rest : List Spelt) (x : A) (y : B) → Leads S fields x → Leads (more x) rest y → Leads (and_then S more) (fields ++ rest) y
leads_then (Done a) more [] rest x y first second = subst (λ z. Leads (more z) rest y) (sym first) second
leads_then (Done a) more (spelt ∷ fields) rest x y first second = absurd first
leads_then (Reads field width accepts next) more [] rest x y first second = absurd first
leads_then (Reads field width accepts next) more (spelt ∷ fields) rest x y first second = (first.0, first.1, leads_then (next first.0) more fields rest x y first.2 second)
leads_then (Takes width next) more [] rest x y first second = absurd first
leads_then (Takes width next) more (spelt ∷ fields) rest x y first second = (first.0, leads_then (next spelt.bytes) more fields rest x y first.1 second)

-- the fields of both
pub record Parts {A B : Type 0} (S : Shape A) (more : A → Shape B) (fields : List Spelt) (y : B) : Type 0 where
  pub front : List Spelt
  pub rest : List Spelt
  pub value : A
  pub fields_are : fields ≡ front ++ rest
  pub first : Leads S front value
  pub second : Leads (more value) rest y

pub parts_of : {A B : Type 0} (S : Shape A) (more : A → Shape B) (fields : List Spelt) (y : B) → Leads (and_then S more) fields y → Parts S more fields y
parts_of (Done a) more fields y leads = record { front = []; rest = fields; value = a; fields_are = refl; first = refl; second = leads }
parts_of (Reads field width accepts next) more [] y leads = absurd leads
parts_of (Reads field width accepts next) more (spelt ∷ fields) y leads =
    let those = parts_of (next leads.0) more fields y leads.2 in
    record { front = spelt ∷ those.front; rest = those.rest; value = those.value; fields_are = ap (λ (all : List Spelt). spelt ∷ all) those.fields_are; first = (leads.0, leads.1, those.first); second = those.second }
parts_of (Takes width next) more [] y leads = absurd leads
parts_of (Takes width next) more (spelt ∷ fields) y leads =
    let those = parts_of (next spelt.bytes) more fields y leads.1 in
    record { front = spelt ∷ those.front; rest = those.rest; value = those.value; fields_are = ap (λ (all : List Spelt). spelt ∷ all) those.fields_are; first = (leads.0, those.first); second = those.second }

-- What is read is spelled by fields.

pub record Spells {A : Type 0} (S : Shape A) (bytes : List ℕ) (x : A) (rest : List ℕ) : Type 0 where
  pub fields : List Spelt
  pub leads : Leads S fields x
  pub bytes_are : bytes ≡ spelling fields ++ rest

-- a number that was read
pub record IsPlain (width : ℕ) (bytes : List ℕ) (n : ℕ) (rest : List ℕ) : Type 0 where
  pub long : width ≤ length bytes
  pub number_is : n ≡ big_number width bytes
  pub rest_is : rest ≡ drop width bytes

plain_parts : (total width : ℕ) (bytes : List ℕ) (x : ℕ × List ℕ) → plain_at total width bytes ≡ Ok x → IsPlain width bytes x.0 x.1
plain_parts total width bytes x read =
    elim (cases_lt (length bytes) width) [
      | inl short ↦
          let none : plain_at total width bytes ≡ Err (record { reason = reason.Truncated; offset = total }) = rw (lt-ltb (length bytes) width short) refl in
          absurd (cc (none, read))
      | inr long ↦
          let some : plain_at total width bytes ≡ Ok (big_number width bytes, drop width bytes) = rw (le-ltb (length bytes) width long) refl in
          let is = ok_is (big_number width bytes, drop width bytes) x (sym some ∙ read) in
          record { long = long; number_is = ap (λ (y : ℕ × List ℕ). y.0) (sym is); rest_is = ap (λ (y : ℕ × List ℕ). y.1) (sym is) }
    ]

text_parts : (total width : ℕ) (bytes : List ℕ) (x : List ℕ × List ℕ) → text_at total width bytes ≡ Ok x → (width ≤ length bytes) × (x.0 ≡ take width bytes) × (x.1 ≡ drop width bytes)
text_parts total width bytes x read =
    elim (cases_lt (length bytes) width) [
      | inl short ↦
          let none : text_at total width bytes ≡ Err (record { reason = reason.Truncated; offset = total }) = rw (lt-ltb (length bytes) width short) refl in
          absurd (cc (none, read))
      | inr long ↦
          let some : text_at total width bytes ≡ Ok (take width bytes, drop width bytes) = rw (le-ltb (length bytes) width long) refl in
          let is = ok_is (take width bytes, drop width bytes) x (sym some ∙ read) in
          (long, ap (λ (y : List ℕ × List ℕ). y.0) (sym is), ap (λ (y : List ℕ × List ℕ). y.1) (sym is))
    ]

-- the first bytes are spelled by the number that they are read as
pub front_spelt : (width : ℕ) (bytes : List ℕ) → width ≤ length bytes → IsBytes bytes → big_bytes width (big_number width bytes) ≡ take width bytes
front_spelt width bytes long of_bytes =
    let first : big_number width bytes ≡ big_number width (take width bytes) =
    ap (big_number width) (sym (take-append-drop width bytes)) ∙ reads_first width (take width bytes) (drop width bytes) (omega (arith, length-take width bytes)) in
    ap (big_bytes width) first ∙ spells width (take width bytes) (omega (arith, length-take width bytes)) (take_bytes width bytes of_bytes)

-- the field that was read, and the bytes behind it
pub read_number : (total : ℕ) (field : Field) (width : ℕ) (accepts : ℕ → Bool) (bytes : List ℕ) (x : ℕ × List ℕ) → IsBytes bytes → field_at total field width accepts bytes ≡ Ok x →
    IsNumber field width accepts (number field width x.0) x.0 × (bytes ≡ big_bytes width x.0 ++ x.1) × IsBytes x.1
read_number total field width accepts bytes x of_bytes read =
    let both = field_ok total field width accepts bytes x read in
    let parts = plain_parts total width bytes x both.0 in
    let front : big_bytes width x.0 ≡ take width bytes = ap (big_bytes width) parts.number_is ∙ front_spelt width bytes parts.long of_bytes in (
      record { spelt_is = refl; small = subst (λ (n : ℕ). n < 256 ^ width) (sym parts.number_is) (number_small width bytes of_bytes); accepted = both.1 },
      sym (take-append-drop width bytes) ∙ ap₂ (λ (a b : List ℕ). a ++ b) (sym front) (sym parts.rest_is),
      subst IsBytes (sym parts.rest_is) (drop_bytes width bytes of_bytes),
    )

pub read_text : (total width : ℕ) (bytes : List ℕ) (x : List ℕ × List ℕ) → IsBytes bytes → text_at total width bytes ≡ Ok x → (length x.0 ≡ width) × (bytes ≡ x.0 ++ x.1) × IsBytes x.1
read_text total width bytes x of_bytes read =
    let parts = text_parts total width bytes x read in (
      ap (λ (text : List ℕ). length text) parts.1 ∙ omega (arith, length-take width bytes, parts.0),
      sym (take-append-drop width bytes) ∙ ap₂ (λ (a b : List ℕ). a ++ b) (sym parts.1) (sym parts.2),
      subst IsBytes (sym parts.2) (drop_bytes width bytes of_bytes),
    )

pub read_leads : {A : Type 0} (S : Shape A) (total : ℕ) (bytes : List ℕ) (x : A × List ℕ) → IsBytes bytes → run S total bytes ≡ Ok x → Spells S bytes x.0 x.1
read_leads {A = A} (Done a) total bytes x of_bytes read =
    let is = ok_is (a, bytes) x read in
    record { fields = []; leads = ap (λ (y : A × List ℕ). y.0) is; bytes_are = ap (λ (y : A × List ℕ). y.1) is }
read_leads (Reads field width accepts next) total bytes x of_bytes read =
    let parts = bind_ok (field_at total field width accepts bytes) (λ y. run (next y.0) total y.1) x read in
    let first = read_number total field width accepts bytes parts.0 of_bytes parts.1 in
    let later = read_leads (next parts.0.0) total parts.0.1 x first.2 parts.2 in
    record {
      fields = number field width parts.0.0 ∷ later.fields;
      leads = (parts.0.0, first.0, later.leads);
      bytes_are = first.1 ∙ ap (λ (rest : List ℕ). big_bytes width parts.0.0 ++ rest) later.bytes_are ∙ sym (append_assoc (big_bytes width parts.0.0) (spelling later.fields) x.1);
    }
read_leads (Takes width next) total bytes x of_bytes read =
    let parts = bind_ok (text_at total width bytes) (λ y. run (next y.0) total y.1) x read in
    let first = read_text total width bytes parts.0 of_bytes parts.1 in
    let later = read_leads (next parts.0.0) total parts.0.1 x first.2 parts.2 in
    record {
      fields = record { field = Text; bytes = parts.0.0 } ∷ later.fields;
      leads = (record { field_is = refl; width_is = first.0 }, later.leads);
      bytes_are = first.1 ∙ ap (λ (rest : List ℕ). parts.0.0 ++ rest) later.bytes_are ∙ sym (append_assoc parts.0.0 (spelling later.fields) x.1);
    }
