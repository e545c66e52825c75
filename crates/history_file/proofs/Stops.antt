-- Where bytes stop leading through a shape in which each field can be: at a field that can't have their value, or where they end.
use Rattle.std.proofs.Common.{◌≡◌, ◌<◌, ◌≤◌, ℕ, ◌-◌, ◌^◌, ◌⊎◌, Bool, true, false, List, [], ◌∷◌, ◌++◌, length, take, drop, Result, Ok, Err, inl, inr, ⊎_elim, refl, sym, ap, subst, ◌∙◌, append_assoc, arith}
use Rattle.std.specs.Prelude.{replicate}
use Rattle.std.proofs.lemmas.Bool.{cases_lt, le-ltb, lt-ltb}
use Rattle.std.proofs.lemmas.List.{length-replicate, length-take, take-append-drop}
use Rattle.byteorder.specs.Endian.{big_bytes, big_number}
use Rattle.trace_format.specs.Reached.{IsBytes}
use Rattle.trace_format.proofs.Spelling.{length_spelt, number_small}
use Rattle.history_file.specs.declared.reason.HistoryReason.TheVariants as reason
use Rattle.history_file.specs.Fields.{Field, Spelt, number, spelling}
use Rattle.history_file.specs.Fields.Field.{Text}
use Rattle.history_file.specs.Reading.{◌>>=◌, Refusal, Shape, and_then, field_at, passed, plain_at, run, text_at}
use Rattle.history_file.specs.Reading.Shape.{Done, Reads, Takes}
use Rattle.history_file.specs.Refusing.{reason_of}
use Rattle.history_file.proofs.Fronts.{same_number, same_value}
use Rattle.history_file.proofs.Leading.{IsNumber, Leads, front_spelt, read_number, read_text}

-- some number can stand at each field, whatever stood before
abbrev pub CanGo : {A : Type 0} → Shape A → Type 0
CanGo (Done x) = Unit {0}
CanGo (Reads field width accepts next) =
    ((n : ℕ) × (n < 256 ^ width) × (accepts n ≡ true)) × ((n : ℕ) → n < 256 ^ width → accepts n ≡ true → CanGo (next n))
CanGo (Takes width next) = (text : List ℕ) → length text ≡ width → CanGo (next text)

-- a number that stands there
stands : (field : Field) (width : ℕ) (accepts : ℕ → Bool) (n : ℕ) → n < 256 ^ width → accepts n ≡ true → IsNumber field width accepts (number field width n) n
stands field width accepts n small accepted = record { spelt_is = refl; small = small; accepted = accepted }

abbrev text_spelt : List ℕ → Spelt
text_spelt text = record { field = Text; bytes = text }

pub can_go_then : {A B : Type 0} (S : Shape A) (more : A → Shape B) → CanGo S → ((x : A) (fields : List Spelt) → Leads S fields x → CanGo (more x)) → CanGo (and_then S more)
can_go_then (Done a) more first second = second a [] refl
can_go_then (Reads field width accepts next) more first second = (
  first.0,
  λ n small accepted.
      can_go_then (next n) more (first.1 n small accepted) (λ x fields leads. second x (number field width n ∷ fields) (n, stands field width accepts n small accepted, leads)),
)
can_go_then (Takes width next) more first second = λ text long.
    can_go_then (next text) more (first text long) (λ x fields leads. second x (text_spelt text ∷ fields) (record { field_is = refl; width_is = long }, leads))

pub record Completed {A : Type 0} (S : Shape A) : Type 0 where
  pub fields : List Spelt
  pub value : A
  pub leads : Leads S fields value

pub completes : {A : Type 0} (S : Shape A) → CanGo S → Completed S
completes (Done a) can = record { fields = []; value = a; leads = refl }
completes (Reads field width accepts next) can =
    let n = can.0.0 in
    let later = completes (next n) (can.1 n can.0.1 can.0.2) in
    record { fields = number field width n ∷ later.fields; value = later.value; leads = (n, stands field width accepts n can.0.1 can.0.2, later.leads) }
completes (Takes width next) can =
    let text : List ℕ = replicate width 0 in
    let long : length text ≡ width = length-replicate width 0 in
    let later = completes (next text) (can text long) in
    record { fields = text_spelt text ∷ later.fields; value = later.value; leads = (record { field_is = refl; width_is = long }, later.leads) }

-- this field comes next behind these, with so many bytes
pub record Comes {A : Type 0} (S : Shape A) (before : List Spelt) (field : Field) (width : ℕ) : Type 0 where
  pub bytes : List ℕ
  pub fields : List Spelt
  pub value : A
  pub width_is : length bytes ≡ width
  pub leads : Leads S (before ++ record { field = field; bytes = bytes } ∷ fields) value

-- a field that may not stand behind those before it
pub record Stops {A : Type 0} (S : Shape A) (total : ℕ) (bytes : List ℕ) (e : Refusal) : Type 0 where
  pub before : List Spelt
  pub refused : Spelt
  pub rest : List ℕ
  pub bytes_are : bytes ≡ spelling before ++ (refused.bytes ++ rest)
  pub comes : Comes S before refused.field (length refused.bytes)
  pub none : (fields : List Spelt) (value : A) → Leads S (before ++ refused ∷ fields) value → ⊥
  pub refusal_is : e ≡ record { reason = reason_of refused.field; offset = total - length (refused.bytes ++ rest) }

-- the bytes end in a field
pub record Breaks {A : Type 0} (S : Shape A) (total : ℕ) (bytes : List ℕ) (e : Refusal) : Type 0 where
  pub before : List Spelt
  pub left : List ℕ
  pub field : Field
  pub width : ℕ
  pub bytes_are : bytes ≡ spelling before ++ left
  pub short : length left < width
  pub comes : Comes S before field width
  pub refusal_is : e ≡ record { reason = reason.Truncated; offset = total }

-- Why a step gave no value.

abbrev no_value : {A : Type 0} → Refusal → Result A Refusal
no_value e = Err e

err_is : {A : Type 0} (d e : Refusal) → no_value {A = A} d ≡ no_value e → d ≡ e
err_is d e same = cc

bind_err : {A B : Type 0} (r : Result A Refusal) (f : A → Result B Refusal) (e : Refusal) → (r >>= f) ≡ Err e → (r ≡ Err e) ⊎ ((x : A) × (r ≡ Ok x) × (f x ≡ Err e))
bind_err (Ok x) f e is = inr (x, refl, is)
bind_err {B = B} (Err d) f e is = inl (ap (λ (z : Refusal). Err z) (err_is {A = B} d e is))

abbrev given : ℕ → List ℕ → Result (ℕ × List ℕ) Refusal
given n rest = Ok (n, rest)

abbrev truncated : ℕ → Refusal
truncated total = record { reason = reason.Truncated; offset = total }

abbrev refused_at : Field → ℕ → Refusal
refused_at field offset = record { reason = reason_of field; offset = offset }

field_err : (total : ℕ) (field : Field) (width : ℕ) (accepts : ℕ → Bool) (bytes : List ℕ) (e : Refusal) → field_at total field width accepts bytes ≡ Err e →
    ((length bytes < width) × (e ≡ truncated total)) ⊎ ((width ≤ length bytes) × (accepts (big_number width bytes) ≡ false) × (e ≡ refused_at field (total - length bytes)))
field_err total field width accepts bytes e is =
    elim (cases_lt (length bytes) width) [
      | inl short ↦
          let none : plain_at total width bytes ≡ Err (truncated total) = rw (lt-ltb (length bytes) width short) refl in
          let all : field_at total field width accepts bytes ≡ Err (truncated total) =
          ap (λ (r : Result (ℕ × List ℕ) Refusal). r >>= λ x. (passed (accepts x.0) (reason_of field) (total - length bytes) >>= λ _. Ok x)) none in
          inl (short, sym (err_is {A = ℕ × List ℕ} (truncated total) e (sym all ∙ is)))
      | inr long ↦
          let n = big_number width bytes in
          let some : plain_at total width bytes ≡ Ok (n, drop width bytes) = rw (le-ltb (length bytes) width long) refl in
          let all : field_at total field width accepts bytes ≡ (passed (accepts n) (reason_of field) (total - length bytes) >>= λ _. given n (drop width bytes)) =
          ap (λ (r : Result (ℕ × List ℕ) Refusal). r >>= λ x. (passed (accepts x.0) (reason_of field) (total - length bytes) >>= λ _. Ok x)) some in
          let not_passed = passed_err (accepts n) (total - length bytes) (drop width bytes) (sym all ∙ is) in
          inr (long, not_passed.0, not_passed.1)
    ]
  where
    passed_err : (accepted : Bool) (offset : ℕ) (rest : List ℕ) → (passed accepted (reason_of field) offset >>= λ _. given (big_number width bytes) rest) ≡ Err e → (accepted ≡ false) × (e ≡ refused_at field offset)
    passed_err true offset rest same = absurd cc
    passed_err false offset rest same = (refl, sym (err_is {A = ℕ × List ℕ} (refused_at field offset) e same))

text_err : (total width : ℕ) (bytes : List ℕ) (e : Refusal) → text_at total width bytes ≡ Err e → (length bytes < width) × (e ≡ truncated total)
text_err total width bytes e is =
    elim (cases_lt (length bytes) width) [
      | inl short ↦
          let none : text_at total width bytes ≡ Err (truncated total) = rw (lt-ltb (length bytes) width short) refl in
          (short, sym (err_is {A = List ℕ × List ℕ} (truncated total) e (sym none ∙ is)))
      | inr long ↦
          let some : text_at total width bytes ≡ Ok (take width bytes, drop width bytes) = rw (le-ltb (length bytes) width long) refl in
          absurd (cc (some, is))
    ]

-- A field that is refused, and one that is cut, with nothing before.

comes_first : {A : Type 0} (field : Field) (width : ℕ) (accepts : ℕ → Bool) (next : ℕ → Shape A) (size : ℕ) → CanGo (Reads field width accepts next) → size ≡ width → Comes (Reads field width accepts next) [] field size
comes_first field width accepts next size can long =
    let n = can.0.0 in
    let later = completes (next n) (can.1 n can.0.1 can.0.2) in
    record { bytes = big_bytes width n; fields = later.fields; value = later.value; width_is = length_spelt width n ∙ sym long; leads = (n, stands field width accepts n can.0.1 can.0.2, later.leads) }

text_first : {A : Type 0} (width : ℕ) (next : List ℕ → Shape A) → CanGo (Takes width next) → Comes (Takes width next) [] Text width
text_first width next can =
    let text : List ℕ = replicate width 0 in
    let long : length text ≡ width = length-replicate width 0 in
    let later = completes (next text) (can text long) in
    record { bytes = text; fields = later.fields; value = later.value; width_is = long; leads = (record { field_is = refl; width_is = long }, later.leads) }

stops_here : {A : Type 0} (field : Field) (width : ℕ) (accepts : ℕ → Bool) (next : ℕ → Shape A) (total : ℕ) (bytes : List ℕ) (e : Refusal) → CanGo (Reads field width accepts next) → IsBytes bytes
    → width ≤ length bytes → accepts (big_number width bytes) ≡ false → e ≡ refused_at field (total - length bytes) → Stops (Reads field width accepts next) total bytes e
stops_here field width accepts next total bytes e can of_bytes long not_accepted is = record {
  before = [];
  refused = refused_spelt;
  rest = drop width bytes;
  bytes_are = sym (take-append-drop width bytes);
  comes = comes_first field width accepts next (length (take width bytes)) can (omega (arith, length-take width bytes));
  none = λ fields value leads. not_that leads.0 leads.1;
  refusal_is = is ∙ ap (λ (all : List ℕ). refused_at field (total - length all)) (sym (take-append-drop width bytes));
}
  where
    refused_spelt : Spelt
    refused_spelt = record { field = field; bytes = take width bytes }

    not_that : (m : ℕ) → IsNumber field width accepts (record { field = field; bytes = take width bytes }) m → ⊥
    not_that m stood =
        let spelt : big_bytes width (big_number width bytes) ≡ big_bytes width m = front_spelt width bytes long of_bytes ∙ ap (λ (s : Spelt). s.bytes) stood.spelt_is in
        let same : big_number width bytes ≡ m = same_value width (big_number width bytes) m (number_small width bytes of_bytes) stood.small spelt in
        let accepted : accepts (big_number width bytes) ≡ true = subst (λ (n : ℕ). accepts n ≡ true) (sym same) stood.accepted in
        absurd (cc (accepted, not_accepted))

-- One field before both.

stops_behind : {A : Type 0} (field : Field) (width : ℕ) (accepts : ℕ → Bool) (next : ℕ → Shape A) (total n : ℕ) (bytes rest : List ℕ) (e : Refusal) → IsNumber field width accepts (number field width n) n
    → bytes ≡ big_bytes width n ++ rest → Stops (next n) total rest e → Stops (Reads field width accepts next) total bytes e
stops_behind field width accepts next total n bytes rest e stood whole it = record {
  before = number field width n ∷ it.before;
  refused = it.refused;
  rest = it.rest;
  bytes_are = whole ∙ ap (λ (later : List ℕ). big_bytes width n ++ later) it.bytes_are ∙ sym (append_assoc (big_bytes width n) (spelling it.before) (it.refused.bytes ++ it.rest));
  comes = record { bytes = it.comes.bytes; fields = it.comes.fields; value = it.comes.value; width_is = it.comes.width_is; leads = (n, stood, it.comes.leads) };
  none = λ fields value leads.
      it.none fields value
      (subst (λ (m : ℕ). Leads (next m) (it.before ++ it.refused ∷ fields) value) (same_number field width accepts (number field width n) leads.0 n leads.1 stood) leads.2);
  refusal_is = it.refusal_is;
}

breaks_behind : {A : Type 0} (field : Field) (width : ℕ) (accepts : ℕ → Bool) (next : ℕ → Shape A) (total n : ℕ) (bytes rest : List ℕ) (e : Refusal) → IsNumber field width accepts (number field width n) n
    → bytes ≡ big_bytes width n ++ rest → Breaks (next n) total rest e → Breaks (Reads field width accepts next) total bytes e
breaks_behind field width accepts next total n bytes rest e stood whole it = record {
  before = number field width n ∷ it.before;
  left = it.left;
  field = it.field;
  width = it.width;
  bytes_are = whole ∙ ap (λ (later : List ℕ). big_bytes width n ++ later) it.bytes_are ∙ sym (append_assoc (big_bytes width n) (spelling it.before) it.left);
  short = it.short;
  comes = record { bytes = it.comes.bytes; fields = it.comes.fields; value = it.comes.value; width_is = it.comes.width_is; leads = (n, stood, it.comes.leads) };
  refusal_is = it.refusal_is;
}

stops_behind_text : {A : Type 0} (width : ℕ) (next : List ℕ → Shape A) (total : ℕ) (text bytes rest : List ℕ) (e : Refusal) → length text ≡ width
    → bytes ≡ text ++ rest → Stops (next text) total rest e → Stops (Takes width next) total bytes e
stops_behind_text width next total text bytes rest e long whole it = record {
  before = text_spelt text ∷ it.before;
  refused = it.refused;
  rest = it.rest;
  bytes_are = whole ∙ ap (λ (later : List ℕ). text ++ later) it.bytes_are ∙ sym (append_assoc text (spelling it.before) (it.refused.bytes ++ it.rest));
  comes = record { bytes = it.comes.bytes; fields = it.comes.fields; value = it.comes.value; width_is = it.comes.width_is; leads = (record { field_is = refl; width_is = long }, it.comes.leads) };
  none = λ fields value leads. it.none fields value leads.1;
  refusal_is = it.refusal_is;
}

breaks_behind_text : {A : Type 0} (width : ℕ) (next : List ℕ → Shape A) (total : ℕ) (text bytes rest : List ℕ) (e : Refusal) → length text ≡ width
    → bytes ≡ text ++ rest → Breaks (next text) total rest e → Breaks (Takes width next) total bytes e
breaks_behind_text width next total text bytes rest e long whole it = record {
  before = text_spelt text ∷ it.before;
  left = it.left;
  field = it.field;
  width = it.width;
  bytes_are = whole ∙ ap (λ (later : List ℕ). text ++ later) it.bytes_are ∙ sym (append_assoc text (spelling it.before) it.left);
  short = it.short;
  comes = record { bytes = it.comes.bytes; fields = it.comes.fields; value = it.comes.value; width_is = it.comes.width_is; leads = (record { field_is = refl; width_is = long }, it.comes.leads) };
  refusal_is = it.refusal_is;
}

pub refused_run : {A : Type 0} (S : Shape A) (total : ℕ) (bytes : List ℕ) (e : Refusal) → CanGo S → IsBytes bytes → run S total bytes ≡ Err e → Stops S total bytes e ⊎ Breaks S total bytes e
refused_run (Done a) total bytes e can of_bytes is = absurd cc
refused_run (Reads field width accepts next) total bytes e can of_bytes is =
    elim (bind_err (field_at total field width accepts bytes) (λ y. run (next y.0) total y.1) e is) [
      | inl here ↦
          elim (field_err total field width accepts bytes e here) [
            | inl cut ↦ inr (record { before = []; left = bytes; field = field; width = width; bytes_are = refl; short = cut.0; comes = comes_first field width accepts next width can refl; refusal_is = cut.1 })
            | inr bad ↦ inl (stops_here field width accepts next total bytes e can of_bytes bad.0 bad.1 bad.2)
          ]
      | inr later ↦
          let first = read_number total field width accepts bytes later.0 of_bytes later.1 in
          ⊎_elim
          (λ (it : Stops (next later.0.0) total later.0.1 e). inl (stops_behind field width accepts next total later.0.0 bytes later.0.1 e first.0 first.1 it))
          (λ (it : Breaks (next later.0.0) total later.0.1 e). inr (breaks_behind field width accepts next total later.0.0 bytes later.0.1 e first.0 first.1 it))
          (refused_run (next later.0.0) total later.0.1 e (can.1 later.0.0 first.0.small first.0.accepted) first.2 later.2)
    ]
refused_run (Takes width next) total bytes e can of_bytes is =
    elim (bind_err (text_at total width bytes) (λ y. run (next y.0) total y.1) e is) [
      | inl here ↦
          let cut = text_err total width bytes e here in
          inr (record { before = []; left = bytes; field = Text; width = width; bytes_are = refl; short = cut.0; comes = text_first width next can; refusal_is = cut.1 })
      | inr later ↦
          let first = read_text total width bytes later.0 of_bytes later.1 in
          ⊎_elim
          (λ (it : Stops (next later.0.0) total later.0.1 e). inl (stops_behind_text width next total later.0.0 bytes later.0.1 e first.0 first.1 it))
          (λ (it : Breaks (next later.0.0) total later.0.1 e). inr (breaks_behind_text width next total later.0.0 bytes later.0.1 e first.0 first.1 it))
          (refused_run (next later.0.0) total later.0.1 e (can later.0.0 first.0) first.2 later.2)
    ]
