-- Fields of the same bytes: one list of them is a front of the other, and what comes next is told by the fields before.
use Rattle.std.proofs.Common.{◌≡◌, ◌<◌, ℕ, ◌^◌, ◌⊎◌, Bool, List, [], ◌∷◌, ◌++◌, length, inl, inr, ⊎_elim, refl, sym, ap, ap₂, subst, ◌∙◌, append_assoc}
use Rattle.byteorder.specs.Endian.{big_bytes, big_number}
use Rattle.trace_format.proofs.Lists.{split_same}
use Rattle.trace_format.proofs.Spelling.{length_spelt, reads}
use Rattle.history_file.specs.Fields.{Field, Spelt, spelling}
use Rattle.history_file.specs.Reading.{Shape}
use Rattle.history_file.specs.Reading.Shape.{Done, Reads, Takes}
use Rattle.history_file.proofs.Leading.{IsNumber, Leads}

-- the fields of one list go on as the other, and so do the bytes
pub record IsFront (fields all : List Spelt) (x y : List ℕ) : Type 0 where
  pub more : List Spelt
  pub fields_are : all ≡ fields ++ more
  pub bytes_are : x ≡ spelling more ++ y

-- numbers that are spelled so are the same
pub same_value : (width a b : ℕ) → a < 256 ^ width → b < 256 ^ width → big_bytes width a ≡ big_bytes width b → a ≡ b
same_value width a b small_a small_b same = sym (reads width a small_a) ∙ ap (big_number width) same ∙ reads width b small_b

pub same_number : (field : Field) (width : ℕ) (accepts : ℕ → Bool) (spelt : Spelt) (a b : ℕ) → IsNumber field width accepts spelt a → IsNumber field width accepts spelt b → a ≡ b
same_number field width accepts spelt a b one other =
    same_value width a b one.small other.small (ap (λ (s : Spelt). s.bytes) (sym one.spelt_is ∙ other.spelt_is))

-- the bytes of a number are as many as it has
pub wide : (field : Field) (width : ℕ) (accepts : ℕ → Bool) (spelt : Spelt) (n : ℕ) → IsNumber field width accepts spelt n → length spelt.bytes ≡ width
wide field width accepts spelt n is = ap (λ (s : Spelt). length s.bytes) is.spelt_is ∙ length_spelt width n

pub field_is : (field : Field) (width : ℕ) (accepts : ℕ → Bool) (spelt : Spelt) (n : ℕ) → IsNumber field width accepts spelt n → spelt.field ≡ field
field_is field width accepts spelt n is = ap (λ (s : Spelt). s.field) is.spelt_is

pub made_spelt : (s t : Spelt) → s.field ≡ t.field → s.bytes ≡ t.bytes → s ≡ t
made_spelt s t of_field of_bytes = ap₂ made of_field of_bytes
  where
    made : Field → List ℕ → Spelt
    made field bytes = record { field = field; bytes = bytes }

-- one field before both
behind : (s t : Spelt) (fs gs : List Spelt) (x y : List ℕ) → s ≡ t → IsFront fs gs x y ⊎ IsFront gs fs y x → IsFront (s ∷ fs) (t ∷ gs) x y ⊎ IsFront (t ∷ gs) (s ∷ fs) y x
behind s t fs gs x y same either =
    ⊎_elim
    (λ (r : IsFront fs gs x y). inl (record { more = r.more; fields_are = ap₂ (λ (h : Spelt) (hs : List Spelt). h ∷ hs) (sym same) r.fields_are; bytes_are = r.bytes_are }))
    (λ (r : IsFront gs fs y x). inr (record { more = r.more; fields_are = ap₂ (λ (h : Spelt) (hs : List Spelt). h ∷ hs) same r.fields_are; bytes_are = r.bytes_are }))
    either

-- two fields of one length at the front of the same bytes
heads : (s t : Spelt) (fs gs : List Spelt) (x y : List ℕ) → length s.bytes ≡ length t.bytes → spelling (s ∷ fs) ++ x ≡ spelling (t ∷ gs) ++ y → (s.bytes ≡ t.bytes) × (spelling fs ++ x ≡ spelling gs ++ y)
heads s t fs gs x y long same =
    split_same s.bytes t.bytes (spelling fs ++ x) (spelling gs ++ y) long (sym (append_assoc s.bytes (spelling fs) x) ∙ same ∙ append_assoc t.bytes (spelling gs) y)

pub compare : {A : Type 0} (S : Shape A) (fs gs ms ns : List Spelt) (a b : A) (x y : List ℕ) → Leads S (fs ++ ms) a → Leads S (gs ++ ns) b → spelling fs ++ x ≡ spelling gs ++ y → IsFront fs gs x y ⊎ IsFront gs fs y x
compare S [] gs ms ns a b x y one other same = inl (record { more = gs; fields_are = refl; bytes_are = same })
compare S (s ∷ fs) [] ms ns a b x y one other same = inr (record { more = s ∷ fs; fields_are = refl; bytes_are = sym same })
compare (Done v) (s ∷ fs) (t ∷ gs) ms ns a b x y one other same = absurd one
compare (Reads field width accepts next) (s ∷ fs) (t ∷ gs) ms ns a b x y one other same =
    let long = wide field width accepts s one.0 one.1 ∙ sym (wide field width accepts t other.0 other.1) in
    let parts = heads s t fs gs x y long same in
    let is : s ≡ t = made_spelt s t (field_is field width accepts s one.0 one.1 ∙ sym (field_is field width accepts t other.0 other.1)) parts.0 in
    let value : other.0 ≡ one.0 = same_number field width accepts t other.0 one.0 other.1 (subst (λ (z : Spelt). IsNumber field width accepts z one.0) is one.1) in
    behind s t fs gs x y is (compare (next one.0) fs gs ms ns a b x y one.2 (subst (λ (n : ℕ). Leads (next n) (gs ++ ns) b) value other.2) parts.1)
compare (Takes width next) (s ∷ fs) (t ∷ gs) ms ns a b x y one other same =
    let long = one.0.width_is ∙ sym other.0.width_is in
    let parts = heads s t fs gs x y long same in
    let is : s ≡ t = made_spelt s t (one.0.field_is ∙ sym other.0.field_is) parts.0 in
    behind s t fs gs x y is (compare (next s.bytes) fs gs ms ns a b x y one.1 (subst (λ (text : List ℕ). Leads (next text) (gs ++ ns) b) (sym parts.0) other.1) parts.1)

-- the field that comes next, and its length
pub next_same : {A : Type 0} (S : Shape A) (before ms ns : List Spelt) (s t : Spelt) (a b : A) → Leads S (before ++ s ∷ ms) a → Leads S (before ++ t ∷ ns) b → (s.field ≡ t.field) × (length s.bytes ≡ length t.bytes)
next_same (Done v) [] ms ns s t a b one other = absurd one
next_same (Done v) (z ∷ before) ms ns s t a b one other = absurd one
next_same (Reads field width accepts next) [] ms ns s t a b one other = (
  field_is field width accepts s one.0 one.1 ∙ sym (field_is field width accepts t other.0 other.1),
  wide field width accepts s one.0 one.1 ∙ sym (wide field width accepts t other.0 other.1),
)
next_same (Reads field width accepts next) (z ∷ before) ms ns s t a b one other =
    let value : other.0 ≡ one.0 = same_number field width accepts z other.0 one.0 other.1 one.1 in
    next_same (next one.0) before ms ns s t a b one.2 (subst (λ (n : ℕ). Leads (next n) (before ++ t ∷ ns) b) value other.2)
next_same (Takes width next) [] ms ns s t a b one other = (one.0.field_is ∙ sym other.0.field_is, one.0.width_is ∙ sym other.0.width_is)
next_same (Takes width next) (z ∷ before) ms ns s t a b one other = next_same (next z.bytes) before ms ns s t a b one.1 other.1

-- no field comes behind those that lead to a value
pub never_more : {A : Type 0} (S : Shape A) (fields ms : List Spelt) (s : Spelt) (a b : A) → Leads S fields a → Leads S (fields ++ s ∷ ms) b → ⊥
never_more (Done v) [] ms s a b one other = other
never_more (Done v) (z ∷ fields) ms s a b one other = one
never_more (Reads field width accepts next) [] ms s a b one other = one
never_more (Reads field width accepts next) (z ∷ fields) ms s a b one other =
    let value : other.0 ≡ one.0 = same_number field width accepts z other.0 one.0 other.1 one.1 in
    never_more (next one.0) fields ms s a b one.2 (subst (λ (n : ℕ). Leads (next n) (fields ++ s ∷ ms) b) value other.2)
never_more (Takes width next) [] ms s a b one other = one
never_more (Takes width next) (z ∷ fields) ms s a b one other = never_more (next z.bytes) fields ms s a b one.1 other.1

-- fields lead to one value
pub one_value : {A : Type 0} (S : Shape A) (fields : List Spelt) (a b : A) → Leads S fields a → Leads S fields b → a ≡ b
one_value (Done v) [] a b one other = sym one ∙ other
one_value (Done v) (z ∷ fields) a b one other = absurd one
one_value (Reads field width accepts next) [] a b one other = absurd one
one_value (Reads field width accepts next) (z ∷ fields) a b one other =
    let value : other.0 ≡ one.0 = same_number field width accepts z other.0 one.0 other.1 one.1 in
    one_value (next one.0) fields a b one.2 (subst (λ (n : ℕ). Leads (next n) fields b) value other.2)
one_value (Takes width next) [] a b one other = absurd one
one_value (Takes width next) (z ∷ fields) a b one other = one_value (next z.bytes) fields a b one.1 other.1
