-- Where bytes are refused, said of files, and that there is one place at most.
use Rattle.std.proofs.Common.{◌≡◌, ℕ, ◌⊎◌, List, [], ◌∷◌, ◌++◌, length, ⊎_elim, refl, sym, ap, subst, ◌∙◌, append_assoc, append-nil}
use Rattle.trace_format.proofs.Lists.{split_same}
use Rattle.history_file.specs.declared.file.HistoryFile.{HistoryFile}
use Rattle.history_file.specs.declared.reason.HistoryReason.{HistoryReason}
use Rattle.history_file.specs.Fields.{Field, Spelt, fields_of, spelling}
use Rattle.history_file.specs.Reading.{file_shape}
use Rattle.history_file.specs.Refusing.{Begins, ComesNext, IsRefusedField, reason_of}
use Rattle.history_file.specs.Validity.{IsHistoryFile, WritesHistory}
use Rattle.history_file.proofs.Backwards.{file_back}
use Rattle.history_file.proofs.Files.{file_leads}
use Rattle.history_file.proofs.Fronts.{IsFront, compare, made_spelt, never_more, next_same, one_value}
use Rattle.history_file.proofs.Leading.{Leads}
use Rattle.history_file.proofs.Stops.{Comes}

-- Files that begin with fields, and fields that lead to files.

-- fields behind one that stands last
regroup : (before more : List Spelt) (s : Spelt) → (before ++ s ∷ []) ++ more ≡ before ++ s ∷ more
regroup before more s = append_assoc before (s ∷ []) more

pub record Leading (before : List Spelt) (s : Spelt) : Type 0 where
  pub more : List Spelt
  pub file : HistoryFile
  pub leads : Leads file_shape (before ++ s ∷ more) file

pub leading : (before : List Spelt) (s : Spelt) → Begins (before ++ s ∷ []) → Leading before s
leading before s it = record {
  more = it.rest;
  file = it.file;
  leads = subst (λ (fs : List Spelt). Leads file_shape fs it.file) (it.whole ∙ regroup before it.rest s) (file_leads it.file it.is_file);
}

pub begins : (before more : List Spelt) (s : Spelt) (file : HistoryFile) → Leads file_shape (before ++ s ∷ more) file → Begins (before ++ s ∷ [])
begins before more s file leads =
    let back = file_back (before ++ s ∷ more) file leads in
    record { file = file; is_file = back.is; rest = more; whole = sym back.fields_are ∙ sym (regroup before more s) }

pub comes_next : (before : List Spelt) (field : Field) (width : ℕ) → Comes file_shape before field width → ComesNext before field width
comes_next before field width it = record {
  bytes = it.bytes;
  begins = begins before it.fields (record { field = field; bytes = it.bytes }) it.value it.leads;
  width_is = it.width_is;
}

-- One field that can't stand, against fields of a file.

-- a field as long as the one that comes, of the same bytes, is the same
same_field : (before ms ns : List Spelt) (s z t : Spelt) (a b : HistoryFile) (x y : List ℕ) → Leads file_shape (before ++ z ∷ ms) a → z.field ≡ s.field → length z.bytes ≡ length s.bytes
    → Leads file_shape (before ++ t ∷ ns) b → s.bytes ++ x ≡ t.bytes ++ y → s ≡ t
same_field before ms ns s z t a b x y one of_field of_width other same =
    let next = next_same file_shape before ms ns z t a b one other in
    let parts = split_same s.bytes t.bytes x y (sym of_width ∙ next.1) same in
    made_spelt s t (sym of_field ∙ next.0) parts.0

-- the field that is refused stands in no file whose bytes are the same
pub no_longer : (bytes : List ℕ) (r : HistoryReason) (m : ℕ) (it : IsRefusedField bytes r m) (t : Spelt) (more ns : List Spelt) (b : HistoryFile) (y : List ℕ)
    → Leads file_shape ((it.before ++ t ∷ more) ++ ns) b → it.refused.bytes ++ it.rest ≡ spelling (t ∷ more) ++ y → ⊥
no_longer bytes r m it t more ns b y other same =
    let comes = leading it.before (record { field = it.refused.field; bytes = it.comes.bytes }) it.comes.begins in
    let those : Leads file_shape (it.before ++ t ∷ (more ++ ns)) b = subst (λ (fs : List Spelt). Leads file_shape fs b) (append_assoc it.before (t ∷ more) ns) other in
    let is : it.refused ≡ t =
    same_field it.before comes.more (more ++ ns) it.refused (record { field = it.refused.field; bytes = it.comes.bytes }) t comes.file b it.rest (spelling more ++ y) comes.leads refl it.comes.width_is those
    (same ∙ append_assoc t.bytes (spelling more) y) in
    it.none (begins it.before (more ++ ns) it.refused b (subst (λ (s : Spelt). Leads file_shape (it.before ++ s ∷ (more ++ ns)) b) (sym is) those))

-- bytes that begin with a whole file, and have a field that is refused
pub file_refused : (bytes : List ℕ) (r : HistoryReason) (m : ℕ) (it : IsRefusedField bytes r m) (file : HistoryFile) (y : List ℕ) → IsHistoryFile file → bytes ≡ spelling (fields_of file) ++ y → ⊥
file_refused bytes r m it file y is whole =
    let comes = leading it.before (record { field = it.refused.field; bytes = it.comes.bytes }) it.comes.begins in
    let leads = file_leads file is in
    let all : Leads file_shape (fields_of file ++ []) file = subst (λ (fs : List Spelt). Leads file_shape fs file) (sym (append-nil (fields_of file))) leads in
    go comes.more comes.file comes.leads leads all
    (compare file_shape it.before (fields_of file) (record { field = it.refused.field; bytes = it.comes.bytes } ∷ comes.more) [] comes.file file (it.refused.bytes ++ it.rest) y comes.leads all
    (sym it.bytes_are ∙ whole))
  where
    front : (more : List Spelt) → fields_of file ≡ it.before ++ more → it.refused.bytes ++ it.rest ≡ spelling more ++ y → (ms : List Spelt) (a : HistoryFile)
        → Leads file_shape (it.before ++ record { field = it.refused.field; bytes = it.comes.bytes } ∷ ms) a → Leads file_shape (fields_of file) file → ⊥
    front [] fields same ms a one leads =
        never_more file_shape it.before ms (record { field = it.refused.field; bytes = it.comes.bytes }) file a
        (subst (λ (fs : List Spelt). Leads file_shape fs file) (fields ∙ append-nil it.before) leads) one
    front (t ∷ more) fields same ms a one leads =
        no_longer bytes r m it t more [] file y
        (subst (λ (fs : List Spelt). Leads file_shape fs file) (fields ∙ sym (append-nil (it.before ++ t ∷ more))) leads) same

    longer : (more : List Spelt) → it.before ≡ fields_of file ++ more → (ms : List Spelt) (a : HistoryFile)
        → Leads file_shape (it.before ++ record { field = it.refused.field; bytes = it.comes.bytes } ∷ ms) a → Leads file_shape (fields_of file) file → ⊥
    longer [] fields ms a one leads =
        never_more file_shape (fields_of file) ms (record { field = it.refused.field; bytes = it.comes.bytes }) file a leads
        (subst (λ (fs : List Spelt). Leads file_shape (fs ++ record { field = it.refused.field; bytes = it.comes.bytes } ∷ ms) a) (fields ∙ append-nil (fields_of file)) one)
    longer (t ∷ more) fields ms a one leads =
        never_more file_shape (fields_of file) (more ++ record { field = it.refused.field; bytes = it.comes.bytes } ∷ ms) t file a leads
        (subst (λ (fs : List Spelt). Leads file_shape fs a)
        (ap (λ (fs : List Spelt). fs ++ record { field = it.refused.field; bytes = it.comes.bytes } ∷ ms) fields ∙ append_assoc (fields_of file) (t ∷ more) (record { field = it.refused.field; bytes = it.comes.bytes } ∷ ms)) one)

    go : (ms : List Spelt) (a : HistoryFile) → Leads file_shape (it.before ++ record { field = it.refused.field; bytes = it.comes.bytes } ∷ ms) a → Leads file_shape (fields_of file) file
        → Leads file_shape (fields_of file ++ []) file
        → IsFront it.before (fields_of file) (it.refused.bytes ++ it.rest) y ⊎ IsFront (fields_of file) it.before y (it.refused.bytes ++ it.rest) → ⊥
    go ms a one leads all either =
        ⊎_elim
        (λ (f : IsFront it.before (fields_of file) (it.refused.bytes ++ it.rest) y). front f.more f.fields_are f.bytes_are ms a one leads)
        (λ (f : IsFront (fields_of file) it.before y (it.refused.bytes ++ it.rest)). longer f.more f.fields_are ms a one leads)
        either

-- One file at most.

pub one_file : (f g : HistoryFile) (x y : List ℕ) → IsHistoryFile f → IsHistoryFile g → spelling (fields_of f) ++ x ≡ spelling (fields_of g) ++ y → (f ≡ g) × (x ≡ y)
one_file f g x y is_f is_g same =
    let of_f = file_leads f is_f in
    let of_g = file_leads g is_g in
    ⊎_elim (λ (it : IsFront (fields_of f) (fields_of g) x y). front it.more it.fields_are it.bytes_are of_f of_g)
    (λ (it : IsFront (fields_of g) (fields_of f) y x). back it.more it.fields_are it.bytes_are of_f of_g)
    (compare file_shape (fields_of f) (fields_of g) [] [] f g x y
    (subst (λ (fs : List Spelt). Leads file_shape fs f) (sym (append-nil (fields_of f))) of_f)
    (subst (λ (fs : List Spelt). Leads file_shape fs g) (sym (append-nil (fields_of g))) of_g) same)
  where
    front : (more : List Spelt) → fields_of g ≡ fields_of f ++ more → x ≡ spelling more ++ y → Leads file_shape (fields_of f) f → Leads file_shape (fields_of g) g → (f ≡ g) × (x ≡ y)
    front [] fields bytes one other =
        (one_value file_shape (fields_of f) f g one (subst (λ (fs : List Spelt). Leads file_shape fs g) (fields ∙ append-nil (fields_of f)) other), bytes)
    front (t ∷ more) fields bytes one other = absurd (never_more file_shape (fields_of f) more t f g one (subst (λ (fs : List Spelt). Leads file_shape fs g) fields other))

    back : (more : List Spelt) → fields_of f ≡ fields_of g ++ more → y ≡ spelling more ++ x → Leads file_shape (fields_of f) f → Leads file_shape (fields_of g) g → (f ≡ g) × (x ≡ y)
    back [] fields bytes one other =
        (one_value file_shape (fields_of g) f g (subst (λ (fs : List Spelt). Leads file_shape fs f) (fields ∙ append-nil (fields_of g)) one) other, sym bytes)
    back (t ∷ more) fields bytes one other = absurd (never_more file_shape (fields_of g) more t g f other (subst (λ (fs : List Spelt). Leads file_shape fs f) fields one))

pub one_writing : (f g : HistoryFile) (a b x y : List ℕ) → WritesHistory f a → WritesHistory g b → a ++ x ≡ b ++ y → (f ≡ g) × (a ≡ b)
one_writing f g a b x y one other same =
    let parts = one_file f g x y one.is_file other.is_file
    (ap (λ (bytes : List ℕ). bytes ++ x) (sym one.bytes_are) ∙ same ∙ ap (λ (bytes : List ℕ). bytes ++ y) other.bytes_are) in
    (parts.0, one.bytes_are ∙ ap (λ (file : HistoryFile). spelling (fields_of file)) parts.0 ∙ sym other.bytes_are)

-- Two fields that are refused are one.

pub same_refused : (bytes : List ℕ) (r s : HistoryReason) (m n : ℕ) → IsRefusedField bytes r m → IsRefusedField bytes s n → (r ≡ s) × (m ≡ n)
same_refused bytes r s m n one other =
    let comes = leading one.before (record { field = one.refused.field; bytes = one.comes.bytes }) one.comes.begins in
    let goes = leading other.before (record { field = other.refused.field; bytes = other.comes.bytes }) other.comes.begins in
    ⊎_elim
    (λ (it : IsFront one.before other.before (one.refused.bytes ++ one.rest) (other.refused.bytes ++ other.rest)). front one other comes goes it.more it.fields_are it.bytes_are)
    (λ (it : IsFront other.before one.before (other.refused.bytes ++ other.rest) (one.refused.bytes ++ one.rest)).
    let same = front other one goes comes it.more it.fields_are it.bytes_are in
    (sym same.0, sym same.1))
    (compare file_shape one.before other.before (record { field = one.refused.field; bytes = one.comes.bytes } ∷ comes.more) (record { field = other.refused.field; bytes = other.comes.bytes } ∷ goes.more)
    comes.file goes.file (one.refused.bytes ++ one.rest) (other.refused.bytes ++ other.rest) comes.leads goes.leads (sym one.bytes_are ∙ other.bytes_are))
  where
    front : {r s : HistoryReason} {m n : ℕ} (one : IsRefusedField bytes r m) (other : IsRefusedField bytes s n) → Leading one.before (record { field = one.refused.field; bytes = one.comes.bytes })
        → Leading other.before (record { field = other.refused.field; bytes = other.comes.bytes }) → (more : List Spelt) → other.before ≡ one.before ++ more
        → one.refused.bytes ++ one.rest ≡ spelling more ++ (other.refused.bytes ++ other.rest) → (r ≡ s) × (m ≡ n)
    front one other comes goes [] fields same =
        let before : other.before ≡ one.before = fields ∙ append-nil one.before in
        let those : Leads file_shape (one.before ++ record { field = other.refused.field; bytes = other.comes.bytes } ∷ goes.more) goes.file =
        subst (λ (fs : List Spelt). Leads file_shape (fs ++ record { field = other.refused.field; bytes = other.comes.bytes } ∷ goes.more) goes.file) before goes.leads in
        let next = next_same file_shape one.before comes.more goes.more (record { field = one.refused.field; bytes = one.comes.bytes }) (record { field = other.refused.field; bytes = other.comes.bytes }) comes.file goes.file comes.leads those in
        (one.reason_is ∙ ap reason_of next.0 ∙ sym other.reason_is, one.offset_is ∙ ap (λ (fs : List Spelt). length (spelling fs)) (sym before) ∙ sym other.offset_is)
    front {r = r} {m = m} one other comes goes (t ∷ more) fields same =
        absurd
        (no_longer bytes r m one t more (record { field = other.refused.field; bytes = other.comes.bytes } ∷ goes.more) goes.file (other.refused.bytes ++ other.rest)
        (subst (λ (fs : List Spelt). Leads file_shape (fs ++ record { field = other.refused.field; bytes = other.comes.bytes } ∷ goes.more) goes.file) fields goes.leads) same)
