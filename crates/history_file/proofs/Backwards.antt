-- Fields that lead through the shape of files are those of the file to which they lead.
use Rattle.std.proofs.Common.{◌≡◌, ◌≢◌, ◌<◌, ◌≤◌, ℕ, zero, suc, ◌+◌, ◌-◌, ◌^◌, ◌&&◌, Bool, true, false, if◌then◌else◌, List, [], ◌∷◌, ◌++◌, All, length, inl, inr, refl, sym, ap, ap₂, subst, ◌∙◌, append_assoc, append-nil, ne_eqb, eq-eqb, arith}
use Rattle.std.specs.Prelude.{nat_le}
use Rattle.std.specs.List.{flat_map}
use Rattle.std.proofs.lemmas.Bool.{and_parts, cases_eq, eqb-true, leb-true, ltb-true}
use Rattle.omp_model.specs.declared.history.Entry.{Entry}
use Rattle.omp_model.specs.declared.history.What.{What}
use Rattle.omp_model.specs.declared.history.What.TheVariants.{Back, Go, Put}
use Rattle.trace_format.specs.Validity.{IsDetail}
use Rattle.tool_api.specs.Registering.{AreAlways}
use Rattle.history_file.specs.declared.file.HistoryFile.{HistoryFile}
use Rattle.history_file.specs.declared.file.TheConstants.{ENTRY_LIMIT, MAGIC, STEP_LIMIT, TEXT_LIMIT, THREAD_LIMIT, VERSION}
use Rattle.history_file.specs.declared.header.End.{End}
use Rattle.history_file.specs.declared.header.Header.{Header}
use Rattle.history_file.specs.Fields.{Field, Spelt, entry_fields, fields_of, head_fields, magic, number, target_fields}
use Rattle.history_file.specs.Fields.Field.{Magic, Version, Threads, Mask, Steps, Length, Text, Kind, Thread, TargetKind, Identity, Word, Status, Detail, Count}
use Rattle.history_file.specs.Reading.{Shape, and_then, end_shape, entries_shape, entry_shape, file_shape, header_shape, is_identity, is_target_kind, made_entry, made_file, store_shape, target_in}
use Rattle.history_file.specs.Reading.Shape.{Done, Reads, Takes}
use Rattle.history_file.specs.Validity.{IsEntry, IsHistoryFile, IsTarget, IsWhat}
use Rattle.history_file.proofs.Details.{detail_is}
use Rattle.history_file.proofs.Files.{after_entries, after_header, after_text, end_kind, end_rest, kind_of, tail_of, text_spelt, what_is}
use Rattle.history_file.proofs.Leading.{Leads, parts_of}
use Rattle.history_file.proofs.Masks.{are_always}

-- what a shape that reads a number reads, and what comes behind

abbrev IsReads : {A : Type 0} → Shape A → Type 0
IsReads (Done x) = ⊥
IsReads (Reads field width accepts next) = Unit {0}
IsReads (Takes width next) = ⊥

abbrev field_of : {A : Type 0} → Shape A → Field
field_of (Done x) = Text
field_of (Reads field width accepts next) = field
field_of (Takes width next) = Text

abbrev width_of : {A : Type 0} → Shape A → ℕ
width_of (Done x) = 0
width_of (Reads field width accepts next) = width
width_of (Takes width next) = width

abbrev accepts_of : {A : Type 0} → Shape A → ℕ → Bool
accepts_of (Done x) n = false
accepts_of (Reads field width accepts next) n = accepts n
accepts_of (Takes width next) n = false

abbrev after_of : {A : Type 0} → Shape A → ℕ → Shape A
after_of (Done x) n = Done x
after_of (Reads field width accepts next) n = next n
after_of (Takes width next) n = Takes width next

-- the first of the fields is a number
pub record First {A : Type 0} (S : Shape A) (fields : List Spelt) (y : A) : Type 0 where
  pub n : ℕ
  pub rest : List Spelt
  pub fields_are : fields ≡ number (field_of S) (width_of S) n ∷ rest
  pub small : n < 256 ^ width_of S
  pub accepted : accepts_of S n ≡ true
  pub leads : Leads (after_of S n) rest y

first_of : {A : Type 0} (S : Shape A) (fields : List Spelt) (y : A) → IsReads S → Leads S fields y → First S fields y
first_of (Done x) fields y is leads = absurd is
first_of (Takes width next) fields y is leads = absurd is
first_of (Reads field width accepts next) [] y is leads = absurd leads
first_of (Reads field width accepts next) (spelt ∷ rest) y is leads = record {
  n = leads.0;
  rest = rest;
  fields_are = ap (λ (s : Spelt). s ∷ rest) leads.1.spelt_is;
  small = leads.1.small;
  accepted = leads.1.accepted;
  leads = leads.2;
}

done_fields : {A : Type 0} (x : A) (fields : List Spelt) (y : A) → Leads (Done x) fields y → (fields ≡ []) × (x ≡ y)
done_fields x [] y leads = (refl, leads)
done_fields x (spelt ∷ rest) y leads = absurd leads

-- three fields and no more, and six

three_fields : (all x y z : List Spelt) (p q r : Spelt) → all ≡ p ∷ x → x ≡ q ∷ y → y ≡ r ∷ z → z ≡ [] → all ≡ p ∷ q ∷ r ∷ []
three_fields all x y z p q r of_p of_q of_r ends = cc

six_fields : (all a b c d e f : List Spelt) (p q r s t u : Spelt) → all ≡ p ∷ a → a ≡ q ∷ b → b ≡ r ∷ c → c ≡ s ∷ d → d ≡ t ∷ e → e ≡ u ∷ f → f ≡ [] → all ≡ p ∷ q ∷ r ∷ s ∷ t ∷ u ∷ []
six_fields all a b c d e f p q r s t u of_p of_q of_r of_s of_t of_u ends = cc

both_ends : (low high n : ℕ) → (nat_le low n && nat_le n high) ≡ true → (low ≤ n) × (n ≤ high)
both_ends low high n both =
    let parts = and_parts (nat_le low n) (nat_le n high) both in
    (leb-true low n parts.0, leb-true n high parts.1)

-- the fields of a header
abbrev head_of : Header → List Spelt
head_of header =
    record { field = Magic; bytes = magic }
    ∷ number Version 2 VERSION
    ∷ number Threads 1 header.threads
    ∷ number Mask 8 header.mask
    ∷ number Steps 4 header.steps
    ∷ number Length 4 header.text_len
    ∷ []

-- six fields, of which the first two are known
header_known : (all a b c d e f : List Spelt) (m v threads mask steps len : ℕ) → all ≡ number Magic 4 m ∷ a → a ≡ number Version 2 v ∷ b → b ≡ number Threads 1 threads ∷ c
    → c ≡ number Mask 8 mask ∷ d → d ≡ number Steps 4 steps ∷ e → e ≡ number Length 4 len ∷ f → f ≡ [] → m ≡ MAGIC → v ≡ VERSION
    → all ≡ head_of (record { threads = threads; mask = mask; steps = steps; text_len = len })
header_known all a b c d e f m v threads mask steps len of_m of_v of_threads of_mask of_steps of_len ends is_magic is_version =
    six_fields all a b c d e f (number Magic 4 m) (number Version 2 v) (number Threads 1 threads) (number Mask 8 mask) (number Steps 4 steps) (number Length 4 len)
    of_m of_v of_threads of_mask of_steps of_len ends
    ∙ ap₂ (λ (x y : ℕ). number Magic 4 x ∷ number Version 2 y ∷ number Threads 1 threads ∷ number Mask 8 mask ∷ number Steps 4 steps ∷ number Length 4 len ∷ []) is_magic is_version

pub record IsHeader (header : Header) (fields : List Spelt) : Type 0 where
  pub fields_are : fields ≡ head_of header
  pub some : 1 ≤ header.threads
  pub few : header.threads ≤ THREAD_LIMIT
  pub long : header.mask < 2 ^ 64
  pub always : AreAlways header.mask
  pub steps : 1 ≤ header.steps
  pub bounded : header.steps ≤ STEP_LIMIT
  pub text : header.text_len ≤ TEXT_LIMIT

pub header_back : (fields : List Spelt) (header : Header) → Leads header_shape fields header → IsHeader header fields
unfolding header_shape
header_back fields header leads =
    let a = first_of header_shape fields header tt leads in
    let b = first_of (after_of header_shape a.n) a.rest header tt a.leads in
    let c = first_of (after_of (after_of header_shape a.n) b.n) b.rest header tt b.leads in
    let d = first_of (after_of (after_of (after_of header_shape a.n) b.n) c.n) c.rest header tt c.leads in
    let e = first_of (after_of (after_of (after_of (after_of header_shape a.n) b.n) c.n) d.n) d.rest header tt d.leads in
    let f = first_of (after_of (after_of (after_of (after_of (after_of header_shape a.n) b.n) c.n) d.n) e.n) e.rest header tt e.leads in
    let made : Header = record { threads = c.n; mask = d.n; steps = e.n; text_len = f.n } in
    let last = done_fields made f.rest header f.leads in
    let threads = both_ends 1 THREAD_LIMIT c.n c.accepted in
    let steps = both_ends 1 STEP_LIMIT e.n e.accepted in
    let mask : d.n < 2 ^ 64 = omega (arith, d.small) in
    let all : fields ≡ head_of made =
    header_known fields a.rest b.rest c.rest d.rest e.rest f.rest a.n b.n c.n d.n e.n f.n
    a.fields_are b.fields_are c.fields_are d.fields_are e.fields_are f.fields_are last.0 (eqb-true a.n MAGIC a.accepted) (eqb-true b.n VERSION b.accepted) in
    subst (λ (it : Header). IsHeader it fields) last.1
    (record { fields_are = all; some = threads.0; few = threads.1; long = mask; always = are_always d.n mask d.accepted; steps = steps.0; bounded = steps.1; text = leb-true f.n TEXT_LIMIT f.accepted })

-- the fields of a target
target_back : (threads kind n : ℕ) → is_target_kind kind ≡ true → is_identity threads kind n ≡ true → n < 2 ^ 32 →
    (target_fields (target_in kind n) ≡ number TargetKind 1 kind ∷ number Identity 4 n ∷ []) × IsTarget threads (target_in kind n)
target_back threads zero n is_target is small = absurd cc
target_back threads (suc zero) n is_target is small =
    let parts = and_parts (nat_le 1 n) (nat_le n threads) is in
    let some = leb-true 1 n parts.0 in
    let few = leb-true n threads parts.1 in
    let back : (n - 1) + 1 ≡ n = omega arith in
    (ap (λ (m : ℕ). number TargetKind 1 1 ∷ number Identity 4 m ∷ []) back, omega arith)
target_back threads (suc (suc zero)) n is_target is small = (refl, (leb-true 1 n (and_parts (nat_le 1 n) true is).0, small))
target_back threads (suc (suc (suc zero))) n is_target is small = (refl, (leb-true 1 n (and_parts (nat_le 1 n) true is).0, small))
target_back threads (suc (suc (suc (suc kind)))) n is_target is small = absurd (omega (arith, both_ends 1 3 (suc (suc (suc (suc kind)))) is_target))

-- the fields of an entry behind its kind
pub record IsBack (threads kind : ℕ) (fields : List Spelt) (entry : Entry) : Type 0 where
  pub kind_is : kind ≡ kind_of entry.what
  pub fields_are : fields ≡ tail_of entry.thread entry.what
  pub is : IsEntry threads entry

store_back : (threads thread : ℕ) (fields : List Spelt) (entry : Entry) → thread < threads → Leads (store_shape threads thread) fields entry → IsBack threads 2 (number Thread 1 thread ∷ fields) entry
unfolding store_shape
store_back threads thread fields entry less leads =
    let a = first_of (store_shape threads thread) fields entry tt leads in
    let b = first_of (after_of (store_shape threads thread) a.n) a.rest entry tt a.leads in
    let c = first_of (after_of (after_of (store_shape threads thread) a.n) b.n) b.rest entry tt b.leads in
    let last = done_fields (made_entry thread (Put (target_in a.n b.n) c.n)) c.rest entry c.leads in
    let those = target_back threads a.n b.n a.accepted b.accepted (omega (arith, b.small)) in
    let of_a = three_fields fields a.rest b.rest c.rest (number TargetKind 1 a.n) (number Identity 4 b.n) (number Word 8 c.n) a.fields_are b.fields_are c.fields_are last.0 in
    let all : fields ≡ target_fields (target_in a.n b.n) ++ number Word 8 c.n ∷ [] = of_a ∙ ap (λ (fs : List Spelt). fs ++ number Word 8 c.n ∷ []) (sym those.0) in
    subst (λ (it : Entry). IsBack threads 2 (number Thread 1 thread ∷ fields) it) last.1
    (record { kind_is = refl; fields_are = ap (λ (fs : List Spelt). number Thread 1 thread ∷ fs) all; is = (less, (those.1, omega (arith, c.small))) })

plain_back : (threads kind thread : ℕ) (what : What) (fields : List Spelt) (entry : Entry) → thread < threads → kind ≡ kind_of what → tail_of thread what ≡ number Thread 1 thread ∷ [] → IsWhat threads what
    → Leads (Done (made_entry thread what)) fields entry → IsBack threads kind (number Thread 1 thread ∷ fields) entry
plain_back threads kind thread what fields entry less is tail of_what leads =
    let last = done_fields (made_entry thread what) fields entry leads in
    subst (λ (it : Entry). IsBack threads kind (number Thread 1 thread ∷ fields) it) last.1
    (record { kind_is = is; fields_are = ap (λ (fs : List Spelt). number Thread 1 thread ∷ fs) last.0 ∙ sym tail; is = (less, of_what) })

entry_back : (threads kind : ℕ) (fields : List Spelt) (entry : Entry) → kind ≢ 0 → kind ≤ 3 → Leads (entry_shape threads kind) fields entry → IsBack threads kind fields entry
unfolding entry_shape
entry_back threads zero fields entry some few leads = absurd (some refl)
entry_back threads (suc zero) fields entry some few leads =
    let a = first_of (entry_shape threads 1) fields entry tt leads in
    subst (λ (fs : List Spelt). IsBack threads 1 fs entry) (sym a.fields_are) (plain_back threads 1 a.n Go a.rest entry (ltb-true a.n threads a.accepted) refl refl tt a.leads)
entry_back threads (suc (suc zero)) fields entry some few leads =
    let a = first_of (entry_shape threads 2) fields entry tt leads in
    subst (λ (fs : List Spelt). IsBack threads 2 fs entry) (sym a.fields_are) (store_back threads a.n a.rest entry (ltb-true a.n threads a.accepted) a.leads)
entry_back threads (suc (suc (suc zero))) fields entry some few leads =
    let a = first_of (entry_shape threads 3) fields entry tt leads in
    subst (λ (fs : List Spelt). IsBack threads 3 fs entry) (sym a.fields_are) (plain_back threads 3 a.n Back a.rest entry (ltb-true a.n threads a.accepted) refl refl tt a.leads)
entry_back threads (suc (suc (suc (suc kind)))) fields entry some few leads = absurd (omega arith)

-- the fields of entries, and of the kind of the end
pub record AreBack (threads limit : ℕ) (fields : List Spelt) (entries : List Entry) : Type 0 where
  pub fields_are : fields ≡ flat_map entry_fields entries ++ end_kind ∷ []
  pub short : length entries ≤ limit
  pub each : All (IsEntry threads) entries

none_back : (threads limit n : ℕ) (rest fields : List Spelt) (entries : List Entry) → n ≡ 0 → fields ≡ number Kind 1 n ∷ rest → Leads (Done []) rest entries → AreBack threads limit fields entries
none_back threads limit n rest fields entries none all leads =
    let last = done_fields [] rest entries leads in
    subst (λ (it : List Entry). AreBack threads limit fields it) last.1
    (record { fields_are = all ∙ ap₂ (λ (k : ℕ) (fs : List Spelt). number Kind 1 k ∷ fs) none last.0; short = omega arith; each = λ k d less. absurd (omega arith) })

pub each_more : (threads : ℕ) (e : Entry) (es : List Entry) → IsEntry threads e → All (IsEntry threads) es → All (IsEntry threads) (e ∷ es)
each_more threads e es is are zero d less = is
each_more threads e es is are (suc k) d less = are k d (omega arith)

pub entries_back : (threads limit : ℕ) (fields : List Spelt) (entries : List Entry) → Leads (entries_shape threads limit) fields entries → AreBack threads limit fields entries
unfolding entries_shape
entries_back threads zero fields entries leads =
    let a = first_of (entries_shape threads 0) fields entries tt leads in
    none_back threads 0 a.n a.rest fields entries (eqb-true a.n 0 a.accepted) a.fields_are a.leads
entries_back threads (suc limit) fields entries leads =
    let a = first_of (entries_shape threads (suc limit)) fields entries tt leads in
    elim (cases_eq a.n 0) [
      | inl none ↦
          none_back threads (suc limit) a.n a.rest fields entries none a.fields_are
          (subst (λ (b : Bool). Leads (if b then Done [] else and_then (entry_shape threads a.n) (λ (e : Entry). and_then (entries_shape threads limit) (λ (es : List Entry). Done (e ∷ es)))) a.rest entries) (eq-eqb a.n 0 none) a.leads)
      | inr some ↦
          let behind = subst (λ (b : Bool). Leads (if b then Done [] else and_then (entry_shape threads a.n) (λ (e : Entry). and_then (entries_shape threads limit) (λ (es : List Entry). Done (e ∷ es)))) a.rest entries) (ne_eqb a.n 0 some) a.leads in
          let one = parts_of (entry_shape threads a.n) (λ (e : Entry). and_then (entries_shape threads limit) (λ (es : List Entry). Done (e ∷ es))) a.rest entries behind in
          let entry = entry_back threads a.n one.front one.value some (leb-true a.n 3 a.accepted) one.first in
          let two = parts_of (entries_shape threads limit) (λ (es : List Entry). Done (one.value ∷ es)) one.rest entries one.second in
          let later = entries_back threads limit two.front two.value two.first in
          let last = done_fields (one.value ∷ two.value) two.rest entries two.second in
          let rest : List Spelt = flat_map entry_fields two.value ++ end_kind ∷ [] in
          let of_two : one.rest ≡ rest = two.fields_are ∙ ap₂ (λ (fs gs : List Spelt). fs ++ gs) later.fields_are last.0 ∙ append-nil rest in
          let of_one : a.rest ≡ tail_of one.value.thread one.value.what ++ rest = one.fields_are ∙ ap₂ (λ (fs gs : List Spelt). fs ++ gs) entry.fields_are of_two in
          let of_kind : fields ≡ number Kind 1 (kind_of one.value.what) ∷ (tail_of one.value.thread one.value.what ++ rest) =
          a.fields_are ∙ ap₂ (λ (k : ℕ) (fs : List Spelt). number Kind 1 k ∷ fs) entry.kind_is of_one in
          let all : fields ≡ flat_map entry_fields (one.value ∷ two.value) ++ end_kind ∷ [] =
          of_kind ∙ sym (ap (λ (fs : List Spelt). number Kind 1 (kind_of one.value.what) ∷ fs) (append_assoc (tail_of one.value.thread one.value.what) (flat_map entry_fields two.value) (end_kind ∷ [])))
          ∙ sym (ap (λ (fs : List Spelt). (fs ++ flat_map entry_fields two.value) ++ end_kind ∷ []) (what_is one.value.thread one.value.what)) in
          subst (λ (it : List Entry). AreBack threads (suc limit) fields it) last.1
          (record { fields_are = all; short = omega (arith, later.short); each = each_more threads one.value two.value entry.is later.each })
    ]

-- the fields behind the kind of the end
pub record IsEnd (count : ℕ) (fields : List Spelt) (end : End) : Type 0 where
  pub fields_are : fields ≡ end_rest end.status end.detail count
  pub is : IsDetail end.status end.detail

pub end_back : (count : ℕ) (fields : List Spelt) (end : End) → Leads (end_shape count) fields end → IsEnd count fields end
unfolding end_shape
end_back count fields end leads =
    let a = first_of (end_shape count) fields end tt leads in
    let b = first_of (after_of (end_shape count) a.n) a.rest end tt a.leads in
    let c = first_of (after_of (after_of (end_shape count) a.n) b.n) b.rest end tt b.leads in
    let last = done_fields (record { status = a.n; detail = b.n }) c.rest end c.leads in
    let read = three_fields fields a.rest b.rest c.rest (number Status 1 a.n) (number Detail 4 b.n) (number Count 4 c.n) a.fields_are b.fields_are c.fields_are last.0 in
    let all : fields ≡ end_rest a.n b.n count = read ∙ ap (λ (n : ℕ). end_rest a.n b.n n) (eqb-true c.n count c.accepted) in
    subst (λ (it : End). IsEnd count fields it) last.1
    (record { fields_are = all; is = detail_is a.n b.n a.accepted (omega (arith, b.small)) b.accepted })

-- the fields of a file
pub record IsOf (fields : List Spelt) (file : HistoryFile) : Type 0 where
  pub is : IsHistoryFile file
  pub fields_are : fields ≡ fields_of file

-- the first of the fields is a text
pub record FirstText {A : Type 0} (width : ℕ) (next : List ℕ → Shape A) (fields : List Spelt) (y : A) : Type 0 where
  pub text : List ℕ
  pub rest : List Spelt
  pub fields_are : fields ≡ text_spelt text ∷ rest
  pub long : length text ≡ width
  pub leads : Leads (next text) rest y

first_text : {A : Type 0} (width : ℕ) (next : List ℕ → Shape A) (fields : List Spelt) (y : A) → Leads (Takes width next) fields y → FirstText width next fields y
first_text width next [] y leads = absurd leads
first_text width next (spelt ∷ rest) y leads = record {
  text = spelt.bytes;
  rest = rest;
  fields_are = ap (λ (field : Field). record { field = field; bytes = spelt.bytes } ∷ rest) leads.0.field_is;
  long = leads.0.width_is;
  leads = leads.1;
}

pub file_back : (fields : List Spelt) (file : HistoryFile) → Leads file_shape fields file → IsOf fields file
unfolding file_shape
file_back fields file leads =
    let one = parts_of header_shape after_header fields file leads in
    let header = header_back one.front one.value one.first in
    let text = first_text one.value.text_len (after_text one.value) one.rest file one.second in
    let two = parts_of (entries_shape one.value.threads ENTRY_LIMIT) (after_entries one.value text.text) text.rest file text.leads in
    let entries = entries_back one.value.threads ENTRY_LIMIT two.front two.value two.first in
    let three = parts_of (end_shape (length two.value)) (λ (end : End). Done (made_file one.value text.text two.value end)) two.rest file two.second in
    let end = end_back (length two.value) three.front three.value three.first in
    let made : HistoryFile = made_file one.value text.text two.value three.value in
    let last = done_fields made three.rest file three.second in
    let of_end : two.rest ≡ end_rest three.value.status three.value.detail (length two.value) =
    three.fields_are ∙ ap₂ (λ (fs gs : List Spelt). fs ++ gs) end.fields_are last.0 in
    let of_entries : text.rest ≡ flat_map entry_fields two.value ++ (end_kind ∷ end_rest three.value.status three.value.detail (length two.value)) =
    two.fields_are ∙ ap₂ (λ (fs gs : List Spelt). fs ++ gs) entries.fields_are of_end
    ∙ append_assoc (flat_map entry_fields two.value) (end_kind ∷ []) (end_rest three.value.status three.value.detail (length two.value)) in
    let of_text : one.rest ≡ text_spelt text.text ∷ (flat_map entry_fields two.value ++ (end_kind ∷ end_rest three.value.status three.value.detail (length two.value))) =
    text.fields_are ∙ ap (λ (fs : List Spelt). text_spelt text.text ∷ fs) of_entries in
    let lengths : head_of one.value ≡ head_fields made = ap (λ (n : ℕ). head_of (record { threads = one.value.threads; mask = one.value.mask; steps = one.value.steps; text_len = n })) (sym text.long) in
    let all : fields ≡ fields_of made = one.fields_are ∙ ap₂ (λ (fs gs : List Spelt). fs ++ gs) (header.fields_are ∙ lengths) of_text in
    let is : IsHistoryFile made = record {
      some = header.some;
      few = header.few;
      long = header.long;
      always = header.always;
      steps = header.steps;
      bounded = header.bounded;
      text = omega (arith, text.long, header.text);
      entries = entries.each;
      few_entries = entries.short;
      end = end.is;
    } in
    subst (λ (it : HistoryFile). IsOf fields it) last.1 (record { is = is; fields_are = all })
