-- The fields of each file lead through the shape of files to it.
use Rattle.std.proofs.Common.{◌≡◌, ◌≢◌, ◌<◌, ◌≤◌, ℕ, zero, suc, ◌+◌, ◌-◌, ◌^◌, ◌==◌, not, Bool, true, if◌then◌else◌, List, [], ◌∷◌, ◌++◌, All, length, refl, sym, ap, subst, ◌∙◌, append_assoc, append-nil, ne_eqb, eq-eqb, ◌&&◌, ◌||◌, arith}
use Rattle.std.specs.Prelude.{nat_le}
use Rattle.std.specs.List.{flat_map}
use Rattle.std.proofs.lemmas.Bool.{and_from, le-leb, lt-ltb}
use Rattle.ompt_calls.specs.declared.snapshot.Target.{Target}
use Rattle.ompt_calls.specs.declared.snapshot.Target.TheVariants as target
use Rattle.omp_model.specs.declared.history.Entry.{Entry}
use Rattle.omp_model.specs.declared.history.What.{What}
use Rattle.omp_model.specs.declared.history.What.TheVariants.{Back, Go, Put}
use Rattle.trace_format.specs.Accepting.{accepts_detail}
use Rattle.trace_format.specs.Validity.{IsDetail}
use Rattle.history_file.specs.declared.file.HistoryFile.{HistoryFile}
use Rattle.history_file.specs.declared.file.TheConstants.{ENTRY_LIMIT, MAGIC, STEP_LIMIT, TEXT_LIMIT, THREAD_LIMIT, VERSION}
use Rattle.history_file.specs.declared.header.End.{End}
use Rattle.history_file.specs.declared.header.Header.{Header}
use Rattle.history_file.specs.Fields.{Field, Spelt, entry_fields, fields_of, head_fields, number, target_fields, what_fields}
use Rattle.history_file.specs.Fields.Field.{Magic, Version, Threads, Mask, Steps, Length, Text, Kind, Thread, TargetKind, Identity, Word, Status, Detail, Count}
use Rattle.history_file.specs.Reading.{Shape, and_then, end_shape, entries_from, entries_shape, entry_shape, file_shape, header_shape, is_identity, is_kind, is_mask, is_status, is_step_count, is_target_kind, is_text_length, is_thread, is_thread_count, made_entry, made_file, store_shape}
use Rattle.history_file.specs.Reading.Shape.{Done, Takes}
use Rattle.history_file.specs.Validity.{IsEntry, IsHistoryFile, IsTarget, IsWhat}
use Rattle.history_file.proofs.Details.{detail_accepted, status_small}
use Rattle.history_file.proofs.Leading.{IsNumber, Leads, leads_then}
use Rattle.history_file.proofs.Masks.{is_mask_of}

-- a number that stands at a field
pub stands : (field : Field) (width : ℕ) (accepts : ℕ → Bool) (n : ℕ) → n < 256 ^ width → accepts n ≡ true → IsNumber field width accepts (number field width n) n
stands field width accepts n small accepted = record { spelt_is = refl; small = small; accepted = accepted }

-- what is read of a file's header
abbrev pub header_in : HistoryFile → Header
header_in file = record { threads = file.threads; mask = file.mask; steps = file.steps; text_len = length file.text }

pub between : (low high n : ℕ) → low ≤ n → n ≤ high → (nat_le low n && nat_le n high) ≡ true
between low high n above below = and_from (nat_le low n) (nat_le n high) (le-leb low n above) (le-leb n high below)

header_leads : (file : HistoryFile) → IsHistoryFile file → Leads header_shape (head_fields file) (header_in file)
unfolding header_shape
header_leads file is =
    let few : file.threads < 256 ^ 1 = omega (arith, is.few) in
    let steps : file.steps < 256 ^ 4 = omega (arith, is.bounded) in
    let text : length file.text < 256 ^ 4 = omega (arith, is.text) in
    let mask : file.mask < 256 ^ 8 = omega (arith, is.long) in (
      MAGIC,
      stands Magic 4 (λ n. n == MAGIC) MAGIC (omega arith) refl,
      (
        VERSION,
        stands Version 2 (λ n. n == VERSION) VERSION (omega arith) refl,
        (
          file.threads,
          stands Threads 1 is_thread_count file.threads few (between 1 THREAD_LIMIT file.threads is.some is.few),
          (
            file.mask,
            stands Mask 8 is_mask file.mask mask (is_mask_of file.mask is.always),
            (
              file.steps,
              stands Steps 4 is_step_count file.steps steps (between 1 STEP_LIMIT file.steps is.steps is.bounded),
              (length file.text, stands Length 4 is_text_length (length file.text) text (le-leb (length file.text) TEXT_LIMIT is.text), refl),
            ),
          ),
        ),
      ),
    )

-- the number of an entry's kind, and what stands behind it
abbrev pub kind_of : What → ℕ
kind_of Go = 1
kind_of (Put place word) = 2
kind_of Back = 3

abbrev pub tail_of : ℕ → What → List Spelt
tail_of thread Go = number Thread 1 thread ∷ []
tail_of thread (Put place word) = number Thread 1 thread ∷ (target_fields place ++ number Word 8 word ∷ [])
tail_of thread Back = number Thread 1 thread ∷ []

pub what_is : (thread : ℕ) (what : What) → what_fields thread what ≡ number Kind 1 (kind_of what) ∷ tail_of thread what
what_is thread Go = refl
what_is thread (Put place word) = refl
what_is thread Back = refl

kind_small : (what : What) → kind_of what < 256 ^ 1
kind_small Go = omega arith
kind_small (Put place word) = omega arith
kind_small Back = omega arith

kind_some : (what : What) → kind_of what ≢ 0
kind_some Go = λ none. omega arith
kind_some (Put place word) = λ none. omega arith
kind_some Back = λ none. omega arith

kind_stands : (more : ℕ) (what : What) → is_kind (suc more) (kind_of what) ≡ true
kind_stands more Go = refl
kind_stands more (Put place word) = refl
kind_stands more Back = refl

-- an identity that counts from 1, and is no thread's or that of a thread of the run
identity_stands : (threads kind n : ℕ) → 1 ≤ n → kind ≢ 1 → is_identity threads kind n ≡ true
identity_stands threads kind n some other = and_from (nat_le 1 n) _ (le-leb 1 n some) (ap (λ (b : Bool). not b || nat_le n threads) (ne_eqb kind 1 other))

store_leads : (threads thread : ℕ) (place : Target) (word : ℕ) → threads ≤ THREAD_LIMIT → IsTarget threads place → word < 2 ^ 64
    → Leads (store_shape threads thread) (target_fields place ++ number Word 8 word ∷ []) (made_entry thread (Put place word))
unfolding store_shape
store_leads threads thread (target.Thread t) word few is small =
    let back : (t + 1) - 1 ≡ t = omega arith in
    let accepted : is_identity threads 1 (t + 1) ≡ true = and_from (nat_le 1 (t + 1)) (nat_le (t + 1) threads) (le-leb 1 (t + 1) (omega arith)) (le-leb (t + 1) threads (omega (arith, is))) in (
      1,
      stands TargetKind 1 is_target_kind 1 (omega arith) refl,
      (
        t + 1,
        stands Identity 4 (is_identity threads 1) (t + 1) (omega (arith, is, few)) accepted,
        (word, stands Word 8 (λ _. true) word (omega (arith, small)) refl, ap (λ (n : ℕ). made_entry thread (Put (target.Thread n) word)) back),
      ),
    )
store_leads threads thread (target.Parallel r) word few is small = (
  2,
  stands TargetKind 1 is_target_kind 2 (omega arith) refl,
  (
    r,
    stands Identity 4 (is_identity threads 2) r (omega (arith, is.1)) (identity_stands threads 2 r is.0 (λ same. omega arith)),
    (word, stands Word 8 (λ _. true) word (omega (arith, small)) refl, refl),
  ),
)
store_leads threads thread (target.Task r) word few is small = (
  3,
  stands TargetKind 1 is_target_kind 3 (omega arith) refl,
  (
    r,
    stands Identity 4 (is_identity threads 3) r (omega (arith, is.1)) (identity_stands threads 3 r is.0 (λ same. omega arith)),
    (word, stands Word 8 (λ _. true) word (omega (arith, small)) refl, refl),
  ),
)

entry_leads : (threads thread : ℕ) (what : What) → threads ≤ THREAD_LIMIT → thread < threads → IsWhat threads what → Leads (entry_shape threads (kind_of what)) (tail_of thread what) (made_entry thread what)
unfolding entry_shape
entry_leads threads thread Go few less is = (thread, stands Thread 1 (is_thread threads) thread (omega (arith, few, less)) (lt-ltb thread threads less), refl)
entry_leads threads thread (Put place word) few less is =
    (thread, stands Thread 1 (is_thread threads) thread (omega (arith, few, less)) (lt-ltb thread threads less), store_leads threads thread place word few is.0 is.1)
entry_leads threads thread Back few less is = (thread, stands Thread 1 (is_thread threads) thread (omega (arith, few, less)) (lt-ltb thread threads less), refl)

-- an entry and those behind it
from_leads : (threads kind : ℕ) (later : Shape (List Entry)) (fields rest : List Spelt) (entry : Entry) (entries : List Entry) → kind ≢ 0 → Leads (entry_shape threads kind) fields entry → Leads later rest entries
    → Leads (entries_from threads later kind) (fields ++ rest) (entry ∷ entries)
from_leads threads kind later fields rest entry entries some first second =
    let more : Leads (and_then later (λ (es : List Entry). Done (entry ∷ es))) rest (entry ∷ entries) =
    subst (λ (all : List Spelt). Leads (and_then later (λ (es : List Entry). Done (entry ∷ es))) all (entry ∷ entries)) (append-nil rest)
    (leads_then later (λ (es : List Entry). Done (entry ∷ es)) rest [] entries (entry ∷ entries) second refl) in
    let both = leads_then (entry_shape threads kind) (λ (e : Entry). and_then later (λ (es : List Entry). Done (e ∷ es))) fields rest entry (entry ∷ entries) first more in
    subst
    (λ (b : Bool). Leads (if b then Done [] else and_then (entry_shape threads kind) (λ (e : Entry). and_then later (λ (es : List Entry). Done (e ∷ es)))) (fields ++ rest) (entry ∷ entries))
    (sym (ne_eqb kind 0 some)) both

-- the kind of the end
abbrev pub end_kind : Spelt
end_kind = number Kind 1 0

entries_lead : (threads limit : ℕ) (entries : List Entry) → threads ≤ THREAD_LIMIT → length entries ≤ limit → All (IsEntry threads) entries
    → Leads (entries_shape threads limit) (flat_map entry_fields entries ++ end_kind ∷ []) entries
unfolding entries_shape
entries_lead threads zero [] few short are = (0, stands Kind 1 (is_kind 0) 0 (omega arith) refl, refl)
entries_lead threads (suc limit) [] few short are = (0, stands Kind 1 (is_kind (suc limit)) 0 (omega arith) refl, refl)
entries_lead threads zero (e ∷ es) few short are = absurd (omega arith)
entries_lead threads (suc limit) (e ∷ es) few short are =
    let is : IsEntry threads e = are 0 e (omega arith) in
    let rest : List Spelt = flat_map entry_fields es ++ end_kind ∷ [] in
    let later = entries_lead threads limit es few (omega arith) (λ k d less. are (suc k) d (omega arith)) in
    let all : flat_map entry_fields (e ∷ es) ++ end_kind ∷ [] ≡ number Kind 1 (kind_of e.what) ∷ (tail_of e.thread e.what ++ rest) =
    ap (λ (fs : List Spelt). (fs ++ flat_map entry_fields es) ++ end_kind ∷ []) (what_is e.thread e.what)
    ∙ ap (λ (fs : List Spelt). number Kind 1 (kind_of e.what) ∷ fs) (append_assoc (tail_of e.thread e.what) (flat_map entry_fields es) (end_kind ∷ [])) in
    subst (λ (fs : List Spelt). Leads (entries_shape threads (suc limit)) fs (e ∷ es)) (sym all) (
      kind_of e.what,
      stands Kind 1 (is_kind (suc limit)) (kind_of e.what) (kind_small e.what) (kind_stands limit e.what),
      from_leads threads (kind_of e.what) (entries_shape threads limit) (tail_of e.thread e.what) rest e es (kind_some e.what) (entry_leads threads e.thread e.what few is.0 is.1) later,
    )

end_leads : (count status detail : ℕ) → IsDetail status detail → count < 2 ^ 32
    → Leads (end_shape count) (number Status 1 status ∷ number Detail 4 detail ∷ number Count 4 count ∷ []) (record { status = status; detail = detail })
unfolding end_shape
end_leads count status detail is few = (
  status,
  stands Status 1 is_status status (omega (arith, status_small status detail is)) is.status_is,
  (
    detail,
    stands Detail 4 (accepts_detail status) detail (omega (arith, is.short)) (detail_accepted status detail is),
    (count, stands Count 4 (λ n. n == count) count (omega (arith, few)) (eq-eqb count count refl), refl),
  ),
)

-- the parts of the shape of files
abbrev pub after_entries : Header → List ℕ → List Entry → Shape HistoryFile
after_entries header text entries = and_then (end_shape (length entries)) (λ end. Done (made_file header text entries end))

abbrev pub after_text : Header → List ℕ → Shape HistoryFile
after_text header text = and_then (entries_shape header.threads ENTRY_LIMIT) (after_entries header text)

abbrev pub after_header : Header → Shape HistoryFile
after_header header = Takes header.text_len (after_text header)

abbrev pub text_spelt : List ℕ → Spelt
text_spelt text = record { field = Text; bytes = text }

-- what stands behind the kind of the end
abbrev pub end_rest : ℕ → ℕ → ℕ → List Spelt
end_rest status detail count = number Status 1 status ∷ number Detail 4 detail ∷ number Count 4 count ∷ []

pub file_leads : (file : HistoryFile) → IsHistoryFile file → Leads file_shape (fields_of file) file
unfolding file_shape
file_leads file is =
    let header = header_in file in
    let entries : List Spelt = flat_map entry_fields file.history in
    let rest : List Spelt = end_rest file.status file.detail (length file.history) in
    let end : End = record { status = file.status; detail = file.detail } in
    let last : Leads (after_entries header file.text file.history) rest file =
    leads_then (end_shape (length file.history)) (λ (it : End). Done (made_file header file.text file.history it)) rest [] end file
    (end_leads (length file.history) file.status file.detail is.end (omega (arith, is.few_entries))) refl in
    let third : Leads (after_text header file.text) ((entries ++ end_kind ∷ []) ++ rest) file =
    leads_then (entries_shape file.threads ENTRY_LIMIT) (after_entries header file.text) (entries ++ end_kind ∷ []) rest file.history file
    (entries_lead file.threads ENTRY_LIMIT file.history is.few is.few_entries is.entries) last in
    let second : Leads (after_header header) (text_spelt file.text ∷ ((entries ++ end_kind ∷ []) ++ rest)) file = (record { field_is = refl; width_is = refl }, third) in
    let first : Leads file_shape (head_fields file ++ text_spelt file.text ∷ ((entries ++ end_kind ∷ []) ++ rest)) file =
    leads_then header_shape after_header (head_fields file) (text_spelt file.text ∷ ((entries ++ end_kind ∷ []) ++ rest)) header file (header_leads file is) second in
    subst (λ (fields : List Spelt). Leads file_shape fields file)
    (ap (λ (fields : List Spelt). head_fields file ++ text_spelt file.text ∷ fields) (append_assoc entries (end_kind ∷ []) rest)) first
