-- How a file is read from left to right, with the first field that is wrong. This serves the proofs: which bytes are files is said in Validity, and which
-- are refused in Refusing.
use Rattle.std.specs.Prelude.{ℕ, ◌≡◌, zero, suc, ◌-◌, ◌==◌, ◌&&◌, ◌||◌, not, nat_le, nat_lt, if◌then◌else◌, Bool, true, List, [], ◌∷◌, length, take, drop, Result, Ok, Err}
use Rattle.byteorder.specs.Endian.{big_number}
use Rattle.ompt_calls.specs.Number.{is_registered}
use Rattle.ompt_calls.specs.declared.snapshot.Target.{Target}
use Rattle.ompt_calls.specs.declared.snapshot.Target.TheVariants as target
use Rattle.omp_codes.specs.Answers.{answer_of}
use Rattle.omp_codes.specs.declared.set_results.TheConstants.{ALWAYS}
use Rattle.omp_model.specs.declared.history.Entry.{Entry}
use Rattle.omp_model.specs.declared.history.What.{What}
use Rattle.omp_model.specs.declared.history.What.TheVariants.{Back, Go, Put}
use Rattle.trace_format.specs.Accepting.{accepts_detail}
use Rattle.trace_format.specs.Validity.{is_among}
use Rattle.history_file.specs.declared.file.HistoryFile.{HistoryFile}
use Rattle.history_file.specs.declared.file.TheConstants.{ENTRY_LIMIT, HISTORY_LIMIT, MAGIC, STEP_LIMIT, TEXT_LIMIT, THREAD_LIMIT, VERSION}
use Rattle.history_file.specs.declared.header.Header.{Header}
use Rattle.history_file.specs.declared.header.End.{End}
use Rattle.history_file.specs.declared.reason.HistoryFault.{HistoryFault}
use Rattle.history_file.specs.declared.reason.HistoryFault.TheVariants as fault
use Rattle.history_file.specs.declared.reason.HistoryReason.{HistoryReason}
use Rattle.history_file.specs.declared.reason.HistoryReason.TheVariants as reason
use Rattle.history_file.specs.Fields.{Field}
use Rattle.history_file.specs.Fields.Field.{Magic, Version, Threads, Mask, Steps, Length, Kind, Thread, TargetKind, Identity, Word, Status, Detail, Count}
use Rattle.history_file.specs.Refusing.{reason_of}

-- why bytes are refused, and where
pub record Refusal : Type 0 where
  pub reason : HistoryReason
  pub offset : ℕ

infixl 10 ◌>>=◌
abbrev pub ◌>>=◌ : {A B : Type 0} → Result A Refusal → (A → Result B Refusal) → Result B Refusal
(Ok x) >>= f = f x
(Err e) >>= f = Err e

-- what a function answered is what reading gives, unless no memory was left
abbrev pub Fails : {Y : Type 0} → HistoryFault → Result Y Refusal → Type 0
Fails fault.Memory read = Unit {0}
Fails (fault.Refused reason offset) read = read ≡ Err (record { reason = reason; offset = offset })

abbrev pub Gives : {X Y : Type 0} → (X → Y) → Result X HistoryFault → Result Y Refusal → Type 0
Gives view (Ok x) read = read ≡ Ok (view x)
Gives view (Err e) read = Fails e read

-- a number of so many bytes at the front of all that is left of so many bytes
abbrev pub plain_at : ℕ → ℕ → List ℕ → Result (ℕ × List ℕ) Refusal
plain_at total width bytes =
    if nat_lt (length bytes) width then Err (record { reason = reason.Truncated; offset = total }) else Ok (big_number width bytes, drop width bytes)

-- so many bytes at the front
abbrev pub text_at : ℕ → ℕ → List ℕ → Result (List ℕ × List ℕ) Refusal
text_at total width bytes =
    if nat_lt (length bytes) width then Err (record { reason = reason.Truncated; offset = total }) else Ok (take width bytes, drop width bytes)

-- what was read is let pass, or refused at its first byte
abbrev pub passed : Bool → HistoryReason → ℕ → Result (Unit {0}) Refusal
passed accepted reason offset = if accepted then Ok tt else Err (record { reason = reason; offset = offset })

-- a field that is a number of so many bytes, and may have these values
abbrev pub field_at : ℕ → Field → ℕ → (ℕ → Bool) → List ℕ → Result (ℕ × List ℕ) Refusal
field_at total field width accepts bytes =
    plain_at total width bytes >>= λ x. (passed (accepts x.0) (reason_of field) (total - length bytes) >>= λ _. Ok x)

-- What is read, field by field: it is done, or a number comes next, or a text of so many bytes.
pub data Shape (A : Type 0) : Type 0 where
  Done : A → Shape A
  Reads : Field → ℕ → (ℕ → Bool) → (ℕ → Shape A) → Shape A
  Takes : ℕ → (List ℕ → Shape A) → Shape A

-- one shape behind another
abbrev pub and_then : {A B : Type 0} → Shape A → (A → Shape B) → Shape B
and_then (Done x) more = more x
and_then (Reads field width accepts next) more = Reads field width accepts (λ n. and_then (next n) more)
and_then (Takes width next) more = Takes width (λ text. and_then (next text) more)

-- what the shape reads at the front of bytes, and what is left of them
abbrev pub run : {A : Type 0} → Shape A → ℕ → List ℕ → Result (A × List ℕ) Refusal
run (Done x) total bytes = Ok (x, bytes)
run (Reads field width accepts next) total bytes = field_at total field width accepts bytes >>= λ x. run (next x.0) total x.1
run (Takes width next) total bytes = text_at total width bytes >>= λ x. run (next x.0) total x.1

-- which values the fields of the header may have

abbrev pub is_thread_count : ℕ → Bool
is_thread_count n = nat_le 1 n && nat_le n THREAD_LIMIT

-- of the first so many callbacks each that is registered is one that is called always
unfoldable pub always_below : ℕ → ℕ → Bool
always_below mask zero = true
always_below mask (suc n) = always_below mask n && (not (is_registered mask n) || answer_of n == ALWAYS)

unfoldable pub is_mask : ℕ → Bool
is_mask mask = always_below mask 64

abbrev pub is_step_count : ℕ → Bool
is_step_count n = nat_le 1 n && nat_le n STEP_LIMIT

abbrev pub is_text_length : ℕ → Bool
is_text_length n = nat_le n TEXT_LIMIT

-- the header, but for the text
unfoldable pub header_shape : Shape Header
header_shape =
    Reads Magic 4 (λ n. n == MAGIC)
    (λ _. Reads Version 2 (λ n. n == VERSION)
    (λ _. Reads Threads 1 is_thread_count
    (λ threads. Reads Mask 8 is_mask
    (λ mask. Reads Steps 4 is_step_count
    (λ steps. Reads Length 4 is_text_length
    (λ len. Done (record { threads = threads; mask = mask; steps = steps; text_len = len })))))))

-- which values the fields of an entry may have

-- the kind is 0 at the end, and while so many more entries may come that of an entry
abbrev pub is_kind : ℕ → ℕ → Bool
is_kind zero kind = kind == 0
is_kind (suc more) kind = nat_le kind 3

abbrev pub is_thread : ℕ → ℕ → Bool
is_thread threads n = nat_lt n threads

abbrev pub is_target_kind : ℕ → Bool
is_target_kind n = nat_le 1 n && nat_le n 3

-- the identity of a thread is its number and one
abbrev pub is_identity : ℕ → ℕ → ℕ → Bool
is_identity threads kind n = nat_le 1 n && (not (kind == 1) || nat_le n threads)

abbrev pub target_in : ℕ → ℕ → Target
target_in kind n = if kind == 1 then target.Thread (n - 1) else if kind == 2 then target.Parallel n else target.Task n

abbrev pub made_entry : ℕ → What → Entry
made_entry thread what = record { thread = thread; what = what }

-- a store, behind its thread
unfoldable pub store_shape : ℕ → ℕ → Shape Entry
store_shape threads thread =
    Reads TargetKind 1 is_target_kind
    (λ kind. Reads Identity 4 (is_identity threads kind)
    (λ n. Reads Word 8 (λ _. true)
    (λ word. Done (made_entry thread (Put (target_in kind n) word)))))

-- an entry, behind its kind
unfoldable pub entry_shape : ℕ → ℕ → Shape Entry
entry_shape threads kind =
    Reads Thread 1 (is_thread threads)
    (λ thread.
    if kind == 2 then store_shape threads thread
    else if kind == 1 then Done (made_entry thread Go) else Done (made_entry thread Back))

-- behind a kind: nothing more behind that of the end, else the entry and those that come later
abbrev pub entries_from : ℕ → Shape (List Entry) → ℕ → Shape (List Entry)
entries_from threads later kind =
    if kind == 0 then Done []
    else and_then (entry_shape threads kind) (λ entry. and_then later (λ entries. Done (entry ∷ entries)))

-- the entries, of which so many may come, and the kind of the end behind them
unfoldable pub entries_shape : ℕ → ℕ → Shape (List Entry)
entries_shape threads zero = Reads Kind 1 (is_kind zero) (λ _. Done [])
entries_shape threads (suc more) = Reads Kind 1 (is_kind (suc more)) (entries_from threads (entries_shape threads more))

-- the end behind its kind, of a file with so many entries

abbrev pub is_status : ℕ → Bool
is_status n = is_among (0 ∷ 1 ∷ 4 ∷ 5 ∷ 6 ∷ []) n

unfoldable pub end_shape : ℕ → Shape End
end_shape count =
    Reads Status 1 is_status
    (λ status. Reads Detail 4 (accepts_detail status)
    (λ detail. Reads Count 4 (λ n. n == count)
    (λ _. Done (record { status = status; detail = detail }))))

abbrev pub made_file : Header → List ℕ → List Entry → End → HistoryFile
made_file header text entries end = record {
  threads = header.threads;
  mask = header.mask;
  steps = header.steps;
  text = text;
  history = entries;
  status = end.status;
  detail = end.detail;
}

unfoldable pub file_shape : Shape HistoryFile
file_shape =
    and_then header_shape
    (λ header. Takes header.text_len
    (λ text. and_then (entries_shape header.threads ENTRY_LIMIT)
    (λ entries. and_then (end_shape (length entries)) (λ end. Done (made_file header text entries end)))))

-- the same, part by part
unfoldable pub file_at : ℕ → List ℕ → Result (HistoryFile × List ℕ) Refusal
file_at total bytes =
    run header_shape total bytes >>= λ h.
    (text_at total h.0.text_len h.1 >>= λ t.
    (run (entries_shape h.0.threads ENTRY_LIMIT) total t.1 >>= λ es.
    (run (end_shape (length es.0)) total es.1 >>= λ e. Ok (made_file h.0 t.0 es.0 e.0, e.1))))

-- the one file that the bytes are, all of them
unfoldable pub all_of : List ℕ → Result HistoryFile Refusal
all_of bytes =
    if nat_lt HISTORY_LIMIT (length bytes) then Err (record { reason = reason.TooLong; offset = HISTORY_LIMIT })
    else (file_at (length bytes) bytes >>= λ x. (passed (length x.1 == 0) reason.AfterEnd (length bytes - length x.1) >>= λ _. Ok x.0))
