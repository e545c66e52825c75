-- The fields of a history file in order, and the bytes that spell them. Each number is spelled with its highest byte first.
use Rattle.std.specs.Prelude.{ℕ, ◌+◌, List, [], ◌∷◌, ◌++◌, codes, length}
use Rattle.std.specs.List.{flat_map}
use Rattle.byteorder.specs.Endian.{big_bytes}
use Rattle.ompt_calls.specs.declared.snapshot.Target.{Target}
use Rattle.ompt_calls.specs.declared.snapshot.Target.TheVariants as target
use Rattle.omp_model.specs.declared.history.Entry.{Entry}
use Rattle.omp_model.specs.declared.history.What.{What}
use Rattle.omp_model.specs.declared.history.What.TheVariants.{Back, Go, Put}
use Rattle.history_file.specs.declared.file.HistoryFile.{HistoryFile}
use Rattle.history_file.specs.declared.file.TheConstants.{VERSION}

pub data Field : Type 0 where
  -- of the header
  Magic : Field
  Version : Field
  Threads : Field
  Mask : Field
  Steps : Field
  Length : Field
  Text : Field
  -- of an entry, the first also of the end
  Kind : Field
  Thread : Field
  TargetKind : Field
  Identity : Field
  Word : Field
  -- of the end
  Status : Field
  Detail : Field
  Count : Field

-- a field with the bytes that spell it
pub record Spelt : Type 0 where
  pub field : Field
  pub bytes : List ℕ

-- a field that is a number of so many bytes
abbrev pub number : Field → ℕ → ℕ → Spelt
number field width n = record { field = field; bytes = big_bytes width n }

-- the four bytes with which a file begins
abbrev pub magic : List ℕ
magic = codes "OMHF"

-- what stands before the text, and the text, which is one field
abbrev pub head_fields : HistoryFile → List Spelt
head_fields file =
    record { field = Magic; bytes = magic }
    ∷ number Version 2 VERSION
    ∷ number Threads 1 file.threads
    ∷ number Mask 8 file.mask
    ∷ number Steps 4 file.steps
    ∷ number Length 4 (length file.text)
    ∷ []

abbrev pub header_fields : HistoryFile → List Spelt
header_fields file = head_fields file ++ record { field = Text; bytes = file.text } ∷ []

-- the word of a thread has the thread's identity, which is its number and one
abbrev pub target_fields : Target → List Spelt
target_fields (target.Thread thread) = number TargetKind 1 1 ∷ number Identity 4 (thread + 1) ∷ []
target_fields (target.Parallel region) = number TargetKind 1 2 ∷ number Identity 4 region ∷ []
target_fields (target.Task task) = number TargetKind 1 3 ∷ number Identity 4 task ∷ []

-- one entry: a turn, a store or a return of this thread
abbrev pub what_fields : ℕ → What → List Spelt
what_fields thread Go = number Kind 1 1 ∷ number Thread 1 thread ∷ []
what_fields thread (Put place word) = number Kind 1 2 ∷ number Thread 1 thread ∷ (target_fields place ++ number Word 8 word ∷ [])
what_fields thread Back = number Kind 1 3 ∷ number Thread 1 thread ∷ []

abbrev pub entry_fields : Entry → List Spelt
entry_fields entry = what_fields entry.thread entry.what

abbrev pub end_fields : HistoryFile → List Spelt
end_fields file = number Kind 1 0 ∷ number Status 1 file.status ∷ number Detail 4 file.detail ∷ number Count 4 (length file.history) ∷ []

-- the fields of a file: those of its header, of its entries and of its end
abbrev pub fields_of : HistoryFile → List Spelt
fields_of file = header_fields file ++ flat_map entry_fields file.history ++ end_fields file

-- the bytes of fields, one after the other
abbrev pub spelling : List Spelt → List ℕ
spelling fields = flat_map (λ (spelt : Spelt). spelt.bytes) fields
