-- Where bytes are refused, and why. A field is refused at its first byte where no file begins with the fields up to it; that is said of all files, and
-- not of how bytes are read.
use Rattle.std.specs.Prelude.{ℕ, ◌≡◌, ◌<◌, ◌≤◌, ◌⊎◌, List, [], ◌∷◌, ◌++◌, length}
use Rattle.history_file.specs.declared.file.HistoryFile.{HistoryFile}
use Rattle.history_file.specs.declared.file.TheConstants.{HISTORY_LIMIT}
use Rattle.history_file.specs.declared.reason.HistoryReason.{HistoryReason}
use Rattle.history_file.specs.declared.reason.HistoryReason.TheVariants.{BadMagic, BadVersion, BadHeader, UnknownEntry, BadEntry, AfterEnd, Truncated, BadCount, TooLong}
use Rattle.history_file.specs.Fields.{Field, Spelt, fields_of, spelling}
use Rattle.history_file.specs.Fields.Field.{Magic, Version, Threads, Mask, Steps, Length, Text, Kind, Thread, TargetKind, Identity, Word, Status, Detail, Count}
use Rattle.history_file.specs.Validity.{IsHistoryFile, WritesHistory}

abbrev pub number_of_reason : HistoryReason → ℕ
number_of_reason BadMagic = 1
number_of_reason BadVersion = 2
number_of_reason BadHeader = 3
number_of_reason UnknownEntry = 4
number_of_reason BadEntry = 5
number_of_reason AfterEnd = 6
number_of_reason Truncated = 7
number_of_reason BadCount = 8
number_of_reason TooLong = 9

-- what is wrong with a field that may not stand
abbrev pub reason_of : Field → HistoryReason
reason_of Magic = BadMagic
reason_of Version = BadVersion
reason_of Threads = BadHeader
reason_of Mask = BadHeader
reason_of Steps = BadHeader
reason_of Length = BadHeader
reason_of Text = BadHeader
reason_of Kind = UnknownEntry
reason_of Thread = BadEntry
reason_of TargetKind = BadEntry
reason_of Identity = BadEntry
reason_of Word = BadEntry
reason_of Status = BadEntry
reason_of Detail = BadEntry
reason_of Count = BadCount

-- a file begins with these fields
pub record Begins (fields : List Spelt) : Type 0 where
  pub file : HistoryFile
  pub is_file : IsHistoryFile file
  pub rest : List Spelt
  pub whole : fields_of file ≡ fields ++ rest

-- this field comes next behind these, with so many bytes
pub record ComesNext (before : List Spelt) (field : Field) (width : ℕ) : Type 0 where
  pub bytes : List ℕ
  pub begins : Begins (before ++ record { field = field; bytes = bytes } ∷ [])
  pub width_is : length bytes ≡ width

-- the first field that may not stand behind those before it
pub record IsRefusedField (bytes : List ℕ) (reason : HistoryReason) (offset : ℕ) : Type 0 where
  pub before : List Spelt
  pub refused : Spelt
  pub rest : List ℕ
  pub bytes_are : bytes ≡ spelling before ++ (refused.bytes ++ rest)
  pub comes : ComesNext before refused.field (length refused.bytes)
  pub none : Begins (before ++ refused ∷ []) → ⊥
  pub reason_is : reason ≡ reason_of refused.field
  pub offset_is : offset ≡ length (spelling before)

-- a byte stands behind a whole file
pub record IsAfterEnd (bytes : List ℕ) (reason : HistoryReason) (offset : ℕ) : Type 0 where
  pub file : HistoryFile
  pub written : List ℕ
  pub writes : WritesHistory file written
  pub byte : ℕ
  pub rest : List ℕ
  pub bytes_are : bytes ≡ written ++ byte ∷ rest
  pub reason_is : reason ≡ AfterEnd
  pub offset_is : offset ≡ length written

-- bytes that are no file, and that have no other refusal, end too early
pub record IsCut (bytes : List ℕ) (reason : HistoryReason) (offset : ℕ) : Type 0 where
  pub no_field : (other : HistoryReason) (place : ℕ) → IsRefusedField bytes other place → ⊥
  pub no_end : (other : HistoryReason) (place : ℕ) → IsAfterEnd bytes other place → ⊥
  pub no_file : (file : HistoryFile) → WritesHistory file bytes → ⊥
  pub reason_is : reason ≡ Truncated
  pub offset_is : offset ≡ length bytes

-- more bytes than the longest file has are refused before all else
pub record IsTooLong (bytes : List ℕ) (reason : HistoryReason) (offset : ℕ) : Type 0 where
  pub long : HISTORY_LIMIT < length bytes
  pub reason_is : reason ≡ TooLong
  pub offset_is : offset ≡ HISTORY_LIMIT

pub record IsWrong (bytes : List ℕ) (reason : HistoryReason) (offset : ℕ) : Type 0 where
  pub short : length bytes ≤ HISTORY_LIMIT
  pub wrong : IsRefusedField bytes reason offset ⊎ (IsAfterEnd bytes reason offset ⊎ IsCut bytes reason offset)

-- the bytes are refused so
abbrev pub IsHistoryRefused : List ℕ → HistoryReason → ℕ → Type 0
IsHistoryRefused bytes reason offset = IsTooLong bytes reason offset ⊎ IsWrong bytes reason offset
